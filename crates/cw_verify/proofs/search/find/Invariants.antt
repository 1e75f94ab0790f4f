use Rattle.cw_code.specs.Code.{code_view}
use Rattle.cw_verify.specs.Numbers.{IsKnown}
use Rattle.cw_verify.specs.Table.{unreached, so_far, Searches}
use Rattle.cw_verify.proofs.search.find.Given as goal

abbrev pub invariant-loop-e : goal.invariant-loop-e
invariant-loop-e l = record {
  search : Searches (code_view l.code) l.f l.search;
  known : IsKnown l.search;
}

abbrev pub decreases-loop-e : goal.decreases-loop-e
decreases-loop-e l = unreached (so_far l.search)
