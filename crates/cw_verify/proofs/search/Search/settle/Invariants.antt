use Rattle.std.proofs.Common.{◌≤◌}
use Rattle.cw_code.specs.Code.{code_view}
use Rattle.cw_verify.specs.Numbers.{IsKnown}
use Rattle.cw_verify.specs.Table.{unreached, left_to_do, so_far, work_of, Searches}
use Rattle.cw_verify.proofs.search.Search.settle.Given as goal

abbrev pub invariant-loop-k : goal.invariant-loop-k
invariant-loop-k l = record {
  search : Searches (code_view l.code) l.f l.self;
  known : IsKnown l.self;
  fewer : unreached (so_far l.self) ≤ unreached (so_far l.initial.self);
}

abbrev pub decreases-loop-k : goal.decreases-loop-k
decreases-loop-k l = left_to_do (so_far l.self) (work_of l.self)
