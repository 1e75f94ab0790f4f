use Rattle.cw_facts.proofs.Reaching.{IsReached}
use Rattle.cw_facts.proofs.pages.reach.Given as goal

abbrev pub invariant-loop-count : goal.invariant-loop-count
invariant-loop-count g l = IsReached l.fn.lists l.lists l._count
