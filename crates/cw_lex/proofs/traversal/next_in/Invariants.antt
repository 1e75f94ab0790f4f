use Rattle.std.proofs.Common.{length, ◌-◌}
use Rattle.cw_lex.proofs.Reached.{IsAcross}
use Rattle.cw_lex.proofs.traversal.next_in.Given as goal

abbrev pub invariant-loop-at : goal.invariant-loop-at
invariant-loop-at l = IsAcross l.text l.from l.at l.line

abbrev pub decreases-loop-at : goal.decreases-loop-at
decreases-loop-at l = length l.text - l.at
