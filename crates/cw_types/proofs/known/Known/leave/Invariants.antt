use Rattle.std.proofs.Common.{◌≡◌, ◌≤◌, length}
use Rattle.cw_types.specs.Scope.{oldest}
use Rattle.cw_types.proofs.known.Known.leave.Given as goal

abbrev pub invariant-loop-self : goal.invariant-loop-self
invariant-loop-self l = record { enough : l.len ≤ length l.self; same : oldest l.len l.self ≡ oldest l.len l.fn.self }

abbrev pub decreases-loop-self : goal.decreases-loop-self
decreases-loop-self l = length l.self
