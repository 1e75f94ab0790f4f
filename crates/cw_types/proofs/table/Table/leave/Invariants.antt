use Rattle.std.proofs.Common.{◌≡◌, ◌≤◌, length, take}
use Rattle.cw_types.proofs.table.Table.leave.Given as goal

abbrev pub invariant-loop-self : goal.invariant-loop-self
invariant-loop-self l = record { enough : l.len ≤ length l.self; same : take l.len l.self ≡ take l.len l.fn.self }

abbrev pub decreases-loop-self : goal.decreases-loop-self
decreases-loop-self l = length l.self
