-- The rows so far, by their numbers.
use Rattle.std.proofs.Common.{◌≡◌, take}
use Rattle.std.specs.List.{enumerate_from}
use Rattle.cw_machine.proofs.alone.by_number.Given as goal

abbrev pub invariant-loop-number : goal.invariant-loop-number
invariant-loop-number l = l.sites.entries ≡ enumerate_from 0 (take l.number l.rows)
