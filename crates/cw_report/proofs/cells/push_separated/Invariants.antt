-- The digits so far with their separators, and those that are left.
use Rattle.std.proofs.Common.{◌≡◌, ◌++◌, drop, length}
use Rattle.cw_report.specs.Aligned.{separated}
use Rattle.cw_report.proofs.cells.push_separated.Given as goal

abbrev pub invariant-loop-digit : goal.invariant-loop-digit
invariant-loop-digit l =
    (l.left ≡ length (drop l.digit-index l.digits))
    × (l.made.items ++ separated (drop l.digit-index l.digits) ≡ l.fn.made.items ++ separated l.digits)
