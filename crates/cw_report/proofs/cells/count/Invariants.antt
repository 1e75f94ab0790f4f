-- The value of the digits so far, which a run can count.
use Rattle.std.proofs.Common.{◌≡◌, ◌≤◌, take}
use Rattle.cw_model.specs.declared.limits.TheConstants.{MOST_LIMIT}
use Rattle.cw_model.specs.Pieces.{decimal_value}
use Rattle.cw_report.proofs.cells.count.Given as goal

abbrev pub invariant-loop-digit : goal.invariant-loop-digit
invariant-loop-digit l = (l.value ≡ decimal_value (take l.digit-index l.digits)) × (l.value ≤ MOST_LIMIT)
