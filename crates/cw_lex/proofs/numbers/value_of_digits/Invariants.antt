use Rattle.std.proofs.Common.{◌≡◌, ◌≤◌, take}
use Rattle.cw_model.specs.declared.limits.TheConstants.{MOST_NUMBER}
use Rattle.cw_model.specs.Pieces.{decimal_value}
use Rattle.cw_lex.proofs.numbers.value_of_digits.Given as goal

abbrev pub invariant-loop-digit : goal.invariant-loop-digit
invariant-loop-digit l = (l.value ≡ decimal_value (take l.digit-index l.digits)) × (l.value ≤ MOST_NUMBER)
