-- The limit that a program without code exceeds.
use Rattle.std.specs.Prelude.{◌≡◌, ◌<◌, ◌≤◌}
use Rattle.cw_model.specs.declared.limits.TheConstants.{MOST_CALL_STATEMENTS}
use Rattle.cw_model.specs.Sizes.{call_count}
use Rattle.cw_model.specs.Syntax.{Program}
use Rattle.cw_gen.specs.declared.excess.Excess.{Excess}
use Rattle.cw_gen.specs.declared.excess.Excess.TheVariants as excess

-- `CallStatements` has the number of call statements, above the limit; for `Instructions` it keeps the limit
abbrev pub IsExcess : Program → Excess → Type 0
IsExcess program (excess.CallStatements count) = (count ≡ call_count program) × (MOST_CALL_STATEMENTS < count)
IsExcess program excess.Instructions = call_count program ≤ MOST_CALL_STATEMENTS
