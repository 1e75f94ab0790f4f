-- The recorded iterations of `while` loops in the code.
use Rattle.std.specs.Prelude.{◌≡◌, true, List, ◌++◌, map}
use Rattle.cw_own.specs.declared.gains.Gains as code
use Rattle.cw_own.specs.Taken.{Restrictions, restrictions_of}

-- these rows were appended, if memory sufficed for all
abbrev pub Grown : code.Gains → code.Gains → List Restrictions → Type 0
Grown before after rows =
    after.complete ≡ true
    → (before.complete ≡ true) × (map restrictions_of after.rows.items ≡ map restrictions_of before.rows.items ++ rows)
