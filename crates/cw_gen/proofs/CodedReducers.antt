-- The code of a program has the reducers of its source, by name, and they compute the same totals.
use Rattle.std.proofs.Common.{◌≡◌, List, [], ◌∷◌, refl, ap, ℤ}
use Rattle.std.specs.Prelude.{map}
use Rattle.cw_model.specs.Syntax.{Name, Reducer}
use Rattle.cw_model.specs.Answers.{total_to}
use Rattle.cw_tree.specs.Resolved as source
use Rattle.cw_code.specs.Code.{reducer_names}
use Rattle.cw_gen.specs.Emit.{coded_reducers}

-- the names of the reducers
pub names_kept : (rs : List Reducer) → reducer_names (coded_reducers rs) ≡ source.reducer_names rs
names_kept [] = refl
names_kept (r ∷ rs) = ap (λ l. r.name ∷ l) (names_kept rs)

-- the total of a reducer does not depend on its line
pub same_totals : (rs : List Reducer) (updates : List (Name × ℤ)) →
    map (λ (r : Reducer). total_to r.how r.name updates) (map (λ r. record { name = r.name; how = r.how; line = 0 }) (coded_reducers rs)) ≡ map (λ (r : Reducer). total_to r.how r.name updates) rs
same_totals [] updates = refl
same_totals (r ∷ rs) updates = ap (λ l. total_to r.how r.name updates ∷ l) (same_totals rs updates)
