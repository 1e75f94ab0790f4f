-- A reducer that is used with a reduction is among the reducers.
use Rattle.std.proofs.Common.{◌≡◌, Bool, true, false, if◌then◌else◌, List, [], ◌∷◌, Some, refl}
use Rattle.cw_model.specs.declared.syntax.Reduction.{Reduction}
use Rattle.cw_model.specs.Syntax.{Name, Reducer}
use Rattle.cw_model.specs.Names.{same_name, is_among}
use Rattle.cw_model.specs.Typing.{reducer_called, reduces_so}
use Rattle.cw_tree.specs.Resolved.{reducer_names}

-- if the reducer with this name has this reduction, the name is the name of a reducer
pub is_named : (how : Reduction) (s : Name) (rs : List Reducer) → reduces_so how (reducer_called s rs) ≡ true
    → is_among s (reducer_names rs) ≡ true
is_named how s [] h = h
is_named how s (r ∷ rs) h = first (same_name s r.name) h (λ g. is_named how s rs g)
  where
    first : (b : Bool) → reduces_so how (if b then Some r else reducer_called s rs) ≡ true →
        (reduces_so how (reducer_called s rs) ≡ true → is_among s (reducer_names rs) ≡ true) →
        (if b then true else is_among s (reducer_names rs)) ≡ true
    first true h' more = refl
    first false h' more = more h'
