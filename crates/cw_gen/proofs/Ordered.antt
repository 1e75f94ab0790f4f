-- The parameters of a loop's function: integers precede arrays.
use Rattle.std.proofs.Common.{◌≡◌, true, List, [], ◌∷◌, ◌++◌, refl}
use Rattle.std.specs.List.{list_all}
use Rattle.cw_model.specs.Syntax.{is_array_param, Name, Param}
use Rattle.cw_loops.specs.Lowered.{int_params, array_params}
use Rattle.cw_gen.proofs.Fine.{ints_first}

-- the parameters of a loop's function are in this order
pub range_order : (ints over : List Name) → ints_first (int_params ints ++ array_params over) ≡ true
range_order (x ∷ ints) over = range_order ints over
range_order [] [] = refl
range_order [] (a ∷ over) = all over
  where
    all : (over : List Name) → list_all (λ (q : Param). (is_array_param q)) (array_params over) ≡ true
    all [] = refl
    all (b ∷ over) = all over
