-- Work lists, in any order.
use Rattle.std.proofs.Common.{◌≡◌, ◌⊎◌, inl, inr, ℕ, zero, suc, Some, List, ◌∷◌, refl, sym, ap, ◌∙◌, arith}
use Rattle.std.specs.List.{Contains}
use Rattle.std.specs.List.Sorted.{IsPermutation}
use Rattle.std.proofs.lemmas.List.Sorted.{Contains-permutation, IsPermutation-sym, length_permutation}
use Rattle.std.proofs.lemmas.Option.{slice_get_within, slice_get-get_or, get_or_from_slice_get}
use Rattle.cw_verify.specs.Table.{IsIn, IsAddedToWork}

is_in_of : (xs : List ℕ) (x : ℕ) → Contains xs x → IsIn x xs
is_in_of xs x h = (h.0, slice_get-get_or xs h.0 x h.1 ∙ ap Some h.2)

of_is_in : (xs : List ℕ) (x : ℕ) → IsIn x xs → Contains xs x
of_is_in xs x h = (h.0, slice_get_within xs h.0 x h.1, get_or_from_slice_get xs h.0 x x h.1)

-- permuted lists have the same elements
moved : (xs ys : List ℕ) (x : ℕ) → IsPermutation xs ys → IsIn x xs → IsIn x ys
moved xs ys x p h = is_in_of ys x (Contains-permutation xs ys x p (of_is_in xs x h))

-- a permutation of a longer list adds one number
pub noted : (k : ℕ) (xs ys : List ℕ) → IsPermutation (k ∷ xs) ys → IsAddedToWork k xs ys
noted k xs ys p = record {
  kept = λ j h. moved (k ∷ xs) ys j p (suc h.0, h.1);
  here = moved (k ∷ xs) ys k p (0, refl);
  from = λ j h. split j (moved ys (k ∷ xs) j (IsPermutation-sym (k ∷ xs) ys p) h);
  longer = omega (arith, length_permutation (k ∷ xs) ys p);
}
  where
    split : (j : ℕ) → IsIn j (k ∷ xs) → IsIn j xs ⊎ (j ≡ k)
    split j (zero, e) = let same : k ≡ j = cc in inr (sym same)
    split j (suc i, e) = inl (i, e)
