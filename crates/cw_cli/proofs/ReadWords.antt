-- Arguments that are read one at a time are words of 64 bits.
use Rattle.std.proofs.Common.{◌≡◌, ℕ, zero, suc, ◌<◌, ◌≤◌, ℤ, pos, List, [], ◌∷◌, length, true, ◌&&◌, slice_index_or, refl, ap, ◌∙◌, arith}
use Rattle.std.specs.Prelude.{take}
use Rattle.std.specs.List.{list_all}
use Rattle.cw_facts.specs.Tests.{first_true, second_true}
use Rattle.cw_model.specs.Ints.{fits}

-- one more word
pub words_more : (xs : List ℤ) (n : ℕ) → n < length xs → list_all fits (take n xs) ≡ true → fits (slice_index_or xs n (pos 0)) ≡ true → list_all fits (take (suc n) xs) ≡ true
words_more [] n h words word = absurd (omega (arith, h))
words_more (x ∷ xs) zero h words word = ap (λ b. b && true) word
words_more (x ∷ xs) (suc n) h words word =
    ap (λ b. b && list_all fits (take (suc n) xs)) (first_true (fits x) (list_all fits (take n xs)) words)
    ∙ words_more xs n (omega (arith, h)) (second_true (fits x) (list_all fits (take n xs)) words) word

-- all words
pub words_all : (xs : List ℤ) (n : ℕ) → length xs ≤ n → list_all fits (take n xs) ≡ true → list_all fits xs ≡ true
words_all [] n h words = refl
words_all (x ∷ xs) zero h words = absurd (omega (arith, h))
words_all (x ∷ xs) (suc n) h words =
    ap (λ b. b && list_all fits xs) (first_true (fits x) (list_all fits (take n xs)) words)
    ∙ words_all xs n (omega (arith, h)) (second_true (fits x) (list_all fits (take n xs)) words)
