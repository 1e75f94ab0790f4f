-- The value of digits is monotone in each digit.
use Rattle.std.proofs.Common.{◌≡◌, ℕ, zero, suc, ◌+◌, ◌-◌, ◌*◌, ◌<◌, ◌≤◌, List, [], ◌∷◌, length, get_or, take, arith}
use Rattle.std.specs.Prelude.{fold}
use Rattle.std.proofs.lemmas.List.Sums.{fold_more}
use Rattle.cw_model.specs.Pieces.{decimal_value}

abbrev more : ℕ → ℕ → ℕ
more n b = 10 * n + (b - 48)

grows : (n : ℕ) (bs : List ℕ) → n ≤ fold more n bs
grows n [] = omega arith
grows n (b ∷ bs) = omega (arith, grows (more n b) bs)

grows_on : (n i : ℕ) (bs : List ℕ) → fold more n (take i bs) ≤ fold more n bs
grows_on n zero bs = grows n bs
grows_on n (suc i) [] = omega arith
grows_on n (suc i) (b ∷ bs) = grows_on (more n b) i bs

pub value_of-take : (i : ℕ) (bs : List ℕ) → decimal_value (take i bs) ≤ decimal_value bs
value_of-take i bs = grows_on 0 i bs

pub value_of-more : (bs : List ℕ) (i : ℕ) → i < length bs → decimal_value (take (i + 1) bs) ≡ 10 * decimal_value (take i bs) + (get_or bs i 0 - 48)
value_of-more bs i h = fold_more more 0 bs i 0 h
