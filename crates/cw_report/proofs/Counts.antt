-- The value of digits is monotone in each digit.
use Rattle.std.proofs.Common.{◌≡◌, ap, sym, cond, ℕ, zero, suc, ◌+◌, ◌-◌, ◌*◌, ◌<◌, ◌≤◌, List, [], ◌∷◌, length, get_or, take, arith}
use Rattle.std.specs.Prelude.{fold}
use Rattle.std.proofs.lemmas.List.Sums.{fold_more}
use Rattle.cw_facts.specs.Tests.{not_at_most}
use Rattle.cw_model.specs.declared.limits.TheConstants.{MOST_LIMIT}
use Rattle.cw_model.specs.Pieces.{decimal_value}
use Rattle.cw_report.specs.Aligned.{count}

abbrev more : ℕ → ℕ → ℕ
more n b = 10 * n + (b - 48)

grows : (n : ℕ) (bs : List ℕ) → n ≤ fold more n bs
grows n [] = omega arith
grows n (b ∷ bs) = omega (arith, grows (more n b) bs)

grows_on : (n i : ℕ) (bs : List ℕ) → fold more n (take i bs) ≤ fold more n bs
grows_on n zero bs = grows n bs
grows_on n (suc i) [] = omega arith
grows_on n (suc i) (b ∷ bs) = grows_on (more n b) i bs

-- the first digits represent at most what all digits do
pub first_digits : (i : ℕ) (bs : List ℕ) → decimal_value (take i bs) ≤ decimal_value bs
first_digits i bs = grows_on 0 i bs

pub one_more_digit : (bs : List ℕ) (i : ℕ) → i < length bs → decimal_value (take (i + 1) bs) ≡ 10 * decimal_value (take i bs) + (get_or bs i 0 - 48)
one_more_digit bs i h = fold_more more 0 bs i 0 h

-- more than a run can count
pub uncounted : (bs : List ℕ) → MOST_LIMIT < decimal_value bs → 0 ≡ count bs
uncounted bs h = ap (λ b. cond b (decimal_value bs) 0) (sym (not_at_most (decimal_value bs) MOST_LIMIT h))
