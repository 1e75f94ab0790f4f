-- What passed a test against a limit is not above it.
use Rattle.std.specs.Prelude.{◌≡◌, ℕ, nat_lt, min, Bool, true, false, refl}
use Rattle.std.proofs.Common.{arith}
use Rattle.std.proofs.lemmas.Bool.Decides.{nat_tests}
use Rattle.cw_part.specs.Parts.{Readings, Came, over_if, is_above, within}

pub lesser_limited : (most m n : ℕ) → nat_lt most m ≡ false → nat_lt most (min m n) ≡ false
lesser_limited most m n h = grind (arith, nat_tests)

pub is_tested : {M : Type 0} (R : Readings M) (n : ℕ) (x : Came M) → is_above R n (within R n x) ≡ false
is_tested R n x = by_test (is_above R n x) refl
  where
    by_test : (b : Bool) → is_above R n x ≡ b → is_above R n (over_if b x) ≡ false
    by_test true e = refl
    by_test false e = e

pub tested_stays : {M : Type 0} (R : Readings M) (n : ℕ) (x : Came M) → is_above R n x ≡ false → within R n x ≡ x
tested_stays R n x h = rw h refl
