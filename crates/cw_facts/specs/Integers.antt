-- Natural numbers and integers.
use Rattle.std.proofs.Common.{◌≡◌, ℕ, ◌+◌, ◌*◌, ℤ, pos, negsuc, FitsSigned, w16, w32, w64, of_z, to_z, ap, ◌∙◌, add-one, arith}
use Rattle.std.specs.Int.{int_max}
use Rattle.std.proofs.lemmas.Int.{clamps, ints, to_z-of_z}
use Rattle.std.proofs.Math.Nat.{suc-mul}

pub one_more_time : (count times : ℕ) → (count + 1) * times ≡ count * times + times
one_more_time count times = ap (λ (x : ℕ). x * times) (add-one count) ∙ suc-mul count times

pub max_regroup : (v w u : ℤ) → int_max (int_max v w) u ≡ int_max v (int_max w u)
max_regroup v w u = omega (arith, ints, clamps)

-- an integer in the range of 32 or 16 bits is in the range of 64 bits, and conversion does not change it
wide : (z : ℤ) → FitsSigned w32 z → FitsSigned w64 z
wide (pos n) h = omega (arith, h)
wide (negsuc n) h = omega (arith, h)

long : (z : ℤ) → FitsSigned w16 z → FitsSigned w64 z
long (pos n) h = omega (arith, h)
long (negsuc n) h = omega (arith, h)

pub widened : (z : ℤ) → FitsSigned w32 z → to_z w64 (of_z w64 (to_z w32 (of_z w32 z))) ≡ z
widened z h = ap (λ (y : ℤ). to_z w64 (of_z w64 y)) (to_z-of_z w32 z h) ∙ to_z-of_z w64 z (wide z h)

pub lengthened : (z : ℤ) → FitsSigned w16 z → to_z w64 (of_z w64 (to_z w16 (of_z w16 z))) ≡ z
lengthened z h = ap (λ (y : ℤ). to_z w64 (of_z w64 y)) (to_z-of_z w16 z h) ∙ to_z-of_z w64 z (long z h)
