-- Maxima form a commutative monoid.
use Rattle.std.specs.Prelude.{◌≡◌, ℤ, Option, Some, None, refl}
use Rattle.std.proofs.Common.{ap, arith}
use Rattle.std.specs.Int.{int_max}
use Rattle.std.proofs.lemmas.Int.{ints, clamps}
use Rattle.cw_facts.specs.Integers.{max_regroup}
use Rattle.cw_reduce.specs.Maximum.{greater}

max_turned : (v w : ℤ) → int_max v w ≡ int_max w v
max_turned v w = omega (arith, ints, clamps)

pub greater-first : (a : Option ℤ) → greater None a ≡ a
greater-first a = refl

pub greater-last : (a : Option ℤ) → greater a None ≡ a
greater-last None = refl
greater-last (Some v) = refl

pub greater-assoc : (a b c : Option ℤ) → greater (greater a b) c ≡ greater a (greater b c)
greater-assoc None b c = refl
greater-assoc (Some v) None c = refl
greater-assoc (Some v) (Some w) None = refl
greater-assoc (Some v) (Some w) (Some u) = ap (λ (z : ℤ). Some z) (max_regroup v w u)

pub greater-comm : (a b : Option ℤ) → greater a b ≡ greater b a
greater-comm None None = refl
greater-comm None (Some w) = refl
greater-comm (Some v) None = refl
greater-comm (Some v) (Some w) = ap (λ (z : ℤ). Some z) (max_turned v w)
