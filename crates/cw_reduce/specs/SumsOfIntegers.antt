-- The integers that sums hold.
use Rattle.std.specs.Prelude.{◌≡◌, ℤ}
use Rattle.std.specs.Int.{cast_signed, int_wrap, w128}
use Rattle.std.specs.Int.RustNames.{FitsSigned}
use lib.IntN.{◌+ℤ◌}
use Rattle.cw_reduce.specs.Words.{plus, word_of}

-- the sum of two integers is their integer sum modulo 2^128; an integer that fits is read unchanged
pub record SumsHoldIntegers : Type 0 where
  pub adds : (a b : ℤ) → FitsSigned w128 a → FitsSigned w128 b →
      plus (word_of a) (word_of b) ≡ word_of (int_wrap w128 (a +ℤ b))
  pub reads : (a : ℤ) → FitsSigned w128 a → cast_signed w128 (word_of a).bits ≡ a
