-- Sums hold integers.
use Rattle.std.specs.Prelude.{◌≡◌, ℤ, ◌+◌, ◌^◌, ◌%◌, ◌<◌}
use Rattle.std.proofs.Common.{sym, ◌∙◌, ap, arith}
use Rattle.std.specs.Int.{cast_signed, cast_unsigned, int_wrap, int_wrapping_add, w128}
use Rattle.std.specs.Int.RustNames.{FitsSigned}
use lib.IntN.{◌+ℤ◌}
use Rattle.std.proofs.Math.Nat.{mod-lt, mod-eq_of_lt}
use Rattle.std.proofs.Math.Facts.{Fits-of_z, Fits-lt-pow}
use Rattle.std.proofs.lemmas.Int.{to_z-of_z, of_z-to_z, wrapping_add_onto}
use Rattle.cw_reduce.specs.Words.{word, word_of, plus}
use Rattle.cw_reduce.specs.WordLaws.{word-plus}
use Rattle.cw_reduce.specs.SumsOfIntegers.{SumsHoldIntegers}
use Rattle.cw_reduce.proofs.SumLaws.{word_rest}

bits_below : (a : ℤ) → FitsSigned w128 a → cast_unsigned w128 a < 2 ^ 128
bits_below a f = Fits-lt-pow (Fits-of_z f)

sum_read : (a b : ℤ) → FitsSigned w128 a → FitsSigned w128 b → (cast_unsigned w128 a + cast_unsigned w128 b) % 2 ^ 128 ≡ cast_unsigned w128 (int_wrap w128 (a +ℤ b))
sum_read a b f g =
    let n = cast_unsigned w128 a + cast_unsigned w128 b in
    sym (of_z-to_z w128 (n % 2 ^ 128) (mod-lt n (omega arith)))
    ∙ ap (cast_unsigned w128) (wrapping_add_onto w128 (cast_unsigned w128 a) b (bits_below a f) g
    ∙ ap (λ (z : ℤ). int_wrap w128 (z +ℤ b)) (to_z-of_z w128 a f))

pub sums_hold_integers : SumsHoldIntegers
sums_hold_integers = record {
  adds = λ a b f g.
      word-plus (cast_unsigned w128 a) (cast_unsigned w128 b)
      ∙ sym (word_rest (cast_unsigned w128 a + cast_unsigned w128 b))
      ∙ ap word (sum_read a b f g);
  reads = λ a f. ap (cast_signed w128) (mod-eq_of_lt (bits_below a f)) ∙ to_z-of_z w128 a f;
}

-- a sum that wraps around is the sum of words
pub wrapped_sum : (a b : ℤ) → word_of (int_wrapping_add w128 a b) ≡ plus (word_of a) (word_of b)
wrapped_sum a b =
    let n = cast_unsigned w128 a + cast_unsigned w128 b in
    ap word (of_z-to_z w128 (n % 2 ^ 128) (mod-lt n (omega arith))) ∙ word_rest n
    ∙ sym (word-plus (cast_unsigned w128 a) (cast_unsigned w128 b))
