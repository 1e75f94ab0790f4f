-- The bits of sums.
use Rattle.std.specs.Prelude.{◌≡◌, ℕ, ◌+◌, ◌^◌, ◌%◌}
use Rattle.std.proofs.Common.{sym, ◌∙◌, ap}
use Rattle.std.proofs.Math.Nat.{mod-mod}
use Rattle.cw_reduce.specs.Words.{Word, word, plus}
use Rattle.cw_reduce.specs.WordLaws.{same_word, word-plus}

pub word_rest : (n : ℕ) → word (n % 2 ^ 128) ≡ word n
word_rest n = same_word (word (n % 2 ^ 128)) (word n) (mod-mod n (2 ^ 128))

pub sum_of_bits : (a b : Word) (m n : ℕ) → a ≡ word m → b ≡ word n → word ((m + n) % 2 ^ 128) ≡ plus a b
sum_of_bits a b m n e f =
    word_rest (m + n) ∙ sym (word-plus m n) ∙ ap (λ (x : Word). plus x (word n)) (sym e) ∙ ap (plus a) (sym f)
