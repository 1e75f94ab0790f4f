-- Words form a monoid.
use Rattle.std.specs.Prelude.{◌≡◌, ℕ, ◌+◌, ◌^◌, ◌%◌, nat_lt, true}
use Rattle.std.proofs.Common.{sym, ◌∙◌, ap, subst, arith}
use Rattle.std.proofs.Math.Nat.{add-mod-mod, mod-eq_of_lt}
use Rattle.std.proofs.Math.Bool.{Bool-set}
use Rattle.cw_facts.specs.Tests.{lt_of}
use Rattle.cw_reduce.specs.Words.{Word, word, nothing, plus}

abbrev word_with : (n : ℕ) → nat_lt n (2 ^ 128) ≡ true → Word
word_with n p = record { bits = n; within = p }

same_bits : (m n : ℕ) → m ≡ n → (p : nat_lt m (2 ^ 128) ≡ true) (q : nat_lt n (2 ^ 128) ≡ true) →
    word_with m p ≡ word_with n q
same_bits m n e p q =
    let P : ℕ → Type 0 = λ k. (r : nat_lt k (2 ^ 128) ≡ true) → word_with m p ≡ word_with k r in
    (subst P e (λ r. ap (word_with m) (Bool-set (nat_lt m (2 ^ 128)) true p r))) q

pub same_word : (a b : Word) → a.bits ≡ b.bits → a ≡ b
same_word a b e = same_bits a.bits b.bits e a.within b.within

word_is : (a : Word) → word a.bits ≡ a
word_is a = same_word (word a.bits) a (mod-eq_of_lt (lt_of a.bits (2 ^ 128) a.within))

pub plus-first : (a : Word) → plus nothing a ≡ a
plus-first a = let z : 0 % 2 ^ 128 + a.bits ≡ a.bits = omega arith in ap word z ∙ word_is a

pub plus-last : (a : Word) → plus a nothing ≡ a
plus-last a = let z : a.bits + 0 % 2 ^ 128 ≡ a.bits = omega arith in ap word z ∙ word_is a

pub word-plus : (m n : ℕ) → plus (word m) (word n) ≡ word (m + n)
word-plus m n =
    same_word (plus (word m) (word n)) (word (m + n))
    (add-mod-mod (m % 2 ^ 128) n (2 ^ 128)
    ∙ ap (λ (x : ℕ). x % 2 ^ 128) (commute (m % 2 ^ 128) n)
    ∙ add-mod-mod n m (2 ^ 128)
    ∙ ap (λ (x : ℕ). x % 2 ^ 128) (commute n m))
  where
    commute : (a b : ℕ) → a + b ≡ b + a
    commute a b = omega arith

pub plus-assoc : (a b c : Word) → plus (plus a b) c ≡ plus a (plus b c)
plus-assoc a b c =
    let e : (a.bits + b.bits) + c.bits ≡ a.bits + (b.bits + c.bits) = omega arith in
    ap (plus (plus a b)) (sym (word_is c)) ∙ word-plus (a.bits + b.bits) c.bits ∙ ap word e
    ∙ sym (word-plus a.bits (b.bits + c.bits)) ∙ ap (λ (x : Word). plus x (plus b c)) (word_is a)
