-- No token and no comment contains an LF.
use Rattle.std.proofs.Common.{◌≡◌, ℕ, ◌+◌, ◌<◌, ◌≤◌, Bool, true, false, cond, ◌&&◌, ◌||◌, List, [], ◌∷◌, length, get_or, take, drop, refl, sym, ap, ◌∙◌, arith, eqb, inl, inr}
use Rattle.std.specs.Prelude.{is_some, count_by}
use Rattle.std.specs.List.{list_all}
use Rattle.std.proofs.lemmas.Bool.{eqb-true, or_cases, false_from_ne_true, and_parts}
use Rattle.std.proofs.Math.Bool.{and-false}
use Rattle.std.proofs.lemmas.List.{length-take}
use Rattle.std.proofs.lemmas.List.Sums.{sum_by-append, count_by-le-length, count_by_more_no, count_by_more_yes}
use Rattle.std.proofs.Math.Seq.{take-add}
use Rattle.cw_model.specs.Text.{line_at}
use Rattle.cw_model.specs.Pieces.{is_digit, is_letter, is_word_byte, is_inner, one_byte, two_bytes, symbol, is_comment, is_word, is_empty, is_number, is_piece}

abbrev is_lf : ℕ → Bool
is_lf b = eqb b 10

-- a byte that passes a test that LF fails is not an LF
other : (p : ℕ → Bool) (b : ℕ) → p 10 ≡ false → p b ≡ true → is_lf b ≡ false
other p b h e = false_from_ne_true (is_lf b) (λ f. let same = eqb-true b 10 f in let clash : true ≡ false = sym e ∙ ap p same ∙ h in cc)

all_other : (p : ℕ → Bool) (bs : List ℕ) → p 10 ≡ false → list_all p bs ≡ true → count_by is_lf bs ≡ 0
all_other p [] h e = refl
all_other p (b ∷ bs) h e =
    let both = and_parts (p b) (list_all p bs) e in
    let rest = all_other p bs h both.1 in
    let first = other p b h both.0 in
    rw first rest

two_lf : (b : ℕ) → is_some (two_bytes b 10) ≡ false
two_lf b = simp and-false

one_of : (b : ℕ) (bs : List ℕ) → is_lf b ≡ false → count_by is_lf bs ≡ 0 → count_by is_lf (b ∷ bs) ≡ 0
one_of b bs f e = rw f e

word_lf : (bs : List ℕ) → is_word bs ≡ true → count_by is_lf bs ≡ 0
word_lf [] h = refl
word_lf (b ∷ bs) h = let both = and_parts (is_letter b) (list_all is_word_byte bs) h in one_of b bs (other is_letter b refl both.0) (all_other is_word_byte bs refl both.1)

number_rest : (t : Bool) (bs : List ℕ) → cond t (is_empty bs) (list_all is_digit bs) ≡ true → count_by is_lf bs ≡ 0
number_rest true [] h = refl
number_rest true (b ∷ bs) h = absurd cc
number_rest false bs h = all_other is_digit bs refl h

number_lf : (bs : List ℕ) → is_number bs ≡ true → count_by is_lf bs ≡ 0
number_lf [] h = refl
number_lf (b ∷ bs) h = let both = and_parts (is_digit b) _ h in one_of b bs (other is_digit b refl both.0) (number_rest (eqb b 48) bs both.1)

symbol_lf : (bs : List ℕ) → is_some (symbol bs) ≡ true → count_by is_lf bs ≡ 0
symbol_lf [] h = refl
symbol_lf (b ∷ []) h = one_of b [] (other (λ x. is_some (one_byte x)) b refl h) refl
symbol_lf (b ∷ c ∷ []) h =
    one_of b (c ∷ []) (other (λ x. is_some (two_bytes x c)) b refl h) (one_of c [] (other (λ x. is_some (two_bytes b x)) c (two_lf b) h) refl)
symbol_lf (b ∷ c ∷ d ∷ bs) h = absurd cc

comment_lf : (bs : List ℕ) → is_comment bs ≡ true → count_by is_lf bs ≡ 0
comment_lf [] h = refl
comment_lf (b ∷ []) h = absurd cc
comment_lf (b ∷ c ∷ bs) h =
    let both = and_parts (eqb b 47 && eqb c 47) (list_all is_inner bs) h in
    let slashes = and_parts (eqb b 47) (eqb c 47) both.0 in
    one_of b (c ∷ bs) (other (λ x. eqb x 47) b refl slashes.0) (one_of c bs (other (λ x. eqb x 47) c refl slashes.1) (all_other is_inner bs refl both.1))

piece_lf : (bs : List ℕ) → is_piece bs ≡ true → count_by is_lf bs ≡ 0
piece_lf bs h =
    elim (or_cases (is_word bs || is_number bs || is_some (symbol bs)) (is_comment bs) h) [
      | inr c ↦ comment_lf bs c
      | inl h' ↦ elim (or_cases (is_word bs || is_number bs) (is_some (symbol bs)) h') [
        | inr s ↦ symbol_lf bs s
        | inl h'' ↦ elim (or_cases (is_word bs) (is_number bs) h'') [ inl w ↦ word_lf bs w | inr n ↦ number_lf bs n ]
      ]
    ]

-- a piece does not change the line
pub line_past : (text : List ℕ) (at len : ℕ) → is_piece (take len (drop at text)) ≡ true → line_at text (at + len) ≡ line_at text at
line_past text at len h =
    let cut = take-add at len text in
    let sum = sum_by-append (λ b. cond (is_lf b) 1 0) (take at text) (take len (drop at text)) in
    let none = piece_lf (take len (drop at text)) h in
    let all : count_by is_lf (take (at + len) text) ≡ count_by is_lf (take at text) + count_by is_lf (take len (drop at text)) = ap (count_by is_lf) cut ∙ sum in
    omega (arith, all, none)

pub line_lf : (text : List ℕ) (at : ℕ) → at < length text → get_or text at 0 ≡ 10 → line_at text (at + 1) ≡ line_at text at + 1
line_lf text at lt h = let y = count_by_more_yes is_lf text at 0 lt (ap is_lf h) in omega (arith, y)

pub line_same : (text : List ℕ) (at : ℕ) → at < length text → (get_or text at 0 ≡ 10 → ⊥) → line_at text (at + 1) ≡ line_at text at
line_same text at lt h =
    let other = false_from_ne_true (is_lf (get_or text at 0)) (λ e. h (eqb-true (get_or text at 0) 10 e)) in
    let n = count_by_more_no is_lf text at 0 lt other in
    omega (arith, n)

-- the line at `at` is at most `at + 1`
pub line_few : (text : List ℕ) (at : ℕ) → line_at text at ≤ at + 1
line_few text at = omega (arith, count_by-le-length is_lf (take at text), length-take at text)
