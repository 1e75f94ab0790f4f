-- No text is of two kinds: separator, word, number, symbol or comment.
use Rattle.std.proofs.Common.{◌≡◌, ℕ, zero, suc, ◌<◌, true, false, ◌&&◌, ◌||◌, List, [], ◌∷◌, length, get_or, take, Some, None, refl, sym, ap, subst, ◌∙◌, arith, eqb, inl, inr}
use Rattle.std.specs.Prelude.{is_some}
use Rattle.std.proofs.lemmas.Bool.{eqb-true, or_cases, or_left, or_right, and_parts}
use Rattle.cw_model.specs.declared.token.Kind.{Kind}
use Rattle.cw_model.specs.declared.token.Kind.TheVariants as kind
use Rattle.cw_model.specs.declared.limits.TheConstants.{MOST_NAME_BYTES, MOST_NUMBER}
use Rattle.cw_model.specs.Pieces.{is_separator, is_digit, is_letter, one_byte, two_bytes, symbol, is_comment, is_word, is_number, is_piece, decimal_value}
use Rattle.cw_model.specs.Tokens.{IsSpelled, word, number, mark, word_kind}
use Rattle.cw_lex.proofs.Longest.{letter_no_digit, symbol_none, comment_none}

-- ---- separators

no_piece : (b : ℕ) → is_letter b ≡ false → is_digit b ≡ false → one_byte b ≡ None → ((c : ℕ) → two_bytes b c ≡ None) → eqb b 47 ≡ false → (bs : List ℕ) → is_piece (b ∷ bs) ≡ false
no_piece b letter digit one two slash [] = rw (letter, digit, one) refl
no_piece b letter digit one two slash (c ∷ []) = let e = two c in rw (letter, digit, e, slash) refl
no_piece b letter digit one two slash (c ∷ d ∷ bs) = rw (letter, digit, slash) refl

at_byte : (b c : ℕ) (bs : List ℕ) → eqb b c ≡ true → is_piece (c ∷ bs) ≡ false → is_piece (b ∷ bs) ≡ false
at_byte b c bs e h = let P : ℕ → Type 0 = λ x. is_piece (x ∷ bs) ≡ false in subst P (sym (eqb-true b c e)) h

separator_piece : (b : ℕ) (bs : List ℕ) → is_separator b ≡ true → is_piece (b ∷ bs) ≡ false
separator_piece b bs h =
    elim (or_cases (eqb b 32 || eqb b 9 || eqb b 13) (eqb b 10) h) [
      | inr lf ↦ at_byte b 10 bs lf (no_piece 10 refl refl refl (λ c. refl) refl bs)
      | inl h' ↦ elim (or_cases (eqb b 32 || eqb b 9) (eqb b 13) h') [
        | inr cr ↦ at_byte b 13 bs cr (no_piece 13 refl refl refl (λ c. refl) refl bs)
        | inl h'' ↦ elim (or_cases (eqb b 32) (eqb b 9) h'') [
          | inl space ↦ at_byte b 32 bs space (no_piece 32 refl refl refl (λ c. refl) refl bs)
          | inr tab ↦ at_byte b 9 bs tab (no_piece 9 refl refl refl (λ c. refl) refl bs)
        ]
      ]
    ]

-- no piece begins with a separator
pub separator_no_piece : (bs : List ℕ) (n : ℕ) → is_separator (get_or bs 0 0) ≡ true → is_piece (take n bs) ≡ true → ⊥
separator_no_piece bs zero h p = cc
separator_no_piece [] (suc n) h p = cc
separator_no_piece (b ∷ bs) (suc n) h p = let e = separator_piece b (take n bs) h in cc

-- ---- words, numbers, symbols and comments

pub word_no_number : (bs : List ℕ) → is_word bs ≡ true → is_number bs ≡ true → ⊥
word_no_number [] w n = cc
word_no_number (b ∷ bs) w n =
    let letter = (and_parts (is_letter b) _ w).0 in
    let digit = (and_parts (is_digit b) _ n).0 in
    let e = letter_no_digit b letter in
    cc

pub word_no_symbol : (bs : List ℕ) (k : Kind) → is_word bs ≡ true → symbol bs ≡ Some k → ⊥
word_no_symbol [] k w s = cc
word_no_symbol (b ∷ bs) k w s =
    let byte = or_left (is_letter b) (is_digit b) (and_parts (is_letter b) _ w).0 in
    let e = symbol_none b byte bs in
    let some : is_some (symbol (b ∷ bs)) ≡ true = ap is_some s in
    cc

pub word_no_comment : (bs : List ℕ) → is_word bs ≡ true → is_comment bs ≡ true → ⊥
word_no_comment [] w c = cc
word_no_comment (b ∷ bs) w c =
    let byte = or_left (is_letter b) (is_digit b) (and_parts (is_letter b) _ w).0 in
    let e = comment_none b byte bs in
    cc

pub number_no_symbol : (bs : List ℕ) (k : Kind) → is_number bs ≡ true → symbol bs ≡ Some k → ⊥
number_no_symbol [] k n s = cc
number_no_symbol (b ∷ bs) k n s =
    let byte = or_right (is_letter b) (is_digit b) (and_parts (is_digit b) _ n).0 in
    let e = symbol_none b byte bs in
    let some : is_some (symbol (b ∷ bs)) ≡ true = ap is_some s in
    cc

pub number_no_comment : (bs : List ℕ) → is_number bs ≡ true → is_comment bs ≡ true → ⊥
number_no_comment [] n c = cc
number_no_comment (b ∷ bs) n c =
    let byte = or_right (is_letter b) (is_digit b) (and_parts (is_digit b) _ n).0 in
    let e = comment_none b byte bs in
    cc

slashes_no_symbol : (b c : ℕ) → b ≡ 47 → c ≡ 47 → two_bytes b c ≡ None
slashes_no_symbol b c e f = rw e refl

pub symbol_no_comment : (bs : List ℕ) (k : Kind) → symbol bs ≡ Some k → is_comment bs ≡ true → ⊥
symbol_no_comment [] k s c = cc
symbol_no_comment (b ∷ []) k s c = cc
symbol_no_comment (b ∷ d ∷ []) k s c =
    let slashes = and_parts (eqb b 47) (eqb d 47) (and_parts (eqb b 47 && eqb d 47) _ c).0 in
    let e = slashes_no_symbol b d (eqb-true b 47 slashes.0) (eqb-true d 47 slashes.1) in
    cc
symbol_no_comment (b ∷ d ∷ e ∷ bs) k s c = cc

-- ---- spellings

-- no comment spells a token
pub spelled_no_comment : {k : Kind} (bs : List ℕ) → IsSpelled k bs → is_comment bs ≡ true → ⊥
spelled_no_comment bs (word w short) c = word_no_comment bs w c
spelled_no_comment bs (number n small) c = number_no_comment bs n c
spelled_no_comment bs (mark {k = k} s) c = symbol_no_comment bs k s c

-- no number above the limit spells a token
pub spelled_no_large : {k : Kind} (bs : List ℕ) → IsSpelled k bs → is_number bs ≡ true → MOST_NUMBER < decimal_value bs → ⊥
spelled_no_large bs (word w short) n large = word_no_number bs w n
spelled_no_large bs (number m small) n large = omega arith
spelled_no_large bs (mark {k = k} s) n large = number_no_symbol bs k n s

-- no name above the limit spells a token
pub spelled_no_long : {k : Kind} (bs : List ℕ) → IsSpelled k bs → is_word bs ≡ true → word_kind bs ≡ kind.Name → MOST_NAME_BYTES < length bs → ⊥
spelled_no_long bs (word w short) v name long = let l = short name in omega arith
spelled_no_long bs (number n small) v name long = word_no_number bs v n
spelled_no_long bs (mark {k = k} s) v name long = word_no_symbol bs k v s

some_same : (k l : Kind) → Some k ≡ Some l → k ≡ l
some_same k l e = cc

-- bytes spell one kind of token
pub same_kind : {k l : Kind} (bs : List ℕ) → IsSpelled k bs → IsSpelled l bs → k ≡ l
same_kind bs (word w short) (word v short') = refl
same_kind bs (word w short) (number n small) = absurd (word_no_number bs w n)
same_kind bs (word w short) (mark {k = k} s) = absurd (word_no_symbol bs k w s)
same_kind bs (number n small) (word w short) = absurd (word_no_number bs w n)
same_kind bs (number n small) (number m small') = refl
same_kind bs (number n small) (mark {k = k} s) = absurd (number_no_symbol bs k n s)
same_kind bs (mark {k = k} s) (word w short) = absurd (word_no_symbol bs k w s)
same_kind bs (mark {k = k} s) (number n small) = absurd (number_no_symbol bs k n s)
same_kind bs (mark {k = k} s) (mark {k = l} t) = some_same k l (sym s ∙ t)
