-- The longest piece at the front of a text, by its first byte.
use Rattle.std.proofs.Common.{◌≡◌, ℕ, zero, suc, ◌+◌, ◌<◌, ◌≤◌, Bool, true, false, cond, ◌&&◌, ◌||◌, List, [], ◌∷◌, length, get_or, take, Option, Some, None, refl, sym, ap, ◌∙◌, arith, eqb, one-add}
use Rattle.std.specs.Prelude.{is_some}
use Rattle.std.specs.List.{list_all, prefix_len}
use Rattle.std.proofs.lemmas.Bool.{eqb-true, or_left, or_right, false_from_ne_true, and_parts, or_parts}
use Rattle.std.proofs.Math.Bool.{and-false}
use Rattle.std.proofs.lemmas.List.Sums.{prefix_len-le-length}
use Rattle.std.proofs.lemmas.Bool.Decides.{nat_tests}
use Rattle.cw_model.specs.declared.token.Kind.{Kind}
use Rattle.cw_model.specs.Pieces.{is_separator, is_digit, is_letter, is_word_byte, is_inner, one_byte, two_bytes, symbol, is_comment, is_word, is_empty, is_number, is_piece}
use Rattle.cw_model.specs.Tokens.{IsLongest, StartsNothing}

-- ---- tests

module _ (p : ℕ → Bool) where
  run_head : (xs : List ℕ) (x : ℕ) (b : Bool) → p x ≡ b → list_all p (take (prefix_len p xs) xs) ≡ true → list_all p (take (cond b (1 + prefix_len p xs) 0) (x ∷ xs)) ≡ true
  run_head xs x true e h = rw (one-add, e) h
  run_head xs x false e h = refl

  pub run_passes : (xs : List ℕ) → list_all p (take (prefix_len p xs) xs) ≡ true
  run_passes [] = refl
  run_passes (x ∷ xs) = run_head xs x (p x) refl (run_passes xs)

  pub run_longest : (xs : List ℕ) (n : ℕ) → n ≤ length xs → list_all p (take n xs) ≡ true → n ≤ prefix_len p xs
  run_longest xs zero le h = omega arith
  run_longest [] (suc n) le h = le
  run_longest (x ∷ xs) (suc n) le h =
      let both = and_parts (p x) (list_all p (take n xs)) h in
      rw both.0 (omega (arith, run_longest xs n (omega arith) both.1))

-- ---- first bytes

pub letter_no_digit : (b : ℕ) → is_letter b ≡ true → is_digit b ≡ false
letter_no_digit b h = grind (arith, nat_tests)

none_if : (t : Bool) (k : Kind) (rest : Option Kind) → (t ≡ true → ⊥) → rest ≡ None → cond t (Some k) rest ≡ None
none_if true k rest h e = absurd (h refl)
none_if false k rest h e = e

differs : (b c : ℕ) → is_word_byte b ≡ true → is_word_byte c ≡ false → eqb b c ≡ true → ⊥
differs b c hb hc e = let same = eqb-true b c e in let clash : is_word_byte c ≡ true = rw (← same) hb in cc

module _ (b : ℕ) (h : is_word_byte b ≡ true) where
  not_one : (c : ℕ) (k : Kind) (rest : Option Kind) → is_word_byte c ≡ false → rest ≡ None → cond (eqb b c) (Some k) rest ≡ None
  not_one c k rest hc e = none_if (eqb b c) k rest (λ t. differs b c h hc t) e

  not_two : (c d e : ℕ) (k : Kind) (rest : Option Kind) → is_word_byte c ≡ false → rest ≡ None → cond (eqb b c && eqb d e) (Some k) rest ≡ None
  not_two c d e k rest hc r = none_if (eqb b c && eqb d e) k rest (λ t. differs b c h hc (and_parts (eqb b c) (eqb d e) t).0) r

  pub one_none : one_byte b ≡ None
  one_none =
      not_one _ _ _ refl (not_one _ _ _ refl (not_one _ _ _ refl (not_one _ _ _ refl (not_one _ _ _ refl (not_one _ _ _ refl (
      not_one _ _ _ refl (not_one _ _ _ refl (not_one _ _ _ refl (not_one _ _ _ refl (not_one _ _ _ refl (not_one _ _ _ refl (
      not_one _ _ _ refl (not_one _ _ _ refl (not_one _ _ _ refl (not_one _ _ _ refl (not_one _ _ _ refl refl))))))))))))))))

  pub two_none : (c : ℕ) → two_bytes b c ≡ None
  two_none c = not_two _ _ _ _ _ refl (not_two _ _ _ _ _ refl (not_two _ _ _ _ _ refl (not_two _ _ _ _ _ refl (not_two _ _ _ _ _ refl (not_two _ _ _ _ _ refl refl)))))

  pub symbol_none : (bs : List ℕ) → is_some (symbol (b ∷ bs)) ≡ false
  symbol_none [] = ap is_some one_none
  symbol_none (c ∷ []) = ap is_some (two_none c)
  symbol_none (c ∷ d ∷ bs) = refl

  pub comment_none : (bs : List ℕ) → is_comment (b ∷ bs) ≡ false
  comment_none [] = refl
  comment_none (c ∷ bs) = let no_slash = false_from_ne_true (eqb b 47) (differs b 47 h refl) in rw no_slash refl

-- ---- pieces by their first byte

no_others : (w n s c : Bool) → n ≡ false → s ≡ false → c ≡ false → (w || n || s || c) ≡ w
no_others true n s c en es ec = refl
no_others false n s c en es ec = rw (en, es, ec) refl

word_piece : (b : ℕ) (bs : List ℕ) → is_letter b ≡ true → is_piece (b ∷ bs) ≡ list_all is_word_byte bs
word_piece b bs h =
    let wb = or_left (is_letter b) (is_digit b) h in
    let nd : is_number (b ∷ bs) ≡ false = rw (letter_no_digit b h) refl in
    no_others (is_word (b ∷ bs)) _ _ _ nd (symbol_none b wb bs) (comment_none b wb bs) ∙ rw h refl

second_only : (w n s c : Bool) → w ≡ false → s ≡ false → c ≡ false → (w || n || s || c) ≡ n
second_only w true s c ew es ec = rw ew refl
second_only w false s c ew es ec = rw (ew, es, ec) refl

digit_no_letter : (b : ℕ) → is_digit b ≡ true → is_letter b ≡ false
digit_no_letter b h = grind (arith, nat_tests)

number_piece : (b : ℕ) (bs : List ℕ) → is_digit b ≡ true → is_piece (b ∷ bs) ≡ cond (eqb b 48) (is_empty bs) (list_all is_digit bs)
number_piece b bs h =
    let wb = or_right (is_letter b) (is_digit b) h in
    let nw : is_word (b ∷ bs) ≡ false = rw (digit_no_letter b h) refl in
    second_only _ (is_number (b ∷ bs)) _ _ nw (symbol_none b wb bs) (comment_none b wb bs) ∙ rw h refl

mark_piece : (b : ℕ) (bs : List ℕ) → is_word_byte b ≡ false → is_piece (b ∷ bs) ≡ (is_some (symbol (b ∷ bs)) || is_comment (b ∷ bs))
mark_piece b bs h =
    let both = or_parts (is_letter b) (is_digit b) h in
    rw (both.0, both.1) refl

-- ---- words

pub word_longest : (bs : List ℕ) → 0 < length bs → is_letter (get_or bs 0 0) ≡ true
    → IsLongest bs (prefix_len is_word_byte bs) × (is_word (take (prefix_len is_word_byte bs) bs) ≡ true) × (0 < prefix_len is_word_byte bs)
word_longest [] some h = absurd (omega arith)
word_longest (b ∷ bs) some h =
    let wb : is_word_byte b ≡ true = or_left (is_letter b) (is_digit b) h in
    let len : prefix_len is_word_byte (b ∷ bs) ≡ suc (prefix_len is_word_byte bs) = rw (wb, one-add) refl in
    let passes = run_passes is_word_byte bs in
    rw len (
      record {
        within = omega (arith, prefix_len-le-length is_word_byte bs);
        piece = word_piece b (take (prefix_len is_word_byte bs) bs) h ∙ passes;
        longest = longest;
      },
      rw h passes,
      omega arith,
    )
  where
    longest : (n : ℕ) → n ≤ length (b ∷ bs) → is_piece (take n (b ∷ bs)) ≡ true → n ≤ suc (prefix_len is_word_byte bs)
    longest zero le p = omega arith
    longest (suc n) le p = omega (arith, run_longest is_word_byte bs n (omega arith) (sym (word_piece b (take n bs) h) ∙ p))

-- ---- numbers

pub zero_longest : (bs : List ℕ) → 0 < length bs → get_or bs 0 0 ≡ 48 → IsLongest bs 1 × (is_number (take 1 bs) ≡ true)
zero_longest [] some h = absurd (omega arith)
zero_longest (b ∷ bs) some h =
    rw h (record { within = omega arith; piece = refl; longest = longest bs }, refl)
  where
    longest : (bs : List ℕ) (n : ℕ) → n ≤ length (48 ∷ bs) → is_piece (take n (48 ∷ bs)) ≡ true → n ≤ 1
    longest bs zero le p = omega arith
    longest bs (suc zero) le p = omega arith
    longest [] (suc (suc n)) le p = absurd (omega arith)
    longest (c ∷ cs) (suc (suc n)) le p = absurd (let e = number_piece 48 (c ∷ take n cs) refl in let clash : true ≡ false = sym p ∙ e in cc)

pub digits_longest : (bs : List ℕ) → 0 < length bs → is_digit (get_or bs 0 0) ≡ true → (get_or bs 0 0 ≡ 48 → ⊥)
    → IsLongest bs (prefix_len is_digit bs) × (is_number (take (prefix_len is_digit bs) bs) ≡ true) × (0 < prefix_len is_digit bs)
digits_longest [] some h z = absurd (omega arith)
digits_longest (b ∷ bs) some h z =
    let nz : eqb b 48 ≡ false = false_from_ne_true (eqb b 48) (λ e. z (eqb-true b 48 e)) in
    let len : prefix_len is_digit (b ∷ bs) ≡ suc (prefix_len is_digit bs) = rw (h, one-add) refl in
    let passes = run_passes is_digit bs in
    rw len (
      record {
        within = omega (arith, prefix_len-le-length is_digit bs);
        piece = number_piece b (take (prefix_len is_digit bs) bs) h ∙ (rw nz passes);
        longest = longest nz;
      },
      rw (h, nz) passes,
      omega arith,
    )
  where
    longest : eqb b 48 ≡ false → (n : ℕ) → n ≤ length (b ∷ bs) → is_piece (take n (b ∷ bs)) ≡ true → n ≤ suc (prefix_len is_digit bs)
    longest nz zero le p = omega arith
    longest nz (suc n) le p =
        let by_digits : cond (eqb b 48) (is_empty (take n bs)) (list_all is_digit (take n bs)) ≡ list_all is_digit (take n bs) =
        ap (λ t. cond t (is_empty (take n bs)) (list_all is_digit (take n bs))) nz in
        let all : list_all is_digit (take n bs) ≡ true = sym by_digits ∙ sym (number_piece b (take n bs) h) ∙ p in
        omega (arith, run_longest is_digit bs n (omega arith) all)

-- ---- comments and symbols

slashes_piece : (bs : List ℕ) → is_piece (47 ∷ 47 ∷ bs) ≡ list_all is_inner bs
slashes_piece [] = refl
slashes_piece (d ∷ bs) = refl

comment_at : (bs : List ℕ) → IsLongest (47 ∷ 47 ∷ bs) (prefix_len is_inner (47 ∷ 47 ∷ bs))
    × (is_comment (take (prefix_len is_inner (47 ∷ 47 ∷ bs)) (47 ∷ 47 ∷ bs)) ≡ true) × (0 < prefix_len is_inner (47 ∷ 47 ∷ bs))
comment_at bs =
    let len : prefix_len is_inner (47 ∷ 47 ∷ bs) ≡ suc (suc (prefix_len is_inner bs)) = omega arith in
    let passes = run_passes is_inner bs in
    rw len (
      record {
        within = omega (arith, prefix_len-le-length is_inner bs);
        piece = slashes_piece (take (prefix_len is_inner bs) bs) ∙ passes;
        longest = longest;
      },
      passes,
      omega arith,
    )
  where
    longest : (n : ℕ) → n ≤ length (47 ∷ 47 ∷ bs) → is_piece (take n (47 ∷ 47 ∷ bs)) ≡ true → n ≤ suc (suc (prefix_len is_inner bs))
    longest zero le p = omega arith
    longest (suc zero) le p = omega arith
    longest (suc (suc n)) le p = omega (arith, run_longest is_inner bs n (omega arith) (sym (slashes_piece (take n bs)) ∙ p))

pub comment_longest : (bs : List ℕ) → get_or bs 0 0 ≡ 47 → get_or bs 1 0 ≡ 47
    → IsLongest bs (prefix_len is_inner bs) × (is_comment (take (prefix_len is_inner bs) bs) ≡ true) × (0 < prefix_len is_inner bs)
comment_longest [] h k = absurd cc
comment_longest (b ∷ []) h k = absurd cc
comment_longest (b ∷ c ∷ bs) h k = rw (h, k) (comment_at bs)

-- no comment begins here
abbrev pub NoComment : List ℕ → Type 0
NoComment bs = (eqb (get_or bs 0 0) 47 && eqb (get_or bs 1 0) 47) ≡ false

no_comment : (b c : ℕ) (bs : List ℕ) → NoComment (b ∷ c ∷ bs) → is_comment (b ∷ c ∷ bs) ≡ false
no_comment b c bs h = rw h refl

-- three bytes or more are a piece only as a comment
three : (b c d : ℕ) (bs : List ℕ) → is_word_byte b ≡ false → NoComment (b ∷ c ∷ bs) → is_piece (b ∷ c ∷ d ∷ bs) ≡ false
three b c d bs mark nc = mark_piece b (c ∷ d ∷ bs) mark ∙ no_comment b c (d ∷ bs) nc

at_most_two : (bs : List ℕ) (n : ℕ) → is_word_byte (get_or bs 0 0) ≡ false → NoComment bs → n ≤ length bs → is_piece (take n bs) ≡ true → n ≤ 2
at_most_two bs zero mark nc le p = omega arith
at_most_two bs (suc zero) mark nc le p = omega arith
at_most_two bs (suc (suc zero)) mark nc le p = omega arith
at_most_two [] (suc (suc (suc n))) mark nc le p = absurd (omega arith)
at_most_two (b ∷ []) (suc (suc (suc n))) mark nc le p = absurd (omega arith)
at_most_two (b ∷ c ∷ []) (suc (suc (suc n))) mark nc le p = absurd (omega arith)
at_most_two (b ∷ c ∷ d ∷ bs) (suc (suc (suc n))) mark nc le p = absurd (let e = three b c d (take n bs) mark nc in let clash : true ≡ false = sym p ∙ e in cc)

two_zero : (b : ℕ) → two_bytes b 0 ≡ None
two_zero b = simp and-false

pub two_longest : (bs : List ℕ) (k : Kind) → is_word_byte (get_or bs 0 0) ≡ false → NoComment bs → two_bytes (get_or bs 0 0) (get_or bs 1 0) ≡ Some k → IsLongest bs 2 × (symbol (take 2 bs) ≡ Some k)
two_longest [] k mark nc e = absurd cc
two_longest (b ∷ []) k mark nc e = absurd (let z = two_zero b in cc)
two_longest (b ∷ c ∷ bs) k mark nc e = (
  record {
    within = omega arith;
    piece = mark_piece b (c ∷ []) mark ∙ or_left (is_some (two_bytes b c)) _ (ap is_some e);
    longest = λ n le p. at_most_two (b ∷ c ∷ bs) n mark nc le p;
  },
  e,
)

-- if no symbol of two bytes begins here, a piece has at most one byte
at_most_one : (bs : List ℕ) (n : ℕ) → is_word_byte (get_or bs 0 0) ≡ false → NoComment bs → two_bytes (get_or bs 0 0) (get_or bs 1 0) ≡ None → n ≤ length bs → is_piece (take n bs) ≡ true → n ≤ 1
at_most_one bs zero mark nc e le p = omega arith
at_most_one bs (suc zero) mark nc e le p = omega arith
at_most_one [] (suc (suc n)) mark nc e le p = absurd (omega arith)
at_most_one (b ∷ []) (suc (suc n)) mark nc e le p = absurd (omega arith)
at_most_one (b ∷ c ∷ bs) (suc (suc zero)) mark nc e le p =
    absurd (let none : is_some (symbol (b ∷ c ∷ [])) ≡ false = ap is_some e in let no = no_comment b c [] nc in let clash : true ≡ false = sym p
    ∙ mark_piece b (c ∷ []) mark ∙ (rw (none, no) refl) in cc)
at_most_one (b ∷ c ∷ []) (suc (suc (suc n))) mark nc e le p = absurd (omega arith)
at_most_one (b ∷ c ∷ d ∷ bs) (suc (suc (suc n))) mark nc e le p = absurd (let e = three b c d (take n bs) mark nc in let clash : true ≡ false = sym p ∙ e in cc)

pub one_longest : (bs : List ℕ) (k : Kind) → 0 < length bs → is_word_byte (get_or bs 0 0) ≡ false → NoComment bs
    → two_bytes (get_or bs 0 0) (get_or bs 1 0) ≡ None → one_byte (get_or bs 0 0) ≡ Some k → IsLongest bs 1 × (symbol (take 1 bs) ≡ Some k)
one_longest [] k some mark nc none e = absurd (omega arith)
one_longest (b ∷ bs) k some mark nc none e = (
  record {
    within = omega arith;
    piece = mark_piece b [] mark ∙ or_left (is_some (one_byte b)) _ (ap is_some e);
    longest = λ n le p. at_most_one (b ∷ bs) n mark nc none le p;
  },
  e,
)

pub starts_nothing : (bs : List ℕ) → 0 < length bs → is_separator (get_or bs 0 0) ≡ false → is_word_byte (get_or bs 0 0) ≡ false → NoComment bs
    → two_bytes (get_or bs 0 0) (get_or bs 1 0) ≡ None → one_byte (get_or bs 0 0) ≡ None → StartsNothing bs
starts_nothing bs some sep mark nc none e = record { some = some; separates = sep; starts = starts bs some mark nc none e }
  where
    starts : (bs : List ℕ) → 0 < length bs → is_word_byte (get_or bs 0 0) ≡ false → NoComment bs → two_bytes (get_or bs 0 0) (get_or bs 1 0) ≡ None
        → one_byte (get_or bs 0 0) ≡ None → (n : ℕ) → is_piece (take n bs) ≡ false
    starts [] some mark nc none e n = absurd (omega arith)
    starts (b ∷ bs) some mark nc none e zero = refl
    starts (b ∷ []) some mark nc none e (suc zero) = mark_piece b [] mark ∙ rw (ap is_some e) refl
    starts (b ∷ []) some mark nc none e (suc (suc n)) = mark_piece b [] mark ∙ rw (ap is_some e) refl
    starts (b ∷ c ∷ bs) some mark nc none e (suc zero) = mark_piece b [] mark ∙ rw (ap is_some e) refl
    starts (b ∷ c ∷ bs) some mark nc none e (suc (suc zero)) = mark_piece b (c ∷ []) mark ∙ rw (ap is_some none, no_comment b c [] nc) refl
    starts (b ∷ c ∷ []) some mark nc none e (suc (suc (suc n))) = mark_piece b (c ∷ []) mark ∙ rw (ap is_some none, no_comment b c [] nc) refl
    starts (b ∷ c ∷ d ∷ bs) some mark nc none e (suc (suc (suc n))) = three b c d (take n bs) mark nc
