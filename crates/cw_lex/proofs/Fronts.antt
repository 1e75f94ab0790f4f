-- The front of a text, derived from the facts that the code establishes.
use Rattle.std.proofs.Common.{◌≡◌, ℕ, zero, suc, [], ◌∷◌, cond, ◌<◌, ◌≤◌, Bool, true, false, ◌&&◌, List, length, get_or, take, Option, Some, None, refl, sym, ap, ◌∙◌, arith, eqb, inl, inr, ◌⊎◌}
use Rattle.std.proofs.lemmas.List.{length-take}
use Rattle.std.proofs.lemmas.Bool.{eqb-true, false_from_ne_true, and_parts}
use Rattle.std.specs.List.{list_all, prefix_len}
use Rattle.cw_model.specs.declared.token.Kind.{Kind}
use Rattle.cw_model.specs.declared.token.Kind.TheVariants as kind
use Rattle.cw_lex.specs.declared.front.Front.TheVariants as front
use Rattle.cw_model.specs.declared.limits.TheConstants.{MOST_NAME_BYTES, MOST_NUMBER}
use Rattle.cw_model.specs.Pieces.{is_separator, is_digit, is_letter, is_word_byte, is_inner, one_byte, two_bytes, is_empty, is_number, decimal_value}
use Rattle.cw_model.specs.Tokens.{IsLongest, IsSpelled, word, number, mark, word_kind, HasLargeNumber, HasLongName}
use Rattle.cw_lex.specs.declared.reason.Uncut.TheVariants as reason
use Rattle.cw_lex.specs.Front.{IsFront}
use Rattle.cw_lex.proofs.Longest.{word_longest, comment_longest, NoComment, two_longest, one_longest, starts_nothing}

module _ (bs : List ℕ) (len : ℕ) (some : 0 < length bs) (letter : is_letter (get_or bs 0 0) ≡ true) (is : len ≡ prefix_len is_word_byte bs) where
  pub long_word : word_kind (take len bs) ≡ kind.Name → MOST_NAME_BYTES < len → (f : HasLongName bs) × (take len bs ≡ take f.len bs)
  long_word name long =
      let w = word_longest bs some letter in
      (record { len = len; longest = rw is w.0; word = rw is w.1; name = name; long = long }, refl)

  pub token_word : (k : Kind) → k ≡ word_kind (take len bs) → (word_kind (take len bs) ≡ kind.Name → len ≤ MOST_NAME_BYTES) → IsFront bs (front.Token k len)
  token_word k k-is short =
      let w = word_longest bs some letter in
      let spelled : IsSpelled (word_kind (take len bs)) (take len bs) = word (rw is w.1) (λ e. let l = short e in omega (arith, length-take len bs)) in
      (rw is w.2, rw is w.0, rw k-is spelled)

pub token_number : (bs : List ℕ) (len n : ℕ) → 0 < len → IsLongest bs len → is_number (take len bs) ≡ true → n ≡ decimal_value (take len bs)
    → n ≤ MOST_NUMBER → IsFront bs (front.Token (kind.Number n) len)
token_number bs len n some longest h n-is small =
    let spelled : IsSpelled (kind.Number (decimal_value (take len bs))) (take len bs) = number h (omega arith) in
    (some, longest, rw n-is spelled)

pub large_number : (bs : List ℕ) (len : ℕ) → IsLongest bs len → is_number (take len bs) ≡ true → MOST_NUMBER < decimal_value (take len bs) → (f : HasLargeNumber bs) × (take len bs ≡ take f.len bs)
large_number bs len longest h large = (record { len = len; longest = longest; number = h; large = large }, refl)

pub comment_front : (bs : List ℕ) (len : ℕ) → get_or bs 0 0 ≡ 47 → get_or bs 1 0 ≡ 47 → len ≡ prefix_len is_inner bs → IsFront bs (front.Comment len)
comment_front bs len b c is = let w = comment_longest bs b c in (rw is w.2, rw is w.0, rw is w.1)

all_at : (p : ℕ → Bool) (bs : List ℕ) (k : ℕ) → list_all p bs ≡ true → k < length bs → p (get_or bs k 0) ≡ true
all_at p [] k h lt = absurd (omega arith)
all_at p (b ∷ bs) zero h lt = (and_parts (p b) (list_all p bs) h).0
all_at p (b ∷ bs) (suc k) h lt = all_at p bs k (and_parts (p b) (list_all p bs) h).1 (omega arith)

after_first : (t : Bool) (bs : List ℕ) (k : ℕ) → cond t (is_empty bs) (list_all is_digit bs) ≡ true → k < length bs → is_digit (get_or bs k 0) ≡ true
after_first true [] k h lt = absurd (omega arith)
after_first true (b ∷ bs) k h lt = absurd cc
after_first false bs k h lt = all_at is_digit bs k h lt

-- all digits of a number are digits
pub digits_pass : (bs : List ℕ) → is_number bs ≡ true → (k : ℕ) → k < length bs → is_digit (get_or bs k 0) ≡ true
digits_pass [] h k lt = absurd (omega arith)
digits_pass (b ∷ bs) h zero lt = (and_parts (is_digit b) _ h).0
digits_pass (b ∷ bs) h (suc k) lt = after_first (eqb b 48) bs k (and_parts (is_digit b) _ h).1 (omega arith)

no_comment_at : (bs : List ℕ) → (get_or bs 0 0 ≡ 47 → get_or bs 1 0 ≡ 47 → ⊥) → NoComment bs
no_comment_at bs h =
    false_from_ne_true (eqb (get_or bs 0 0) 47 && eqb (get_or bs 1 0) 47) (λ e.
    let both = and_parts (eqb (get_or bs 0 0) 47) (eqb (get_or bs 1 0) 47) e in
    h (eqb-true (get_or bs 0 0) 47 both.0) (eqb-true (get_or bs 1 0) 47 both.1))

module _ (bs : List ℕ) (second : ℕ) (some : 0 < length bs) (plain : is_word_byte (get_or bs 0 0) ≡ false) (is : second ≡ get_or bs 1 0)
    (nc : ((get_or bs 0 0 ≡ 47) × (second ≡ 47 → ⊥)) ⊎ (get_or bs 0 0 ≡ 47 → ⊥)) where
  none_here : NoComment bs
  none_here = no_comment_at bs (λ a b. elim nc [ inl h ↦ h.1 (is ∙ b) | inr h ↦ h a ])

  pub two_front : (o : Option Kind) (k : Kind) → o ≡ two_bytes (get_or bs 0 0) second → o ≡ Some k → IsFront bs (front.Token k 2)
  two_front o k e f = let w = two_longest bs k plain none_here (ap (two_bytes (get_or bs 0 0)) (sym is) ∙ sym e ∙ f) in (omega arith, w.0, mark w.1)

  no_two : (o : Option Kind) → o ≡ two_bytes (get_or bs 0 0) second → o ≡ None → two_bytes (get_or bs 0 0) (get_or bs 1 0) ≡ None
  no_two o e f = ap (two_bytes (get_or bs 0 0)) (sym is) ∙ sym e ∙ f

  pub one_front : (o p : Option Kind) (k : Kind) → o ≡ two_bytes (get_or bs 0 0) second → o ≡ None → p ≡ one_byte (get_or bs 0 0) → p ≡ Some k → IsFront bs (front.Token k 1)
  one_front o p k e f g h = let w = one_longest bs k some plain none_here (no_two o e f) (sym g ∙ h) in (omega arith, w.0, mark w.1)

  pub none_front : (o p : Option Kind) → o ≡ two_bytes (get_or bs 0 0) second → o ≡ None → p ≡ one_byte (get_or bs 0 0) → p ≡ None
      → is_separator (get_or bs 0 0) ≡ false → IsFront bs (front.Uncut (reason.NoToken (get_or bs 0 0)))
  none_front o p e f g h sep = (starts_nothing bs some sep plain none_here (no_two o e f) (sym g ∙ h), refl)
