-- Lines and fields, by the place of the byte that ends them.
use Rattle.std.proofs.Common.{◌≡◌, ◌∙◌, ◌==◌, ◌<◌, ◌≤◌, ◌+◌, ◌-◌, ℕ, suc, List, [], ◌∷◌, length, take, drop, map, ◌++◌, append_assoc, inl, inr, refl, sym, ap, ap₂, arith}
use Rattle.std.specs.List.{position_or_len}
use Rattle.std.proofs.lemmas.Bool.{cases_Bool}
use Rattle.std.proofs.lemmas.List.{append-nil, map-append}
use Rattle.cw_report.specs.Aligned.{field, lines_of, onto_line}

abbrev end_at : ℕ → List ℕ → ℕ
end_at c text = position_or_len (λ b. b == c) text

one_more : (k : ℕ) → 1 + k ≡ suc k
one_more k = omega arith

and_past : (k : ℕ) → 1 + k + 1 ≡ suc (k + 1)
and_past k = omega arith

next_past : (k : ℕ) → suc k + 1 ≡ suc (k + 1)
next_past k = omega arith

pub field_here : (xs : List ℕ) → field 0 xs ≡ take (end_at 44 xs) xs
field_here [] = refl
field_here (x ∷ xs) = elim (cases_Bool (x == 44)) [
  | inl is ↦ rw is refl
  | inr other ↦ rw (other, one_more (end_at 44 xs), field_here xs) refl
]

pub field_past : (n : ℕ) (xs : List ℕ) → end_at 44 xs < length xs → field (suc n) xs ≡ field n (drop (end_at 44 xs + 1) xs)
field_past n [] h = absurd (omega (arith, h))
field_past n (x ∷ xs) h = elim (cases_Bool (x == 44)) [
  | inl is ↦ rw is refl
  | inr other ↦ rw (other, and_past (end_at 44 xs)) (field_past n xs (omega (arith, (rw other at h))))
]

pub no_field : (n : ℕ) (xs : List ℕ) → end_at 44 xs ≡ length xs → field (suc n) xs ≡ []
no_field n [] h = refl
no_field n (x ∷ xs) h = elim (cases_Bool (x == 44)) [
  | inl is ↦ absurd (omega (arith, (rw is at h)))
  | inr other ↦ rw other (no_field n xs (omega (arith, (rw other at h))))
]

pub line_past : (xs : List ℕ) → end_at 10 xs < length xs → lines_of xs ≡ take (end_at 10 xs) xs ∷ lines_of (drop (end_at 10 xs + 1) xs)
line_past [] h = absurd (omega (arith, h))
line_past (x ∷ xs) h = elim (cases_Bool (x == 10)) [
  | inl is ↦ rw is refl
  | inr other ↦ rw (other, one_more (end_at 10 xs), next_past (end_at 10 xs)) (ap (onto_line x) (line_past xs (omega (arith, (rw other at h)))))
]

pub no_line : (xs : List ℕ) → end_at 10 xs ≡ length xs → lines_of xs ≡ []
no_line [] h = refl
no_line (x ∷ xs) h = elim (cases_Bool (x == 10)) [
  | inl is ↦ absurd (omega (arith, (rw is at h)))
  | inr other ↦ rw other (ap (onto_line x) (no_line xs (omega (arith, (rw other at h)))))
]

-- one more comma is passed
pub passed : (n counter end : ℕ) (line rest : List ℕ) → counter < n → end ≡ end_at 44 rest → end < length rest
    → field (n - counter) rest ≡ field n line → field (n - (counter + 1)) (drop (end + 1) rest) ≡ field n line
passed n counter end line rest some is inside so_far =
    let left : n - counter ≡ suc (n - (counter + 1)) = omega (arith, some) in
    ap (λ e. field (n - (counter + 1)) (drop (e + 1) rest)) is
    ∙ sym (field_past (n - (counter + 1)) rest (omega (arith, inside, is))) ∙ ap (λ k. field k rest) (sym left) ∙ so_far

-- no comma is left
pub missing : (n counter end : ℕ) (line rest : List ℕ) → counter < n → end ≡ end_at 44 rest → length rest ≤ end → end ≤ length rest
    → field (n - counter) rest ≡ field n line → [] ≡ field n line
missing n counter end line rest some is all within so_far =
    let left : n - counter ≡ suc (n - (counter + 1)) = omega (arith, some) in
    sym (ap (λ k. field k rest) left ∙ no_field (n - (counter + 1)) rest (sym is ∙ omega (arith, all, within))) ∙ so_far

-- the field is at the front
pub found : (n counter end : ℕ) (line rest : List ℕ) → n ≤ counter → end ≡ end_at 44 rest
    → field (n - counter) rest ≡ field n line → take end rest ≡ field n line
found n counter end line rest all is so_far =
    let none : n - counter ≡ 0 = omega (arith, all) in
    ap (λ e. take e rest) is ∙ sym (field_here rest) ∙ ap (λ k. field k rest) (sym none) ∙ so_far

-- one more line is passed
pub line_passed : {X : Type 0} (now : X → List ℕ) (lines : List X) {line : X} (pushed : List X) (end : ℕ) (text rest after : List ℕ)
    → pushed ≡ lines ++ line ∷ [] → after ≡ drop (end + 1) rest → end ≡ end_at 10 rest → end < length rest → now line ≡ take end rest
    → map now lines ++ lines_of rest ≡ lines_of text → map now pushed ++ lines_of after ≡ lines_of text
line_passed now lines {line} pushed end text rest after pushed_is after_is is inside line_is so_far =
    let past : lines_of rest ≡ take end rest ∷ lines_of (drop (end + 1) rest) = rw is (line_past rest (omega (arith, inside, is))) in
    ap₂ (λ all left. all ++ lines_of left) (ap (map now) pushed_is ∙ map-append now lines (line ∷ [])) after_is
    ∙ append_assoc (map now lines) (now line ∷ []) (lines_of (drop (end + 1) rest))
    ∙ ap (λ l. map now lines ++ (l ∷ lines_of (drop (end + 1) rest))) line_is
    ∙ ap (λ l. map now lines ++ l) (sym past) ∙ so_far

-- no line is left
pub all_lines : {X : Type 0} (now : X → List ℕ) (lines : List X) (end : ℕ) (text rest : List ℕ) → end ≡ end_at 10 rest → length rest ≤ end → end ≤ length rest
    → map now lines ++ lines_of rest ≡ lines_of text → map now lines ≡ lines_of text
all_lines now lines end text rest is all within so_far =
    sym (append-nil (map now lines)) ∙ ap (λ l. map now lines ++ l) (sym (no_line rest (sym is ∙ omega (arith, all, within)))) ∙ so_far
