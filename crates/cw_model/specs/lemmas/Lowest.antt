-- The lowest of a list of lines does not depend on the order.
use Rattle.std.proofs.Common.{◌≡◌, ℕ, ◌≤◌, Bool, true, false, nat_le, if◌then◌else◌, List, [], ◌∷◌, ◌++◌, Option}
use Rattle.std.proofs.Common.{Some, None, All, Contains, ◌⊎◌, refl, sym, ap, ◌∙◌, arith, inl, inr, subst}
use Rattle.std.proofs.lemmas.List.Elements.{All-cons, All-contains, Contains-append_left, Contains-append_right}
use Rattle.std.proofs.lemmas.List.Elements.{Contains-push}
use Rattle.std.proofs.lemmas.Bool.{leb-false, leb-true}
use Rattle.std.proofs.lemmas.Bool.Decides.{nat_tests}
use Rattle.cw_model.specs.Lines.{IsLeastLine, lesser, lowest}

pub lowest-append : (least : Option ℕ) (xs ys : List ℕ) → lowest least (xs ++ ys) ≡ lowest (lowest least xs) ys
lowest-append least [] ys = refl
lowest-append least (x ∷ xs) ys = lowest-append (lesser least x) xs ys

lesser-lesser : (o : Option ℕ) (x y : ℕ) → lesser (lesser o x) y ≡ lesser (lesser o y) x
lesser-lesser None x y = ap Some (grind (arith, nat_tests))
lesser-lesser (Some m) x y = ap Some (grind (arith, nat_tests))

lowest-lesser : (o : Option ℕ) (x : ℕ) (ys : List ℕ) → lowest (lesser o x) ys ≡ lesser (lowest o ys) x
lowest-lesser o x [] = refl
lowest-lesser o x (y ∷ ys) = ap (λ p. lowest p ys) (lesser-lesser o x y) ∙ lowest-lesser (lesser o y) x ys

-- the order of the lines does not matter
pub lowest-swap : (o : Option ℕ) (xs ys : List ℕ) → lowest (lowest o xs) ys ≡ lowest (lowest o ys) xs
lowest-swap o [] ys = refl
lowest-swap o (x ∷ xs) ys = lowest-swap (lesser o x) xs ys ∙ ap (λ p. lowest p xs) (lowest-lesser o x ys)

-- the lowest line of a list, after `m`, with its properties
record Lowest (m : ℕ) (xs : List ℕ) : Type 0 where
  pub least : ℕ
  pub is : lowest (Some m) xs ≡ Some least
  pub below : least ≤ m
  pub all : All (λ o. least ≤ o) xs
  pub from : (least ≡ m) ⊎ Contains xs least

later : (x : ℕ) (xs : List ℕ) (n : ℕ) → Contains xs n → Contains (x ∷ xs) n
later x xs n c = Contains-append_right (x ∷ []) xs n c

here : (x : ℕ) (xs : List ℕ) (n : ℕ) → n ≡ x → Contains (x ∷ xs) n
here x xs n e =
    let P : ℕ
    → Type 0 = λ k. Contains (x ∷ xs) k in subst P (sym e) (Contains-append_left (x ∷ []) xs x (Contains-push [] x))

one_more : (m x : ℕ) (xs : List ℕ) (b : Bool) → nat_le m x ≡ b → Lowest (if b then m else x) xs → Lowest m (x ∷ xs)
one_more m x xs true e l =
    let bound = leb-true m x e in
    let less : l.least ≤ x = omega (arith, bound, l.below) in
    record {
      least = l.least;
      is = ap (λ b. lowest (Some (if b then m else x)) xs) e ∙ l.is;
      below = l.below;
      all = All-cons (λ o. l.least ≤ o) x xs less l.all;
      from = elim l.from [ inl h ↦ inl h | inr c ↦ inr (later x xs l.least c) ];
    }
one_more m x xs false e l =
    let bound = leb-false m x e in
    record {
      least = l.least;
      is = ap (λ b. lowest (Some (if b then m else x)) xs) e ∙ l.is;
      below = omega (arith, bound, l.below);
      all = All-cons (λ o. l.least ≤ o) x xs l.below l.all;
      from = inr (elim l.from [ inl h ↦ here x xs l.least h | inr c ↦ later x xs l.least c ]);
    }

some_lowest : (m : ℕ) (xs : List ℕ) → Lowest m xs
some_lowest m [] =
    record { least = m; is = refl; below = omega arith; all = λ k d h. absurd (omega (arith, h)); from = inl refl }
some_lowest m (x ∷ xs) = one_more m x xs (nat_le m x) refl (some_lowest (if nat_le m x then m else x) xs)

pub no_lines : (xs : List ℕ) → lowest None xs ≡ None → xs ≡ []
no_lines [] h = refl
no_lines (x ∷ xs) h = let l = some_lowest x xs in cc (l.is, h)

pub least_line : (xs : List ℕ) (n : ℕ) → lowest None xs ≡ Some n → IsLeastLine xs n
least_line [] n h = cc
least_line (x ∷ xs) n h =
    let l = some_lowest x xs in
    let same : l.least ≡ n = cc (l.is, h) in
    let P : ℕ → Type 0 = λ k. IsLeastLine (x ∷ xs) k in
    subst P same (record {
      there = elim l.from [ inl e ↦ here x xs l.least e | inr c ↦ later x xs l.least c ];
      least = All-cons (λ o. l.least ≤ o) x xs l.below l.all;
    })

-- an empty list has no lowest line
pub no_least : (lines : List ℕ) (line : ℕ) → lines ≡ [] → IsLeastLine lines line → ⊥
no_least lines line none least =
    let P : List ℕ → Type 0 = λ ls. Contains ls line in
    All-contains (λ _. ⊥) [] line (λ k d h. omega (arith, h)) (subst P none least.there)

-- a list has at most one lowest line
pub one_least : (lines : List ℕ) (l m : ℕ) → IsLeastLine lines l → IsLeastLine lines m → l ≡ m
one_least lines l m a b =
    let le = All-contains (λ other. l ≤ other) lines m a.least b.there in
    let ge = All-contains (λ other. m ≤ other) lines l b.least a.there in
    omega (arith, le, ge)
