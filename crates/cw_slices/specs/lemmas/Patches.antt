-- The cells of a block that are in and those that are out, place by place, after some cells are replaced.
use Rattle.std.proofs.Common.{◌≡◌, ℕ, ◌+◌, ◌-◌, ◌<◌, ◌≤◌, ◌⊎◌, ℤ, Bool, true, List, [], ◌∷◌, ◌++◌, length, take}
use Rattle.std.proofs.Common.{drop, replicate, Option, Some, None, slice_get, slice_set, refl, sym, ap, ap₂, inl, inr}
use Rattle.std.proofs.Common.{◌∙◌, arith}
use Prim.Native.Nat.{zero, suc}
use lib.ListN.{length-append, length-drop, length-replicate}
use lib.Seq.{length-take-le}
use Rattle.std.proofs.lemmas.Option.{none-some, same_Some, slice_get_within}
use Rattle.cw_facts.specs.Lists.{there_at, get_left}
use Rattle.cw_slices.specs.Blocks.{ins, outs, patched, IsIn, Have, AreIn, numbers, marks}

abbrev Cells : Type 0
Cells = List (Option ℤ)

-- equal places hold equal elements
same_place : {X : Type 0} (xs : List X) (j k : ℕ) → j ≡ k → slice_get xs j ≡ slice_get xs k
same_place xs j k e = ap (λ (i : ℕ). slice_get xs i) e

in_second : {X : Type 0} (xs ys : List X) (k : ℕ) → length xs ≤ k
    → slice_get (xs ++ ys) k ≡ slice_get ys (k - length xs)
in_second [] ys k le = same_place ys k (k - 0) (omega arith)
in_second (x ∷ xs) ys zero le = absurd (omega (arith, le))
in_second (x ∷ xs) ys (suc k) le =
    in_second xs ys k (omega (arith, le)) ∙ same_place ys (k - length xs) (suc k - suc (length xs)) (omega arith)

in_take : {X : Type 0} (n : ℕ) (xs : List X) (k : ℕ) → k < n → slice_get (take n xs) k ≡ slice_get xs k
in_take zero xs k lt = absurd (omega (arith, lt))
in_take (suc n) [] k lt = refl
in_take (suc n) (x ∷ xs) zero lt = refl
in_take (suc n) (x ∷ xs) (suc k) lt = in_take n xs k (omega (arith, lt))

in_drop : {X : Type 0} (n : ℕ) (xs : List X) (k : ℕ) → slice_get (drop n xs) k ≡ slice_get xs (n + k)
in_drop zero xs k = same_place xs k (0 + k) (omega arith)
in_drop (suc n) [] k = refl
in_drop (suc n) (x ∷ xs) k = in_drop n xs k ∙ same_place (x ∷ xs) (suc (n + k)) (suc n + k) (omega arith)

-- lists of the same length with the same element at each place are equal
pub same_each : {X : Type 0} (xs ys : List X) → length xs ≡ length ys
    → ((k : ℕ) (x : X) → slice_get xs k ≡ Some x → slice_get ys k ≡ Some x) → xs ≡ ys
same_each [] [] e at = refl
same_each [] (y ∷ ys) e at = let e' : 0 ≡ suc (length ys) = e in absurd (omega (arith, e'))
same_each (x ∷ xs) [] e at = let e' : suc (length xs) ≡ 0 = e in absurd (omega (arith, e'))
same_each {X = X} (x ∷ xs) (y ∷ ys) e at =
    let e' : suc (length xs) ≡ suc (length ys) = e in
    let rest = same_each xs ys (omega (arith, e')) (λ k. at (suc k)) in
    ap₂ (λ (a : X) (l : List X). a ∷ l) (sym (same_Some y x (at 0 x refl))) rest

module _ {X : Type 0} (from : ℕ) (new cells : List X) (fits : from + length new ≤ length cells) where
  abbrev last : List X
  last = drop (from + length new) cells

  abbrev tail : List X
  tail = new ++ last

  front : length (take from cells) ≡ from
  front = length-take-le from cells (omega (arith, fits))

  -- patching keeps the length
  pub length_patched : length (patched from new cells) ≡ length cells
  length_patched =
      let back : length last ≡ length cells - (from + length new) = length-drop (from + length new) cells in
      let end : length tail ≡ length new + length last = length-append new last in
      let all = length-append (take from cells) tail in omega (arith, fits, front, back, end, all)

  -- patching keeps the elements before the patch
  pub patched_before : (k : ℕ) → k < from → slice_get (patched from new cells) k ≡ slice_get cells k
  patched_before k lt = get_left (take from cells) tail k (omega (arith, lt, front)) ∙ in_take from cells k lt

  -- the patched places hold the new elements
  pub patched_at : (k : ℕ) → k < length new → slice_get (patched from new cells) (from + k) ≡ slice_get new k
  patched_at k lt =
      in_second (take from cells) tail (from + k) (omega (arith, front)) ∙
      same_place tail (from + k - length (take from cells)) k (omega (arith, front)) ∙ get_left new last k lt

  -- patching keeps the elements after the patch
  pub patched_after : (k : ℕ) → from + length new ≤ k → slice_get (patched from new cells) k ≡ slice_get cells k
  patched_after k le =
      in_second (take from cells) tail k (omega (arith, front, le)) ∙
      same_place tail (k - length (take from cells)) (k - from) (omega (arith, front)) ∙
      in_second new last (k - from) (omega (arith, le)) ∙ in_drop (from + length new) cells (k - from - length new) ∙
      same_place cells (from + length new + (k - from - length new)) k (omega (arith, le))

-- each place of `ins xs` holds its number
pub ins_get : (xs : List ℤ) (k : ℕ) (x : ℤ) → slice_get xs k ≡ Some x → slice_get (ins xs) k ≡ Some (Some x)
ins_get [] k x e = absurd (none-some x e)
ins_get (y ∷ xs) zero x e = ap (λ (o : ℤ). Some (Some o)) (same_Some y x e)
ins_get (y ∷ xs) (suc k) x e = ins_get xs k x e

pub get_ins : (xs : List ℤ) (k : ℕ) (x : ℤ) → slice_get (ins xs) k ≡ Some (Some x) → slice_get xs k ≡ Some x
get_ins [] k x e = absurd (none-some (Some x) e)
get_ins (y ∷ xs) zero x e = same_Some (Some y) (Some x) e
get_ins (y ∷ xs) (suc k) x e = get_ins xs k x e

-- `ins` and `outs` have the lengths of what they are made of
pub length_ins : (xs : List ℤ) → length (ins xs) ≡ length xs
length_ins [] = refl
length_ins (x ∷ xs) = ap suc (length_ins xs)

pub length_outs : (n : ℕ) → length (outs n) ≡ n
length_outs n = length-replicate n None

-- `ins xs` holds exactly the numbers `xs`
pub have_ins : (xs : List ℤ) → Have (ins xs) 0 xs
have_ins xs k x e = same_place (ins xs) (0 + k) k (omega arith) ∙ ins_get xs k x e

pub ins_same : (xs ys : List ℤ) → ins xs ≡ ins ys → xs ≡ ys
ins_same xs ys e =
    same_each xs ys (sym (length_ins xs) ∙ ap length e ∙ length_ins ys)
    (λ k x at. get_ins ys k x (ap (λ (l : Cells). slice_get l k) (sym e) ∙ ins_get xs k x at))

pub never_out : (xs : List ℤ) (k : ℕ) → slice_get (ins xs) k ≡ Some None → ⊥
never_out [] k e = none-some None e
never_out (x ∷ xs) zero e = none-some x (sym (same_Some (Some x) None e))
never_out (x ∷ xs) (suc k) e = never_out xs k e

has_each : (xs : List ℤ) (cells : Cells) → Have cells 0 xs
    → (k : ℕ) (o : Option ℤ) → slice_get (ins xs) k ≡ Some o → slice_get cells k ≡ Some o
has_each xs cells at k None is = absurd (never_out xs k is)
has_each xs cells at k (Some x) is = same_place cells k (0 + k) (omega arith) ∙ at k x (get_ins xs k x is)

-- if cells hold a number at each place, they are all in
pub ins_have : (xs : List ℤ) (cells : Cells) → Have cells 0 xs → length xs ≡ length cells → cells ≡ ins xs
ins_have xs cells at e = sym (same_each (ins xs) cells (length_ins xs ∙ e) (has_each xs cells at))

here : (xs : List ℤ) (cells : Cells) → ((k : ℕ) (x : ℤ) → slice_get xs k ≡ Some x → slice_get cells k ≡ Some (Some x))
    → length xs ≤ length cells → cells ≡ ins xs ++ drop (length xs) cells
here [] cells at le = refl
here (x ∷ xs) [] at le = absurd (omega (arith, le))
here (x ∷ xs) (c ∷ cells) at le =
    let rest = here xs cells (λ k. at (suc k)) (omega (arith, le)) in
    ap₂ (λ (a : Option ℤ) (l : Cells). a ∷ l) (same_Some c (Some x) (at 0 x refl)) rest

-- if cells hold `xs` from `from` on, they are the cells before, `ins xs` and the cells after
pub middle : (from : ℕ) (xs : List ℤ) (cells : Cells) → Have cells from xs → from + length xs ≤ length cells
    → cells ≡ take from cells ++ (ins xs ++ drop (from + length xs) cells)
middle zero xs cells at le =
    here xs cells (λ k x e. same_place cells k (0 + k) (omega arith) ∙ at k x e) (omega (arith, le)) ∙
    ap (λ (j : ℕ). ins xs ++ drop j cells) (let z : length xs ≡ 0 + length xs = omega arith in z)
middle (suc n) xs [] at le = absurd (omega (arith, le))
middle (suc n) xs (c ∷ cells) at le =
    let less : Have cells n xs = λ k x e. same_place (c ∷ cells) (suc (n + k)) (suc n + k) (omega arith) ∙ at k x e in
    let up : suc (n + length xs) ≡ suc n + length xs = omega arith in
    ap (λ (l : Cells). c ∷ l) (middle n xs cells less (omega (arith, le))
    ∙ ap (λ (j : ℕ). take n cells ++ (ins xs ++ drop j (c ∷ cells))) up)

-- a list is the part before a place, the element at that place and the part after it
pub at_place : {X : Type 0} (cells : List X) (i : ℕ) (c : X) → slice_get cells i ≡ Some c
    → cells ≡ take i cells ++ (c ∷ drop (suc i) cells)
at_place [] i c e = absurd (none-some c e)
at_place {X = X} (d ∷ cells) zero c e = ap (λ (a : X). a ∷ cells) (same_Some d c e)
at_place {X = X} (d ∷ cells) (suc i) c e = ap (λ (l : List X). d ∷ l) (at_place cells i c e)

pub set_place : {X : Type 0} (cells : List X) (i : ℕ) (c : X) → i < length cells
    → slice_set cells i c ≡ take i cells ++ (c ∷ drop (suc i) cells)
set_place [] i c lt = absurd (omega (arith, lt))
set_place (d ∷ cells) zero c lt = refl
set_place {X = X} (d ∷ cells) (suc i) c lt = ap (λ (l : List X). d ∷ l) (set_place cells i c (omega (arith, lt)))

alike_here : {X : Type 0} (n : ℕ) (v : X) (xs : List X) → ((k : ℕ) → k < n → slice_get xs k ≡ Some v)
    → n ≤ length xs → xs ≡ replicate n v ++ drop n xs
alike_here zero v xs at le = refl
alike_here (suc n) v [] at le = absurd (omega (arith, le))
alike_here {X = X} (suc n) v (x ∷ xs) at le =
    ap₂ (λ (a : X) (l : List X). a ∷ l) (same_Some x v (at 0 (omega arith)))
    (alike_here n v xs (λ k lt. at (suc k) (omega (arith, lt))) (omega (arith, le)))

-- a list with the same element at `n` places is the part before them, that element `n` times, and the part after
pub alike_middle : {X : Type 0} (from n : ℕ) (v : X) (xs : List X)
    → ((k : ℕ) → k < n → slice_get xs (from + k) ≡ Some v) → from + n ≤ length xs
    → xs ≡ take from xs ++ (replicate n v ++ drop (from + n) xs)
alike_middle zero n v xs at le =
    alike_here n v xs (λ k lt. same_place xs k (0 + k) (omega arith) ∙ at k lt) (omega (arith, le)) ∙
    ap (λ (j : ℕ). replicate n v ++ drop j xs) (let z : n ≡ 0 + n = omega arith in z)
alike_middle (suc f) n v [] at le = absurd (omega (arith, le))
alike_middle {X = X} (suc f) n v (x ∷ xs) at le =
    let less = λ (k : ℕ) (lt : k < n). same_place (x ∷ xs) (suc (f + k)) (suc f + k) (omega arith) ∙ at k lt in
    let up : suc (f + n) ≡ suc f + n = omega arith in
    ap (λ (l : List X). x ∷ l) (alike_middle f n v xs less (omega (arith, le))
    ∙ ap (λ (j : ℕ). take f xs ++ (replicate n v ++ drop j (x ∷ xs))) up)

pub length_replicated : {X : Type 0} (n : ℕ) (v : X) → length (replicate n v) ≡ n
length_replicated n v = length-replicate n v

pub get_replicated : {X : Type 0} (n : ℕ) (v : X) (k : ℕ) → k < n → slice_get (replicate n v) k ≡ Some v
get_replicated zero v k lt = absurd (omega (arith, lt))
get_replicated (suc n) v zero lt = refl
get_replicated (suc n) v (suc k) lt = get_replicated n v k (omega (arith, lt))

-- numbers that were given back are in
pub have_back : (from : ℕ) (xs : List ℤ) (cells : Cells) → from + length xs ≤ length cells
    → Have (patched from (ins xs) cells) from xs
have_back from xs cells fits k x e =
    let as_many = length_ins xs in let lt : k < length xs = slice_get_within xs k x e in
    patched_at from (ins xs) cells (omega (arith, fits, as_many)) k (omega (arith, as_many, lt)) ∙ ins_get xs k x e

-- each cell has a number and a mark, and all marks of `ins xs` are true
pub length_numbers : (cells : Cells) → length (numbers cells) ≡ length cells
length_numbers [] = refl
length_numbers (Some x ∷ cells) = ap suc (length_numbers cells)
length_numbers (None ∷ cells) = ap suc (length_numbers cells)

pub length_marks : (cells : Cells) → length (marks cells) ≡ length cells
length_marks [] = refl
length_marks (Some x ∷ cells) = ap suc (length_marks cells)
length_marks (None ∷ cells) = ap suc (length_marks cells)

pub marks_ins : (xs : List ℤ) → marks (ins xs) ≡ replicate (length xs) true
marks_ins [] = refl
marks_ins (x ∷ xs) = ap (λ (l : List Bool). true ∷ l) (marks_ins xs)

-- each place of `ins xs` is in
pub in_ins : (xs : List ℤ) (k : ℕ) → k < length xs → IsIn (ins xs) k
in_ins xs k lt = let x = there_at xs k lt in (x.0, ins_get xs k x.0 x.1)

-- a place outside the patch that was in is still in
pub in_beside : (from : ℕ) (new cells : Cells) (k : ℕ) → from + length new ≤ length cells
    → (k < from) ⊎ (from + length new ≤ k) → IsIn cells k → IsIn (patched from new cells) k
in_beside from new cells k fits (inl before) is = (is.0, patched_before from new cells fits k before ∙ is.1)
in_beside from new cells k fits (inr after) is = (is.0, patched_after from new cells fits k after ∙ is.1)

-- each place that `Have` covers is in
pub in_have : (cells : Cells) (from k : ℕ) (xs : List ℤ) → Have cells from xs → k < length xs → IsIn cells (from + k)
in_have cells from k xs has lt = let x = there_at xs k lt in (x.0, has k x.0 x.1)

-- each place that was given back is in
pub in_back : (from : ℕ) (xs : List ℤ) (cells : Cells) (k : ℕ) → from + length xs ≤ length cells → k < length xs
    → IsIn (patched from (ins xs) cells) (from + k)
in_back from xs cells k fits lt = in_have (patched from (ins xs) cells) from k xs (have_back from xs cells fits) lt

one_more : (c : Option ℤ) (cells : Cells) (x : ℤ) (xs : List ℤ) → Some c ≡ Some (Some x)
    → ((k : ℕ) (y : ℤ) → slice_get xs k ≡ Some y → slice_get cells k ≡ Some (Some y))
    → (k : ℕ) (y : ℤ) → slice_get (x ∷ xs) k ≡ Some y → slice_get (c ∷ cells) k ≡ Some (Some y)
one_more c cells x xs is rest zero y e = is ∙ ap (λ (z : ℤ). Some (Some z)) (same_Some x y e)
one_more c cells x xs is rest (suc k) y e = rest k y e

listed : (count : ℕ) (cells : Cells) → ((k : ℕ) → k < count → IsIn cells k)
    → (xs : List ℤ) × (length xs ≡ count) ×
    ((k : ℕ) (x : ℤ) → slice_get xs k ≡ Some x → slice_get cells k ≡ Some (Some x))
listed zero cells all = ([], refl, λ k x e. absurd (none-some x e))
listed (suc n) [] all = absurd (none-some (Some (all 0 (omega arith)).0) (all 0 (omega arith)).1)
listed (suc n) (c ∷ cells) all =
    let x = all 0 (omega arith) in let rest = listed n cells (λ k lt. all (suc k) (omega (arith, lt))) in
    (x.0 ∷ rest.0, ap suc rest.1, one_more c cells x.0 rest.0 x.1 rest.2)

-- cells that are in one by one are in together
pub are_in : (cells : Cells) (from count : ℕ) → ((k : ℕ) → k < count → IsIn cells (from + k)) → AreIn cells from count
are_in cells from count all =
    let got = listed count (drop from cells) (λ k lt. ((all k lt).0, in_drop from cells k ∙ (all k lt).1)) in
    (got.0, got.1, λ k x e. sym (in_drop from cells k) ∙ got.2 k x e)
