-- Each leaf belongs to one site, so the sites' own work and own spans add up to the whole.
use Rattle.std.proofs.Common.{◌≡◌, ℕ, zero, suc, ◌+◌, ◌<◌, ◌≤◌, Bool, true, false, List, [], ◌∷◌, ◌++◌, arith, refl, sym, ◌∙◌, ap, add-zero}
use Prim.Native.Nat.add
use Rattle.std.specs.Prelude.{nat_le, nat_lt, if◌then◌else◌, ◌==◌, sum_by}
use Rattle.std.specs.List.{range_with_len}
use Rattle.std.proofs.lemmas.Bool.{and_parts, ltb-true, leb-true, leb-false, eqb-true, eqb-false}
use Rattle.std.proofs.lemmas.List.Sums.{sum_by-append, sum_by-cons}
use Rattle.cw_model.specs.Trees.{Invocation, Execution, Tree, Leaf, Seq, Par, Marked, work, span}
use Rattle.cw_model.specs.Rows.{leaves, chosen_leaves, site_inside, weight_of_site, sites_below}
use Rattle.cw_model.specs.TreeLaws.{SitesAddUp}
use Rattle.cw_model.specs.lemmas.Regrouping.{weight_if, weight_of_leaf, weight-append}

-- the weight of all leaves
abbrev weight : List (ℕ × ℕ) → ℕ
weight xs = sum_by (λ (leaf : ℕ × ℕ). leaf.1) xs

-- sums of equal functions, and sums of sums
sum_by-same : (f g : ℕ → ℕ) (xs : List ℕ) → ((x : ℕ) → f x ≡ g x) → sum_by f xs ≡ sum_by g xs
sum_by-same f g [] h = refl
sum_by-same f g (x ∷ xs) h = rw (sum_by-cons f x xs, sum_by-cons g x xs, h x, sum_by-same f g xs h) refl

sum_by-+ : (f g : ℕ → ℕ) (xs : List ℕ) → sum_by (λ x. f x + g x) xs ≡ sum_by f xs + sum_by g xs
sum_by-+ f g [] = refl
sum_by-+ f g (x ∷ xs) = rw (sum_by-cons (λ x. f x + g x) x xs, sum_by-cons f x xs, sum_by-cons g x xs) (omega (arith, sum_by-+ f g xs))

sum_of_none : (xs : List ℕ) → sum_by (λ x. 0) xs ≡ 0
sum_of_none [] = refl
sum_of_none (x ∷ xs) = sum_by-cons (λ x. 0) x xs ∙ add.zero _ ∙ sum_of_none xs

-- the contribution of one leaf to the sites from a number on
no_site : (site k a n : ℕ) → site < a → sum_by (λ s. weight_if (site == s) k) (range_with_len a n) ≡ 0
no_site site k a zero h = refl
no_site site k a (suc n) h =
    rw (sum_by-cons (λ s. weight_if (site == s) k) a (range_with_len (a + 1) n), no_site site k (a + 1) n (omega arith), other (site == a) refl) refl
  where
    other : (b : Bool) → site == a ≡ b → weight_if b k ≡ 0
    other true e = absurd (omega (arith, eqb-true site a e))
    other false e = refl

one_site : (site k a n : ℕ) → a ≤ site → site < a + n → sum_by (λ s. weight_if (site == s) k) (range_with_len a n) ≡ k
one_site site k a zero h l = absurd (omega arith)
one_site site k a (suc n) h l = sum_by-cons (λ s. weight_if (site == s) k) a (range_with_len (a + 1) n) ∙ by_test (site == a) refl (one_site site k (a + 1) n)
  where
    by_test : (b : Bool) → site == a ≡ b → (a + 1 ≤ site → site < a + 1 + n → sum_by (λ s. weight_if (site == s) k) (range_with_len (a + 1) n) ≡ k) →
        weight_if b k + sum_by (λ s. weight_if (site == s) k) (range_with_len (a + 1) n) ≡ k
    by_test true e more = rw (no_site site k (a + 1) n (omega (arith, eqb-true site a e))) (add-zero k)
    by_test false e more = rw (more (omega (arith, eqb-false site a e)) (omega arith)) (add.zero k)

-- each leaf belongs to a site below a number
abbrev AllBelow : ℕ → List (ℕ × ℕ) → Type 0
AllBelow count [] = Unit {0}
AllBelow count (leaf ∷ xs) = (leaf.0 < count) × AllBelow count xs

AllBelow-append : (count : ℕ) (xs ys : List (ℕ × ℕ)) → AllBelow count xs → AllBelow count ys → AllBelow count (xs ++ ys)
AllBelow-append count [] ys h k = k
AllBelow-append count (x ∷ xs) ys h k = (h.0, AllBelow-append count xs ys h.1 k)

weights_add_up : (count : ℕ) (xs : List (ℕ × ℕ)) → AllBelow count xs → sum_by (λ site. weight_of_site site xs) (range_with_len 0 count) ≡ weight xs
weights_add_up count [] h = sum_of_none (range_with_len 0 count)
weights_add_up count (leaf ∷ xs) h =
    let cut : (site : ℕ) → weight_of_site site (leaf ∷ xs) ≡ weight_if (leaf.0 == site) leaf.1 + weight_of_site site xs =
    λ site. weight-append site (leaf ∷ []) xs ∙ ap (λ n. n + weight_of_site site xs) (weight_of_leaf site leaf.0 leaf.1) in
    sum_by-same (λ site. weight_of_site site (leaf ∷ xs)) (λ site. weight_if (leaf.0 == site) leaf.1 + weight_of_site site xs) (range_with_len 0 count) cut
    ∙ sum_by-+ (λ site. weight_if (leaf.0 == site) leaf.1) (λ site. weight_of_site site xs) (range_with_len 0 count)
    ∙ rw (one_site leaf.0 leaf.1 0 count (omega arith) (omega (arith, h.0)), weights_add_up count xs h.1) (sym (sum_by-cons (λ (leaf : ℕ × ℕ). leaf.1) leaf xs))

leaves_below : (count outer : ℕ) (t : Tree) → outer < count → sites_below count t ≡ true → AllBelow count (leaves outer t)
leaves_below count outer (Leaf k) h s = (h, tt)
leaves_below count outer (Seq a b) h s =
    let parts = and_parts (sites_below count a) (sites_below count b) s in
    AllBelow-append count (leaves outer a) (leaves outer b) (leaves_below count outer a h parts.0) (leaves_below count outer b h parts.1)
leaves_below count outer (Par a b) h s =
    let parts = and_parts (sites_below count a) (sites_below count b) s in
    AllBelow-append count (leaves outer a) (leaves outer b) (leaves_below count outer a h parts.0) (leaves_below count outer b h parts.1)
leaves_below count outer (Marked (Invocation site) t) h s =
    let parts = and_parts (nat_lt site count) (sites_below count t) s in
    leaves_below count site t (ltb-true site count parts.0) parts.1
leaves_below count outer (Marked (Execution tag) t) h s = leaves_below count outer t h s

chosen_below : (count outer : ℕ) (t : Tree) → outer < count → sites_below count t ≡ true → AllBelow count (chosen_leaves outer t)
chosen_below count outer (Leaf k) h s = (h, tt)
chosen_below count outer (Seq a b) h s =
    let parts = and_parts (sites_below count a) (sites_below count b) s in
    AllBelow-append count (chosen_leaves outer a) (chosen_leaves outer b) (chosen_below count outer a h parts.0) (chosen_below count outer b h parts.1)
chosen_below count outer (Par child rest) h s =
    let parts = and_parts (sites_below count child) (sites_below count rest) s in
    by_test (nat_le (span rest) (span child)) (chosen_below count outer child h parts.0) (chosen_below count outer rest h parts.1)
  where
    by_test : (b : Bool) → AllBelow count (chosen_leaves outer child) → AllBelow count (chosen_leaves outer rest) →
        AllBelow count (if b then chosen_leaves outer child else chosen_leaves outer rest)
    by_test true k l = k
    by_test false k l = l
chosen_below count outer (Marked (Invocation site) t) h s =
    let parts = and_parts (nat_lt site count) (sites_below count t) s in
    chosen_below count site t (ltb-true site count parts.0) parts.1
chosen_below count outer (Marked (Execution tag) t) h s = chosen_below count outer t h s

weight-append_all : (xs ys : List (ℕ × ℕ)) → weight (xs ++ ys) ≡ weight xs + weight ys
weight-append_all xs ys = sum_by-append (λ (leaf : ℕ × ℕ). leaf.1) xs ys

weight-leaves : (outer : ℕ) (t : Tree) → weight (leaves outer t) ≡ work t
weight-leaves outer (Leaf k) = add.zero k
weight-leaves outer (Seq a b) = weight-append_all (leaves outer a) (leaves outer b) ∙ rw (weight-leaves outer a, weight-leaves outer b) refl
weight-leaves outer (Par a b) = weight-append_all (leaves outer a) (leaves outer b) ∙ rw (weight-leaves outer a, weight-leaves outer b) refl
weight-leaves outer (Marked mark t) = weight-leaves (site_inside mark outer) t

weight-chosen : (outer : ℕ) (t : Tree) → weight (chosen_leaves outer t) ≡ span t
weight-chosen outer (Leaf k) = add.zero k
weight-chosen outer (Seq a b) = weight-append_all (chosen_leaves outer a) (chosen_leaves outer b) ∙ rw (weight-chosen outer a, weight-chosen outer b) refl
weight-chosen outer (Par child rest) = by_test (nat_le (span rest) (span child)) refl (weight-chosen outer child) (weight-chosen outer rest)
  where
    by_test : (b : Bool) → nat_le (span rest) (span child) ≡ b → weight (chosen_leaves outer child) ≡ span child → weight (chosen_leaves outer rest) ≡ span rest →
        weight (if b then chosen_leaves outer child else chosen_leaves outer rest) ≡ span (Par child rest)
    by_test true e k l = k ∙ omega (arith, leb-true (span rest) (span child) e)
    by_test false e k l = l ∙ omega (arith, leb-false (span rest) (span child) e)
weight-chosen outer (Marked mark t) = weight-chosen (site_inside mark outer) t

pub sites_add_up : (count : ℕ) (t : Tree) → 0 < count → sites_below count t ≡ true → SitesAddUp count t
sites_add_up count t h s = record {
  work_adds_up = weights_add_up count (leaves 0 t) (leaves_below count 0 t h s) ∙ weight-leaves 0 t;
  span_adds_up = weights_add_up count (chosen_leaves 0 t) (chosen_below count 0 t h s) ∙ weight-chosen 0 t;
}
