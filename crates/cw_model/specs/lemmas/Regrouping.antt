-- Trees that differ only in grouping have one normal form and equal measures.
use Rattle.std.proofs.Common.{◌≡◌, ℕ, zero, suc, ◌+◌, Bool, true, false, List, [], ◌∷◌, ◌++◌, arith, refl, sym, ◌∙◌}
use Rattle.std.proofs.Common.{ap, add-zero, suc-add, append_assoc, append-nil}
use Prim.Native.Nat.add
use Rattle.std.specs.Prelude.{nat_le, if◌then◌else◌, ◌==◌, sum_by, filter}
use Rattle.std.proofs.lemmas.List.Sums.{sum_by-append}
use Rattle.std.proofs.lemmas.List.Elements.{filter-append}
use Rattle.cw_model.specs.declared.burden.Burden.{Burden}
use Rattle.cw_model.specs.Burdens.{no_burden}
use Rattle.cw_model.specs.Trees.{Mark, Tree, Leaf, Seq, Par, Marked, work, span, burdened_span, leaf_before}
use Rattle.cw_model.specs.Trees.{part_before, before, normal}
use Rattle.cw_model.specs.Rows.{leaves, chosen_leaves, site_inside, weight_of_site, is_site, is_tag, outermost}
use Rattle.cw_model.specs.Rows.{calls_of}
use Rattle.cw_model.specs.TreeLaws.{Regrouped, same, back, further, to_the_right, as_one_strand, nothing_before}
use Rattle.cw_model.specs.TreeLaws.{nothing_after, in_series, in_fork, in_mark, ReadSame}

-- two strands before a tree merge into one
leaf-leaf_before : (j k : ℕ) (t : Tree) → leaf_before j (leaf_before k t) ≡ leaf_before (j + k) t
leaf-leaf_before zero k t = rw add.zero refl
leaf-leaf_before (suc j) zero t = rw add-zero refl
leaf-leaf_before (suc j) (suc k) t = go t (suc j + suc k) (omega arith)
  where
    go : (t : Tree) (n : ℕ) → n ≡ suc (j + suc k) → leaf_before (suc j) (leaf_before (suc k) t) ≡ leaf_before n t
    go (Leaf i) n e = rw e (ap Leaf (omega arith))
    go (Seq (Leaf i) t) n e = rw e (ap (λ m. Seq (Leaf m) t) (omega arith))
    go t n e = rw e (rw suc-add refl)

pub same_before : {t u : Tree} → Regrouped t u → (later : Tree) → before t later ≡ before u later
same_before (same t) later = refl
same_before (back r) later = sym (same_before r later)
same_before (further r s) later = same_before r later ∙ same_before s later
same_before (to_the_right a b c) later = refl
same_before (as_one_strand j k) later = leaf-leaf_before j k later
same_before (nothing_before t) later = refl
same_before (nothing_after t) later = refl
same_before (in_series {a = a} {a' = a'} {b = b} {b' = b'} r s) later =
    same_before r (before b later) ∙ ap (before a') (same_before s later)
same_before (in_fork r s) later = rw (same_before r (Leaf 0), same_before s (Leaf 0)) refl
same_before (in_mark mark r) later = rw (same_before r (Leaf 0)) refl

-- a strand before a tree equals, up to grouping, the series of both
leaf_is_before : (k : ℕ) (t : Tree) → Regrouped (leaf_before k t) (Seq (Leaf k) t)
leaf_is_before zero t = back (nothing_before t)
leaf_is_before (suc k) (Leaf j) = back (as_one_strand (suc k) j)
leaf_is_before (suc k) (Seq (Leaf j) t) =
    further (in_series (back (as_one_strand (suc k) j)) (same t)) (to_the_right (Leaf (suc k)) (Leaf j) t)
leaf_is_before (suc k) _ = same _

part_is_before : (part t : Tree) → Regrouped (part_before part t) (Seq part t)
part_is_before part (Leaf zero) = back (nothing_after part)
part_is_before part _ = same _

is_before : (t later : Tree) → Regrouped (before t later) (Seq t later)
is_before (Leaf k) later = leaf_is_before k later
is_before (Seq a b) later =
    further (is_before a (before b later))
    (further (in_series (same a) (is_before b later)) (back (to_the_right a b later)))
is_before (Par child rest) later =
    further (part_is_before (Par (before child (Leaf 0)) (before rest (Leaf 0))) later)
    (in_series (in_fork (further (is_before child (Leaf 0)) (nothing_after child))
    (further (is_before rest (Leaf 0)) (nothing_after rest))) (same later))
is_before (Marked mark t) later =
    further (part_is_before (Marked mark (before t (Leaf 0))) later)
    (in_series (in_mark mark (further (is_before t (Leaf 0)) (nothing_after t))) (same later))

-- the normal form of a tree differs from the tree only in grouping
pub normal_is_regrouped : (t : Tree) → Regrouped (normal t) t
normal_is_regrouped t = further (is_before t (Leaf 0)) (nothing_after t)

-- trees that differ only in grouping have the same normal form
pub same_normal : (t u : Tree) → Regrouped t u → normal t ≡ normal u
same_normal t u r = same_before r (Leaf 0)

pub normal-normal : (t : Tree) → normal (normal t) ≡ normal t
normal-normal t = same_normal (normal t) t (normal_is_regrouped t)

-- Each measure is equal for trees that differ only in grouping.

same_work : {t u : Tree} → Regrouped t u → work t ≡ work u
same_work (same t) = refl
same_work (back r) = sym (same_work r)
same_work (further r s) = same_work r ∙ same_work s
same_work (to_the_right a b c) = omega arith
same_work (as_one_strand j k) = omega arith
same_work (nothing_before t) = omega arith
same_work (nothing_after t) = omega arith
same_work (in_series r s) = omega (arith, same_work r, same_work s)
same_work (in_fork r s) = omega (arith, same_work r, same_work s)
same_work (in_mark mark r) = same_work r

same_burdened : (burden : Burden) {t u : Tree} → Regrouped t u → burdened_span burden t ≡ burdened_span burden u
same_burdened burden (same t) = refl
same_burdened burden (back r) = sym (same_burdened burden r)
same_burdened burden (further r s) = same_burdened burden r ∙ same_burdened burden s
same_burdened burden (to_the_right a b c) = omega arith
same_burdened burden (as_one_strand j k) = omega arith
same_burdened burden (nothing_before t) = omega arith
same_burdened burden (nothing_after t) = omega arith
same_burdened burden (in_series r s) = omega (arith, same_burdened burden r, same_burdened burden s)
same_burdened burden (in_fork r s) = omega (arith, same_burdened burden r, same_burdened burden s)
same_burdened burden (in_mark mark r) = same_burdened burden r

same_calls : (site : ℕ) {t u : Tree} → Regrouped t u → calls_of site t ≡ calls_of site u
same_calls site (same t) = refl
same_calls site (back r) = sym (same_calls site r)
same_calls site (further r s) = same_calls site r ∙ same_calls site s
same_calls site (to_the_right a b c) = omega arith
same_calls site (as_one_strand j k) = omega arith
same_calls site (nothing_before t) = omega arith
same_calls site (nothing_after t) = omega arith
same_calls site (in_series r s) = omega (arith, same_calls site r, same_calls site s)
same_calls site (in_fork r s) = omega (arith, same_calls site r, same_calls site s)
same_calls site (in_mark mark r) = rw (same_calls site r) refl

pub weight-append : (site : ℕ) (xs ys : List (ℕ × ℕ))
    → weight_of_site site (xs ++ ys) ≡ weight_of_site site xs + weight_of_site site ys
weight-append site xs ys =
    rw filter-append (sum_by-append (λ (leaf : ℕ × ℕ). leaf.1) (filter (λ leaf. leaf.0 == site) xs)
    (filter (λ leaf. leaf.0 == site) ys))

-- the weight of a leaf if it belongs to the site, otherwise 0
abbrev pub weight_if : Bool → ℕ → ℕ
weight_if true k = k
weight_if false k = 0

pub weight_of_leaf : (site outer k : ℕ) → weight_of_site site ((outer, k) ∷ []) ≡ weight_if (outer == site) k
weight_of_leaf site outer k = by_test (outer == site)
  where
    by_test : (b : Bool) → sum_by (λ (leaf : ℕ × ℕ). leaf.1) (if b then (outer, k) ∷ [] else []) ≡ weight_if b k
    by_test true = omega arith
    by_test false = refl

weight_of_joined : (site outer j k : ℕ) →
    weight_of_site site ((outer, j) ∷ []) + weight_of_site site ((outer, k) ∷ [])
    ≡ weight_of_site site ((outer, j + k) ∷ [])
weight_of_joined site outer j k =
    rw (weight_of_leaf site outer j, weight_of_leaf site outer k, weight_of_leaf site outer (j + k))
    (by_test (outer == site))
  where
    by_test : (b : Bool) → weight_if b j + weight_if b k ≡ weight_if b (j + k)
    by_test true = refl
    by_test false = omega arith

no_weight : (site outer : ℕ) → weight_of_site site ((outer, 0) ∷ []) ≡ 0
no_weight site outer = weight_of_leaf site outer 0 ∙ by_test (outer == site)
  where
    by_test : (b : Bool) → weight_if b 0 ≡ 0
    by_test true = refl
    by_test false = refl

same_leaves : (site outer : ℕ) {t u : Tree} → Regrouped t u
    → weight_of_site site (leaves outer t) ≡ weight_of_site site (leaves outer u)
same_leaves site outer (same t) = refl
same_leaves site outer (back r) = sym (same_leaves site outer r)
same_leaves site outer (further r s) = same_leaves site outer r ∙ same_leaves site outer s
same_leaves site outer (to_the_right a b c) = rw append_assoc refl
same_leaves site outer (as_one_strand j k) =
    weight-append site ((outer, j) ∷ []) ((outer, k) ∷ []) ∙ weight_of_joined site outer j k
same_leaves site outer (nothing_before t) =
    weight-append site ((outer, 0) ∷ []) (leaves outer t) ∙ ap (λ n. n + weight_of_site site (leaves outer t))
    (no_weight site outer) ∙ add.zero _
same_leaves site outer (nothing_after t) =
    weight-append site (leaves outer t) ((outer, 0) ∷ []) ∙ ap (λ n. weight_of_site site (leaves outer t) + n)
    (no_weight site outer) ∙ add-zero _
same_leaves site outer (in_series {a = a} {a' = a'} {b = b} {b' = b'} r s) =
    rw (
      weight-append site (leaves outer a) (leaves outer b),
      weight-append site (leaves outer a') (leaves outer b'),
      same_leaves site outer r,
      same_leaves site outer s,
    ) refl
same_leaves site outer (in_fork {child = a} {child' = a'} {rest = b} {rest' = b'} r s) =
    rw (
      weight-append site (leaves outer a) (leaves outer b),
      weight-append site (leaves outer a') (leaves outer b'),
      same_leaves site outer r,
      same_leaves site outer s,
    ) refl
same_leaves site outer (in_mark mark r) = same_leaves site (site_inside mark outer) r

-- a choice by equal weights between lists of equal weights
same_choice : (site : ℕ) (m n m' n' : ℕ) (xs ys xs' ys' : List (ℕ × ℕ)) → m ≡ m' → n ≡ n' →
    weight_of_site site xs ≡ weight_of_site site xs' → weight_of_site site ys ≡ weight_of_site site ys' →
    weight_of_site site (if nat_le m n then xs else ys) ≡ weight_of_site site (if nat_le m' n' then xs' else ys')
same_choice site m n m' n' xs ys xs' ys' e f g h = rw (e, f) (by_test (nat_le m' n'))
  where
    by_test : (b : Bool) → weight_of_site site (if b then xs else ys) ≡ weight_of_site site (if b then xs' else ys')
    by_test true = g
    by_test false = h

same_chosen : (site outer : ℕ) {t u : Tree} → Regrouped t u
    → weight_of_site site (chosen_leaves outer t) ≡ weight_of_site site (chosen_leaves outer u)
same_chosen site outer (same t) = refl
same_chosen site outer (back r) = sym (same_chosen site outer r)
same_chosen site outer (further r s) = same_chosen site outer r ∙ same_chosen site outer s
same_chosen site outer (to_the_right a b c) = rw append_assoc refl
same_chosen site outer (as_one_strand j k) =
    weight-append site ((outer, j) ∷ []) ((outer, k) ∷ []) ∙ weight_of_joined site outer j k
same_chosen site outer (nothing_before t) =
    weight-append site ((outer, 0) ∷ []) (chosen_leaves outer t) ∙ ap
    (λ n. n + weight_of_site site (chosen_leaves outer t)) (no_weight site outer) ∙ add.zero _
same_chosen site outer (nothing_after t) =
    weight-append site (chosen_leaves outer t) ((outer, 0) ∷ []) ∙ ap
    (λ n. weight_of_site site (chosen_leaves outer t) + n) (no_weight site outer) ∙ add-zero _
same_chosen site outer (in_series {a = a} {a' = a'} {b = b} {b' = b'} r s) =
    rw (
      weight-append site (chosen_leaves outer a) (chosen_leaves outer b),
      weight-append site (chosen_leaves outer a')
          (chosen_leaves outer b'),
      same_chosen site outer r,
      same_chosen site outer s,
    ) refl
same_chosen site outer (in_fork {child = a} {child' = a'} {rest = b} {rest' = b'} r s) =
    same_choice site (span b) (span a) (span b') (span a') _ _ _ _ (same_burdened no_burden s)
    (same_burdened no_burden r)
    (same_chosen site outer r) (same_chosen site outer s)
same_chosen site outer (in_mark mark r) = same_chosen site (site_inside mark outer) r

-- a sum of a measure over the outermost marked parts
module _ (reading : Tree → ℕ) (marked : Mark → Bool) (keeps : (t u : Tree) → Regrouped t u → reading t ≡ reading u)
  where
    same_outermost : {t u : Tree} → Regrouped t u
        → sum_by reading (outermost marked t) ≡ sum_by reading (outermost marked u)
    same_outermost (same t) = refl
    same_outermost (back r) = sym (same_outermost r)
    same_outermost (further r s) = same_outermost r ∙ same_outermost s
    same_outermost (to_the_right a b c) = rw append_assoc refl
    same_outermost (as_one_strand j k) = refl
    same_outermost (nothing_before t) = refl
    same_outermost (nothing_after t) = rw append-nil refl
    same_outermost (in_series {a = a} {a' = a'} {b = b} {b' = b'} r s) =
        rw (
          sum_by-append reading (outermost marked a) (outermost marked b),
          sum_by-append reading (outermost marked a')
              (outermost marked b'),
          same_outermost r,
          same_outermost s,
        ) refl
    same_outermost (in_fork {child = a} {child' = a'} {rest = b} {rest' = b'} r s) =
        rw (
          sum_by-append reading (outermost marked a) (outermost marked b),
          sum_by-append reading (outermost marked a')
              (outermost marked b'),
          same_outermost r,
          same_outermost s,
        ) refl
    same_outermost (in_mark {t = t} {t' = t'} mark r) = by_test (marked mark) (same_outermost r)
      where
        by_test : (b : Bool) → sum_by reading (outermost marked t) ≡ sum_by reading (outermost marked t') →
            sum_by reading (if b then t ∷ [] else outermost marked t)
            ≡ sum_by reading (if b then t' ∷ [] else outermost marked t')
        by_test true e = ap (λ n. 0 + n) (keeps t t' r)
        by_test false e = e

pub same_readings : (t u : Tree) → Regrouped t u → ReadSame t u
same_readings t u r = record {
  same_work = same_work r;
  same_span = λ burden. same_burdened burden r;
  same_site_row = λ site.
      let calls = same_calls site r in
      let own_work = same_leaves site 0 r in
      let own_span = same_chosen site 0 r in
      let all_work = same_outermost work (is_site site) (λ t u r. same_work r) r in
      let all_span = same_outermost span (is_site site) (λ t u r. same_burdened no_burden r) r in
      cc;
  same_region_row = λ burden tag.
      let all_work = same_outermost work (is_tag tag) (λ t u r. same_work r) r in
      let all_span = same_outermost span (is_tag tag) (λ t u r. same_burdened no_burden r) r in
      let all_burdened = same_outermost (burdened_span burden) (is_tag tag) (λ t u r. same_burdened burden r) r in
      cc;
}
