-- A tree with zero-cost sites keeps its grouping, and depends only on the sites in it.
use Rattle.std.proofs.Common.{◌≡◌, ℕ, ◌+◌, ◌<◌, Bool, true, false, refl}
use Rattle.std.specs.Prelude.{nat_lt, if◌then◌else◌}
use Rattle.std.proofs.lemmas.Bool.{and_parts, ltb-true}
use Rattle.cw_model.specs.Trees.{Invocation, Execution, Tree, Leaf, Seq, Par, Marked}
use Rattle.cw_model.specs.Rows.{site_inside, sites_below}
use Rattle.cw_model.specs.TreeLaws.{Regrouped, same, back, further, to_the_right, as_one_strand, nothing_before}
use Rattle.cw_model.specs.TreeLaws.{nothing_after, in_series, in_fork, in_mark}
use Rattle.cw_model.specs.Freed.{freed}

pub freed_regrouped : (frees : ℕ → Bool) (outer : ℕ) {t u : Tree} → Regrouped t u
    → Regrouped (freed frees outer t) (freed frees outer u)
freed_regrouped frees outer (same t) = same (freed frees outer t)
freed_regrouped frees outer (back r) = back (freed_regrouped frees outer r)
freed_regrouped frees outer (further r s) = further (freed_regrouped frees outer r) (freed_regrouped frees outer s)
freed_regrouped frees outer (to_the_right a b c) =
    to_the_right (freed frees outer a) (freed frees outer b) (freed frees outer c)
freed_regrouped frees outer (as_one_strand j k) = by_test (frees outer)
  where
    by_test : (b : Bool) → Regrouped (Seq (Leaf (if b then 0 else j)) (Leaf (if b then 0 else k)))
        (Leaf (if b then 0 else (j + k)))
    by_test true = nothing_before (Leaf 0)
    by_test false = as_one_strand j k
freed_regrouped frees outer (nothing_before t) = by_test (frees outer)
  where
    by_test : (b : Bool) → Regrouped (Seq (Leaf (if b then 0 else 0)) (freed frees outer t)) (freed frees outer t)
    by_test true = nothing_before (freed frees outer t)
    by_test false = nothing_before (freed frees outer t)
freed_regrouped frees outer (nothing_after t) = by_test (frees outer)
  where
    by_test : (b : Bool) → Regrouped (Seq (freed frees outer t) (Leaf (if b then 0 else 0))) (freed frees outer t)
    by_test true = nothing_after (freed frees outer t)
    by_test false = nothing_after (freed frees outer t)
freed_regrouped frees outer (in_series r s) =
    in_series (freed_regrouped frees outer r) (freed_regrouped frees outer s)
freed_regrouped frees outer (in_fork r s) = in_fork (freed_regrouped frees outer r) (freed_regrouped frees outer s)
freed_regrouped frees outer (in_mark mark r) = in_mark mark (freed_regrouped frees (site_inside mark outer) r)

module _ (count : ℕ) (frees others : ℕ → Bool) (agree : (site : ℕ) → site < count → frees site ≡ others site) where
  pub freed_agrees : (outer : ℕ) (t : Tree) → outer < count → sites_below count t ≡ true
      → freed frees outer t ≡ freed others outer t
  freed_agrees outer (Leaf k) h s = rw (agree outer h) refl
  freed_agrees outer (Seq a b) h s =
      let parts = and_parts (sites_below count a) (sites_below count b) s in
      rw (freed_agrees outer a h parts.0, freed_agrees outer b h parts.1) refl
  freed_agrees outer (Par a b) h s =
      let parts = and_parts (sites_below count a) (sites_below count b) s in
      rw (freed_agrees outer a h parts.0, freed_agrees outer b h parts.1) refl
  freed_agrees outer (Marked (Invocation site) t) h s =
      let parts = and_parts (nat_lt site count) (sites_below count t) s in
      rw (freed_agrees site t (ltb-true site count parts.0) parts.1) refl
  freed_agrees outer (Marked (Execution tag) t) h s = rw (freed_agrees outer t h s) refl
