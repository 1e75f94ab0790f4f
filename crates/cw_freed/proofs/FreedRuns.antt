-- Runs in which the instructions of free sites weigh nothing have the trees with zero-cost sites.
use Rattle.std.specs.Prelude.{ℕ, ◌≡◌, ◌+◌, ◌≤◌, Bool, true, false, List, [], ◌∷◌, ◌++◌, Option, Some, None, refl}
use Rattle.std.proofs.Common.{sym, ◌∙◌, ap, arith}
use Rattle.cw_model.specs.Trees.{Mark, Tree, Leaf, Seq, Par, Event, Work, Series, Join, parts_of, tree_of}
use Rattle.cw_model.specs.Trees as e
use Rattle.cw_model.specs.TreeLaws.{Regrouped, same, back, further, to_the_right, as_one_strand, nothing_before, nothing_after, in_series, in_fork, in_mark}
use Rattle.cw_model.specs.Rows.{site_inside}
use Rattle.cw_model.specs.Freed.{freed}
use Rattle.cw_measure.specs.OpenParts.{Open, marked, part_of, event_of, closed, has_spawned_from}
use Rattle.cw_sites.specs.OpenPaths.{inside}
use Rattle.cw_freed.specs.FreedRuns.{unless, freed_event, freed_events}

-- instructions that may be free
pub unless-none : (b : Bool) → unless b 0 ≡ 0
unless-none true = refl
unless-none false = refl

pub unless_within : (b : Bool) (k : ℕ) → unless b k ≤ k
unless_within true k = omega arith
unless_within false k = omega arith

pub unless-sum : (b : Bool) (j k : ℕ) → unless b (j + k) ≡ unless b j + unless b k
unless-sum true j k = refl
unless-sum false j k = refl

module _ (frees : ℕ → Bool) where
  pub freed-append : (site : ℕ) (es fs : List Event) → freed_events frees site (es ++ fs) ≡ freed_events frees site es ++ freed_events frees site fs
  freed-append site [] fs = refl
  freed-append site (d ∷ es) fs = ap (λ (x : List Event). freed_event frees site d ∷ x) (freed-append site es fs)

  -- the tree of events in which the instructions of free sites weigh nothing
  nothing : (site : ℕ) → Leaf 0 ≡ freed frees site (Leaf 0)
  nothing site = ap Leaf (sym (unless-none (frees site)))

  before_join : (site : ℕ) (es : List Event) → (parts_of (freed_events frees site es)).0 ≡ freed frees site (parts_of es).0
  before_join site [] = nothing site
  before_join site (Work k ∷ es) = ap (λ (x : Tree). Seq (Leaf (unless (frees site) k)) x) (before_join site es)
  before_join site (Series t ∷ es) = ap (λ (x : Tree). Seq (freed frees site t) x) (before_join site es)
  before_join site (e.Fork t ∷ es) = ap (λ (x : Tree). Par (freed frees site t) x) (before_join site es)
  before_join site (Join ∷ es) = nothing site

  behind_join : (site : ℕ) (es : List Event) → (parts_of (freed_events frees site es)).1 ≡ freed frees site (parts_of es).1
  behind_join site [] = nothing site
  behind_join site (Work k ∷ es) = behind_join site es
  behind_join site (Series t ∷ es) = behind_join site es
  behind_join site (e.Fork t ∷ es) = behind_join site es
  behind_join site (Join ∷ es) = ap (λ (x : Tree). Seq x (parts_of (freed_events frees site es)).1) (before_join site es)
      ∙ ap (λ (x : Tree). Seq (freed frees site (parts_of es).0) x) (behind_join site es)

  pub freed_tree : (site : ℕ) (es : List Event) → tree_of (freed_events frees site es) ≡ freed frees site (tree_of es)
  freed_tree site es = ap (λ (x : Tree). Seq x (parts_of (freed_events frees site es)).1) (before_join site es) ∙ ap (λ (x : Tree). Seq (freed frees site (parts_of es).0) x) (behind_join site es)

  -- whether a block has spawned
  pub freed_spawned : (b : Bool) (site : ℕ) (es : List Event) → has_spawned_from b (freed_events frees site es) ≡ has_spawned_from b es
  freed_spawned b site [] = refl
  freed_spawned b site (Work k ∷ es) = freed_spawned b site es
  freed_spawned b site (Series t ∷ es) = freed_spawned b site es
  freed_spawned b site (e.Fork t ∷ es) = freed_spawned true site es
  freed_spawned b site (Join ∷ es) = freed_spawned false site es

  -- a part that has ended
  freed_part : (site : ℕ) (spawned : Bool) (mark : Option Mark) (t : Tree) → part_of spawned (marked mark (freed frees (inside mark site) t)) ≡ freed_event frees site (part_of spawned (marked mark t))
  freed_part site true None t = refl
  freed_part site true (Some m) t = refl
  freed_part site false None t = refl
  freed_part site false (Some m) t = refl

  pub freed_closed : (o : Open) (site : ℕ) (es : List Event) → closed
      (record { spawned = o.spawned; mark = o.mark; outer = freed_events frees site o.outer }) (freed_events frees (inside o.mark site) es)
      ≡ freed_events frees site (closed o es)
  freed_closed o site es =
      ap (λ (x : Tree). freed_events frees site o.outer ++ part_of o.spawned (marked o.mark x) ∷ []) (freed_tree (inside o.mark site) es)
      ∙ ap (λ (x : Event). freed_events frees site o.outer ++ x ∷ []) (freed_part site o.spawned o.mark (tree_of es))
      ∙ sym (freed-append site o.outer (event_of o es ∷ []))

  -- trees that differ only in grouping still do if sites cost nothing
  pub freed_regrouped : (site : ℕ) {t u : Tree} → Regrouped t u → Regrouped (freed frees site t) (freed frees site u)
  freed_regrouped site (same t) = same (freed frees site t)
  freed_regrouped site (back r) = back (freed_regrouped site r)
  freed_regrouped site (further r s) = further (freed_regrouped site r) (freed_regrouped site s)
  freed_regrouped site (to_the_right a b c) = to_the_right (freed frees site a) (freed frees site b) (freed frees site c)
  freed_regrouped site (as_one_strand j k) = strands (frees site) j k
    where
      strands : (b : Bool) (j k : ℕ) → Regrouped (Seq (Leaf (unless b j)) (Leaf (unless b k))) (Leaf (unless b (j + k)))
      strands true j k = as_one_strand 0 0
      strands false j k = as_one_strand j k
  freed_regrouped site (nothing_before t) = none (frees site) (freed frees site t)
    where
      none : (b : Bool) (t : Tree) → Regrouped (Seq (Leaf (unless b 0)) t) t
      none true t = nothing_before t
      none false t = nothing_before t
  freed_regrouped site (nothing_after t) = none (frees site) (freed frees site t)
    where
      none : (b : Bool) (t : Tree) → Regrouped (Seq t (Leaf (unless b 0))) t
      none true t = nothing_after t
      none false t = nothing_after t
  freed_regrouped site (in_series r s) = in_series (freed_regrouped site r) (freed_regrouped site s)
  freed_regrouped site (in_fork r s) = in_fork (freed_regrouped site r) (freed_regrouped site s)
  freed_regrouped site (in_mark mark r) = in_mark mark (freed_regrouped (site_inside mark site) r)
