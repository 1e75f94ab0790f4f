-- The spans that a run would have if some sites cost nothing.
use Rattle.std.proofs.Common.{◌≡◌, ℕ, ◌+◌, ◌≤◌, Bool, true, false, ◌&&◌, ◌||◌, List, [], ◌∷◌, ◌++◌, arith, refl, ◌∙◌}
use Prim.Native.Nat.add
use Rattle.std.specs.Prelude.{nat_le, if◌then◌else◌, ◌==◌, sum_by, filter}
use Rattle.std.proofs.lemmas.Bool.{leb-true, leb-false}
use Rattle.std.proofs.lemmas.List.Sums.{sum_by-append, sum_by-cons}
use Rattle.std.proofs.lemmas.List.Elements.{filter-append}
use Rattle.cw_model.specs.declared.burden.Burden.{Burden}
use Rattle.cw_model.specs.Syntax.{Name}
use Rattle.cw_model.specs.Names.{same_name}
use Rattle.cw_model.specs.Trees.{Tree, Leaf, Seq, Par, Marked, span, burdened_span}
use Rattle.cw_model.specs.Rows.{chosen_leaves, site_inside, weight_of_site}
use Rattle.cw_model.specs.Sites.{CallSite}
use Rattle.cw_model.specs.Freed.{freed, span_if_free, burdened_if_free, is_site_of, over_sites}
use Rattle.cw_model.specs.lemmas.Regrouping.{weight_if, weight_of_leaf, weight-append}

-- No burdened span becomes larger.

at_most : (burden : Burden) (frees : ℕ → Bool) (outer : ℕ) (t : Tree)
    → burdened_span burden (freed frees outer t) ≤ burdened_span burden t
at_most burden frees outer (Leaf k) = by_test (frees outer)
  where
    by_test : (b : Bool) → (if b then 0 else k) ≤ k
    by_test true = omega arith
    by_test false = omega arith
at_most burden frees outer (Seq a b) = omega (arith, at_most burden frees outer a, at_most burden frees outer b)
at_most burden frees outer (Par a b) = omega (arith, at_most burden frees outer a, at_most burden frees outer b)
at_most burden frees outer (Marked mark t) = at_most burden frees (site_inside mark outer) t

pub never_above : (burden : Burden) (frees : ℕ → Bool) (t : Tree)
    → burdened_if_free burden frees t ≤ burdened_span burden t
never_above burden frees t = at_most burden frees 0 t

-- If no site costs nothing, the tree is unchanged; if all do, the span is 0.

freed_nothing : (frees : ℕ → Bool) → ((site : ℕ) → frees site ≡ false) → (outer : ℕ) (t : Tree) → freed frees outer t ≡ t
freed_nothing frees h outer (Leaf k) = rw (h outer) refl
freed_nothing frees h outer (Seq a b) = rw (freed_nothing frees h outer a, freed_nothing frees h outer b) refl
freed_nothing frees h outer (Par a b) = rw (freed_nothing frees h outer a, freed_nothing frees h outer b) refl
freed_nothing frees h outer (Marked mark t) = rw (freed_nothing frees h (site_inside mark outer) t) refl

pub nothing_freed : (frees : ℕ → Bool) (t : Tree) → ((site : ℕ) → frees site ≡ false) → freed frees 0 t ≡ t
nothing_freed frees t h = freed_nothing frees h 0 t

freed_all : (frees : ℕ → Bool) → ((site : ℕ) → frees site ≡ true) → (outer : ℕ) (t : Tree) → span (freed frees outer t) ≡ 0
freed_all frees h outer (Leaf k) = rw (h outer) refl
freed_all frees h outer (Seq a b) = omega (arith, freed_all frees h outer a, freed_all frees h outer b)
freed_all frees h outer (Par a b) = omega (arith, freed_all frees h outer a, freed_all frees h outer b)
freed_all frees h outer (Marked mark t) = freed_all frees h (site_inside mark outer) t

pub all_freed : (frees : ℕ → Bool) (t : Tree) → ((site : ℕ) → frees site ≡ true) → span_if_free frees t ≡ 0
all_freed frees t h = freed_all frees h 0 t

-- The span falls by at most the own span of the function's sites.

-- the weight of the leaves in a list whose sites cost nothing
abbrev freed_weight : (ℕ → Bool) → List (ℕ × ℕ) → ℕ
freed_weight frees xs = sum_by (λ (leaf : ℕ × ℕ). leaf.1) (filter (λ leaf. frees leaf.0) xs)

freed_weight-append : (frees : ℕ → Bool) (xs ys : List (ℕ × ℕ))
    → freed_weight frees (xs ++ ys) ≡ freed_weight frees xs + freed_weight frees ys
freed_weight-append frees xs ys =
    rw filter-append (sum_by-append (λ (leaf : ℕ × ℕ). leaf.1) (filter (λ leaf. frees leaf.0) xs)
    (filter (λ leaf. frees leaf.0) ys))

freed_weight_of_leaf : (frees : ℕ → Bool) (site k : ℕ) → freed_weight frees ((site, k) ∷ []) ≡ weight_if (frees site) k
freed_weight_of_leaf frees site k = by_test (frees site)
  where
    by_test : (b : Bool) → sum_by (λ (leaf : ℕ × ℕ). leaf.1) (if b then (site, k) ∷ [] else []) ≡ weight_if b k
    by_test true = omega arith
    by_test false = refl

falls : (frees : ℕ → Bool) (outer : ℕ) (t : Tree)
    → span t ≤ span (freed frees outer t) + freed_weight frees (chosen_leaves outer t)
falls frees outer (Leaf k) = rw (freed_weight_of_leaf frees outer k) (by_test (frees outer))
  where
    by_test : (b : Bool) → k ≤ (if b then 0 else k) + weight_if b k
    by_test true = omega arith
    by_test false = omega arith
falls frees outer (Seq a b) =
    omega (arith, freed_weight-append frees (chosen_leaves outer a) (chosen_leaves outer b), falls frees outer a, falls frees outer b)
falls frees outer (Par child rest) = by_test (nat_le (span rest) (span child)) refl (falls frees outer child) (falls frees outer rest)
  where
    by_test : (b : Bool) → nat_le (span rest) (span child) ≡ b
        → span child ≤ span (freed frees outer child) + freed_weight frees (chosen_leaves outer child)
        → span rest ≤ span (freed frees outer rest) + freed_weight frees (chosen_leaves outer rest)
        → span (Par child rest) ≤ span (freed frees outer (Par child rest))
        + freed_weight frees (if b then chosen_leaves outer child else chosen_leaves outer rest)
    by_test true e h k = omega (arith, leb-true (span rest) (span child) e, h)
    by_test false e h k = omega (arith, leb-false (span rest) (span child) e, k)
falls frees outer (Marked mark t) = falls frees (site_inside mark outer) t

-- the sites that call a function with this name
abbrev named : List CallSite → Name → List CallSite
named sites name = filter (λ s. same_name name s.callee) sites

-- the weight of the leaves in a list that belong to these sites
abbrev over : List CallSite → List (ℕ × ℕ) → ℕ
over sites xs = sum_by (λ s. weight_of_site s.number xs) sites

over_none : (sites : List CallSite) → over sites [] ≡ 0
over_none [] = refl
over_none (s ∷ sites) = sum_by-cons (λ (s : CallSite). weight_of_site s.number []) s sites ∙ add.zero _ ∙ over_none sites

over_leaf : (sites : List CallSite) (leaf : ℕ × ℕ) (xs : List (ℕ × ℕ))
    → over sites (leaf ∷ xs) ≡ over sites (leaf ∷ []) + over sites xs
over_leaf [] leaf xs = refl
over_leaf (s ∷ sites) leaf xs =
    rw (
      sum_by-cons (λ (s : CallSite). weight_of_site s.number (leaf ∷ xs)) s sites,
      sum_by-cons (λ (s : CallSite). weight_of_site s.number (leaf ∷ [])) s sites,
      sum_by-cons (λ (s : CallSite). weight_of_site s.number xs) s sites,
    ) (omega (arith, weight-append s.number (leaf ∷ []) xs, over_leaf sites leaf xs))

-- a zero-cost leaf belongs to one of the function's sites
leaf_is_over : (sites : List CallSite) (name : Name) (site k : ℕ)
    → weight_if (is_site_of sites name site) k ≤ over (named sites name) ((site, k) ∷ [])
leaf_is_over [] name site k = omega arith
leaf_is_over (s ∷ sites) name site k = by_name (same_name name s.callee) (leaf_is_over sites name site k)
  where
    by_number : (b c : Bool) (weight rest : ℕ) → weight ≡ weight_if b k → weight_if c k ≤ rest
        → weight_if ((b && true) || c) k ≤ weight + rest
    by_number true c weight rest e h = omega (arith, e)
    by_number false c weight rest e h = omega (arith, h)

    by_other : (b c : Bool) (rest : ℕ) → weight_if c k ≤ rest → weight_if ((b && false) || c) k ≤ rest
    by_other true c rest h = h
    by_other false c rest h = h

    by_name : (b : Bool) → weight_if (is_site_of sites name site) k ≤ over (named sites name) ((site, k) ∷ []) →
        weight_if ((site == s.number && b) || is_site_of sites name site) k
        ≤ over (if b then s ∷ named sites name else named sites name) ((site, k) ∷ [])
    by_name true h =
        rw (sum_by-cons (λ (s : CallSite). weight_of_site s.number ((site, k) ∷ [])) s (named sites name))
        (by_number (site == s.number) (is_site_of sites name site) (weight_of_site s.number ((site, k) ∷ []))
        (over (named sites name) ((site, k) ∷ [])) (weight_of_leaf s.number site k) h)
    by_name false h =
        by_other (site == s.number) (is_site_of sites name site) (over (named sites name) ((site, k) ∷ [])) h

-- all zero-cost leaves belong to the function's sites
leaves_are_over : (sites : List CallSite) (name : Name) (xs : List (ℕ × ℕ))
    → freed_weight (is_site_of sites name) xs ≤ over (named sites name) xs
leaves_are_over sites name [] = omega (arith, over_none (named sites name))
leaves_are_over sites name (leaf ∷ xs) =
    let first : freed_weight (is_site_of sites name) (leaf ∷ []) ≡ weight_if (is_site_of sites name leaf.0) leaf.1 =
    freed_weight_of_leaf (is_site_of sites name) leaf.0 leaf.1 in
    let one : weight_if (is_site_of sites name leaf.0) leaf.1 ≤ over (named sites name) (leaf ∷ []) =
    leaf_is_over sites name leaf.0 leaf.1 in
    let cut : freed_weight (is_site_of sites name) (leaf ∷ xs)
    ≡ freed_weight (is_site_of sites name) (leaf ∷ []) + freed_weight (is_site_of sites name) xs =
    freed_weight-append (is_site_of sites name) (leaf ∷ []) xs in
    omega (arith, cut, first, one, over_leaf (named sites name) leaf xs, leaves_are_over sites name xs)

pub falls_by_own_span : (sites : List CallSite) (name : Name) (t : Tree) →
    span t ≤ span_if_free (is_site_of sites name) t + over_sites sites name (λ row. row.own_span) t
falls_by_own_span sites name t =
    let own : freed_weight (is_site_of sites name) (chosen_leaves 0 t) ≤ over_sites sites name (λ row. row.own_span) t =
    leaves_are_over sites name (chosen_leaves 0 t) in
    omega (arith, falls (is_site_of sites name) 0 t, own)
