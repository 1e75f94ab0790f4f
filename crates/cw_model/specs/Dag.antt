-- The strand dag of a tree: its vertices are the leaves, and the span is the weight of a heaviest path.
use Rattle.std.specs.Prelude.{ℕ, ◌+◌, ◌*◌, ◌≤◌, ◌≡◌, List, [], ◌∷◌}
use Rattle.cw_model.specs.declared.burden.Burden.{Burden}
use Rattle.cw_model.specs.Burdens.{at_child, at_rest, no_burden}
use Rattle.cw_model.specs.Trees.{Tree, Leaf, Seq, Par, Marked}

-- the way from the root of a tree down to a leaf: first or second part, at each series and each fork
pub data Place : Type 0 where
  Here : Place
  First : Place → Place
  Second : Place → Place

-- no leaf precedes this leaf
abbrev pub IsFirst : Tree → Place → Type 0
IsFirst (Leaf k) Here = Unit {0}
IsFirst (Leaf k) (First p) = ⊥
IsFirst (Leaf k) (Second p) = ⊥
IsFirst (Seq a b) Here = ⊥
IsFirst (Seq a b) (First p) = IsFirst a p
IsFirst (Seq a b) (Second p) = ⊥
IsFirst (Par child rest) Here = ⊥
IsFirst (Par child rest) (First p) = IsFirst child p
IsFirst (Par child rest) (Second p) = IsFirst rest p
IsFirst (Marked mark t) p = IsFirst t p

-- no leaf follows this leaf
abbrev pub IsLast : Tree → Place → Type 0
IsLast (Leaf k) Here = Unit {0}
IsLast (Leaf k) (First p) = ⊥
IsLast (Leaf k) (Second p) = ⊥
IsLast (Seq a b) Here = ⊥
IsLast (Seq a b) (First p) = ⊥
IsLast (Seq a b) (Second p) = IsLast b p
IsLast (Par child rest) Here = ⊥
IsLast (Par child rest) (First p) = IsLast child p
IsLast (Par child rest) (Second p) = IsLast rest p
IsLast (Marked mark t) p = IsLast t p

-- an edge goes from each last leaf of a part to each first leaf of the part after it
abbrev pub HasEdge : Tree → Place → Place → Type 0
HasEdge (Seq a b) (First p) (First q) = HasEdge a p q
HasEdge (Seq a b) (First p) (Second q) = IsLast a p × IsFirst b q
HasEdge (Seq a b) (Second p) (Second q) = HasEdge b p q
HasEdge (Par child rest) (First p) (First q) = HasEdge child p q
HasEdge (Par child rest) (Second p) (Second q) = HasEdge rest p q
HasEdge (Marked mark t) p q = HasEdge t p q
HasEdge _ _ _ = ⊥

-- the instructions of the leaf at a place
abbrev pub weight_at : Tree → Place → ℕ
weight_at (Leaf k) p = k
weight_at (Seq a b) (First p) = weight_at a p
weight_at (Seq a b) (Second p) = weight_at b p
weight_at (Par child rest) (First p) = weight_at child p
weight_at (Par child rest) (Second p) = weight_at rest p
weight_at (Marked mark t) p = weight_at t p
weight_at _ Here = 0

-- the number of continuations whose first leaf is at this place, for a first leaf of the tree
abbrev pub rests_begun : Tree → Place → ℕ
rests_begun (Seq a b) (First p) = rests_begun a p
rests_begun (Par child rest) (First p) = rests_begun child p
rests_begun (Par child rest) (Second p) = rests_begun rest p + 1
rests_begun (Marked mark t) p = rests_begun t p
rests_begun _ _ = 0

-- the number of spawned parts whose first leaf is at this place, for a first leaf of the tree
abbrev pub children_begun : Tree → Place → ℕ
children_begun (Seq a b) (First p) = children_begun a p
children_begun (Par child rest) (First p) = children_begun child p + 1
children_begun (Par child rest) (Second p) = children_begun rest p
children_begun (Marked mark t) p = children_begun t p
children_begun _ _ = 0

-- the number of continuations that an edge enters, that is, the number of spawns whose continuation edge it is
abbrev pub rests_entered : Tree → Place → Place → ℕ
rests_entered (Seq a b) (First p) (First q) = rests_entered a p q
rests_entered (Seq a b) (First p) (Second q) = rests_begun b q
rests_entered (Seq a b) (Second p) (Second q) = rests_entered b p q
rests_entered (Par child rest) (First p) (First q) = rests_entered child p q
rests_entered (Par child rest) (Second p) (Second q) = rests_entered rest p q
rests_entered (Marked mark t) p q = rests_entered t p q
rests_entered _ _ _ = 0

-- the number of spawned parts that an edge enters; a path that enters one leaves it by its return edge
abbrev pub children_entered : Tree → Place → Place → ℕ
children_entered (Seq a b) (First p) (First q) = children_entered a p q
children_entered (Seq a b) (First p) (Second q) = children_begun b q
children_entered (Seq a b) (Second p) (Second q) = children_entered b p q
children_entered (Par child rest) (First p) (First q) = children_entered child p q
children_entered (Par child rest) (Second p) (Second q) = children_entered rest p q
children_entered (Marked mark t) p q = children_entered t p q
children_entered _ _ _ = 0

-- a walk: it follows edges from a leaf through these leaves to a last leaf
abbrev pub IsWalk : Tree → Place → List Place → Type 0
IsWalk t p [] = IsLast t p
IsWalk t p (q ∷ qs) = HasEdge t p q × IsWalk t q qs

-- a path: a walk that starts at a first leaf
abbrev pub IsPath : Tree → Place → List Place → Type 0
IsPath t p qs = IsFirst t p × IsWalk t p qs

-- the charge for a path through these numbers of continuations and spawned parts
abbrev pub charged : Burden → (rests children : ℕ) → ℕ
charged burden rests children = at_rest burden * rests + at_child burden * children

-- the weight of a walk: its leaves, and the charge for each continuation and each spawned part that it enters
abbrev pub walk_weight : Burden → Tree → Place → List Place → ℕ
walk_weight burden t p [] = weight_at t p
walk_weight burden t p (q ∷ qs) =
    weight_at t p + charged burden (rests_entered t p q) (children_entered t p q) + walk_weight burden t q qs

-- the weight of a path: its leaves, and the charge for each continuation and each spawned part that it goes through
abbrev pub path_weight : Burden → Tree → Place → List Place → ℕ
path_weight burden t p qs = charged burden (rests_begun t p) (children_begun t p) + walk_weight burden t p qs

-- some path has this weight, and no path has a larger weight
pub record IsBurdenedSpan (burden : Burden) (t : Tree) (s : ℕ) : Type 0 where
  pub path : (p : Place) × (qs : List Place) × IsPath t p qs × (path_weight burden t p qs ≡ s)
  pub heaviest : (p : Place) (qs : List Place) → IsPath t p qs → path_weight burden t p qs ≤ s

-- some path has this weight without charges, and no path has a larger weight
abbrev pub IsSpan : Tree → ℕ → Type 0
IsSpan t s = IsBurdenedSpan no_burden t s
