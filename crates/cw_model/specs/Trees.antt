-- The strand tree of a run, and the events that it is built from.
use Rattle.std.specs.Prelude.{ℕ, zero, suc, ◌+◌, max, List, [], ◌∷◌}
use Rattle.cw_model.specs.declared.burden.Burden.{Burden}
use Rattle.cw_model.specs.Burdens.{at_child, at_rest, no_burden}
use Rattle.cw_model.specs.Syntax.{Name}

-- what a marked part of a tree represents: an invocation of a call site, or an execution of a region
pub data Mark : Type 0 where
  Invocation : (site : ℕ) → Mark
  Execution : (tag : Name) → Mark

-- a strand of some instructions, a series of two parts, a fork into a child and the continuation of its sync block,
-- or a marked part
pub data Tree : Type 0 where
  Leaf : ℕ → Tree
  Seq : Tree → Tree → Tree
  Par : (child rest : Tree) → Tree
  Marked : Mark → Tree → Tree

-- an event of a sync block, in execution order: instructions, a part in series, a spawned part, or a join
pub data Event : Type 0 where
  Work : ℕ → Event
  Series : Tree → Event
  Fork : Tree → Event
  Join : Event

-- `k` single instructions, in order
abbrev pub works : ℕ → List Event
works zero = []
works (suc k) = let more = works k in Work 1 ∷ more

-- the two trees of a list of events: up to the next join, and after that join
abbrev pub parts_of : List Event → Tree × Tree
parts_of [] = (Leaf 0, Leaf 0)
parts_of (Work k ∷ events) = let later = parts_of events in (Seq (Leaf k) later.0, later.1)
parts_of (Series t ∷ events) = let later = parts_of events in (Seq t later.0, later.1)
parts_of (Fork t ∷ events) = let later = parts_of events in (Par t later.0, later.1)
parts_of (Join ∷ events) = let later = parts_of events in (Leaf 0, Seq later.0 later.1)

-- the tree of a list of events: a spawned part is parallel to everything between its spawn and the next join
abbrev pub tree_of : List Event → Tree
tree_of events = let parts = parts_of events in Seq parts.0 parts.1

-- the work: the sum of all strands, in instructions
abbrev pub work : Tree → ℕ
work (Leaf k) = k
work (Seq a b) = work a + work b
work (Par child rest) = work child + work rest
work (Marked mark t) = work t

-- the burdened span: the weight of a heaviest path, with the charge for each fork that the path goes through
abbrev pub burdened_span : Burden → Tree → ℕ
burdened_span burden (Leaf k) = k
burdened_span burden (Seq a b) = burdened_span burden a + burdened_span burden b
burdened_span burden (Par child rest) =
    max (at_child burden + burdened_span burden child) (at_rest burden + burdened_span burden rest)
burdened_span burden (Marked mark t) = burdened_span burden t

-- the span: the weight of a heaviest path, without charges
abbrev pub span : Tree → ℕ
span t = burdened_span no_burden t

-- a strand before a tree in normal form
abbrev pub leaf_before : ℕ → Tree → Tree
leaf_before zero t = t
leaf_before (suc k) (Leaf j) = Leaf (suc k + j)
leaf_before (suc k) (Seq (Leaf j) t) = Seq (Leaf (suc k + j)) t
leaf_before (suc k) t = Seq (Leaf (suc k)) t

-- a part that is not a strand, before a tree in normal form
abbrev pub part_before : Tree → Tree → Tree
part_before part (Leaf zero) = part
part_before part t = Seq part t

-- a tree before a tree in normal form
abbrev pub before : Tree → Tree → Tree
before (Leaf k) later = leaf_before k later
before (Seq a b) later = before a (before b later)
before (Par child rest) later = part_before (Par (before child (Leaf 0)) (before rest (Leaf 0))) later
before (Marked mark t) later = part_before (Marked mark (before t (Leaf 0))) later

-- the normal form: series are nested to the right, adjacent strands are merged, and empty strands next to a part are
-- removed
abbrev pub normal : Tree → Tree
normal t = before t (Leaf 0)
