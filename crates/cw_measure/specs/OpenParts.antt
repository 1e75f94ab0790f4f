-- A run so far: the events of the current block, and the open parts around it.
use Rattle.std.specs.Prelude.{◌≡◌, ℕ, ◌+◌, ◌-◌, ◌≤◌, Bool, true, false, List, [], ◌∷◌, ◌++◌, Option, Some, None}
use Rattle.cw_model.specs.Trees.{Mark, Tree, Marked, Event, Work, Series, Fork, Join, tree_of, work}

-- an open part of a run: whether it is spawned, its mark, and the events of the enclosing block so far
pub record Open : Type 0 where
  pub spawned : Bool
  pub mark : Option Mark
  pub outer : List Event

-- a part in series begins after these events
abbrev pub in_series : Option Mark → List Event → List Open → List Open
in_series mark es os = record { spawned = false; mark = mark; outer = es } ∷ os

-- a spawned part begins after these events
abbrev pub in_fork : Option Mark → List Event → List Open → List Open
in_fork mark es os = record { spawned = true; mark = mark; outer = es } ∷ os

-- a tree with a mark, if there is one
abbrev pub marked : Option Mark → Tree → Tree
marked None t = t
marked (Some m) t = Marked m t

-- the event of a part that has ended: a fork if it was spawned, otherwise in series
abbrev pub part_of : (spawned : Bool) → Tree → Event
part_of true t = Fork t
part_of false t = Series t

-- the event of a part that ends with these events
abbrev pub event_of : Open → List Event → Event
event_of o es = part_of o.spawned (marked o.mark (tree_of es))

-- the events of the enclosing block after the end of a part
abbrev pub closed : Open → List Event → List Event
closed o es = o.outer ++ event_of o es ∷ []

-- whether a block has spawned since its last join
abbrev pub spawned_after : Bool → Event → Bool
spawned_after b (Work k) = b
spawned_after b (Series t) = b
spawned_after b (Fork t) = true
spawned_after b Join = false

-- whether a block has spawned since its last join, given whether it had before these events
abbrev pub has_spawned_from : Bool → List Event → Bool
has_spawned_from b [] = b
has_spawned_from b (e ∷ es) = has_spawned_from (spawned_after b e) es

-- whether a block with these events has spawned since its last join
abbrev pub has_spawned : List Event → Bool
has_spawned es = has_spawned_from false es

-- the events have no join
abbrev pub no_joins : List Event → Bool
no_joins [] = true
no_joins (Work k ∷ es) = no_joins es
no_joins (Series t ∷ es) = no_joins es
no_joins (Fork t ∷ es) = no_joins es
no_joins (Join ∷ es) = false

-- the events are `k` instructions, and joins of a block that has spawned nothing since its last join
abbrev pub IsSince : (has_spawned : Bool) → List Event → ℕ → Type 0
IsSince b [] k = 0 ≡ k
IsSince b (Work j ∷ fs) k = (j ≤ k) × IsSince b fs (k - j)
IsSince b (Join ∷ fs) k = (b ≡ false) × IsSince b fs k
IsSince b (Series t ∷ fs) k = ⊥
IsSince b (Fork t ∷ fs) k = ⊥

-- the current block continues with these events, from `noted` instructions to `count`
pub record Since (noted count : ℕ) (es fs : List Event) : Type 0 where
  pub goes_on : noted ≤ count
  pub instructions : IsSince (has_spawned es) fs (count - noted)

-- the sum over the trees of all open blocks
abbrev pub sum_in : (Tree → ℕ) → List Open → List Event → ℕ
sum_in F [] es = F (tree_of es)
sum_in F (o ∷ os) es = F (tree_of es) + sum_in F os o.outer

-- the work of a run so far
abbrev pub work_in : List Open → List Event → ℕ
work_in os es = sum_in work os es
