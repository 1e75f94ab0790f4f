-- The heaviest path of a strand within one sync block: the current path, and the path through the longest child.
use Rattle.std.specs.Prelude.{◌≡◌, ℕ, ◌+◌, max, Bool, true, false, List, [], ◌∷◌}
use Rattle.cw_model.specs.declared.burden.Burden.{Burden}
use Rattle.cw_model.specs.Burdens.{at_child, at_rest}
use Rattle.cw_model.specs.Trees.{Tree, Leaf, Seq, Par, Marked, Event, Work, Series, Fork, Join, work, burdened_span}
use Rattle.cw_model.specs.Trees.{tree_of}
use Rattle.cw_measure.specs.OpenParts.{Open, work_in}
use Rattle.cw_measure.specs.Outermost.{Meters}

-- without a child since the last join, the current path; otherwise the path through the longest child, and the
-- current path
pub data BlockWeight : Type 0 where
  Straight : (now : ℕ) → BlockWeight
  Split : (longest now : ℕ) → BlockWeight

-- the weight of the current path
abbrev pub now_of : BlockWeight → ℕ
now_of (Straight n) = n
now_of (Split l n) = n

-- adds instructions to the current path
abbrev pub gone_on : ℕ → BlockWeight → BlockWeight
gone_on k (Straight n) = Straight (n + k)
gone_on k (Split l n) = Split l (n + k)

-- a spawned child with this span ended
abbrev pub child_ended : Burden → (child : ℕ) → BlockWeight → BlockWeight
child_ended burden c (Straight n) = Split (n + (at_child burden + c)) (n + at_rest burden)
child_ended burden c (Split l n) = Split (max l (n + (at_child burden + c))) (n + at_rest burden)

-- the weight of the block's heaviest path if it joined now
abbrev pub top_of : BlockWeight → ℕ
top_of (Straight n) = n
top_of (Split l n) = max l n

-- the paths after an event
abbrev pub after : Burden → BlockWeight → Event → BlockWeight
after burden L (Work k) = gone_on k L
after burden L (Series t) = gone_on (burdened_span burden t) L
after burden L (Fork t) = child_ended burden (burdened_span burden t) L
after burden L Join = Straight (top_of L)

-- the paths after a list of events
abbrev pub after_all : Burden → BlockWeight → List Event → BlockWeight
after_all burden L [] = L
after_all burden L (e ∷ es) = after_all burden (after burden L e) es

-- appends a piece of the same block, without joins
abbrev pub joined_on : BlockWeight → BlockWeight → BlockWeight
joined_on L (Straight m) = gone_on m L
joined_on (Straight n) (Split l m) = Split (n + l) (n + m)
joined_on (Split k n) (Split l m) = Split (max k (n + l)) (n + m)

-- the path at the start of a part: a spawned part begins its own path
abbrev pub enters : (spawned : Bool) → BlockWeight → BlockWeight
enters true L = Straight 0
enters false L = Straight (now_of L)

-- the paths of the current block
abbrev pub block_weight : Burden → List Open → List Event → BlockWeight
block_weight burden [] es = after_all burden (Straight 0) es
block_weight burden (o ∷ os) es = after_all burden (enters o.spawned (block_weight burden os o.outer)) es

-- the weight of the heaviest path of the current strand, from the start of the strand or its child
abbrev pub weight_in : Burden → List Open → List Event → ℕ
weight_in burden os es = now_of (block_weight burden os es)

-- the work plus one charge for each spawn: no path is heavier, because it goes through the child or the continuation
abbrev pub burdened_work : Burden → Tree → ℕ
burdened_work burden (Leaf k) = k
burdened_work burden (Seq a b) = burdened_work burden a + burdened_work burden b
burdened_work burden (Par child rest) = burdened_work burden child + burdened_work burden rest + burden.charge
burdened_work burden (Marked mark t) = burdened_work burden t

-- the charge of a spawned part, 0 for another part
abbrev pub charge_if : (spawned : Bool) → Burden → ℕ
charge_if true burden = burden.charge
charge_if false burden = 0

-- the work plus one charge for each spawn, of a run so far
abbrev pub burdened_work_in : Burden → List Open → List Event → ℕ
burdened_work_in burden [] es = burdened_work burden (tree_of es)
burdened_work_in burden (o ∷ os) es =
    burdened_work burden (tree_of es) + (charge_if o.spawned burden + burdened_work_in burden os o.outer)

-- the paths of a block add the burdened span of the block's tree to the weight before
abbrev pub BlocksWeighTheirSpans : Type 0
BlocksWeighTheirSpans =
    (burden : Burden) (before : ℕ) (es : List Event)
    → top_of (after_all burden (Straight before) es) ≡ before + burdened_span burden (tree_of es)

-- over a part whose block has joined, work grows by the part's work, and the path's weight by the part's burdened
-- span
pub record WorkAndWeightAreMetered : Type 0 where
  pub work_is : Meters work work_in
  pub weight_is : (burden : Burden) → Meters (burdened_span burden) (weight_in burden)
