-- The chosen path of a run within one sync block, in parts that are never copied.
use Rattle.std.specs.Prelude.{ℕ, ◌+◌, Bool, true, false, nat_lt, List, [], ◌∷◌, Option, Some, None}
use Rattle.cw_model.specs.Trees.{Event, Work, Series, Fork, Join}
use Rattle.cw_sites.specs.ChosenPaths.{Path, nowhere, plus, best, chosen, steps_of}

-- without a child since the last join, the current path; otherwise the path up to the spawn of the longest child,
-- this child, and the path from that spawn on
pub data BlockPath : Type 0 where
  Straight : (now : Path) → BlockPath
  Split : (base : Path) (longest : Option Path) (now : Path) → BlockPath

-- the current strand's path so far
abbrev pub now_of : BlockPath → Path
now_of (Straight n) = n
now_of (Split b l n) = n

-- extends the current path
abbrev pub extended : Path → BlockPath → BlockPath
extended p (Straight n) = Straight (plus n p)
extended p (Split b l n) = Split b l (plus n p)

-- the later child becomes the longest if it is heavier; the base is then extended to its spawn
abbrev pub longest_of : Bool → (base longest now child : Path) → BlockPath
longest_of true b l n c = Split (plus b n) (Some c) nowhere
longest_of false b l n c = Split b (Some l) n

-- a spawned child with this path ended
abbrev pub child_ended : Path → BlockPath → BlockPath
child_ended c (Straight n) = Split n (Some c) nowhere
child_ended c (Split b None n) = Split (plus b n) (Some c) nowhere
child_ended c (Split b (Some l) n) = longest_of (nat_lt l.weight (n.weight + c.weight)) b l n c

-- the path of the block if it joined now
abbrev pub finished : BlockPath → Path
finished (Straight n) = n
finished (Split b l n) = plus b (best l n)

-- the block joins
abbrev pub joins : BlockPath → BlockPath
joins L = Straight (finished L)

-- the paths after one event
abbrev pub after : (site here : ℕ) → BlockPath → Event → BlockPath
after site here L (Work k) = extended (steps_of site here k) L
after site here L (Series t) = extended (chosen site here t) L
after site here L (Fork t) = child_ended (chosen site here t) L
after site here L Join = joins L

-- the paths after a list of events
abbrev pub after_all : (site here : ℕ) → BlockPath → List Event → BlockPath
after_all site here L [] = L
after_all site here L (e ∷ events) = after_all site here (after site here L e) events

-- appends a piece of the same block, without joins
abbrev pub joined_on : BlockPath → BlockPath → BlockPath
joined_on L (Straight m) = extended m L
joined_on L (Split b None n) = extended (plus b n) L
joined_on L (Split b (Some c) n) = extended n (child_ended c (extended b L))
