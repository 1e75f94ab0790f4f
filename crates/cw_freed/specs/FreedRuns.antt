-- A run so far in which the instructions of free sites weigh nothing: the events of the current block and of the open
-- parts.
use Rattle.std.specs.Prelude.{ℕ, Bool, if◌then◌else◌, List, [], ◌∷◌}
use Rattle.cw_model.specs.Trees.{Event, Work, Series, Join}
use Rattle.cw_model.specs.Trees as e
use Rattle.cw_model.specs.Freed.{freed}
use Rattle.cw_measure.specs.OpenParts.{Open}
use Rattle.cw_sites.specs.OpenPaths.{here_in}

-- `k` instructions, or 0 if they are free
abbrev pub unless : (free : Bool) → ℕ → ℕ
unless free k = if free then 0 else k

-- an event of a block in an invocation of this site
abbrev pub freed_event : (frees : ℕ → Bool) → (site : ℕ) → Event → Event
freed_event frees site (Work k) = Work (unless (frees site) k)
freed_event frees site (Series t) = Series (freed frees site t)
freed_event frees site (e.Fork t) = e.Fork (freed frees site t)
freed_event frees site Join = Join

-- the events of a block in an invocation of this site
abbrev pub freed_events : (frees : ℕ → Bool) → (site : ℕ) → List Event → List Event
freed_events frees site [] = []
freed_events frees site (e ∷ es) = freed_event frees site e ∷ freed_events frees site es

-- the open parts, with zero-cost events in the enclosing blocks
abbrev pub freed_open : (frees : ℕ → Bool) → List Open → List Open
freed_open frees [] = []
freed_open frees (o ∷ os) =
    record { spawned = o.spawned; mark = o.mark; outer = freed_events frees (here_in 0 os) o.outer }
    ∷ freed_open frees os
