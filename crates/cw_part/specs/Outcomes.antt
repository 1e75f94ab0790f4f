-- The outcome of a part of a run, as it is stored.
use Rattle.cw_part.specs.declared.read.Read.{Read}
use Rattle.cw_part.specs.declared.outcome.Outcome.{Outcome}
use Rattle.cw_part.specs.declared.outcome.Outcome.TheVariants as stored
use Rattle.cw_part.specs.Parts.{Came, Completed, Trapped, Over, Memory, followed}
use Rattle.cw_part.specs.Read.{readings}

abbrev pub came_of : Outcome → Came Read
came_of (stored.Completed read) = Completed read
came_of (stored.Trapped trap line read) = Trapped trap line read
came_of stored.Over = Over
came_of stored.Memory = Memory

-- the outcome of a part, and then that of the next one
abbrev pub came_with : Came Read → (next : Outcome) → Came Read
came_with first next = followed readings first (came_of next)
