-- The events of a run after an instruction.
use Rattle.std.specs.Prelude.{Bool, List, [], ◌∷◌, ◌++◌, Option}
use Rattle.cw_model.specs.Trees.{Mark, Event, Work, Join}
use Rattle.cw_measure.specs.OpenParts.{Open}

-- adds one instruction
abbrev pub ticked : List Event → List Event
ticked es = es ++ Work 1 ∷ []

-- adds a join and its instruction
abbrev pub synced : List Event → List Event
synced es = es ++ Join ∷ Work 1 ∷ []

-- begins a part with an instruction
abbrev pub begun : (spawned : Bool) → Option Mark → List Event → List Open → List Open
begun spawned mark es os = record { spawned = spawned; mark = mark; outer = ticked es } ∷ os
