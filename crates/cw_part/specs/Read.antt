-- The views and the measure of a part of a run.
use Rattle.cw_model.specs.declared.burden.Burden.{Burden}
use Rattle.cw_reduce.specs.PieceResults.{nothing_shown, shown_joined}
use Rattle.cw_measure.specs.Measured.{nothing, joined, after_child, after_part}
use Rattle.cw_part.specs.declared.read.Read.{Read}
use Rattle.cw_part.specs.Parts.{Readings, PartsJoin}

-- those of nothing
abbrev pub nothing_read : Read
nothing_read = record { views = nothing_shown; measure = nothing }

-- those of a part, and then those of the next one
abbrev pub read_joined : Read → Read → Read
read_joined a b = record { views = shown_joined a.views b.views; measure = joined a.measure b.measure }

-- those of a spawned child, as a piece of the block that spawned it: the views as they are, and the measure of one
-- child
abbrev pub child_read : Burden → Read → Read
child_read burden a = record { views = a.views; measure = after_child burden a.measure nothing }

-- those of a call, as a piece of the block that made it
abbrev pub call_read : Read → Read
call_read a = record { views = a.views; measure = after_part a.measure nothing }

abbrev pub readings : Readings Read
readings = record { none = nothing_read; joined = read_joined; work = λ a. a.measure.work }

-- parts with views and a measure form a monoid
abbrev pub PartsOfRunsJoin : Type 0
PartsOfRunsJoin = PartsJoin Read readings
