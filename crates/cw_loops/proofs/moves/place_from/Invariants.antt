use Rattle.std.proofs.Common.{◌≡◌, drop}
use Rattle.cw_loops.specs.Moved.{place_from, slots_of}
use Rattle.cw_loops.specs.Moving.{uses_of}
use Rattle.cw_loops.proofs.moves.place_from.Given as goal

abbrev pub invariant-loop-used : goal.invariant-loop-used
invariant-loop-used l =
    place_from l.place l.slot (slots_of (uses_of (drop l.used-index l.uses))) ≡ place_from l.first l.slot (slots_of (uses_of l.uses))
