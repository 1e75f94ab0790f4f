use Rattle.std.proofs.Common.{◌≡◌, ◌++◌, drop}
use Rattle.cw_loops.specs.Moved.{moved_ints}
use Rattle.cw_loops.specs.Moving.{moves_view, uses_of}
use Rattle.cw_loops.proofs.parts.ints.Given as goal

abbrev pub invariant-loop-used : goal.invariant-loop-used
invariant-loop-used l =
    l.made.items ++ moved_ints (moves_view l.moves) (uses_of (drop l.used-index l.uses)) ≡ moved_ints (moves_view l.moves) (uses_of l.uses)
