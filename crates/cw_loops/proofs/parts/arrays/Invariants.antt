use Rattle.std.proofs.Common.{◌≡◌, ◌++◌, drop}
use Rattle.cw_loops.specs.Moved.{moved_arrays}
use Rattle.cw_loops.specs.Moving.{moves_view, uses_of}
use Rattle.cw_loops.proofs.parts.arrays.Given as goal

abbrev pub invariant-loop-used : goal.invariant-loop-used
invariant-loop-used l =
    l.made.items ++ moved_arrays (moves_view l.moves) (uses_of (drop l.used-index l.uses)) ≡ moved_arrays (moves_view l.moves) (uses_of l.uses)
