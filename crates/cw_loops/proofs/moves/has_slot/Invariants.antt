use Rattle.std.proofs.Common.{◌≡◌, drop}
use Rattle.cw_tree.specs.Resolved.{is_slot_in}
use Rattle.cw_loops.specs.Moved.{slots_of}
use Rattle.cw_loops.specs.Moving.{uses_of}
use Rattle.cw_loops.proofs.moves.has_slot.Given as goal

abbrev pub invariant-loop-used : goal.invariant-loop-used
invariant-loop-used l = is_slot_in l.slot (slots_of (uses_of (drop l.used-index l.uses))) ≡ is_slot_in l.slot (slots_of (uses_of l.uses))
