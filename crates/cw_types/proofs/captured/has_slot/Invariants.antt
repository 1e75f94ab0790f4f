use Rattle.std.proofs.Common.{◌≡◌, drop, map}
use Rattle.cw_tree.specs.Resolved.{is_slot_in}
use Rattle.cw_tree.specs.ResolvedView.{use_of}
use Rattle.cw_types.proofs.captured.has_slot.Given as goal

abbrev pub invariant-loop-used : goal.invariant-loop-used
invariant-loop-used l =
    is_slot_in l.slot (map (λ w. w.slot) (map use_of (drop l.used-index l.found))) ≡ is_slot_in l.slot (map (λ w. w.slot) (map use_of l.found))
