use Rattle.std.proofs.Common.{◌≡◌, drop, map}
use Rattle.cw_tree.specs.Resolved.{first_uses}
use Rattle.cw_tree.specs.ResolvedView.{use_of}
use Rattle.cw_types.proofs.captured.notes.Given as goal

abbrev pub invariant-loop-used : goal.invariant-loop-used
invariant-loop-used l =
    first_uses l.count (map use_of l.found.items) (map use_of (drop l.used-index l.uses))
    ≡ first_uses l.count (map use_of l.fn.found.items) (map use_of l.uses)
