use Rattle.std.proofs.Common.{◌≡◌, ◌-◌, suc, length}
use Rattle.cw_machine.specs.Padded.{HasReached}
use Rattle.cw_machine.proofs.array_blocks.reach.Given as goal

abbrev pub invariant-loop-made : goal.invariant-loop-made
invariant-loop-made l = record {
  more : HasReached l.initial.none l.initial.made.items l.index l.made.items;
  same : l.none ≡ l.initial.none;
}

abbrev pub decreases-loop-made : goal.decreases-loop-made
decreases-loop-made l = suc l.index - length l.made.items
