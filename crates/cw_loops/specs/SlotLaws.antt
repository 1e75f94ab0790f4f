-- Lowering by slot is lowering by name with each name looked up.
use Rattle.std.specs.Prelude.{◌≡◌, []}
use Rattle.cw_model.specs.Syntax.{Program}
use Rattle.cw_model.specs.Sizes.{limit_faults, loop_faults}
use Rattle.cw_tree.specs.Resolved.{resolved}
use Rattle.cw_loops.specs.LoweringLaws.{IsOwnedSource}
use Rattle.cw_loops.specs.Slotted.{slotted_functions}
use Rattle.cw_loops.specs.Expanded.{lowered_by_slot}

-- a program that keeps the limits, including the limit on loops
pub record IsWithinLimits (program : Program) : Type 0 where
  pub limits : limit_faults program ≡ []
  pub loops : loop_faults program ≡ []

-- lowering the resolved tree by slot returns the lowered program with each name looked up
abbrev pub LoweringIsBySlot : Type 0
LoweringIsBySlot =
    (program : Program) → IsOwnedSource program → IsWithinLimits program →
    lowered_by_slot (resolved program) ≡ slotted_functions program
