-- The contract of lowering an owned program.
use Rattle.cw_own.specs.declared.owned.Owned.{Owned}
use Rattle.cw_loops.specs.declared.program.Core.{Core}
use Rattle.cw_loops.specs.Seen.{IsLowering}

-- the core keeps the tree of this program, and its lowered tree is correct
abbrev pub IsCoreOf : Owned → Core → Type 0
IsCoreOf owned core = IsLowering owned.typed.tree core.source.typed.tree core.tree
