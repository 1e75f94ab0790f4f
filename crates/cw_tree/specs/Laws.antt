-- The statements of the laws of resolved trees.
use Rattle.std.specs.Prelude.{◌≡◌, ◌≤◌, ◌+◌, ℕ, max, true, [], length}
use Rattle.cw_model.specs.Sizes.{limit_faults}
use Rattle.cw_model.specs.Syntax.{Program, Block}
use Rattle.cw_model.specs.Typing.{type_faults}
use Rattle.cw_tree.specs.Bounds.{is_fitting}
use Rattle.cw_tree.specs.Declares.{declares_in_block}
use Rattle.cw_tree.specs.Resolved.{Lists, Locals, resolved, plain, resolved_block, ints_in_block, arrays_in_block}
use Rattle.cw_tree.specs.Slots.{is_resolved}

-- if a program keeps the rules, it is its resolved tree without the slots
abbrev pub PlainOfResolved : Type 0
PlainOfResolved = (program : Program) → type_faults program ≡ [] → plain (resolved program) ≡ program

-- if a program keeps the rules, its resolved tree has correct slots, indices and counts
abbrev pub ResolvedIsRight : Type 0
ResolvedIsRight = (program : Program) → type_faults program ≡ [] → is_resolved (resolved program) ≡ true

-- if a program keeps the limits and the rules, all slots and indices of its resolved tree are below their counts
abbrev pub ResolvedFits : Type 0
ResolvedFits =
    (program : Program) → limit_faults program ≡ [] → type_faults program ≡ [] → is_fitting (resolved program) ≡ true

-- a block needs at most one integer slot for each integer known before it and for each name that it declares
abbrev pub FewInts : Type 0
FewInts =
    (lists : Lists) (l : Locals) (n : ℕ) (b : Block) →
    ints_in_block n (resolved_block lists l b) ≤ max n (length l.ints + declares_in_block b)

-- a block needs at most one array slot for each array known before it and for each name that it declares
abbrev pub FewArrays : Type 0
FewArrays =
    (lists : Lists) (l : Locals) (n : ℕ) (b : Block) →
    arrays_in_block n (resolved_block lists l b) ≤ max n (length l.arrays + declares_in_block b)
