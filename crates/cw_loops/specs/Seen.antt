-- The functions that a lowered tree represents, and the contract of lowering.
use Rattle.std.specs.Prelude.{◌≡◌, true, List}
use Rattle.cw_model.specs.Lines.{IsLeastLine}
use Rattle.cw_model.specs.Sizes.{loop_faults}
use Rattle.cw_model.specs.Syntax.{Program}
use Rattle.cw_text.specs.declared.fault.Fault.{Fault}
use Rattle.cw_text.specs.declared.fault.Fault.TheVariants as fault
use Rattle.cw_tree.specs.declared.resolved.Tree as source_code
use Rattle.cw_tree.specs.ResolvedView.{program_of, resolved_of}
use Rattle.cw_loops.specs.declared.tree.Tree.{Tree}
use Rattle.cw_loops.specs.SourceLike.{is_source_like}
use Rattle.cw_loops.specs.Slotted.{Function, slotted_functions}
use Rattle.cw_loops.specs.Lowers.{bodies_of, made_of_tree}
use Rattle.cw_loops.specs.Same.{same_bodies}
use Rattle.cw_loops.specs.Expanded.{expanded}

-- the functions that a lowered tree represents, with the tree of its source: the functions of the source first, then
-- the functions of the loops, each written out
abbrev pub functions_of : source_code.Tree → Tree → List Function
functions_of source tree = expanded (resolved_of source) (bodies_of tree)

-- a lowered tree represents the lowered program with each name looked up, if the names and numbers of the program are
-- possible in a source, as for every derived program
abbrev pub IsLowered : source_code.Tree → Tree → Type 0
IsLowered source tree =
    is_source_like (program_of source) ≡ true → functions_of source tree ≡ slotted_functions (program_of source)

-- the test accepts the tree as the result of lowering its source
abbrev pub IsMadeOf : source_code.Tree → Tree → Type 0
IsMadeOf source tree = same_bodies (bodies_of tree) (made_of_tree (resolved_of source)) ≡ true

-- the reason why a source is not lowered: it has too many loops, or memory ran out
abbrev pub WhyNotLowered : Program → Fault → Type 0
WhyNotLowered program (fault.Size place) = IsLeastLine (loop_faults program) place.line
WhyNotLowered program fault.Memory = Unit {0}
WhyNotLowered program _ = ⊥

-- the lowered program keeps the tree of its source
pub record IsLowering (given kept : source_code.Tree) (tree : Tree) : Type 0 where
  pub same_source : kept ≡ given
  pub functions : IsLowered given tree
