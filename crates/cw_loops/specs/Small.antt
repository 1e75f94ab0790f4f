-- The number of functions of a lowered tree, and bounds of the numbers that determine a loop's function.
use Rattle.std.specs.Prelude.{◌≡◌, ◌≤◌, List, [], ◌∷◌, length}
use Rattle.cw_model.specs.declared.limits.TheConstants.{MOST_FUNCTIONS, MOST_GRAIN, MOST_DECLARED, MOST_LOOPS}
use Rattle.cw_tree.specs.declared.resolved.Tree as source_code
use Rattle.cw_tree.specs.ResolvedView.{resolved_of}
use Rattle.cw_loops.specs.declared.tree.Tree.{Tree}
use Rattle.cw_loops.specs.Moved.{Loop}
use Rattle.cw_loops.specs.Lowers.{bodies_of}

-- bounds of the numbers of a loop
pub record IsSmallLoop (l : Loop) : Type 0 where
  pub grain : l.grain ≤ MOST_GRAIN
  pub captured : l.captured ≤ MOST_DECLARED
  pub over : l.over ≤ MOST_DECLARED

abbrev pub AreSmallLoops : List Loop → Type 0
AreSmallLoops [] = Unit {0}
AreSmallLoops (l ∷ loops) = IsSmallLoop l × AreSmallLoops loops

-- a body for each source function; the numbers of functions, of loops and of each loop keep the limits
pub record IsSmallTree (source : source_code.Tree) (tree : Tree) : Type 0 where
  pub bodies : length (bodies_of tree).blocks ≡ length (resolved_of source).functions
  pub functions : length (resolved_of source).functions ≤ MOST_FUNCTIONS
  pub loops : length (bodies_of tree).loops ≤ MOST_LOOPS
  pub each : AreSmallLoops (bodies_of tree).loops
