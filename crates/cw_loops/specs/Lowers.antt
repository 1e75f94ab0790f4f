-- The result of lowering the functions of a resolved tree, and the abstraction of lowered code.
use Rattle.std.specs.Prelude.{ℕ, ◌+◌, if◌then◌else◌, List, [], ◌∷◌, length, map}
use Rattle.cw_model.specs.Syntax.{Param, is_array_param}
use Rattle.cw_tree.specs.Resolved as source
use Rattle.cw_loops.specs.declared.tree.Tree.{Tree}
use Rattle.cw_loops.specs.Slotted.{Block}
use Rattle.cw_loops.specs.Moved.{Loop, slot, made_body}
use Rattle.cw_loops.specs.View.{block_of, loop_of}

-- lowered bodies of functions, and the loops so far with the loops of these bodies appended
pub record Bodies : Type 0 where
  pub blocks : List Block
  pub loops : List Loop

-- adds a body at the front
abbrev pub with_body : Block → Bodies → Bodies
with_body b rest = record { blocks = b ∷ rest.blocks; loops = rest.loops }

-- the number of parameters that are arrays, added to `n`
abbrev pub arrays_from : ℕ → List Param → ℕ
arrays_from n [] = n
arrays_from n (p ∷ ps) = arrays_from (if is_array_param p then slot (n + 1) else n) ps

-- the lowered bodies of functions, with their loops after these loops; `functions` counts the source functions
abbrev pub made_bodies : (functions : ℕ) → List Loop → List source.Function → Bodies
made_bodies n loops [] = record { blocks = []; loops = loops }
made_bodies n loops (f ∷ fs) =
    let here = made_body n (arrays_from 0 f.params) loops f.body in
    with_body here.block (made_bodies n here.loops fs)

-- the lowered bodies of the functions of a source, with their loops
abbrev pub made_of : List source.Function → Bodies
made_of functions = made_bodies (slot (length functions)) [] functions

-- the lowered bodies of a resolved tree, with its loops
abbrev pub made_of_tree : source.Resolved → Bodies
made_of_tree tree = made_of tree.functions

-- the abstraction of the bodies and loops of the code
abbrev pub bodies_of : Tree → Bodies
bodies_of tree = record { blocks = map (λ b. block_of b.items) tree.bodies.items; loops = map loop_of tree.loops.items }
