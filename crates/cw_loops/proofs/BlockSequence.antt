-- The lines of a block as a sequence.
use Rattle.std.proofs.Common.{◌≡◌, List, [], ◌∷◌, ◌++◌, refl, ap, arith}
use Rattle.cw_loops.specs.declared.tree.Line.{Line, the_lemmas}
use Rattle.cw_loops.specs.Slotted.{Block, End, Then}
use Rattle.cw_loops.specs.View.{block_of, line_of, stmt_of}

-- the concatenation of two blocks
abbrev pub joined : Block → Block → Block
joined End c = c
joined (Then line s b) c = Then line s (joined b c)

pub joined_end : (b : Block) → joined b End ≡ b
joined_end End = refl
joined_end (Then line s b) = ap (Then line s) (joined_end b)

pub joined_push : (ls : List Line) (l : Line) (c : Block) → joined (block_of (ls ++ l ∷ [])) c ≡ joined (block_of ls) (Then l.line (stmt_of l.stmt) c)
joined_push [] l c = grind (arith, the_lemmas)
joined_push (k ∷ ls) l c = ap (Then (line_of k).0 (line_of k).1) (joined_push ls l c)
