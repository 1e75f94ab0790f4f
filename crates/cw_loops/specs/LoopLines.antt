-- The lines of the loops in a source.
use Rattle.std.specs.Prelude.{ℕ, List, map, flat_map}
use Rattle.cw_model.specs.declared.limits.TheConstants.{MOST_LOOPS}
use Rattle.cw_model.specs.Sizes.{lines_beyond, loops_in, loops_in_block}
use Rattle.cw_tree.specs.declared.resolved.Function.{Function}
use Rattle.cw_tree.specs.declared.resolved.Line.{Line}
use Rattle.cw_tree.specs.declared.resolved.Stmt.{Stmt}
use Rattle.cw_tree.specs.Resolved.{plain_block, plain_function, plain_stmt}
use Rattle.cw_tree.specs.ResolvedView.{block_of, function_of, stmt_of}

-- the lines of the loops in a block
abbrev pub lines_in_block : List Line → List ℕ
lines_in_block lines = loops_in_block (plain_block (block_of lines))

-- the lines of the loops in a statement in this line
abbrev pub lines_in : (line : ℕ) → Stmt → List ℕ
lines_in line s = loops_in line (plain_stmt (stmt_of s))

-- the lines of the loops in functions
abbrev pub lines_in_all : List Function → List ℕ
lines_in_all functions = flat_map (λ f. loops_in_block f.body) (map plain_function (map function_of functions))

-- the lines of the loops past the limit
abbrev pub loops_past : List Function → List ℕ
loops_past functions = lines_beyond MOST_LOOPS (lines_in_all functions)
