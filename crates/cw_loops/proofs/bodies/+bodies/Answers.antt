use Rattle.std.proofs.Common.{◌≡◌, ◌+◌, drop, map, ap, sym, ◌∙◌, arith}
use Rattle.std.proofs.lemmas.Grind.{common_steps}
use Rattle.cw_tree.specs.declared.resolved.Line.{the_lemmas}
use Rattle.cw_tree.specs.Resolved as resolved
use Rattle.cw_tree.specs.ResolvedView as source
use Rattle.cw_loops.specs.declared.tree.Line.{Line}
use Rattle.cw_loops.specs.Slotted.{Then}
use Rattle.cw_loops.specs.Moved.{arrays_after, made_stmt, made_block}
use Rattle.cw_loops.specs.Moving.{moves_view}
use Rattle.cw_loops.specs.View.{block_of, loop_of}
use Rattle.cw_loops.proofs.BlockSequence.{joined, joined_end, joined_push}
use Rattle.cw_loops.proofs.bodies.+bodies.Goals as goal

pub block-loop-line-preserved : goal.block-loop-line-preserved
block-loop-line-preserved t c =
    let n = c.args.here.functions in
    let m = moves_view c.args.here.moves in
    let arrays = c.loop-line.arrays in
    let loops = map loop_of c.loop-line.loops.items in
    let s = source.stmt_of c.line-item.result.stmt in
    let line = c.line-item.result.line in
    let rest = source.block_of (drop (c.loop-line.line-index + 1) c.args.lines.now) in
    let split : source.block_of (drop c.loop-line.line-index c.args.lines.now) ≡ resolved.Then line s rest = grind (arith, common_steps, the_lemmas) in
    let made : Line = record { line = line; stmt = c.in_ok-stmt.stmt } in
    let later = made_block n m c.arrays_after-arrays.result (map loop_of c.statement.new.loops.items) rest in
    let then_arrays : c.arrays_after-arrays.result ≡ arrays_after arrays s = c.arrays_after-arrays.ensures in
    let then_loops : map loop_of c.statement.new.loops.items ≡ (made_stmt n m arrays loops line s).loops = c.in_ok-stmt.ensures.loops in
    record {
      lines =
          ap (λ ls. joined (block_of ls) later.block) c.in_ok-push.ensures.items
          ∙ joined_push c.loop-line.made.items made later.block
          ∙ ap (λ u. joined (block_of c.loop-line.made.items) (Then line u later.block)) c.in_ok-stmt.ensures.stmt
          ∙ ap (λ ls. joined (block_of c.loop-line.made.items) (Then line (made_stmt n m arrays loops line s).stmt (made_block n m c.arrays_after-arrays.result ls rest).block)) then_loops
          ∙ ap (λ k. joined (block_of c.loop-line.made.items) (Then line (made_stmt n m arrays loops line s).stmt (made_block n m k (made_stmt n m arrays loops line s).loops rest).block)) then_arrays
          ∙ ap (λ b. joined (block_of c.loop-line.made.items) (made_block n m arrays loops b).block) (sym split)
          ∙ c.loop-line.invariant.lines;
      loops =
          ap (λ ls. (made_block n m c.arrays_after-arrays.result ls rest).loops) then_loops
          ∙ ap (λ k. (made_block n m k (made_stmt n m arrays loops line s).loops rest).loops) then_arrays
          ∙ ap (λ b. (made_block n m arrays loops b).loops) (sym split)
          ∙ c.loop-line.invariant.loops;
    }

pub block-returns-clause-lines : goal.block-returns-clause-lines
block-returns-clause-lines t c =
    let empty : source.block_of (drop c.loop-line.line-index c.args.lines.now) ≡ resolved.End = grind (arith, common_steps, the_lemmas) in
    sym (joined_end (block_of c.loop-line.made.items))
    ∙ ap (λ b. joined (block_of c.loop-line.made.items) (made_block c.args.here.functions (moves_view c.args.here.moves) c.loop-line.arrays (map loop_of c.loop-line.loops.items) b).block) (sym empty)
    ∙ c.loop-line.invariant.lines
