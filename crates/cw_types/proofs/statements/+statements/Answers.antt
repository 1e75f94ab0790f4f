use Rattle.std.proofs.Common.{◌≡◌, ◌+◌, drop, take, length, ap, sym, ◌∙◌, arith, ℕ, List}
use Rattle.std.proofs.lemmas.Grind.{common_steps}
use Rattle.cw_model.specs.Syntax as model
use Rattle.cw_tree.specs.declared.syntax.Line.{the_lemmas}
use Rattle.cw_tree.specs.SyntaxView as parsed
use Rattle.cw_tree.specs.declared.resolved.Line.{Line}
use Rattle.cw_tree.specs.Declares.{declares_in_block}
use Rattle.cw_types.specs.Locals.{locals_view, lists_view}
use Rattle.cw_tree.specs.Resolved as spec
use Rattle.cw_tree.specs.ResolvedView.{block_of}
use Rattle.cw_types.proofs.Joined.{joined, joined_end, joined_push, counted, grown_ints, grown_arrays, first_ints, first_arrays}
use Rattle.cw_types.proofs.statements.+statements.Goals as goal

pub block-loop-line-preserved : goal.block-loop-line-preserved
block-loop-line-preserved t c =
    let lists = lists_view c.args.lists.now in
    let k = locals_view c.loop-line.locals in
    let s = parsed.stmt_of c.line-item.result.stmt in
    let line = c.line-item.result.line in
    let rest = parsed.block_of (drop (c.loop-line.line-index + 1) c.args.lines.now) in
    let split : parsed.block_of (drop c.loop-line.line-index c.args.lines.now) ≡ model.Then line s rest = grind (arith, common_steps, the_lemmas) in
    let view : locals_view c.statement.new.locals ≡ k =
    ap (λ (xs : List (List ℕ)). let l : spec.Locals = record { ints = xs; arrays = c.statement.new.locals.arrays } in l) c.in_ok-stmt.ensures.ints
    ∙ ap (λ (xs : List (List ℕ)). let l : spec.Locals = record { ints = c.loop-line.locals.ints; arrays = xs } in l) c.in_ok-stmt.ensures.arrays in
    let later : locals_view c.declare.new.locals ≡ spec.locals_after k s = c.in_ok-declare.ensures ∙ ap (λ l. spec.locals_after l s) view in
    let made : Line = record { line = line; stmt = c.in_ok-stmt.stmt } in
    let after = spec.locals_after k s in
    let later_ints : c.declare.new.locals.ints ≡ after.ints = ap (λ l. l.ints) later in
    let later_arrays : c.declare.new.locals.arrays ≡ after.arrays = ap (λ l. l.arrays) later in
    record {
      room = omega (arith, ap length later_ints, ap length later_arrays, counted k s, ap declares_in_block split, c.loop-line.invariant.room);
      all =
          ap (λ ls. joined (block_of ls) (spec.resolved_block lists (locals_view c.declare.new.locals) rest)) c.in_ok-push.ensures.items
          ∙ joined_push c.loop-line.found.items made (spec.resolved_block lists (locals_view c.declare.new.locals) rest)
          ∙ ap (λ u. joined (block_of c.loop-line.found.items) (spec.Then line u (spec.resolved_block lists (locals_view c.declare.new.locals) rest))) c.in_ok-stmt.ensures.tree
          ∙ ap (λ l. joined (block_of c.loop-line.found.items) (spec.Then line (spec.resolved_stmt lists k s) (spec.resolved_block lists l rest))) later
          ∙ ap (λ b. joined (block_of c.loop-line.found.items) (spec.resolved_block lists k b)) (sym split)
          ∙ c.loop-line.invariant.all;
      ints = c.loop-line.invariant.ints;
      arrays = c.loop-line.invariant.arrays;
      more_ints = omega (arith, ap length later_ints, grown_ints k s, c.loop-line.invariant.more_ints);
      more_arrays = omega (arith, ap length later_arrays, grown_arrays k s, c.loop-line.invariant.more_arrays);
      kept_ints = ap (take c.len-ints.result) later_ints ∙ first_ints k s c.len-ints.result c.loop-line.invariant.more_ints ∙ c.loop-line.invariant.kept_ints;
      kept_arrays = ap (take c.len-arrays.result) later_arrays ∙ first_arrays k s c.len-arrays.result c.loop-line.invariant.more_arrays ∙ c.loop-line.invariant.kept_arrays;
    }

pub block-declare-requires : goal.block-declare-requires
block-declare-requires t c =
    let s = parsed.stmt_of c.line-item.result.stmt in
    let rest = parsed.block_of (drop (c.loop-line.line-index + 1) c.args.lines.now) in
    let split : parsed.block_of (drop c.loop-line.line-index c.args.lines.now) ≡ model.Then c.line-item.result.line s rest = grind (arith, common_steps, the_lemmas) in
    omega (arith, ap length c.in_ok-stmt.ensures.ints, ap length c.in_ok-stmt.ensures.arrays, ap declares_in_block split, c.loop-line.invariant.room)

pub block-returns : goal.block-returns
block-returns t c =
    let empty : parsed.block_of (drop c.loop-line.line-index c.args.lines.now) ≡ model.End = grind (arith, common_steps, the_lemmas) in
    record {
      tree =
          sym (joined_end (block_of c.loop-line.found.items))
          ∙ ap (λ b. joined (block_of c.loop-line.found.items) (spec.resolved_block (lists_view c.args.lists.now) (locals_view c.loop-line.locals) b)) (sym empty)
          ∙ c.loop-line.invariant.all;
      ints = grind (arith, common_steps);
      arrays = grind (arith, common_steps);
    }
