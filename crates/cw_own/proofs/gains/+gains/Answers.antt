use Rattle.std.proofs.Common.{◌≡◌, ◌++◌, ◌∷◌, ◌+◌, rules, map, drop, slice_set, ap, sym, ◌∙◌, arith}
use Rattle.std.proofs.lemmas.Grind.{common_steps}
use Rattle.cw_facts.specs.Tests.{first_true, second_true}
use Rattle.cw_tree.specs.declared.resolved.Stmt.TheViews.{the_lemmas}
use Rattle.cw_tree.specs.Resolved as spec
use Rattle.cw_tree.specs.ResolvedView.{expr_of, stmt_of, block_of}
use Rattle.cw_own.specs.Bounds.{small_stmt, small_block}
use Rattle.cw_own.specs.Sets.{row_of}
use Rattle.cw_own.specs.Taken.{no_restrictions, restrictions_within, restrictions_of, turns, turns_in, after_all, known_after, gain}
use Rattle.cw_own.proofs.Small.{appended}
use Rattle.cw_own.proofs.Branches.{if_else_is, line_is}
use Rattle.cw_own.proofs.Turns.{set_kept}
use Rattle.cw_own.proofs.gains.+gains.Goals as goal

pub after_while-returns-clause-gains : goal.after_while-returns-clause-gains
after_while-returns-clause-gains t c = λ done.
    let known = row_of c.args.known.now in
    let body = turns_in known (block_of c.args.lines.now) in
    let before = map restrictions_of c.args.gains.now.rows.items in
    let inner = c.after_block.ensures.gains (sym c.set.ensures.complete ∙ done) in
    let place = c.keep-place.ensures.grown inner.0 in
    let own : restrictions_of c.after_block.new.here ≡ gain known (block_of c.args.lines.now) =
    c.after_block.ensures.row ∙ ap (λ r. restrictions_within known (after_all known (block_of c.args.lines.now) r)) c.none-gain.ensures in (
      place.0,
      ap (map restrictions_of) c.set.ensures.rows
          ∙ ap (λ n. map restrictions_of (slice_set c.after_block.new.gains.rows.items n c.after_block.new.here)) c.keep-place.ensures.place
          ∙ set_kept c.after_block.new.gains.rows.items c.args.gains.now.rows.items no_restrictions c.after_block.new.here body (inner.1 ∙ ap (λ r. r ++ body) place.1)
          ∙ ap (λ g. before ++ g ∷ body) own,
    )

pub after_all-loop-line-preserved : goal.after_all-loop-line-preserved
after_all-loop-line-preserved t c =
    let line = c.line-item.result in
    let s = stmt_of line.stmt in
    let rest = drop (c.loop-line.line-index + 1) c.args.lines.now in
    let known = row_of c.loop-line.known in
    let first : drop c.loop-line.line-index c.args.lines.now ≡ line ∷ rest = grind (arith, common_steps) in
    let split : block_of (drop c.loop-line.line-index c.args.lines.now) ≡ spec.Then line.line s (block_of rest) = ap block_of first ∙ line_is line rest in
    let next : row_of c.know.new.known ≡ known_after known s = c.know.ensures in
    record {
      small = second_true (small_stmt s) (small_block (block_of rest)) (ap small_block (sym split) ∙ c.loop-line.invariant.small);
      row = ap (λ k. after_all k (block_of rest) (restrictions_of c.after.new.here)) next
          ∙ ap (after_all (known_after known s) (block_of rest)) c.after.ensures.row
          ∙ ap (λ b. after_all known b (restrictions_of c.loop-line.here)) (sym split)
          ∙ c.loop-line.invariant.row;
      complete = λ done. c.loop-line.invariant.complete (c.after.ensures.gains done).0;
      gains = λ done.
          let grown = c.after.ensures.gains done in
          ap (λ k. map restrictions_of c.after.new.gains.rows.items ++ turns_in k (block_of rest)) next
          ∙ ap (λ r. r ++ turns_in (known_after known s) (block_of rest)) grown.1
          ∙ appended (map restrictions_of c.loop-line.gains.rows.items) (turns known s) (turns_in (known_after known s) (block_of rest))
          ∙ ap (λ b. map restrictions_of c.loop-line.gains.rows.items ++ turns_in known b) (sym split)
          ∙ c.loop-line.invariant.gains grown.0;
    }

pub after_all-know-requires : goal.after_all-know-requires
after_all-know-requires t c =
    let line = c.line-item.result in
    let rest = drop (c.loop-line.line-index + 1) c.args.lines.now in
    let first : drop c.loop-line.line-index c.args.lines.now ≡ line ∷ rest = grind (arith, common_steps) in
    first_true (small_stmt (stmt_of line.stmt)) (small_block (block_of rest)) (ap small_block (sym (ap block_of first ∙ line_is line rest)) ∙ c.loop-line.invariant.small)

pub after_either-after_block-requires-in-IfElse : goal.after_either-after_block-requires-in-IfElse
after_either-after_block-requires-in-IfElse t c =
    let b = block_of c.in-IfElse.block.items in
    let d = block_of c.in-IfElse.other.value.items in
    let e : stmt_of c.args.stmt.now ≡ spec.IfElse (expr_of c.in-IfElse.field-0) b d = ap stmt_of c.in-IfElse.is ∙ if_else_is c.in-IfElse.field-0 c.in-IfElse.block c.in-IfElse.other in
    let small =
    ap (λ ls. small_block (block_of ls)) (c.deref-in-IfElse-2.ensures.value ∙ ap (λ v. v.items) c.deref-in-IfElse.ensures)
    ∙ second_true (small_block b) (small_block d) (sym (ap small_stmt e) ∙ c.requires.small) in
    (search (rules, the_lemmas), small)

pub after_either-returns-in-IfElse-clause-gains : goal.after_either-returns-in-IfElse-clause-gains
after_either-returns-in-IfElse-clause-gains t c = λ done.
    let known = row_of c.args.known.now in
    let b = block_of c.in-IfElse.block.items in
    let d = block_of c.in-IfElse.other.value.items in
    let before = map restrictions_of c.args.gains.now.rows.items in
    let e : stmt_of c.args.stmt.now ≡ spec.IfElse (expr_of c.in-IfElse.field-0) b d = ap stmt_of c.in-IfElse.is ∙ if_else_is c.in-IfElse.field-0 c.in-IfElse.block c.in-IfElse.other in
    let here : c.deref-in-IfElse-2.result.now ≡ c.in-IfElse.other.value.items = c.deref-in-IfElse-2.ensures.value ∙ ap (λ v. v.items) c.deref-in-IfElse.ensures in
    let second = c.after_block-in-IfElse.ensures.gains done in
    let first = c.after_block.ensures.gains second.0 in (
      first.0,
      second.1
          ∙ ap (λ r. r ++ turns_in known (block_of c.deref-in-IfElse-2.result.now)) first.1
          ∙ appended before (turns_in known (block_of c.deref.result.now)) (turns_in known (block_of c.deref-in-IfElse-2.result.now))
          ∙ ap (λ ls. before ++ (turns_in known (block_of ls) ++ turns_in known (block_of c.deref-in-IfElse-2.result.now))) c.deref.ensures.value
          ∙ ap (λ ls. before ++ (turns_in known b ++ turns_in known (block_of ls))) here
          ∙ sym (ap (λ s. before ++ turns known s) e),
    )
