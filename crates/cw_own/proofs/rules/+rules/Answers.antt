use Rattle.std.proofs.Common.{rules, ◌≡◌, ◌++◌, ◌∷◌, ◌+◌, [], map, option_map, length, drop, ap, sym, ◌∙◌, arith, true}
use Rattle.cw_model.specs.Ownership.{Leaves}
use Rattle.cw_tree.specs.declared.resolved.Stmt.TheViews.{the_lemmas}
use Rattle.cw_tree.specs.Resolved as spec
use Rattle.cw_tree.specs.ResolvedView.{expr_of, stmt_of, block_of}
use Rattle.std.proofs.lemmas.Grind.{common_steps}
use Rattle.cw_facts.specs.Tests.{first_true, second_true}
use Rattle.cw_own.specs.Bounds.{small_stmt, small_block}
use Rattle.cw_own.specs.Sets.{row_of}
use Rattle.cw_own.specs.Taken.{restrictions_of, taken_of, taken_after, taken_after_all, left_by, known_after, turns, turns_in, turns_within}
use Rattle.cw_own.specs.Rules.{seen_by}
use Rattle.cw_own.specs.Reasons.{block_reasons, reasons_at, reasons_in, reasons_within, why, line_in}
use Rattle.cw_text.specs.Rising.{kept}
use Rattle.cw_own.specs.Views.{recorded_reasons, turn_of}
use Rattle.cw_own.proofs.Small.{appended, kept_append}
use Rattle.cw_own.proofs.Branches.{if_else_is, line_is}
use Rattle.cw_own.proofs.Turns.{drop_both, rest_is, left_is}
use Rattle.cw_own.proofs.rules.+rules.Goals as goal

pub record_all-of_stmt-requires : goal.record_all-of_stmt-requires
record_all-of_stmt-requires t c =
    let line = c.line-item.result in
    let rest = drop (c.loop-line.line-index + 1) c.args.lines.now in
    let first : drop c.loop-line.line-index c.args.lines.now ≡ line ∷ rest = grind (arith, common_steps) in
    first_true (small_stmt (stmt_of line.stmt)) (small_block (block_of rest)) (ap small_block (sym (ap block_of first ∙ line_is line rest)) ∙ c.loop-line.invariant.small)

pub record_all-loop-line-preserved : goal.record_all-loop-line-preserved
record_all-loop-line-preserved t c =
    let line = c.line-item.result in
    let s = stmt_of line.stmt in
    let rest = drop (c.loop-line.line-index + 1) c.args.lines.now in
    let known = row_of c.loop-line.known in
    let taken = taken_of c.loop-line.taken in
    let around = option_map turn_of c.args.around.now in
    let first_so_far = recorded_reasons c.loop-line.told in
    let first : drop c.loop-line.line-index c.args.lines.now ≡ line ∷ rest = grind (arith, common_steps) in
    let split : block_of (drop c.loop-line.line-index c.args.lines.now) ≡ spec.Then line.line s (block_of rest) = ap block_of first ∙ line_is line rest in
    let next : row_of c.know.new.known ≡ known_after known s = c.know.ensures in
    let seen : taken_of c.see.new.taken ≡ seen_by known taken s = c.see.ensures.seen in
    let after : taken_of c.record_within.new.taken ≡ taken_after known s taken = c.record_within.ensures.taken ∙ ap (left_by known s) seen ∙ left_is known s taken in
    let here = reasons_at line.line (why around (seen_by known taken s) s) in
    let inside = reasons_within around known (seen_by known taken s) line.line s in
    let more = reasons_in around (known_after known s) (taken_after known s taken) (block_of rest) in
    let noted : recorded_reasons c.record_within.new.told ≡ kept line_in (kept line_in first_so_far here) inside =
    c.record_within.ensures.lines
    ∙ ap (λ o. kept line_in o (reasons_within around known (taken_of c.see.new.taken) line.line s)) (c.note.ensures ∙ ap (λ r. kept line_in first_so_far (reasons_at line.line r)) c.of_stmt.ensures)
    ∙ ap (λ t. kept line_in (kept line_in first_so_far (reasons_at line.line (why around t s))) (reasons_within around known t line.line s)) seen in
    let left = drop (length (turns_in (row_of c.args.known.now) (block_of c.args.lines.now))) (map restrictions_of c.args.rest.now.left.now) in
    record {
      small = second_true (small_stmt s) (small_block (block_of rest)) (ap small_block (sym split) ∙ c.loop-line.invariant.small);
      taken =
          ap (λ k. taken_after_all k (block_of rest) (taken_of c.record_within.new.taken)) next
          ∙ ap (taken_after_all (known_after known s) (block_of rest)) after
          ∙ ap (λ b. taken_after_all known b taken) (sym split)
          ∙ c.loop-line.invariant.taken;
      lines =
          ap (λ k. kept line_in (recorded_reasons c.record_within.new.told) (reasons_in around k (taken_of c.record_within.new.taken) (block_of rest))) next
          ∙ ap (λ t. kept line_in (recorded_reasons c.record_within.new.told) (reasons_in around (known_after known s) t (block_of rest))) after
          ∙ ap (λ o. kept line_in o more) (noted ∙ sym (kept_append first_so_far here inside))
          ∙ sym (kept_append first_so_far (here ++ inside) more)
          ∙ ap (λ b. kept line_in first_so_far (reasons_in around known taken b)) (sym split)
          ∙ c.loop-line.invariant.lines;
      turns =
          c.record_within.ensures.turns
          ∙ c.see.ensures.left
          ∙ ap (drop (length (turns known s)))
          (c.loop-line.invariant.turns ∙ ap (λ b. turns_in known b ++ left) split ∙ appended (turns known s) (turns_in (known_after known s) (block_of rest)) left)
          ∙ rest_is (turns known s) (turns_in (known_after known s) (block_of rest) ++ left)
          ∙ ap (λ k. turns_in k (block_of rest) ++ left) (sym next);
    }

pub record_all-returns-clause-taken : goal.record_all-returns-clause-taken
record_all-returns-clause-taken t c =
    let none : drop c.loop-line.line-index c.args.lines.now ≡ [] = grind (arith, common_steps) in
    sym (ap (λ ls. taken_after_all (row_of c.loop-line.known) (block_of ls) (taken_of c.loop-line.taken)) none) ∙ c.loop-line.invariant.taken

pub record_either-record_block-requires-in-IfElse : goal.record_either-record_block-requires-in-IfElse
record_either-record_block-requires-in-IfElse t c =
    let known = row_of c.args.known.now in
    let b = block_of c.in-IfElse.block.items in
    let d = block_of c.in-IfElse.other.value.items in
    let rows = map restrictions_of c.args.rest.now.left.now in
    let new = map restrictions_of c.record_block.new.rest.left.now in
    let rest = drop (length (turns_in known b ++ turns_in known d)) rows in
    let e : stmt_of c.args.stmt.now ≡ spec.IfElse (expr_of c.in-IfElse.field-0) b d = ap stmt_of c.in-IfElse.is ∙ if_else_is c.in-IfElse.field-0 c.in-IfElse.block c.in-IfElse.other in
    let begun : rows ≡ (turns_in known b ++ turns_in known d) ++ rest = c.requires.turns ∙ ap (λ s. turns_within known s ++ drop (length (turns_within known s)) rows) e in
    let left : new ≡ turns_in known d ++ rest =
    c.record_block.ensures.turns
    ∙ ap (λ ls. drop (length (turns_in known (block_of ls))) rows) c.deref.ensures.value
    ∙ ap (drop (length (turns_in known b))) (begun ∙ appended (turns_in known b) (turns_in known d) rest)
    ∙ rest_is (turns_in known b) (turns_in known d ++ rest) in
    let here : c.deref-in-IfElse-2.result.now ≡ c.in-IfElse.other.value.items = c.deref-in-IfElse-2.ensures.value ∙ ap (λ v. v.items) c.deref-in-IfElse.ensures in
    let small : small_block d ≡ true = second_true (small_block b) (small_block d) (sym (ap small_stmt e) ∙ c.requires.small) in (
      search (rules, the_lemmas),
      (
        ap (λ ls. small_block (block_of ls)) here ∙ small,
        left
            ∙ ap (λ r. turns_in known d ++ r) (sym (ap (drop (length (turns_in known d))) left ∙ rest_is (turns_in known d) rest))
            ∙ sym (ap (λ ls. turns_in known (block_of ls) ++ drop (length (turns_in known (block_of ls))) new) here),
      ),
    )

pub record_either-returns-in-IfElse-clause-turns : goal.record_either-returns-in-IfElse-clause-turns
record_either-returns-in-IfElse-clause-turns t c =
    let known = row_of c.args.known.now in
    let b = block_of c.in-IfElse.block.items in
    let d = block_of c.in-IfElse.other.value.items in
    let rows = map restrictions_of c.args.rest.now.left.now in
    let e : stmt_of c.args.stmt.now ≡ spec.IfElse (expr_of c.in-IfElse.field-0) b d = ap stmt_of c.in-IfElse.is ∙ if_else_is c.in-IfElse.field-0 c.in-IfElse.block c.in-IfElse.other in
    let here : c.deref-in-IfElse-2.result.now ≡ c.in-IfElse.other.value.items = c.deref-in-IfElse-2.ensures.value ∙ ap (λ v. v.items) c.deref-in-IfElse.ensures in
    c.record_block-in-IfElse.ensures.turns
    ∙ ap (λ ls. drop (length (turns_in known (block_of ls))) (map restrictions_of c.record_block.new.rest.left.now)) here
    ∙ ap (drop (length (turns_in known d))) (c.record_block.ensures.turns ∙ ap (λ ls. drop (length (turns_in known (block_of ls))) rows) c.deref.ensures.value)
    ∙ drop_both (turns_in known b) (turns_in known d) rows
    ∙ sym (ap (λ s. drop (length (turns_within known s)) rows) e)

pub record_either-returns-in-IfElse-clause-lines : goal.record_either-returns-in-IfElse-clause-lines
record_either-returns-in-IfElse-clause-lines t c =
    let known = row_of c.args.known.now in
    let around = option_map turn_of c.args.around.now in
    let taken = taken_of c.args.taken.now in
    let b = block_of c.in-IfElse.block.items in
    let d = block_of c.in-IfElse.other.value.items in
    let first = recorded_reasons c.args.told.now in
    let e : stmt_of c.args.stmt.now ≡ spec.IfElse (expr_of c.in-IfElse.field-0) b d = ap stmt_of c.in-IfElse.is ∙ if_else_is c.in-IfElse.field-0 c.in-IfElse.block c.in-IfElse.other in
    let here : c.deref-in-IfElse-2.result.now ≡ c.in-IfElse.other.value.items = c.deref-in-IfElse-2.ensures.value ∙ ap (λ v. v.items) c.deref-in-IfElse.ensures in
    c.record_block-in-IfElse.ensures.lines
    ∙ ap (λ ls. kept line_in (recorded_reasons c.record_block.new.told) (block_reasons around known taken Leaves (block_of ls))) here
    ∙ ap (λ o. kept line_in o (block_reasons around known taken Leaves d)) (c.record_block.ensures.lines ∙ ap (λ ls. kept line_in first (block_reasons around known taken Leaves (block_of ls))) c.deref.ensures.value)
    ∙ sym (kept_append first (block_reasons around known taken Leaves b) (block_reasons around known taken Leaves d))
    ∙ sym (ap (λ s. kept line_in first (reasons_within around known taken 0 s)) e)

pub record_all-know-requires : goal.record_all-know-requires
record_all-know-requires t c =
    let line = c.line-item.result in
    let rest = drop (c.loop-line.line-index + 1) c.args.lines.now in
    let first : drop c.loop-line.line-index c.args.lines.now ≡ line ∷ rest = grind (arith, common_steps) in
    first_true (small_stmt (stmt_of line.stmt)) (small_block (block_of rest)) (ap small_block (sym (ap block_of first ∙ line_is line rest)) ∙ c.loop-line.invariant.small)
