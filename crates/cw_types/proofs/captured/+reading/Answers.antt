use Rattle.std.proofs.Common.{◌≡◌, ◌++◌, ◌+◌, drop, map, ap, sym, ◌∙◌, arith}
use Rattle.std.proofs.lemmas.Grind.{common_steps}
use Rattle.cw_tree.specs.declared.resolved.Cut.{Cut}
use Rattle.cw_tree.specs.declared.resolved.Line.{the_lemmas}
use Rattle.cw_tree.specs.declared.resolved.Stmt.{the_lemmas as stmt_lemmas}
use Rattle.cw_tree.specs.Resolved.{Then, reads, reads_in, reads_in_block, first_uses}
use Rattle.cw_tree.specs.ResolvedView.{use_of, expr_of, stmt_of, block_of}
use Rattle.cw_tree.specs.lemmas.NamedSlots.{uses_append}
use Rattle.cw_types.proofs.captured.+reading.Goals as goal

pub block-loop-line-preserved : goal.block-loop-line-preserved
block-loop-line-preserved t c =
    let n = c.args.count in
    let found = map use_of c.loop-line.found.items in
    let s = stmt_of c.line-item.result.stmt in
    let rest = block_of (drop (c.loop-line.line-index + 1) c.args.lines.now) in
    let split : block_of (drop c.loop-line.line-index c.args.lines.now) ≡ Then c.line-item.result.line s rest = grind (arith, common_steps, the_lemmas) in
    ap (λ us. first_uses n us (reads_in_block rest)) c.in_ok-statement.ensures
    ∙ sym (uses_append n found (reads_in s) (reads_in_block rest))
    ∙ ap (λ b. first_uses n found (reads_in_block b)) (sym split)
    ∙ c.loop-line.invariant

pub statement-returns-in_ok-expression-in-AssignElement-2 :
    goal.statement-returns-in_ok-expression-in-AssignElement-2
statement-returns-in_ok-expression-in-AssignElement-2 t c =
    let n = c.args.count in
    let found = map use_of c.args.found.now.items in
    let i = reads (expr_of c.in-AssignElement.i.value) in
    let e = reads (expr_of c.in-AssignElement.e) in
    let seen : reads_in (stmt_of c.args.stmt.now) ≡ i ++ e = grind (arith, common_steps, stmt_lemmas) in
    c.in_ok-expression-in-AssignElement-2.ensures
    ∙ ap (λ us. first_uses n us e)
    (c.in_ok-expression-in-AssignElement.ensures ∙ ap (λ x. first_uses n found (reads (expr_of x))) c.deref.ensures)
    ∙ sym (uses_append n found i e)
    ∙ ap (first_uses n found) (sym seen)

pub statement-returns-in_ok-block-in-IfElse-2 : goal.statement-returns-in_ok-block-in-IfElse-2
statement-returns-in_ok-block-in-IfElse-2 t c =
    let n = c.args.count in
    let found = map use_of c.args.found.now.items in
    let e = reads (expr_of c.in-IfElse.e) in
    let b = reads_in_block (block_of c.in-IfElse.b.items) in
    let d = reads_in_block (block_of c.in-IfElse.c.value.items) in
    let seen : reads_in (stmt_of c.args.stmt.now) ≡ e ++ (b ++ d) = grind (arith, common_steps, stmt_lemmas) in
    c.in_ok-block-in-IfElse-2.ensures
    ∙ ap (λ ls. first_uses n (map use_of c.block.new.found.items) (reads_in_block (block_of ls)))
    (c.deref-in-IfElse-3.ensures.value ∙ ap (λ v. v.items) c.deref-in-IfElse-2.ensures)
    ∙ ap (λ us. first_uses n us d)
    (c.in_ok-block-in-IfElse.ensures
    ∙ ap (λ ls. first_uses n (map use_of c.expression-in-IfElse.new.found.items) (reads_in_block (block_of ls))) c.deref-in-IfElse.ensures.value
    ∙ ap (λ us. first_uses n us b) c.in_ok-expression-in-IfElse.ensures)
    ∙ sym (uses_append n (first_uses n found e) b d)
    ∙ sym (uses_append n found e (b ++ d))
    ∙ ap (first_uses n found) (sym seen)

pub statement-returns-in_ok-block-in-Cut : goal.statement-returns-in_ok-block-in-Cut
statement-returns-in_ok-block-in-Cut t c =
    let n = c.args.count in
    let found = map use_of c.args.found.now.items in
    let e = reads (expr_of c.in-Cut.cut.value.at) in
    let b = reads_in_block (block_of c.in-Cut.b.items) in
    let seen : reads_in (stmt_of c.args.stmt.now) ≡ e ++ b = grind (arith, common_steps, stmt_lemmas) in
    c.in_ok-block-in-Cut.ensures
    ∙ ap (λ ls. first_uses n (map use_of c.expression-in-Cut.new.found.items) (reads_in_block (block_of ls))) c.deref-in-Cut-2.ensures.value
    ∙ ap (λ us. first_uses n us b) c.in_ok-expression-in-Cut.ensures
    ∙ ap (λ (k : Cut). first_uses n (first_uses n found (reads (expr_of k.at))) b) c.deref-in-Cut.ensures
    ∙ sym (uses_append n found e b)
    ∙ ap (first_uses n found) (sym seen)

pub statement-returns-in_ok-block-in-If : goal.statement-returns-in_ok-block-in-If
statement-returns-in_ok-block-in-If t c =
    let n = c.args.count in
    let found = map use_of c.args.found.now.items in
    let e = reads (expr_of c.in-If.e) in
    let b = reads_in_block (block_of c.in-If.b.items) in
    let seen : reads_in (stmt_of c.args.stmt.now) ≡ e ++ b = grind (arith, common_steps, stmt_lemmas) in
    c.in_ok-block-in-If.ensures
    ∙ ap (λ ls. first_uses n (map use_of c.expression-in-If.new.found.items) (reads_in_block (block_of ls))) c.deref-in-If.ensures.value
    ∙ ap (λ us. first_uses n us b) c.in_ok-expression-in-If.ensures
    ∙ sym (uses_append n found e b)
    ∙ ap (first_uses n found) (sym seen)
