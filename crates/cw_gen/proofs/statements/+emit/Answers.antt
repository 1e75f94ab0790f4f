use Rattle.std.proofs.Common.{◌≡◌, [], ◌++◌, ◌-◌, length, drop, refl, sym, ap, ◌∙◌, append_assoc, arith, rules}
use Rattle.std.specs.Prelude.{slice_set}
use Rattle.std.proofs.Math.ListN.{drop_of_length-le}
use Rattle.cw_loops.specs.View as view
use Rattle.cw_loops.specs.declared.tree.Cut.{Cut}
use Rattle.cw_code.specs.declared.code.Instr.TheVariants as instr
use Rattle.cw_gen.specs.Emit as spec
use Rattle.cw_gen.specs.Emit.{distance}
use Rattle.cw_gen.proofs.Emitting.{returns_after, block_returns_after, over_filled, turn_filled, if_else_emitted, while_emitted}
use Rattle.cw_gen.proofs.Views.{if_else_is, while_is, cut_is}
use Rattle.cw_gen.proofs.statements.+emit.Goals as goal

pub block-returns-clause-returns : goal.block-returns-clause-returns
block-returns-clause-returns t c =
    let none : drop c.loop-line.line-index c.args.lines.now ≡ [] = drop_of_length-le c.args.lines.now (omega (arith, c.loop-line-test.false)) in
    sym (ap (λ l. returns_after c.loop-line.returns (view.block_of l)) none)
    ∙ c.loop-line.invariant.returns
    ∙ block_returns_after (view.block_of c.args.lines.now)

pub passed_over-returns : goal.passed_over-returns
passed_over-returns t c =
    let old = c.args.instrs.now.items in
    let all = c.block.new.instrs.items in
    let body = spec.emitted_block c.args.first c.args.places.now (view.block_of c.args.lines.now) in
    c.land.ensures
    ∙ ap (λ p. slice_set all p (instr.SkipIfZero (distance (length all - p - 1)))) c.in_ok-test.ensures.place
    ∙ over_filled old body all (instr.Skip 0) (distance (length all - length old - 1)) (c.in_ok-block.ensures.instrs ∙ ap (λ l. l ++ body) c.in_ok-test.ensures.instrs) refl

pub turn-returns : goal.turn-returns
turn-returns t c =
    let old = c.args.instrs.now.items in
    let mid = c.block.new.instrs.items in
    let all = c.put.new.instrs.items in
    let body = spec.emitted_block c.args.first c.args.places.now (view.block_of c.args.lines.now) in
    c.land.ensures
    ∙ ap (λ p. slice_set all p (instr.SkipIfZero (distance (length all - p - 1)))) c.in_ok-test.ensures.place
    ∙ turn_filled old body mid all c.args.start (instr.Skip 0) c.distance-n.result (distance (length all - length old - 1)) c.requires (c.in_ok-block.ensures.instrs ∙ ap (λ l. l ++ body) c.in_ok-test.ensures.instrs) (search (rules, c.distance-n.ensures, c.len.ensures)) c.in_ok-put.ensures refl

pub statement-returns-then-one-clause-instrs : goal.statement-returns-then-one-clause-instrs
statement-returns-then-one-clause-instrs t c =
    let start = c.args.instrs.now.items in
    let first = c.args.first in
    let test_code = spec.emitted_expr c.args.places.now c.args.line (view.expr_of c.in-IfElse.e) in
    let one = spec.emitted_block first c.args.places.now (view.block_of c.in-IfElse.b.items) in
    let other = spec.emitted_block first c.args.places.now (view.block_of c.in-IfElse.c.value.items) in
    if_else_emitted start test_code c.expression-in-IfElse.new.instrs.items c.hole.new.instrs.items c.block.new.instrs.items c.hole-in-IfElse.new.instrs.items c.land.new.instrs.items c.block-in-IfElse.new.instrs.items c.land_past.new.instrs.items
    one other c.in_ok-test-in-IfElse.test c.in_ok-end-in-IfElse.end (spec.returns (view.block_of c.in-IfElse.b.items)) c.in_ok-one-in-IfElse.one
    c.in_ok-expression-in-IfElse.ensures c.in_ok-test-in-IfElse.ensures.instrs c.in_ok-test-in-IfElse.ensures.place
    (c.in_ok-one-in-IfElse.ensures.instrs ∙ ap (λ l. c.hole.new.instrs.items ++ spec.emitted_block first c.args.places.now (view.block_of l)) c.deref-in-IfElse.ensures.value)
    (c.in_ok-one-in-IfElse.ensures.returns ∙ ap (λ l. spec.returns (view.block_of l)) c.deref-in-IfElse.ensures.value)
    c.in_ok-end-in-IfElse.ensures.instrs c.in_ok-end-in-IfElse.ensures.place c.land.ensures
    (c.in_ok-other-in-IfElse.ensures.instrs ∙ ap (λ l. c.land.new.instrs.items ++ spec.emitted_block first c.args.places.now (view.block_of l)) (c.deref-in-IfElse-3.ensures.value ∙ ap (λ v. v.items) c.deref-in-IfElse-2.ensures))
    c.land_past.ensures
    ∙ sym (ap (λ s. start ++ spec.emitted_stmt first c.args.places.now c.args.line s) (ap view.stmt_of c.in-IfElse.is ∙ if_else_is c.in-IfElse.e c.in-IfElse.b c.in-IfElse.c))

pub statement-returns-else-one-clause-instrs : goal.statement-returns-else-one-clause-instrs
statement-returns-else-one-clause-instrs t c =
    let start = c.args.instrs.now.items in
    let first = c.args.first in
    let test_code = spec.emitted_expr c.args.places.now c.args.line (view.expr_of c.in-IfElse.e) in
    let one = spec.emitted_block first c.args.places.now (view.block_of c.in-IfElse.b.items) in
    let other = spec.emitted_block first c.args.places.now (view.block_of c.in-IfElse.c.value.items) in
    if_else_emitted start test_code c.expression-in-IfElse.new.instrs.items c.hole.new.instrs.items c.block.new.instrs.items c.hole-in-IfElse.new.instrs.items c.land.new.instrs.items c.block-in-IfElse.new.instrs.items c.land_past.new.instrs.items
    one other c.in_ok-test-in-IfElse.test c.in_ok-end-in-IfElse.end (spec.returns (view.block_of c.in-IfElse.b.items)) c.in_ok-one-in-IfElse.one
    c.in_ok-expression-in-IfElse.ensures c.in_ok-test-in-IfElse.ensures.instrs c.in_ok-test-in-IfElse.ensures.place
    (c.in_ok-one-in-IfElse.ensures.instrs ∙ ap (λ l. c.hole.new.instrs.items ++ spec.emitted_block first c.args.places.now (view.block_of l)) c.deref-in-IfElse.ensures.value)
    (c.in_ok-one-in-IfElse.ensures.returns ∙ ap (λ l. spec.returns (view.block_of l)) c.deref-in-IfElse.ensures.value)
    c.in_ok-end-in-IfElse.ensures.instrs c.in_ok-end-in-IfElse.ensures.place c.land.ensures
    (c.in_ok-other-in-IfElse.ensures.instrs ∙ ap (λ l. c.land.new.instrs.items ++ spec.emitted_block first c.args.places.now (view.block_of l)) (c.deref-in-IfElse-3.ensures.value ∙ ap (λ v. v.items) c.deref-in-IfElse-2.ensures))
    c.land_past.ensures
    ∙ sym (ap (λ s. start ++ spec.emitted_stmt first c.args.places.now c.args.line s) (ap view.stmt_of c.in-IfElse.is ∙ if_else_is c.in-IfElse.e c.in-IfElse.b c.in-IfElse.c))

pub statement-returns-in_ok-turn-in-While-clause-instrs : goal.statement-returns-in_ok-turn-in-While-clause-instrs
statement-returns-in_ok-turn-in-While-clause-instrs t c =
    let start = c.args.instrs.now.items in
    let first = c.args.first in
    let test_code = spec.emitted_expr c.args.places.now c.args.line (view.expr_of c.in-While.e) in
    let h0 = c.expression-in-While.new.instrs.items in
    let from : c.len-start.result ≡ length start = search (rules, c.len-start.ensures) in
    while_emitted start test_code h0 c.turn.new.instrs.items (spec.emitted_block first c.args.places.now (view.block_of c.in-While.b.items)) c.len-start.result from c.in_ok-expression-in-While.ensures
    (c.in_ok-turn-in-While.ensures ∙ ap (λ l. h0 ++ spec.emitted_turn (length h0 - c.len-start.result) (spec.emitted_block first c.args.places.now (view.block_of l))) c.deref-in-While.ensures.value)
    ∙ sym (ap (λ s. start ++ spec.emitted_stmt first c.args.places.now c.args.line s) (ap view.stmt_of c.in-While.is ∙ while_is c.in-While.e c.in-While.b))

pub statement-returns-in_ok-cut-in-Cut-clause-instrs : goal.statement-returns-in_ok-cut-in-Cut-clause-instrs
statement-returns-in_ok-cut-in-Cut-clause-instrs t c =
    let start = c.args.instrs.now.items in
    let first = c.args.first in
    let parts = c.in-Cut.parts.value in
    let at_code = spec.emitted_expr c.args.places.now c.args.line (view.expr_of parts.at) in
    let h0 = c.expression-in-Cut.new.instrs.items in
    let code = spec.emitted_cut c.args.line (spec.halves_at c.args.places.now parts.array parts.left parts.right) (spec.emitted_block first c.args.places.now (view.block_of c.in-Cut.b.items)) in
    c.in_ok-cut-in-Cut.ensures
    ∙ ap (λ (k : Cut). h0 ++ spec.emitted_cut c.args.line (spec.halves_at c.args.places.now k.array k.left k.right) (spec.emitted_block first c.args.places.now (view.block_of c.deref-in-Cut-3.result.now))) c.deref-in-Cut-2.ensures
    ∙ ap (λ l. h0 ++ spec.emitted_cut c.args.line (spec.halves_at c.args.places.now parts.array parts.left parts.right) (spec.emitted_block first c.args.places.now (view.block_of l))) c.deref-in-Cut-3.ensures.value
    ∙ ap (λ l. l ++ code) c.in_ok-expression-in-Cut.ensures
    ∙ ap (λ (k : Cut). (start ++ spec.emitted_expr c.args.places.now c.args.line (view.expr_of k.at)) ++ code) c.deref-in-Cut.ensures
    ∙ append_assoc start at_code code
    ∙ sym (ap (λ s. start ++ spec.emitted_stmt first c.args.places.now c.args.line s) (ap view.stmt_of c.in-Cut.is ∙ cut_is c.in-Cut.parts c.in-Cut.b))
