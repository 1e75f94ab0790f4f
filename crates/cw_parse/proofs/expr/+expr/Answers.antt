use Rattle.std.proofs.Common.{sym}
use Rattle.std.proofs.lemmas.Result.{err_from_is_err_and}
use Rattle.cw_parse.proofs.Steps.{chain_end, chain_stop, chain_on_turn, chain_fails, level_start, level_stops, level_turn, level_turn_fails, operand_step, operand_none, named_element}
use Rattle.cw_parse.proofs.expr.+expr.Goals as goal

pub chain-returns-in_default : goal.chain-returns-in_default
chain-returns-in_default t c = chain_stop _ _ _ _ _ _ _ c.loop.invariant c.loop-test.true (sym c.in_default.ensures)

pub chain-returns-in_err-right : goal.chain-returns-in_err-right
chain-returns-in_err-right t c =
    let p = err_from_is_err_and c.from_residual.result c.from_residual.ensures.1 in
    rw (p.1, p.2) (chain_fails _ _ _ _ _ _ _ c.loop.invariant c.in_err-right.field-0.0 _ _ c.loop-test.true (sym c.in-Some.ensures) c.in_err-right.ensures)

pub chain-loop-preserved : goal.chain-loop-preserved
chain-loop-preserved t c =
    rw (c.in_ok-new.ensures.ok, c.in_ok-new-2.ensures.ok) (chain_on_turn _ _ _ _ _ _ _ c.loop.invariant _ _ _ _ c.loop-test.true (sym c.in-Some.ensures) c.in_ok-right.ensures)

pub chain-returns : goal.chain-returns
chain-returns t c = chain_end _ _ _ _ _ _ _ c.loop.invariant c.loop-test.false

pub level-returns-in_err-value : goal.level-returns-in_err-value
level-returns-in_err-value t c =
    let p = err_from_is_err_and c.from_residual.result c.from_residual.ensures.1 in
    rw (p.1, p.2) (level_stops _ _ _ _ _ c.in_err-value.ensures)

pub level-loop-below-init : goal.level-loop-below-init
level-loop-below-init t c = level_start _ _ _ _ c.in_ok-value.ensures

pub level-returns-in_err-value-2 : goal.level-returns-in_err-value-2
level-returns-in_err-value-2 t c =
    let p = err_from_is_err_and c.from_residual-in_err-value-2.result c.from_residual-in_err-value-2.ensures.1 in
    rw (p.1, p.2) (level_turn_fails _ _ _ _ _ _ _ _ c.loop-below.invariant c.in_err-value-2.ensures c.loop-below-test.true)

pub level-loop-below-preserved : goal.level-loop-below-preserved
level-loop-below-preserved t c = level_turn _ _ _ _ _ _ _ c.loop-below.invariant c.in_ok-value-2.ensures

pub operand-returns-then-depth-eq0 : goal.operand-returns-then-depth-eq0
operand-returns-then-depth-eq0 t c = operand_none _ _ _ c.if-depth-eq0.true

pub operand-returns : goal.operand-returns
operand-returns t c = rw (operand_step c.args.reading.text.now c.args.depth c.args.tokens.now c.if-depth-eq0.false) c.operand_by.ensures

pub named-returns-in_ok-element-in-Some : goal.named-returns-in_ok-element-in-Some
named-returns-in_ok-element-in-Some t c =
    rw (named_element c.args.reading.text.now _ c.args.first c.args.tokens.now _ _ _ _ _ c.in_ok-name.ensures (sym c.in-Some.ensures) c.in_ok-element-in-Some.ensures) c.unindexed.ensures
