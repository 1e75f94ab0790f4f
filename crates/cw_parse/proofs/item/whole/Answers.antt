use Rattle.std.proofs.Common.{sym, ◌∙◌, arith}
use Rattle.std.proofs.lemmas.Result.{err_from_is_err_and}
use Rattle.cw_parse.specs.Seen.{item_of}
use Rattle.cw_parse.proofs.Wholes.{first_turn, whole_none, all_done, too_long, item_on, item_fails, empty_is, some_is}
use Rattle.cw_parse.proofs.Rooms.{item_room}
use Rattle.cw_parse.proofs.item.whole.Goals as goal

pub returns-then-is_empty : goal.returns-then-is_empty
returns-then-is_empty c = whole_none _ _ _ (empty_is c.args.tokens.now (sym c.if-is_empty.true ∙ c.is_empty.ensures))

pub loop-init : goal.loop-init
loop-init c = (
  rw (c.new.ensures.items, c.new-2.ensures.items) (first_turn c.args.reading.text.now c.args.reading.limit c.args.tokens.now (some_is c.args.tokens.now (sym c.if-is_empty.false ∙ c.is_empty.ensures))),
  c.requires,
)

pub returns-then-is_empty-2 : goal.returns-then-is_empty-2
returns-then-is_empty-2 c = all_done _ _ _ _ _ _ _ c.loop.invariant.0 (empty_is c.loop.rest.now (sym c.if-is_empty-2.true ∙ c.is_empty-in-loop.ensures))

pub returns-in_err-found : goal.returns-in_err-found
returns-in_err-found c =
    let p = err_from_is_err_and c.from_residual.result c.from_residual.ensures.1 in
    rw (p.1, p.2) (item_fails _ _ _ _ _ _ _ c.loop.invariant.0 c.in_err-found.field-0.0 c.loop-test.true (some_is c.loop.rest.now (sym c.if-is_empty-2.false ∙ c.is_empty-in-loop.ensures)) c.in_err-found.ensures)

pub loop-preserved : goal.loop-preserved
loop-preserved c =
    let some = some_is c.loop.rest.now (sym c.if-is_empty-2.false ∙ c.is_empty-in-loop.ensures) in
    let same = item_on _ _ _ _ _ _ _ c.loop.invariant.0 (item_of c.in_ok-found.found) c.in_ok-found.next c.in_ok-found.after.now _ c.loop-test.true some c.in_ok-found.ensures c.in_ok-ast.ensures in
    let room = item_room c.args.reading.text.now c.args.reading.limit c.loop.site c.loop.rest.now (item_of c.in_ok-found.found) c.in_ok-found.next c.in_ok-found.after.now c.in_ok-found.ensures in
    let before = c.loop.invariant.1 in
    (same, omega arith)

pub returns-then-is_empty-3 : goal.returns-then-is_empty-3
returns-then-is_empty-3 c = all_done _ _ _ _ _ _ _ c.loop.invariant.0 (empty_is c.loop.rest.now (sym c.if-is_empty-3.true ∙ c.is_empty-2.ensures))

pub returns : goal.returns
returns c = too_long _ _ _ _ _ _ _ c.loop.invariant.0 c.loop-test.false (some_is c.loop.rest.now (sym c.if-is_empty-3.false ∙ c.is_empty-2.ensures))
