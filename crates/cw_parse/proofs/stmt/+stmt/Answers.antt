use Rattle.std.proofs.Common.{◌≡◌, ap, ◌∙◌, sym, map, [], ◌∷◌, ◌++◌, Ok, arith}
use Rattle.std.proofs.lemmas.Result.{err_from_is_err_and}
use Rattle.std.proofs.lemmas.List.{map_push}
use Rattle.cw_parse.specs.declared.marks.Mark.TheVariants as mark
use Rattle.cw_model.specs.Syntax.{End}
use Rattle.cw_parse.specs.Parts.{put_before, line}
use Rattle.cw_tree.specs.SyntaxView.{line_of}
use Rattle.cw_parse.proofs.Turns.{closes, goes_on, fails, runs_out, block_all}
use Rattle.cw_parse.proofs.Steps.{line_none, line_step}
use Rattle.cw_parse.proofs.Rooms.{line_room, lines_room, opening_less}
use Rattle.cw_parse.proofs.stmt.+stmt.Goals as goal

pub line-returns-then-depth-eq0 : goal.line-returns-then-depth-eq0
line-returns-then-depth-eq0 t c = line_none _ _ _ _ c.if-depth-eq0.true

pub line-returns : goal.line-returns
line-returns t c = rw (line_step c.args.reading.text.now c.args.depth c.args.site c.args.tokens.now c.if-depth-eq0.false) c.line_by.ensures

pub lines-returns-in-Some : goal.lines-returns-in-Some
lines-returns-in-Some t c =
    closes mark.RightBrace (λ m. (End, m)) put_before (line c.args.reading.text.now c.args.depth) _ _ _ _ _ _ c.loop.invariant.0 _ _ c.loop-test.true (sym c.in-Some.ensures) ∙ ap (λ b. Ok (b, c.in-Some.after.now)) (block_all (map line_of c.loop.done.items) c.loop.site)

pub lines-returns-in_err-line : goal.lines-returns-in_err-line
lines-returns-in_err-line t c =
    let p = err_from_is_err_and c.from_residual.result c.from_residual.ensures.1 in
    rw (p.1, p.2) (fails mark.RightBrace (λ m. (End, m)) put_before (line c.args.reading.text.now c.args.depth) _ _ _ _ _ _ c.loop.invariant.0 c.in_err-line.field-0.0 c.loop-test.true (sym c.in_default.ensures) c.in_err-line.ensures)

pub lines-loop-preserved : goal.lines-loop-preserved
lines-loop-preserved t c =
    let one = line_of c.in_ok-line.line in
    let items : map line_of c.push.new.self.items ≡ map line_of c.loop.done.items ++ one ∷ [] = rw c.in_ok-push.ensures.items (map_push _ c.loop.done.items c.in_ok-line.line) in
    let same = goes_on mark.RightBrace (λ m. (End, m)) put_before (line c.args.reading.text.now c.args.depth) _ _ _ _ _ _ c.loop.invariant.0 one c.in_ok-line.next c.in_ok-line.after.now c.loop-test.true (sym c.in_default.ensures) c.in_ok-line.ensures in
    let room = line_room c.args.reading.text.now c.args.depth c.loop.site c.loop.rest.now one c.in_ok-line.next c.in_ok-line.after.now c.in_ok-line.ensures in
    let before = c.loop.invariant.1 in
    (rw items same, omega arith)

pub lines-returns : goal.lines-returns
lines-returns t c = runs_out mark.RightBrace (λ m. (End, m)) put_before (line c.args.reading.text.now c.args.depth) _ _ _ _ _ _ c.loop.invariant.0 c.loop-test.false

pub framed-lines-requires : goal.framed-lines-requires
framed-lines-requires t c =
    let less = opening_less c.args.reading.text.now c.args.depth c.args.first c.args.first.kind c.args.tokens.now _ c.in_ok-opening.rest.now c.in_ok-opening.ensures in
    let before = c.requires in
    omega arith

pub framed-framed_by-requires : goal.framed-framed_by-requires
framed-framed_by-requires t c =
    let less = opening_less c.args.reading.text.now c.args.depth c.args.first c.args.first.kind c.args.tokens.now _ c.in_ok-opening.rest.now c.in_ok-opening.ensures in
    let room = lines_room c.args.reading.text.now c.args.depth c.args.site c.in_ok-opening.rest.now _ c.in_ok-block.site c.in_ok-block.rest.now c.in_ok-block.ensures in
    let before = c.requires in
    omega arith
