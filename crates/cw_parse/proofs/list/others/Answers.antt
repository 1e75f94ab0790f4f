use Rattle.std.proofs.Common.{◌≡◌, ap, ◌∙◌, sym, map, [], ◌∷◌, ◌++◌, Ok}
use Rattle.std.proofs.lemmas.Result.{err_from_is_err_and}
use Rattle.std.proofs.lemmas.List.{map_push}
use Rattle.cw_parse.specs.declared.marks.Mark.TheVariants as mark
use Rattle.cw_parse.specs.Parts.{add_front, further}
use Rattle.cw_parse.proofs.Turns.{closes, goes_on, fails, runs_out, pile_all}
use Rattle.cw_parse.proofs.list.others.Goals as goal

pub returns-in_err-next : goal.returns-in_err-next
returns-in_err-next g c =
    let p = err_from_is_err_and c.from_residual.result c.from_residual.ensures.1 in
    rw (p.1, p.2) (fails mark.RightParen (λ _. []) add_front (further (g.T.Part.part c.args.reading.text.now c.args.depth)) _ _ _ _ _ _ c.loop.invariant c.in_err-next.field-0.0 c.loop-test.true (sym c.in_default.ensures) c.in_err-next.ensures)

pub returns-in-Some : goal.returns-in-Some
returns-in-Some g c = closes mark.RightParen (λ _. []) add_front (further (g.T.Part.part c.args.reading.text.now c.args.depth)) _ _ _ _ _ _ c.loop.invariant _ _ c.loop-test.true (sym c.in-Some.ensures) ∙ ap (λ xs. Ok (xs, c.in-Some.after.now)) (pile_all (map g.T.Part.seen c.loop.done.items))

pub loop-preserved : goal.loop-preserved
loop-preserved g c =
    let items : map g.T.Part.seen c.push.new.self.items ≡ map g.T.Part.seen c.loop.done.items ++ g.T.Part.seen c.in_ok-next.next ∷ [] = rw c.in_ok-push.ensures.items (map_push g.T.Part.seen c.loop.done.items c.in_ok-next.next) in
    rw items (goes_on mark.RightParen (λ _. []) add_front (further (g.T.Part.part c.args.reading.text.now c.args.depth)) _ _ _ _ _ _ c.loop.invariant (g.T.Part.seen c.in_ok-next.next) tt c.in_ok-next.after.now c.loop-test.true (sym c.in_default.ensures) c.in_ok-next.ensures)

pub returns : goal.returns
returns g c = runs_out mark.RightParen (λ _. []) add_front (further (g.T.Part.part c.args.reading.text.now c.args.depth)) _ _ _ _ _ _ c.loop.invariant c.loop-test.false
