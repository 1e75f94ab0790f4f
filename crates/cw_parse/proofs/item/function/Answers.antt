use Rattle.std.proofs.Common.{map, arith}
use Rattle.cw_parse.specs.declared.marks.Mark.TheVariants as mark
use Rattle.cw_tree.specs.SyntaxView.{param_of}
use Rattle.cw_parse.proofs.Rooms.{token_less, params_less}
use Rattle.cw_parse.proofs.item.function.Goals as goal

pub lines-requires : goal.lines-requires
lines-requires c =
    let name = token_less mark.Name c.args.tokens.now c.in_ok-found.found c.in_ok-found.rest.now c.in_ok-found.ensures in
    let left = token_less mark.LeftParen c.in_ok-found.rest.now c.in_ok-rest.field-0-0 c.in_ok-rest.rest.now c.in_ok-rest.ensures in
    let few = params_less c.args.reading.text.now c.args.reading.limit c.in_ok-rest.rest.now (map param_of c.in_ok-params.params.items) c.in_ok-params.rest.now c.in_ok-params.ensures in
    let brace = token_less mark.LeftBrace c.in_ok-params.rest.now c.in_ok-rest-2.field-0-0 c.in_ok-rest-2.rest.now c.in_ok-rest-2.ensures in
    let before = c.requires in
    omega arith
