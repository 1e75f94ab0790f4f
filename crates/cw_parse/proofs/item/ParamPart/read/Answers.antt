use Rattle.std.proofs.Common.{sym}
use Rattle.cw_parse.proofs.Turns.{param_const}
use Rattle.cw_parse.proofs.item.ParamPart.read.Goals as goal

pub returns-in_ok-param-in-Some : goal.returns-in_ok-param-in-Some
returns-in_ok-param-in-Some c =
    rw (param_const _ c.args.tokens.now _ _ _ _ (sym c.in-Some.ensures) c.in_ok-param-in-Some.ensures) c.single.ensures
