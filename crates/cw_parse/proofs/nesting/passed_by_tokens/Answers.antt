use Rattle.cw_parse.proofs.TokenLimits.{is_first}
use Rattle.cw_parse.proofs.nesting.passed_by_tokens.Goals as goal

pub returns : goal.returns
returns c = is_first c.args.tokens.now c.first_passed.result.first c.first_passed.ensures
