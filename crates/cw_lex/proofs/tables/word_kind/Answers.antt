use Rattle.std.proofs.Common.{rules, arith}
use Rattle.std.proofs.lemmas.Grind.{common_steps}
use Rattle.cw_model.specs.Tokens.{word_kind}
use Rattle.cw_lex.proofs.tables.word_kind.Goals as goal

pub returns : goal.returns
unfolding word_kind
returns c = first_of (search rules, grind (arith, common_steps))
