use Rattle.cw_lex.proofs.OneReason as one
use Rattle.cw_lex.proofs.laws.one_reason.Goals as goal

pub returns : goal.returns
returns c = one.one_reason
