use Rattle.cw_lex.proofs.Reasons.{are_faults}
use Rattle.cw_lex.proofs.laws.reasons_are_faults.Goals as goal

pub returns : goal.returns
returns c = are_faults
