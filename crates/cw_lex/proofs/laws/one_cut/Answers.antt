use Rattle.cw_lex.proofs.OneAnswer as one
use Rattle.cw_lex.proofs.laws.one_cut.Goals as goal

pub returns : goal.returns
returns c = one.one_cut
