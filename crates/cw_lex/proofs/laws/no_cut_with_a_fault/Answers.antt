use Rattle.cw_lex.proofs.OneAnswer as one
use Rattle.cw_lex.proofs.laws.no_cut_with_a_fault.Goals as goal

pub returns : goal.returns
returns c = one.no_cut
