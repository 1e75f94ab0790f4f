use Rattle.cw_tree.proofs.Fitting as lemma
use Rattle.cw_tree.proofs.laws.resolved_is_fitting.Goals as goal

pub returns : goal.returns
returns c = lemma.resolved_fits
