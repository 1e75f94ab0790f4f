use Rattle.cw_tree.proofs.Right as lemma
use Rattle.cw_tree.proofs.laws.resolved_is_right.Goals as goal

pub returns : goal.returns
returns c = lemma.resolved_is_right
