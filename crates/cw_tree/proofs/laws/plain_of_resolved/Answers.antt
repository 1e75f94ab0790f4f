use Rattle.cw_tree.proofs.Plain as lemma
use Rattle.cw_tree.proofs.laws.plain_of_resolved.Goals as goal

pub returns : goal.returns
returns c = lemma.plain_of_resolved
