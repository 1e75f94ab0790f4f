use Rattle.cw_tree.specs.lemmas.Looked as lemma
use Rattle.cw_tree.proofs.laws.slots_are_right.Goals as goal

pub returns : goal.returns
returns c = lemma.slots_are_right
