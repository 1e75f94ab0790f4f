use Rattle.cw_tree.specs.lemmas.Slotted as lemma
use Rattle.cw_tree.proofs.laws.few_slots.Goals as goal

pub returns-clause-ints : goal.returns-clause-ints
returns-clause-ints c = lemma.few_ints_in

pub returns-clause-arrays : goal.returns-clause-arrays
returns-clause-arrays c = lemma.few_arrays_in
