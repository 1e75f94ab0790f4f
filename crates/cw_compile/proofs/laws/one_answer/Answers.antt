use Rattle.cw_compile.proofs.Stages.{compiled_apart, one_refusal}
use Rattle.cw_compile.proofs.laws.one_answer.Goals as goal

pub returns-clause-compiled : goal.returns-clause-compiled
returns-clause-compiled c = λ bytes p f h k.
    compiled_apart c.one_cut.ensures c.no_cut_with_a_fault.ensures c.one_fault.ensures.kind c.one_fault.ensures.lexical_line c.one_fault.ensures.name_line c.one_tree.ensures c.no_tree_with_a_fault.ensures bytes p f h k

pub returns-clause-refused : goal.returns-clause-refused
returns-clause-refused c = λ bytes f g h k.
    one_refusal c.one_cut.ensures c.no_cut_with_a_fault.ensures c.one_fault.ensures.kind c.one_fault.ensures.lexical_line c.one_fault.ensures.name_line c.one_tree.ensures c.no_tree_with_a_fault.ensures bytes f g h k
