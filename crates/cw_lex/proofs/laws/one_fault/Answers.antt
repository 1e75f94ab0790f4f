use Rattle.cw_lex.proofs.OneAnswer as one
use Rattle.cw_lex.proofs.laws.one_fault.Goals as goal

pub returns-clause-kind : goal.returns-clause-kind
returns-clause-kind c = one.one_kind

pub returns-clause-lexical_line : goal.returns-clause-lexical_line
returns-clause-lexical_line c = one.lexical_line

pub returns-clause-name_line : goal.returns-clause-name_line
returns-clause-name_line c = one.name_line
