use Rattle.cw_lex.proofs.Spans.{cut_rises, cut_within}
use Rattle.cw_lex.proofs.laws.rising_spans.Goals as goal

pub returns-clause-rise : goal.returns-clause-rise
returns-clause-rise c = cut_rises

pub returns-clause-within : goal.returns-clause-within
returns-clause-within c = cut_within
