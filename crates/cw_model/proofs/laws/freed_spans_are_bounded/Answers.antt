use Rattle.cw_model.proofs.FreedSpans.{never_above, falls_by_own_span}
use Rattle.cw_model.proofs.laws.freed_spans_are_bounded.Goals as goal

pub returns : goal.returns
returns c = record { above = never_above; below = falls_by_own_span }
