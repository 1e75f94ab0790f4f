-- The lines so far, and the lines of the remaining reducers.
use Rattle.std.proofs.Common.{◌≡◌, ◌++◌}
use Rattle.cw_report.specs.Texts.{totals_text}
use Rattle.cw_report.proofs.text.push_totals.Given as goal

abbrev pub invariant-loop-reducer : goal.invariant-loop-reducer
invariant-loop-reducer l = l.text.items ++ totals_text l.reducer-iterator.a.rest.now l.reducer-iterator.b.rest.now ≡ l.fn.text.items ++ totals_text l.reducers l.totals
