-- The lines so far, and the lines of the remaining values.
use Rattle.std.proofs.Common.{◌≡◌, ◌++◌, drop, flat_map}
use Rattle.cw_model.specs.Report.{value_line}
use Rattle.cw_report.proofs.text.printed_text.Given as goal

abbrev pub invariant-loop-value : goal.invariant-loop-value
invariant-loop-value l = l.text.items ++ flat_map value_line (drop l.value-index l.values) ≡ flat_map value_line l.values
