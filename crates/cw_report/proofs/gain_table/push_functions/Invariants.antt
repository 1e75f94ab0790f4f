-- The lines so far, and the lines of the remaining functions.
use Rattle.std.proofs.Common.{drop}
use Rattle.cw_report.specs.Texts.{function_lines}
use Rattle.cw_report.proofs.Lines.{Towards}
use Rattle.cw_report.proofs.gain_table.push_functions.Given as goal

abbrev pub invariant-loop-function : goal.invariant-loop-function
invariant-loop-function l =
    Towards l.fn.table l.table (function_lines l.work (drop l.function-index l.functions)) (function_lines l.work l.functions)
