use Rattle.std.proofs.Common.{◌≡◌, ◌-◌}
use Rattle.cw_explain.specs.Lines.{behind_lines}
use Rattle.cw_explain.proofs.excerpt.line_of.Given as goal

abbrev pub invariant-loop-passed : goal.invariant-loop-passed
invariant-loop-passed l = behind_lines (l.line - l.passed) l.rest ≡ behind_lines (l.line - 1) l.source
