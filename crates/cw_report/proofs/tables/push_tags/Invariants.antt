-- The lines so far, and the lines of the remaining tags.
use Rattle.cw_report.specs.Texts.{tag_lines}
use Rattle.cw_report.proofs.Lines.{Towards}
use Rattle.cw_report.proofs.tables.push_tags.Given as goal

abbrev pub invariant-loop-tag : goal.invariant-loop-tag
invariant-loop-tag l = Towards l.fn.table l.table (tag_lines l.tag-iterator) (tag_lines l.regions.entries)
