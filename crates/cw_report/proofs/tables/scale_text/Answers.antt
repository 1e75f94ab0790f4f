use Rattle.std.proofs.Common.{[], ◌∙◌, append_assoc}
use Rattle.cw_model.specs.Report.{scale_header, scale_line}
use Rattle.cw_report.specs.Texts.{tag_lines}
use Rattle.cw_report.proofs.tables.scale_text.Goals as goal

pub returns-clause-ok : goal.returns-clause-ok
returns-clause-ok c =
    let whole = c.args.ended.now.measure in
    let first = c.in_ok-push_scale.ensures scale_header c.in_ok-table.ensures in
    let tags = c.in_ok-push_tags.ensures _ first in
    c.in_ok-text.ensures _ tags
    ∙ append_assoc scale_header (scale_line [] whole.work whole.span whole.burdened) (tag_lines c.args.ended.now.regions.entries)
