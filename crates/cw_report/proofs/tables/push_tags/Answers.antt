use Rattle.std.proofs.Common.{subst}
use Rattle.cw_model.specs.Report.{scale_line}
use Rattle.cw_report.specs.Texts.{tag_lines}
use Rattle.cw_report.proofs.Lines.{Towards, arrived, onward}
use Rattle.cw_report.proofs.tables.push_tags.Goals as goal

pub loop-tag-preserved : goal.loop-tag-preserved
loop-tag-preserved c =
    let row = c.in-Some.row.now in
    let whole = tag_lines c.args.regions.now.entries in
    let before = subst (λ left. Towards c.args.table.now c.loop-tag.table (tag_lines left) whole) c.in-Some.ensures.steps c.loop-tag.invariant in
    onward c.args.table.now c.loop-tag.table c.push_scale.new.table (scale_line c.in-Some.tag.now.items row.work row.span row.burdened)
    (tag_lines c.next.new.self) whole before (rw (c.as_slice.ensures.value) at c.in_ok-push_scale.ensures)

pub returns : goal.returns
returns c =
    let whole = tag_lines c.args.regions.now.entries in
    arrived c.args.table.now c.loop-tag.table whole
    (subst (λ left. Towards c.args.table.now c.loop-tag.table (tag_lines left) whole) c.in-None.ensures.steps.0 c.loop-tag.invariant)
