use Rattle.std.proofs.Common.{◌∙◌, ◌++◌, ap, sym}
use Rattle.std.proofs.lemmas.List.{append-nil, drop_all}
use Rattle.cw_report.specs.Sized.{sized_rows}
use Rattle.cw_report.proofs.Tabled.{table_is}
use Rattle.cw_report.proofs.aligned.table.Goals as goal

pub returns : goal.returns
returns c =
    let first = c.first_of-first.result.now in
    let columns = c.as_slice-columns.result.now in
    let text = c.loop-row.text.items in
    let none = drop_all c.loop-row.row-index c.args.rows.now c.loop-row-test.false in
    table_is c.args.names.now first c.args.rows.now c.args.columns.now columns c.in_ok-wide.wide.items text
    c.first_of-first.ensures c.as_slice-columns.ensures.value c.in_ok-wide.ensures
    (sym (append-nil text) ∙ sym (ap (λ left. text ++ sized_rows first columns left) none) ∙ c.loop-row.invariant)
