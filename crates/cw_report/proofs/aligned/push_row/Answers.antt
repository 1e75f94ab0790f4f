use Rattle.std.proofs.Common.{◌∙◌, ap}
use Rattle.cw_report.specs.Sized.{further_cells, sized_cell, sized_row}
use Rattle.cw_report.proofs.Tabled.{row_is, three_parts}
use Rattle.cw_report.proofs.aligned.push_row.Goals as goal

pub returns-in_ok-push_cells-in-Some : goal.returns-in_ok-push_cells-in-Some
returns-in_ok-push_cells-in-Some c =
    let titled = c.args.titled in
    let first = c.args.first.now in
    let line = c.args.line.now in
    let leading = c.in-Some.leading.now in
    let rest = c.in-Some.rest.now in
    three_parts c.args.text.now.items c.push_cell.new.text.items c.push_cells.new.text.items c.extend_from_slice.new.self.items
    (sized_cell titled first line leading) (further_cells titled first line rest) (sized_row titled first line c.args.columns.now) c.extend_from_slice.result
    c.in_ok-push_cell-in-Some.ensures c.in_ok-push_cells-in-Some.ensures c.extend_from_slice.ensures.items
    (ap (sized_row titled first line) c.in-Some.ensures.cases.0 ∙ row_is titled first line leading rest)
