use Rattle.std.proofs.Common.{◌≡◌, ◌++◌, ◌∷◌, None, drop, get_or, ◌+◌, ap, subst, add-one, drop-cons}
use Rattle.std.proofs.lemmas.List.{drop_all}
use Rattle.cw_greedy_schedule.specs.declared.speedups.SpeedupRow.{SpeedupRow}
use Rattle.cw_report.specs.Speedups.{speedup_line, speedup_lines}
use Rattle.cw_report.proofs.Lines.{Towards, arrived, onward}
use Rattle.cw_report.proofs.speedup_table.push_rows.Goals as goal

pub loop-row-preserved : goal.loop-row-preserved
loop-row-preserved c =
    let m = c.args.measure in
    let rows = c.args.rows.now in
    let i = c.loop-row.row-index in
    let none : SpeedupRow = record { processors = 0; steps = None } in
    let item = get_or rows i none in
    let whole = speedup_lines m rows in
    let next : drop i rows ≡ item ∷ drop (i + 1) rows = rw add-one (drop-cons rows i none c.loop-row-test.true) in
    let cut : speedup_lines m (drop i rows) ≡ speedup_line m item ++ speedup_lines m (drop (i + 1) rows) = ap (speedup_lines m) next in
    onward c.args.table.now c.loop-row.table c.push_row.new.table (speedup_line m item) (speedup_lines m (drop (i + 1) rows)) whole
    (subst (λ l. Towards c.args.table.now c.loop-row.table l whole) cut c.loop-row.invariant) c.in_ok-push_row.ensures

pub returns : goal.returns
returns c =
    let m = c.args.measure in
    let rows = c.args.rows.now in
    let whole = speedup_lines m rows in
    arrived c.args.table.now c.loop-row.table whole
    (subst (λ l. Towards c.args.table.now c.loop-row.table l whole)
    (ap (speedup_lines m) (drop_all c.loop-row.row-index rows c.loop-row-test.false)) c.loop-row.invariant)
