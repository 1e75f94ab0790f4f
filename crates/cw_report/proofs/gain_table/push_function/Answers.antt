use Rattle.cw_report.proofs.gain_table.push_function.Goals as goal

pub returns : goal.returns
returns c = rw c.as_bytes.ensures at c.push_line.ensures
