use Rattle.cw_report.proofs.gain_table.push_whole.Goals as goal

pub returns : goal.returns
returns c = rw (c.from.ensures, c.from-2.ensures) at c.push_line.ensures
