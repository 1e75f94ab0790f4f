use Rattle.std.proofs.Common.{rules}
use Rattle.cw_report.proofs.Parts.{then-Writes, still-Writes}
use Rattle.cw_report.proofs.writing.write_trap.Goals as goal

pub returns-in_err-write_number : goal.returns-in_err-write_number
returns-in_err-write_number g c = still-Writes _ _ _ _ _ c.from_residual.result c.in_err-write_number.ensures (search rules)

pub returns : goal.returns
returns g c = then-Writes _ _ _ _ _ c.write_line.result c.in_ok-write_number.ensures (search rules)
