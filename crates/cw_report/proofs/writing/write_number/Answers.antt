use Rattle.std.proofs.Common.{rules}
use Rattle.cw_report.proofs.Parts.{then-Writes, still-Writes}
use Rattle.cw_report.proofs.writing.write_number.Goals as goal

pub returns-in_err-write_text : goal.returns-in_err-write_text
returns-in_err-write_text g c = still-Writes _ _ _ _ _ c.from_residual.result c.in_err-write_text.ensures.writes (search rules)

pub returns : goal.returns
returns g c = then-Writes _ _ _ _ _ c.write_text-2.result c.in_ok-write_text.ensures.writes (search rules)
