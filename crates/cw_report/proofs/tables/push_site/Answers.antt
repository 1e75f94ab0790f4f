use Rattle.cw_report.proofs.tables.push_site.Goals as goal

pub returns : goal.returns
returns c = rw (c.kind_text-kind.ensures, c.as_bytes.ensures) at c.push_told.ensures
