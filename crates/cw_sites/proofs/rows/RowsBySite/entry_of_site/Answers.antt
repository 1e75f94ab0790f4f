use Rattle.std.proofs.Common.{sym, ◌∙◌, arith}
use Rattle.cw_sites.proofs.RowLaws.{kept_further}
use Rattle.cw_sites.proofs.rows.RowsBySite.entry_of_site.Goals as goal

pub returns : goal.returns
returns c = c.get.ensures ∙ sym (kept_further c.args.self.now c.args.place (omega arith))
