use Rattle.cw_sites.proofs.RowLaws.{IsReached}
use Rattle.cw_sites.proofs.rows.RowsBySite.reach.Given as goal

abbrev pub invariant-loop-site : goal.invariant-loop-site
invariant-loop-site l = IsReached l.fn.self l.self l.site
