use Rattle.cw_sites.specs.SiteRows.{JoinsBelow}
use Rattle.cw_sites.proofs.rows.RowsBySite.join_firsts.Given as goal

abbrev pub invariant-loop-place : goal.invariant-loop-place
invariant-loop-place l = JoinsBelow l.piece l.place l.fn.self l.self
