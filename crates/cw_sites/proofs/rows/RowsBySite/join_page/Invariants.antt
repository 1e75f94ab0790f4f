use Rattle.std.specs.Prelude.{◌+◌}
use Rattle.cw_sites.specs.SiteRows.{JoinsOn}
use Rattle.cw_sites.proofs.rows.RowsBySite.join_page.Given as goal

abbrev pub invariant-loop-number : goal.invariant-loop-number
invariant-loop-number l = JoinsOn l.piece l.first (l.first + l.number) l.fn.self l.self
