use Rattle.std.specs.Prelude.{◌+◌, ◌*◌}
use Rattle.cw_sites.specs.SiteRows.{JoinsOn}
use Rattle.cw_sites.proofs.rows.RowsBySite.join_shelf.Given as goal

abbrev pub invariant-loop-page : goal.invariant-loop-page
invariant-loop-page l = JoinsOn l.piece (l.shelf * 256) (l.shelf * 256 + l.page * 8) l.fn.self l.self
