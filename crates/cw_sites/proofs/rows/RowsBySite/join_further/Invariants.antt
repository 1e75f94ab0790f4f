use Rattle.std.specs.Prelude.{◌*◌}
use Rattle.cw_sites.specs.SiteRows.{JoinsOn}
use Rattle.cw_sites.proofs.rows.RowsBySite.join_further.Given as goal

abbrev pub invariant-loop-shelf : goal.invariant-loop-shelf
invariant-loop-shelf l = JoinsOn l.piece 0 (l.shelf * 256) l.fn.self l.self
