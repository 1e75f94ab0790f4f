use Rattle.cw_meter.specs.Moves.{ListsSites}
use Rattle.cw_meter.proofs.tables.Tables.site_rows.Given as goal

abbrev pub invariant-loop-site : goal.invariant-loop-site
invariant-loop-site l = ListsSites l.self l.site l.rows.items
