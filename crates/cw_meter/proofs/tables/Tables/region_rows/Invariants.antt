use Rattle.cw_meter.specs.Moves.{ListsRegions}
use Rattle.cw_meter.proofs.tables.Tables.region_rows.Given as goal

abbrev pub invariant-loop-tag : goal.invariant-loop-tag
invariant-loop-tag l = ListsRegions l.self l.tag l.rows.items
