use Rattle.cw_regions.specs.RegionRows.{under}
use Rattle.cw_regions.proofs.RowLaws.{Added}
use Rattle.cw_regions.proofs.rows.RowsByTag.add_under.Given as goal

abbrev pub invariant-loop-place : goal.invariant-loop-place
invariant-loop-place l = Added under l.fn.self l.ours l.self l.place
