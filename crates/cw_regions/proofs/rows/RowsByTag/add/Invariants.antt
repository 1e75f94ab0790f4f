use Rattle.cw_regions.specs.RegionRows.{summed}
use Rattle.cw_regions.proofs.RowLaws.{Added}
use Rattle.cw_regions.proofs.rows.RowsByTag.add.Given as goal

abbrev pub invariant-loop-place : goal.invariant-loop-place
invariant-loop-place l = Added summed l.fn.self l.piece l.self l.place
