use Rattle.std.proofs.Common.{arith}
use Rattle.cw_regions.specs.RegionRows.{summed}
use Rattle.cw_regions.proofs.RowLaws.{none_added, one_added, each_added}
use Rattle.cw_regions.proofs.rows.RowsByTag.add.Goals as goal

pub loop-place-init : goal.loop-place-init
loop-place-init c = none_added summed c.args.self.now c.args.piece.now

pub loop-place-preserved : goal.loop-place-preserved
loop-place-preserved c =
    one_added summed c.args.self.now c.args.piece.now c.loop-place.self c.put.new.self c.loop-place.place c.row_at.result c.row_at-in-loop-place.result c.summed-sum.result c.row_at.ensures c.row_at-in-loop-place.ensures c.summed-sum.ensures c.put.ensures.given c.put.ensures.as_long c.loop-place.invariant

pub returns : goal.returns
returns c = each_added summed c.args.self.now c.args.piece.now c.loop-place.self c.loop-place.place (omega arith) c.loop-place.invariant
