use Rattle.cw_sites.proofs.RowLaws.{none_joined, one_joined}
use Rattle.cw_sites.proofs.rows.RowsBySite.join_firsts.Goals as goal

pub loop-place-init : goal.loop-place-init
loop-place-init c = none_joined c.args.piece.now c.args.self.now

pub loop-place-preserved : goal.loop-place-preserved
loop-place-preserved c = one_joined c.args.piece.now c.args.self.now c.loop-place.self c.add.new.self c.loop-place.place c.row_at.result c.row_at.ensures c.in_ok-add.ensures.own c.in_ok-add.ensures.others c.loop-place.invariant
