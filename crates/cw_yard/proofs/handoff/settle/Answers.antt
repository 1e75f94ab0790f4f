use Rattle.cw_yard.proofs.Thefts.{settles}
use Rattle.cw_yard.proofs.handoff.settle.Goals as goal

pub settle-requires-clause-means : goal.settle-requires-clause-means
settle-requires-clause-means c =
    settles c.args.duty.cell c.args.duty.token.me c.requires.means.0 c.args.effect c.with-left.result c.args.duty.open c.args.duty.empty c.requires.means.1 c.requires.means.2 c.with-left.ensures
