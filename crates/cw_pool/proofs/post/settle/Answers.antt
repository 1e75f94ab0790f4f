use Rattle.std.proofs.Common.{sym, subst}
use Rattle.cw_yard.specs.Seats.{IsSeatOf}
use Rattle.cw_pool.proofs.post.settle.Goals as goal

pub returns : goal.returns
returns g c = subst (λ s. IsSeatOf c.args.yard.now s) (sym c.settle.ensures) c.requires.seat
