use Rattle.std.proofs.Common.{sym, subst}
use Rattle.cw_jobs.specs.Means.{IsMeaningOf}
use Rattle.cw_yard.specs.Deals.{number_of}
use Rattle.cw_yard.proofs.handoff.give_up.Goals as goal

pub settle-requires-clause-means : goal.settle-requires-clause-means
settle-requires-clause-means c =
    (number_of c.args.duty.me.0, c.args.job, c.requires.names, subst (λ e. IsMeaningOf c.args.job e) (sym c.with-left.ensures) c.give_up.ensures.means)
