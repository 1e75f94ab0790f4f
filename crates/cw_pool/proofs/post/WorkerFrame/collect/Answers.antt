use Rattle.std.proofs.Common.{refl}
use Rattle.cw_yard.specs.Tickets.{ticket_job}
use Rattle.cw_pool.proofs.Joins.{after, newest}
use Rattle.cw_pool.proofs.post.WorkerFrame.collect.Goals as goal

pub give-requires-clause-given : goal.give-requires-clause-given
give-requires-clause-given c =
    let n = newest _ _ _ c.requires.lacks.1 in
    record { out = n.job; others = n.others; are = n.is; means = c.in-Done.ensures.ticket.0 n.job n.named_is }

pub returns-in-Done-clause-works : goal.returns-in-Done-clause-works
returns-in-Done-clause-works c =
    after c.args.yard.now c.args.self.now (ticket_job c.args.ticket) c.give.new.self c.args.self.now.kept c.requires.lacks refl
    (λ j others is o. (c.give.ensures.running, c.give.ensures.outs j others is))
