use Rattle.std.proofs.Common.{inl}
use Rattle.cw_strand.proofs.Same.{newest_of}
use Rattle.cw_strand.proofs.Gave.{of_rest, else_stopped}
use Rattle.cw_strand.proofs.strand.Strand.give.Goals as goal

pub give_waiting-requires-clause-rest : goal.give_waiting-requires-clause-rest
give_waiting-requires-clause-rest c =
    let self = c.args.self.now in
    let given = c.requires.given in
    of_rest self given.out given.others (newest_of self given.out given.others given.are) c.requires.running c.args.effect given.means

pub give_stopped-requires : goal.give_stopped-requires
give_stopped-requires c =
    let self = c.args.self.now in
    let given = c.requires.given in
    record {
      running = c.requires.running;
      stopped = else_stopped self.mode c.requires.at_sync c.in_default.not-Waiting;
      rest = of_rest self given.out given.others (newest_of self given.out given.others given.are) c.requires.running c.args.effect given.means;
      given = given;
    }

pub returns-in_default-clause-counts : goal.returns-in_default-clause-counts
returns-in_default-clause-counts c = inl c.give_stopped.ensures.counts

pub returns-in_default-clause-over : goal.returns-in_default-clause-over
returns-in_default-clause-over c = λ over. inl (c.give_stopped.ensures.over over)
