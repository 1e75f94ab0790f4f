use Rattle.std.proofs.Common.{◌∙◌, ap}
use Rattle.cw_strand.specs.Holds.{has_failed, stops, given_up}
use Rattle.cw_strand.proofs.Losing.{failed_not_over}
use Rattle.cw_strand.proofs.strand.Strand.give_given_up.Goals as goal

pub give_stopped-requires : goal.give_stopped-requires
give_stopped-requires c =
    let given = c.requires.given in record {
      running = c.give_up.ensures.running c.requires.running;
      stopped = ap stops (c.give_up.ensures.mode ∙ ap given_up c.requires.waiting);
      rest = tt;
      given = record { out = given.out; others = given.others; are = c.give_up.ensures.outs ∙ given.are; means = given.means };
    }

pub returns-clause-outs : goal.returns-clause-outs
returns-clause-outs c = λ out others e. c.give_stopped.ensures.outs out others (c.give_up.ensures.outs ∙ e)

pub returns-clause-over : goal.returns-clause-over
returns-clause-over c = λ over.
    failed_not_over c.give_up.new.self.mode (ap has_failed (c.give_up.ensures.mode ∙ ap given_up c.requires.waiting)) (c.give_stopped.ensures.over over)
