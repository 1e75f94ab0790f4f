use Rattle.std.proofs.Common.{subst}
use Rattle.cw_code.specs.Fits.{slots_lent}
use Rattle.cw_machine.specs.Gives.{Gives}
use Rattle.cw_strand.specs.Giving.{HasTaken}
use Rattle.cw_strand.proofs.giving.join_rest.Goals as goal

pub returns : goal.returns
returns c = record {
  given = c.give_rest.new.self;
  gives = subst (λ l. Gives c.args.run.now.machine c.args.frame.now c.args.replaced.now.items c.args.home.lender.slots (slots_lent l) c.args.home.target c.give_rest.new.self) c.loans_named-loans.ensures c.in_ok-give_rest.ensures.shows;
  takes = subst (λ l. HasTaken c.give_rest.new.self c.args.shown.lines.items l c.take_output.new.machine) c.as_slice.ensures.value c.in_ok-take_output.ensures;
  rests = c.in_ok-rest.ensures;
}
