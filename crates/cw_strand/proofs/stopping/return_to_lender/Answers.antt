use Rattle.std.proofs.Common.{subst}
use Rattle.cw_code.specs.Fits.{slots_lent}
use Rattle.cw_machine.specs.Unwinding.{HasReturnedSlices}
use Rattle.cw_strand.proofs.stopping.return_to_lender.Goals as goal

pub returns-clause-home : goal.returns-clause-home
returns-clause-home c = λ known.
    subst (λ l. HasReturnedSlices c.args.machine.now c.args.home.lender.first c.args.home.lender.slots (slots_lent l) c.args.slices.now.items c.args.replaced.now.items c.return_slices.new.self) c.loans_named.ensures c.return_slices.ensures.remains
