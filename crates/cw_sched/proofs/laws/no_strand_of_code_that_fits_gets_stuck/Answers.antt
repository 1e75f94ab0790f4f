use Rattle.cw_sched.proofs.core.Outcomes.{none_is_unfit_here}
use Rattle.cw_sched.proofs.laws.no_strand_of_code_that_fits_gets_stuck.Goals as goal

pub returns : goal.returns
returns c = none_is_unfit_here c.no_strand_of_code_that_fits_gets_stuck.ensures
