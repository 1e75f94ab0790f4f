use Rattle.cw_code.proofs.StrandsFit.{none_is_unfit}
use Rattle.cw_code.proofs.crew_laws.no_strand_of_code_that_fits_gets_stuck.Goals as goal

pub returns : goal.returns
returns c = none_is_unfit c.code_that_fits_goes_on.ensures.steps c.results_may_go_back.ensures c.code_that_fits_goes_on.ensures.begins
