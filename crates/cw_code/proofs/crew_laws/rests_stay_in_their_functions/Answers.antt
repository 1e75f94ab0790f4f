use Rattle.cw_code.proofs.RestsStay.{rests_stay}
use Rattle.cw_code.proofs.crew_laws.rests_stay_in_their_functions.Goals as goal

pub returns : goal.returns
returns c = rests_stay c.code_that_fits_goes_on.ensures.steps c.runs_stay_in_their_functions.ensures.stays
