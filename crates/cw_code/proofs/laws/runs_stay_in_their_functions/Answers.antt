use Rattle.cw_code.proofs.Staying.{stays, seats}
use Rattle.cw_code.proofs.laws.runs_stay_in_their_functions.Goals as goal

pub returns-clause-stays : goal.returns-clause-stays
returns-clause-stays c = stays

pub returns-clause-seats : goal.returns-clause-seats
returns-clause-seats c = seats
