use Rattle.cw_code.proofs.Frozen.{frozen_stay, frozen_spared}
use Rattle.cw_code.proofs.laws.frozen_arrays_stay.Goals as goal

pub returns-clause-stay : goal.returns-clause-stay
returns-clause-stay c = frozen_stay

pub returns-clause-spared : goal.returns-clause-spared
returns-clause-spared c = frozen_spared
