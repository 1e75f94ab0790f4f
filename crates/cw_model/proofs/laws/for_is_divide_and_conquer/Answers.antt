use Rattle.std.proofs.Common.{refl}
use Rattle.cw_model.proofs.Spending.{for_is_body}
use Rattle.cw_model.proofs.laws.for_is_divide_and_conquer.Goals as goal

pub returns : goal.returns
returns c = record { meaning = λ x y z from to grain over b line fs calls frame. refl; body = for_is_body }
