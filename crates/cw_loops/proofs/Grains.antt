-- Loops of each length from 0 to 7, with each grain from 1 to 3.
use Rattle.std.proofs.Common.{◌≡◌, true, refl}
use Rattle.cw_model.specs.Meaning.{call}
use Rattle.cw_model.specs.Answers.{serial_answer}
use Rattle.cw_loops.specs.Examples.{all_have_cost}

pub grain_1 : all_have_cost 1 8 ≡ true
unfolding serial_answer call
grain_1 = refl

pub grain_2 : all_have_cost 2 8 ≡ true
unfolding serial_answer call
grain_2 = refl

pub grain_3 : all_have_cost 3 8 ≡ true
unfolding serial_answer call
grain_3 = refl
