use Rattle.std.proofs.Common.{refl}
use Rattle.cw_model.specs.Meaning.{call}
use Rattle.cw_model.specs.Answers.{serial_answer}
use Rattle.cw_loops.proofs.Grains.{grain_1, grain_2, grain_3}
use Rattle.cw_loops.proofs.laws.lowered_examples.Goals as goal

pub returns : goal.returns
unfolding serial_answer call
returns c = record {
  four_squares_cost = (refl, refl);
  past_the_end = refl;
  five_squares_cost = (refl, refl);
  from_9_cost = (refl, refl);
  too_many = refl;
  too_many_at_3 = refl;
  most_at_3 = refl;
  grain_1 = grain_1;
  grain_2 = grain_2;
  grain_3 = grain_3;
  sums = refl;
  no_turn = refl;
  greatest = refl;
  greatest_cost = (refl, refl);
  greatest_told = refl;
  none_told = refl;
  squares_printed = refl;
  squares_past = refl;
  squares = refl;
  five_squares = refl;
  squares_from_9 = refl;
  widest = refl;
  most = refl;
  twice = refl;
  twice_traps = refl;
  together = refl;
  together_comes_to = refl;
  sums_can = refl;
  greatest_can = refl;
  squares_can = refl;
  fill_can = refl;
  cut_can = refl;
  fib_can = refl;
  twice_can = refl;
  together_can = refl;
  outer_cannot = refl;
}
