use Rattle.std.proofs.Common.{refl}
use Rattle.std.specs.Fmt.{digits}
use Rattle.cw_model.specs.Meaning.{call}
use Rattle.cw_model.specs.Answers.{serial_answer}
use Rattle.cw_model.proofs.examples.arrays_and_loops.Goals as goal

pub returns : goal.returns
unfolding digits serial_answer call
returns c = record {
  cut_outside = refl;
  cut_at_end = (refl, refl);
  empty_cut_outside = refl;
  empty_cut = (refl, refl);
  fill = (refl, refl);
  fill_scale = refl;
  length_below_0 = refl;
  length_too_great = refl;
  length_0 = (refl, refl);
  sum_loop = (refl, refl);
  sum_loop_scale = refl;
  no_turn = refl;
  no_turn_scale = refl;
  squares_printed = refl;
  squares_printed_scale = refl;
  squares_past_the_end = refl;
  squares_past_the_end_at_5 = refl;
  squares_past_the_end_at_4 = refl;
  squares = (refl, refl);
  squares_work = refl;
  cut_work = refl;
  fifth_square = refl;
  five_squares = (refl, refl);
  squares_from_9 = (refl, refl);
  too_many_turns = refl;
  too_many_turns_at_3 = refl;
  most_turns = refl;
  widest_range = refl;
  highest_turn = (refl, refl);
}
