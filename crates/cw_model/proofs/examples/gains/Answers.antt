use Rattle.std.proofs.Common.{refl}
use Rattle.std.specs.Fmt.{digits}
use Rattle.cw_model.specs.Meaning.{call}
use Rattle.cw_model.specs.Answers.{serial_answer}
use Rattle.cw_model.proofs.examples.gains.Goals as goal

pub returns : goal.returns
unfolding digits serial_answer call
returns c = record {
  near_tie = refl;
  not_on_the_path = refl;
  halves = refl;
  one_site_of_two = refl;
  other_site_of_two = refl;
  loop_in_region = refl;
  both_edges = refl;
  loop_of_both_edges = refl;
  loop_gain_of_both_edges = refl;
  same_own_span = refl;
  only_two = refl;
  all_is_free = refl;
  text = refl;
  trapped = refl;
  over = refl;
}
