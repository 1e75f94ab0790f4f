use Rattle.std.proofs.Common.{refl}
use Rattle.std.specs.Fmt.{digits}
use Rattle.cw_model.specs.Meaning.{call}
use Rattle.cw_model.specs.Answers.{serial_answer}
use Rattle.cw_model.proofs.examples.reducers.Goals as goal

pub returns-clause-totals : goal.returns-clause-totals
unfolding digits serial_answer call
returns-clause-totals c = record {
  sum_below_0 = (refl, refl);
  less_added = (refl, refl);
  sum_below_the_least = (refl, refl);
  greatest_is_the_least = (refl, refl);
  greatest_is_0 = (refl, refl);
  greatest_0_before_less = (refl, refl);
  greatest_0_behind_less = (refl, refl);
  greatest_is_the_greatest_number = refl;
  greatest_of_a_spawned_call = refl;
}

pub returns-clause-told : goal.returns-clause-told
unfolding digits serial_answer call
returns-clause-told c = record {
  integer = (refl, refl, refl, refl, refl);
  unknown_name = (refl, refl);
  array = (refl, refl);
  taken = (refl, refl, refl);
  not_taken_any_more = (refl, refl, refl, refl, refl);
  captured_from_outside = refl;
  size = refl;
  most_of_both_kinds = refl;
  a_sum_too_many = refl;
  a_greatest_too_many = refl;
}
