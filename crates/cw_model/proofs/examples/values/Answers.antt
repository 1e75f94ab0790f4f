use Rattle.std.proofs.Common.{refl}
use Rattle.std.specs.Fmt.{digits}
use Rattle.cw_model.specs.Meaning.{call}
use Rattle.cw_model.specs.Answers.{serial_answer}
use Rattle.cw_model.proofs.examples.values.Goals as goal

pub returns-clause-operators : goal.returns-clause-operators
unfolding digits serial_answer call
returns-clause-operators c = record {
  number_alone = (refl, refl);
  equal = (refl, refl);
  not_equal = (refl, refl);
  unequal = (refl, refl);
  not_unequal = (refl, refl);
  less = (refl, refl);
  not_less = (refl, refl);
  at_most = (refl, refl);
  not_at_most = (refl, refl);
  greater = (refl, refl);
  not_greater = (refl, refl);
  at_least = (refl, refl);
  not_at_least = (refl, refl);
  below_0_is_less = (refl, refl);
  sum = (refl, refl);
  difference = (refl, refl);
  product = (refl, refl);
  quotient = (refl, refl);
  rest = (refl, refl);
  negative = (refl, refl);
  not_0 = (refl, refl);
  not_5 = (refl, refl);
  not_below_0 = (refl, refl);
  length = (refl, refl);
  element = (refl, refl);
  variable = (refl, refl);
  greatest_sum = (refl, refl);
  count_of_a_number_below_0 = refl;
  longest_array = refl;
}

pub returns-clause-traps : goal.returns-clause-traps
unfolding digits serial_answer call
returns-clause-traps c = record {
  sum_too_great = (refl, refl);
  difference_too_small = (refl, refl);
  product_too_great = (refl, refl);
  quotient_by_0 = (refl, refl);
  rest_by_0 = (refl, refl);
  left_operand_first = (refl, refl);
  right_operand = (refl, refl);
  under_negative = (refl, refl);
  past_the_end = (refl, refl);
  before_the_start = (refl, refl);
  written_past_the_end = (refl, refl);
  written_before_the_start = (refl, refl);
  index_first = (refl, refl);
  bound_last = (refl, refl);
  initializer = (refl, refl);
  length_below_0 = (refl, refl);
  length_too_great = (refl, refl);
  addition = (refl, refl);
  argument = (refl, refl);
  result = (refl, refl);
  test_of_if = (refl, refl);
  test_of_if_else = (refl, refl);
  test_of_while = (refl, refl);
  lower_end = (refl, refl);
  upper_end = (refl, refl);
  range_past_the_end = (refl, refl);
  range_before_the_start = (refl, refl);
  too_many_turns_first = (refl, refl);
  cut_past_the_end = (refl, refl);
  cut_before_the_start = (refl, refl);
  in_if = (refl, refl);
  in_while = (refl, refl);
  in_cut = (refl, refl);
  in_region = (refl, refl);
  number_of_overflow = refl;
  number_of_a_zero_divisor = refl;
  number_of_a_place_outside = refl;
  number_of_a_bad_length = refl;
  number_of_too_many_turns = refl;
  number_of_too_deep = refl;
}
