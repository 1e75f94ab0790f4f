use Rattle.std.proofs.Common.{refl}
use Rattle.std.specs.Fmt.{digits}
use Rattle.cw_model.specs.Meaning.{call}
use Rattle.cw_model.specs.Answers.{serial_answer}
use Rattle.cw_model.proofs.examples.names_and_types.Goals as goal

pub returns-clause-expressions : goal.returns-clause-expressions
unfolding digits serial_answer call
returns-clause-expressions c = record {
  every_form = (refl, refl, refl, refl, refl);
  unknown_name = (refl, refl);
  array_on_the_left = (refl, refl);
  array_on_the_right = (refl, refl);
  element_of_an_integer = (refl, refl);
  unknown_index = (refl, refl);
  length_of_an_integer = (refl, refl);
  negative_of_an_array = (refl, refl);
  not_of_an_array = (refl, refl);
  reducer_read = (refl, refl);
  function_read = (refl, refl);
}

pub returns-clause-writes : goal.returns-clause-writes
unfolding digits serial_answer call
returns-clause-writes c = record {
  own_initializer = (refl, refl);
  own_length = (refl, refl);
  length_of_itself = (refl, refl);
  known_integer = (refl, refl);
  known_array = (refl, refl);
  integer_named_as_a_function = (refl, refl);
  array_named_as_a_function = (refl, refl);
  integer_named_as_a_reducer = (refl, refl);
  unknown_target = (refl, refl);
  array_assigned = (refl, refl);
  unknown_value = (refl, refl);
  element_of_an_integer_written = (refl, refl);
  unknown_index_written = (refl, refl);
  unknown_value_of_an_element = (refl, refl);
  sum_of_a_variable = (refl, refl);
  greatest_of_a_variable = (refl, refl);
  greatest_of_a_sum = (refl, refl);
  sum_of_a_greatest = (refl, refl);
  greatest_of_a_greatest = (refl, refl);
  sum_of_a_function = (refl, refl);
  unknown_addition = (refl, refl);
  every_write = (refl, refl, refl, refl, refl);
}

pub returns-clause-calls : goal.returns-clause-calls
unfolding digits serial_answer call
returns-clause-calls c = record {
  result_dropped = (refl, refl, refl, refl, refl);
  void_called = (refl, refl, refl, refl, refl);
  both_kinds_passed = (refl, refl, refl, refl, refl);
  main_called = (refl, refl);
  too_few_arguments = (refl, refl);
  too_many_arguments = (refl, refl);
  unknown_argument = (refl, refl);
  array_for_an_integer = (refl, refl);
  integer_for_an_array = (refl, refl);
  number_for_an_array = (refl, refl);
  element_for_an_array = (refl, refl);
  second_argument = (refl, refl);
  result_of_void = (refl, refl);
  result_into_an_array = (refl, refl);
  result_into_an_unknown_name = (refl, refl);
  first_of_two = (refl, refl);
  lowered_call = (refl, refl);
  lowered_loop = (refl, refl);
}

pub returns-clause-heads : goal.returns-clause-heads
unfolding digits serial_answer call
returns-clause-heads c = record {
  another_name_tested = (refl, refl);
  another_name_stepped = (refl, refl);
  known_variable = (refl, refl);
  variable_named_as_a_function = (refl, refl);
  unknown_lower_end = (refl, refl);
  unknown_upper_end = (refl, refl);
  over_an_integer = (refl, refl);
  over_an_array = (refl, refl, refl, refl, refl);
  grain_0 = (refl, refl);
  grain_too_great = (refl, refl);
  greatest_grain = (refl, refl, refl, refl, refl);
  integer_cut = (refl, refl);
  cut_at_an_array = (refl, refl);
  cut_at_its_left_part = (refl, refl);
  cut_at_its_right_part = (refl, refl);
  known_left_part = (refl, refl);
  known_right_part = (refl, refl);
  one_name_for_both_parts = (refl, refl);
  parts_are_arrays = (refl, refl, refl, refl, refl);
  left_part_read = (refl, refl);
  right_part_read = (refl, refl);
}

pub returns-clause-blocks : goal.returns-clause-blocks
unfolding digits serial_answer call
returns-clause-blocks c = record {
  test_of_if = (refl, refl);
  test_of_if_else = (refl, refl);
  test_of_while = (refl, refl);
  in_each_block = (refl, refl);
  names_of_blocks = (refl, refl, refl, refl, refl);
  returns_in_blocks = (refl, refl);
  unknown_result = (refl, refl);
  result_of_int_missing = (refl, refl);
  result_of_void_given = (refl, refl);
  void_returns = (refl, refl, refl, refl, refl);
  nothing_returned = (refl, refl);
  print_at_the_end = (refl, refl);
  if_at_the_end = (refl, refl);
  while_at_the_end = (refl, refl);
  print_after_return = (refl, refl);
  return_after_return = (refl, refl);
  one_branch_returns = (refl, refl);
  other_branch_returns = (refl, refl);
  both_branches_return = (refl, refl, refl, refl, refl);
}

pub returns-clause-globals : goal.returns-clause-globals
unfolding digits serial_answer call
returns-clause-globals c = record {
  parameter_twice = (refl, refl);
  later_parameters_alike = (refl, refl);
  parameter_named_as_its_function = (refl, refl);
  parameter_named_as_a_reducer = (refl, refl);
  parameter_declared = (refl, refl);
  parameters_known = (refl, refl, refl, refl, refl);
  parameter_of_the_other_kind = (refl, refl);
  missing_main = (refl, refl);
  void_main = (refl, refl);
  main_of_an_array = (refl, refl);
  three_of_one_name = (refl, refl);
  two_reducers_of_one_name = (refl, refl);
  function_before_its_reducer = (refl, refl);
  reducer_before_its_function = (refl, refl);
  reducer_of_the_second_name = (refl, refl);
  reducer_for_main = (refl, refl);
}
