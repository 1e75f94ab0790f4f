use Rattle.std.proofs.Common.{refl}
use Rattle.std.specs.Fmt.{digits}
use Rattle.cw_model.specs.Meaning.{call}
use Rattle.cw_model.specs.Answers.{serial_answer}
use Rattle.cw_model.proofs.examples.ownership.Goals as goal

pub returns-clause-taken : goal.returns-clause-taken
unfolding digits serial_answer call
returns-clause-taken c = record {
  another_read = (refl, refl, refl, refl, refl);
  another_written = (refl, refl, refl, refl, refl);
  declared = (refl, refl, refl);
  length_of_a_new_array = (refl, refl, refl);
  value = (refl, refl, refl);
  target = (refl, refl, refl);
  index_written = (refl, refl, refl);
  value_of_an_element = (refl, refl, refl);
  element_written = (refl, refl, refl);
  addition = (refl, refl, refl);
  argument = (refl, refl, refl);
  argument_beside_a_free_one = (refl, refl, refl);
  second_argument = (refl, refl, refl);
  array_passed = (refl, refl, refl);
  target_of_a_call = (refl, refl, refl);
  target_of_a_spawn = (refl, refl, refl);
  test_of_if = (refl, refl, refl);
  test_of_if_else = (refl, refl, refl);
  test_of_while = (refl, refl, refl);
  lower_end = (refl, refl, refl);
  upper_end = (refl, refl, refl);
  loop_over = (refl, refl, refl);
  place_of_a_cut = (refl, refl, refl);
  cut_again = (refl, refl, refl);
  printed = (refl, refl, refl);
  result = (refl, refl, refl);
  negative = (refl, refl, refl);
  not = (refl, refl, refl);
  left_operand = (refl, refl, refl);
  right_operand = (refl, refl, refl);
  index = (refl, refl, refl);
  element = (refl, refl, refl);
  length = (refl, refl, refl);
  in_each_block = (refl, refl, refl);
  after_each_block = (refl, refl, refl);
  two_lines_later = (refl, refl, refl);
  lowered_call = refl;
  lowered_loop = refl;
}

pub returns-clause-freed : goal.returns-clause-freed
unfolding digits serial_answer call
returns-clause-freed c = record {
  spawn_takes_its_target = (refl, refl, refl);
  spawn_takes_no_integer = (refl, refl, refl, refl, refl);
  call_gives_back = (refl, refl, refl, refl, refl);
  second_argument_taken = (refl, refl, refl);
  one_array_twice = (refl, refl, refl);
  over_twice = (refl, refl, refl);
  sync = (refl, refl, refl, refl, refl);
  sync_of_an_array = (refl, refl, refl, refl, refl);
  sync_in_scope = (refl, refl, refl);
  sync_in_cut = (refl, refl, refl);
  sync_in_region = (refl, refl, refl);
  sync_in_loop = (refl, refl, refl);
  sync_before_a_print_in_scope = (refl, refl, refl);
  sync_before_a_print_in_cut = (refl, refl, refl);
  sync_before_a_print_in_region = (refl, refl, refl);
  sync_before_a_print_in_loop = (refl, refl, refl);
  sync_before_a_print_in_if = (refl, refl, refl, refl, refl);
  sync_before_a_print_in_one_branch = (refl, refl, refl, refl, refl);
  sync_before_a_print_in_the_other_branch = (refl, refl, refl, refl, refl);
  sync_before_a_print_in_while = (refl, refl, refl, refl, refl);
  spawn_in_scope = (refl, refl, refl, refl, refl);
  spawn_in_cut = (refl, refl, refl, refl, refl);
  spawn_in_region = (refl, refl, refl, refl, refl);
  spawn_and_sync_in_scope = (refl, refl, refl, refl, refl);
  spawn_in_the_scope_around = (refl, refl, refl);
  sync_in_if = (refl, refl, refl);
  sync_in_one_branch = (refl, refl, refl);
  sync_in_the_other_branch = (refl, refl, refl);
  sync_in_both_branches = (refl, refl, refl, refl, refl);
  sync_in_while = (refl, refl, refl);
  spawn_in_if = (refl, refl, refl);
  spawn_in_one_branch = (refl, refl, refl);
  spawn_in_the_other_branch = (refl, refl, refl);
  spawn_after_a_print_in_if = (refl, refl, refl);
  spawn_before_a_sync_in_if = (refl, refl, refl, refl, refl);
  spawn_in_while = (refl, refl, refl);
  spawn_into_the_test_of_while = (refl, refl, refl);
  spawn_before_return = (refl, refl, refl, refl, refl);
  return_in_if = (refl, refl, refl);
  return_in_one_branch = (refl, refl, refl);
  own_names = (refl, refl, refl);
  own_arrays = (refl, refl, refl);
  declared_again = (refl, refl, refl);
  own_name_before_return = (refl, refl, refl, refl, refl);
  body_joins = (refl, refl, refl, refl, refl);
  after_cut = (refl, refl, refl, refl, refl);
  in_cut = (refl, refl, refl);
  sync_in_its_cut = (refl, refl, refl);
  after_a_cut_of_a_taken_array = (refl, refl, refl);
  after_an_inner_cut = (refl, refl, refl);
}

pub returns-clause-loops : goal.returns-clause-loops
unfolding digits serial_answer call
returns-clause-loops c = record {
  outer_integer_read = (refl, refl, refl, refl, refl);
  element_read = (refl, refl, refl, refl, refl);
  element_written = (refl, refl, refl, refl, refl);
  own_array = (refl, refl, refl, refl, refl);
  own_array_passed = (refl, refl, refl, refl, refl);
  own_integer_written = (refl, refl, refl, refl, refl);
  array_not_listed = (refl, refl, refl);
  array_not_listed_written = (refl, refl, refl);
  length = (refl, refl, refl);
  length_of_another = (refl, refl, refl);
  other_index = (refl, refl, refl);
  other_index_written = (refl, refl, refl);
  other_variable = (refl, refl, refl);
  next_element = (refl, refl, refl);
  in_an_index = (refl, refl, refl);
  in_the_index_of_an_own_array = (refl, refl, refl);
  in_negative = (refl, refl, refl);
  in_not = (refl, refl, refl);
  in_left_operand = (refl, refl, refl);
  in_right_operand = (refl, refl, refl);
  outer_integer_written = (refl, refl, refl);
  variable_written = (refl, refl, refl);
  outer_target = (refl, refl, refl);
  outer_target_of_a_spawn = (refl, refl, refl);
  array_passed = (refl, refl, refl);
  array_cut = (refl, refl, refl);
  inner_loop_over_it = (refl, refl, refl);
  lower_end_of_an_inner_loop = (refl, refl, refl);
  upper_end_of_an_inner_loop = (refl, refl, refl);
  element_in_an_inner_loop = (refl, refl, refl);
  variable_written_in_an_inner_loop = (refl, refl, refl);
  name_of_a_turn_written_in_an_inner_loop = (refl, refl, refl);
  array_of_a_turn_in_an_inner_loop = (refl, refl, refl);
  in_each_block = (refl, refl, refl);
  in_an_inner_loop_in_each_block = (refl, refl, refl);
  parameter_written = (refl, refl, refl);
  parts_of_a_cut = (refl, refl, refl, refl, refl);
  left_part_in_a_loop = (refl, refl, refl);
  right_part_in_a_loop = (refl, refl, refl);
}
