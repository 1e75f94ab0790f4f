use Rattle.std.proofs.Common.{refl}
use Rattle.std.specs.Fmt.{digits}
use Rattle.cw_model.specs.Meaning.{call}
use Rattle.cw_model.specs.Answers.{serial_answer}
use Rattle.cw_model.proofs.examples.statements.Goals as goal

pub returns-clause-effects : goal.returns-clause-effects
unfolding digits serial_answer call
returns-clause-effects c = record {
  names_end_with_blocks = (refl, refl);
  names_end_with_a_turn = refl;
  names_end_with_the_other_branch = refl;
  outer_names_stay = refl;
  early_return = (refl, refl);
  return_of_one_branch = (refl, refl);
  return_of_the_other_branch = (refl, refl);
  return_of_a_turn = (refl, refl);
  arguments_by_place = (refl, refl);
  spawned_arguments = (refl, refl);
  arguments_from_the_left = refl;
  dropped_result = (refl, refl);
  arrays_by_place = (refl, refl);
  integer_and_array = (refl, refl);
  sums_of_two_reducers = refl;
  greatest = (refl, refl);
  greatest_of_nothing = refl;
  greatest_below_zero = refl;
  totals_of_both_kinds = refl;
  sums_after_printed_lines = refl;
  arguments_of_main = refl;
  parts_of_a_cut = refl;
  integers_written_in_a_cut = refl;
  parts_end_with_a_cut = refl;
  new_array_is_zero = refl;
  arrays_end_with_blocks = (refl, refl);
  lines_before_a_trap = refl;
}

pub returns-clause-costs : goal.returns-clause-costs
unfolding digits serial_answer call
returns-clause-costs c = record {
  turns = (refl, refl);
  assignment = (refl, refl);
  new_array = (refl, refl);
  addition = (refl, refl);
  test_that_fails = (refl, refl);
  test_that_holds = (refl, refl);
  sync = (refl, refl);
  scope = (refl, refl);
  region = (refl, refl);
  void_call = (refl, refl);
  plain_return = (refl, refl);
}

pub returns-clause-joins : goal.returns-clause-joins
unfolding digits serial_answer call
returns-clause-joins c = record {
  return_of_a_value = refl;
  plain_return = refl;
  end_of_a_call = refl;
  scope = refl;
  cut = refl;
  region = refl;
  turn = refl;
  spawn_before_a_scope = refl;
  spawn_before_a_loop = refl;
  spawn_before_a_lowered_loop = refl;
}

pub returns-clause-lowered : goal.returns-clause-lowered
unfolding digits serial_answer call
returns-clause-lowered c = record {
  begun = (refl, refl);
  begun_past_the_end = refl;
  begun_on_the_widest_range_without_a_turn = (refl, refl);
  captured_before_the_start = (refl, refl);
  started_arrays = (refl, refl);
  started = refl;
  started_beside = refl;
  started_at_the_greatest_depth = (_, refl);
  begun_at_the_greatest_depth = (_, refl);
  called_at_the_greatest_depth = refl;
}

pub returns-clause-loops : goal.returns-clause-loops
unfolding digits serial_answer call
returns-clause-loops c = record {
  captured_integers = (refl, refl);
  captured_by_halves = (refl, refl);
  inner_bound = (refl, refl);
  own_names = (refl, refl);
  two_arrays = (refl, refl);
  two_leaves = (refl, refl);
  turns_in_order = refl;
  names_end_with_a_turn = refl;
  equal_ends = (refl, refl);
  lower_end_above = (refl, refl);
  range_past_the_second_array = refl;
  range_shifted_past_the_end = refl;
  captured_before_the_start = (refl, refl);
  both_halves_are_kept = (refl, refl);
  both_turns_are_kept = (refl, refl);
  odd_range = refl;
  longer_child = refl;
  longest_first_leaf = refl;
  index_beside_own_names = (refl, refl);
  index_after_a_block = (refl, refl);
  cost_of_five_turns = refl;
  cost_of_a_leaf = refl;
  nodes_of_five_turns = refl;
  nodes_of_eight_turns = refl;
  tree_of_three_turns = refl;
}

pub returns-clause-captures : goal.returns-clause-captures
unfolding digits serial_answer call
returns-clause-captures c = record {
  no_name = refl;
  no_array = refl;
  no_variable = refl;
  no_target = refl;
  own_integer = refl;
  own_array = refl;
  own_variable = refl;
  own_parts = refl;
  own_in_each_block = refl;
  in_order_and_once = refl;
  printed = refl;
  declared = refl;
  length_of_a_new_array = refl;
  assigned = refl;
  index_written = refl;
  value_of_an_element = refl;
  added = refl;
  second_argument = refl;
  test_of_if = refl;
  test_of_if_else = refl;
  test_of_while = refl;
  lower_end = refl;
  upper_end = refl;
  place_of_a_cut = refl;
  result = refl;
  index = refl;
  negative = refl;
  not = refl;
  left_operand = refl;
  right_operand = refl;
  lowered_call = refl;
  lowered_from = refl;
  lowered_to = refl;
  lowered_captured = refl;
}
