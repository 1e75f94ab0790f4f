use Rattle.std.proofs.Common.{refl}
use Rattle.std.specs.Fmt.{digits}
use Rattle.cw_model.specs.Meaning.{call}
use Rattle.cw_model.specs.Answers.{serial_answer}
use Rattle.cw_model.proofs.examples.read_together.Goals as goal

pub returns-clause-types : goal.returns-clause-types
unfolding digits serial_answer call
returns-clause-types c = record {
  element_read = (refl, refl, refl, refl, refl);
  length = (refl, refl, refl, refl, refl);
  passed_on = (refl, refl, refl, refl, refl);
  passed_on_by_a_spawn = (refl, refl, refl, refl, refl);
  own_array_passed = (refl, refl, refl, refl, refl);
  written = (refl, refl);
  given_away = (refl, refl);
  given_away_by_a_spawn = (refl, refl);
  cut = (refl, refl);
  looped_over = (refl, refl);
  looped_over_behind_another = (refl, refl);
  read_alone = (refl, refl);
  assigned = (refl, refl);
  target = (refl, refl);
  declared_again = (refl, refl);
  integer_for_it = (refl, refl);
  element_for_it = (refl, refl);
  number_for_it = (refl, refl);
  unknown_name_for_it = (refl, refl);
  parameter_of_main = (refl, refl);
}

pub returns-clause-frozen : goal.returns-clause-frozen
unfolding digits serial_answer call
returns-clause-frozen c = record {
  element_read = (refl, refl, refl, refl, refl);
  length = (refl, refl, refl, refl, refl);
  passed_to_be_read = (refl, refl, refl, refl, refl);
  frozen_twice = (refl, refl, refl, refl, refl);
  passed_twice_to_be_read = (refl, refl, refl, refl, refl);
  passed_twice_by_a_spawn = (refl, refl, refl, refl, refl);
  written = (refl, refl, refl);
  given_away = (refl, refl, refl);
  given_away_by_a_spawn = (refl, refl, refl);
  cut = (refl, refl, refl);
  looped_over = (refl, refl, refl);
  taken_passed_to_be_read = (refl, refl, refl);
  taken_passed_to_be_read_by_a_spawn = (refl, refl, refl);
  taken_beside_a_frozen_one = (refl, refl, refl);
  call_freezes_nothing = (refl, refl, refl, refl, refl);
  spawn_freezes = (refl, refl, refl);
  spawn_takes_its_target = (refl, refl, refl);
  first_argument_frozen = (refl, refl, refl);
  second_argument_frozen = (refl, refl, refl);
  second_argument_read = (refl, refl, refl, refl, refl);
  given_away_beside_one_to_be_read = (refl, refl, refl, refl, refl);
  read_beside_one_given_away = (refl, refl, refl);
  twice_the_first_given_away = (refl, refl, refl);
  twice_the_second_given_away = (refl, refl, refl);
  two_arrays = (refl, refl, refl, refl, refl);
  second_given_away_read = (refl, refl, refl);
  second_given_away_read_behind_another = (refl, refl, refl);
  another_read_twice = (refl, refl, refl, refl, refl);
  integer_argument_written = (refl, refl, refl, refl, refl);
  sync = (refl, refl, refl, refl, refl);
  sync_in_scope = (refl, refl, refl);
  after_a_cut_of_a_frozen_array = (refl, refl, refl);
  spawn_in_scope = (refl, refl, refl, refl, refl);
  spawn_in_if = (refl, refl, refl);
  spawn_in_one_branch = (refl, refl, refl);
  spawn_in_the_other_branch = (refl, refl, refl);
  read_after_one_branch = (refl, refl, refl, refl, refl);
  frozen_or_taken = (refl, refl, refl);
  taken_or_frozen = (refl, refl, refl);
  written_in_the_next_turn = (refl, refl, refl);
  read_in_the_next_turn = (refl, refl, refl, refl, refl);
  let_out_of_scope = (refl, refl, refl);
  joined_at_its_end = (refl, refl, refl, refl, refl);
  parts_of_a_cut = (refl, refl, refl, refl, refl);
  frozen_part_written = (refl, refl, refl);
  whole_passed_in_its_cut = (refl, refl, refl);
  array_of_a_loop_passed = (refl, refl, refl);
  outer_array_passed = (refl, refl, refl);
  outer_array_passed_before_an_own = (refl, refl, refl);
  outer_array_passed_behind_an_own = (refl, refl, refl);
  outer_integer_passed = (refl, refl, refl, refl, refl);
  own_array_of_a_turn = (refl, refl, refl, refl, refl);
}

pub returns-clause-thawed : goal.returns-clause-thawed
unfolding digits serial_answer call
returns-clause-thawed c = record {
  by_a_region = (refl, refl, refl, refl, refl);
  by_a_cut_of_another = (refl, refl, refl, refl, refl);
  by_a_return = (refl, refl, refl, refl, refl);
  by_both_branches = (refl, refl, refl, refl, refl);
  not_by_a_scope = (refl, refl, refl);
  not_by_a_region = (refl, refl, refl);
  not_by_a_cut = (refl, refl, refl);
  not_by_a_loop = (refl, refl, refl);
  not_by_an_if_that_joins = (refl, refl, refl);
  not_by_an_if_that_returns = (refl, refl, refl);
  not_by_one_branch = (refl, refl, refl);
  not_by_the_other_branch = (refl, refl, refl);
  not_by_a_while_that_joins = (refl, refl, refl);
  not_by_a_while_that_returns = (refl, refl, refl);
}

pub returns-clause-runs : goal.returns-clause-runs
unfolding digits serial_answer call
returns-clause-runs c = record {
  accepted = (refl, refl, refl, refl, refl);
  runs = refl;
  scale = refl;
  size = refl;
  written_beside = (refl, refl, refl);
  written_by_the_reader = (refl, refl);
  one_of_each = refl;
  one_array_for_two = refl;
}
