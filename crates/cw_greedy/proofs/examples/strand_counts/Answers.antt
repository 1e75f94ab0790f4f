use Rattle.std.proofs.Common.{refl}
use Rattle.cw_model.specs.Meaning.{call}
use Rattle.cw_model.specs.Answers.{serial_answer}
use Rattle.cw_greedy.proofs.examples.strand_counts.Goals as goal

pub returns : goal.returns
unfolding serial_answer call
returns c = record {
  alone = refl;
  call = refl;
  spawn = refl;
  sync_with_nothing_out = refl;
  second_sync = refl;
  two_spawns_of_one_join = refl;
  two_joins = refl;
  call_beside_a_spawn = refl;
  fib = refl;
  region = refl;
  call_in_a_region = refl;
  spawn_in_a_region = refl;
  region_in_a_spawned_call = refl;
  region_behind_a_spawn = refl;
  scope_behind_a_spawn = refl;
  region_as_a_continuation = refl;
  one_turn = refl;
  two_turns = refl;
  three_turns = refl;
  two_turns_of_a_call = refl;
  two_turns_of_a_spawn = refl;
  two_loops = refl;
}
