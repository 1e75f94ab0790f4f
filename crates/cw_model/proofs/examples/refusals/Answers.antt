use Rattle.std.proofs.Common.{refl}
use Rattle.std.specs.Fmt.{digits}
use Rattle.cw_model.specs.Meaning.{call}
use Rattle.cw_model.specs.Answers.{serial_answer}
use Rattle.cw_model.proofs.examples.refusals.Goals as goal

pub returns : goal.returns
unfolding digits serial_answer call
returns c = record {
  first = (refl, refl, refl, refl, refl);
  echo = (refl, refl, refl, refl, refl);
  fib = (refl, refl, refl, refl, refl);
  division = (refl, refl, refl, refl, refl);
  division_beside_forever = (refl, refl, refl, refl, refl);
  prints = (refl, refl, refl, refl, refl);
  sum = (refl, refl, refl, refl, refl);
  large_sum = (refl, refl, refl, refl, refl);
  late_print = (refl, refl, refl, refl, refl);
  cut = (refl, refl, refl, refl, refl);
  empty_cut = (refl, refl, refl, refl, refl);
  deep = (refl, refl, refl, refl, refl);
  squares_printed = (refl, refl, refl, refl, refl);
  squares = (refl, refl, refl, refl, refl);
  region = (refl, refl, refl, refl, refl);
  overflow = (refl, refl, refl, refl, refl);
  idle = (refl, refl, refl, refl, refl);
  fill = (refl, refl, refl, refl, refl);
  length = (refl, refl, refl, refl, refl);
  tie = (refl, refl, refl, refl, refl);
  spawn_chain = (refl, refl, refl, refl, refl);
  signs = (refl, refl, refl, refl, refl);
  sync_in_while = (refl, refl, refl, refl, refl);
  spawn_in_scope = (refl, refl, refl, refl, refl);
  spawn_in_if = (refl, refl, refl);
  unknown_callee = (refl, refl);
  early_read = (refl, refl, refl);
  early_print = (refl, refl, refl);
  outer_assigned = (refl, refl, refl);
  spawn_in_while = (refl, refl, refl);
  spawn_of_another_in_while = (refl, refl, refl);
  same_array_twice = (refl, refl, refl);
  sync_in_cut = (refl, refl, refl);
  least_line = refl;
  no_line = refl;
}
