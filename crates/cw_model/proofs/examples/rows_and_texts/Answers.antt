use Rattle.std.proofs.Common.{refl}
use Rattle.std.specs.Fmt.{digits}
use Rattle.cw_model.specs.Meaning.{call}
use Rattle.cw_model.specs.Answers.{serial_answer}
use Rattle.cw_model.proofs.examples.rows_and_texts.Goals as goal

pub returns-clause-rows : goal.returns-clause-rows
unfolding digits serial_answer call
returns-clause-rows c = record {
  nested_region = refl;
  nested_region_sites = refl;
  two_executions = refl;
  burdens_of_a_child = refl;
  burdens_of_both_edges = refl;
  return_edges_of_a_recursion = refl;
  return_edges_in_a_region = refl;
  rows_of_a_greatest = refl;
  two_tags = refl;
  two_tags_sites = refl;
  never_executed = refl;
  site_in_loop = refl;
  longer_rest = refl;
  wide_child = refl;
  wide_rest = refl;
  never_called = refl;
  tags_by_place = refl;
  tags_once = refl;
}

pub returns-clause-texts : goal.returns-clause-texts
unfolding digits serial_answer call
returns-clause-texts c = record {
  check = refl;
  run = refl;
  scale = refl;
  sites = refl;
  plain_fields = refl;
  comma = refl;
  quote = refl;
  ends_of_lines = refl;
  zeros_after_the_point = refl;
  rounded_down = refl;
  tens = refl;
  span_0 = refl;
}
