use Rattle.std.proofs.Common.{refl}
use Rattle.std.specs.Fmt.{digits}
use Rattle.cw_model.specs.Meaning.{call}
use Rattle.cw_model.specs.Answers.{serial_answer}
use Rattle.cw_model.proofs.examples.limits.Goals as goal

pub returns : goal.returns
unfolding digits serial_answer call
returns c = record {
  most_brackets = refl;
  brackets = refl;
  closed_first = refl;
  longest_row = refl;
  row = refl;
  two_rows = refl;
  most_names = refl;
  names = refl;
  longest_tag = refl;
  tag = refl;
  most_loops = refl;
  loops = refl;
  loops_of_two_functions = refl;
  longest_source = refl;
  longest_name = refl;
  greatest_number = refl;
  greatest_limit = refl;
  greatest_burden = refl;
  limit_that_is_usual = refl;
  most_functions_told = refl;
  functions_told_as_usual = refl;
}
