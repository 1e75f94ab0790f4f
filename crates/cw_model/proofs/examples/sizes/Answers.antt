use Rattle.std.proofs.Common.{refl}
use Rattle.std.specs.Fmt.{digits}
use Rattle.cw_model.specs.Meaning.{call}
use Rattle.cw_model.specs.Answers.{serial_answer}
use Rattle.cw_model.proofs.examples.sizes.Goals as goal

pub returns-clause-tokens : goal.returns-clause-tokens
unfolding digits serial_answer call
returns-clause-tokens c = record {
  braces_open = refl;
  brackets_open = refl;
  parenthesis_closes = refl;
  bracket_closes = refl;
  brace_closes = refl;
  other_tokens_close_nothing = refl;
  opening_brace_ends_a_row = refl;
  closing_brace_ends_a_row = refl;
  comma_ends_no_row = refl;
}

pub returns-clause-declarations : goal.returns-clause-declarations
unfolding digits serial_answer call
returns-clause-declarations c = record {
  integers = refl;
  arrays = refl;
  no_other_statement_declares = refl;
  loops = refl;
  regions = refl;
  call_statements = refl;
  captured_names = refl;
  captured_once = refl;
  most_parameters = refl;
  parameters = refl;
  names_with_parameters = refl;
  most_names_with_parameters = refl;
  most_functions = refl;
  functions = refl;
  most_reducers = refl;
  reducers = refl;
  most_tags = refl;
  tags = refl;
  tags_of_two_functions = refl;
  first_tag_again = refl;
  tags_again = refl;
}

pub returns-clause-instructions : goal.returns-clause-instructions
unfolding digits serial_answer call
returns-clause-instructions c = record {
  print = refl;
  declaration = refl;
  new_array = refl;
  assignment = refl;
  addition = refl;
  operator = refl;
  element = refl;
  element_written = refl;
  sync = refl;
  result = refl;
  no_result = refl;
  scope = refl;
  region = refl;
  cut = refl;
  if = refl;
  if_else = refl;
  while = refl;
  call_of_an_integer = refl;
  call_of_an_array_and_an_integer = refl;
  loop = refl;
  loop_over_two = refl;
  loop_of_two_captured = refl;
  shifted_print = refl;
  shifted_declaration = refl;
  shifted_new_array = refl;
  shifted_assignment = refl;
  shifted_addition = refl;
  shifted_operands = refl;
  shifted_index = refl;
  shifted_target = refl;
  shifted_sides = refl;
  shifted_result = refl;
  shifted_argument = refl;
  shifted_tests = refl;
  shifted_cut = refl;
  shifted_in_each_block = refl;
  lowered_loop = refl;
  lowered_call = refl;
  void_function = refl;
  int_function = refl;
  most_instructions = refl;
  instructions = refl;
  most_call_statements = refl;
  call_statements_past_the_limit = refl;
}
