use Rattle.std.proofs.Common.{refl}
use Rattle.std.specs.Fmt.{digits}
use Rattle.cw_model.specs.Meaning.{call}
use Rattle.cw_model.specs.Answers.{serial_answer}
use Rattle.cw_model.proofs.examples.static_sizes.Goals as goal

pub returns : goal.returns
unfolding digits serial_answer call
returns c = record {
  first = refl;
  first_calls = refl;
  fib = refl;
  loop = refl;
}
