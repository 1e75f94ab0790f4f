use Rattle.std.proofs.Common.{refl}
use Rattle.std.specs.Fmt.{digits}
use Rattle.cw_model.specs.Meaning.{call}
use Rattle.cw_model.specs.Answers.{serial_answer}
use Rattle.cw_model.proofs.examples.deep_calls.Goals as goal

pub returns : goal.returns
unfolding digits serial_answer call
returns c = record {
  too_deep = refl;
  too_deep_at_59998 = refl;
  over_at_59997 = refl;
  too_deep_at_once = refl;
  too_deep_at_once_at_9999 = refl;
  chain_too_deep = refl;
  many_signs = (refl, refl);
}
