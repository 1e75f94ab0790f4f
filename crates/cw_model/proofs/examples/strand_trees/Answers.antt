use Rattle.std.proofs.Common.{refl}
use Rattle.std.specs.Fmt.{digits}
use Rattle.cw_model.specs.Meaning.{call}
use Rattle.cw_model.specs.Answers.{serial_answer}
use Rattle.cw_model.proofs.examples.strand_trees.Goals as goal

pub returns : goal.returns
unfolding digits serial_answer call
returns c = record {
  prints = (_, _, _, refl);
  call_between = refl;
  two_sync_blocks = refl;
}
