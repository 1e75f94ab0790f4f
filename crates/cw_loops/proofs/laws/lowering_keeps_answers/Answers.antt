use Rattle.cw_loops.proofs.Whole.{lowered_answers, lowered_size}
use Rattle.cw_loops.proofs.Accepting.{owned_can, main_plain}
use Rattle.cw_loops.proofs.Deriving.{derived_like}
use Rattle.cw_loops.proofs.laws.lowering_keeps_answers.Goals as goal

pub returns : goal.returns
returns c = record {
  answers = λ program o args limit fit count.
      lowered_answers program args limit (owned_can program o.typed o.owned o.source_like) fit count (main_plain program o.typed);
  derived = λ text ts program cut derived typed owned args limit fit count.
      lowered_answers program args limit (owned_can program typed owned (derived_like text ts program cut derived)) fit count (main_plain program typed);
  size = λ program o. lowered_size program (owned_can program o.typed o.owned o.source_like);
}
