use Rattle.cw_loops.proofs.Whole.{lowered_answers}
use Rattle.cw_loops.proofs.laws.lowered_answers_as_its_source.Goals as goal

pub returns : goal.returns
returns c = λ program can plain args limit fit count. lowered_answers program args limit can fit count plain
