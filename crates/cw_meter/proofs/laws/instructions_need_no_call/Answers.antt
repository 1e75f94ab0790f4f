use Rattle.cw_meter.proofs.DetailLaws.{instructions_need_no_call}
use Rattle.cw_meter.proofs.laws.instructions_need_no_call.Goals as goal

pub returns : goal.returns
returns c = instructions_need_no_call c.instructions_need_no_call.ensures
