use Rattle.cw_greedy_schedule.proofs.Within.{within}
use Rattle.cw_greedy_schedule.proofs.laws.work_is_within_its_limit.Goals as goal

pub returns : goal.returns
returns c = λ code args n tree ends.
    within code c.cost_is_the_work_of_the_effect.ensures c.normal_form_reads_the_same.ensures args n tree ends
