use Rattle.cw_sched.proofs.core.Outcomes.{outcomes_are_serial}
use Rattle.cw_sched.proofs.laws.every_outcome_is_serial.Goals as goal

pub returns : goal.returns
returns c = outcomes_are_serial c.every_world_answers_what_the_code_gives.ensures
