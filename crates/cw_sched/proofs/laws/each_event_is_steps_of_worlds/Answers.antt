use Rattle.cw_sched.proofs.core.Events.{events_are_steps}
use Rattle.cw_sched.proofs.laws.each_event_is_steps_of_worlds.Goals as goal

pub returns : goal.returns
returns c = events_are_steps
