use Rattle.cw_code.proofs.Schedules.{roots_are_serial}
use Rattle.cw_code.proofs.crew_laws.the_root_answers_what_the_code_gives.Goals as goal

pub returns : goal.returns
returns c = roots_are_serial
