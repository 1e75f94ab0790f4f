use Rattle.cw_code.proofs.AmpleMemory.{memory_was_wanting}
use Rattle.cw_code.proofs.crew_laws.memory_is_answered_only_if_it_ran_out.Goals as goal

pub returns : goal.returns
returns c = memory_was_wanting
