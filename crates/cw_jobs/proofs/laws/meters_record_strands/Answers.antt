use Rattle.cw_jobs.proofs.Strands.{meters_tell}
use Rattle.cw_jobs.proofs.laws.meters_record_strands.Goals as goal

pub returns : goal.returns
returns c = meters_tell c.instructions_need_no_call.ensures c.calls_preserve_strand_job.ensures
