use Rattle.cw_jobs.proofs.Strands.{calls_keep_meters}
use Rattle.cw_jobs.proofs.laws.calls_keep_meter_records.Goals as goal

pub returns : goal.returns
returns c = calls_keep_meters c.instructions_need_no_call.ensures c.calls_preserve_strand_job.ensures
