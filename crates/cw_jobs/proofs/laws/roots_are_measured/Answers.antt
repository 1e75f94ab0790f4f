use Rattle.cw_jobs.proofs.Strands.{roots_measured}
use Rattle.cw_jobs.proofs.laws.roots_are_measured.Goals as goal

pub returns : goal.returns
returns c = roots_measured c.instructions_need_no_call.ensures c.calls_preserve_strand_job.ensures c.the_root_answers_what_the_code_gives.ensures
