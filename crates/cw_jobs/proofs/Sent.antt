-- Jobs and effects may go to another thread.
use denote.Param.Send.{IsSend, sendable}
use Rattle.std.proofs.Crossing.{crosses}
use Rattle.cw_slices.specs.lemmas.Sent.{slice_send}
use Rattle.cw_runnable.specs.lemmas.Sent.{verified_send, verified_sync}
use Rattle.cw_jobs.specs.contracts.call.Parts as parts
use Rattle.cw_jobs.specs.contracts.effect.Effect as effect
use Rattle.cw_jobs.specs.contracts.job.Job as job

pub effect_send : IsSend effect.the_row
effect_send = search (sendable, crosses, slice_send) depth 90 fits 60000

pub parts_send : IsSend parts.the_row
parts_send = search (sendable, crosses, slice_send, verified_send, verified_sync) depth 120 fits 60000

pub job_send : IsSend job.the_row
job_send = search (sendable, crosses, slice_send, verified_send, verified_sync) depth 120 fits 60000
