use Rattle.std.proofs.Common.{refl, ap, ◌∙◌}
use Rattle.cw_machine.specs.declared.run.Stop.TheVariants as stop
use Rattle.cw_strand.proofs.Cutting.{cut_sound}
use Rattle.cw_strand.proofs.Halts.{spared_runs}
use Rattle.cw_strand.proofs.HandedOn.{lent_step}
use Rattle.cw_strand.specs.Holds.{has_failed}
use Rattle.cw_strand.proofs.Losing.{failed_not_over, going_not_over, memory_not_up}
use Rattle.cw_strand.proofs.strand.Strand.lend.Goals as goal

pub invariant_of-job : goal.invariant_of-job
invariant_of-job c = record {
  sound = cut_sound c.calls_preserve_strand_job.ensures c.machines_that_stop_remain.ensures.apart c.args.self.now c.cut_out.new.self c.args.end c.args.spawn c.in-Ok.parts.value c.in-Ok.lender c.requires.comes c.in-Ok.ensures.cut;
}

pub rest-requires-clause-running : goal.rest-requires-clause-running
rest-requires-clause-running c = spared_runs c.calls_preserve_strand_job.ensures c.args.self.now c.cut_out.new.self c.args.end (stop.Spawned c.args.spawn) c.requires.comes c.in-Err.ensures.kept

pub returns-in-Ok-clause-keeps : goal.returns-in-Ok-clause-keeps
returns-in-Ok-clause-keeps c =
    lent_step c.calls_preserve_strand_job.ensures c.machines_that_stop_remain.ensures.apart c.args.self.now c.cut_out.new.self _ c.args.end c.args.spawn _ c.in-Ok.lender
    (record { job = c.of.result; home = record { lender = c.in-Ok.lender; lent = c.args.spawn.lent; target = c.args.spawn.target; floor = c.calls-floor.result } }) c.requires.comes c.in-Ok.ensures.cut c.of.ensures refl refl refl c.calls-floor.ensures refl refl refl refl refl refl c.push_reserved.ensures.items

pub returns-in-Ok-clause-goes : goal.returns-in-Ok-clause-goes
returns-in-Ok-clause-goes c = c.in-Ok.ensures.cut.mode ∙ c.requires.comes.going

pub returns-in-Ok-clause-counts : goal.returns-in-Ok-clause-counts
returns-in-Ok-clause-counts c = c.in-Ok.ensures.cut.count

pub returns-in-Err-clause-counts : goal.returns-in-Err-clause-counts
returns-in-Err-clause-counts c = c.rest.ensures.counts ∙ c.in-Err.ensures.kept.count

pub returns-in-Err-clause-goes : goal.returns-in-Err-clause-goes
returns-in-Err-clause-goes c = c.rest.ensures.goes memory_not_up

pub returns-in-Ok-clause-over : goal.returns-in-Ok-clause-over
returns-in-Ok-clause-over c = going_not_over c.cut_out.new.self.mode (c.in-Ok.ensures.cut.mode ∙ c.requires.comes.going)

pub returns-in-Err-clause-over : goal.returns-in-Err-clause-over
returns-in-Err-clause-over c = failed_not_over c.rest.new.self.mode (ap has_failed c.rest.ensures.mode)
