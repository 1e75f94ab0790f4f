use Rattle.std.proofs.Common.{◌≡◌, refl, ◌∙◌, arith}
use Rattle.cw_strand.specs.declared.strand.Advance.TheVariants as advance
use Rattle.cw_strand.specs.declared.strand.Mode.TheVariants as mode
use Rattle.cw_strand.proofs.Advanced.{counts_over, kept_over, leaves_from}
use Rattle.cw_strand.proofs.Halts.{over_runs}
use Rattle.cw_strand.proofs.Losing.{over_not_up}
use Rattle.cw_strand.proofs.strand.Strand.step.Goals as goal

pub pause-requires-clause-running : goal.pause-requires-clause-running
pause-requires-clause-running c =
    let self = c.args.self.now in
    let full = c.if-self-end.false in
    let above = c.end_of_job-end.ensures.above in
    let same : self.count ≡ c.end_of_job-end.result = omega (arith, full, above) in
    over_runs c.calls_preserve_strand_job.ensures self self.count c.machines_that_stop_remain.ensures.remain (same ∙ c.end_of_job-end.ensures.end) c.requires.before

pub returns-clause-advances : goal.returns-clause-advances
returns-clause-advances c =
    let self = c.args.self.now in
    let full = c.if-self-end.false in
    let above = c.end_of_job-end.ensures.above in
    let same : self.count ≡ c.end_of_job-end.result = omega (arith, full, above) in
    (kept_over c.pause.result self c.pause.new.self c.pause.ensures.keeps, counts_over c.pause.result self c.pause.new.self (c.requires.before.going, same ∙ c.end_of_job-end.ensures.end) c.pause.ensures.counts)

pub returns-clause-leaves : goal.returns-clause-leaves
returns-clause-leaves c =
    let self = c.args.self.now in
    leaves_from (advance.Came c.pause.result) self (record self { mode = mode.Over }) c.pause.new.self c.requires.before.going over_not_up c.pause.ensures.leaves

pub returns-clause-does : goal.returns-clause-does
returns-clause-does c = λ lt.
    let full = c.if-self-end.false in
    let end = c.end_of_job-end.ensures.end in
    absurd (omega (arith, full, end, lt))
