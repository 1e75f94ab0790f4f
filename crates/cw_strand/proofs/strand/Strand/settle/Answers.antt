use Rattle.std.proofs.Common.{◌≡◌, ◌∙◌, refl, sym, ap, subst, arith}
use Rattle.cw_strand.specs.declared.strand.Mode.TheVariants as mode
use Rattle.cw_strand.specs.Holds.{has_failed}
use Rattle.cw_strand.specs.Moves.{HasCome, IsStill}
use Rattle.cw_strand.proofs.Advanced.{stops_moving, stops_not, stops_over}
use Rattle.cw_strand.proofs.Halts.{trapped_runs, over_runs, lost_runs, back_runs}
use Rattle.cw_strand.proofs.RunsOn.{back_some, waits_at}
use Rattle.cw_strand.proofs.Losing.{failed_not_over, trapped_not_over, waiting_not_over, going_not_up, waiting_not_up, trapped_not_up, over_not_up, memory_not_up}
use Rattle.cw_strand.proofs.strand.Strand.settle.Goals as goal

pub rest-requires-clause-running : goal.rest-requires-clause-running
rest-requires-clause-running c =
    trapped_runs c.calls_preserve_strand_job.ensures c.args.self.now c.args.to c.in-Trapped.trap c.in-Trapped.line
    (subst (HasCome c.args.self.now c.args.to) c.in-Trapped.is c.requires.comes)

pub rest-requires-in-Over-clause-running : goal.rest-requires-in-Over-clause-running
rest-requires-in-Over-clause-running c =
    let full = c.goes_beyond.ensures.no c.if-goes_beyond.false in
    let within = c.requires.within in
    let same : c.args.to ≡ c.args.end = omega (arith, full, within) in
    over_runs c.calls_preserve_strand_job.ensures c.args.self.now c.args.to c.machines_that_stop_remain.ensures.remain (same ∙ c.requires.end)
    (subst (HasCome c.args.self.now c.args.to) c.in-Over.is c.requires.comes)

pub returns-then-goes_beyond-clause-goes : goal.returns-then-goes_beyond-clause-goes
returns-then-goes_beyond-clause-goes c = c.requires.comes.going

pub rest-requires-in-NoMemory-clause-running : goal.rest-requires-in-NoMemory-clause-running
rest-requires-in-NoMemory-clause-running c =
    lost_runs c.calls_preserve_strand_job.ensures c.args.self.now c.args.to c.args.stop c.requires.comes

pub returns-in-CameBack-clause-keeps : goal.returns-in-CameBack-clause-keeps
returns-in-CameBack-clause-keeps c =
    let self = c.args.self.now in
    let comes = subst (HasCome self c.args.to) c.in-CameBack.is c.requires.comes in
    let keep = c.calls_preserve_strand_job.ensures in (
      back_runs keep self c.args.to comes,
      refl,
      back_some keep self c.args.to comes,
      waits_at (record self { mode = mode.Waiting }) refl,
    )

pub returns-in-CameBack-clause-goes : goal.returns-in-CameBack-clause-goes
returns-in-CameBack-clause-goes c = waiting_not_up

pub returns-in-Joined-clause-goes : goal.returns-in-Joined-clause-goes
returns-in-Joined-clause-goes c = going_not_up c.args.self.now.mode c.requires.comes.going

pub returns-in-Gave-clause-goes : goal.returns-in-Gave-clause-goes
returns-in-Gave-clause-goes c = going_not_up c.args.self.now.mode c.requires.comes.going

pub returns-in-Trapped-clause-goes : goal.returns-in-Trapped-clause-goes
returns-in-Trapped-clause-goes c = c.rest.ensures.goes (trapped_not_up c.in-Trapped.trap c.in-Trapped.line)

pub returns-else-goes_beyond-clause-goes : goal.returns-else-goes_beyond-clause-goes
returns-else-goes_beyond-clause-goes c = c.rest-in-Over.ensures.goes over_not_up

pub returns-in-NoMemory-clause-goes : goal.returns-in-NoMemory-clause-goes
returns-in-NoMemory-clause-goes c = c.rest-in-NoMemory.ensures.goes memory_not_up

pub returns-in-Spawned-clause-halts : goal.returns-in-Spawned-clause-halts
returns-in-Spawned-clause-halts c =
    stops_moving c.args.stop c.args.to c.args.end c.lend.new.self (subst (λ s. IsStill s → ⊥) (sym c.in-Spawned.is) (λ x. x)) c.lend.ensures.over

pub returns-in-CameBack-clause-halts : goal.returns-in-CameBack-clause-halts
returns-in-CameBack-clause-halts c =
    stops_moving c.args.stop c.args.to c.args.end (record c.args.self.now { mode = mode.Waiting }) (subst (λ s. IsStill s → ⊥) (sym c.in-CameBack.is) (λ x. x)) waiting_not_over

pub returns-in-Joined-clause-halts : goal.returns-in-Joined-clause-halts
returns-in-Joined-clause-halts c = stops_not c.args.stop c.args.to c.args.end c.args.self.now c.requires.comes.going

pub returns-in-Gave-clause-halts : goal.returns-in-Gave-clause-halts
returns-in-Gave-clause-halts c = stops_not c.args.stop c.args.to c.args.end c.args.self.now c.requires.comes.going

pub returns-in-Trapped-clause-halts : goal.returns-in-Trapped-clause-halts
returns-in-Trapped-clause-halts c =
    stops_moving c.args.stop c.args.to c.args.end c.rest.new.self (subst (λ s. IsStill s → ⊥) (sym c.in-Trapped.is) (λ x. x))
    (trapped_not_over c.rest.new.self.mode c.in-Trapped.trap c.in-Trapped.line c.rest.ensures.mode)

pub returns-then-goes_beyond-clause-halts : goal.returns-then-goes_beyond-clause-halts
returns-then-goes_beyond-clause-halts c = stops_not c.args.stop c.args.to c.args.end c.args.self.now c.requires.comes.going

pub returns-else-goes_beyond-clause-halts : goal.returns-else-goes_beyond-clause-halts
returns-else-goes_beyond-clause-halts c =
    let full = c.goes_beyond.ensures.no c.if-goes_beyond.false in
    let within = c.requires.within in
    stops_over c.args.stop c.args.to c.args.end c.rest-in-Over.new.self c.rest-in-Over.ensures.mode c.in-Over.is (omega (arith, full, within))

pub returns-in-NoMemory-clause-halts : goal.returns-in-NoMemory-clause-halts
returns-in-NoMemory-clause-halts c =
    stops_moving c.args.stop c.args.to c.args.end c.rest-in-NoMemory.new.self (subst (λ s. IsStill s → ⊥) (sym c.in-NoMemory.is) (λ x. x))
    (failed_not_over c.rest-in-NoMemory.new.self.mode (ap has_failed c.rest-in-NoMemory.ensures.mode))
