use Rattle.std.proofs.Common.{◌+◌, [], refl, sym, ap, ◌∙◌, subst, inl, inr}
use Rattle.cw_jobs.specs.declared.effect.Effect.TheVariants as effect
use Rattle.cw_machine.specs.declared.machine.Machine.{Machine}
use Rattle.cw_strand.specs.declared.strand.Mode.TheVariants as mode
use Rattle.cw_strand.specs.declared.strand.Strand.{Strand}
use Rattle.cw_strand.specs.Holds.{has_failed, stops}
use Rattle.cw_strand.specs.Moves.{MayReturnNewest, HasReturnedNewest}
use Rattle.cw_strand.proofs.Same.{newest_of, others_left}
use Rattle.cw_strand.proofs.Gave.{lost_runs, may_waits, passes_runs, mode_back}
use Rattle.cw_strand.proofs.GaveTrap.{may_trapped, trap_runs}
use Rattle.cw_strand.proofs.Losing.{failed_not_over, lacks_not, trapped_not_over, waits_not}
use Rattle.cw_strand.proofs.strand.Strand.give_trap.Goals as goal

pub return_newest-requires : goal.return_newest-requires
return_newest-requires c =
    let self = c.args.self.now in
    let given = c.requires.given in
    let newest = newest_of self given.out given.others given.are in
    subst (MayReturnNewest self c.args.back.items) (sym c.new-none.ensures.items)
    (may_waits self given.out given.others newest c.requires.running (effect.Trapped c.args.trap c.args.line c.args.lines c.args.cost c.args.back) given.means c.args.back.items [] (refl, refl) c.requires.waiting c.machines_that_stop_remain.ensures.remain)

pub returns-then-passes-clause-running : goal.returns-then-passes-clause-running
returns-then-passes-clause-running c =
    let self = c.args.self.now in
    let given = c.requires.given in
    let newest = newest_of self given.out given.others given.are in
    let popped = c.return_newest.new.self in
    let home = subst (λ r. HasReturnedNewest self c.args.back.items r popped) c.new-none.ensures.items c.return_newest.ensures in
    passes_runs self given.out given.others newest c.requires.running (effect.Trapped c.args.trap c.args.line c.args.lines c.args.cost c.args.back) given.means c.args.back.items [] (refl, refl) c.requires.waiting c.machines_that_stop_remain.ensures.remain c.calls_preserve_strand_job.ensures
    (record popped { mode = mode.Over }) (mode_back self c.args.back.items [] popped home) refl c.args.cost refl (sym c.passes.ensures ∙ c.if-passes.true)

pub returns-then-passes-clause-outs : goal.returns-then-passes-clause-outs
returns-then-passes-clause-outs c = λ out others e. others_left c.args.self.now c.return_newest.new.self out others e (λ x xs. c.return_newest.ensures.left x xs)

pub return_newest-requires-in-Ok : goal.return_newest-requires-in-Ok
return_newest-requires-in-Ok c =
    let self = c.args.self.now in
    let given = c.requires.given in
    let newest = newest_of self given.out given.others given.are in
    let mid : Strand = record self { run = record self.run { machine = c.take_printed.new.machine } } in
    subst (MayReturnNewest mid c.args.back.items) (sym c.new-none.ensures.items)
    (may_trapped self given.out given.others newest c.requires.running c.requires.waiting c.machines_that_stop_remain.ensures.remain (effect.Trapped c.args.trap c.args.line c.args.lines c.args.cost c.args.back) given.means
    c.args.trap c.args.line c.args.lines.items c.args.cost c.args.back.items (refl, refl, refl, refl, refl) mid
    (ap (λ (m : Machine). record self { run = record self.run { machine = m } }) c.in-Ok.ensures.rest) c.in-Ok.ensures.lines_are)

pub returns-in-Ok-clause-running : goal.returns-in-Ok-clause-running
returns-in-Ok-clause-running c =
    let self = c.args.self.now in
    let given = c.requires.given in
    let newest = newest_of self given.out given.others given.are in
    let mid : Strand = record self { run = record self.run { machine = c.take_printed.new.machine } } in
    let popped = c.return_newest-in-Ok.new.self in
    let home = subst (λ r. HasReturnedNewest mid c.args.back.items r popped) c.new-none.ensures.items c.return_newest-in-Ok.ensures in
    trap_runs self given.out given.others newest c.requires.running c.requires.waiting c.machines_that_stop_remain.ensures.remain (effect.Trapped c.args.trap c.args.line c.args.lines c.args.cost c.args.back) given.means
    c.args.trap c.args.line c.args.lines.items c.args.cost c.args.back.items (refl, refl, refl, refl, refl) mid
    (ap (λ (m : Machine). record self { run = record self.run { machine = m } }) c.in-Ok.ensures.rest) c.in-Ok.ensures.lines_are
    c.calls_preserve_strand_job.ensures (record popped { count = popped.count + c.args.cost; mode = mode.Trapped c.args.trap c.args.line }) popped home (sym c.passes.ensures ∙ c.if-passes.false)
    (ap (λ n. record popped { count = n + c.args.cost; mode = mode.Trapped c.args.trap c.args.line }) home.count)

pub returns-in-Ok-clause-outs : goal.returns-in-Ok-clause-outs
returns-in-Ok-clause-outs c = λ out others e. others_left c.args.self.now c.return_newest-in-Ok.new.self out others e (λ x xs. c.return_newest-in-Ok.ensures.left x xs)

pub returns-clause-running : goal.returns-clause-running
returns-clause-running c =
    let self = c.args.self.now in
    let given = c.requires.given in
    let newest = newest_of self given.out given.others given.are in
    let lost = c.lose.ensures in
    lost_runs self given.out given.others newest c.requires.running c.calls_preserve_strand_job.ensures c.lose.new.self
    (record { of = lost.of; parts = lost.parts; count = lost.count; spares = lost.spares; mode = lost.mode; left = lost.left })

pub returns-clause-outs : goal.returns-clause-outs
returns-clause-outs c = λ out others e. others_left c.args.self.now c.lose.new.self out others e (λ x xs. c.lose.ensures.left x xs)

pub returns-then-passes-clause-lacks : goal.returns-then-passes-clause-lacks
returns-then-passes-clause-lacks c = λ l. absurd (lacks_not mode.Over refl refl l)

pub returns-then-passes-clause-back : goal.returns-then-passes-clause-back
returns-then-passes-clause-back c = λ w. waits_not mode.Over refl w

pub returns-in-Ok-clause-lacks : goal.returns-in-Ok-clause-lacks
returns-in-Ok-clause-lacks c = λ _. sym c.passes.ensures ∙ c.if-passes.false

pub returns-in-Ok-clause-back : goal.returns-in-Ok-clause-back
returns-in-Ok-clause-back c = λ w. waits_not (mode.Trapped c.args.trap c.args.line) refl w

pub returns-clause-lacks : goal.returns-clause-lacks
returns-clause-lacks c = λ _. sym c.passes.ensures ∙ c.if-passes.false

pub returns-clause-back : goal.returns-clause-back
returns-clause-back c = λ w. waits_not c.lose.new.self.mode (ap stops c.lose.ensures.mode) w

pub returns-then-passes-clause-counts : goal.returns-then-passes-clause-counts
returns-then-passes-clause-counts c = inl c.return_newest.ensures.count

pub returns-in-Ok-clause-counts : goal.returns-in-Ok-clause-counts
returns-in-Ok-clause-counts c = inr ((c.requires.waiting, sym c.passes.ensures ∙ c.if-passes.false), ap (λ n. n + c.args.cost) c.return_newest-in-Ok.ensures.count)

pub returns-clause-counts : goal.returns-clause-counts
returns-clause-counts c = inl c.lose.ensures.count

pub returns-then-passes-clause-over : goal.returns-then-passes-clause-over
returns-then-passes-clause-over c = λ _. sym c.passes.ensures ∙ c.if-passes.true

pub returns-in-Ok-clause-over : goal.returns-in-Ok-clause-over
returns-in-Ok-clause-over c = λ over. absurd (trapped_not_over (mode.Trapped c.args.trap c.args.line) c.args.trap c.args.line refl over)

pub returns-clause-over : goal.returns-clause-over
returns-clause-over c = λ over. absurd (failed_not_over c.lose.new.self.mode (ap has_failed c.lose.ensures.mode) over)
