use Rattle.std.proofs.Common.{◌≡◌, ◌+◌, refl, sym, ap, ◌∙◌, subst, inl, inr}
use Rattle.cw_jobs.specs.declared.effect.Effect.TheVariants as effect
use Rattle.cw_jobs.specs.Jobs.{code_of}
use Rattle.cw_strand.specs.declared.strand.Mode.TheVariants as mode
use Rattle.cw_strand.specs.Holds.{its_code}
use Rattle.cw_strand.specs.Moves.{home_of}
use Rattle.cw_strand.specs.Giving.{HasJoined, MayJoin}
use Rattle.cw_strand.proofs.Same.{newest_of, others_left, pops}
use Rattle.cw_strand.proofs.Gave.{lost_runs, may_waits, passes_runs, mode_back}
use Rattle.cw_strand.proofs.GaveJoin.{may_join, join_runs}
use Rattle.cw_strand.proofs.Losing.{failed_not_over, going_not_over, lacks_not, waits_not, goes_not_waits}
use Rattle.cw_strand.proofs.strand.Strand.give_joined.Goals as goal

pub return_newest-requires : goal.return_newest-requires
return_newest-requires c =
    let self = c.args.self.now in
    let given = c.requires.given in
    let newest = newest_of self given.out given.others given.are in
    may_waits self given.out given.others newest c.requires.running (effect.Joined c.args.frame c.args.replaced c.args.shown) given.means c.args.frame.slices.items c.args.replaced.items (refl, refl) c.requires.waiting c.machines_that_stop_remain.ensures.remain

pub returns-then-passes-clause-running : goal.returns-then-passes-clause-running
returns-then-passes-clause-running c =
    let self = c.args.self.now in
    let given = c.requires.given in
    let newest = newest_of self given.out given.others given.are in
    let popped = c.return_newest.new.self in
    passes_runs self given.out given.others newest c.requires.running (effect.Joined c.args.frame c.args.replaced c.args.shown) given.means c.args.frame.slices.items c.args.replaced.items (refl, refl) c.requires.waiting c.machines_that_stop_remain.ensures.remain c.calls_preserve_strand_job.ensures
    (record popped { mode = mode.Over }) (mode_back self c.args.frame.slices.items c.args.replaced.items popped c.return_newest.ensures) refl c.args.shown.cost refl (sym c.passes.ensures ∙ c.if-passes.true)

pub returns-then-passes-clause-outs : goal.returns-then-passes-clause-outs
returns-then-passes-clause-outs c = λ out others e. others_left c.args.self.now c.return_newest.new.self out others e (λ x xs. c.return_newest.ensures.left x xs)

pub join_rest-requires : goal.join_rest-requires
join_rest-requires c =
    let self = c.args.self.now in
    let given = c.requires.given in
    let newest = newest_of self given.out given.others given.are in
    let popped = pops self.lent.items c.pop.new.self.items self.lent.len c.pop.new.self.len c.pop.result newest.lent newest.rest self.lent.ok.0 c.pop.ensures.items c.pop.ensures.cases newest.are in
    let code : c.deref-2.result.now ≡ its_code self = c.deref-2.ensures ∙ ap (λ q. code_of q) c.deref.ensures ∙ c.requires.running.keeps.code in
    subst (λ v. ∥ MayJoin self.run.machine v c.args.frame c.args.replaced.items c.home_of-home.result ∥₁) (sym code)
    (subst (λ h. ∥ MayJoin self.run.machine (its_code self) c.args.frame c.args.replaced.items h ∥₁) (sym (c.home_of-home.ensures ∙ ap home_of popped.result))
    (may_join self given.out given.others newest c.requires.running c.requires.waiting c.rests_stay_in_their_functions.ensures c.runs_stay_in_their_functions.ensures.seats c.results_may_go_back.ensures
    (effect.Joined c.args.frame c.args.replaced c.args.shown) given.means c.args.frame c.args.replaced.items c.args.shown (refl, refl, refl)))

pub returns-in-Ok-clause-running : goal.returns-in-Ok-clause-running
returns-in-Ok-clause-running c =
    let self = c.args.self.now in
    let given = c.requires.given in
    let newest = newest_of self given.out given.others given.are in
    let popped = pops self.lent.items c.pop.new.self.items self.lent.len c.pop.new.self.len c.pop.result newest.lent newest.rest self.lent.ok.0 c.pop.ensures.items c.pop.ensures.cases newest.are in
    let r = c.join_rest.new.run in
    let code : c.deref-2.result.now ≡ its_code self = c.deref-2.ensures ∙ ap (λ q. code_of q) c.deref.ensures ∙ c.requires.running.keeps.code in
    join_runs self given.out given.others newest c.requires.running c.requires.waiting c.rests_stay_in_their_functions.ensures c.runs_stay_in_their_functions.ensures.seats c.results_may_go_back.ensures
    (effect.Joined c.args.frame c.args.replaced c.args.shown) given.means c.args.frame c.args.replaced.items c.args.shown (refl, refl, refl)
    c.calls_preserve_strand_job.ensures c.calls_keep_meter_records.ensures r
    (subst (λ h. HasJoined self.run (its_code self) self.count c.args.frame c.args.replaced.items h c.args.shown r) (c.home_of-home.ensures ∙ ap home_of popped.result)
    (subst (λ v. HasJoined self.run v self.count c.args.frame c.args.replaced.items c.home_of-home.result c.args.shown r) code c.in-Ok.ensures))
    (sym c.passes.ensures ∙ c.if-passes.false)
    (record self { run = r; count = self.count + c.args.shown.cost; lent = c.pop.new.self; mode = mode.Going }) popped.left refl refl refl refl refl refl

pub returns-clause-running : goal.returns-clause-running
returns-clause-running c =
    let self = c.args.self.now in
    let given = c.requires.given in
    let newest = newest_of self given.out given.others given.are in
    lost_runs self given.out given.others newest c.requires.running c.calls_preserve_strand_job.ensures (record self { run = c.join_rest.new.run; lent = c.pop.new.self; mode = mode.Memory }) (record {
      of = refl;
      parts = refl;
      count = refl;
      spares = refl;
      mode = refl;
      left = λ x xs are. (pops self.lent.items c.pop.new.self.items self.lent.len c.pop.new.self.len c.pop.result x xs self.lent.ok.0 c.pop.ensures.items c.pop.ensures.cases are).left;
    })

pub returns-then-passes-clause-lacks : goal.returns-then-passes-clause-lacks
returns-then-passes-clause-lacks c = λ l. absurd (lacks_not mode.Over refl refl l)

pub returns-then-passes-clause-back : goal.returns-then-passes-clause-back
returns-then-passes-clause-back c = λ w. waits_not mode.Over refl w

pub returns-in-Ok-clause-lacks : goal.returns-in-Ok-clause-lacks
returns-in-Ok-clause-lacks c = λ _. sym c.passes.ensures ∙ c.if-passes.false

pub returns-in-Ok-clause-back : goal.returns-in-Ok-clause-back
returns-in-Ok-clause-back c = λ w. goes_not_waits w

pub returns-clause-lacks : goal.returns-clause-lacks
returns-clause-lacks c = λ _. sym c.passes.ensures ∙ c.if-passes.false

pub returns-clause-back : goal.returns-clause-back
returns-clause-back c = λ w. waits_not mode.Memory refl w

pub returns-then-passes-clause-counts : goal.returns-then-passes-clause-counts
returns-then-passes-clause-counts c = inl c.return_newest.ensures.count

pub returns-in-Ok-clause-counts : goal.returns-in-Ok-clause-counts
returns-in-Ok-clause-counts c = inr ((c.requires.waiting, sym c.passes.ensures ∙ c.if-passes.false), refl)

pub returns-clause-counts : goal.returns-clause-counts
returns-clause-counts c = inl refl

pub returns-then-passes-clause-over : goal.returns-then-passes-clause-over
returns-then-passes-clause-over c = λ _. sym c.passes.ensures ∙ c.if-passes.true

pub returns-in-Ok-clause-over : goal.returns-in-Ok-clause-over
returns-in-Ok-clause-over c = λ over. absurd (going_not_over mode.Going refl over)

pub returns-clause-over : goal.returns-clause-over
returns-clause-over c = λ over. absurd (failed_not_over mode.Memory refl over)
