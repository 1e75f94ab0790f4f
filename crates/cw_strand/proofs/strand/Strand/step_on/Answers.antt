use Rattle.std.proofs.Common.{◌≡◌, true, ◌+◌, ◌∷◌, sym, ap, subst, ◌∙◌, arith}
use Rattle.std.specs.Prelude.{◌-◌, ◌<◌, map, reverse}
use Rattle.cw_machine.specs.declared.run.Stop.TheVariants as stop
use Rattle.cw_strand.specs.Holds.{outs}
use Rattle.cw_strand.specs.Moves.{ComesOr, HasCome}
use Rattle.cw_strand.proofs.Losing.{going_not_over}
use Rattle.cw_strand.proofs.RunsOn.{over_goes}
use Rattle.cw_strand.proofs.Advanced.{over_count, came_on, one_done, reached}
use Rattle.cw_strand.proofs.strand.Strand.step_on.Goals as goal

pub settle-requires : goal.settle-requires
settle-requires c =
    let mid = c.run_on-stop.new.self in record {
      comes = c.run_on-stop.ensures.comes;
      within = (let below = c.requires.below in omega (arith, below));
      end = c.requires.end ∙ ap (λ o. (o.value.parts.value).limit - (o.value.parts.value).before) (sym c.run_on-stop.ensures.same.0);
    }

pub returns-in-Over-clause-advances : goal.returns-in-Over-clause-advances
returns-in-Over-clause-advances c =
    let self = c.args.self.now in
    let mid = c.run_on-stop.new.self in
    let comes = subst (HasCome mid (self.count + 1)) c.in-Over.is c.run_on-stop.ensures.comes in (
      over_goes mid (self.count + 1) comes,
      ap (λ v. map (λ l. l.job.value) (reverse v.items)) c.run_on-stop.ensures.same.1,
      over_count mid (self.count + 1) comes,
      going_not_over mid.mode comes.going,
    )

pub returns-in-Over-clause-leaves : goal.returns-in-Over-clause-leaves
returns-in-Over-clause-leaves c = c.requires.before.going

pub returns-in-Spawned-clause-advances : goal.returns-in-Spawned-clause-advances
returns-in-Spawned-clause-advances c =
    let self = c.args.self.now in
    let mid = c.run_on-stop.new.self in
    let same : outs mid ≡ outs self = ap (λ v. map (λ l. l.job.value) (reverse v.items)) c.run_on-stop.ensures.same.1 in
    let one = one_done self mid true c.run_on-stop.result c.run_on-stop.ensures.ran c.requires.before c.run_on-stop.ensures.comes in
    let h = subst (λ e. ComesOr ((self.count + 1 < c.args.end) × (c.run_on-stop.result ≡ stop.Over)) e mid c.settle.new.self) c.in-Spawned.is c.settle.ensures.keeps in
    ((h.0, h.1 ∙ ap (λ l. c.in-Spawned.job ∷ l) same), c.settle.ensures.counts ∙ one)

pub returns-in-AtSync-clause-advances : goal.returns-in-AtSync-clause-advances
returns-in-AtSync-clause-advances c =
    let self = c.args.self.now in
    let mid = c.run_on-stop.new.self in
    let same : outs mid ≡ outs self = ap (λ v. map (λ l. l.job.value) (reverse v.items)) c.run_on-stop.ensures.same.1 in
    let reason = (self.count + 1 < c.args.end) × (c.run_on-stop.result ≡ stop.Over) in
    came_on reason self mid c.settle.new.self same
    (one_done self mid true c.run_on-stop.result c.run_on-stop.ensures.ran c.requires.before c.run_on-stop.ensures.comes) c.settle.ensures.counts
    (λ over. c.in_default.not-Over (c.settle.ensures.halts.over over).0)
    (subst (λ e. ComesOr reason e mid c.settle.new.self) c.in-AtSync.is c.settle.ensures.keeps)

pub returns-in-AtSync-clause-leaves : goal.returns-in-AtSync-clause-leaves
returns-in-AtSync-clause-leaves c = c.requires.before.going

pub returns-in-AtEnd-clause-advances : goal.returns-in-AtEnd-clause-advances
returns-in-AtEnd-clause-advances c =
    let self = c.args.self.now in
    let mid = c.run_on-stop.new.self in
    let same : outs mid ≡ outs self = ap (λ v. map (λ l. l.job.value) (reverse v.items)) c.run_on-stop.ensures.same.1 in
    let one = one_done self mid true c.run_on-stop.result c.run_on-stop.ensures.ran c.requires.before c.run_on-stop.ensures.comes in
    let h = subst (λ e. ComesOr ((self.count + 1 < c.args.end) × (c.run_on-stop.result ≡ stop.Over)) e mid c.settle.new.self) c.in-AtEnd.is c.settle.ensures.keeps in
    reached c.reach.result self c.settle.new.self c.reach.new.self (c.settle.ensures.of ∙ c.run_on-stop.ensures.same.0) (h.1 ∙ same) (c.settle.ensures.counts ∙ one)
    (subst (λ n. self.count < n) c.requires.end c.requires.below) (λ over. c.in_default.not-Over (c.settle.ensures.halts.over over).0) c.reach.ensures.leads
