use Rattle.std.proofs.Common.{◌≡◌, true, sym, ap, ◌∙◌, subst, inr}
use Rattle.std.specs.Prelude.{map, reverse}
use Rattle.cw_machine.specs.declared.run.Stop.TheVariants as stop
use Rattle.cw_jobs.specs.Means.{IsMeaningOf}
use Rattle.cw_strand.specs.Holds.{outs}
use Rattle.cw_strand.specs.Moves.{HasCome}
use Rattle.cw_strand.proofs.Advanced.{over_count, over_of, stays, still_from}
use Rattle.cw_strand.proofs.RunsOn.{over_goes}
use Rattle.cw_strand.proofs.Losing.{comes_from}
use Rattle.cw_strand.proofs.strand.Strand.end_at_join.Goals as goal

pub returns-in_default-clause-joins : goal.returns-in_default-clause-joins
returns-in_default-clause-joins c =
    let self = c.args.self.now in
    let mid = c.run_on-stop.new.self in
    let over = over_of self mid true c.run_on-stop.result c.run_on-stop.ensures.ran c.in_default.not-Joined in
    let come : HasCome mid self.count stop.Over = subst (HasCome mid self.count) over c.run_on-stop.ensures.comes in
    let still = over_count mid self.count come in (
      over_goes mid self.count come,
      ap (λ v. map (λ l. l.job.value) (reverse v.items)) c.run_on-stop.ensures.same.1,
      still,
      subst (λ n. HasCome mid n stop.Over) (sym still) come,
    )

pub returns-in_default-clause-leaves : goal.returns-in_default-clause-leaves
returns-in_default-clause-leaves c = c.run_on-stop.ensures.comes.going ∙ sym c.requires.going

pub returns-in-Joined-clause-joins : goal.returns-in-Joined-clause-joins
returns-in-Joined-clause-joins c =
    let self = c.args.self.now in
    let mid = c.run_on-stop.new.self in
    let e = c.join_effect.result in
    let same : outs mid ≡ outs self = ap (λ v. map (λ l. l.job.value) (reverse v.items)) c.run_on-stop.ensures.same.1 in
    let still = stays self mid true c.run_on-stop.result c.run_on-stop.ensures.ran in (
      (subst (λ o. IsMeaningOf o.value e) c.run_on-stop.ensures.same.0 c.join_effect.ensures.means, sym same ∙ c.join_effect.ensures.none),
      still_from e self mid (c.run_on-stop.ensures.comes.going ∙ sym c.requires.going) still c.join_effect.ensures.counts,
      λ before. c.run_on-stop.ensures.ran.before before still c.in-Joined.is,
    )

pub returns-in-Joined-clause-leaves : goal.returns-in-Joined-clause-leaves
returns-in-Joined-clause-leaves c = comes_from c.join_effect.result c.args.self.now c.run_on-stop.new.self (inr (c.run_on-stop.ensures.comes.going ∙ sym c.requires.going)) c.join_effect.ensures.comes
