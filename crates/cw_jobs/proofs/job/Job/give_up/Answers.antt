use Rattle.std.proofs.Common.{sym, subst}
use Rattle.cw_jobs.specs.declared.call.Parts.{Parts}
use Rattle.cw_jobs.specs.declared.effect.Effect.TheVariants as effect
use Rattle.cw_jobs.specs.Jobs.{code_of}
use Rattle.cw_jobs.specs.Means.{MeansIt, IsMeaningOf}
use Rattle.cw_jobs.proofs.GivenUp.{given_up}
use Rattle.cw_jobs.proofs.job.Job.give_up.Goals as goal

pub returns-clause-means : goal.returns-clause-means
unfolding IsMeaningOf
returns-clause-means c = λ ok j is.
    let p = c.args.self.parts.value in
    ∣ subst (λ (q : Parts). MeansIt (code_of p) ok p (effect.GivenUp q.rest.slices) j) (sym c.into_inner-rest.ensures) (given_up (code_of p) ok p j) ∣₁
