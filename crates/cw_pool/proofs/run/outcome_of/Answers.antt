use Rattle.std.proofs.Common.{◌≡◌, ◌∙◌, ap}
use Rattle.cw_jobs.specs.declared.call.Parts.{Parts}
use Rattle.cw_jobs.specs.Jobs.{code_of}
use Rattle.cw_pool.proofs.run.outcome_of.Goals as goal

pub returns : goal.returns
returns g c =
    let same : c.in_ok-share.share.value ≡ c.args.code.value =
    c.in_ok-share.ensures ∙ (ap (λ (p : Parts). code_of p) c.deref.ensures ∙ c.in_ok-root.ensures.code) in (
      c.in_ok-effect.ensures.0,
      same,
      record { root = c.in_ok-root.root; is = c.in_ok-root.ensures; means = c.in_ok-effect.ensures.1 },
    )
