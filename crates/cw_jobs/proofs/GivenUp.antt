-- A job that is given up.
use Rattle.std.proofs.Common.{refl}
use Rattle.cw_runnable.specs.declared.verified.Verified.{Verified}
use Rattle.cw_code.specs.Jobs.{Job, Memory, Short}
use Rattle.cw_jobs.specs.declared.call.Parts.{Parts}
use Rattle.cw_jobs.specs.declared.effect.Effect.TheVariants as effect
use Rattle.cw_jobs.specs.Jobs.{Ok}
use Rattle.cw_jobs.specs.Means.{MeansIt}
use Rattle.cw_jobs.specs.lemmas.Homes.{unchanged_homes}

-- the effect of a job that is given up means any job, and returns its arrays
pub given_up : (v : Verified) (ok : Ok v) (p : Parts) (j : Job) → MeansIt v ok p (effect.GivenUp p.rest.slices) j
given_up v ok p j = record { effect = Memory; means = Short refl; tells = tt; counts = tt; homes = unchanged_homes p.rest.slices.items }
