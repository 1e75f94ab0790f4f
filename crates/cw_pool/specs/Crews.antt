-- What a run by a crew answers.
use Rattle.std.specs.Prelude.{◌≡◌, ◌≤◌, ◌<◌, ℕ, ℤ, Bool, false, List, Result, Err}
use Rattle.cw_model.specs.declared.burden.Burden.{Burden}
use Rattle.cw_meter.specs.declared.detail.Detail.{Detail}
use Rattle.cw_text.specs.declared.fault.Fault.{Fault}
use Rattle.cw_text.specs.declared.fault.Fault.TheVariants as fault
use Rattle.cw_code.specs.Code.{Code}
use Rattle.cw_machine.specs.declared.alone.Ended as alone
use Rattle.cw_machine.specs.declared.values.Values.{Values}
use Rattle.cw_greedy.specs.Recorded.{Recorded}
use Rattle.cw_machine.specs.Recorded.{RecordsAsCode}
use Rattle.cw_machine.specs.Runs.{GivesAsCode, IsFailure, RunsAsCode}
use Rattle.cw_runnable.specs.declared.verified.Verified.{Verified}
use Rattle.cw_jobs.specs.declared.effect.Effect.{Effect}
use Rattle.cw_jobs.specs.declared.effect.Effect.TheVariants as effect
use Rattle.cw_jobs.specs.declared.job.Job.{Job}
use Rattle.cw_jobs.specs.Jobs.{IsRootOf}
use Rattle.cw_jobs.specs.Means.{IsMeaningOf}
use Rattle.cw_pool.specs.declared.outcome.Outcome.{Outcome}
use Rattle.cw_pool.specs.declared.run.TheConstants.{MOST_BODIES}

-- an effect means the job of the whole run of this code on these arguments, of which so much is kept
pub record IsEffectOf (v : Verified) (args : List ℤ) (n : ℕ) (burden : Burden) (d : Detail) (e : Effect) : Type 0
  where
    pub root : Job
    pub is : IsRootOf v args n burden d root.parts.value
    pub means : IsMeaningOf root e

-- THE EFFECT TELLS THE ANSWER: it is no effect of a root that was given up, whatever else is known of the run; and memory
-- was wanting only where the run was not given up
abbrev pub Answers : (is_given_up : Bool) → Effect → Type 0
Answers is_given_up (effect.GivenUp back) = ⊥
Answers is_given_up (effect.Memory back) = is_given_up ≡ false
Answers is_given_up _ = Unit {0}

abbrev pub IsKnown : Outcome → Type 0
IsKnown o = Answers o.is_given_up o.effect

-- what a run came to, of a crew of so many bodies
abbrev pub IsOutcome : (bodies : ℕ) → Verified → List ℤ → (n : ℕ) → Burden → Detail → Outcome → Type 0
IsOutcome bodies v args n burden d o =
    (bodies ≤ MOST_BODIES) × (o.code.value ≡ v) × IsEffectOf v args n burden d o.effect

-- or why there is nothing
abbrev pub HasNoOutcome : (bodies : ℕ) → Code → List ℤ → (n : ℕ) → Burden → Fault → Type 0
HasNoOutcome bodies code args n burden f =
    (bodies ≤ MOST_BODIES → IsFailure code args n burden f) × (MOST_BODIES < bodies → f ≡ fault.Arguments)

-- WHAT CODE MEANS, where the crew has at most so many bodies; a larger crew is refused
abbrev pub RunsByCrew : (bodies : ℕ) → Code → List ℤ → (n : ℕ) → Burden → Result alone.Ended Fault → Type 0
RunsByCrew bodies code args n burden result =
    (bodies ≤ MOST_BODIES → RunsAsCode code args n burden result)
    × (MOST_BODIES < bodies → result ≡ Err fault.Arguments)

-- the same of the values alone
abbrev pub GivesByCrew : (bodies : ℕ) → Code → List ℤ → (n : ℕ) → Burden → Result Values Fault → Type 0
GivesByCrew bodies code args n burden result =
    (bodies ≤ MOST_BODIES → GivesAsCode code args n burden result)
    × (MOST_BODIES < bodies → result ≡ Err fault.Arguments)

-- the same of its strands, for which nothing is charged
abbrev pub RecordsByCrew : (bodies : ℕ) → Code → List ℤ → (n : ℕ) → Result Recorded Fault → Type 0
RecordsByCrew bodies code args n result =
    (bodies ≤ MOST_BODIES → RecordsAsCode code args n result)
    × (MOST_BODIES < bodies → result ≡ Err fault.Arguments)
