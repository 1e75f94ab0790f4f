-- When an effect means a job.
use Rattle.std.specs.Prelude.{◌≡◌, ℕ, []}
use Rattle.cw_model.specs.Outcome.{Trace}
use Rattle.cw_code.specs.Code.{Code, code_view}
use Rattle.cw_runnable.specs.declared.verified.Verified.{Verified}
use Rattle.cw_meter.specs.declared.detail.Detail.{Detail}
use Rattle.cw_meter.specs.Origins.{Main}
use Rattle.cw_meter.specs.Meters.{Meters}
use Rattle.cw_code.specs.Jobs as jobs
use Rattle.cw_jobs.specs.Opens.{Gauge, whole}
use Rattle.cw_jobs.specs.Strands.{CountsEffect}
use Rattle.cw_jobs.specs.declared.call.Parts.{Parts}
use Rattle.cw_jobs.specs.declared.effect.PieceOutput.{PieceOutput}
use Rattle.cw_jobs.specs.declared.call.Rest.{Rest}
use Rattle.cw_jobs.specs.declared.effect.Effect.{Effect}
use Rattle.cw_jobs.specs.declared.effect.Effect.TheVariants as effect
use Rattle.cw_jobs.specs.declared.job.Job.{Job}
use Rattle.cw_jobs.specs.Calls.{HoldsFrame}
use Rattle.cw_jobs.specs.Jobs.{Ok, code_of, IsJob, KeepsHomes, KeepsEmpty, KeepsFixed}
use Rattle.cw_jobs.specs.Totals.{HoldsTotals}

-- a run has printed these lines and counted these totals, in `count` instructions
pub record HasOutput (code : Code) (shown : PieceOutput) (t : Trace) (count : ℕ) : Type 0 where
  pub cost : shown.cost ≡ count
  pub lines : shown.lines.items ≡ t.lines
  pub totals : HoldsTotals code shown.totals.items t.updates

-- the effect of a job that was given up
abbrev pub IsGivenUp : Effect → Type 0
IsGivenUp (effect.GivenUp back) = Unit {0}
IsGivenUp _ = ⊥

-- an effect represents one of the definitions; a job that was given up is represented like one that ran out of memory
abbrev pub Tracks : (code : Code) → jobs.Job → Rest → Effect → jobs.Effect → Type 0
Tracks code j r (effect.Ended value shown) (jobs.Ended x arrays t cost) =
    (j.extent ≡ jobs.WholeCall) × (value ≡ x) × HasOutput code shown t cost
Tracks code j r (effect.Joined back replaced shown) (jobs.Joined frame t cost) =
    HoldsFrame back frame × KeepsEmpty j r back replaced.items × HasOutput code shown t cost
Tracks code j r (effect.Trapped c l lines n back) (jobs.TrapIn trap line lines' cost) =
    (c ≡ trap) × (l ≡ line) × (lines.items ≡ lines') × (n ≡ cost)
Tracks code j r (effect.OverLimit back) jobs.OverLimit = Unit {0}
Tracks code j r (effect.Memory back) jobs.Memory = Unit {0}
Tracks code j r (effect.GivenUp back) jobs.Memory = Unit {0}
Tracks code j r _ _ = ⊥

-- the meter of an effect measures what the effect contains, as far as its job records it: for a whole run with the
-- call of `main` as its only event, for a continuation with the events of its block
abbrev pub Counts : (code : Code) → (detail : Detail) → (site : ℕ) → Effect → jobs.Effect → Type 0
Counts code detail site (effect.Ended value shown) (jobs.Ended v arrays t cost) =
    (g : Gauge code) → g.detail ≡ detail → Meters g.detail g.tags Main cost [] (whole t) shown.meter
Counts code detail site (effect.Joined back replaced shown) (jobs.Joined frame t cost) =
    CountsEffect code detail site (jobs.Joined frame t cost) shown.meter
Counts code detail site _ _ = Unit {0}

-- the arrays that an effect returns are in their places; the arrays of a whole call are its own, and nothing is
-- stated about them for a run without enough memory
abbrev pub AreReturned : (v : Verified) → Ok v → jobs.Job → Rest → Effect → Type 0
AreReturned v ok j r (effect.Ended value shown) = Unit {0}
AreReturned v ok j r (effect.Joined back replaced shown) =
    KeepsHomes r.slices.items back.slices.items replaced.items × KeepsFixed v ok j.place replaced.items
AreReturned v ok j r (effect.Trapped c l lines n back) = KeepsHomes r.slices.items back.items []
AreReturned v ok j r (effect.OverLimit back) = KeepsHomes r.slices.items back.items []
AreReturned v ok j r (effect.Memory back) = Unit {0}
AreReturned v ok j r (effect.GivenUp back) = KeepsHomes r.slices.items back.items []

-- some effect of the definitions means the job; this effect represents that one, with its measures, and returns the
-- job's arrays
pub record MeansIt (v : Verified) (ok : Ok v) (p : Parts) (e : Effect) (j : jobs.Job) : Type 0 where
  pub effect : jobs.Effect
  pub means : jobs.JobMeaning (code_view v.code) j effect
  pub tells : Tracks (code_view v.code) j p.rest e effect
  pub counts : Counts (code_view v.code) p.detail p.site e effect
  pub homes : AreReturned v ok j p.rest e

-- AN EFFECT MEANS A JOB, whichever job of the definitions the job represents: in the job's own code, and depending
-- only on the values of the two
unfoldable pub IsMeaningOf : Job → Effect → Type 0
IsMeaningOf job e =
    (ok : Ok (code_of job.parts.value)) (j : jobs.Job) → IsJob (code_of job.parts.value) ok job.parts.value j
    → ∥ MeansIt (code_of job.parts.value) ok job.parts.value e j ∥₁
