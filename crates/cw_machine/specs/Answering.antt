-- The effect of a whole run.
use Rattle.std.specs.Prelude.{◌≡◌, ℕ, ℤ, List, Option, Result, Ok, Err}
use Rattle.std.specs.Global.{Vec}
use Rattle.cw_model.specs.declared.burden.Burden.{Burden}
use Rattle.cw_model.specs.declared.trap.Trap.{Trap}
use Rattle.cw_meter.specs.declared.detail.Detail.{Detail}
use Rattle.cw_runnable.specs.declared.verified.Verified.{Verified}
use Rattle.cw_text.specs.declared.fault.Fault.{Fault}
use Rattle.cw_text.specs.declared.fault.Fault.TheVariants as fault
use Rattle.cw_jobs.specs.declared.effect.Effect.{Effect}
use Rattle.cw_jobs.specs.declared.effect.Effect.TheVariants as effect
use Rattle.cw_jobs.specs.declared.effect.PieceOutput.{PieceOutput}
use Rattle.cw_jobs.specs.declared.job.Job.{Job}
use Rattle.cw_jobs.specs.Jobs.{IsRootOf}
use Rattle.cw_jobs.specs.Means.{IsMeaningOf}

-- an effect means the job of some whole run of this code, with any `Detail`
pub record IsOfWhole (v : Verified) (e : Effect) : Type 0 where
  pub args : List ℤ
  pub limit : ℕ
  pub burden : Burden
  pub detail : Detail
  pub root : Job
  pub is : IsRootOf v args limit burden detail root.parts.value
  pub means : IsMeaningOf root e

-- an effect means the job of some whole run of some code
abbrev pub IsOfRun : Effect → Type 0
IsOfRun e = (v : Verified) × IsOfWhole v e

-- there is a result for a run that ended, or `Memory` if there was not enough memory for the result
abbrev pub IsEndOrMemory : {A : Type 0} → Result A Fault → Type 0
IsEndOrMemory (Ok e) = Unit {0}
IsEndOrMemory (Err f) = f ≡ fault.Memory

-- there is a result
abbrev pub IsEnd : {A : Type 0} → Result A Fault → Type 0
IsEnd (Ok e) = Unit {0}
IsEnd (Err f) = ⊥

-- this trap in this line, with these values printed before
abbrev pub IsTrapAfter : {A : Type 0} → Trap → (line : ℕ) → (lines : List ℤ) → Result A Fault → Type 0
IsTrapAfter trap line lines r =
    (output : Vec ℤ) × (r ≡ Err (fault.Trap trap line output)) × (output.items ≡ lines)

-- THE RESULT OF AN EFFECT, if `ended` is the result of a run that ended: `Memory` if the effect says that memory ran
-- out
abbrev pub IsResultOf : {A : Type 0} → (ended : Option ℤ → PieceOutput → Type 0) → Effect → Result A Fault → Type 0
IsResultOf ended (effect.Ended value shown) r = ended value shown
IsResultOf ended (effect.Joined frame replaced shown) r = ⊥
IsResultOf ended (effect.Trapped trap line lines cost back) r = IsTrapAfter trap line lines.items r
IsResultOf ended (effect.OverLimit back) r = r ≡ Err fault.OverLimit
IsResultOf ended (effect.Memory back) r = r ≡ Err fault.Memory
IsResultOf ended (effect.GivenUp back) r = r ≡ Err fault.Memory

-- the result of a run that ended is its value and what it has printed and counted
abbrev pub TakesOut : Effect → Result (Option ℤ × PieceOutput) Fault → Type 0
TakesOut e r = IsResultOf (λ value shown. r ≡ Ok (value, shown)) e r

-- the result is `Memory` only if the effect says so, or for a run that ended
abbrev pub IsAnswerOf : {A : Type 0} → Effect → Result A Fault → Type 0
IsAnswerOf e r = IsResultOf (λ value shown. IsEndOrMemory r) e r

-- the result is `Memory` only if the effect says so
abbrev pub AreValuesOf : {A : Type 0} → Effect → Result A Fault → Type 0
AreValuesOf e r = IsResultOf (λ value shown. IsEnd r) e r
