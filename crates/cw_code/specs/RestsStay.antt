-- The continuation of a block stays in the function in which it begins.
use Rattle.std.specs.Prelude.{◌≡◌, ℕ, Some, slice_get}
use Rattle.cw_model.specs.Outcome.{Trace}
use Rattle.cw_code.specs.declared.code.Func.{Func}
use Rattle.cw_code.specs.Code.{Code}
use Rattle.cw_code.specs.Run.{State}
use Rattle.cw_code.specs.Fits.{Fits}
use Rattle.cw_code.specs.Good.{GoodState}
use Rattle.cw_code.specs.Staying.{IsInside, outermost}
use Rattle.cw_code.specs.Jobs.{ToJoin, JoinFrame, Job, job_start, Joined, JobMeaning}
use Rattle.cw_code.specs.Over.{under}

-- a continuation that reached its join is in the function in which it began
abbrev pub RestsStayInside : Type 0
RestsStayInside =
    (code : Code) (fits : Fits code) (job : Job) (b : State) (k : ℕ) (f : Func) (frame : JoinFrame) (t : Trace)
    (cost : ℕ)
    → job.extent ≡ ToJoin → GoodState code fits (under b (job_start job)) → slice_get code.funcs k ≡ Some f
    → IsInside f (outermost job.place b.around) → JobMeaning code job (Joined frame t cost)
    → IsInside f (outermost frame.place b.around)
