-- The values that are taken out of the effect of a whole run.
use Rattle.std.proofs.Common.{◌≡◌, ℕ, ℤ, Option, List, Some, sym, ap, ◌∙◌, subst}
use Rattle.std.specs.Prelude.{Result, Ok, Err}
use Rattle.cw_model.specs.declared.burden.Burden.{Burden}
use Rattle.cw_model.specs.Answers.{TrappedAt}
use Rattle.cw_code.specs.Code.{code_view}
use Rattle.cw_code.specs.RestLaws.{RootsAreSerial}
use Rattle.cw_meter.specs.declared.detail.Detail.{Detail}
use Rattle.cw_runnable.specs.declared.verified.Verified.{Verified}
use Rattle.cw_text.specs.declared.fault.Fault.{Fault}
use Rattle.cw_text.specs.declared.fault.Fault.TheVariants as fault
use Rattle.cw_jobs.specs.declared.effect.Effect.{Effect}
use Rattle.cw_jobs.specs.declared.effect.Effect.TheVariants as effect
use Rattle.cw_jobs.specs.declared.effect.PieceOutput.{PieceOutput}
use Rattle.cw_jobs.specs.declared.job.Job.{Job}
use Rattle.cw_jobs.specs.Jobs.{IsRootOf}
use Rattle.cw_jobs.specs.Means.{IsMeaningOf}
use Rattle.cw_machine.specs.Answering.{AreValuesOf, IsAnswerOf, TakesOut, IsResultOf}
use Rattle.cw_machine.specs.Runs.{IsFailure}
use Rattle.cw_machine.proofs.RootEnds.{trapped_as_code, over_as_code}

abbrev out : Option ℤ × PieceOutput → Result (Option ℤ × PieceOutput) Fault → Option ℤ × PieceOutput
out z (Ok w) = w
out z (Err f) = z

-- an effect from which a value and an output are taken has ended with them
pub ended_is : (e : Effect) (x : Option ℤ) (shown : PieceOutput) → TakesOut e (Ok (x, shown)) → e ≡ effect.Ended x shown
ended_is (effect.Ended y other) x shown told =
    let value : x ≡ y = ap (λ (z : Option ℤ × PieceOutput). z.0) (ap (out (x, shown)) told) in
    let is : shown ≡ other = ap (λ (z : Option ℤ × PieceOutput). z.1) (ap (out (x, shown)) told) in
    cc
ended_is (effect.Joined frame replaced other) x shown told = absurd told
ended_is (effect.Trapped trap line lines cost back) x shown told = let is = told.1 in cc
ended_is _ x shown told = cc

-- why a run has not ended does not depend on what is returned for a run that has ended
pub fault_told : (A : Type 0) (ended : Option ℤ → PieceOutput → Type 0) (e : Effect) (f : Fault) → TakesOut e (Err f) → IsResultOf {A = A} ended e (Err f)
fault_told A ended (effect.Ended value shown) f told = cc
fault_told A ended (effect.Joined frame replaced shown) f told = absurd told
fault_told A ended (effect.Trapped trap line lines cost back) f told =
    let is = told.1 in
    let same : f ≡ fault.Trap trap line told.0 = cc in
    (told.0, ap Err same, told.2)
fault_told A ended (effect.OverLimit back) f told = let same : f ≡ fault.OverLimit = cc in ap Err same
fault_told A ended (effect.Memory back) f told = let same : f ≡ fault.Memory = cc in ap Err same
fault_told A ended (effect.GivenUp back) f told = let same : f ≡ fault.Memory = cc in ap Err same

pub answer_fails : (A : Type 0) (e : Effect) (f : Fault) → TakesOut e (Err f) → IsAnswerOf {A = A} e (Err f)
answer_fails A e f told = fault_told A (λ value shown. f ≡ fault.Memory) e f told

pub values_fail : (A : Type 0) (e : Effect) (f : Fault) → TakesOut e (Err f) → AreValuesOf {A = A} e (Err f)
values_fail A e f told = fault_told A (λ value shown. ⊥) e f told

module _ (laws : RootsAreSerial) (v : Verified) (args : List ℤ) (n : ℕ) (burden : Burden) (d : Detail) (root : Job) (r : IsRootOf v args n burden d root.parts.value) where
  -- a fault taken out of the effect is a failure of the code's run
  pub fails_as_code : (e : Effect) (f : Fault) → TakesOut e (Err f) → IsMeaningOf root e → IsFailure (code_view v.code) args n burden f
  fails_as_code (effect.Ended value shown) f told means = cc
  fails_as_code (effect.Joined frame replaced shown) f told means = absurd told
  fails_as_code (effect.Trapped trap line lines cost back) f told means =
      let is = told.1 in
      let same : f ≡ fault.Trap trap line told.0 = cc in
      subst (IsFailure (code_view v.code) args n burden) (sym same) (
        r.asked,
        trapped_as_code laws v args n burden d root r trap line lines cost back means ∙ ap (λ l. Some (TrappedAt trap line l)) (sym told.2),
      )
  fails_as_code (effect.OverLimit back) f told means =
      let same : f ≡ fault.OverLimit = cc in
      subst (IsFailure (code_view v.code) args n burden) (sym same) (r.asked, over_as_code laws v args n burden d root r back means)
  fails_as_code (effect.Memory back) f told means =
      let same : f ≡ fault.Memory = cc in
      subst (IsFailure (code_view v.code) args n burden) (sym same) r.asked
  fails_as_code (effect.GivenUp back) f told means =
      let same : f ≡ fault.Memory = cc in
      subst (IsFailure (code_view v.code) args n burden) (sym same) r.asked
