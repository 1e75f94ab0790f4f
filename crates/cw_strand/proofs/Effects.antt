-- The facts that follow if an effect means a job.
use Rattle.std.proofs.Common.{◌≡◌, ℕ, ◌+◌, ◌<◌, ◌≤◌, true, false, nat_lt, if◌then◌else◌, List, [], ◌∷◌, Option, refl, sym, ap, ◌∙◌, subst}
use Rattle.cw_facts.specs.Tests.{not_below, below}
use Rattle.cw_slices.specs.Placed.{Placed}
use Rattle.cw_code.specs.Code.{Code, code_view}
use Rattle.cw_code.specs.Run.{State}
use Rattle.cw_code.specs.Jobs as jobs
use Rattle.cw_code.specs.Jobs.{WholeCall, ToJoin, JobMeaning}
use Rattle.cw_code.specs.Strands.{Waits, Halted, cost_of}
use Rattle.cw_code.specs.Promises.{IsStrandOf}
use Rattle.cw_code.specs.Steps.{CallsPreserveJob, give, given_to}
use Rattle.cw_runnable.specs.declared.verified.Verified.{Verified}
use Rattle.cw_jobs.specs.declared.call.Parts.{Parts}
use Rattle.cw_jobs.specs.declared.effect.Effect.{Effect}
use Rattle.cw_jobs.specs.declared.effect.Effect.TheVariants as effect
use Rattle.cw_jobs.specs.declared.effect.PieceOutput.{PieceOutput}
use Rattle.cw_jobs.specs.declared.job.Job.{Job}
use Rattle.cw_jobs.specs.Jobs.{code_of, IsJob, KeepsHomes}
use Rattle.cw_jobs.specs.Means.{Tracks, MeansIt, IsMeaningOf}
use Rattle.cw_machine.specs.Arrays.{IsFit}
use Rattle.cw_strand.specs.Giving.{GivesBack}

-- the cost of an effect
abbrev pub CostsAs : Effect → (cost : ℕ) → Type 0
CostsAs (effect.Joined frame rep shown) cost = shown.cost ≡ cost
CostsAs (effect.Trapped c l lines n b) cost = n ≡ cost
CostsAs _ cost = ⊥

abbrev pub IsOver : Effect → Type 0
IsOver (effect.OverLimit b) = Unit {0}
IsOver _ = ⊥

-- the meaning of a job with equal code, for every job of the definitions that it represents
pub meant : (job : Job) (e : Effect) → IsMeaningOf job e → (v : Verified) → code_of job.parts.value ≡ v → (is : IsFit v) (j : jobs.Job)
    → IsJob v is job.parts.value j → ∥ MeansIt v is job.parts.value e j ∥₁
unfolding IsMeaningOf
meant job e m v same =
    let P : Verified → Type 0 = λ u. (is : IsFit u) (j : jobs.Job) → IsJob u is job.parts.value j → ∥ MeansIt u is job.parts.value e j ∥₁ in
    subst P same m

module _ (v : Verified) (is : IsFit v) (q : Parts) (j : jobs.Job) where
  pub homes_in : (e : Effect) (back : List Placed) (replaced : List (Option Placed)) → GivesBack e back replaced → MeansIt v is q e j → KeepsHomes q.rest.slices.items back replaced
  homes_in (effect.Ended value shown) back replaced g m = absurd g
  homes_in (effect.Memory b) back replaced g m = absurd g
  homes_in (effect.Joined frame rep shown) back replaced g m =
      subst (KeepsHomes q.rest.slices.items back) g.1 (subst (λ b. KeepsHomes q.rest.slices.items b rep.items) g.0 m.homes.0)
  homes_in (effect.Trapped c l lines cost b) back replaced g m =
      subst (KeepsHomes q.rest.slices.items back) g.1 (subst (λ x. KeepsHomes q.rest.slices.items x []) g.0 m.homes)
  homes_in (effect.OverLimit b) back replaced g m =
      subst (KeepsHomes q.rest.slices.items back) g.1 (subst (λ x. KeepsHomes q.rest.slices.items x []) g.0 m.homes)
  homes_in (effect.GivenUp b) back replaced g m =
      subst (KeepsHomes q.rest.slices.items back) g.1 (subst (λ x. KeepsHomes q.rest.slices.items x []) g.0 m.homes)

  -- the cost of the effect of the definitions
  cost_told : (e : Effect) (cost : ℕ) (d : jobs.Effect) → CostsAs e cost → Tracks (code_view v.code) j q.rest e d → cost_of d ≡ cost
  cost_told (effect.Ended value shown) cost d c t = absurd c
  cost_told (effect.Memory b) cost d c t = absurd c
  cost_told (effect.OverLimit b) cost d c t = absurd c
  cost_told (effect.GivenUp b) cost d c t = absurd c
  cost_told (effect.Joined frame rep shown) cost (jobs.Ended x arrays u k) c t = absurd t
  cost_told (effect.Joined frame rep shown) cost (jobs.Joined f u k) c t = sym t.2.cost ∙ c
  cost_told (effect.Joined frame rep shown) cost (jobs.TrapIn trap line lines k) c t = absurd t
  cost_told (effect.Joined frame rep shown) cost jobs.OverLimit c t = absurd t
  cost_told (effect.Joined frame rep shown) cost jobs.Memory c t = absurd t
  cost_told (effect.Trapped a l ls n b) cost (jobs.Ended x arrays u k) c t = absurd t
  cost_told (effect.Trapped a l ls n b) cost (jobs.Joined f u k) c t = absurd t
  cost_told (effect.Trapped a l ls n b) cost (jobs.TrapIn trap line lines k) c t = sym t.3 ∙ c
  cost_told (effect.Trapped a l ls n b) cost jobs.OverLimit c t = absurd t
  cost_told (effect.Trapped a l ls n b) cost jobs.Memory c t = absurd t

  pub cost_in : (e : Effect) (cost : ℕ) → CostsAs e cost → (m : MeansIt v is q e j) → cost_of m.effect ≡ cost
  cost_in e cost c m = cost_told e cost m.effect c m.tells

  over_told : (e : Effect) (d : jobs.Effect) → IsOver e → Tracks (code_view v.code) j q.rest e d → d ≡ jobs.OverLimit
  over_told (effect.Ended value shown) d o t = absurd o
  over_told (effect.Memory b) d o t = absurd o
  over_told (effect.GivenUp b) d o t = absurd o
  over_told (effect.Joined frame rep shown) d o t = absurd o
  over_told (effect.Trapped a l ls n b) d o t = absurd o
  over_told (effect.OverLimit b) (jobs.Ended x arrays u k) o t = absurd t
  over_told (effect.OverLimit b) (jobs.Joined f u k) o t = absurd t
  over_told (effect.OverLimit b) (jobs.TrapIn trap line lines k) o t = absurd t
  over_told (effect.OverLimit b) jobs.OverLimit o t = refl
  over_told (effect.OverLimit b) jobs.Memory o t = absurd t

  pub over_in : (e : Effect) → IsOver e → (m : MeansIt v is q e j) → m.effect ≡ jobs.OverLimit
  over_in e o m = over_told e m.effect o m.tells

  -- a continuation does not end its call
  ended_told : (value : _) (shown : PieceOutput) (d : jobs.Effect) → j.extent ≡ ToJoin → Tracks (code_view v.code) j q.rest (effect.Ended value shown) d → ⊥
  ended_told value shown (jobs.Ended x arrays u k) e t = differ (sym t.0 ∙ e)
    where
      differ : WholeCall ≡ ToJoin → ⊥
      differ k = cc
  ended_told value shown (jobs.Joined f u k) e t = t
  ended_told value shown (jobs.TrapIn trap line lines k) e t = t
  ended_told value shown jobs.OverLimit e t = t
  ended_told value shown jobs.Memory e t = t

  pub never_ends : (value : _) (shown : PieceOutput) → j.extent ≡ ToJoin → MeansIt v is q (effect.Ended value shown) j → ⊥
  never_ends value shown e m = ended_told value shown m.effect e m.tells

-- giving an effect, in the definitions
module _ (code : Code) (keep : CallsPreserveJob code) (j out : jobs.Job) (s : State) (count : ℕ) (outs : List jobs.Job) (is : IsStrandOf code j (Waits s count (out ∷ outs))) where
  gave : (d : jobs.Effect) → JobMeaning code out d → IsStrandOf code j (give j (Waits s count (out ∷ outs)) d)
  gave d m = (keep.giving j (Waits s count (out ∷ outs)) out outs d is refl m).0

  pub gave_over : (d : jobs.Effect) → JobMeaning code out d → j.limit < j.before + (count + cost_of d) → IsStrandOf code j (Halted jobs.OverLimit outs)
  gave_over d m lt = subst (IsStrandOf code j) (ap (λ b. if b then Halted jobs.OverLimit outs else given_to s count outs d) (below j.limit (j.before + (count + cost_of d)) lt)) (gave d m)

  pub gave_limit : (d : jobs.Effect) → d ≡ jobs.OverLimit → JobMeaning code out d → IsStrandOf code j (Halted jobs.OverLimit outs)
  gave_limit d e m = at (nat_lt j.limit (j.before + (count + 0))) (subst (λ x. IsStrandOf code j (give j (Waits s count (out ∷ outs)) x)) e (gave d m))
    where
      at : (b : _) → IsStrandOf code j (if b then Halted jobs.OverLimit outs else given_to s count outs jobs.OverLimit) → IsStrandOf code j (Halted jobs.OverLimit outs)
      at true h = h
      at false h = h

  pub gave_within : (d : jobs.Effect) → JobMeaning code out d → j.before + (count + cost_of d) ≤ j.limit → IsStrandOf code j (given_to s count outs d)
  gave_within d m le = subst (IsStrandOf code j) (ap (λ b. if b then Halted jobs.OverLimit outs else given_to s count outs d) (not_below j.limit (j.before + (count + cost_of d)) le)) (gave d m)
