-- The steps and the result of a run with a listener, for any request.
use Rattle.std.specs.Prelude.{◌≡◌, ℕ, ℤ, true, List, [], Result, MatchResult}
use Rattle.cw_model.specs.declared.burden.Burden.{Burden}
use Rattle.cw_text.specs.declared.fault.Fault.{Fault}
use Rattle.cw_meter.specs.Origins.{main_open}
use Rattle.cw_code.specs.Code.{code_view}
use Rattle.cw_runnable.specs.declared.verified.Verified.{Verified}
use Rattle.cw_machine.specs.declared.listener.Listened.{Listened}
use Rattle.cw_machine.specs.declared.machine.Moved.{Moved}
use Rattle.cw_machine.specs.Listening.{RecordRelation, SimulatesRecorded, IsGoing, ReachesAny, EndsRun}
use Rattle.cw_machine.specs.Runs.{is_request, IsFailure}

-- an instruction was executed after `count` others, and reported
abbrev pub DoesStep : {A W : Type 0} → (A → RecordRelation W) → Verified → (old : Listened W) → (count : ℕ) → Moved
    → (new : Listened W) → Type 0
DoesStep {A = A} keeps v old count to new =
    (asked : A) → SimulatesRecorded (keeps asked) v old.machine old.listener count to new.machine new.listener

-- a run of `main` is at its beginning
abbrev pub IsBeginning : {A W : Type 0} → (A → RecordRelation W) → Verified → Listened W → Type 0
IsBeginning keeps v r = IsGoing keeps v 0 r.machine r.listener

-- a run executed at most `n` instructions
abbrev pub GoesFrom : {A W : Type 0} → (A → RecordRelation W) → Verified → (old : Listened W) → (n count : ℕ) → Moved
    → (new : Listened W) → Type 0
GoesFrom {A = A} keeps v old n count to new =
    (asked : A) → ReachesAny (keeps asked) v old.machine old.listener n count to new.machine new.listener

-- nothing was reported to a listener yet
pub record Begun {A W : Type 0} (keeps : A → RecordRelation W) (w : W) : Type 0 where
  pub asked : A
  pub kept : keeps asked 0 main_open [] w

-- if the run may be requested, nothing was reported to the listener yet
abbrev pub MayListen : {A W : Type 0} → (A → RecordRelation W) → Verified → List ℤ → (n : ℕ) → Burden → W → Type 0
MayListen keeps v args n burden w = is_request (code_view v.code) args n burden ≡ true → ∥ Begun keeps w ∥₁

-- the request is in range, and the run ends after `r.1` instructions, with the listener `r.0`
pub record HasListened {A W : Type 0} (keeps : A → RecordRelation W) (v : Verified) (args : List ℤ) (n : ℕ) (burden : Burden)
    (w : W) (r : W × ℕ) : Type 0 where
  pub in_range : is_request (code_view v.code) args n burden ≡ true
  pub ends : (asked : A) → keeps asked 0 main_open [] w → ∥ EndsRun (keeps asked) (code_view v.code) args n r.1 r.0 ∥₁

-- a run with a listener behaves as the meaning of the code says
abbrev pub ListensAsCode : {A W : Type 0} → (A → RecordRelation W) → Verified → List ℤ → (n : ℕ) → Burden → W
    → Result (W × ℕ) Fault → Type 0
ListensAsCode keeps v args n burden w result =
    MatchResult result (HasListened keeps v args n burden w) (IsFailure (code_view v.code) args n burden)
