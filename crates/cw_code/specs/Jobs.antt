-- Jobs: a whole call, or the continuation of a sync block up to its join; how its run ends, what its effect is, and
-- when an effect means it.
use Rattle.std.specs.Prelude.{◌≡◌, ℕ, zero, suc, ◌-◌, ℤ, Bool, true, false, ◌&&◌, if◌then◌else◌, List, [], ◌∷◌}
use Rattle.std.specs.Prelude.{Option, Some, None, slice_get}
use Rattle.cw_model.specs.declared.trap.Trap.{Trap}
use Rattle.cw_model.specs.Frames.{no_frame}
use Rattle.cw_model.specs.Outcome.{Trace, Done, Trapped, Over}
use Rattle.cw_model.specs.Answers.{Answer, answer_of}
use Rattle.cw_code.specs.declared.code.Func.{Func}
use Rattle.cw_code.specs.declared.code.Instr.{Instr}
use Rattle.cw_code.specs.Code.{Code}
use Rattle.cw_code.specs.Frozen.{is_join}
use Rattle.cw_code.specs.Run.{Slots, Readers, Around, State, Transition, On, Ends, Stops, Stuck, settled, slots_of}
use Rattle.cw_code.specs.Run.{arrays_of, fresh, step, reducers_of}

-- how far a run goes: to the end of its call, or to just before the join of the sync block in which it begins
pub data Extent : Type 0 where
  WholeCall : Extent
  ToJoin : Extent

-- the instruction joins its sync block
abbrev pub joins : Option Instr → Bool
joins None = false
joins (Some i) = is_join i

-- nothing encloses the sync block: the run began in it
abbrev pub is_first : List Around → Bool
is_first [] = true
is_first (a ∷ around) = false

-- the run has reached its end
abbrev pub has_come : Extent → Code → State → Bool
has_come WholeCall code s = false
has_come ToJoin code s = is_first s.around && joins (slice_get code.instrs s.place)

-- a call at a join, after all its own spawned calls returned what they took, with the arrays that it was lent; the
-- value of a return is on its operands
pub record JoinFrame : Type 0 where
  pub place : ℕ
  pub operands : List ℤ
  pub slots : Slots ℤ
  pub arrays : Slots (List ℤ)
  pub readers : Readers

-- the call of a state at a join, after its pending results went back into their slots
abbrev pub standing : State → JoinFrame
standing s =
    record {
      place = s.place;
      operands = s.operands;
      slots = settled s.results s.slots;
      arrays = settled s.arrived s.arrays;
      readers = s.readers;
    }

-- the result of a run within a budget, with the rest of the budget: it reaches the join, returns, traps, exceeds the
-- budget, or gets stuck
pub data Came : Type 0 where
  Arrives : JoinFrame → Trace → (left : ℕ) → Came
  Returns : Option ℤ → Slots (List ℤ) → Trace → (left : ℕ) → Came
  Falls : (trap : Trap) (line : ℕ) (lines : List ℤ) (left : ℕ) → Came
  Beyond : Came
  Lost : Came

-- the result of a run after a step: from the next state, or at once if the step ended the run, trapped or is stuck
abbrev pub moved : Transition → ℕ → (State → Came) → Came
moved (On s) left next = next s
moved (Ends v arrays t) left next = Returns v arrays t left
moved (Stops trap line lines) left next = Falls trap line lines left
moved Stuck left next = Lost

-- the run of a job within a budget of instructions
abbrev pub travel : Extent → Code → ℕ → State → Came
travel x code zero s = if has_come x code s then Arrives (standing s) s.trace zero else Beyond
travel x code (suc n) s =
    if has_come x code s then Arrives (standing s) s.trace (suc n) else moved (step code s) n (λ s'. travel x code n s')

-- a job: its extent, its place, its slots (empty where a spawned call still has the value), the arrays that its call
-- was lent, its depth, the limit of the run, and the cost of the run before it
pub record Job : Type 0 where
  pub extent : Extent
  pub place : ℕ
  pub slots : Slots ℤ
  pub arrays : Slots (List ℤ)
  pub readers : Readers
  pub depth : ℕ
  pub limit : ℕ
  pub before : ℕ

-- the start of a job: no operands, no enclosing blocks, an empty trace
abbrev pub job_start : Job → State
job_start job = fresh job.place job.depth job.slots job.arrays job.readers

-- the run of a job
abbrev pub course : Code → Job → ℕ → Came
course code job n = travel job.extent code n (job_start job)

-- the job of a whole run: a function on its arguments, at depth 1, with no cost before it
abbrev pub root_job : Func → List ℤ → (limit : ℕ) → Job
root_job f args limit =
    record {
      extent = WholeCall;
      place = f.start;
      slots = slots_of f args;
      arrays = arrays_of f [];
      readers = [];
      depth = 1;
      limit = limit;
      before = 0;
    }

-- the result of a strand for its job: the value of the call, or the call at its join, with the trace and the cost of
-- the run; or a trap with its cost; or the limit was exceeded; or memory ran out
pub data Effect : Type 0 where
  Ended : Option ℤ → Slots (List ℤ) → Trace → (cost : ℕ) → Effect
  Joined : JoinFrame → Trace → (cost : ℕ) → Effect
  TrapIn : (trap : Trap) (line : ℕ) (lines : List ℤ) (cost : ℕ) → Effect
  OverLimit : Effect
  Memory : Effect

-- the result of a run within a budget, as an effect; none if the code gets stuck
abbrev pub IsOf : Came → (budget : ℕ) → Effect → Type 0
IsOf (Arrives frame t left) n e = e ≡ Joined frame t (n - left)
IsOf (Returns v arrays t left) n e = e ≡ Ended v arrays t (n - left)
IsOf (Falls trap line lines left) n e = e ≡ TrapIn trap line lines (n - left)
IsOf Beyond n e = e ≡ OverLimit
IsOf Lost n e = ⊥

-- the meaning of a job: the result of its run within the limit; or over the limit, if the run exceeds the limit minus
-- the cost before the job; or out of memory
pub data JobMeaning (code : Code) (job : Job) (e : Effect) : Type 0 where
  Same : IsOf (course code job job.limit) job.limit e → JobMeaning code job e
  Passed : e ≡ OverLimit → course code job (job.limit - job.before) ≡ Beyond → JobMeaning code job e
  Short : e ≡ Memory → JobMeaning code job e

-- the answer of the effect of a whole run; none for out of memory, and for a continuation
abbrev pub answered : Code → Effect → Option Answer
answered code (Ended v arrays t cost) = Some (answer_of (reducers_of code) (Done (v, no_frame) 0 t))
answered code (TrapIn trap line lines cost) = Some (answer_of (reducers_of code) (Trapped trap line lines))
answered code OverLimit = Some (answer_of (reducers_of code) Over)
answered code (Joined frame t cost) = None
answered code Memory = None
