-- The laws of jobs: the division of a run at a spawn, the join, and the serial answer for every schedule.
use Rattle.std.specs.Prelude.{◌≡◌, ◌⊎◌, ℕ, ℤ, List, [], ◌++◌, slice_get}
use Rattle.cw_model.specs.Outcome.{joined}
use Rattle.cw_code.specs.declared.code.Func.{Func}
use Rattle.cw_code.specs.Code.{Code}
use Rattle.cw_code.specs.Run.{State, slots_of, arrays_of, Entering, begun, back, first_transition, On, first_state}
use Rattle.cw_code.specs.Run.{code_serial}
use Rattle.cw_code.specs.Jobs.{Extent, WholeCall, Came, Arrives, Returns, Falls, Beyond, Lost, moved, travel, Job}
use Rattle.cw_code.specs.Jobs.{course, root_job, Effect, Memory, JobMeaning, answered}
use Rattle.cw_code.specs.Strands.{Strand, rest_at, resumed, Reached, Makes}
use Rattle.cw_code.specs.Promises.{IsStrandOf}

-- a run followed by the rest of its block: after the join, pending results go back into their slots and the block
-- continues; after the end of a call, its caller continues
abbrev pub onwards : Code → Extent → State → Came → Came
onwards code y b (Arrives frame t left) = travel y code left (resumed b frame t)
onwards code y b (Returns v arrays t left) =
    moved (back b.around v arrays (joined b.trace t)) left (λ s. travel y code left s)
onwards code y b (Falls trap line lines left) = Falls trap line (b.trace.lines ++ lines) left
onwards code y b Beyond = Beyond
onwards code y b Lost = Lost

-- a call as a job
abbrev pub call_job : Entering → (limit before : ℕ) → Job
call_job e limit before = record {
  extent = WholeCall;
  place = e.func.start;
  slots = slots_of e.func e.arguments;
  arrays = arrays_of e.func e.given;
  readers = e.lent;
  depth = e.depth;
  limit = limit;
  before = before;
}

-- the serial run from a spawn is the child's run, after which its caller continues; from there, the serial run is the
-- run of the continuation up to the join, from the current slots; then pending results go back into their slots, and
-- the block continues
pub record Cut (code : Code) : Type 0 where
  pub child : (y : Extent) (s : State) (e : Entering) (limit before n : ℕ) →
      travel y code n (begun s e) ≡ onwards code y (begun s e) (course code (call_job e limit before) n)
  pub rest : (y : Extent) (s : State) (limit before n : ℕ) → s.operands ≡ [] →
      travel y code n s ≡ onwards code y s (course code (rest_at s limit before) n)

-- for all jobs that a strand hands out and all effects that it receives, the strand stays a strand of its job, and each
-- effect made for a job means the job
pub record Kept (code : Code) : Type 0 where
  pub strand : (job : Job) (strand : Strand) → Reached code job strand → IsStrandOf code job strand
  pub effect : (job : Job) (e : Effect) → Makes code job e → JobMeaning code job e

-- an effect that means the whole run has the answer of the code, or memory ran out
abbrev pub RootsAreSerial : Type 0
RootsAreSerial =
    (code : Code) (f : Func) (args : List ℤ) (limit : ℕ) (e : Effect)
    → first_transition (slice_get code.funcs code.main) args ≡ On (first_state f args [] [])
    → JobMeaning code (root_job f args limit) e → (e ≡ Memory) ⊎ (answered code e ≡ code_serial code args limit)

-- for every schedule, the effect of the root has the answer of the code, or memory ran out
abbrev pub SchedulesAreSerial : Type 0
SchedulesAreSerial =
    (code : Code) (f : Func) (args : List ℤ) (limit : ℕ) (e : Effect)
    → first_transition (slice_get code.funcs code.main) args ≡ On (first_state f args [] [])
    → Makes code (root_job f args limit) e → (e ≡ Memory) ⊎ (answered code e ≡ code_serial code args limit)
