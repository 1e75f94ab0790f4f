-- Strands: a strand executes a job; at a spawn it hands out the continuation of the sync block and executes the call.
use Rattle.std.specs.Prelude.{◌≡◌, ℕ, ◌+◌, ◌≤◌, ◌<◌, ℤ, true, false, List, [], ◌∷◌, ◌++◌, map, Option, Some, None}
use Rattle.std.specs.Prelude.{slice_get}
use Rattle.cw_model.specs.declared.trap.Trap.{Trap}
use Rattle.cw_model.specs.declared.syntax.CallKind.{CallKind}
use Rattle.cw_model.specs.declared.syntax.CallKind.TheVariants.{Plain, Spawned}
use Rattle.cw_model.specs.Outcome.{Trace, joined}
use Rattle.cw_code.specs.declared.code.Instr.{Instr}
use Rattle.cw_code.specs.declared.code.Instr.TheVariants as instr
use Rattle.cw_code.specs.Code.{Code}
use Rattle.cw_code.specs.Run.{Waiting, Around, Caller, State, On, Ends, Stops, Slots, settled, Taken, Whole}
use Rattle.cw_code.specs.Run.{slot_taken, taken_from, moved_out, passed_by, step}
use Rattle.cw_code.specs.Jobs.{ToJoin, has_come, JoinFrame, standing, Job, job_start, Effect, Ended, Joined, TrapIn}
use Rattle.cw_code.specs.Jobs.{OverLimit, Memory}

-- a strand, with the jobs that it handed out and that have not come back, the newest first. It is running, at a state
-- of the serial run, `count` instructions after its job's start; or a spawned call has ended and it waits for the
-- continuation of the spawning block, the newest job out; or it has stopped
pub data Strand : Type 0 where
  Going : State → (count : ℕ) → (outs : List Job) → Strand
  Waits : State → (count : ℕ) → (outs : List Job) → Strand
  Halted : Effect → (outs : List Job) → Strand

-- the jobs that are out, the newest first
abbrev pub outs_of : Strand → List Job
outs_of (Going s count outs) = outs
outs_of (Waits s count outs) = outs
outs_of (Halted e outs) = outs

-- the continuation of a block that waits for a spawned call, as a job
abbrev pub rest_of : Waiting → (limit before : ℕ) → Job
rest_of w limit before =
    record {
      extent = ToJoin;
      place = w.place;
      slots = w.slots;
      arrays = w.arrays;
      readers = w.readers;
      depth = w.depth;
      limit = limit;
      before = before;
    }

-- the newest job out of a strand that waits: the continuation of the current block
abbrev pub rest_at : State → (limit before : ℕ) → Job
rest_at s limit before =
    record {
      extent = ToJoin;
      place = s.place;
      slots = s.slots;
      arrays = s.arrays;
      readers = s.readers;
      depth = s.depth;
      limit = limit;
      before = before;
    }

-- the effect of an instruction on a strand: it hands out the continuation of its block, ends a spawned call, or
-- neither
pub data Turn : Type 0 where
  Goes : Turn
  HandsOut : (target : Option ℕ) → List Taken → Turn
  ComesBack : Turn

-- the end of a spawned call brings the strand back to its spawner
abbrev pub turn_back : CallKind → Turn
turn_back Plain = Goes
turn_back Spawned = ComesBack

-- the effect on the strand of a return, by the enclosing call
abbrev pub turn_in : List Around → Turn
turn_in (Caller w ∷ around) = turn_back w.kind
turn_in _ = Goes

-- a spawn hands out the continuation of its block
abbrev pub turn_call : CallKind → Option ℕ → List Taken → Turn
turn_call Plain target taken = Goes
turn_call Spawned target taken = HandsOut target taken

-- the effect of an instruction on the strand
abbrev pub turn_of : Code → Option Instr → List Around → Turn
turn_of code (Some (instr.Call kind c)) around = turn_call kind c.target (map (λ a. Whole a) (passed_by code c.passed))
turn_of code (Some (instr.Recur kind c)) around = turn_call kind None (map (λ a. Whole a) (passed_by code c.passed))
turn_of code (Some instr.ReturnValue) around = turn_in around
turn_of code (Some instr.Return) around = turn_in around
turn_of code _ around = Goes

-- the effect on the strand of the instruction at a state
abbrev pub turn : Code → State → Turn
turn code s = turn_of code (slice_get code.instrs s.place) s.around

-- the job of a spawn: the continuation of its block, from the next place on, with empty slots for the result and for
-- the arrays that the call took
abbrev pub spawn_job : State → Option ℕ → List Taken → (limit before : ℕ) → Job
spawn_job s target taken limit before = record {
  extent = ToJoin;
  place = s.place + 1;
  slots = taken_from Spawned target s.slots;
  arrays = moved_out (map slot_taken taken) s.arrays;
  readers = s.readers;
  depth = s.depth;
  limit = limit;
  before = before;
}

-- a strand after an instruction that led from one state to another
abbrev pub goes_on : Turn → (from to : State) → (limit before count : ℕ) → List Job → Strand
goes_on Goes from to limit before count outs = Going to count outs
goes_on (HandsOut target taken) from to limit before count outs =
    Going to count (spawn_job from target taken limit (before + count) ∷ outs)
goes_on ComesBack from to limit before count outs = Waits to count outs

-- the join: the continuation is done, pending results go back into their slots, and the block continues at its join
abbrev pub resumed : State → JoinFrame → Trace → State
resumed s frame t =
    record s {
      place = frame.place;
      operands = frame.operands;
      slots = settled s.results frame.slots;
      arrays = settled s.arrived frame.arrays;
      readers = frame.readers;
      results = [];
      arrived = [];
      trace = joined s.trace t;
    }

-- the effect is a trap, over the limit, or out of memory
abbrev pub HasStopped : Effect → Type 0
HasStopped (Ended v arrays t cost) = ⊥
HasStopped (Joined frame t cost) = ⊥
HasStopped (TrapIn trap line lines cost) = Unit {0}
HasStopped OverLimit = Unit {0}
HasStopped Memory = Unit {0}

-- the effect of a strand whose continuation stopped, after the trace and cost of the block and the call before it
abbrev pub stopped_after : State → (count : ℕ) → Effect → Effect
stopped_after s count (TrapIn trap line lines cost) = TrapIn trap line (s.trace.lines ++ lines) (count + cost)
stopped_after s count e = e

-- a dropped effect matters only if memory ran out
abbrev pub dropped : Effect → Effect → Effect
dropped e Memory = Memory
dropped e (Ended v arrays t cost) = e
dropped e (Joined frame t cost) = e
dropped e (TrapIn trap line lines cost) = e
dropped e OverLimit = e

-- the cost that an effect includes
abbrev pub cost_of : Effect → ℕ
cost_of (Ended v arrays t cost) = cost
cost_of (Joined frame t cost) = cost
cost_of (TrapIn trap line lines cost) = cost
cost_of OverLimit = 0
cost_of Memory = 0

mutual
  -- the reachable states of a strand of a job, for every schedule: one rule for each step
  pub data Reached (code : Code) : (job : Job) → Strand → Type 0 where
    Started : (job : Job) → job.before ≤ job.limit → Reached code job (Going (job_start job) 0 [])
    -- an instruction within the limit
    Ran : (job : Job) (s s' : State) (count : ℕ) (outs : List Job)
        → Reached code job (Going s count outs) → has_come job.extent code s ≡ false → step code s ≡ On s'
        → job.before + (count + 1) ≤ job.limit
        → Reached code job (goes_on (turn code s) s s' job.limit job.before (count + 1) outs)
    Fell : (job : Job) (s : State) (count : ℕ) (outs : List Job) (trap : Trap) (line : ℕ) (lines : List ℤ)
        → Reached code job (Going s count outs) → has_come job.extent code s ≡ false
        → step code s ≡ Stops trap line lines → job.before + (count + 1) ≤ job.limit
        → Reached code job (Halted (TrapIn trap line lines (count + 1)) outs)
    -- the next instruction would exceed the limit
    TooMuch : (job : Job) (s : State) (count : ℕ) (outs : List Job)
        → Reached code job (Going s count outs) → has_come job.extent code s ≡ false
        → job.limit < job.before + (count + 1)
        → Reached code job (Halted OverLimit outs)
    -- memory may run out at any step
    NoMemory : (job : Job) (strand : Strand)
        → Reached code job strand → Reached code job (Halted Memory (outs_of strand))
    -- give: the strand receives the effect of its newest job out
    Given : (job out : Job) (s : State) (count : ℕ) (outs : List Job) (frame : JoinFrame) (t : Trace) (cost : ℕ)
        → Reached code job (Waits s count (out ∷ outs)) → Makes code out (Joined frame t cost)
        → job.before + (count + cost) ≤ job.limit
        → Reached code job (Going (resumed s frame t) (count + cost) outs)
    GivenTooMuch : (job out : Job) (s : State) (count : ℕ) (outs : List Job) (e : Effect)
        → Reached code job (Waits s count (out ∷ outs)) → Makes code out e
        → job.limit < job.before + (count + cost_of e)
        → Reached code job (Halted OverLimit outs)
    GivenStop : (job out : Job) (s : State) (count : ℕ) (outs : List Job) (e : Effect)
        → Reached code job (Waits s count (out ∷ outs)) → Makes code out e → HasStopped e
        → job.before + (count + cost_of e) ≤ job.limit
        → Reached code job (Halted (stopped_after s count e) outs)
    -- skip: the call stopped, and nobody executed its continuation
    Skipped : (job out : Job) (e : Effect) (outs : List Job)
        → Reached code job (Halted e (out ∷ outs)) → Reached code job (Halted e outs)
    -- the call stopped, and its continuation was executed elsewhere
    Dropped : (job out : Job) (e e' : Effect) (outs : List Job)
        → Reached code job (Halted e (out ∷ outs)) → Makes code out e' → Reached code job (Halted (dropped e e') outs)

  -- the effects that strands may make for a job
  pub data Makes (code : Code) : (job : Job) → Effect → Type 0 where
    Arrived : (job : Job) (s : State) (count : ℕ)
        → Reached code job (Going s count []) → has_come job.extent code s ≡ true
        → Makes code job (Joined (standing s) s.trace count)
    Returned : (job : Job) (s : State) (count : ℕ) (v : Option ℤ) (arrays : Slots (List ℤ)) (t : Trace)
        → Reached code job (Going s count []) → has_come job.extent code s ≡ false → step code s ≡ Ends v arrays t
        → job.before + (count + 1) ≤ job.limit
        → Makes code job (Ended v arrays t (count + 1))
    Stopped : (job : Job) (e : Effect)
        → Reached code job (Halted e []) → Makes code job e
    -- a job that was given up because memory ran out before it had a strand
    GivenUp : (job : Job) → Makes code job Memory
