-- The operations on a strand: an instruction, the effect of the newest job out, a skip, out of memory.
use Rattle.std.specs.Prelude.{◌≡◌, ℕ, ◌+◌, ◌≤◌, if◌then◌else◌, nat_lt, List, [], ◌∷◌}
use Rattle.cw_code.specs.Code.{Code}
use Rattle.cw_code.specs.Run.{State, Transition, On, Ends, Stops, Stuck, step}
use Rattle.cw_code.specs.Jobs.{has_come, standing, Job, job_start, Effect, Ended, Joined, TrapIn, OverLimit}
use Rattle.cw_code.specs.Jobs.{Memory, JobMeaning}
use Rattle.cw_code.specs.Strands.{Strand, Going, Waits, Halted, outs_of, Turn, Goes, HandsOut, ComesBack, turn}
use Rattle.cw_code.specs.Strands.{spawn_job, resumed, stopped_after, dropped, cost_of}
use Rattle.cw_code.specs.Promises.{IsStrandOf}

-- the start of a strand
abbrev pub started : Job → Strand
started job = Going (job_start job) 0 []

-- the result of an advance: an instruction was executed; it was a spawn, and the continuation of its block is handed
-- out; the strand is at a join, where its newest job out must be given, skipped or taken back; it has ended with an
-- effect; or the code is not well-formed
pub data Advanced : Type 0 where
  Ran : Strand → Advanced
  Handed : Job → Strand → Advanced
  AtSync : Advanced
  Finished : Effect → Advanced
  Unfit : Advanced

-- the end of a strand, which must have no job out
abbrev pub finished : List Job → Effect → Advanced
finished [] e = Finished e
finished (out ∷ outs) e = Unfit

-- the result of an advance to a next state, by the effect of the instruction on the strand
abbrev pub turned : Turn → (from to : State) → (limit before count : ℕ) → List Job → Advanced
turned Goes from to limit before count outs = Ran (Going to count outs)
turned (HandsOut target taken) from to limit before count outs =
    let out = spawn_job from target taken limit (before + count) in Handed out (Going to count (out ∷ outs))
turned ComesBack from to limit before count outs = Ran (Waits to count outs)

-- the result of an advance, by the result of the instruction
abbrev pub went_on : Turn → State → Transition → (limit before count : ℕ) → List Job → Advanced
went_on turn from (On s) limit before count outs = turned turn from s limit before count outs
went_on turn from (Ends v arrays t) limit before count outs = finished outs (Ended v arrays t count)
went_on turn from (Stops trap line lines) limit before count outs = Ran (Halted (TrapIn trap line lines count) outs)
went_on turn from Stuck limit before count outs = Unfit

-- advance: one instruction, which adds to the cost; beyond the limit, the strand stops
abbrev pub advance : Code → Job → Strand → Advanced
advance code job (Going s count outs) =
    if has_come job.extent code s then finished outs (Joined (standing s) s.trace count)
    else (if nat_lt job.limit (job.before + (count + 1)) then Ran (Halted OverLimit outs)
    else went_on (turn code s) s (step code s) job.limit job.before (count + 1) outs)
advance code job (Waits s count outs) = AtSync
advance code job (Halted e []) = Finished e
advance code job (Halted e (out ∷ outs)) = AtSync

-- give, within the limit
abbrev pub given_to : State → (count : ℕ) → List Job → Effect → Strand
given_to s count outs (Joined frame t cost) = Going (resumed s frame t) (count + cost) outs
given_to s count outs (Ended v arrays t cost) = Halted OverLimit outs
given_to s count outs (TrapIn trap line lines cost) = Halted (stopped_after s count (TrapIn trap line lines cost)) outs
given_to s count outs OverLimit = Halted OverLimit outs
given_to s count outs Memory = Halted Memory outs

-- give: the strand receives the effect of its newest job out
abbrev pub give : Job → Strand → Effect → Strand
give job (Going s count outs) e = Going s count outs
give job (Waits s count []) e = Waits s count []
give job (Waits s count (out ∷ outs)) e =
    if nat_lt job.limit (job.before + (count + cost_of e)) then Halted OverLimit outs else given_to s count outs e
give job (Halted e' []) e = Halted e' []
give job (Halted e' (out ∷ outs)) e = Halted (dropped e' e) outs

-- skip: the newest job out was taken back, nobody executed it, and its call has stopped
abbrev pub skip : Strand → Strand
skip (Halted e (out ∷ outs)) = Halted e outs
skip strand = strand

-- take back: the newest job out was taken back, nobody executed it, and its call has ended; the strand itself
-- continues, and the result of the call stays pending until the join
abbrev pub take_back : Strand → Strand
take_back (Waits s count (out ∷ outs)) = Going s count outs
take_back strand = strand

-- memory ran out
abbrev pub out_of_memory : Strand → Strand
out_of_memory strand = Halted Memory (outs_of strand)

-- the strand waits for its newest job out
abbrev pub WaitsFor : Strand → Job → List Job → Type 0
WaitsFor (Going s count outs) out others = ⊥
WaitsFor (Waits s count outs) out others = outs ≡ out ∷ others
WaitsFor (Halted e outs) out others = outs ≡ out ∷ others

-- the properties after an advance
abbrev pub AdvancePreservesJob : Code → Job → Strand → Advanced → Type 0
AdvancePreservesJob code job old (Ran new) = IsStrandOf code job new × (outs_of new ≡ outs_of old)
AdvancePreservesJob code job old (Handed out new) =
    IsStrandOf code job new × (outs_of new ≡ out ∷ outs_of old) × (out.before ≤ out.limit)
AdvancePreservesJob code job old AtSync = Unit {0}
AdvancePreservesJob code job old (Finished e) = JobMeaning code job e
AdvancePreservesJob code job old Unfit = Unit {0}

-- the operations on a strand preserve that it is a strand of its job, and its final effect means the job
pub record CallsPreserveJob (code : Code) : Type 0 where
  pub starting : (job : Job) → job.before ≤ job.limit → IsStrandOf code job (started job)
  pub advancing : (job : Job) (strand : Strand) → IsStrandOf code job strand →
      AdvancePreservesJob code job strand (advance code job strand)
  pub giving : (job : Job) (strand : Strand) (out : Job) (others : List Job) (e : Effect) → IsStrandOf code job strand →
      WaitsFor strand out others → JobMeaning code out e
      → IsStrandOf code job (give job strand e) × (outs_of (give job strand e) ≡ others)
  pub skipping : (job : Job) (strand : Strand) → IsStrandOf code job strand → IsStrandOf code job (skip strand)
  pub taking_back : (job : Job) (strand : Strand) → IsStrandOf code job strand → IsStrandOf code job (take_back strand)
  pub wanting : (job : Job) (strand : Strand) → IsStrandOf code job strand → IsStrandOf code job (out_of_memory strand)
