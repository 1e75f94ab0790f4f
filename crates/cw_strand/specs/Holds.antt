-- The representation of a strand of the definitions by a strand in memory.
use Rattle.std.specs.Prelude.{◌≡◌, ◌≢◌, ◌⊎◌, ℕ, suc, ◌+◌, ◌-◌, ◌≤◌, Bool, true, false, List, [], ◌∷◌, length, map, reverse}
use Rattle.std.specs.Prelude.{slice_get, Some}
use Rattle.cw_model.specs.declared.limits.TheConstants.{MOST_LIMIT}
use Rattle.cw_measure.specs.OpenParts.{has_spawned}
use Rattle.cw_meter.specs.Details.{IsLight, IsSite}
use Rattle.cw_code.specs.Code.{code_view}
use Rattle.cw_code.specs.Run.{State}
use Rattle.cw_code.specs.Jobs as jobs
use Rattle.cw_code.specs.Jobs.{ToJoin}
use Rattle.cw_code.specs.Over.{beneath, under}
use Rattle.cw_code.specs.Strands as strands
use Rattle.cw_code.specs.Strands.{Going, Waits, Halted, rest_of}
use Rattle.cw_code.specs.Promises.{IsStrandOf}
use Rattle.cw_jobs.specs.Strands.{IsFrom, site_at}
use Rattle.cw_code.specs.Fits.{slots_lent}
use Rattle.cw_machine.specs.Calls.{loans_of}
use Rattle.cw_runnable.specs.declared.verified.Verified.{Verified}
use Rattle.cw_jobs.specs.declared.call.Extent.{Extent}
use Rattle.cw_jobs.specs.declared.call.Extent.TheVariants as extent
use Rattle.cw_jobs.specs.declared.call.Parts.{Parts}
use Rattle.cw_jobs.specs.declared.job.Job.{Job}
use Rattle.cw_jobs.specs.Jobs.{extent_of, begins_at, origin_of, code_of, IsJob}
use Rattle.cw_machine.specs.Arrays.{Out, IsFit, Ok}
use Rattle.cw_machine.specs.RepresentsState.{Remains, SharesFrozen}
use Rattle.cw_machine.specs.Hands.{ComesRound}
use Rattle.cw_machine.specs.RepresentsState.{Comes}
use Rattle.cw_machine.specs.Rests.{with_outs}
use Rattle.cw_machine.specs.Unwinding.{LieBelow}
use Rattle.cw_machine.specs.JobRuns.{ok_of, IsBase, IsEmptied}
use Rattle.cw_machine.specs.Segments.{calls_in, IsBaseState, Setting, RepresentsRunState}
use Rattle.cw_strand.specs.declared.strand.Lent.{Lent}
use Rattle.cw_strand.specs.declared.strand.Mode.{Mode}
use Rattle.cw_strand.specs.declared.strand.Mode.TheVariants as mode
use Rattle.cw_strand.specs.declared.strand.Strand.{Strand}
use Rattle.cw_strand.specs.Levels.{Level, levels_of, IsBackAt, waiting_over}

-- the job of a strand
abbrev pub its_job : Strand → Job
its_job self = self.of.value

-- the jobs that a strand has out, the newest first
abbrev pub outs : Strand → List Job
outs self = map (λ l. l.job.value) (reverse self.lent.items)

-- the parts of the job of a strand
abbrev pub its_parts : Strand → Parts
its_parts self = (its_job self).parts.value

-- the code of the job of a strand
abbrev pub its_code : Strand → Verified
its_code self = code_of (its_parts self)

-- the maximum number of instructions that the strand may execute
abbrev pub its_end : Strand → ℕ
its_end self = (its_parts self).limit - (its_parts self).before

-- the number of calls that wait in the newest spawned call whose continuation is out; 0 if none is out
abbrev pub floor_in : List Lent → ℕ
floor_in [] = 0
floor_in (h ∷ lent) = h.home.floor

-- the floor of the run of a strand
abbrev pub floor_of : Strand → ℕ
floor_of self = floor_in (reverse self.lent.items)

-- the parts of a job that is out
abbrev pub lent_parts : Lent → Parts
lent_parts h = h.job.value.parts.value

-- a meter begins as a job says
abbrev pub begins_as : (x : Extent) (site : ℕ) → IsFrom (begins_at x site) (extent_of x)
begins_as extent.WholeCall site = tt
begins_as extent.ToJoin site = tt

-- the ground of a job, on which it is executed: its enclosing blocks and calls, and the number of parameters of its
-- call that do not move; at the join of a continuation the arrays return to where they were
pub record Ground (v : Verified) (is : IsFit v) (p : Parts) (j : jobs.Job) : Type 0 where
  pub job : IsJob v is p j
  pub light : IsLight p.detail
  pub base : State
  pub round : IsBaseState (extent_of p.extent) base
  pub params : ℕ
  pub joins : p.extent ≡ extent.ToJoin → (b : IsBase v is j p.rest base) × (params ≡ b.good.seat.func.array_params)

-- the setting of the run of the job, for its machine and its meter
abbrev pub setting_of : {v : Verified} {is : IsFit v} {p : Parts} {j : jobs.Job} → Ground v is p j → Setting
setting_of {v} {is} {p} {j} g = record {
  extent = extent_of p.extent;
  base = g.base;
  round = g.round;
  from = origin_of p;
  begins = begins_as p.extent p.site;
  detail = p.detail;
  light = g.light;
}

-- the machine's premises, with these arrays out
abbrev pub ok_with : {v : Verified} {is : IsFit v} {p : Parts} {j : jobs.Job} → Ground v is p j → List Out → Ok v
ok_with {v} {is} {p} {j} g outs =
    with_outs (ok_of v is g.params (length j.arrays) p.rest.slices.items (length g.base.around)) outs

-- a job that is out is the continuation of the block that waits at a level, with the arrays that are out of the
-- machine for it
pub record IsLent (v : Verified) (is : IsFit v) (p : Parts) (base : State) (l : Level) (o : Out) (h : Lent) : Type 0
  where
    pub level : o.level ≡ length (beneath base l.around)
    pub first : o.first ≡ h.home.lender.first
    pub slots : o.slots ≡ h.home.lender.slots
    pub wide : o.slots ≡ length l.waiting.arrays
    pub lent : o.lent ≡ slots_lent (loans_of v h.home.lent)
    pub slices : o.slices ≡ (lent_parts h).rest.slices.items
    pub job : IsJob v is (lent_parts h) (rest_of l.waiting p.limit (lent_parts h).before)
    pub code : code_of (lent_parts h) ≡ v
    pub joins : (lent_parts h).extent ≡ extent.ToJoin
    pub detail : (lent_parts h).detail ≡ p.detail
    pub site : IsSite p.detail (lent_parts h).site (site_at (origin_of p) l.around)
    pub target : h.home.target ≡ l.waiting.target
    pub floor : h.home.floor ≡ suc (calls_in (beneath base l.around))
    pub comes : Comes (lent_parts h).rest.cells.items 0 (length l.waiting.slots)
        (waiting_over base l.waiting l.around).results
        × ComesRound (lent_parts h).rest.cells.items 0 (length l.waiting.slots) (beneath base l.around)

-- each job that is out is such a continuation, the newest first; the arrays that are out for a job are above the
-- arrays that are out for older jobs
abbrev pub Lends : (v : Verified) → IsFit v → Parts → (base : State) → List Level → List Out → List Lent → Type 0
Lends v is p base [] [] [] = Unit {0}
Lends v is p base (l ∷ levels) (o ∷ outs) (h ∷ lent) =
    IsLent v is p base l o h × LieBelow outs o.first × Lends v is p base levels outs lent
Lends v is p base _ _ _ = ⊥

-- the job of the definitions for the continuation that is out at a level
abbrev pub rest_in : Parts → Level → Lent → jobs.Job
rest_in p l h = rest_of l.waiting p.limit (lent_parts h).before

-- the continuation at this level is the newest that is out, and the others satisfy this property
abbrev pub IsNewestOut : Parts → Level → jobs.Job → (others : List Level → List Lent → Type 0) → List Level → List Lent
    → Type 0
IsNewestOut p l job others (l' ∷ levels) (h ∷ lent) = (l' ≡ l) × (job ≡ rest_in p l h) × others levels lent
IsNewestOut p l job others _ _ = ⊥

-- THE CONTINUATIONS THAT ARE OUT. The definitions have a job out for each spawned call around a state. For some of
-- these calls the strand has the continuation out, at these levels. It executes each other call in place, which is as
-- if the continuation was out and nobody took it
abbrev pub AreOut : Parts → (all : List Level) → List jobs.Job → (levels : List Level) → List Lent → Type 0
AreOut p [] jobs_out levels lent = (jobs_out ≡ []) × (levels ≡ []) × (lent ≡ [])
AreOut p (l ∷ all) [] levels lent = ⊥
AreOut p (l ∷ all) (job ∷ jobs_out) levels lent =
    AreOut p all jobs_out levels lent
    ⊎ IsNewestOut p l job (λ others more. AreOut p all jobs_out others more) levels lent

-- the continuations that are out of a strand that waits for the continuation at a level
abbrev pub AreBack : Parts → Level → (all : List Level) → List jobs.Job → (levels : List Level) → List Lent → Type 0
AreBack p l all [] levels lent = ⊥
AreBack p l all (job ∷ jobs_out) levels lent =
    IsNewestOut p l job (λ others more. AreOut p all jobs_out others more) levels lent

-- the run of a strand represents a state after `count` instructions, with a job out at each of these levels
pub record Runs (self : Strand) (is : IsFit (its_code self)) (j : jobs.Job)
    (g : Ground (its_code self) is (its_parts self) j) (levels : List Level) (s : State) (count : ℕ) : Type 0 where
  pub counts : count ≡ self.count
  pub outs : List Out
  pub lends : Lends (its_code self) is (its_parts self) g.base levels outs (reverse self.lent.items)
  pub shows : RepresentsRunState (its_code self) (ok_with g outs) (setting_of g) self.count self.run s
  -- the first call of the run only reads the arrays that its job has as shares
  pub frozen : SharesFrozen (its_code self) (ok_with g outs) (under g.base s)

-- the strand is running
pub record Ongoing (self : Strand) (is : IsFit (its_code self)) (j : jobs.Job)
    (g : Ground (its_code self) is (its_parts self) j) (s : State) (count : ℕ) (jobs_out : List jobs.Job) : Type 0 where
  pub levels : List Level
  pub runs : Runs self is j g levels s count
  pub are : AreOut (its_parts self) (levels_of s.around) jobs_out levels (reverse self.lent.items)

-- a spawned call has returned to its block, and the continuation of this block is the newest job out
pub record Waited (self : Strand) (is : IsFit (its_code self)) (j : jobs.Job)
    (g : Ground (its_code self) is (its_parts self) j) (s : State) (count : ℕ) (jobs_out : List jobs.Job) : Type 0 where
  pub level : Level
  pub back : IsBackAt level s
  pub spawned : has_spawned s.trace.events ≡ true
  pub others : List Level
  pub runs : Runs self is j g (level ∷ others) s count
  pub are : AreBack (its_parts self) level (levels_of s.around) jobs_out (level ∷ others) (reverse self.lent.items)

-- the arrays of a strand that stopped are known, and where each must return
pub record Stands (self : Strand) (is : IsFit (its_code self)) (j : jobs.Job)
    (g : Ground (its_code self) is (its_parts self) j) : Type 0 where
  pub levels : List Level
  pub outs : List Out
  pub lends : Lends (its_code self) is (its_parts self) g.base levels outs (reverse self.lent.items)
  pub remains : Remains (its_code self) (ok_with g outs) self.run.machine

-- a strand in memory in this mode represents this strand of the definitions
abbrev pub HeldIn : (self : Strand) (is : IsFit (its_code self)) (j : jobs.Job)
    → Ground (its_code self) is (its_parts self) j → Mode → strands.Strand → Type 0
HeldIn self is j g mode.Going (Going s count jobs_out) = Ongoing self is j g s count jobs_out
HeldIn self is j g mode.Waiting (Waits s count jobs_out) = Waited self is j g s count jobs_out
HeldIn self is j g (mode.Trapped c l) (Halted e jobs_out) =
    (e ≡ jobs.TrapIn c l self.run.machine.lines.items self.count) × Stands self is j g
HeldIn self is j g mode.Over (Halted e jobs_out) = (e ≡ jobs.OverLimit) × Stands self is j g
HeldIn self is j g mode.Memory (Halted e jobs_out) = e ≡ jobs.Memory
HeldIn self is j g mode.GivenUp (Halted e jobs_out) = (e ≡ jobs.Memory) × Stands self is j g
HeldIn self is j g _ _ = ⊥

-- A STRAND IN MEMORY REPRESENTS A STRAND OF THE DEFINITIONS, which is a strand of its job
pub record Holds (self : Strand) (is : IsFit (its_code self)) (j : jobs.Job) : Type 0 where
  pub ground : Ground (its_code self) is (its_parts self) j
  pub strand : strands.Strand
  pub is_of : IsStrandOf (code_view (its_code self).code) j strand
  pub held : HeldIn self is j ground self.mode strand

-- the parts of its job that a strand keeps: everything except the arrays
pub record KeepsJob (self : Strand) : Type 0 where
  pub code : code_of self.parts.value ≡ its_code self
  pub extent : self.parts.value.extent ≡ (its_parts self).extent
  pub site : self.parts.value.site ≡ (its_parts self).site
  pub detail : self.parts.value.detail ≡ (its_parts self).detail
  pub limit : self.parts.value.limit ≡ (its_parts self).limit
  pub before : self.parts.value.before ≡ (its_parts self).before
  pub rest : IsEmptied (its_parts self).rest self.parts.value.rest
  -- the numbers of the strand are in their ranges, and it has not exceeded its limit
  pub within : (its_parts self).before + self.count ≤ (its_parts self).limit
  pub range : (its_parts self).limit ≤ MOST_LIMIT

-- boxes that are reused have a share of the strand's code
abbrev pub AreSpare : Strand → Type 0
AreSpare self = (k : ℕ) (b : _) → slice_get self.spares.items k ≡ Some b → code_of b.value ≡ its_code self

-- a job that is out has a share of the strand's code, and is the continuation of a block
pub record IsRest (v : Verified) (h : Lent) : Type 0 where
  pub code : code_of (lent_parts h) ≡ v
  pub joins : (lent_parts h).extent ≡ extent.ToJoin

-- each job that is out has a share of the strand's code, and is the continuation of a block
abbrev pub AreRests : Strand → Type 0
AreRests self = (k : ℕ) (h : Lent) → slice_get (reverse self.lent.items) k ≡ Some h → IsRest (its_code self) h

-- A STRAND OF ITS JOB, for every job of the definitions that the job represents
pub record IsRunning (self : Strand) : Type 0 where
  pub keeps : KeepsJob self
  pub spares : AreSpare self
  pub rests : AreRests self
  pub holds : (is : IsFit (its_code self)) (j : jobs.Job) → IsJob (its_code self) is (its_parts self) j
      → ∥ Holds self is j ∥₁

-- the strand is running
abbrev pub IsGoing : Strand → Type 0
IsGoing self = self.mode ≡ mode.Going

-- the strand waits for the newest job out
abbrev pub IsWaiting : Strand → Type 0
IsWaiting self = self.mode ≡ mode.Waiting

-- a strand in this mode has stopped
abbrev pub stops : Mode → Bool
stops mode.Going = false
stops mode.Waiting = false
stops _ = true

-- the strand trapped or exceeded the limit
abbrev pub halts : Mode → Bool
halts (mode.Trapped trap line) = true
halts mode.Over = true
halts _ = false

-- the execution does not count: memory ran out, or the strand was given up
abbrev pub has_failed : Mode → Bool
has_failed mode.Memory = true
has_failed mode.GivenUp = true
has_failed _ = false

-- the mode after a strand is given up; a strand that has stopped keeps its mode
abbrev pub given_up : Mode → Mode
given_up mode.Going = mode.GivenUp
given_up mode.Waiting = mode.GivenUp
given_up (mode.Trapped trap line) = mode.Trapped trap line
given_up mode.Over = mode.Over
given_up mode.Memory = mode.Memory
given_up mode.GivenUp = mode.GivenUp

-- nothing is known of the run any more
abbrev pub is_lost : Mode → Bool
is_lost mode.Memory = true
is_lost _ = false

-- the strand has stopped, also because memory ran out or because it was given up
abbrev pub HasStopped : Strand → Type 0
HasStopped self = stops self.mode ≡ true

-- memory ran out, or the strand was given up
abbrev pub HasFailed : Strand → Type 0
HasFailed self = has_failed self.mode ≡ true

-- the strand is not running
abbrev pub IsAtSync : Strand → Type 0
IsAtSync self = self.mode ≢ mode.Going
