-- A continuation that is taken back executes as it would in a strand of its own.
use Rattle.std.specs.Prelude.{◌≡◌, ℕ, ◌+◌, ◌≤◌, false, List, []}
use Rattle.cw_code.specs.Code.{Code}
use Rattle.cw_code.specs.Run.{State}
use Rattle.cw_code.specs.Jobs.{Extent, ToJoin, has_come, JoinFrame, Arrives, travel, Job, course}
use Rattle.cw_model.specs.Outcome.{Trace}
use Rattle.cw_code.specs.Over.{under}
use Rattle.cw_code.specs.Strands.{Going, Waits, Halted, rest_at, resumed, stopped_after}
use Rattle.cw_code.specs.Steps.{Advanced, Ran, Handed, Unfit, advance}

-- the same job, except for the cost before it and the limit
pub record SameWork (a b : Job) : Type 0 where
  pub extent : a.extent ≡ b.extent
  pub place : a.place ≡ b.place
  pub slots : a.slots ≡ b.slots
  pub arrays : a.arrays ≡ b.arrays
  pub readers : a.readers ≡ b.readers
  pub depth : a.depth ≡ b.depth

-- an instruction to the strand of a continuation and to the strand that took it back, if the spawned call had ended at
-- b after count instructions: the second goes on over b, hands out a job, waits or stops if and only if the first does
abbrev pub Alike : (b : State) → (count : ℕ) → Advanced → Advanced → Type 0
Alike b count (Ran (Going s n outs)) (Ran (Going t m outs')) = (t ≡ under b s) × (m ≡ count + n)
Alike b count (Ran (Waits s n outs)) (Ran (Waits t m outs')) = (t ≡ under b s) × (m ≡ count + n)
Alike b count (Ran (Halted e outs)) (Ran (Halted e' outs')) = e' ≡ stopped_after b count e
Alike b count (Handed out (Going s n outs)) (Handed out' (Going t m outs')) =
    (t ≡ under b s) × (m ≡ count + n) × SameWork out out'
Alike b count Unfit Unfit = Unit {0}
Alike b count _ _ = ⊥

-- one instruction of the continuation before its join, in its own strand and in the one that took it back, both within
-- their limits
abbrev pub RunsAlike : Type 0
RunsAlike =
    (code : Code) (rest job : Job) (b s : State) (count n : ℕ) (outs outs' : List Job) → rest.extent ≡ ToJoin
    → has_come ToJoin code s ≡ false
    → rest.before + (n + 1) ≤ rest.limit → job.before + ((count + n) + 1) ≤ job.limit
    → Alike b count (advance code rest (Going s n outs)) (advance code job (Going (under b s) (count + n) outs'))

-- if the continuation's own run reaches the join with this much left, the run that took it back continues from the
-- join as given, with as much left
abbrev pub JoinsAlike : Type 0
JoinsAlike =
    (code : Code) (y : Extent) (s : State) (limit before n left : ℕ) (frame : JoinFrame) (t : Trace) → s.operands ≡ []
    → course code (rest_at s limit before) n ≡ Arrives frame t left
    → travel y code n s ≡ travel y code left (resumed s frame t)
