-- The greedy schedule of a run of code, and the reasons why a run has none.
use Rattle.std.specs.Prelude.{◌≡◌, ◌≤◌, ◌<◌, ℕ, ℤ, Bool, true, false, ◌&&◌, nat_le, List, Some, Result, MatchResult}
use Rattle.cw_model.specs.declared.total.Total.{Total}
use Rattle.cw_model.specs.Burdens.{no_burden}
use Rattle.cw_model.specs.Trees.{Tree, work, span}
use Rattle.cw_model.specs.Answers.{Ended, TrappedAt, OverLimit}
use Rattle.cw_text.specs.declared.fault.Fault.{Fault}
use Rattle.cw_text.specs.declared.fault.Fault.TheVariants as fault
use Rattle.cw_model.specs.declared.limits.TheConstants.{MOST_PROCESSORS, MOST_STRANDS}
use Rattle.cw_greedy.specs.Recorded.{capped}
use Rattle.cw_greedy.specs.Blocks.{strand_count}
use Rattle.cw_greedy.specs.Greedy.{greedy_length}
use Rattle.cw_greedy_schedule.specs.State.{IsWithin}
use Rattle.cw_code.specs.Code.{Code}
use Rattle.cw_code.specs.Run.{code_serial}
use Rattle.cw_machine.specs.Runs.{is_request}
use Rattle.cw_greedy_schedule.specs.declared.schedules.Schedule.{Schedule}

-- the number of processors is in its range
abbrev pub is_counted : (processors : ℕ) → Bool
is_counted processors = nat_le 1 processors && nat_le processors MOST_PROCESSORS

-- the request is valid: the number of arguments is the number of `main`'s parameters, and the limit and the number of
-- processors are in their ranges
abbrev pub is_asked : Code → List ℤ → (n processors : ℕ) → Bool
is_asked code args n processors = is_counted processors && is_request code args n no_burden

-- the run ends, with this strand tree
pub record Ends (code : Code) (args : List ℤ) (n : ℕ) (tree : Tree) : Type 0 where
  pub value : ℤ
  pub lines : List ℤ
  pub totals : List Total
  pub answer : code_serial code args n ≡ Some (Ended value lines totals tree)

-- the request is valid, the run ends, and its tree has no more strands than are recorded; the schedule holds the work
-- and the span of the tree and the length of its greedy schedule, within its bounds
pub record Schedules (code : Code) (args : List ℤ) (n p : ℕ) (s : Schedule) : Type 0 where
  pub asked : is_asked code args n p ≡ true
  pub tree : Tree
  pub ends : Ends code args n tree
  pub fits : strand_count tree ≤ MOST_STRANDS
  pub processors : s.processors ≡ p
  pub work : s.work ≡ work tree
  pub span : s.span ≡ span tree
  pub greedy : s.greedy ≡ greedy_length p tree
  pub bounds : IsWithin p s.greedy tree

-- the request is valid, and the run ends with this number of strands, which are more than are recorded
pub record HasTooManyStrands (code : Code) (args : List ℤ) (n processors k : ℕ) : Type 0 where
  pub asked : is_asked code args n processors ≡ true
  pub tree : Tree
  pub ends : Ends code args n tree
  pub many : MOST_STRANDS < strand_count tree
  pub told : k ≡ capped (strand_count tree)

-- the reason why a run has no schedule: the request is not valid, or the run exceeds its limit, traps, has too many
-- strands, or memory ran out
abbrev pub IsNotScheduled : Code → List ℤ → (n processors : ℕ) → Fault → Type 0
IsNotScheduled code args n processors fault.Arguments = is_asked code args n processors ≡ false
IsNotScheduled code args n processors fault.OverLimit =
    (is_asked code args n processors ≡ true) × (code_serial code args n ≡ Some OverLimit)
IsNotScheduled code args n processors (fault.Trap trap line output) =
    (is_asked code args n processors ≡ true) × (code_serial code args n ≡ Some (TrappedAt trap line output.items))
IsNotScheduled code args n processors (fault.Strands k) = HasTooManyStrands code args n processors k
IsNotScheduled code args n processors fault.Memory = is_asked code args n processors ≡ true
IsNotScheduled code args n processors _ = ⊥

-- the result is the schedule of the run, as the meaning of the code defines it, or the reason why there is none
abbrev pub SchedulesAsCode : Code → List ℤ → (n processors : ℕ) → Result Schedule Fault → Type 0
SchedulesAsCode code args n processors result =
    MatchResult result (Schedules code args n processors) (IsNotScheduled code args n processors)
