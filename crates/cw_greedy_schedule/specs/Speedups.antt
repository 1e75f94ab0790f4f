-- Which run of code has speedups, what they are, and why another run has none.
use Rattle.std.specs.Prelude.{◌≡◌, ◌≤◌, ℕ, ℤ, Bool, true, false, ◌&&◌, nat_le, if◌then◌else◌, List, map, ◌⊎◌, Option, Some, None}
use Rattle.std.specs.Prelude.{Result, MatchResult}
use Rattle.std.specs.Global.{Vec}
use Rattle.cw_model.specs.declared.burden.Burden.{Burden}
use Rattle.cw_model.specs.declared.limits.TheConstants.{MOST_BURDEN, MOST_LIMIT, MOST_STRANDS}
use Rattle.cw_model.specs.Trees.{Tree, work}
use Rattle.cw_model.specs.Answers.{TrappedAt, OverLimit}
use Rattle.cw_text.specs.declared.fault.Fault.{Fault}
use Rattle.cw_text.specs.declared.fault.Fault.TheVariants as fault
use Rattle.cw_greedy.specs.Blocks.{strand_count}
use Rattle.cw_greedy.specs.Greedy.{greedy_length}
use Rattle.cw_greedy.specs.Recorded.{Recorded}
use Rattle.cw_greedy.specs.Recording.{IsKept}
use Rattle.cw_meter.specs.Whole.{AreReadings}
use Rattle.cw_code.specs.Code.{Code}
use Rattle.cw_code.specs.Run.{code_serial}
use Rattle.cw_machine.specs.Recorded.{Records}
use Rattle.cw_machine.specs.Runs.{IsFailure}
use Rattle.cw_greedy_schedule.specs.Schedules as schedules
use Rattle.cw_greedy_schedule.specs.State.{IsWithin}
use Rattle.cw_greedy_schedule.specs.Counts.{processor_counts}
use Rattle.cw_greedy_schedule.specs.declared.speedups.SpeedupRow.{SpeedupRow}
use Rattle.cw_greedy_schedule.specs.declared.speedups.Speedup.{Speedup}

-- the length of the greedy schedule of a tree, if the tree has no more strands than are kept
abbrev pub steps_on : (processors : ℕ) → Tree → Option ℕ
steps_on p t = if nat_le (strand_count t) MOST_STRANDS then Some (greedy_length p t) else None

-- the row of a tree for this number of processors
abbrev pub row_on : Tree → (processors : ℕ) → SpeedupRow
row_on t p = record { processors = p; steps = steps_on p t }

-- the rows of a tree up to this number of processors
abbrev pub rows_up_to : (most : ℕ) → Tree → List SpeedupRow
rows_up_to most t = map (row_on t) (processor_counts most)

-- these are the rows of each tree that has this record, for these numbers of processors
abbrev pub AreRowsOf : Recorded → (counts : List ℕ) → Vec SpeedupRow → Type 0
AreRowsOf kept counts rows = (t : Tree) → IsKept t kept → rows.items ≡ map (row_on t) counts

-- a tree whose work is in the range of limits has this record
abbrev pub HasSmallTree : Recorded → Type 0
HasSmallTree kept = (t : Tree) × (IsKept t kept × (work t ≤ MOST_LIMIT))

-- the run of the code has this record, and its work is in the range of limits
abbrev pub IsSmallRecord : Code → List ℤ → (n : ℕ) → Recorded → Type 0
IsSmallRecord code args n kept = (r : Records code args n kept) × (work r.tree ≤ MOST_LIMIT)

-- speedups up to this number of processors can be asked for: the number of arguments is the number of main's parameters,
-- and the limit, the burden and the number of processors are in their ranges
abbrev pub is_asked : Code → List ℤ → (n : ℕ) → Burden → (most : ℕ) → Bool
is_asked code args n burden most = schedules.is_asked code args n most && nat_le burden.charge MOST_BURDEN

-- what was asked for is in range, the run ends, these are the measures of its tree and its rows, and the length of each
-- greedy schedule is within its bounds
pub record SpeedsUp (code : Code) (args : List ℤ) (n : ℕ) (burden : Burden) (most : ℕ) (s : Speedup) : Type 0 where
  pub asked : is_asked code args n burden most ≡ true
  pub tree : Tree
  pub ends : schedules.Ends code args n tree
  pub measure : AreReadings burden tree s.measure
  pub rows : s.rows.items ≡ rows_up_to most tree
  pub bounds : (p : ℕ) → 1 ≤ p → IsWithin p (greedy_length p tree) tree

-- why a run has no speedups: what was asked for is out of range; or the run costs more than its limit, or traps, or
-- memory ran out
abbrev pub IsNotSpedUp : Code → List ℤ → (n : ℕ) → Burden → (most : ℕ) → Fault → Type 0
IsNotSpedUp code args n burden most fault.Arguments = is_asked code args n burden most ≡ false
IsNotSpedUp code args n burden most fault.OverLimit =
    (is_asked code args n burden most ≡ true) × (code_serial code args n ≡ Some OverLimit)
IsNotSpedUp code args n burden most (fault.Trap trap line output) =
    (is_asked code args n burden most ≡ true) × (code_serial code args n ≡ Some (TrappedAt trap line output.items))
IsNotSpedUp code args n burden most fault.Memory = is_asked code args n burden most ≡ true
IsNotSpedUp code args n burden most _ = ⊥

-- why a run whose strands were recorded has no measures: memory ran out, or a second run of the code failed
abbrev pub IsNotMeasured : Code → List ℤ → (n : ℕ) → Burden → Fault → Type 0
IsNotMeasured code args n burden e = (e ≡ fault.Memory) ⊎ IsFailure code args n burden e

-- a run of code has the speedups that the code's meaning gives, or it is said why it has none
abbrev pub SpeedsUpAsCode : Code → List ℤ → (n : ℕ) → Burden → (most : ℕ) → Result Speedup Fault → Type 0
SpeedsUpAsCode code args n burden most result =
    MatchResult result (SpeedsUp code args n burden most) (IsNotSpedUp code args n burden most)
