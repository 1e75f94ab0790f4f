-- The state of the schedule in the loop, and the changes that its parts make.
use Rattle.std.specs.Prelude.{ℕ, ◌+◌, ◌-◌, ◌*◌, ◌≡◌, ◌<◌, ◌≤◌, Bool, true, false, List, length, Some}
use Rattle.std.specs.Prelude.{slice_index_or, slice_set}
use Rattle.cw_model.specs.Trees.{Tree, work, span}
use Rattle.cw_greedy.specs.Greedy.{greedy_length}
use Rattle.cw_greedy.specs.Jumping.{StrandBlock, size, Going, Ready, Before, Both, Child, Rest, After, start, to_do, IsOver}
use Rattle.cw_greedy.specs.Jumping.{Released}
use Rattle.cw_greedy.specs.Rounds.{IsAfter}
use Rattle.cw_greedy.specs.Slots.{Slots}
use Rattle.cw_greedy_schedule.specs.declared.plan.Begins.{Begins}
use Rattle.cw_greedy_schedule.specs.declared.plan.Begins.TheVariants as w
use Rattle.cw_greedy_schedule.specs.declared.plan.Strand.{Strand}
use Rattle.cw_greedy_schedule.specs.Boards.{left_at}
use Rattle.cw_greedy_schedule.specs.Planned.{strand, strands_of}
use Rattle.cw_greedy_schedule.specs.BoardState.{Shows, join_of}

-- the strand at an index
abbrev pub strand_at : List Strand → ℕ → Strand
strand_at strands k = slice_index_or strands k (strand 0 w.Start)

-- the flag at an index: one side of the join with this index is done
abbrev pub flag_at : List Bool → ℕ → Bool
flag_at flags k = slice_index_or flags k false

-- the strand that waits for the strand before this one exists
abbrev pub Reaches : Begins → (next count : ℕ) → Type 0
Reaches w.Start next count = ⊥
Reaches (w.Child later) next count = next + later < count
Reaches (w.Continuation later) next count = next + later < count
Reaches w.Sync next count = next < count

-- the strands that waited only for the strand before this one become ready
pub data Puts (strands : List Strand) (next : ℕ) (flags : List Bool) (slots : Slots) (flags' : List Bool)
    (slots' : Slots) : Type 0 where
  forks : (later : ℕ) → (strand_at strands next).begins ≡ w.Child later
      → slots'
      ≡ slice_set (slice_set slots next (Some (strand_at strands next).weight)) (next + later)
      (Some (strand_at strands (next + later)).weight)
      → flags' ≡ flags → Puts strands next flags slots flags' slots'
  arrives : (join : ℕ) → join_of (strand_at strands next).begins next ≡ Some join → flag_at flags join ≡ false
      → slots' ≡ slots → flags' ≡ slice_set flags join true → Puts strands next flags slots flags' slots'
  joins : (join : ℕ) → join_of (strand_at strands next).begins next ≡ Some join → flag_at flags join ≡ true
      → slots' ≡ slice_set slots join (Some (strand_at strands join).weight) → flags' ≡ slice_set flags join false
      → Puts strands next flags slots flags' slots'

-- the number of strands that have not been removed
abbrev pub waiting : Going → ℕ
waiting (Ready k) = 1
waiting (Before k child rest after) = 1 + (size child + (size rest + size after))
waiting (Both child rest after) = waiting child + (waiting rest + size after)
waiting (Child child ended after) = waiting child + size after
waiting (Rest ended rest after) = waiting rest + size after
waiting (After ended g) = waiting g

-- strands, flags of joins and slots represent a state of a block
pub record RepresentsBlock (block : StrandBlock) (g : Going) (strands : List Strand) (flags : List Bool) (slots : Slots) : Type 0 where
  pub planned : strands ≡ strands_of w.Start block
  pub flags_are : length flags ≡ size block
  pub places : length slots ≡ size block
  pub shows : Shows (left_at slots) (flag_at flags) 0 block g

-- a strand is removed: it is the last one, or the next state is represented
pub data Takes (block : StrandBlock) (g : Going) (strands : List Strand) (flags : List Bool) (slots : Slots) : Type 0 where
  over : IsOver g → Takes block g strands flags slots
  on : (g' : Going) → Released g g' → RepresentsBlock block g' strands flags slots → Takes block g strands flags slots

-- after some strands and steps: a state is represented, or all strands are done
pub data Counts (processors : ℕ) (block : StrandBlock) (taken steps : ℕ) (strands : List Strand) (flags : List Bool)
    (slots : Slots) : Type 0 where
  going : (g : Going) → RepresentsBlock block g strands flags slots → waiting g + taken ≡ size block →
      IsAfter processors steps (start block) g
      → Counts processors block taken steps strands flags slots
  ended : taken ≡ size block → greedy_length processors (to_do (start block)) ≡ steps →
      Counts processors block taken steps strands flags slots

-- the first state of a block, whose schedule length fits in 64 bits
pub record Begun (processors : ℕ) (block : StrandBlock) (strands : List Strand) (flags : List Bool) (slots : Slots) : Type 0
  where
    pub stands : RepresentsBlock block (start block) strands flags slots
    pub fits : greedy_length processors (to_do (start block)) < 18446744073709551616

-- the number of steps is within the bounds of a greedy schedule: at least what work and span need, and at most both
-- together
pub record IsWithin (processors steps : ℕ) (t : Tree) : Type 0 where
  pub work_law : work t ≤ processors * steps
  pub span_law : span t ≤ steps
  pub greedy_bound : processors * steps ≤ work t + (processors - 1) * span t
