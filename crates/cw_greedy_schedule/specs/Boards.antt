-- The slots that a board represents, and the invariants of its fields.
use Rattle.std.specs.Prelude.{◌≡◌, ℕ, ◌-◌, ◌<◌, ◌≤◌, min, [], ◌∷◌, length, Option, Some, None, slice_index_or}
use Rattle.cw_greedy.specs.Greedy.{if_done}
use Rattle.cw_greedy.specs.Slots.{Slots, ready_slots, run_slots, EachLeft, RoomFor}
use Rattle.cw_greedy_schedule.specs.declared.board.Board.{Board}

-- the slot at a place: the number of instructions that its strand has left, or `None` if the strand is not ready
abbrev pub left_at : Slots → ℕ → Option ℕ
left_at slots k = slice_index_or slots k None

-- no strand is ready from this place on
abbrev pub NoneFrom : ℕ → Slots → Type 0
NoneFrom from slots = (k : ℕ) → from ≤ k → left_at slots k ≡ None

-- no strand is ready before this place
abbrev pub NoneBefore : ℕ → Slots → Type 0
NoneBefore place slots = (k : ℕ) → k < place → left_at slots k ≡ None

-- each ready strand with its remaining instructions decreased
abbrev pub lowered : (by : ℕ) → Slots → Slots
lowered by [] = []
lowered by (None ∷ xs) = None ∷ lowered by xs
lowered by (Some k ∷ xs) = Some (k - by) ∷ lowered by xs

-- an optional number, decreased
abbrev pub minus : Option ℕ → ℕ → Option ℕ
minus None by = None
minus (Some k) by = Some (k - by)

-- the minimum of two optional numbers; `None` counts as no number
abbrev pub lesser : Option ℕ → Option ℕ → Option ℕ
lesser None b = b
lesser (Some a) None = Some a
lesser (Some a) (Some b) = Some (min a b)

-- the minimum number of instructions that a ready strand has left
abbrev pub least_slot : Slots → Option ℕ
least_slot [] = None
least_slot (None ∷ xs) = least_slot xs
least_slot (Some k ∷ xs) = lesser (Some k) (least_slot xs)

-- the minimum number of instructions that one of the first ready strands has left
abbrev pub least_first : (processors : ℕ) → Slots → Option ℕ
least_first p [] = None
least_first p (None ∷ xs) = least_first p xs
least_first p (Some k ∷ xs) = if_done p None (lesser (Some k) (least_first (p - 1) xs))

-- this number is at most the minimum, if there is one
abbrev pub HasRoom : ℕ → Option ℕ → Type 0
HasRoom by None = Unit {0}
HasRoom by (Some k) = by ≤ k

-- at each place the slot of the first list if it has a strand there, otherwise the slot of the second
abbrev pub over : Slots → Slots → Slots
over [] ys = ys
over (x ∷ xs) [] = x ∷ xs
over (None ∷ xs) (y ∷ ys) = y ∷ over xs ys
over (Some k ∷ xs) (y ∷ ys) = Some k ∷ over xs ys

-- the slots that a board represents: for a running strand its end minus the current time, for a waiting strand its
-- remaining instructions
abbrev pub shown : Board → Slots
shown board = over (lowered board.time board.running) board.waiting

-- no running strand ends before this time
abbrev pub EndFrom : (time : ℕ) → Slots → Type 0
EndFrom time running = (k end : ℕ) → left_at running k ≡ Some end → time ≤ end

-- the invariant of a board: the running strands are before the border, and the waiting ones are not
pub record Keeps (board : Board) : Type 0 where
  pub running : length board.running ≡ board.places
  pub waiting : length board.waiting ≡ board.places
  pub within : board.border ≤ board.places
  pub count : board.count ≡ ready_slots board.running
  pub before : NoneFrom board.border board.running
  pub behind : NoneBefore board.border board.waiting
  pub ends : EndFrom board.time board.running

-- some running strands now wait, or some waiting strands now run; the board represents the same slots
pub record Moves (board board' : Board) : Type 0 where
  pub keeps : Keeps board'
  pub same : shown board' ≡ shown board

-- the first ready strands run, one for each processor
pub record Full (processors : ℕ) (board : Board) : Type 0 where
  pub few : board.count ≤ processors
  pub all : board.count < processors → ready_slots board.waiting ≡ 0

-- 1 for `None`, otherwise 0
abbrev pub one_if_none : Option ℕ → ℕ
one_if_none None = 1
one_if_none (Some k) = 0

-- the first ready strands execute instructions until a ready strand has none left
pub data Advances (processors steps : ℕ) (slots slots' : Slots) : Type 0 where
  stays : steps ≡ 0 → slots' ≡ slots → Advances processors steps slots slots'
  runs : EachLeft slots → RoomFor processors steps slots → slots' ≡ run_slots processors steps slots
      → Advances processors steps slots slots'
