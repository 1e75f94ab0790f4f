-- The board: the jobs that workers offered and nobody has taken, and the state of each number.
use Rattle.std.specs.Prelude.{ℕ, List, [], ◌∷◌, ◌++◌, Option, Some, None, slice_get, slice_set}

-- the list of a deque, the oldest first: a job that is offered goes to its back
abbrev pub pushed : {A : Type 0} → List A → A → List A
pushed xs x = xs ++ x ∷ []

-- the newest is at the back, where the owner takes
abbrev pub newest : {A : Type 0} → List A → Option A
newest [] = None
newest (x ∷ []) = Some x
newest (x ∷ (y ∷ xs)) = newest (y ∷ xs)

abbrev pub but_newest : {A : Type 0} → List A → List A
but_newest [] = []
but_newest (x ∷ []) = []
but_newest (x ∷ (y ∷ xs)) = x ∷ but_newest (y ∷ xs)

-- the oldest is at the front, where thieves take
abbrev pub oldest : {A : Type 0} → List A → Option A
oldest [] = None
oldest (x ∷ xs) = Some x

abbrev pub but_oldest : {A : Type 0} → List A → List A
but_oldest [] = []
but_oldest (x ∷ xs) = xs

-- the state of a number: it was not offered; it is out, in a deque or with a thief; it was retaken; its effect is in
-- its cell; its effect was collected
pub data State : Type 0 where
  Unoffered : State
  Out : State
  Retaken : State
  Settled : State
  Collected : State

-- the list of each worker, and the state of each number
pub record Board : Type 0 where
  pub lists : List (List ℕ)
  pub states : List State

abbrev pub or_none : {A : Type 0} → Option (List A) → List A
or_none None = []
or_none (Some xs) = xs

-- the list of a worker; empty for a worker that does not exist
abbrev pub of_worker : {A : Type 0} → List (List A) → ℕ → List A
of_worker lists w = or_none (slice_get lists w)

-- the lists of all workers after one was pushed to the back of w's list, and after the newest or the oldest was popped
abbrev pub laid : {A : Type 0} → List (List A) → (w : ℕ) → A → List (List A)
laid lists w x = slice_set lists w (pushed (of_worker lists w) x)

abbrev pub without_newest : {A : Type 0} → List (List A) → (w : ℕ) → List (List A)
without_newest lists w = slice_set lists w (but_newest (of_worker lists w))

abbrev pub without_oldest : {A : Type 0} → List (List A) → (w : ℕ) → List (List A)
without_oldest lists w = slice_set lists w (but_oldest (of_worker lists w))

abbrev pub with_lists : Board → List (List ℕ) → Board
with_lists board lists = record { lists = lists; states = board.states }

abbrev pub with_state : Board → ℕ → State → Board
with_state board n state = record { lists = board.lists; states = slice_set board.states n state }

-- one function for each of the five events that change the board
abbrev pub offer : (worker n : ℕ) → Board → Board
offer w n board = with_state (with_lists board (laid board.lists w n)) n Out

abbrev pub retake : (worker n : ℕ) → Board → Board
retake w n board = with_state (with_lists board (without_newest board.lists w)) n Retaken

abbrev pub steal : (victim : ℕ) → Board → Board
steal v board = with_lists board (without_oldest board.lists v)

abbrev pub settle : (n : ℕ) → Board → Board
settle n board = with_state board n Settled

abbrev pub collect : (n : ℕ) → Board → Board
collect n board = with_state board n Collected
