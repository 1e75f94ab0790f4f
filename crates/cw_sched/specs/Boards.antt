-- The board: each worker's deque, and the effects that wait in their cells, each with its number.
use Rattle.std.specs.Prelude.{◌≡◌, ℕ, nat_eq, List, [], ◌∷◌, map, Option, Some, None, slice_get, slice_set, position}
use Rattle.std.specs.Prelude.{replicate, ◌<◌, ◌≤◌}
use Rattle.std.specs.Global.{Vec}
use Rattle.std.specs.Vec.{vec_len, vec_capacity}
use Rattle.std.specs.VecDeque.{deque_len, deque_capacity}
use Rattle.std.specs.List.{remove}
use Rattle.cw_jobs.specs.declared.effect.Effect.{Effect}
use Rattle.cw_jobs.specs.declared.job.Job.{Job}
use Rattle.cw_sched.specs.core.Board.{pushed, newest, laid, without_newest, without_oldest, of_worker}
use Rattle.cw_sched.specs.declared.board.Board.{Board}
use Rattle.cw_sched.specs.declared.board.Offer.{Offer}
use Rattle.cw_sched.specs.declared.board.Cell.{Cell}
-- each element of a list
pub use Rattle.cw_facts.specs.Lists.{Each}

-- the deque of each worker, the oldest first; and the effects that wait in their cells
pub record Boarded : Type 0 where
  pub offers : List (List Offer)
  pub cells : List Cell

abbrev pub boarded : Board → Boarded
boarded b = record { offers = map (λ q. q.items) b.lists.items; cells = b.cells.items }

-- the board of this many workers
abbrev pub opened : (workers : ℕ) → Boarded
opened workers = record { offers = replicate workers []; cells = [] }

-- one is pushed to the back of a worker's deque
abbrev pub offered : Boarded → (w : ℕ) → Offer → Boarded
offered b w o = record { offers = laid b.offers w o; cells = b.cells }

-- the one at the back is popped
abbrev pub retaken : Boarded → (w : ℕ) → Boarded
retaken b w = record { offers = without_newest b.offers w; cells = b.cells }

-- the one at the front is popped
abbrev pub stolen : Boarded → (v : ℕ) → Boarded
stolen b v = record { offers = without_oldest b.offers v; cells = b.cells }

-- a stolen one is returned to the front
abbrev pub returned : Boarded → (v : ℕ) → Offer → Boarded
returned b v o =
    record { offers = slice_set b.offers v (o ∷ of_worker b.offers v); cells = b.cells }

-- an effect is put into its cell
abbrev pub settled : Boarded → Cell → Boarded
settled b c = record { offers = b.offers; cells = pushed b.cells c }

-- the effect of this cell is taken
abbrev pub collected : Boarded → (place : ℕ) → Boarded
collected b place = record { offers = b.offers; cells = remove b.cells place }

-- a worker's deque has room for one more
abbrev pub HasRoomAt : Board → (v : ℕ) → Type 0
HasRoomAt b v = (q : _) × (slice_get b.lists.items v ≡ Some q) × (deque_len q < deque_capacity q)

-- the number at the back of a worker's deque
abbrev pub back_number : Option Offer → Option ℕ
back_number None = None
back_number (Some o) = Some o.number

abbrev pub newest_number : Boarded → (w : ℕ) → Option ℕ
newest_number b w = back_number (newest (of_worker b.offers w))

-- the index of the cell of a number
abbrev pub cell_of : Boarded → (n : ℕ) → Option ℕ
cell_of b n = position (λ c. nat_eq c.number n) b.cells

-- this job, with this number, is at the back of a worker's deque
abbrev pub IsNewest : Boarded → (w number : ℕ) → Job → Type 0
IsNewest b w number job =
    newest (of_worker b.offers w) ≡ Some (record { number = number; job = job })

-- this cell holds the effect of the job of this number
abbrev pub IsCellAt : Boarded → (place number : ℕ) → Effect → Type 0
IsCellAt b place number effect =
    slice_get b.cells place ≡ Some (record { number = number; effect = effect })

-- a job was pushed to the back of a worker's deque, with its number
abbrev pub HasOffered : (old : Board) → (w number : ℕ) → Job → (new : Board) → Type 0
HasOffered old w number job new =
    boarded new ≡ offered (boarded old) w (record { number = number; job = job })

-- the effect of the job of a number was put into its cell
abbrev pub HasSettled : (old : Board) → (number : ℕ) → Effect → (new : Board) → Type 0
HasSettled old number effect new =
    boarded new ≡ settled (boarded old) (record { number = number; effect = effect })

-- a list has no room for one more
abbrev pub IsFull : {A : Type 0} → Vec A → Type 0
IsFull v = vec_capacity v ≤ vec_len v

-- a worker's deque has no room for one more
abbrev pub IsDequeFull : Board → (w : ℕ) → Type 0
IsDequeFull b w = (q : _) × (slice_get b.lists.items w ≡ Some q) × (deque_capacity q ≤ deque_len q)
