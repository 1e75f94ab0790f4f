-- The state of a yard when it is opened.
use Rattle.std.specs.Prelude.{◌≡◌, ◌≤◌, ◌+◌, ◌&&◌, nat_le, ℕ, Bool, true, false, List, [], length, slice_get, Some}
use Rattle.crossbeam_deque.specs.Handles.{view, stealer_deque, worker_deque}
use Rattle.crossbeam_utils.specs.Padded.{padded_value}
use Rattle.cw_text.specs.declared.fault.Fault.{Fault}
use Rattle.cw_text.specs.declared.fault.Fault.TheVariants as fault
use Rattle.cw_model.specs.declared.limits.TheConstants.{MOST_WORKERS}
use Rattle.cw_yard.specs.declared.open.TheConstants.{MOST_CELLS}
use Rattle.cw_yard.specs.declared.seat.Yard.{Yard}
use Rattle.cw_yard.specs.declared.seat.Seat.{Seat}
use Rattle.cw_yard.specs.declared.mark.MarkView.TheVariants.{Unseen}
use Rattle.cw_yard.specs.Ledger.{Each}
use Rattle.cw_yard.specs.Words.{stolen}
use Rattle.cw_yard.specs.Seats.{IsSeatOf, workers_of, offered_by, free_cells, cell_room}

-- the stealer for worker `k` steals from this seat's deque
abbrev pub IsWorker : Yard → ℕ → Seat → Type 0
IsWorker y k s = (o : _) → slice_get y.stealers.items k ≡ Some o → stealer_deque (padded_value o) ≡ worker_deque s.own

-- WORKER k'S SEAT BEFORE ITS FIRST CALL: nothing was offered or stolen, all its cells are free, and the end mark was
-- not seen
pub record IsNewSeat (y : Yard) (cells k : ℕ) (s : Seat) : Type 0 where
  pub seat : IsSeatOf y s
  pub worker : IsWorker y k s
  pub offered : offered_by s ≡ []
  pub stolen : Each (λ e. stolen (view e) ≡ []) s.passes.items
  pub free : free_cells s ≡ cells
  pub room : cells ≤ cell_room s
  pub unseen : s.watch.me.0 ≡ Unseen

-- the seats of all workers; the seat of worker 0 is the last
pub record AreSeats (y : Yard) (cells : ℕ) (seats : List Seat) : Type 0 where
  pub count : length seats ≡ workers_of y
  pub each : (j k : ℕ) (s : Seat) → slice_get seats j ≡ Some s → j + (k + 1) ≡ workers_of y → IsNewSeat y cells k s

abbrev pub IsOpened : (workers cells : ℕ) → Yard → List Seat → Type 0
IsOpened workers cells y seats = (workers_of y ≡ workers) × AreSeats y cells seats

-- a yard may have this number of workers, and this number of cells for each
abbrev pub is_asked : (workers cells : ℕ) → Bool
is_asked workers cells =
    nat_le 1 workers && (nat_le workers MOST_WORKERS && (nat_le 1 cells && nat_le cells MOST_CELLS))

-- why there is no such yard: a number is out of range, or memory ran out
abbrev pub IsRejected : (workers cells : ℕ) → Fault → Type 0
IsRejected workers cells fault.Arguments = is_asked workers cells ≡ false
IsRejected workers cells fault.Memory = is_asked workers cells ≡ true
IsRejected workers cells _ = ⊥
