-- A seat of a yard, stated by equations only, so that a type may hold it.
use Rattle.std.specs.Prelude.{◌≡◌, ℕ, length, slice_get, Option, Some, None}
use Rattle.crossbeam_deque.specs.Handles.{view, IsPassOf, stealer_deque, worker_view, worker_flavor}
use Rattle.crossbeam_utils.specs.Padded.{padded_value}
use Rattle.atomic_table.specs.Seated.{TableId}
use Rattle.cw_yard.specs.declared.task.DequeView.{DequeView}
use Rattle.cw_yard.specs.declared.task.DequeView.TheVariants.{Fresh, Marked, Owner, Thief}
use Rattle.cw_yard.specs.declared.ticket.FreeCell.{FreeCell}
use Rattle.cw_yard.specs.declared.seat.Yard.{Yard}
use Rattle.cw_yard.specs.declared.seat.Seat.{Seat}
use Rattle.cw_yard.specs.Seats.{table_of, workers_of}
use Rattle.cw_yard.specs.Marks.{IsWatchOf}

-- the table of the cells that the owner of a deque knows, and the one that a thief at a deque knows
abbrev pub owner_table : DequeView → Option TableId
owner_table Fresh = None
owner_table (Marked t) = None
owner_table (Owner t os) = Some t.table_id
owner_table (Thief t ss) = None

abbrev pub thief_table : DequeView → Option TableId
thief_table Fresh = None
thief_table (Marked t) = None
thief_table (Owner t os) = None
thief_table (Thief t ss) = Some t.table_id

abbrev pub Owns : Yard → Seat → Type 0
Owns y s = (owner_table (worker_view s.own) ≡ Some (table_of y)) × (worker_flavor s.own ≡ 1)

abbrev pub HasCells : Yard → Seat → Type 0
HasCells y s = (k : ℕ) (f : FreeCell) → slice_get s.free.items k ≡ Some f → f.token.table_id ≡ table_of y

abbrev pub HasPasses : Yard → Seat → Type 0
HasPasses y s =
    (length s.passes.items ≡ workers_of y)
    × ((k : ℕ) (o : _) (e : _) → slice_get y.stealers.items k ≡ Some o → slice_get s.passes.items k ≡ Some e
    → IsPassOf (stealer_deque (padded_value o)) e × (thief_table (view e) ≡ Some (table_of y)))

abbrev pub Watches : Yard → Seat → Type 0
Watches y s = IsWatchOf y.mark.shared.table_id s.watch

-- A SEAT OF THE YARD: equivalent to IsSeatOf
abbrev pub IsSeated : Yard → Seat → Type 0
IsSeated y s = Owns y s × HasCells y s × HasPasses y s × Watches y s
