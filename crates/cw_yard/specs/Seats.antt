-- The relation of seats, tickets and duties to their yard.
use Rattle.std.specs.Prelude.{◌≡◌, ◌≢◌, ◌≤◌, ◌+◌, ◌++◌, ◌⊎◌, ℕ, false, List, [], ◌∷◌, length, slice_get, Option, Some}
use Rattle.std.specs.Prelude.{None, vec_capacity}
use Rattle.crossbeam_deque.specs.Handles.{view, IsPassOf, stealer_deque, worker_view, worker_flavor, worker_capacity}
use Rattle.crossbeam_deque.specs.Handles.{worker_index, SameWorker}
use Rattle.crossbeam_utils.specs.Padded.{padded_value}
use Rattle.atomic_table.specs.Seated.{TableId}
use Rattle.cw_jobs.specs.declared.job.Job.{Job}
use Rattle.cw_jobs.specs.Means.{IsMeaningOf}
use Rattle.cw_yard.specs.Marks.{IsWatchOf, HasSeen, HasMarked}
use Rattle.cw_yard.specs.Ledger.{Each, offer}
use Rattle.cw_yard.specs.declared.task.Offer.{Offer}
use Rattle.cw_yard.specs.declared.task.DequeView.{DequeView}
use Rattle.cw_yard.specs.declared.ticket.Ticket.{Ticket}
use Rattle.cw_yard.specs.declared.ticket.Duty.{Duty}
use Rattle.cw_yard.specs.declared.seat.Yard.{Yard}
use Rattle.cw_yard.specs.declared.seat.Seat.{Seat}
use Rattle.cw_yard.specs.declared.yard.Retaken.{Retaken}
use Rattle.cw_yard.specs.declared.yard.Retaken.TheVariants as retaken
use Rattle.cw_yard.specs.declared.yard.Collected.{Collected}
use Rattle.cw_yard.specs.declared.yard.Collected.TheVariants as collected
use Rattle.cw_yard.specs.Words.{OwnsAt, StealsAt, Takes, Rises, Theft, offered, stolen}
use Rattle.cw_yard.specs.Tickets.{ticket_job, ticket_number, duty_job, LeavesAll}

abbrev pub table_of : Yard → TableId
table_of y = y.table.shared.table_id

abbrev pub workers_of : Yard → ℕ
workers_of y = length y.stealers.items

-- A SEAT OF THE YARD: its deque and its free cells belong to the yard's table, and it has a pass for each worker's
-- deque
abbrev pub IsSeatOf : Yard → Seat → Type 0
IsSeatOf y s =
    OwnsAt (table_of y) (worker_view s.own)
    × (worker_flavor s.own ≡ 1)
    × Each (λ f. f.token.table_id ≡ table_of y) s.free.items
    × (length s.passes.items ≡ workers_of y)
    × ((k : ℕ) (o : _) (e : _) → slice_get y.stealers.items k ≡ Some o → slice_get s.passes.items k ≡ Some e
    → IsPassOf (stealer_deque (padded_value o)) e × StealsAt (table_of y) (view e))
    × IsWatchOf y.mark.shared.table_id s.watch

abbrev pub IsTicketOf : Yard → Ticket → Type 0
IsTicketOf y t = t.token.table_id ≡ table_of y

abbrev pub IsDutyOf : Yard → Duty → Type 0
IsDutyOf y d = d.token.table_id ≡ table_of y

-- the offers that a seat made, in order
abbrev pub offered_by : Seat → List Offer
offered_by s = offered (worker_view s.own)

abbrev pub thefts_by : {A : Type 0} → (A → DequeView) → Option A → List Theft
thefts_by f None = []
thefts_by f (Some e) = stolen (f e)

-- the thefts of a seat from a victim
abbrev pub stolen_from : Seat → ℕ → List Theft
stolen_from s k = thefts_by view (slice_get s.passes.items k)

-- the number of free cells of a seat, and the number for which it has room: at least the number with which it was
-- opened
abbrev pub free_cells : Seat → ℕ
free_cells s = length s.free.items

abbrev pub cell_room : Seat → ℕ
cell_room s = vec_capacity s.free

-- a cell is free again; it is lost only if there was no room for it, because all cells were free
abbrev pub GainsCell : (old new : Seat) → Type 0
GainsCell old new =
    (free_cells new ≡ free_cells old + 1)
    ⊎ ((cell_room old ≤ free_cells old) × (free_cells new ≡ free_cells old))

abbrev pub HasNoCell : Seat → Type 0
HasNoCell s = s.free.items ≡ []

-- the deque was not sure of a slot
abbrev pub HasFullDeque : Seat → Type 0
HasFullDeque s = worker_capacity s.own ≤ worker_index s.own

abbrev pub HasSeenEnd : Seat → Type 0
HasSeenEnd s = HasSeen s.watch

abbrev pub HasMarkedEnd : Seat → Type 0
HasMarkedEnd s = HasMarked s.watch

-- THE PARTS OF A SEAT THAT ARE UNCHANGED: its deque with the offers, its free cells, its thefts, its knowledge of the
-- end
abbrev pub KeepsOffers : (old new : Seat) → Type 0
KeepsOffers old new = new.own ≡ old.own

abbrev pub KeepsCells : (old new : Seat) → Type 0
KeepsCells old new = new.free ≡ old.free

abbrev pub KeepsThefts : (old new : Seat) → Type 0
KeepsThefts old new = new.passes ≡ old.passes

abbrev pub KeepsSight : (old new : Seat) → Type 0
KeepsSight old new = new.watch ≡ old.watch

-- the seat has the same deque, and neither the deque's room for jobs nor the seat's room for cells has shrunk
abbrev pub KeepsRoom : (old new : Seat) → Type 0
KeepsRoom old new = SameWorker old.own new.own × (cell_room old ≤ cell_room new)

-- the thefts from any other victim are unchanged
abbrev pub KeepsOtherThefts : (victim : ℕ) → (old new : Seat) → Type 0
KeepsOtherThefts victim old new = (k : ℕ) → k ≢ victim → stolen_from new k ≡ stolen_from old k

-- the job is the next number of the seat, the ticket names it, and one free cell is used
abbrev pub OffersFor : Yard → Job → (old new : Seat) → Ticket → Type 0
OffersFor y job old new t =
    IsTicketOf y t × (ticket_job t ≡ Some job) × (ticket_number t ≡ Some (length (offered_by old)))
    × (offered_by new ≡ offered_by old ++ offer (job, t.cell) false ∷ []) × (free_cells old ≡ free_cells new + 1)

-- the job comes back unchanged and whole, with nothing offered and no cell used: there was no free cell, or the deque
-- was not sure of a slot
abbrev pub RefusesOffer : Job → (old new : Seat) → Job → Type 0
RefusesOffer job old new back =
    (back ≡ job) × (offered_by new ≡ offered_by old) × (free_cells new ≡ free_cells old)
    × (HasNoCell old ⊎ HasFullDeque old)

-- a job of the victim with its duty; its number is above the numbers of the jobs that the seat stole from the victim
-- before
abbrev pub StealsFor : Yard → (victim : ℕ) → (old new : Seat) → Job × Duty → Type 0
StealsFor y victim old new r =
    IsDutyOf y r.1 × (duty_job r.1 ≡ Some r.0) × Rises (stolen_from old victim) r.0 (stolen_from new victim)

-- the whole job of the ticket is back, marked as retaken, with its cell; or the ticket is back, and if it is the
-- newest, the offers are unchanged
abbrev pub RetakesFor : Ticket → (old new : Seat) → Retaken → Type 0
RetakesFor t old new (retaken.Mine b) =
    (ticket_job t ≡ Some b) × Takes (offered_by old) (ticket_number t) (b, t.cell) (offered_by new) × GainsCell old new
RetakesFor t old new (retaken.Later u) =
    (u ≡ t) × KeepsCells old new × LeavesAll t (offered_by old) (offered_by new)

-- the effect means the job of the ticket, and its cell is back; or the ticket is back
abbrev pub CollectsFor : Yard → Ticket → (old new : Seat) → Collected → Type 0
CollectsFor y t old new (collected.Done e) = ((j : Job) → ticket_job t ≡ Some j → IsMeaningOf j e) × GainsCell old new
CollectsFor y t old new (collected.Later u) =
    IsTicketOf y u × (ticket_job u ≡ ticket_job t) × (ticket_number u ≡ ticket_number t) × KeepsCells old new
