-- The requirements and the results of a call on one deque and one cell.
use Rattle.std.specs.Prelude.{◌≡◌, ◌≤◌, ◌+◌, ◌++◌, false, [], ◌∷◌, length, Some}
use Rattle.crossbeam_deque.specs.Handles.{view, worker_view, worker_capacity, worker_index}
use Rattle.atomic_table.specs.Seated.{TableId}
use Rattle.cw_jobs.specs.declared.job.Job.{Job}
use Rattle.cw_jobs.specs.declared.effect.Effect.{Effect}
use Rattle.cw_jobs.specs.Means.{IsMeaningOf}
use Rattle.cw_yard.specs.Ledger.{offer}
use Rattle.cw_yard.specs.Words.{OwnsAt, Rises, Takes, offered, stolen}
use Rattle.cw_yard.specs.Tickets.{ticket_job, ticket_number, duty_job, LeavesAll}
use Rattle.cw_yard.specs.Opens.{OwnDeque, ThiefPass}
use Rattle.cw_yard.specs.declared.ticket.Ticket.{Ticket}
use Rattle.cw_yard.specs.declared.ticket.Duty.{Duty}
use Rattle.cw_yard.specs.declared.ticket.FreeCell.{FreeCell}

-- this is the name of the table, in which each cell has a word, and there is one more word
abbrev pub IsOfTable : TableId → TableId → Type 0
IsOfTable z z' = (z' ≡ z) × (z.words ≡ z.slots + 1)

-- a free cell of the table, and the deque of an owner whose cells are in the table
abbrev pub MayOffer : TableId → FreeCell → OwnDeque → Type 0
MayOffer z free own = (free.token.table_id ≡ z) × (z.words ≡ z.slots + 1) × OwnsAt z (worker_view own)

-- the job is the next number of its owner, and the ticket names it
abbrev pub IsOffered : TableId → Job → (old new : OwnDeque) → Ticket → Type 0
IsOffered z job old new t =
    (t.token.table_id ≡ z) × (ticket_job t ≡ Some job)
    × (ticket_number t ≡ Some (length (offered (worker_view old))))
    × (offered (worker_view new) ≡ offered (worker_view old) ++ offer (job, t.cell) false ∷ [])

-- the job comes back unchanged, with a cell, because the deque was not sure of a slot
abbrev pub IsGivenBack : TableId → Job → (old new : OwnDeque) → Job × FreeCell → Type 0
IsGivenBack z job old new e =
    (e.0 ≡ job) × (e.1.token.table_id ≡ z) × (worker_view new ≡ worker_view old)
    × (worker_capacity old ≤ worker_index old)

-- the job of the ticket is taken back, with its cell
abbrev pub IsTakenBack : TableId → Ticket → (old new : OwnDeque) → Job × FreeCell → Type 0
IsTakenBack z t old new r =
    (ticket_job t ≡ Some r.0)
    × Takes (offered (worker_view old)) (ticket_number t) (r.0, t.cell) (offered (worker_view new))
    × (r.1.token.table_id ≡ z)

-- the offers are unchanged, unless the ticket is not the newest: then another job may have been taken back instead
abbrev pub LeavesOffers : Ticket → (old new : OwnDeque) → Type 0
LeavesOffers t old new = LeavesAll t (offered (worker_view old)) (offered (worker_view new))

-- a job is stolen, with its duty, and its number is above all earlier ones
abbrev pub IsStolen : TableId → (old new : ThiefPass) → Job × Duty → Type 0
IsStolen z old new r =
    (r.1.token.table_id ≡ z) × (duty_job r.1 ≡ Some r.0) × Rises (stolen (view old)) r.0 (stolen (view new))

-- an effect that means the job of the ticket came, with its cell
abbrev pub IsCollected : TableId → Ticket → Effect × FreeCell → Type 0
IsCollected z t r = ((j : Job) → ticket_job t ≡ Some j → IsMeaningOf j r.0) × (r.1.token.table_id ≡ z)

-- a ticket of the same cell, which knows the same
abbrev pub IsSameTicket : (old new : Ticket) → Type 0
IsSameTicket old new =
    (new.cell ≡ old.cell) × (new.token.table_id ≡ old.token.table_id) × (new.token.me ≡ old.token.me)
