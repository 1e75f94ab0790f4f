-- The yard that its opening makes.
use Rattle.std.specs.Prelude.{◌≡◌, ◌≤◌, ◌+◌, ℕ, List, [], length, slice_get, Option, Some, vec_capacity}
use Rattle.crossbeam_deque.specs.Handles.{Pass, view, IsPassOf, stealer_deque, worker_deque, worker_view, worker_flavor}
use Rattle.crossbeam_utils.specs.Padded.{padded_value}
use Rattle.atomic_table.specs.Seated.{TableId}
use Rattle.atomic_table.specs.declared.shared.Seat.{Seat as Token}
use Rattle.cw_yard.specs.declared.left.Left.{Left}
use Rattle.cw_yard.specs.declared.view.CellView.{CellView}
use Rattle.cw_yard.specs.declared.view.CellView.TheVariants.{Rest}
use Rattle.cw_yard.specs.declared.mark.MarkView.TheVariants.{Unseen}
use Rattle.cw_yard.specs.Marks.{IsWatchOf}
use Rattle.cw_yard.specs.Ledger.{Each}
use Rattle.cw_yard.specs.declared.task.Item.{Item}
use Rattle.cw_yard.specs.declared.task.DequeView.{DequeView}
use Rattle.cw_yard.specs.declared.task.DequeView.TheVariants.{Fresh, Marked, Owner, Thief}
use Rattle.cw_yard.specs.declared.deque.DequeRule.{DequeRule}
use Rattle.crossbeam_deque.specs.declared.handles.Worker.{Worker}
use Rattle.crossbeam_deque.specs.declared.handles.Stealer.{Stealer}
use Rattle.crossbeam_utils.specs.declared.cache_padded.CachePadded.{CachePadded}
use Rattle.std.specs.declared.alloc.Global.{Global}
use Rattle.cw_yard.specs.declared.seat.Yard.{Yard}
use Rattle.cw_yard.specs.declared.open.Part.{Part}
use Rattle.cw_yard.specs.Words.{StealsAt, stolen}
use Rattle.cw_yard.specs.Seats.{table_of, workers_of}

abbrev pub OwnDeque : Type 0
OwnDeque = Worker Item Global DequeView DequeRule

abbrev pub Victim : Type 0
Victim = CachePadded (Stealer Item Global DequeView DequeRule)

-- the token owns each cell from this one on
abbrev pub AllRest : TableId → Token (Option Left) CellView → ℕ → Type 0
AllRest z t next = (t.table_id ≡ z) × (t.me ≡ (Rest next, [])) × (z.words ≡ z.slots + 1)

abbrev pub Begins : TableId → DequeView → Type 0
Begins z Fresh = ⊥
Begins z (Marked t) = ⊥
Begins z (Owner t os) = (t.table_id ≡ z) × (os ≡ [])
Begins z (Thief t ss) = ⊥

-- a deque at which nothing was offered
abbrev pub IsFresh : TableId → OwnDeque → Type 0
IsFresh z w = Begins z (worker_view w) × (worker_flavor w ≡ 1)

-- a stealer of each deque, in order
abbrev pub AreStealersOf : List OwnDeque → List Victim → Type 0
AreStealersOf owns others =
    (length others ≡ length owns)
    × ((k : ℕ) (w : OwnDeque) (o : Victim) → slice_get owns k ≡ Some w → slice_get others k ≡ Some o
    → stealer_deque (padded_value o) ≡ worker_deque w)

abbrev pub ServesDeques : Yard → List OwnDeque → Type 0
ServesDeques y owns = AreStealersOf owns y.stealers.items × Each (IsFresh (table_of y)) owns

abbrev pub ThiefPass : Type 0
ThiefPass = Pass Item DequeView Global

-- a pass for each worker's deque, in order
abbrev pub HasPasses : Yard → List ThiefPass → Type 0
HasPasses y es =
    (k : ℕ) (o : Victim) (e : ThiefPass) → slice_get y.stealers.items k ≡ Some o → slice_get es k ≡ Some e
    → IsPassOf (stealer_deque (padded_value o)) e × StealsAt (table_of y) (view e)

-- a pass for each deque, with which nothing was stolen
abbrev pub ArePasses : Yard → List ThiefPass → Type 0
ArePasses y es = (length es ≡ workers_of y) × HasPasses y es × Each (λ e. stolen (view e) ≡ []) es

-- the parts of a worker's seat except its deque
abbrev pub IsPart : Yard → ℕ → Part → Type 0
IsPart y cells p =
    (length p.free.items ≡ cells) × Each (λ f. f.token.table_id ≡ table_of y) p.free.items
    × ArePasses y p.passes.items × IsWatchOf y.mark.shared.table_id p.watch × (cells ≤ vec_capacity p.free)
    × (p.watch.me.0 ≡ Unseen)
