-- `IsSeatOf` and `IsSeated` are equivalent.
use Rattle.std.proofs.Common.{◌≡◌, ap, Some}
use Rattle.std.proofs.lemmas.Option.{same_Some, none-some}
use Rattle.crossbeam_deque.specs.Handles.{view, worker_view}
use Rattle.atomic_table.specs.Seated.{TableId}
use Rattle.cw_facts.specs.Lists.{each_of, each_at}
use Rattle.cw_yard.specs.declared.task.DequeView.{DequeView}
use Rattle.cw_yard.specs.declared.task.DequeView.TheVariants.{Fresh, Marked, Owner, Thief}
use Rattle.cw_yard.specs.declared.ticket.FreeCell.{FreeCell}
use Rattle.cw_yard.specs.declared.seat.Yard.{Yard}
use Rattle.cw_yard.specs.declared.seat.Seat.{Seat}
use Rattle.cw_yard.specs.Words.{OwnsAt, StealsAt}
use Rattle.cw_yard.specs.Seats.{table_of, IsSeatOf}
use Rattle.cw_yard.specs.Seated.{owner_table, thief_table, IsSeated}

owns : (z : TableId) (v : DequeView) → owner_table v ≡ Some z → OwnsAt z v
owns z Fresh e = absurd (none-some z e)
owns z (Marked t) e = absurd (none-some z e)
owns z (Owner t os) e = same_Some t.table_id z e
owns z (Thief t ss) e = absurd (none-some z e)

owned : (z : TableId) (v : DequeView) → OwnsAt z v → owner_table v ≡ Some z
owned z Fresh h = absurd h
owned z (Marked t) h = absurd h
owned z (Owner t os) h = ap (λ x. Some x) h
owned z (Thief t ss) h = absurd h

steals : (z : TableId) (v : DequeView) → thief_table v ≡ Some z → StealsAt z v
steals z Fresh e = absurd (none-some z e)
steals z (Marked t) e = absurd (none-some z e)
steals z (Owner t os) e = absurd (none-some z e)
steals z (Thief t ss) e = same_Some t.table_id z e

stealing : (z : TableId) (v : DequeView) → StealsAt z v → thief_table v ≡ Some z
stealing z Fresh h = absurd h
stealing z (Marked t) h = absurd h
stealing z (Owner t os) h = absurd h
stealing z (Thief t ss) h = ap (λ x. Some x) h

pub seated : (y : Yard) (s : Seat) → IsSeatOf y s → IsSeated y s
seated y s h = (
  (owned (table_of y) (worker_view s.own) h.0, h.1),
  (λ k f e. each_at (λ (f : FreeCell). f.token.table_id ≡ table_of y) s.free.items k f h.2 e),
  (h.3, λ k o e f g. let r = h.4 k o e f g in (r.0, stealing (table_of y) (view e) r.1)),
  h.5,
)

pub seat_of : (y : Yard) (s : Seat) → IsSeated y s → IsSeatOf y s
seat_of y s h = (
  owns (table_of y) (worker_view s.own) h.0.0,
  h.0.1,
  each_of (λ (f : FreeCell). f.token.table_id ≡ table_of y) s.free.items h.1,
  h.2.0,
  (λ k o e f g. let r = h.2.1 k o e f g in (r.0, steals (table_of y) (view e) r.1)),
  h.3,
)
