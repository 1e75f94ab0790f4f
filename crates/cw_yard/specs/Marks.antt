-- The end mark: it is set after some watcher set it, and a watcher that saw it set knows so.
use Rattle.std.specs.Prelude.{◌≡◌, ◌⊎◌, ℕ, List, [], ◌∷◌}
use mathlib.Core.Option.{some}
use lib.ListN.{get_elem?}
use Rattle.atomic_table.specs.Table.{State}
use Rattle.atomic_table.specs.declared.shared.Seat.{Seat}
use Rattle.atomic_table.specs.Seated.{TableId}
use Rattle.cw_yard.specs.declared.mark.MarkView.{MarkView}
use Rattle.cw_yard.specs.declared.mark.MarkView.TheVariants.{Unseen, Seen, Marked}

abbrev pub IsSeen : MarkView → Type 0
IsSeen Unseen = ⊥
IsSeen Seen = Unit {0}
IsSeen Marked = Unit {0}

abbrev pub IsMarked : MarkView → Type 0
IsMarked Unseen = ⊥
IsMarked Seen = ⊥
IsMarked Marked = Unit {0}

-- the word of the mark is `w`
abbrev pub EndsAt : ℕ → List MarkView → Type 0
EndsAt w views =
    ((w ≡ 0) × ((id : ℕ) (v : MarkView) → get_elem? views id ≡ some v → v ≡ Unseen))
    ⊎ ((w ≡ 1) × ((id : ℕ) × (get_elem? views id ≡ some Marked)))

-- THE RULE OF THE MARK: it is 1 only if some watcher set it, and before that no watcher has seen it
abbrev pub Ends : State (Unit {0}) MarkView → Type 0
Ends s = (w : ℕ) × (s.words ≡ w ∷ []) × EndsAt w s.views

abbrev pub same : MarkView → MarkView
same v = v

abbrev pub unseen : MarkView → MarkView
unseen v = Unseen

abbrev pub seeing : MarkView → MarkView
seeing Unseen = Seen
seeing Seen = Seen
seeing Marked = Marked

-- the result of a look; a look does not set the mark
abbrev pub Finds : MarkView → ℕ → MarkView → Type 0
Finds v r w = (IsSeen v → r ≡ 1) × (r ≡ 1 → IsSeen w) × (¬ (r ≡ 1) → w ≡ v) × (IsMarked w → IsMarked v)

abbrev pub HasSeen : Seat (Unit {0}) MarkView → Type 0
HasSeen t = IsSeen t.me.0

-- this watcher set the mark
abbrev pub HasMarked : Seat (Unit {0}) MarkView → Type 0
HasMarked t = IsMarked t.me.0

-- a watcher's token of the mark named `z`
abbrev pub IsWatchOf : TableId → Seat (Unit {0}) MarkView → Type 0
IsWatchOf z t = (t.table_id ≡ z) × (z.words ≡ 1)
