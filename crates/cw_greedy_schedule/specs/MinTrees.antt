-- Rows of optional numbers; each row above holds the minimum of each group of the row below.
use Rattle.std.specs.Prelude.{◌≡◌, ℕ, ◌+◌, ◌*◌, ◌<◌, ◌≤◌, length, take, drop, Some, None}
use Rattle.cw_greedy.specs.Slots.{Slots}
use Rattle.cw_greedy_schedule.specs.declared.rows.Row.{Row}
use Rattle.cw_greedy_schedule.specs.declared.rows.Row.TheVariants.{Few, Many}
use Rattle.cw_greedy_schedule.specs.Boards.{left_at, least_slot, NoneFrom}

-- the numbers of one group of eight
abbrev pub group : Slots → (at : ℕ) → Slots
group xs g = take 8 (drop (8 * g) xs)

-- the row above holds the minimum of each group
pub record Leasts (xs above : Slots) : Type 0 where
  pub all : length xs ≤ 8 * length above
  pub fewer : length above < length xs
  pub least : (g : ℕ) → left_at above g ≡ least_slot (group xs g)

-- the numbers of the lowest row
abbrev pub numbers_of : Row → Slots
numbers_of (Few row) = row.items
numbers_of (Many row above) = row.items

-- the invariant of rows: the rows above, if there are any, hold the minimum of each group
abbrev pub IsRows : Row → Type 0
IsRows (Few row) = Unit {0}
IsRows (Many row above) = Leasts row.items above.value

-- this number is in the list, at this place or later
abbrev pub HasFrom : (from number : ℕ) → Slots → Type 0
HasFrom from number xs = (k : ℕ) × ((from ≤ k) × (left_at xs k ≡ Some number))

-- this place has a number, and no later place has one
pub record IsLast (xs : Slots) (place : ℕ) : Type 0 where
  pub within : place < length xs
  pub some : left_at xs place ≡ None → ⊥
  pub none : NoneFrom (1 + place) xs
