-- Sets of slots, sets of locals, and rows of 64 bits that represent such sets.
use Rattle.std.specs.Prelude.{ℕ, ◌/◌, ◌%◌, ◌==◌, Bool, false, not, ◌&&◌, ◌||◌, List, slice_index}
use Rattle.std.specs.Int.{bit_at}
use Rattle.cw_own.specs.declared.row.Row as code

-- a set of slots, as its characteristic function
abbrev pub Slots : Type 0
Slots = ℕ → Bool

-- the empty set
abbrev pub no_slot : Slots
no_slot = λ slot. false

-- adds a slot
abbrev pub with_slot : ℕ → Slots → Slots
with_slot new set = λ slot. (slot == new) || set slot

-- removes a slot
abbrev pub without_slot : ℕ → Slots → Slots
without_slot old set = λ slot. not (slot == old) && set slot

-- the union of two sets
abbrev pub either : Slots → Slots → Slots
either s t = λ slot. s slot || t slot

-- the intersection of two sets
abbrev pub both : Slots → Slots → Slots
both s t = λ slot. s slot && t slot

-- the set that rows of bits represent
abbrev pub slots_of : List ℕ → Slots
slots_of rows = λ slot. bit_at (slice_index rows (slot / 64)) (slot % 64) == 1

-- a set of locals, by the slots of its integers and of its arrays
pub record Row : Type 0 where
  pub ints : Slots
  pub arrays : Slots

-- the empty set of locals
abbrev pub no_local : Row
no_local = record { ints = no_slot; arrays = no_slot }

-- adds an integer
abbrev pub with_int : ℕ → Row → Row
with_int slot row = record { ints = with_slot slot row.ints; arrays = row.arrays }

-- adds an array
abbrev pub with_array : ℕ → Row → Row
with_array slot row = record { ints = row.ints; arrays = with_slot slot row.arrays }

-- the union of two sets of locals
abbrev pub either_row : Row → Row → Row
either_row r s = record { ints = either r.ints s.ints; arrays = either r.arrays s.arrays }

-- the intersection of two sets of locals
abbrev pub both_rows : Row → Row → Row
both_rows r s = record { ints = both r.ints s.ints; arrays = both r.arrays s.arrays }

-- the set of locals that a row of the code represents
abbrev pub row_of : code.Row → Row
row_of r = record { ints = slots_of r.ints.words; arrays = slots_of r.arrays.words }
