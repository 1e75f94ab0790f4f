-- The memory that a right to cells owns: the whole right owns all of each cell, and a halved right owns a part of
-- each.
use Rattle.std.specs.Prelude.{ℕ, zero, suc, ◌*◌, ◌^◌, ℤ, Bool, true, false, List, [], ◌∷◌}
use base.Fraction.{full_share}
use base.Share.{left}
use base.Fml.{Share, Fml, ftrue, fsep, flt}
use denote.Builtin.{i64}
use denote.RawPtr.{Ptr, lies_at, in_block, ◌+ₚ◌}
use Rattle.core.specs.Mem.Slots.Ownership.{bytes_of, slots}

-- the full share, halved this number of times
abbrev pub halves : ℕ → Share
halves zero = full_share
halves (suc d) = left (halves d)

-- a share of a filled cell, nothing of a cell that is not filled
abbrev pub part_of_slot : Share → Bool → Ptr → ℤ → Fml
part_of_slot q true p x = lies_at i64 q p x
part_of_slot q false p x = ftrue

-- a share of each cell of a run from `p` on
abbrev pub part_of_slots : Share → Ptr → List ℤ → List Bool → Fml
part_of_slots q p [] fs = ftrue
part_of_slots q p (x ∷ xs) [] = ftrue
part_of_slots q p (x ∷ xs) (f ∷ fs) = fsep (part_of_slot q f p x) (part_of_slots q (p +ₚ bytes_of i64) xs fs)

-- the cells of a run from `p` on, owned; or, if the right was halved, that part of the right to them
abbrev pub held : (halved : ℕ) → Ptr → List ℤ → List Bool → Fml
held zero p xs fs = slots i64 p xs fs
held (suc d) p xs fs = part_of_slots (halves (suc d)) p xs fs

abbrev pub held_owned : (halved : ℕ) → Ptr → (len : ℕ) → List ℤ → List Bool → Fml
held_owned d p n xs fs = fsep (flt (n * bytes_of i64) (2 ^ 63)) (in_block p (held d p xs fs))
