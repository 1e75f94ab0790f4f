-- A block that is replaced by a new array.
use Rattle.std.specs.Prelude.{◌≡◌, ℕ, pos, List, replicate, slice_set}
use Rattle.cw_slices.specs.Blocks.{Lodged, ins, IsWhole}

-- a block is replaced by zeros
pub record HasZeros (blocks : List Lodged) (index len : ℕ) (blocks' : List Lodged) : Type 0 where
  pub zeros : Lodged
  pub are : zeros.cells ≡ ins (replicate len (pos 0))
  pub whole : IsWhole zeros
  pub own : zeros.spot.halved ≡ 0
  pub set : blocks' ≡ slice_set blocks index zeros
