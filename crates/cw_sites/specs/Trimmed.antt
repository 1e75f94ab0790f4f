-- A table that gives memory back.
use Rattle.std.specs.Prelude.{◌≡◌, ℕ, List}
use Rattle.cw_model.specs.Trees.{Event}
use Rattle.cw_measure.specs.OpenParts.{Open}
use Rattle.cw_sites.specs.declared.paths.Paths.{Paths}
use Rattle.cw_sites.specs.declared.table.SiteTable.{SiteTable}
use Rattle.cw_sites.specs.Tables.{IsBoundedTable, Tracks}

-- the lists have the same items as before, and everything else is unchanged
pub record IsTrimmed (old new : Paths) : Type 0 where
  pub steps : new.steps.items ≡ old.steps.items
  pub blocks : new.blocks.items ≡ old.blocks.items
  pub weight : new.weight ≡ old.weight
  pub start : new.start ≡ old.start
  pub limit : new.limit ≡ old.limit

-- a table tells of each run so far of which it told
abbrev pub TracksAsBefore : SiteTable → SiteTable → Type 0
TracksAsBefore old new =
    (base : ℕ) (busy : ℕ → ℕ) (os : List Open) (es : List Event) → Tracks base busy os es old
    → Tracks base busy os es new

-- and is bounded as it was
abbrev pub StaysBounded : SiteTable → SiteTable → Type 0
StaysBounded old new = (most : ℕ) → IsBoundedTable most old → IsBoundedTable most new
