-- The meter if not all measures are counted. If only values are computed, the meter knows the number of open parts
-- and nothing else. So its notifications are the same after any number of instructions and for any part.
use Rattle.std.specs.Prelude.{◌≡◌, ℕ, Bool, true, false, Option}
use Rattle.cw_model.specs.Trees.{Mark}
use Rattle.cw_greedy.specs.Recording.{IsQuiet}
use Rattle.cw_meter.specs.declared.meter.Meter.{Meter}
use Rattle.cw_meter.specs.Meters.{Begins, BeginsRegion, Ends, Returns, Syncs}

-- a spawned part begins: a call statement, or half of a loop
abbrev pub BeginsSpawned : (old new : Meter) → (count : ℕ) → Type 0
BeginsSpawned old new count = (mark : Option Mark) → Begins old new count true mark

-- a plain part begins that is no call statement
abbrev pub BeginsQuiet : (old new : Meter) → (count : ℕ) → Type 0
BeginsQuiet old new count = (mark : Option Mark) → IsQuiet mark → Begins old new count false mark

-- a region begins, of any tag
abbrev pub BeginsRegions : (old new : Meter) → (count : ℕ) → Type 0
BeginsRegions old new count = (tag : ℕ) → BeginsRegion old new count tag

-- any part begins
pub record OpensAny (old new : Meter) : Type 0 where
  pub begins : (count : ℕ) (spawned : Bool) (mark : Option Mark) → Begins old new count spawned mark
  pub region : (count tag : ℕ) → BeginsRegion old new count tag
  pub detail : new.detail ≡ old.detail

-- the innermost part joins and ends
pub record LeavesAny (old new : Meter) : Type 0 where
  pub ends : (count : ℕ) → Ends old new count
  pub returns : (count : ℕ) → Returns old new count
  pub detail : new.detail ≡ old.detail

-- the current block joins, and the meter is unchanged
abbrev pub SyncsAny : Meter → Type 0
SyncsAny m = (count : ℕ) → Syncs m m count
