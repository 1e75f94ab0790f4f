-- The maximum number of steps of the paths of a strand.
use Rattle.std.specs.Prelude.{ℕ, ◌+◌, ◌*◌, ◌≤◌, ◌<◌, List, [], ◌∷◌, length}
use Rattle.cw_sites.specs.declared.steps.Steps.{Steps}
use Rattle.cw_sites.specs.declared.paths.ForkedBlock.{ForkedBlock}
use Rattle.cw_sites.specs.declared.paths.Paths.{Paths}
use Rattle.cw_sites.specs.StepSums.{AllBelow}
use Rattle.cw_sites.specs.StepLists.{Laid, LaidWith}

-- the number of steps of sites below a number that a path may have before steps of equal sites are merged
abbrev pub most_steps : (most : ℕ) → ℕ
most_steps most = 2 * most + 64

-- no path of a block has more than `count` steps: its base, its longest child, and the path up to the current child
abbrev pub IsShortBlock : (count : ℕ) → ForkedBlock → Type 0
IsShortBlock count f = (f.mid ≤ f.from + count) × (f.end ≤ f.mid + count) × (f.child ≤ f.end + count)

-- no path of these blocks has more than `count` steps
abbrev pub AreShort : (count : ℕ) → List ForkedBlock → Type 0
AreShort count [] = Unit {0}
AreShort count (f ∷ fs) = IsShortBlock count f × AreShort count fs

-- all steps are of sites below `most`, the paths of open blocks have a bounded number of steps, and the current path
-- has at most `room` steps
pub record IsBoundedBy (room most : ℕ) (paths : Paths) : Type 0 where
  pub laid : Laid paths
  pub sites : AllBelow most paths.steps.items
  pub limit : paths.limit ≤ most_steps most
  pub blocks : AreShort (most_steps most + 1) paths.blocks.items
  pub now : length paths.steps.items ≤ paths.start + room

-- the bound after a step, a spawn or the end of a child
abbrev pub IsTight : (most : ℕ) → Paths → Type 0
IsTight most = IsBoundedBy (most_steps most + 1) most

-- the bound after any event, including a join
abbrev pub IsBounded : (most : ℕ) → Paths → Type 0
IsBounded most = IsBoundedBy (2 * (most_steps most + 1)) most

-- the bound after a step, with the innermost block outside of the list
pub record IsTightWith (most : ℕ) (paths : Paths) (f : ForkedBlock) : Type 0 where
  pub laid : LaidWith paths f
  pub sites : AllBelow most paths.steps.items
  pub limit : paths.limit ≤ most_steps most
  pub blocks : AreShort (most_steps most + 1) paths.blocks.items
  pub block : IsShortBlock (most_steps most + 1) f
  pub now : length paths.steps.items ≤ paths.start + (most_steps most + 1)

-- the current path is brought within its limit
abbrev pub ComesToFit : Paths → Paths → Type 0
ComesToFit old new = (room most : ℕ) → IsBoundedBy room most old → IsBoundedBy (most_steps most) most new

-- the current path grows by at most one step
abbrev pub GrowsAt : (site : ℕ) → Paths → Paths → Type 0
GrowsAt site old new = (room most : ℕ) → site < most → IsBoundedBy room most old → IsBoundedBy (room + 1) most new

-- no path exceeds a bound that allows one step above the limit
abbrev pub GrowsWithin : (site : ℕ) → Paths → Paths → Type 0
GrowsWithin site old new =
    (room most : ℕ) → site < most → most_steps most + 1 ≤ room → IsBoundedBy room most old → IsBoundedBy room most new

-- the current path is brought within its limit, and then grows by at most one step
abbrev pub FitsAt : (site : ℕ) → Paths → Paths → Type 0
FitsAt site old new = (room most : ℕ) → site < most → IsBoundedBy room most old → IsTight most new

-- a spawn and the end of a child keep the tight bound
abbrev pub StaysTight : Paths → Paths → Type 0
StaysTight old new = (most : ℕ) → IsTight most old → IsTight most new

-- a join concatenates two paths
abbrev pub JoinsTight : Paths → Paths → Type 0
JoinsTight old new = (most : ℕ) → IsTight most old → IsBounded most new

-- the tight bound is kept, with the innermost block outside of the list before
abbrev pub StaysTightWith : Paths → ForkedBlock → Paths → Type 0
StaysTightWith old f new = (most : ℕ) → IsTightWith most old f → IsTight most new

-- a join concatenates two paths, with the innermost block outside of the list before
abbrev pub JoinsTightWith : Paths → ForkedBlock → Paths → Type 0
JoinsTightWith old f new = (most : ℕ) → IsTightWith most old f → IsBounded most new

-- the tight bound is kept if the added steps are of sites below the same number
abbrev pub StaysTightBeside : List Steps → Paths → Paths → Type 0
StaysTightBeside steps old new = (most : ℕ) → AllBelow most steps → IsTight most old → IsTight most new

-- the tight bound holds afterwards if the added steps are of sites below the same number
abbrev pub FitsBeside : List Steps → Paths → Paths → Type 0
FitsBeside steps old new = (room most : ℕ) → AllBelow most steps → IsBoundedBy room most old → IsTight most new

-- the limit stays at most the bound for the sites
abbrev pub KeepsLimit : Paths → Paths → Type 0
KeepsLimit old new =
    (most : ℕ) → AllBelow most old.steps.items → old.limit ≤ most_steps most → new.limit ≤ most_steps most

-- the base of a block that took a continuation in ends at `mid`, and is within its bound
pub record IsShortBase (most : ℕ) (paths : Paths) (from mid : ℕ) : Type 0 where
  pub sites : AllBelow most paths.steps.items
  pub limit : paths.limit ≤ most_steps most
  pub base : mid ≤ from + (most_steps most + 1)

-- the base of a block stays within its bound when it takes a continuation in
abbrev pub StaysShort : Paths → Paths → ForkedBlock → (mid : ℕ) → Type 0
StaysShort old new f mid =
    LaidWith old f → (most : ℕ) → AllBelow most old.steps.items → old.limit ≤ most_steps most
    → IsShortBlock (most_steps most + 1) f → IsShortBase most new f.from mid
