-- The instructions of a site in a list of steps.
use Rattle.std.specs.Prelude.{◌≡◌, ℕ, zero, suc, ◌+◌, ◌-◌, min, slice_index_or, ◌^◌, ◌<◌, ◌≤◌, ◌==◌, List, [], ◌∷◌}
use Rattle.std.specs.Prelude.{length, if◌then◌else◌, ◌⊎◌}
use Rattle.cw_sites.specs.ChosenPaths.{Path}
use Rattle.cw_sites.specs.declared.steps.Steps.{Steps}

-- `k` instructions of the site `here`, as counted for a site
abbrev pub if_site : (site here : ℕ) → ℕ → ℕ
if_site site here k = if here == site then k else 0

-- the instructions of a site in the first `n` steps
abbrev pub upto : (site : ℕ) → List Steps → ℕ → ℕ
upto site [] n = 0
upto site (s ∷ ss) zero = 0
upto site (s ∷ ss) (suc n) = if_site site s.site s.count + upto site ss n

-- the instructions of a site in all steps
abbrev pub whole : (site : ℕ) → List Steps → ℕ
whole site ss = upto site ss (length ss)

-- the numbers of a path fit 64 bits
abbrev pub Fits : Path → Type 0
Fits p = (p.weight < 2 ^ 64) × (p.own < 2 ^ 64)

-- the sum of a site in a list of sums; sites after the end have 0
abbrev pub sum_at : (site : ℕ) → List ℕ → ℕ
sum_at site sums = slice_index_or sums site 0

-- the sum of a site after `count` instructions of the site `here`, saturating
abbrev pub added : (site here count sum : ℕ) → ℕ
added site here count sum = if here == site then min (sum + count) (2 ^ 64 - 1) else sum

-- the steps before a place contain the same instructions of each site
abbrev pub AsBelow : (start : ℕ) → List Steps → List Steps → Type 0
AsBelow start old new = (q n : ℕ) → n ≤ start → n ≤ length old → upto q new n ≡ upto q old n

-- the sums of all sites over the steps from one place up to another, for sites whose sums fit 64 bits
abbrev pub SumsUp : (from to : ℕ) → List Steps → (sums : List ℕ) → Type 0
SumsUp from to steps sums =
    (q : ℕ) → upto q steps to - upto q steps from < 2 ^ 64 → sum_at q sums ≡ upto q steps to - upto q steps from

-- all steps are of sites below a number
abbrev pub AllBelow : (most : ℕ) → List Steps → Type 0
AllBelow most [] = Unit {0}
AllBelow most (s ∷ ss) = (s.site < most) × AllBelow most ss

-- instructions of a site were added at the end, if the steps from `start` on fit 64 bits with them
abbrev pub AddsSteps : (start site count : ℕ) → List Steps → List Steps → Type 0
AddsSteps start site count old new =
    (q : ℕ) → (whole q old - upto q old start) + if_site q site count < 2 ^ 64
    → whole q new ≡ whole q old + if_site q site count

-- the path from `start` on has steps of the site at `place`
pub record HasSteps (start place site : ℕ) (steps : List Steps) : Type 0 where
  pub behind : start ≤ place
  pub within : place < length steps
  pub is : (d : Steps) → (slice_index_or steps place d).site ≡ site

-- the steps at `place` grew, for every path and site to which they belong
abbrev pub GrowsSteps : (place count : ℕ) → List Steps → List Steps → Type 0
GrowsSteps place count old new =
    (start site : ℕ) → HasSteps start place site old → AddsSteps start site count old new

-- if all steps are of sites below a number, they still are
abbrev pub StaysBelow : List Steps → List Steps → Type 0
StaysBelow old new = (most : ℕ) → AllBelow most old → AllBelow most new

-- if all steps and this site are below a number, all steps still are
abbrev pub StaysBelowWith : (site : ℕ) → List Steps → List Steps → Type 0
StaysBelowWith site old new = (most : ℕ) → site < most → AllBelow most old → AllBelow most new

-- the steps from `to` up to `end` moved to `from`, in another order; the steps after `end` are unchanged
pub record IsMovedDown (from to end : ℕ) (old new : List Steps) : Type 0 where
  pub count_is : length new ≡ length old
  pub below : (q n : ℕ) → n ≤ from → upto q new n ≡ upto q old n
  pub moved : (q : ℕ) → upto q new (from + (end - to)) + upto q old to ≡ upto q old from + upto q old end
  pub behind : (q n : ℕ) → end ≤ n → upto q new n + upto q old end ≡ upto q old n + upto q new end

-- a part was removed; the steps after it may be in another order
pub record IsCutOut (from to : ℕ) (old new : List Steps) : Type 0 where
  pub count_is : length new + (to - from) ≡ length old
  pub below : (q n : ℕ) → n ≤ from → upto q new n ≡ upto q old n
  pub all : (q : ℕ) → whole q new + upto q old to ≡ upto q old from + whole q old

-- a part was removed, if it is a part of the list
abbrev pub CutsOut : (from to : ℕ) → List Steps → List Steps → Type 0
CutsOut from to old new = from ≤ to → to ≤ length old → IsCutOut from to old new

-- a part before a path that ended at `end` was removed; the path now ends at `mid`, and the steps after it stay
-- separate
pub record IsClosedUp (from to end : ℕ) (old new : List Steps) (mid : ℕ) : Type 0 where
  pub mid_is : mid ≡ from + (end - to)
  pub count_is : length new + (to - from) ≡ length old
  pub below : (q n : ℕ) → n ≤ from → upto q new n ≡ upto q old n
  pub first : (q : ℕ) → upto q new mid + upto q old to ≡ upto q old from + upto q old end
  pub last : (q : ℕ) → whole q new + upto q old end ≡ upto q new mid + whole q old

-- a part before a path was removed, if it is a part of the list
abbrev pub ClosesUp : (from to end : ℕ) → List Steps → List Steps → (mid : ℕ) → Type 0
ClosesUp from to end old new mid = from ≤ to → to ≤ end → end ≤ length old → IsClosedUp from to end old new mid

-- the place is outside of a part
abbrev pub IsOutside : (from to place : ℕ) → Type 0
IsOutside from to place = (place < from) ⊎ (to ≤ place)

-- steps outside of one part stay at their places, as far as the list goes; at most the length of the part is written
abbrev pub WritesWithin : (from to : ℕ) → List Steps → List Steps → Type 0
WritesWithin from to old new =
    (place : ℕ) (d : Steps) → IsOutside from to place → place < length new
    → slice_index_or new place d ≡ slice_index_or old place d

-- steps outside of two parts, each as long as the removed part, stay at their places
abbrev pub WritesWithinTwo : (from to mid end : ℕ) → List Steps → List Steps → Type 0
WritesWithinTwo from to mid end old new =
    (place : ℕ) (d : Steps) → IsOutside from to place → IsOutside mid end place → place < length new
    → slice_index_or new place d ≡ slice_index_or old place d

-- at most twice the length of the removed part is written
abbrev pub WritesTwice : (from to end : ℕ) → List Steps → List Steps → (mid : ℕ) → Type 0
WritesTwice from to end old new mid =
    from ≤ to → to ≤ end → end ≤ length old → (end - mid ≡ to - from) × WritesWithinTwo from to mid end old new
