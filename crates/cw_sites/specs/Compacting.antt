-- The effect of merging steps on a list of steps and on the sums of sites.
use Rattle.std.specs.Prelude.{◌≡◌, ℕ, zero, suc, ◌+◌, ◌-◌, ◌^◌, ◌<◌, ◌≤◌, nat_lt, List, length, get_or}
use Rattle.std.specs.Global.{Vec}
use Rattle.cw_measure.specs.Outermost.{one_if}
use Rattle.cw_facts.specs.Items.{entry}
use Rattle.cw_facts.specs.declared.table.Table.{Table}
use Rattle.cw_sites.specs.declared.steps.Steps.{Steps}
use Rattle.cw_sites.specs.StepSums.{added, sum_at, upto, whole, AllBelow, SumsUp}

-- the steps from one place up to another were merged: they now end at `end`, and the steps after them stay separate
pub record IsAddedUp (from to : ℕ) (old new : List Steps) (end : ℕ) : Type 0 where
  pub from_is : from ≤ end
  pub count_is : length new + to ≡ length old + end
  pub below : (q n : ℕ) → n ≤ from → upto q new n ≡ upto q old n
  pub same : (q : ℕ) → upto q old to - upto q old from < 2 ^ 64 → upto q new end ≡ upto q old to
  pub last : (q : ℕ) → whole q new + upto q old to ≡ upto q new end + whole q old

-- the steps from one place up to another, if these are places of the list, were merged
abbrev pub AddsUpWithin : (from to : ℕ) → List Steps → List Steps → (end : ℕ) → Type 0
AddsUpWithin from to old new end = from ≤ to → to ≤ length old → IsAddedUp from to old new end

-- the number of steps after them is unchanged
abbrev pub CountsOn : (to : ℕ) → List Steps → List Steps → (end : ℕ) → Type 0
CountsOn to old new end = to ≤ length old → length new + to ≡ length old + end

-- the sums of all sites over the steps from one place up to another, if these are places of the list
abbrev pub SumsUpWithin : (from to : ℕ) → List Steps → (sums : List ℕ) → Type 0
SumsUpWithin from to steps sums = from ≤ to → to ≤ length steps → SumsUp from to steps sums

-- there are at most as many sums as sites that the steps can have
abbrev pub NoMoreThanSites : List Steps → (sums : List ℕ) → Type 0
NoMoreThanSites steps sums = (most : ℕ) → AllBelow most steps → length sums ≤ most

-- instructions of a site were added to its sum
abbrev pub AddsTo : (site count : ℕ) → (old new : List ℕ) → Type 0
AddsTo site count old new = (q : ℕ) → sum_at q new ≡ added q site count (sum_at q old)

-- if there are at most `most` sums and the site is below `most`, there still are at most `most`
abbrev pub StaysWithin : (site : ℕ) → (old new : List ℕ) → Type 0
StaysWithin site old new = (most : ℕ) → site < most → length old ≤ most → length new ≤ most

-- the number of merged steps from a place on is at most the number of sites that they can have
abbrev pub EndsWithinSites : (from : ℕ) → List Steps → (end : ℕ) → Type 0
EndsWithinSites from steps end = (most : ℕ) → AllBelow most steps → end ≤ from + most

-- the number of sites below a number whose place is below `to`
abbrev pub placed : (to : ℕ) → Table ℕ → (most : ℕ) → ℕ
placed to places zero = 0
placed to places (suc n) = placed to places n + one_if (nat_lt (entry to places n) to)

-- the step at the place belongs to the site, and is one of those from one place up to another
abbrev pub IsAt : (site : ℕ) → List Steps → (from end place : ℕ) → Type 0
IsAt site steps from end place =
    (from ≤ place) × (place < end) × ((d : Steps) → (get_or steps place d).site ≡ site)

-- of the steps from one place up to another, those before a place `i` are merged and end at `end`; the merged step of
-- each of their sites is at the site's place, and the number of sites with a place is the number of merged steps
pub record Gathered (from to : ℕ) (old now : List Steps) (i : ℕ) (places : Table ℕ) (end : ℕ) : Type 0 where
  pub from_is : from ≤ end
  pub end_is : end ≤ i
  pub count_is : length now ≡ length old
  pub below : (q n : ℕ) → n ≤ from → upto q now n ≡ upto q old n
  pub same : (q : ℕ) → upto q old to - upto q old from < 2 ^ 64 → upto q now end ≡ upto q old i
  pub behind : (q m n : ℕ) → i ≤ m → m ≤ n → upto q now n + upto q old m ≡ upto q old n + upto q now m
  pub at : (site : ℕ) → entry to places site < to → IsAt site now from end (entry to places site)
  pub sites : (most : ℕ) → AllBelow most old → end ≡ from + placed to places most
  pub kept : (most : ℕ) → AllBelow most old → AllBelow most now

-- the length of the merged steps is at most `limit`
abbrev pub EndsWithin : (from to limit : ℕ) → List Steps → (end : ℕ) → Type 0
EndsWithin from to limit old end = to ≤ length old → end ≤ from + limit

-- one more step is merged
abbrev pub GathersOne :
    (to : ℕ) → List Steps → Table ℕ → (i end : ℕ) → List Steps → Table ℕ → (next : ℕ) → Type 0
GathersOne to now places i end new new_places next =
    (from : ℕ) (old : List Steps) → Gathered from to old now i places end
    → Gathered from to old new (i + 1) new_places next

-- one more step is merged, in vectors
abbrev pub GathersIn :
    (to : ℕ) → Vec Steps → Table ℕ → (i end : ℕ) → Vec Steps → Table ℕ → (next : ℕ) → Type 0
GathersIn to now places i end new new_places next =
    GathersOne to now.items places i end new.items new_places next

-- the steps from one place up to another are merged and end at `end`; the steps after them are unchanged
pub record IsGathered (from to : ℕ) (old new : List Steps) (end : ℕ) : Type 0 where
  pub from_is : from ≤ end
  pub end_is : end ≤ to
  pub count_is : length new ≡ length old
  pub below : (q n : ℕ) → n ≤ from → upto q new n ≡ upto q old n
  pub same : (q : ℕ) → upto q old to - upto q old from < 2 ^ 64 → upto q new end ≡ upto q old to
  pub behind : (q : ℕ) → whole q new + upto q old to ≡ whole q old + upto q new to
  pub sites : EndsWithinSites from old end
  pub kept : (most : ℕ) → AllBelow most old → AllBelow most new
