-- The open blocks of a strand, whose paths are parts of one list, with the instructions of one site.
use Rattle.std.specs.Prelude.{◌≡◌, ℕ, ◌+◌, ◌-◌, ◌^◌, ◌≤◌, ◌<◌, Bool, List, [], ◌∷◌, ◌++◌, length, option_map}
use Rattle.std.specs.Vec.{vec_len, vec_capacity}
use Rattle.cw_sites.specs.ChosenPaths.{Path, plus, best, steps_of}
use Rattle.cw_sites.specs.declared.steps.Steps.{Steps}
use Rattle.cw_sites.specs.declared.paths.ForkedBlock.{ForkedBlock}
use Rattle.cw_sites.specs.declared.paths.Paths.{Paths}
use Rattle.cw_sites.specs.StepSums.{upto, whole, if_site, Fits, HasSteps}
use Rattle.cw_sites.specs.StrandPaths.{SeenBlock, StrandPath, takes, goes_on, longest_path, extends_by, forks}
use Rattle.cw_sites.specs.StrandPaths.{appends, appends_block, whole as all_of}

-- the path with this weight whose steps are from one place up to another
abbrev pub part : (site : ℕ) → List Steps → (from to weight : ℕ) → Path
part site steps from to weight = record { weight = weight; own = upto site steps to - upto site steps from }

-- an open block, with the instructions of one site
abbrev pub seen : (site : ℕ) → List Steps → ForkedBlock → SeenBlock
seen site steps f =
    record {
      base = part site steps f.from f.mid f.base;
      longest = option_map (part site steps f.mid f.end) f.longest;
      rest = part site steps f.end f.child f.rest;
    }

-- open blocks, the innermost first, with the instructions of one site
abbrev pub seen_blocks : (site : ℕ) → List Steps → List ForkedBlock → List SeenBlock → List SeenBlock
seen_blocks site steps [] ps = ps
seen_blocks site steps (f ∷ fs) ps = seen_blocks site steps fs (seen site steps f ∷ ps)

-- the paths of a strand, with the instructions of one site
abbrev pub strand_path : (site : ℕ) → Paths → StrandPath
strand_path site r =
    record {
      now = part site r.steps.items r.start (length r.steps.items) r.weight;
      blocks = seen_blocks site r.steps.items r.blocks.items [];
    }

-- the parts of a block are in order, and the parts of each block follow the parts of the enclosing block
abbrev pub InOrder : ForkedBlock → Type 0
InOrder f = (f.from ≤ f.mid) × (f.mid ≤ f.end) × (f.end ≤ f.child)

-- the parts of blocks are consecutive, from a place up to another
abbrev pub LaidFrom : ℕ → List ForkedBlock → ℕ → Type 0
LaidFrom lo [] hi = lo ≡ hi
LaidFrom lo (f ∷ fs) hi = (lo ≡ f.from) × InOrder f × LaidFrom f.child fs hi

-- the parts of all blocks are consecutive, and the current path follows them
pub record Laid (r : Paths) : Type 0 where
  pub blocks : LaidFrom 0 r.blocks.items r.start
  pub start : r.start ≤ length r.steps.items

-- the parts are in order, with the innermost block outside of the list
pub record LaidWith (r : Paths) (f : ForkedBlock) : Type 0 where
  pub blocks : LaidFrom 0 r.blocks.items f.from
  pub order : InOrder f
  pub child : f.child ≡ r.start
  pub start : r.start ≤ length r.steps.items

-- the current path is at most one step longer than its limit
abbrev pub IsShort : Paths → Type 0
IsShort paths = length paths.steps.items ≤ paths.start + paths.limit + 1

-- the current path is within its limit
abbrev pub IsWithinLimit : Paths → Type 0
IsWithinLimit paths = length paths.steps.items ≤ paths.start + paths.limit

-- the current path is within its limit, and there is room for one more step
pub record HasRoom (paths : Paths) : Type 0 where
  pub within : IsWithinLimit paths
  pub room : vec_len paths.steps < vec_capacity paths.steps

-- there is room for a block
abbrev pub HasRoomForBlock : Paths → Type 0
HasRoomForBlock paths = vec_len paths.blocks < vec_capacity paths.blocks

-- no step of the innermost block is between its base and the current child
abbrev pub HasFirstChild : Paths → Type 0
HasFirstChild paths = (f : ForkedBlock) (fs : List ForkedBlock) → paths.blocks.items ≡ fs ++ f ∷ [] → f.mid ≡ f.child

-- at most one step was added
abbrev pub GrowsByOne : Paths → Paths → Type 0
GrowsByOne old new = length new.steps.items ≤ length old.steps.items + 1

-- the blocks, and the weight and start of the current path, are unchanged
pub record KeepsBlocks (old new : Paths) : Type 0 where
  pub blocks : new.blocks.items ≡ old.blocks.items
  pub weight : new.weight ≡ old.weight
  pub start : new.start ≡ old.start

-- the instructions of a site in a block's base and in the path from there to the current child
abbrev pub rested : (site : ℕ) → List Steps → ForkedBlock → ℕ
rested q steps f = (upto q steps f.mid - upto q steps f.from) + (upto q steps f.child - upto q steps f.end)

-- the base of a block was extended to `mid`, where the current child now begins; the longest child was removed
pub record Gathers (old new : List Steps) (f : ForkedBlock) (mid : ℕ) : Type 0 where
  pub from : f.from ≤ mid
  pub count_is : length new + f.child ≡ length old + mid
  pub below : (q n : ℕ) → n ≤ f.from → upto q new n ≡ upto q old n
  pub base : (q : ℕ) → rested q old f < 2 ^ 64
      → upto q new mid + upto q old f.end ≡ upto q old f.mid + upto q old f.child
  pub child : (q : ℕ) → whole q new + upto q old f.child ≡ upto q new mid + whole q old

-- the base of a block was extended to `mid`, if the parts of the blocks were in order
abbrev pub GathersBase : Paths → Paths → ForkedBlock → (mid : ℕ) → Type 0
GathersBase old new f mid = LaidWith old f → Gathers old.steps.items new.steps.items f mid

-- the paths are unchanged for each site whose steps fit 64 bits
abbrev pub SaysTheSame : Paths → Paths → Type 0
SaysTheSame old new = Laid old → (q : ℕ) → (strand_path q old).now.own < 2 ^ 64 → strand_path q new ≡ strand_path q old

-- `count` instructions of a site were added
abbrev pub Extends : Paths → Paths → (site count : ℕ) → Type 0
Extends old new site count =
    Laid old → (q : ℕ) → Fits (plus (strand_path q old).now (steps_of q site count))
    → strand_path q new
    ≡ record { now = plus (strand_path q old).now (steps_of q site count); blocks = (strand_path q old).blocks }

-- `count` instructions were added to the steps at a place
abbrev pub ExtendsAt : (place : ℕ) → Paths → Paths → (count : ℕ) → Type 0
ExtendsAt place old new count =
    (site : ℕ) → HasSteps old.start place site old.steps.items → Extends old new site count

-- the effect of a call on the paths, for each site
abbrev pub Comes : (StrandPath → StrandPath) → Paths → Paths → Type 0
Comes f old new = Laid old → (q : ℕ) → strand_path q new ≡ f (strand_path q old)

-- the effect of a call on the paths, for each site whose paths fit 64 bits
abbrev pub ComesWithin : (StrandPath → StrandPath) → Paths → Paths → Type 0
ComesWithin f old new =
    Laid old → (q : ℕ) → Fits (all_of (strand_path q old)) → strand_path q new ≡ f (strand_path q old)

-- the current child became the longest, with the innermost block outside of the list
abbrev pub TakesChild : Paths → Paths → ForkedBlock → Type 0
TakesChild old new f =
    LaidWith old f → (q : ℕ) → Fits (plus (seen q old.steps.items f).base (seen q old.steps.items f).rest)
    → strand_path q new
    ≡ takes (seen q old.steps.items f).base (seen q old.steps.items f).rest (strand_path q old).now
    (strand_path q old).blocks

-- the current child was dropped, with the innermost block outside of the list
abbrev pub LetsChildGo : Paths → Paths → ForkedBlock → Type 0
LetsChildGo old new f =
    LaidWith old f → (q : ℕ) → strand_path q new ≡ goes_on (seen q old.steps.items f) (strand_path q old).blocks

-- the innermost block joined, which is outside of the list
abbrev pub JoinsBlock : Paths → Paths → ForkedBlock → Type 0
JoinsBlock old new f =
    LaidWith old f → (q : ℕ) → f.base + old.weight < 2 ^ 64
    → f.base + (longest_path (seen q old.steps.items f).longest).weight < 2 ^ 64
    → strand_path q new
    ≡ record {
      now = plus (seen q old.steps.items f).base
          (best (seen q old.steps.items f).longest (strand_path q old).now);
      blocks = (strand_path q old).blocks;
    }

-- the innermost block joined on the continuation, without its longest child
abbrev pub ClosesBlock : Paths → Paths → ForkedBlock → Type 0
ClosesBlock old new f =
    LaidWith old f → (q : ℕ) → f.base + old.weight < 2 ^ 64
    → strand_path q new
    ≡ record
    { now = plus (seen q old.steps.items f).base (strand_path q old).now; blocks = (strand_path q old).blocks }

-- these steps were added, except for their weight
abbrev pub AddsStep : Paths → Paths → Steps → Type 0
AddsStep old new one =
    Laid old → (q : ℕ) → (strand_path q old).now.own + if_site q one.site one.count < 2 ^ 64
    → strand_path q new ≡ extends_by (record { weight = 0; own = if_site q one.site one.count }) (strand_path q old)

-- the steps of a list from one place up to another were added, with this weight
abbrev pub ExtendsBy : Paths → Paths → List Steps → (from to weight : ℕ) → Type 0
ExtendsBy old new steps from to weight =
    from ≤ to → to ≤ length steps → Laid old → (q : ℕ)
    → Fits (plus (strand_path q old).now (part q steps from to weight))
    → strand_path q new ≡ extends_by (part q steps from to weight) (strand_path q old)

-- a child that was executed separately, with these steps, was added
abbrev pub Forks : Paths → Paths → (first : Bool) → List Steps → (from to weight : ℕ) → Type 0
Forks old new first steps from to weight =
    from ≤ to → to ≤ length steps → Laid old → (q : ℕ)
    → Fits (plus (all_of (strand_path q old)) (part q steps from to weight))
    → strand_path q new ≡ forks first (part q steps from to weight) (strand_path q old)

-- a piece that was executed separately, without open parts, was appended
abbrev pub Appends : Paths → (piece : Paths) → Paths → (first : Bool) → Type 0
Appends old piece new first =
    Laid old → Laid piece → (q : ℕ) → Fits (plus (all_of (strand_path q old)) (all_of (strand_path q piece)))
    → strand_path q new ≡ appends first (strand_path q piece) (strand_path q old)

-- a piece that was executed separately was appended, with the block in which it has spawned outside of its list
abbrev pub AppendsBlock : Paths → (piece : Paths) → Paths → ForkedBlock → (first : Bool) → Type 0
AppendsBlock old piece new f first =
    Laid old → LaidWith piece f → (q : ℕ)
    → Fits (plus (all_of (strand_path q old))
    (all_of (record { now = (strand_path q piece).now; blocks = seen q piece.steps.items f ∷ [] })))
    → strand_path q new
    ≡ appends_block first (seen q piece.steps.items f).base (seen q piece.steps.items f).longest
    (strand_path q piece).now (strand_path q old)
