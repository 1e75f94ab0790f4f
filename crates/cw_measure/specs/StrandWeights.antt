-- The heaviest path of a strand with its enclosing blocks that have spawned, and the run so far that it represents.
use Rattle.std.specs.Prelude.{◌≡◌, ℕ, ◌+◌, ◌-◌, ◌^◌, ◌<◌, ◌≤◌, max, Bool, true, false, not, List, [], ◌∷◌, ◌++◌, Option}
use Rattle.std.specs.Vec.{vec_len, vec_capacity}
use Rattle.cw_model.specs.declared.burden.Burden.{Burden}
use Rattle.cw_model.specs.Burdens.{at_child, at_rest}
use Rattle.cw_model.specs.Trees.{Mark, Event, Join, tree_of, burdened_span}
use Rattle.cw_measure.specs.declared.burdened_path.BurdenedBlock.{BurdenedBlock}
use Rattle.cw_measure.specs.declared.burdened_path.BurdenedPath.{BurdenedPath}
use Rattle.cw_measure.specs.OpenParts.{Open, in_series, in_fork, closed, has_spawned, no_joins, Since, work_in}
use Rattle.cw_measure.specs.BlockWeights.{BlockWeight, Straight, Split, now_of, block_weight, burdened_work_in}

-- the weight of the path of the current strand, and the blocks that have spawned, the innermost first
pub record StrandWeight : Type 0 where
  pub now : ℕ
  pub blocks : List BurdenedBlock

-- the blocks of the first list in reverse order, before the second list
abbrev pub reversed : List BurdenedBlock → List BurdenedBlock → List BurdenedBlock
reversed [] bs = bs
reversed (b ∷ more) bs = reversed more (b ∷ bs)

-- the weights of a burdened path, with the innermost block first
abbrev pub strand_weight : BurdenedPath → StrandWeight
strand_weight path = record { now = path.weight; blocks = reversed path.blocks.items [] }

-- there is room for a block
abbrev pub HasRoomForBlock : BurdenedPath → Type 0
HasRoomForBlock path = vec_len path.blocks < vec_capacity path.blocks

-- adds instructions
abbrev pub goes_on : ℕ → StrandWeight → StrandWeight
goes_on k v = record { now = v.now + k; blocks = v.blocks }

-- the path includes the instructions since the last count, if its weight fits
abbrev pub HasGoneOn : BurdenedPath → BurdenedPath → (count : ℕ) → Type 0
HasGoneOn old new count =
    old.noted ≤ count → old.weight + (count - old.noted) < 2 ^ 128
    → strand_weight new ≡ goes_on (count - old.noted) (strand_weight old)

-- the first spawn of a block since its last join
abbrev pub begins : StrandWeight → StrandWeight
begins v = record { now = 0; blocks = record { longest = 0; saved = v.now } ∷ v.blocks }

-- a further spawn of the innermost block that has spawned
abbrev pub begins_again : StrandWeight → StrandWeight
begins_again v = at v.now v.blocks
  where
    at : ℕ → List BurdenedBlock → StrandWeight
    at n [] = record { now = 0; blocks = [] }
    at n (b ∷ bs) = record { now = 0; blocks = record { longest = b.longest; saved = n } ∷ bs }

-- a spawn: the first of its block since the last join, or a further one
abbrev pub spawns : (first : Bool) → StrandWeight → StrandWeight
spawns true v = begins v
spawns false v = begins_again v

-- the current spawned child ended
abbrev pub ends : Burden → StrandWeight → StrandWeight
ends burden v = at v.now v.blocks
  where
    at : ℕ → List BurdenedBlock → StrandWeight
    at n [] = record { now = n; blocks = [] }
    at n (b ∷ bs) =
        let child = b.saved + (at_child burden + n) in
        record
        { now = b.saved + at_rest burden; blocks = record { longest = max b.longest child; saved = b.saved } ∷ bs }

-- the block joins
abbrev pub joins : StrandWeight → StrandWeight
joins v = at v.now v.blocks
  where
    at : ℕ → List BurdenedBlock → StrandWeight
    at n [] = record { now = n; blocks = [] }
    at n (b ∷ bs) = record { now = max b.longest n; blocks = bs }

-- appends a piece of the current block without open parts: its path through a child follows the current path
abbrev pub lengthened : (first : Bool) → (longest now : ℕ) → List BurdenedBlock → List BurdenedBlock
lengthened true l n bs = record { longest = l; saved = n } ∷ bs
lengthened false l n [] = []
lengthened false l n (b ∷ bs) = record { longest = max b.longest l; saved = b.saved } ∷ bs

-- appends a piece with this current path and these blocks
abbrev pub appends_at : (first : Bool) → (now : ℕ) → List BurdenedBlock → StrandWeight → StrandWeight
appends_at first now [] v = goes_on now v
appends_at first now (p ∷ ps) v =
    record { now = v.now + now; blocks = lengthened first (v.now + p.longest) v.now v.blocks }

-- appends a piece
abbrev pub appends : (first : Bool) → (piece v : StrandWeight) → StrandWeight
appends first piece v = appends_at first piece.now piece.blocks v

-- the weight of the path through the longest child of the innermost block
abbrev pub longest_of : List BurdenedBlock → ℕ
longest_of [] = 0
longest_of (b ∷ bs) = b.longest

-- the paths of a piece after the current path fit 128 bits
abbrev pub FitsPiece : (piece v : StrandWeight) → Type 0
FitsPiece piece v = (v.now + piece.now < 2 ^ 128) × (v.now + longest_of piece.blocks < 2 ^ 128)

-- the weight of the path up to the spawn of the current strand
abbrev pub saved_of : List BurdenedBlock → ℕ
saved_of [] = 0
saved_of (b ∷ bs) = b.saved

-- the path of a spawned part and the path of its continuation, with their charges, fit 128 bits
abbrev pub Fits : Burden → StrandWeight → Type 0
Fits burden v =
    (saved_of v.blocks + (at_child burden + v.now) < 2 ^ 128) × (saved_of v.blocks + at_rest burden < 2 ^ 128)

-- the current block, or a block in which a part in series is open
abbrev pub IsStackedOn : (below : List BurdenedBlock → Type 0) → BlockWeight → List BurdenedBlock → Type 0
IsStackedOn below (Straight n) bs = below bs
IsStackedOn below (Split l n) [] = ⊥
IsStackedOn below (Split l n) (b ∷ bs) = (b.longest ≡ l) × below bs

-- a block whose spawned child is running
abbrev pub RestsOn : (below : List BurdenedBlock → Type 0) → BlockWeight → List BurdenedBlock → Type 0
RestsOn below L [] = ⊥
RestsOn below (Straight n) (b ∷ bs) = (b.longest ≡ 0) × (b.saved ≡ n) × below bs
RestsOn below (Split l n) (b ∷ bs) = (b.longest ≡ l) × (b.saved ≡ n) × below bs

-- the blocks below a part: its block's child is running if the part was spawned
abbrev pub LiesUnder : (spawned : Bool) → (below : List BurdenedBlock → Type 0) → BlockWeight → List BurdenedBlock
    → Type 0
LiesUnder true below L bs = RestsOn below L bs
LiesUnder false below L bs = IsStackedOn below L bs

-- the blocks below all open parts
abbrev pub Under : Burden → List Open → List BurdenedBlock → Type 0
Under burden [] bs = bs ≡ []
Under burden (o ∷ os) bs = LiesUnder o.spawned (Under burden os) (block_weight burden os o.outer) bs

-- the weights of a strand represent a run so far
pub record ShowsWeight (burden : Burden) (os : List Open) (es : List Event) (v : StrandWeight) : Type 0 where
  pub now_is : v.now ≡ now_of (block_weight burden os es)
  pub blocks_are : IsStackedOn (Under burden os) (block_weight burden os es) v.blocks

-- a burdened path represents a run so far
pub record TracksWeight (burden : Burden) (os : List Open) (es : List Event) (path : BurdenedPath) : Type 0 where
  pub shows : ShowsWeight burden os es (strand_weight path)
  pub noted_is : path.noted ≡ work_in os es

-- the weights of a run so far fit 128 bits
abbrev pub FitsRun : Burden → List Open → List Event → Type 0
FitsRun burden os es = burdened_work_in burden os es < 2 ^ 128

-- the path after inclusion of the instructions up to a count
abbrev pub noted_at : (count : ℕ) → BurdenedPath → BurdenedPath
noted_at count path =
    record { weight = path.weight + (count - path.noted); noted = count; blocks = path.blocks }

-- a late burdened path: instructions, and starts and ends of parts in series, may be missing; it represents the run
-- once all instructions are included
pub record TracksLate (burden : Burden) (os : List Open) (es : List Event) (path : BurdenedPath) : Type 0 where
  pub late : path.noted ≤ work_in os es
  pub tells : TracksWeight burden os es (noted_at (work_in os es) path)

-- a late path stays late as instructions, and joins of blocks that have spawned nothing, follow
abbrev pub LatePathsWait : Type 0
LatePathsWait =
    (burden : Burden) (os : List Open) (es fs : List Event) (path : BurdenedPath) (count : ℕ)
    → Since (work_in os es) count es fs → FitsRun burden os (es ++ fs)
    → TracksLate burden os es path → TracksLate burden os (es ++ fs) path

-- a late path represents the run after `note`
abbrev pub RecordsLate : BurdenedPath → BurdenedPath → (count : ℕ) → Type 0
RecordsLate old new count =
    (burden : Burden) (os : List Open) (es fs : List Event) → Since (work_in os es) count es fs
    → FitsRun burden os (es ++ fs) → TracksLate burden os es old → TracksWeight burden os (es ++ fs) new

-- includes the instructions up to a count: a path that represents a run represents the run after the events
abbrev pub NotesWeight : BurdenedPath → BurdenedPath → (count : ℕ) → Type 0
NotesWeight old new count =
    (burden : Burden) (os : List Open) (es fs : List Event) → Since old.noted count es fs → FitsRun burden os (es ++ fs)
    → TracksWeight burden os es old → TracksWeight burden os (es ++ fs) new

-- begins a spawned part
abbrev pub SpawnsWeight : BurdenedPath → BurdenedPath → (count : ℕ) → (first : Bool) → Type 0
SpawnsWeight old new count first =
    (burden : Burden) (mark : Option Mark) (os : List Open) (es fs : List Event) → Since old.noted count es fs
    → FitsRun burden os (es ++ fs)
    → has_spawned es ≡ not first → TracksWeight burden os es old → TracksWeight burden (in_fork mark (es ++ fs) os) [] new

-- ends a spawned part whose block has joined
abbrev pub EndsChildWeight : BurdenedPath → BurdenedPath → (count : ℕ) → Burden → Type 0
EndsChildWeight old new count burden =
    (o : Open) (os : List Open) (es fs : List Event) → Since old.noted count es fs → FitsRun burden (o ∷ os) (es ++ fs)
    → o.spawned ≡ true → has_spawned es ≡ false → TracksWeight burden (o ∷ os) es old
    → TracksWeight burden os (closed o (es ++ fs)) new

-- joins a block that has spawned since its last join
abbrev pub JoinsWeight : BurdenedPath → BurdenedPath → (count : ℕ) → Type 0
JoinsWeight old new count =
    (burden : Burden) (os : List Open) (es fs : List Event) → Since old.noted count es fs → FitsRun burden os (es ++ fs)
    → has_spawned es ≡ true → TracksWeight burden os es old → TracksWeight burden os ((es ++ fs) ++ Join ∷ []) new

-- appends a piece of the current block that was executed separately and has no join
abbrev pub AppendsWeight : BurdenedPath → (piece : BurdenedPath) → BurdenedPath → (first : Bool) → Type 0
AppendsWeight old piece new first =
    (burden : Burden) (os : List Open) (es fs : List Event) → has_spawned es ≡ not first → no_joins fs ≡ true
    → work_in os (es ++ fs) < 2 ^ 64
    → FitsRun burden os (es ++ fs) → TracksWeight burden os es old → TracksWeight burden [] fs piece
    → TracksWeight burden os (es ++ fs) new

-- parts in series begin and end without a call, once the instructions so far are included
pub record SeriesNeedNoCall (burden : Burden) (path : BurdenedPath) : Type 0 where
  pub begins : (mark : Option Mark) (os : List Open) (es : List Event) → TracksWeight burden os es path
      → TracksWeight burden (in_series mark es os) [] path
  pub ends : (o : Open) (os : List Open) (es : List Event) → o.spawned ≡ false → has_spawned es ≡ false
      → TracksWeight burden (o ∷ os) es path → TracksWeight burden os (closed o es) path

-- the weight of a burdened path at the end of a run
abbrev pub ReadsWeight : BurdenedPath → (weight : ℕ) → Type 0
ReadsWeight path weight =
    (burden : Burden) (es : List Event) → has_spawned es ≡ false → TracksWeight burden [] es path
    → weight ≡ burdened_span burden (tree_of es)
