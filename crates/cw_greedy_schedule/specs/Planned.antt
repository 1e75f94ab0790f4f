-- The strands of a block, each with what waits for it, and the state of a planning while codes are read.
use Rattle.std.specs.Prelude.{ℕ, ◌+◌, ◌-◌, ◌≡◌, ◌≤◌, Bool, List, [], ◌∷◌, ◌++◌, length, Some, slice_index_or, slice_set}
use Rattle.cw_greedy.specs.declared.code.Code.{Code}
use Rattle.cw_greedy.specs.Jumping.{StrandBlock, Last, Fork, size}
use Rattle.cw_greedy_schedule.specs.declared.plan.Begins.{Begins}
use Rattle.cw_greedy_schedule.specs.declared.plan.Begins.TheVariants.{Start, Child, Continuation, Sync}
use Rattle.cw_greedy_schedule.specs.declared.plan.Strand.{Strand}
use Rattle.cw_greedy_schedule.specs.declared.plan.Open.{Open}
use Rattle.cw_greedy_schedule.specs.declared.plan.Planning.{Planning}
use Rattle.cw_greedy_schedule.specs.Reading.{Frame, InChild, InRest, joined, read}

-- a strand with this number of instructions and this start
abbrev pub strand : (weight : ℕ) → Begins → Strand
strand k begins = record { weight = k; begins = begins }

-- the number of instructions of a block's first strand
abbrev pub first_weight : StrandBlock → ℕ
first_weight (Last k) = k
first_weight (Fork k child rest after) = k

-- the strands of a block after its first
abbrev pub behind_first : StrandBlock → List Strand
behind_first (Last k) = []
behind_first (Fork k child rest after) =
    strand (first_weight child) (Child (size child)) ∷ (behind_first child
    ++ strand (first_weight rest) (Continuation (size rest)) ∷ (behind_first rest
    ++ strand (first_weight after) Sync ∷ behind_first after))

-- the strands of a block whose first strand begins in this way
abbrev pub strands_of : Begins → StrandBlock → List Strand
strands_of begins block = strand (first_weight block) begins ∷ behind_first block

-- the start of the block that is read after open spawns; the distance to its end is not known yet
abbrev pub begins_of : List Frame → Begins
begins_of [] = Start
begins_of (InChild first before ∷ frames) = Child 0
begins_of (InRest first before child ∷ frames) = Continuation 0

-- the strands before that block
abbrev pub strands_before : List Frame → List Strand
strands_before [] = []
strands_before (InChild first before ∷ frames) = strands_before frames ++ strands_of (begins_of frames) before
strands_before (InRest first before child ∷ frames) =
    strands_before frames ++ (strands_of (begins_of frames) before ++ strands_of (Child (size child)) child)

-- the open spawn is the first one of its sync block
abbrev pub is_first : Frame → Bool
is_first (InChild first before) = first
is_first (InRest first before child) = first

-- the record of an open spawn
abbrev pub open_at : (at : ℕ) → Bool → Open
open_at at first = record { at = at; first = first }

-- the open spawns, each with the index of the strand with which its child or its continuation begins
abbrev pub opens_of : List Frame → List Open
opens_of [] = []
opens_of (frame ∷ frames) = opens_of frames ++ open_at (length (strands_before (frame ∷ frames))) (is_first frame) ∷ []

-- a list of strands in which one strand begins in another way
abbrev pub patched : List Strand → ℕ → Begins → List Strand
patched xs at begins = slice_set xs at (strand (slice_index_or xs at (strand 0 Start)).weight begins)

-- a spawn is open, and its strand exists once the last strand is added
abbrev pub HasSpawn : Planning → Type 0
HasSpawn plan =
    (spawns : List Open)
    × ((at : ℕ)
    × ((first : Bool)
    × ((plan.spawns.items ≡ spawns ++ open_at at first ∷ []) × (at ≤ length plan.strands.items))))

-- the child of the last open spawn ends, and its continuation begins
pub record Continues (plan plan' : Planning) (outer : List Open) (at : ℕ) (first : Bool) : Type 0 where
  pub strands : plan'.strands.items
      ≡ patched (plan.strands.items ++ plan.last ∷ []) at (Child (length plan.strands.items + 1 - at))
  pub last : plan'.last ≡ strand 0 (Continuation 0)
  pub spawns : plan'.spawns.items ≡ outer ++ open_at (length plan.strands.items + 1) first ∷ []

-- a planning represents these open spawns and a block that has begun
pub record Plans (frames : List Frame) (block : StrandBlock) (plan : Planning) : Type 0 where
  pub strands : plan.strands.items ++ plan.last ∷ [] ≡ strands_before frames ++ strands_of (begins_of frames) block
  pub spawns : plan.spawns.items ≡ opens_of frames

-- a planning, with the remaining codes, makes this block
pub record Makes (block : StrandBlock) (codes : List Code) (plan : Planning) : Type 0 where
  pub frames : List Frame
  pub begun : StrandBlock
  pub plans : Plans frames begun plan
  pub reads : read codes frames begun ≡ Some block

-- the last sync block is joined, which leaves these open spawns and this block
pub record Joins (end : List Frame × StrandBlock) (plan : Planning) : Type 0 where
  pub frames : List Frame
  pub begun : StrandBlock
  pub plans : Plans frames begun plan
  pub joins : joined frames begun ≡ Some end

-- the strands of a planning, including the one that has begun
abbrev pub all_begun : Planning → List Strand
all_begun p = p.strands.items ++ p.last ∷ []
