-- The heaviest paths of a run so far, without and with charges, and the effect of each method.
use Rattle.std.specs.Prelude.{◌≡◌, ℕ, ◌+◌, ◌*◌, ◌≤◌, Bool, true, false, not, List, [], ◌∷◌, ◌++◌, Option}
use Rattle.cw_model.specs.declared.burden.Burden.{Burden}
use Rattle.cw_model.specs.Burdens.{no_burden}
use Rattle.cw_model.specs.Trees.{Mark, Event, Join, tree_of, span, burdened_span}
use Rattle.cw_measure.specs.declared.burdened_path.BurdenedPath.{BurdenedPath}
use Rattle.cw_measure.specs.OpenParts.{Open, in_fork, closed, has_spawned, work_in}
use Rattle.cw_measure.specs.BlockWeights.{burdened_work_in}
use Rattle.cw_measure.specs.StrandWeights.{FitsRun, HasRoomForBlock, TracksLate}
use Rattle.cw_freed.specs.declared.paths.Paths.{Paths}

-- begins a spawned part: a late path of a run with this work represents the run with the part
abbrev pub SpawnsLate : (old new : BurdenedPath) → (counted : ℕ) → (first : Bool) → Type 0
SpawnsLate old new counted first =
    (burden : Burden) (mark : Option Mark) (os : List Open) (es : List Event) → work_in os es ≡ counted
    → FitsRun burden os es → has_spawned es ≡ not first → TracksLate burden os es old
    → TracksLate burden (in_fork mark es os) [] new

-- ends a spawned part, whose block has joined
abbrev pub EndsLate : (old new : BurdenedPath) → (counted : ℕ) → Burden → Type 0
EndsLate old new counted burden =
    (o : Open) (os : List Open) (es : List Event) → work_in (o ∷ os) es ≡ counted → FitsRun burden (o ∷ os) es
    → o.spawned ≡ true → has_spawned es ≡ false → TracksLate burden (o ∷ os) es old
    → TracksLate burden os (closed o es) new

-- joins a block that has spawned
abbrev pub JoinsLate : (old new : BurdenedPath) → (counted : ℕ) → Type 0
JoinsLate old new counted =
    (burden : Burden) (os : List Open) (es : List Event) → work_in os es ≡ counted → FitsRun burden os es
    → has_spawned es ≡ true → TracksLate burden os es old → TracksLate burden os (es ++ Join ∷ []) new

-- both paths are late paths of a run
pub record TrackBoth (burden : Burden) (os : List Open) (es : List Event) (p : Paths) : Type 0 where
  pub burden_is : p.burden ≡ burden
  pub plain : TracksLate no_burden os es p.plain
  pub burdened : TracksLate burden os es p.burdened

-- both paths have room for a spawned part
pub record HaveRoom (p : Paths) : Type 0 where
  pub plain : HasRoomForBlock p.plain
  pub burdened : HasRoomForBlock p.burdened

-- the weights of both paths fit 128 bits
pub record FitBoth (burden : Burden) (os : List Open) (es : List Event) : Type 0 where
  pub plain : FitsRun no_burden os es
  pub burdened : FitsRun burden os es

-- the paths of a run at its start
abbrev pub StartsBoth : Burden → Paths → Type 0
StartsBoth burden p = TrackBoth burden [] [] p

-- begins a spawned part on both paths
abbrev pub SpawnsBoth : (old new : Paths) → (counted : ℕ) → (first : Bool) → Type 0
SpawnsBoth old new counted first =
    (burden : Burden) (mark : Option Mark) (os : List Open) (es : List Event) → work_in os es ≡ counted
    → FitBoth burden os es → has_spawned es ≡ not first → TrackBoth burden os es old
    → TrackBoth burden (in_fork mark es os) [] new

-- ends a spawned part, whose block has joined, on both paths
abbrev pub EndsBoth : (old new : Paths) → (counted : ℕ) → Type 0
EndsBoth old new counted =
    (burden : Burden) (o : Open) (os : List Open) (es : List Event) → work_in (o ∷ os) es ≡ counted
    → FitBoth burden (o ∷ os) es → o.spawned ≡ true → has_spawned es ≡ false → TrackBoth burden (o ∷ os) es old
    → TrackBoth burden os (closed o es) new

-- joins a block that has spawned, on both paths
abbrev pub JoinsBoth : (old new : Paths) → (counted : ℕ) → Type 0
JoinsBoth old new counted =
    (burden : Burden) (os : List Open) (es : List Event) → work_in os es ≡ counted → FitBoth burden os es
    → has_spawned es ≡ true → TrackBoth burden os es old → TrackBoth burden os (es ++ Join ∷ []) new

-- the weights at the end of a run
abbrev pub ReadsBoth : (old : Paths) → (counted : ℕ) → (weights : ℕ × ℕ) → Type 0
ReadsBoth old counted weights =
    (burden : Burden) (es : List Event) → work_in [] es ≡ counted → FitBoth burden [] es → has_spawned es ≡ false
    → TrackBoth burden [] es old
    → (weights.0 ≡ span (tree_of es)) × (weights.1 ≡ burdened_span burden (tree_of es))

-- no path of a run of `count` instructions is heavier than these instructions with a charge for each
abbrev pub IsWithin : Burden → (count : ℕ) → List Open → List Event → Type 0
IsWithin burden count os es = burdened_work_in burden os es ≤ count * (burden.charge + 1)

-- both paths are late paths of a run of at most `count` instructions, of which `counted` are not free
pub record TracksRun (burden : Burden) (count counted : ℕ) (os : List Open) (es : List Event) (p : Paths) : Type 0 where
  pub work : work_in os es ≡ counted
  pub plain_within : IsWithin no_burden count os es
  pub burdened_within : IsWithin burden count os es
  pub tells : TrackBoth burden os es p
