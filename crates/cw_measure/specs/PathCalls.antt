-- The effect of each method of a burdened path on the weight of its strand.
use Rattle.std.specs.Prelude.{◌≡◌, ℕ, Bool}
use Rattle.cw_model.specs.declared.burden.Burden.{Burden}
use Rattle.cw_measure.specs.declared.burdened_path.BurdenedPath.{BurdenedPath}
use Rattle.cw_measure.specs.StrandWeights.{ends, spawns, strand_weight, lengthened, appends, Fits, FitsPiece}

-- begins a spawned child; `first` says that its block has not spawned since its last join
abbrev pub BeginsChild : BurdenedPath → BurdenedPath → (first : Bool) → Type 0
BeginsChild old new first = strand_weight new ≡ spawns first (strand_weight old)

-- ends the current spawned child, if the weights fit
abbrev pub EndsWithin : BurdenedPath → BurdenedPath → Burden → Type 0
EndsWithin old new burden = Fits burden (strand_weight old) → strand_weight new ≡ ends burden (strand_weight old)

-- adds a path of this weight through a child that has ended to the current block
abbrev pub Lengthens : BurdenedPath → BurdenedPath → (first : Bool) → (longest : ℕ) → Type 0
Lengthens old new first longest =
    strand_weight new
    ≡ record { now = old.weight; blocks = lengthened first longest old.weight (strand_weight old).blocks }

-- appends a piece, if its paths fit after the current path
abbrev pub AppendsWithin : BurdenedPath → (piece : BurdenedPath) → BurdenedPath → (first : Bool) → Type 0
AppendsWithin old piece new first =
    FitsPiece (strand_weight piece) (strand_weight old)
    → strand_weight new ≡ appends first (strand_weight piece) (strand_weight old)
