-- The requirements and the results of the steps at a cell.
use Rattle.std.specs.Prelude.{◌≡◌, ◌<◌, ◌+◌, ℕ, true, false, [], ◌∷◌, Option, Some, None}
use Rattle.atomic_table.specs.Table.{Me}
use Rattle.atomic_table.specs.Seated.{TableId}
use Rattle.atomic_table.specs.declared.shared.Seat.{Seat}
use Rattle.cw_jobs.specs.declared.job.Job.{Job}
use Rattle.cw_yard.specs.declared.left.Left.{Left}
use Rattle.cw_yard.specs.declared.view.Stage.{Stage}
use Rattle.cw_yard.specs.declared.view.Stage.TheVariants.{Free, Held, Out, Back, Taken}
use Rattle.cw_yard.specs.declared.view.CellView.{CellView}
use Rattle.cw_yard.specs.declared.view.CellView.TheVariants.{Idle, Rest, Owner, Duty}
use Rattle.cw_yard.specs.Cells.{Means}

-- a token of this table, and one of its cells, each of which has a word; there is one more word, the end mark
abbrev pub Fitting : TableId → TableId → ℕ → Type 0
Fitting z z' cell = (z' ≡ z) × (cell < z.slots) × (z.words ≡ z.slots + 1)

-- the facts that are known after a duty was taken back
abbrev pub GainsStage : Stage → Type 0
GainsStage Free = Unit {0}
GainsStage (Held n j) = Unit {0}
GainsStage (Out n j) = Unit {0}
GainsStage (Back n j m k) = (m ≡ n) × (k ≡ j)
GainsStage (Taken n j) = Unit {0}

abbrev pub Gains : CellView → Type 0
Gains Idle = Unit {0}
Gains (Rest k) = Unit {0}
Gains (Owner c k) = GainsStage k
Gains (Duty c b n j) = Unit {0}

abbrev pub Mine : Type 0
Mine = Me (Option Left) CellView

-- the owner reads the mark: if it is 2, the slot is removed with it and holds a meaning of the cell's job
abbrev pub ReadsStage : ℕ → Stage → ℕ → Mine → Type 0
ReadsStage c Free r n = Unit {0}
ReadsStage c (Held m j) r n = Unit {0}
ReadsStage c (Out m j) r n =
    (r ≡ 2 → (e : Left) × (n ≡ (Owner c (Taken m j), (c, Some e) ∷ [])) × Means j e)
    × (¬ (r ≡ 2) → n ≡ (Owner c (Out m j), []))
ReadsStage c (Back m j m' j') r n = Unit {0}
ReadsStage c (Taken m j) r n = Unit {0}

abbrev pub Reads : ℕ → CellView → ℕ → Mine → Type 0
Reads c Idle r n = Unit {0}
Reads c (Rest k) r n = Unit {0}
Reads c (Owner c' k) r n = ReadsStage c' k r n
Reads c (Duty c' b m j) r n = Unit {0}

-- the token of a whole table of this number of cells, all free
abbrev pub IsWhole : ℕ → TableId → Seat (Option Left) CellView → Type 0
IsWhole cells z t = (t.table_id ≡ z) × (z.slots ≡ cells) × (z.words ≡ cells + 1) × (t.me ≡ (Rest 0, []))

-- the owner holds the cell for the number and the job of a stage
abbrev pub HoldsAs : ℕ → Stage → Mine → Type 0
HoldsAs cell stage me = (n : ℕ) (j : Job) → stage ≡ Held n j → me ≡ (Owner cell (Held n j), [])

-- the slot is removed by the duty, empty
abbrev pub PutsFrom : ℕ → CellView → Mine → Type 0
PutsFrom cell v me = (n : ℕ) (j : Job) → v ≡ Duty cell false n j → me ≡ (Duty cell true n j, (cell, None) ∷ [])

-- the cell is free, and what was in it means the job for which it was open
abbrev pub Empties : ℕ → (old new : Mine) → Left → Type 0
Empties cell old new e =
    (new ≡ (Owner cell Free, [])) × ((n : ℕ) (j : Job) → old.0 ≡ Owner cell (Out n j) → Means j e)
