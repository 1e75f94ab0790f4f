-- The cells of a yard: the content of each, and the knowledge of each token about a cell.
use Rattle.std.specs.Prelude.{◌≡◌, ◌<◌, ◌≤◌, ◌+◌, ℕ, Bool, true, false, length, Option, Some, None}
use mathlib.Core.Option.{none, some}
use lib.ListN.{get_elem?}
use Rattle.atomic_table.specs.Table.{State}
use Rattle.cw_jobs.specs.declared.job.Job.{Job}
use Rattle.cw_yard.specs.declared.left.Left.{Left}
use Rattle.cw_yard.specs.declared.view.Stage.{Stage}
use Rattle.cw_yard.specs.declared.view.Stage.TheVariants.{Free, Held, Out, Back, Taken}
use Rattle.cw_yard.specs.declared.view.CellView.{CellView}
use Rattle.cw_yard.specs.declared.view.CellView.TheVariants.{Idle, Rest, Owner, Duty}
use Rattle.cw_jobs.specs.Means.{IsMeaningOf}

-- an effect that was left means this job
abbrev pub Means : Job → Left → Type 0
Means j l = IsMeaningOf j l.effect.value

-- the phase of a cell: free, open for a number (with its duty not given out, given out, or in use), full, or being
-- emptied
pub data Phase : Type 0 where
  free : Phase
  held : ℕ → Job → Phase
  opened : ℕ → Job → ℕ → Phase
  putting : ℕ → Job → ℕ → Phase
  full : ℕ → Job → Left → Phase
  taken : ℕ → Job → Phase

-- the token that owns the cell, and the phase of the cell
abbrev pub Spot : Type 0
Spot = ℕ × Phase

-- the word and the slot of a cell in a phase
abbrev pub Lies : ℕ → mathlib.Core.Option.Option (Option Left) → Phase → Type 0
Lies w h free = (w ≡ 0) × (h ≡ some None)
Lies w h (held n j) = (w ≡ 0) × (h ≡ some None)
Lies w h (opened n j d) = (w ≡ 0) × (h ≡ some None)
Lies w h (putting n j d) = (w ≡ 0) × (h ≡ none)
Lies w h (full n j e) = (w ≡ 2) × (h ≡ some (Some e)) × Means j e
Lies w h (taken n j) = (w ≡ 2) × (h ≡ none)

-- job `n` is given out, and its effect is not taken yet
abbrev pub Pending : ℕ → Job → Phase → Type 0
Pending n j free = ⊥
Pending n j (held m k) = ⊥
Pending n j (opened m k d) = (m ≡ n) × (k ≡ j)
Pending n j (putting m k d) = (m ≡ n) × (k ≡ j)
Pending n j (full m k e) = (m ≡ n) × (k ≡ j)
Pending n j (taken m k) = ⊥

abbrev pub Knows : Stage → Phase → Type 0
Knows Free p = p ≡ free
Knows (Held n j) p = p ≡ held n j
Knows (Out n j) p = Pending n j p
Knows (Back n j m k) p = (p ≡ held n j) × (m ≡ n) × (k ≡ j)
Knows (Taken n j) p = p ≡ taken n j

abbrev pub serving : Bool → ℕ → Job → ℕ → Phase
serving false n j id = opened n j id
serving true n j id = putting n j id

abbrev pub cell_of : CellView → ℕ
cell_of Idle = 0
cell_of (Rest k) = 0
cell_of (Owner c k) = c
cell_of (Duty c b n j) = c

abbrev pub Fits : Spot → ℕ → CellView → Type 0
Fits x id Idle = Unit {0}
Fits x id (Rest k) = Unit {0}
Fits x id (Owner c k) = (x.0 ≡ id) × Knows k x.1
Fits x id (Duty c b n j) = x.1 ≡ serving b n j id

abbrev pub Stands : State (Option Left) CellView → ℕ → Phase → Type 0
Stands s c p =
    (w : ℕ) × (h : mathlib.Core.Option.Option (Option Left))
    × (get_elem? s.words c ≡ some w) × (get_elem? s.homes c ≡ some h) × Lies w h p

-- the owner of the rest owns each cell from the k-th on, and all of them are free
abbrev pub Funds : (ℕ → Spot) → ℕ → CellView → Type 0
Funds b id Idle = Unit {0}
Funds b id (Rest k) = (c : ℕ) → k ≤ c → ((b c).0 ≡ id) × ((b c).1 ≡ free)
Funds b id (Owner c k) = Unit {0}
Funds b id (Duty c t n j) = Unit {0}

-- the rule of the cells: each cell is in its phase, and what each token knows is true
abbrev pub Kept : State (Option Left) CellView → Type 0
Kept s =
    (board : ℕ → Spot)
    × ((c : ℕ) → c < length s.homes → Stands s c (board c).1)
    × ((id : ℕ) (v : CellView) → get_elem? s.views id ≡ some v → Fits (board (cell_of v)) id v)
    × ((id : ℕ) (v : CellView) → get_elem? s.views id ≡ some v → Funds board id v)

-- how the owner of a held cell gives out the duty, and takes it back
abbrev pub dealt_stage : Stage → Stage
dealt_stage Free = Free
dealt_stage (Held n j) = Out n j
dealt_stage (Out n j) = Out n j
dealt_stage (Back n j m k) = Back n j m k
dealt_stage (Taken n j) = Taken n j

abbrev pub dealt : CellView → CellView
dealt Idle = Idle
dealt (Rest k) = Rest k
dealt (Owner c k) = Owner c (dealt_stage k)
dealt (Duty c b n j) = Duty c b n j

abbrev pub duty_stage : ℕ → Stage → CellView
duty_stage c Free = Idle
duty_stage c (Held n j) = Duty c false n j
duty_stage c (Out n j) = Idle
duty_stage c (Back n j m k) = Idle
duty_stage c (Taken n j) = Idle

abbrev pub duty : CellView → CellView
duty Idle = Idle
duty (Rest k) = Idle
duty (Owner c k) = duty_stage c k
duty (Duty c b n j) = Idle

abbrev pub back_stage : Stage → ℕ → Job → Stage
back_stage Free m k = Free
back_stage (Held n j) m k = Held n j
back_stage (Out n j) m k = Back n j m k
back_stage (Back n j m k) m' k' = Back n j m k
back_stage (Taken n j) m k = Taken n j

abbrev pub back : CellView → CellView → CellView
back Idle w = Idle
back (Rest k) w = Rest k
back (Duty c b n j) w = Duty c b n j
back (Owner c s) Idle = Owner c s
back (Owner c s) (Rest k) = Owner c s
back (Owner c s) (Owner c' s') = Owner c s
back (Owner c s) (Duty c' b m k) = Owner c (back_stage s m k)

abbrev pub rest_of : CellView → CellView
rest_of Idle = Idle
rest_of (Rest k) = Rest (k + 1)
rest_of (Owner c k) = Owner c k
rest_of (Duty c b n j) = Duty c b n j

abbrev pub owner_of : CellView → CellView
owner_of Idle = Idle
owner_of (Rest k) = Owner k Free
owner_of (Owner c k) = Idle
owner_of (Duty c b n j) = Idle
