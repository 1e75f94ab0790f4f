-- The meaning of the views of a yard's tokens and passes.
use Rattle.std.specs.Prelude.{◌≡◌, ◌<◌, ◌==◌, if◌then◌else◌, Bool, ℕ, true, false, List, [], ◌∷◌, ◌++◌, length}
use Rattle.std.specs.Prelude.{Option, Some, None}
use Rattle.atomic_table.specs.Seated.{TableId}
use Rattle.cw_jobs.specs.declared.job.Job.{Job}
use Rattle.cw_yard.specs.declared.view.Stage.TheVariants.{Free, Held, Out, Back, Taken}
use Rattle.cw_yard.specs.declared.view.Stage.{Stage}
use Rattle.cw_yard.specs.declared.view.CellView.{CellView}
use Rattle.cw_yard.specs.declared.view.CellView.TheVariants.{Idle, Rest, Owner, Duty as OnDuty}
use Rattle.cw_yard.specs.Ledger.{Each, Lot, offer}
use Rattle.cw_yard.specs.declared.task.Offer.{Offer}
use Rattle.cw_yard.specs.declared.task.DequeView.{DequeView}
use Rattle.cw_yard.specs.declared.task.DequeView.TheVariants.{Fresh, Marked, Owner as OwnerHand, Thief}

-- the offers that the owner of a deque has made
abbrev pub offered : DequeView → List Offer
offered Fresh = []
offered (Marked t) = []
offered (OwnerHand t os) = os
offered (Thief t ss) = []

-- a number and its job
abbrev pub Deal : Type 0
Deal = ℕ × Job

-- a number and the job that was stolen with it
abbrev pub Theft : Type 0
Theft = ℕ × Lot

-- the thefts of a pass
abbrev pub stolen : DequeView → List Theft
stolen Fresh = []
stolen (Marked t) = []
stolen (OwnerHand t os) = []
stolen (Thief t ss) = ss

-- the view of an owner of a deque whose cells are in this table
abbrev pub OwnsAt : TableId → DequeView → Type 0
OwnsAt z Fresh = ⊥
OwnsAt z (Marked t) = ⊥
OwnsAt z (OwnerHand t os) = t.table_id ≡ z
OwnsAt z (Thief t ss) = ⊥

abbrev pub StealsAt : TableId → DequeView → Type 0
StealsAt z Fresh = ⊥
StealsAt z (Marked t) = ⊥
StealsAt z (OwnerHand t os) = ⊥
StealsAt z (Thief t ss) = t.table_id ≡ z

-- the job of a number is taken back; all jobs offered after it were taken back before
abbrev pub Takes : List Offer → Option ℕ → Lot → List Offer → Type 0
Takes os number l os' =
    (pre : List Offer) × (post : List Offer) × (os ≡ pre ++ offer l false ∷ post)
    × (number ≡ Some (length pre)) × Each (λ o. o.retaken ≡ true) post × (os' ≡ pre ++ offer l true ∷ post)

-- a job is stolen, with a number above all earlier ones
abbrev pub Rises : List Theft → Job → List Theft → Type 0
Rises ss job ss' =
    (n : ℕ) × (cell : ℕ) × Each (λ (x : Theft). x.0 < n) ss × (ss' ≡ ss ++ (n, (job, cell)) ∷ [])

abbrev pub is_out_stage : Stage → Bool
is_out_stage Free = false
is_out_stage (Held n j) = false
is_out_stage (Out n j) = true
is_out_stage (Back n j m k) = false
is_out_stage (Taken n j) = false

-- the owner's token of this cell, whose job is given out
abbrev pub is_out : ℕ → CellView → Bool
is_out c Idle = false
is_out c (Rest k) = false
is_out c (Owner d k) = if d == c then is_out_stage k else false
is_out c (OnDuty d b n j) = false

abbrev pub is_open : Bool → Bool
is_open true = false
is_open false = true

-- the duty of this cell, which no one has begun to settle
abbrev pub is_duty : ℕ → CellView → Bool
is_duty c Idle = false
is_duty c (Rest k) = false
is_duty c (Owner d k) = false
is_duty c (OnDuty d b n j) = if d == c then is_open b else false

abbrev pub stage_deal : Stage → Option Deal
stage_deal Free = None
stage_deal (Held n j) = None
stage_deal (Out n j) = Some (n, j)
stage_deal (Back n j m k) = None
stage_deal (Taken n j) = None

abbrev pub owner_deal : CellView → Option Deal
owner_deal Idle = None
owner_deal (Rest k) = None
owner_deal (Owner d k) = stage_deal k
owner_deal (OnDuty d b n j) = None

abbrev pub duty_deal : CellView → Option Deal
duty_deal Idle = None
duty_deal (Rest k) = None
duty_deal (Owner d k) = None
duty_deal (OnDuty d b n j) = Some (n, j)

abbrev pub job_in : Option Deal → Option Job
job_in None = None
job_in (Some x) = Some x.1

abbrev pub number_in : Option Deal → Option ℕ
number_in None = None
number_in (Some x) = Some x.0
