-- The rule of one worker's deque: its jobs by number, and the fate of each.
use Rattle.std.specs.Prelude.{◌≡◌, ◌<◌, ◌==◌, ◌⊎◌, ℕ, suc, Bool, true, false, List, [], ◌∷◌, ◌++◌, length, map}
use Rattle.std.specs.Prelude.{Option, Some, None}
use mathlib.Core.Option.{some}
use lib.ListN.{get_elem?}
use Rattle.atomic_table.specs.Seated.{TableId}
use Rattle.cw_jobs.specs.declared.job.Job.{Job}
use Rattle.cw_yard.specs.Deals.{number_of}
use Rattle.cw_yard.specs.declared.task.Task.{Task}
use Rattle.cw_yard.specs.declared.task.Item.{Item}
use Rattle.cw_yard.specs.declared.task.Item.TheVariants.{Mark, Work}
use Rattle.cw_yard.specs.declared.task.Offer.{Offer}
use Rattle.cw_yard.specs.declared.task.DequeView.{DequeView}
use Rattle.cw_yard.specs.declared.task.DequeView.TheVariants.{Fresh, Marked, Owner, Thief}
-- each element of a list satisfies a predicate
pub use Rattle.cw_facts.specs.Lists.{Each}

-- a job with its cell
abbrev pub Lot : Type 0
Lot = Job × ℕ

abbrev pub lot : Task → Lot
lot k = (k.job, k.cell)

abbrev pub Name : Type 0
Name = ℕ × Lot

abbrev pub name_of : Item → Option Name
name_of (Mark t) = None
name_of (Work k) = Some (number_of k.duty.me.0, lot k)

abbrev pub table_of : Item → TableId
table_of (Mark t) = t.table_id
table_of (Work k) = k.duty.table_id

-- the fate of an offered job: it is in the deque, was retaken, or was stolen by a pass
pub data Fate : Type 0 where
  out : Fate
  retaken : Fate
  stolen : ℕ → Fate

abbrev pub Entry : Type 0
Entry = Lot × Fate

abbrev pub out_here : ℕ → Lot → Fate → List Name → List Name
out_here n j out rest = (n, j) ∷ rest
out_here n j retaken rest = rest
out_here n j (stolen p) rest = rest

-- the jobs in the deque, oldest first, if the first entry has number `n`
abbrev pub outs : ℕ → List Entry → List Name
outs n [] = []
outs n (e ∷ es) = out_here n e.0 e.1 (outs (suc n) es)

abbrev pub if_same : Bool → Name → List Name → List Name
if_same true x rest = x ∷ rest
if_same false x rest = rest

abbrev pub theft_here : ℕ → ℕ → Lot → Fate → List Name → List Name
theft_here p n j out rest = rest
theft_here p n j retaken rest = rest
theft_here p n j (stolen q) rest = if_same (q == p) (n, j) rest

-- the jobs that pass `p` stole, by number
abbrev pub thefts : ℕ → ℕ → List Entry → List Name
thefts p n [] = []
thefts p n (e ∷ es) = theft_here p n e.0 e.1 (thefts p (suc n) es)

abbrev pub IsUnstolen : Fate → Type 0
IsUnstolen out = Unit {0}
IsUnstolen retaken = Unit {0}
IsUnstolen (stolen p) = ⊥

abbrev pub NoneStolen : List Entry → Type 0
NoneStolen [] = Unit {0}
NoneStolen (e ∷ es) = IsUnstolen e.1 × NoneStolen es

-- the stolen jobs come before those in the deque
abbrev pub FrontAt : Fate → List Entry → Type 0 → Type 0
FrontAt out es rest = NoneStolen es
FrontAt retaken es rest = rest
FrontAt (stolen p) es rest = rest

abbrev pub FrontFirst : List Entry → Type 0
FrontFirst [] = Unit {0}
FrontFirst (e ∷ es) = FrontAt e.1 es (FrontFirst es)

abbrev pub is_retaken : Fate → Bool
is_retaken out = false
is_retaken retaken = true
is_retaken (stolen p) = false

abbrev pub offer : Lot → Bool → Offer
offer l b = record { job = l.0; cell = l.1; retaken = b }

abbrev pub shown : Entry → Offer
shown e = offer e.0 (is_retaken e.1)

abbrev pub Fits : TableId → ℕ → List Entry → ℕ → DequeView → Type 0
Fits z owner ledger p Fresh = ⊥
Fits z owner ledger p (Marked t) = ⊥
Fits z owner ledger p (Owner t os) = (t.table_id ≡ z) × (p ≡ owner) × (os ≡ map shown ledger)
Fits z owner ledger p (Thief t ss) = (t.table_id ≡ z) × (ss ≡ thefts p 0 ledger)

abbrev pub Running : List Item → List DequeView → Type 0
Running items views =
    (z : TableId) × (owner : ℕ) × (ledger : List Entry)
    × (map name_of items ≡ map (λ x. Some x) (outs 0 ledger))
    × Each (λ x. table_of x ≡ z) items
    × FrontFirst ledger
    × ((p : ℕ) (v : DequeView) → get_elem? views p ≡ some v → Fits z owner ledger p v)

-- before the first offer one mark passes through the deque, and from it the owner knows the table of its cells
abbrev pub Starting : List Item → List DequeView → Type 0
Starting items views =
    ((items ≡ []) × (views ≡ Fresh ∷ []))
    ⊎ ((t : _) × (items ≡ Mark t ∷ []) × (views ≡ Marked t ∷ []))

abbrev pub Dealt : List Item → List DequeView → Type 0
Dealt items views = Starting items views ⊎ Running items views

abbrev pub number : Task → ℕ
number k = number_of k.duty.me.0

-- the item that an owner may push, and its view of the deque afterwards
abbrev pub MayPush : DequeView → Task → Type 0
MayPush Fresh k = ⊥
MayPush (Marked t) k = ⊥
MayPush (Owner t os) k = (k.duty.table_id ≡ t.table_id) × (number k ≡ length os)
MayPush (Thief t ss) k = ⊥

abbrev pub pushed : DequeView → List Item → DequeView
pushed (Owner t os) (Work k ∷ []) = Owner t (os ++ offer (lot k) false ∷ [])
pushed v xs = v

-- the newest job that was not retaken is retaken: all that were offered after it were retaken
abbrev pub Retakes : DequeView → List Item → DequeView → Type 0
Retakes Fresh xs w = Unit {0}
Retakes (Marked t) xs w = Unit {0}
Retakes (Owner t os) xs w =
    (k : Task) × (pre : List Offer) × (post : List Offer)
    × (xs ≡ Work k ∷ []) × (k.duty.table_id ≡ t.table_id)
    × (os ≡ pre ++ offer (lot k) false ∷ post) × (number k ≡ length pre) × Each (λ o. o.retaken ≡ true) post
    × (w ≡ Owner t (pre ++ offer (lot k) true ∷ post))
Retakes (Thief t ss) xs w = Unit {0}

-- the newest job that was not retaken is removed
abbrev pub TakesLast : (old new : DequeView) → Task → Type 0
TakesLast old new k = Retakes old (Work k ∷ []) new

-- a job is stolen, with a higher number than those that this pass stole before
abbrev pub Steals : DequeView → List Item → DequeView → Type 0
Steals Fresh xs w = Unit {0}
Steals (Marked t) xs w = Unit {0}
Steals (Owner t os) xs w = Unit {0}
Steals (Thief t ss) xs w =
    (k : Task) × (xs ≡ Work k ∷ []) × (k.duty.table_id ≡ t.table_id) × Each (λ x. x.0 < number k) ss
    × (w ≡ Thief t (ss ++ (number k, lot k) ∷ []))

abbrev pub marked : List Item → DequeView
marked (Mark t ∷ []) = Marked t
marked xs = Fresh

abbrev pub begun : DequeView → DequeView
begun (Marked t) = Owner t []
begun v = v

abbrev pub as_thief : DequeView → DequeView
as_thief (Owner t os) = Thief t []
as_thief v = Fresh

abbrev pub IsOwner : DequeView → Type 0
IsOwner Fresh = ⊥
IsOwner (Marked t) = ⊥
IsOwner (Owner t os) = Unit {0}
IsOwner (Thief t ss) = ⊥

abbrev pub IsThief : DequeView → Type 0
IsThief Fresh = ⊥
IsThief (Marked t) = ⊥
IsThief (Owner t os) = ⊥
IsThief (Thief t ss) = Unit {0}
