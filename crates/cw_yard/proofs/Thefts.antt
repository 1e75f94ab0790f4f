-- The facts that a theft ensures, and those that a settling requires.
use Rattle.std.proofs.Common.{◌≡◌, ◌≢◌, ◌∙◌, ◌<◌, ◌++◌, ℕ, true, false, true≢false, inr, List, [], ◌∷◌, refl, sym, ap, subst, Option, Some, None, IfNone, IfSome, length, set, length-set}
use Rattle.std.specs.Prelude.{slice_get}
use Rattle.std.proofs.Math.ListN.{get_or}
use Rattle.std.proofs.lemmas.List.{get_or-set_same}
use Rattle.std.proofs.lemmas.Option.{slice_get_read}
use Rattle.cw_yard.specs.Seats.{thefts_by}
use Rattle.atomic_table.specs.Seated.{TableId}
use Rattle.atomic_table.specs.Table.{Me}
use Rattle.cw_jobs.specs.declared.job.Job.{Job}
use Rattle.cw_jobs.specs.Means.{IsMeaningOf}
use Rattle.cw_jobs.specs.declared.effect.Effect.{Effect}
use Rattle.cw_yard.specs.declared.left.Left.{Left}
use Rattle.cw_yard.specs.Cells.{Means}
use Rattle.cw_yard.specs.declared.view.CellView.{CellView}
use Rattle.cw_yard.specs.declared.view.Stage.TheVariants.{Out}
use Rattle.cw_yard.specs.declared.view.CellView.TheVariants.{Owner as OwnerOf, Duty}
use Rattle.cw_yard.specs.declared.task.Task.{Task}
use Rattle.cw_yard.specs.declared.task.Item.{Item}
use Rattle.cw_yard.specs.declared.task.Item.TheVariants.{Mark, Work}
use Rattle.cw_yard.specs.declared.task.DequeView.{DequeView}
use Rattle.cw_yard.specs.declared.task.DequeView.TheVariants.{Fresh, Marked, Owner, Thief}
use Rattle.cw_yard.specs.Deals.{number_of}
use Rattle.cw_yard.specs.Ledger.{Each, Steals, Retakes, offer, lot}
use Rattle.cw_yard.specs.Words.{StealsAt, OwnsAt, Rises, Theft, stolen, offered, is_out, is_duty, job_in, owner_deal, duty_deal}
use Rattle.cw_yard.specs.declared.task.Offer.{Offer}
use Rattle.cw_yard.specs.declared.ticket.Ticket.{Ticket}
use Rattle.cw_yard.specs.Tickets.{IsNewest, LeavesAll}
use Rattle.cw_yard.proofs.Ledgers.{head_or, tail_of}
use Rattle.cw_yard.proofs.Outs.{outs, duties}

abbrev task_or : Task → List Item → Task
task_or d [] = d
task_or d (Mark t ∷ xs) = d
task_or d (Work k ∷ xs) = k

abbrev pub or_else : {A : Type 0} → A → Option A → A
or_else d None = d
or_else d (Some x) = x

pub thieved : (z : TableId) (v w : DequeView) (k : Task) → StealsAt z v → Steals v (Work k ∷ []) w
    → (k.duty.table_id ≡ z) × (job_in (duty_deal k.duty.me.0) ≡ Some k.job) × Rises (stolen v) k.job (stolen w)
thieved z Fresh w k at h = absurd at
thieved z (Marked t) w k at h = absurd at
thieved z (Owner t os) w k at h = absurd at
thieved z (Thief t ss) w k at h =
    let same : k ≡ h.0 = ap (task_or k) h.1 in (
      ap (λ (x : Task). x.duty.table_id) same ∙ (h.2 ∙ at),
      ap (λ (m : Me (Option Left) CellView). job_in (duty_deal m.0)) k.names,
      (number_of h.0.duty.me.0, h.0.cell, h.3, ap stolen h.4 ∙ ap (λ (x : Task). ss ++ (number_of h.0.duty.me.0, (x.job, h.0.cell)) ∷ []) (sym same)),
    )

pub settles : (c : ℕ) (m : Me (Option Left) CellView) (j : Job) (e : Effect) (l : Left) → is_duty c m.0 ≡ true → m.1 ≡ [] → job_in (duty_deal m.0) ≡ Some j → IsMeaningOf j e → l.effect.value ≡ e
    → (n : ℕ) × (k : Job) × (m ≡ (Duty c false n k, [])) × Means k l
settles c m j e l o q is means holds =
    let d = duties c m o q in
    let same : j ≡ d.1 = ap (or_else j) (sym is ∙ ap (λ (x : Me (Option Left) CellView). job_in (duty_deal x.0)) d.2) in
    (d.0, d.1, d.2, subst (λ x. IsMeaningOf d.1 x) (sym holds) (subst (λ k. IsMeaningOf k e) same means))

-- a collected effect means the job of the ticket
pub collects : (c : ℕ) (m : Me (Option Left) CellView) (l : Left) (e : Effect) → is_out c m.0 ≡ true → m.1 ≡ [] → e ≡ l.effect.value
    → ((n : ℕ) (j : Job) → m.0 ≡ OwnerOf c (Out n j) → Means j l) → (j : Job) → job_in (owner_deal m.0) ≡ Some j → IsMeaningOf j e
collects c m l e o q is means j told =
    let d = outs c m o q in
    let same : d.1 ≡ j = ap (or_else j) (sym (ap (λ (x : Me (Option Left) CellView). job_in (owner_deal x.0)) d.2) ∙ told) in
    subst (λ x. IsMeaningOf j x) (sym is) (subst (λ k. Means k l) same (means d.0 d.1 (ap (λ (x : Me (Option Left) CellView). x.0) d.2)))

pub stolen_before : {A : Type 0} (f : A → DequeView) (xs : List A) (k : ℕ) (e : A) → k < length xs → e ≡ get_or xs k e → thefts_by f (slice_get xs k) ≡ stolen (f e)
stolen_before f xs k e lt is = ap (λ o. thefts_by f o) (slice_get_read xs (length xs) k e refl lt is)

pub stolen_after : {A : Type 0} (f : A → DequeView) (xs : List A) (k : ℕ) (e : A) → k < length xs → thefts_by f (slice_get (set xs k e) k) ≡ stolen (f e)
stolen_after f xs k e lt = ap (λ o. thefts_by f o) (slice_get_read (set xs k e) (length (set xs k e)) k e refl (subst (λ n. k < n) (sym (length-set xs k e)) lt) (sym (get_or-set_same xs k e e lt)))

pub if_none : {X P Q : Type 0} (o : Option X) → (P → Q) → IfNone o P → IfNone o Q
if_none None f p = f p
if_none (Some x) f p = tt

pub if_some : {X : Type 0} {P Q : X → Type 0} (o : Option X) → ((x : X) → P x → Q x) → IfSome o P → IfSome o Q
if_some None f p = tt
if_some (Some x) f p = f x p

pub rises : (a a' b b' : List Theft) (j : Job) → a' ≡ a → b' ≡ b → Rises a j b → Rises a' j b'
rises a a' b b' j before after r = subst (λ x. Rises x j b') (sym before) (subst (λ y. Rises a j y) (sym after) r)

abbrev AreBack : List Offer → Type 0
AreBack os = Each (λ (o : Offer). o.retaken ≡ true) os

back_at : (pre : List Offer) (o : Offer) (post : List Offer) → AreBack (pre ++ o ∷ post) → o.retaken ≡ true
back_at [] o post h = h.0
back_at (x ∷ pre) o post h = back_at pre o post h.1

-- there is only one newest offer that was not taken back
one_newest : (pre pre' : List Offer) (o o' : Offer) (post post' : List Offer) → pre ++ o ∷ post ≡ pre' ++ o' ∷ post' → o.retaken ≡ false → o'.retaken ≡ false → AreBack post → AreBack post' → o ≡ o'
one_newest [] [] o o' post post' e f f' h h' = ap (head_or o) e
one_newest [] (x ∷ pre') o o' post post' e f f' h h' = absurd (true≢false (sym (back_at pre' o' post' (subst AreBack (ap tail_of e) h)) ∙ f'))
one_newest (x ∷ pre) [] o o' post post' e f f' h h' = absurd (true≢false (sym (back_at pre o post (subst AreBack (sym (ap tail_of e)) h')) ∙ f))
one_newest (x ∷ pre) (y ∷ pre') o o' post post' e f f' h h' = one_newest pre pre' o o' post post' (ap tail_of e) f f' h h'

-- if the removed job is in another cell, the ticket is not the newest
pub leaves : (z : TableId) (v w : DequeView) (k : Task) (t : Ticket) → OwnsAt z v → Retakes v (Work k ∷ []) w → k.cell ≢ t.cell → LeavesAll t (offered v) (offered w)
leaves z Fresh w k t at h apart = absurd at
leaves z (Marked s) w k t at h apart = absurd at
leaves z (Thief s ss) w k t at h apart = absurd at
leaves z (Owner s os) w k t at h apart =
    let same : k ≡ h.0 = ap (task_or k) h.3 in
    inr (
      (λ (new : IsNewest os t).
          let is = one_newest h.1 new.2.0 (offer (lot h.0) false) (offer (new.0, t.cell) false) h.2 new.2.1 (sym h.5 ∙ new.2.2) refl refl h.7 new.2.4 in
          apart (ap (λ (x : Task). x.cell) same ∙ ap (λ (o : Offer). o.cell) is)),
      (length h.1, lot h.0, (h.1, h.2, h.5, refl, h.7, ap offered h.8)),
    )
