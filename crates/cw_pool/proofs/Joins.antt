-- The jobs of a post when its newest job is added or removed.
use Rattle.std.proofs.Common.{◌≡◌, ◌∙◌, ◌++◌, List, [], ◌∷◌, Option, Some, refl, sym, ap, subst, reverse, Vec, Global}
use Rattle.std.specs.Prelude.{map}
use Rattle.std.proofs.lemmas.List.{reverse-append, reverse-reverse}
use Rattle.std.proofs.lemmas.Option.{same_Some}
use Rattle.cw_facts.specs.Lists.{each_init}
use Rattle.cw_jobs.specs.declared.job.Job.{Job}
use Rattle.cw_strand.specs.declared.strand.Strand.{Strand}
use Rattle.cw_strand.specs.Holds.{outs, IsRunning}
use Rattle.cw_yard.specs.declared.seat.Yard.{Yard}
use Rattle.cw_yard.specs.Ledger.{Each}
use Rattle.cw_pool.specs.declared.post.OutJob.{OutJob}
use Rattle.cw_pool.specs.declared.post.WorkerFrame.{WorkerFrame}
use Rattle.cw_pool.specs.WorkerFrames.{IsNewest, Works, Lacks, job_of_out, kept_jobs, IsKeptOf}

abbrev pub named : List Job → List (Option Job)
named js = map (λ j. Some j) js

abbrev pub head_or : {A : Type 0} → A → List A → A
head_or d [] = d
head_or d (x ∷ xs) = x

abbrev pub tail_of : {A : Type 0} → List A → List A
tail_of [] = []
tail_of (x ∷ xs) = xs

abbrev pub IsCons : {A : Type 0} → List A → Type 0
IsCons [] = ⊥
IsCons (x ∷ xs) = Unit {0}

pub same_job : (a b : Job) → Some a ≡ Some b → b ≡ a
same_job a b e = sym (same_Some a b e)

pub record Newest (o : Option Job) (l : List (Option Job)) (js : List Job) : Type 0 where
  pub job : Job
  pub others : List Job
  pub is : js ≡ job ∷ others
  pub named_is : o ≡ Some job
  pub rest_is : l ≡ named others

pub newest : (o : Option Job) (l : List (Option Job)) (js : List Job) → o ∷ l ≡ named js → Newest o l js
newest o l [] e = absurd (subst IsCons e tt)
newest o l (j ∷ js) e = record { job = j; others = js; is = refl; named_is = ap (head_or o) e; rest_is = ap tail_of e }

abbrev pub post : Strand → Vec OutJob Global → WorkerFrame
post s ks = record { strand = s; kept = ks }

-- the job that a post lacks is the newest job of its strand
pub lacks_newest : (y : Yard) (p : WorkerFrame) (job : Job) → Lacks y p (Some job) → IsNewest p.strand job
lacks_newest y p job lacks =
    let n = newest (Some job) (kept_jobs p.kept.items) (outs p.strand) lacks.1 in
    (n.others, n.is ∙ ap (λ j. j ∷ n.others) (same_job job n.job n.named_is))

-- the newest job out is finished
pub after : (y : Yard) (p : WorkerFrame) (o : Option Job) (new : Strand) (ks : Vec OutJob Global) → Lacks y p o → ks.items ≡ p.kept.items
    → ((j : Job) (others : List Job) → outs p.strand ≡ j ∷ others → o ≡ Some j → IsRunning new × (outs new ≡ others)) → Works y (post new ks)
after y p o new ks lacks same f =
    let n = newest o (kept_jobs p.kept.items) (outs p.strand) lacks.1 in
    let r = f n.job n.others n.is n.named_is in
    (r.0, ap kept_jobs same ∙ (n.rest_is ∙ ap named (sym r.1)), subst (λ l. Each (IsKeptOf y) l) (sym same) lacks.2)

-- the newest job out has returned
pub after_back : (y : Yard) (p : WorkerFrame) (o : Option Job) (new : Strand) (ks : Vec OutJob Global) (rest : Job) → Lacks y p o → ks.items ≡ p.kept.items
    → IsRunning new → rest ∷ outs new ≡ outs p.strand → Works y (post new ks)
after_back y p o new ks rest lacks same running is = after y p o new ks lacks same (λ j others e _. (running, ap tail_of (is ∙ e)))

pub last_first : {A : Type 0} (xs ys : List A) (x : A) → xs ≡ ys ++ x ∷ [] → reverse xs ≡ x ∷ reverse ys
last_first xs ys x e = ap reverse e ∙ reverse-append ys (x ∷ [])

pub popped : (y : Yard) (p : WorkerFrame) (ks : Vec OutJob Global) (k : OutJob) → Works y p → p.kept.items ≡ ks.items ++ k ∷ [] → Lacks y (post p.strand ks) (job_of_out k) × IsKeptOf y k
popped y p ks k w e =
    let c = each_init (IsKeptOf y) ks.items k (subst (λ l. Each (IsKeptOf y) l) e w.2) in
    ((w.0, ap (map job_of_out) (sym (last_first p.kept.items ks.items k e)) ∙ w.1, c.0), c.1)

none_of : (ks : List OutJob) → map job_of_out ks ≡ [] → ks ≡ []
none_of [] e = refl
none_of (k ∷ ks) e = absurd (subst IsCons e tt)

pub nothing : (ks : List OutJob) (js : List Job) → kept_jobs ks ≡ named js → js ≡ [] → ks ≡ []
nothing ks js e none = sym (reverse-reverse ks) ∙ ap reverse (none_of (reverse ks) (e ∙ ap named none))
