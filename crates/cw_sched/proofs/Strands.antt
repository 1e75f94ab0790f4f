-- What a strand comes to is right for its jobs.
use Rattle.std.proofs.Common.{◌≡◌, ◌≢◌, ◌∙◌, ℕ, List, [], ◌∷◌, ◌++◌, Option, Some, None, refl, sym, ap, subst, length, reverse}
use Rattle.std.specs.Prelude.{map, slice_get, IfSome}
use Rattle.std.proofs.lemmas.Option.{same_Some}
use Rattle.cw_facts.specs.Lists.{reverse_pushed, each_init, each_pushed}
use Rattle.cw_runnable.specs.declared.verified.Verified.{Verified}
use Rattle.cw_jobs.specs.declared.effect.Effect.{Effect}
use Rattle.cw_jobs.specs.declared.job.Job.{Job}
use Rattle.cw_jobs.specs.Means.{IsMeaningOf}
use Rattle.cw_meter.specs.declared.detail.Detail.TheVariants.{Measures}
use Rattle.cw_machine.specs.Answering.{IsOfWhole}
use Rattle.cw_strand.specs.Holds.{its_job, outs}
use Rattle.cw_sched.specs.core.Board.{newest}
use Rattle.cw_sched.specs.declared.post.Out.{Out}
use Rattle.cw_sched.specs.Boards.{Each}
use Rattle.cw_sched.specs.Scenes.{FrameView, Stage, Goes, Made, Answered}
use Rattle.cw_sched.specs.WorkerFrames.{Stays, Comes}
use Rattle.cw_sched.specs.Sound.{IsJobOf, IsOwn, out_number, Works, IsMade, HasRoot}
use Rattle.cw_sched.specs.Events.{ComesTo, IsBegun}
use Rattle.cw_sched.proofs.Lists.{named, head_or, tail_of, IsCons, IsSomeOf, as_many, length_reverse, newest_pushed}

-- the jobs of numbers
abbrev pub jobs_at : List Job → List Out → List (Option Job)
jobs_at jobs os = map (λ o. slice_get jobs (out_number o)) (reverse os)

pub same_job : (jobs : List Job) (n m : ℕ) (a b : Job) → n ≡ m → IsJobOf jobs n a → IsJobOf jobs m b → a ≡ b
same_job jobs n m a b e ha hb = same_Some a b (sym ha ∙ (ap (slice_get jobs) e ∙ hb))

-- the newest job out of a strand, and the others
pub record Newest (jobs : List Job) (p : FrameView) (older : List Out) (o : Out) : Type 0 where
  pub job : Job
  pub others : List Job
  pub is : outs p.strand ≡ job ∷ others
  pub named_is : IsJobOf jobs (out_number o) job
  pub older_are : jobs_at jobs older ≡ named others
  pub own : Each (IsOwn jobs) older
  pub this : IsOwn jobs o

newest_of : (jobs : List Job) (older : List Out) (o : Out) (js : List Job) → slice_get jobs (out_number o) ∷ jobs_at jobs older ≡ named js
    → (job : Job) × (others : List Job) × (js ≡ job ∷ others) × IsJobOf jobs (out_number o) job × (jobs_at jobs older ≡ named others)
newest_of jobs older o [] e = absurd (subst IsCons e tt)
newest_of jobs older o (j ∷ js) e = (j, js, refl, ap (head_or None) e, ap tail_of e)

pub newest_out_of : (jobs : List Job) (p : FrameView) (older : List Out) (o : Out) → Works jobs p → p.outs ≡ older ++ o ∷ [] → Newest jobs p older o
newest_out_of jobs p older o w e =
    let f : Out → Option Job = λ x. slice_get jobs (out_number x) in
    let lent : f o ∷ jobs_at jobs older ≡ named (outs p.strand) = ap (map f) (sym (ap reverse e ∙ reverse_pushed older o)) ∙ w.lent in
    let n = newest_of jobs older o (outs p.strand) lent in
    let own = each_init (IsOwn jobs) older o (subst (λ l. Each (IsOwn jobs) l) e w.own) in
    record { job = n.0; others = n.1; is = n.2; named_is = n.3; older_are = n.4; own = own.0; this = own.1 }

pub is_even : (jobs : List Job) (os : List Out) (js : List Job) → jobs_at jobs os ≡ named js → length os ≡ length js
is_even jobs os js e = sym (length_reverse os) ∙ as_many (λ x. slice_get jobs (out_number x)) (reverse os) js e

-- a strand goes on with these jobs out, of which these are the numbers; or it has ended, and none is out
pub works_stays : (jobs : List Job) (old new : FrameView) (list : List Out) (left : List Job) → Stays old new list left
    → IsJobOf jobs old.number (its_job old.strand) → jobs_at jobs list ≡ named left → Each (IsOwn jobs) list → Works jobs new
works_stays jobs old new list left s n lent own =
    record {
      running = s.running;
      named = subst (λ m. IsJobOf jobs m (its_job new.strand)) (sym s.numbered) (subst (λ j. IsJobOf jobs old.number j) (sym s.of) n);
      lent = ap (jobs_at jobs) s.outs_are ∙ (lent ∙ ap named (sym s.left_are));
      own = subst (λ l. Each (IsOwn jobs) l) (sym s.outs_are) own;
      stands = s.stands;
    }

pub comes_stays : (v : Verified) (jobs : List Job) (old new : FrameView) (list : List Out) (left : List Job) → Stays old new list left
    → IsJobOf jobs old.number (its_job old.strand) → jobs_at jobs list ≡ named left → Each (IsOwn jobs) list → ComesTo v jobs old list (Goes new)
comes_stays v jobs old new list left s n lent own = ((s.numbered, s.of, s.outs_are), works_stays jobs old new list left s n lent own)

pub ended_stage : (v : Verified) (jobs : List Job) (old new : FrameView) (e : Effect) (x : Stage) → IsJobOf jobs old.number (its_job old.strand)
    → new.number ≡ old.number → IsMeaningOf (its_job old.strand) e → old.outs ≡ [] → IsBegun v new (Some e) x → ComesTo v jobs old old.outs x
ended_stage v jobs old new e (Goes q) h same means none b = absurd b
ended_stage v jobs old new e (Made n d) h same means none b =
    let m : IsMade jobs n d = record {
      job = its_job old.strand;
      named = subst (λ k. IsJobOf jobs k (its_job old.strand)) (sym (b.0 ∙ same)) h;
      means = subst (λ k. IsMeaningOf (its_job old.strand) k) (sym b.2) means;
    } in
    ((b.0 ∙ same, (λ z. b.1 (same ∙ z)), none), m)
ended_stage v jobs old new e (Answered r) h same means none b = (
  (sym same ∙ b.0, none),
  λ args n burden root is_named is. b.2 args n burden root is (subst (λ j. IsMeaningOf j e) (same_job jobs old.number 0 (its_job old.strand) root (sym same ∙ b.0) h is_named) means),
)

-- what it comes to is laid down
pub comes_to : (v : Verified) (jobs : List Job) (old new : FrameView) (ended : Option Effect) (left : List Job) (x : Stage) → Comes ended old new left
    → IsJobOf jobs old.number (its_job old.strand) → jobs_at jobs old.outs ≡ named left → Each (IsOwn jobs) old.outs → IsBegun v new ended x → ComesTo v jobs old old.outs x
comes_to v jobs old new None left x s n lent own b =
    subst (λ y. ComesTo v jobs old old.outs y) (sym b) (comes_stays v jobs old new old.outs left s n lent own)
comes_to v jobs old new (Some e) left x s n lent own b = ended_stage v jobs old new e x n s.0 s.1 s.2 b

-- the root's effect is that of a whole run
pub whole : (v : Verified) (jobs : List Job) (n : ℕ) (job : Job) (e : Effect) → HasRoot v jobs → IsJobOf jobs n job → IsMeaningOf job e → n ≡ 0 → IsOfWhole v e
whole v jobs n job e r h means z =
    record {
      args = r.args;
      limit = r.limit;
      burden = r.burden;
      detail = Measures r.burden;
      root = r.root;
      is = r.is;
      means = subst (λ j. IsMeaningOf j e) (same_job jobs n 0 job r.root z h r.named) means;
    }

pub comes_whole : (v : Verified) (jobs : List Job) (old new : FrameView) (ended : Option Effect) (left : List Job) → HasRoot v jobs → Comes ended old new left
    → IsJobOf jobs old.number (its_job old.strand) → new.number ≡ 0 → IfSome ended (λ e. ∥ IsOfWhole v e ∥₁)
comes_whole v jobs old new None left r s h z = tt
comes_whole v jobs old new (Some e) left r s h z = ∣ whole v jobs old.number (its_job old.strand) e r h s.1 (sym s.0 ∙ z) ∣₁

-- another entry of the same number stands for the same job
pub works_other : (jobs : List Job) (p : FrameView) (older : List Out) (o o' : Out) → Works jobs p → p.outs ≡ older ++ o ∷ [] → out_number o' ≡ out_number o → IsOwn jobs o'
    → Works jobs (record { number = p.number; strand = p.strand; at_join = p.at_join; outs = older ++ o' ∷ [] })
works_other jobs p older o o' w e same own =
    let n = newest_out_of jobs p older o w e in
    let some : (older ++ o' ∷ []) ≢ [] = λ none. absurd (subst IsSomeOf (sym (newest_pushed older o') ∙ ap newest none) tt) in
    let some_old : p.outs ≢ [] = λ none. absurd (subst IsSomeOf (sym (newest_pushed older o) ∙ ap newest (sym e ∙ none)) tt) in
    record {
      running = w.running;
      named = w.named;
      lent = ap (map (λ x. slice_get jobs (out_number x))) (reverse_pushed older o')
          ∙ (ap (λ k. slice_get jobs k ∷ jobs_at jobs older) same ∙ (ap (λ x. x ∷ jobs_at jobs older) n.named_is ∙ (ap (λ l. Some n.job ∷ l) n.older_are ∙ ap named (sym n.is))));
      own = each_pushed (IsOwn jobs) older o' n.own own;
      stands = ((λ j. ((w.stands.0 j).0, some)), w.stands.1, w.stands.2);
    }
