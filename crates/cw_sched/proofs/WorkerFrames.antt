-- What a post comes to, by what its strand comes to.
use Rattle.std.proofs.Common.{◌≡◌, ◌≢◌, ◌∙◌, ℕ, ◌+◌, ◌≤◌, ◌<◌, nat_lt, arith, Bool, true, false, List, [], ◌∷◌, ◌++◌, Option, Some, None, refl, sym, ap, subst, length, inl, inr}
use Rattle.std.specs.Prelude.{Ok}
use Rattle.std.proofs.lemmas.Bool.Decides.{nat_tests}
use Rattle.std.proofs.lemmas.List.{nil_from_length}
use Rattle.std.proofs.lemmas.Bool.{true≢false}
use Rattle.cw_jobs.specs.declared.effect.Effect.{Effect}
use Rattle.cw_jobs.specs.declared.effect.Effect.TheVariants as effect
use Rattle.cw_jobs.specs.declared.job.Job.{Job}
use Rattle.cw_jobs.specs.Means.{IsMeaningOf}
use Rattle.cw_strand.specs.declared.strand.Strand.{Strand}
use Rattle.cw_strand.specs.declared.strand.Advance.TheVariants as advance
use Rattle.cw_strand.specs.declared.strand.Step.TheVariants as step
use Rattle.cw_strand.specs.Holds.{its_job, its_end, outs, IsAtSync, IsGoing, IsRunning}
use Rattle.cw_strand.specs.Losing.{CountsGiven}
use Rattle.cw_strand.specs.Moves.{AdvancesBy, CountsIn, DoesOne, EndsAfter, EndsBy, EndsStill, IsBefore, KeptBy}
use Rattle.cw_sched.specs.declared.post.Out.{Out}
use Rattle.cw_sched.specs.declared.post.Out.TheVariants as out
use Rattle.cw_sched.specs.Scenes.{FrameView}
use Rattle.cw_sched.specs.WorkerFrames.{AgreesWithJoin, Comes, Steps, HasDone, HasDoneWith, DoesOneMore}

-- the flag is right where it says whether the strand does not go on
pub stands_paused : (p : FrameView) → (p.at_join ≡ true → IsAtSync p.strand) → (p.at_join ≡ false → IsGoing p.strand) → p.outs ≢ [] → length p.outs ≡ length (outs p.strand) → AgreesWithJoin p
stands_paused p paused goes some even = (
  (λ j. (paused j, some)),
  goes,
  λ none. absurd (some (nil_from_length p.outs (even ∙ ap length none))),
)

-- nor is one set where it goes on
pub stands_going : (p : FrameView) → p.at_join ≡ false → IsGoing p.strand → outs p.strand ≢ [] → AgreesWithJoin p
stands_going p e goes some = (
  (λ j. absurd (true≢false (sym j ∙ e))),
  (λ _. goes),
  λ none. absurd (some none),
)

-- with nothing out no flag is set, and it is before an instruction
pub stands_none : (p : FrameView) → p.at_join ≡ false → IsBefore p.strand → AgreesWithJoin p
stands_none p e before = ((λ j. absurd (true≢false (sym j ∙ e))), (λ _. before.going), λ _. before)

pub some_not_none : {A : Type 0} (x : A) (xs : List A) → x ∷ xs ≡ [] → ⊥
some_not_none x xs e = cc

pub none_out : (os : List Out) (js : List Job) → length os ≡ length js → js ≡ [] → os ≡ []
none_out os js even none = nil_from_length os (even ∙ ap length none)

pub some_out : (os : List Out) (js : List Job) → length os ≡ length js → js ≢ [] → os ≢ []
some_out os js even some none = some (nil_from_length js (sym even ∙ ap length none))

-- with nothing out it ends, or goes on
pub ends : (r : Option Effect) (old new : FrameView) → new.number ≡ old.number → new.outs ≡ old.outs → its_job new.strand ≡ its_job old.strand → old.outs ≡ [] → new.at_join ≡ false
    → length old.outs ≡ length (outs old.strand) → EndsBy r old.strand new.strand → Comes r old new (outs old.strand)
ends None old new n os of none flag even e =
    let bare : outs old.strand ≡ [] = nil_from_length (outs old.strand) (sym even ∙ ap length none) in
    record { numbered = n; of = of; running = e.0; outs_are = os; left_are = e.1; stands = stands_none new flag (e.3 (e.1 ∙ bare)) }
ends (Some x) old new n os of none flag even e = (n, e.0, none)

-- it has done no more
still_done : (e : Effect) (self : Strand) → EndsStill e self → CountsIn e self.count
still_done (effect.Ended value shown) self h = absurd h
still_done (effect.Joined frame replaced shown) self h = h
still_done (effect.Trapped trap line lines cost back) self h = h
still_done (effect.OverLimit back) self h = tt
still_done (effect.Memory back) self h = tt
still_done (effect.GivenUp back) self h = tt

pub ends_done : (r : Option Effect) (old new : Strand) → EndsBy r old new → HasDone r new old.count
ends_done None old new e = e.2
ends_done (Some x) old new e = still_done x old e.2

-- one that may do no more, or has one instruction to do
at_end : (n end : ℕ) → n ≤ end → (n < end → ⊥) → n ≡ end
at_end n end le not = by_test (nat_lt n end) refl
  where
    by_test : (b : Bool) → nat_lt n end ≡ b → n ≡ end
    by_test true e = absurd (not (grind (arith, nat_tests)))
    by_test false e = grind (arith, nat_tests)

pub within_end : (self : Strand) → IsRunning self → self.count ≤ its_end self
within_end self h = let w = h.keeps.within in omega (arith, w)

pub paused_one : (old new : Strand) → IsRunning old → new.count ≡ old.count → (old.count < its_end old → ⊥) → DoesOneMore None old new
paused_one old new h same not = inr (at_end old.count (its_end old) (within_end old h) not, same)

pub ended_one : (e : Effect) (old new : Strand) → IsRunning old → EndsAfter e old → (old.count < its_end old → DoesOne (advance.Came (step.Ended e))) → DoesOneMore (Some e) old new
ended_one (effect.Ended value shown) old new h after does = inl after.counted
ended_one (effect.Joined frame replaced shown) old new h after does = inr (at_end old.count (its_end old) (within_end old h) does, after)
ended_one (effect.Trapped trap line lines cost back) old new h after does = inr (at_end old.count (its_end old) (within_end old h) does, after)
ended_one (effect.OverLimit back) old new h after does = inr (at_end old.count (its_end old) (within_end old h) does, tt)
ended_one (effect.Memory back) old new h after does = inr (at_end old.count (its_end old) (within_end old h) does, tt)
ended_one (effect.GivenUp back) old new h after does = inr (at_end old.count (its_end old) (within_end old h) does, tt)

-- given an effect
pub given_done : (r : Option Effect) (e : Effect) (old mid new : Strand) → CountsGiven e old mid → HasDone r new mid.count → HasDoneWith r e old new
given_done r e old mid new (inl same) h = inl (subst (HasDone r new) same h)
given_done r e old mid new (inr t) h = inr (t.0, subst (HasDone r new) t.1 h)

-- the same, by another strand of the same job
pub steps_on : (r : Option Effect) (old mid new : FrameView) (jobs jobs' : List Job) → mid.number ≡ old.number → mid.outs ≡ old.outs → its_job mid.strand ≡ its_job old.strand
    → AdvancesBy advance.Ran old.strand mid.strand → Comes r mid new (outs mid.strand) → HasDone r new.strand mid.strand.count → jobs' ≡ jobs → Steps (Ok r) old new jobs jobs'
steps_on None old mid new jobs jobs' n os of ran s done j =
    inl (
      record {
        numbered = s.numbered ∙ n;
        of = s.of ∙ of;
        running = s.running;
        outs_are = s.outs_are ∙ os;
        left_are = s.left_are ∙ ran.1;
        stands = s.stands;
      },
      j,
      inl (done ∙ ran.2),
    )
steps_on (Some e) old mid new jobs jobs' n os of ran s done j =
    ((s.0 ∙ n, subst (λ k. IsMeaningOf k e) of s.1, sym os ∙ s.2), j, inl (subst (CountsIn e) ran.2 done))

-- it waits
pub steps_to_join : (old new : FrameView) (jobs jobs' : List Job) → new.number ≡ old.number → new.outs ≡ old.outs → its_job new.strand ≡ its_job old.strand
    → length old.outs ≡ length (outs old.strand) → new.at_join ≡ true → KeptBy step.AtSync old.strand new.strand
    → DoesOneMore None old.strand new.strand → jobs' ≡ jobs → Steps (Ok None) old new jobs jobs'
steps_to_join old new jobs jobs' n os of even flag k one j =
    let some : new.outs ≢ [] = λ none. some_out old.outs (outs old.strand) even k.2 (sym os ∙ none) in
    inl (
      record {
        numbered = n;
        of = of;
        running = k.0;
        outs_are = os;
        left_are = k.1;
        stands = ((λ _. (k.3, some)), (λ no. absurd (true≢false (sym flag ∙ no))), λ none. absurd (k.2 (sym k.1 ∙ none)));
      },
      j,
      one,
    )

-- it has handed a job out
pub steps_to_spawn : (old new : FrameView) (jobs jobs' : List Job) (job : Job) → new.number ≡ old.number → new.outs ≡ old.outs ++ out.Undecided (length jobs) job ∷ []
    → its_job new.strand ≡ its_job old.strand → AgreesWithJoin new → KeptBy (step.Spawned job) old.strand new.strand → IsGoing new.strand
    → new.strand.count ≡ old.strand.count + 1 → jobs' ≡ jobs ++ job ∷ [] → Steps (Ok None) old new jobs jobs'
steps_to_spawn old new jobs jobs' job n os of stands k goes one j =
    inr (record {
      job = job;
      stays = record { numbered = n; of = of; running = k.0; outs_are = os; left_are = k.1; stands = stands };
      jobs_are = j;
      goes = goes;
      one = one;
    })

-- the newest job out came back: what the post comes to is told of the post that lacked it
pub comes_back : (r : Option Effect) (old mid new : FrameView) (job : Job) (others : List Job) → mid.number ≡ old.number → mid.outs ≡ old.outs → its_job mid.strand ≡ its_job old.strand
    → outs mid.strand ≡ others → Comes r mid new (outs mid.strand) → Comes r old new others
comes_back None old mid new job others n os of left s =
    record {
      numbered = s.numbered ∙ n;
      of = s.of ∙ of;
      running = s.running;
      outs_are = s.outs_are ∙ os;
      left_are = s.left_are ∙ left;
      stands = s.stands;
    }
comes_back (Some e) old mid new job others n os of left s = (s.0 ∙ n, subst (λ k. IsMeaningOf k e) of s.1, sym os ∙ s.2)
