-- The effect that a strand makes of its job means the job.
use Rattle.std.proofs.Common.{◌≡◌, ℕ, ◌≤◌, List, [], ◌∷◌, length, refl, sym, ap, ◌∙◌, subst}
use Rattle.std.specs.Prelude.{map, reverse}
use Rattle.std.specs.Coded.{le_prop}
use Rattle.std.proofs.Math.Logic.{∥∥₁_elim, ∥∥₁_map}
use mathlib.Core.HLevel.{⊥_prop}
use Rattle.cw_model.specs.declared.trap.Trap.{Trap}
use Rattle.cw_code.specs.Code.{Code, code_view}
use Rattle.cw_code.specs.Run.{State}
use Rattle.cw_code.specs.Jobs as jobs
use Rattle.cw_code.specs.Jobs.{Memory, Short}
use Rattle.cw_code.specs.Strands as strands
use Rattle.cw_code.specs.Strands.{Going, Waits, Halted}
use Rattle.cw_code.specs.Promises.{IsStrandOf}
use Rattle.cw_code.specs.Steps.{CallsPreserveJob}
use Rattle.cw_slices.specs.Placed.{Placed}
use Rattle.cw_slices.specs.lemmas.Rights.{whole_prop}
use Rattle.cw_runnable.specs.declared.verified.Verified.{Verified}
use Rattle.cw_jobs.specs.declared.call.Parts.{Parts}
use Rattle.cw_jobs.specs.declared.job.Job.{Job}
use Rattle.cw_jobs.specs.declared.effect.Effect.{Effect}
use Rattle.cw_jobs.specs.declared.effect.Effect.TheVariants as effect
use Rattle.cw_jobs.specs.Jobs.{code_of}
use Rattle.cw_jobs.specs.Means.{MeansIt, IsMeaningOf}
use Rattle.cw_machine.specs.declared.machine.Machine.{Machine}
use Rattle.cw_machine.specs.Arrays.{Out, IsFit, block}
use Rattle.cw_machine.specs.RepresentsState.{Remains}
use Rattle.cw_machine.specs.Unwinding.{RestsAreKept}
use Rattle.cw_machine.specs.JobRuns.{IsAllHere, KeepsGiven, MayGiveUp, GivesUp}
use Rattle.cw_strand.specs.declared.strand.Mode.TheVariants as mode
use Rattle.cw_strand.specs.declared.strand.Strand.{Strand}
use Rattle.cw_strand.specs.Levels.{Level}
use Rattle.cw_strand.specs.Holds.{its_job, its_parts, its_code, outs, Ground, ok_with, Lends, Stands, HeldIn, Holds, IsRunning}
use Rattle.cw_strand.proofs.Course.{halted}
use Rattle.cw_strand.proofs.RunsOn.{sound_of}

-- nothing is out
pub nil_of : {A : Type 0} {B : Type 0} (f : A → B) (xs : List A) → map f xs ≡ [] → xs ≡ []
nil_of f [] e = refl
nil_of f (x ∷ xs) e = cc

pub is_nil : {A : Type 0} (xs : List A) → ((x : A) (ys : List A) → xs ≡ x ∷ ys → ⊥) → xs ≡ []
is_nil [] h = refl
is_nil (x ∷ xs) h = absurd (h x xs refl)

pub no_lent : (v : Verified) (is : IsFit v) (p : Parts) (base : State) (levels : List Level) (out : List Out) → Lends v is p base levels out [] → out ≡ []
no_lent v is p base [] [] h = refl
no_lent v is p base [] (o ∷ out) h = absurd h
no_lent v is p base (l ∷ levels) [] h = absurd h
no_lent v is p base (l ∷ levels) (o ∷ out) h = absurd h

-- A strand that stopped
module _ (self : Strand) (is : IsFit (its_code self)) (j : jobs.Job) where
  abbrev code : Code
  code = code_view (its_code self).code

  -- if nothing is out, its arrays are in its machine
  pub record IsHalted (e : jobs.Effect) : Type 0 where
    pub ground : Ground (its_code self) is (its_parts self) j
    pub out : List jobs.Job
    pub is_of : IsStrandOf code j (Halted e out)
    pub remains : Remains (its_code self) (ok_with ground []) self.run.machine

  stands_still : (g : Ground (its_code self) is (its_parts self) j) → outs self ≡ [] → Stands self is j g → Remains (its_code self) (ok_with g []) self.run.machine
  stands_still g none h =
      let lent : reverse self.lent.items ≡ [] = nil_of (λ x. x.job.value) (reverse self.lent.items) none in
      let out = no_lent (its_code self) is (its_parts self) g.base h.levels h.outs (subst (Lends (its_code self) is (its_parts self) g.base h.levels h.outs) lent h.lends) in
      subst (λ o. Remains (its_code self) (ok_with g o) self.run.machine) out h.remains

  trap_held : (g : Ground (its_code self) is (its_parts self) j) (trap : Trap) (line : ℕ) (d : strands.Strand) → outs self ≡ [] → IsStrandOf code j d
      → HeldIn self is j g (mode.Trapped trap line) d → IsHalted (jobs.TrapIn trap line self.run.machine.lines.items self.count)
  trap_held g trap line (Going s count out) none is_of h = absurd h
  trap_held g trap line (Waits s count out) none is_of h = absurd h
  trap_held g trap line (Halted e out) none is_of h = record {
    ground = g;
    out = out;
    is_of = subst (λ x. IsStrandOf code j (Halted x out)) h.0 is_of;
    remains = stands_still g none h.1;
  }

  over_held : (g : Ground (its_code self) is (its_parts self) j) (d : strands.Strand) → outs self ≡ [] → IsStrandOf code j d → HeldIn self is j g mode.Over d → IsHalted jobs.OverLimit
  over_held g (Going s count out) none is_of h = absurd h
  over_held g (Waits s count out) none is_of h = absurd h
  over_held g (Halted e out) none is_of h = record {
    ground = g;
    out = out;
    is_of = subst (λ x. IsStrandOf code j (Halted x out)) h.0 is_of;
    remains = stands_still g none h.1;
  }

  up_held : (g : Ground (its_code self) is (its_parts self) j) (d : strands.Strand) → outs self ≡ [] → IsStrandOf code j d → HeldIn self is j g mode.GivenUp d → IsHalted jobs.Memory
  up_held g (Going s count out) none is_of h = absurd h
  up_held g (Waits s count out) none is_of h = absurd h
  up_held g (Halted e out) none is_of h = record {
    ground = g;
    out = out;
    is_of = subst (λ x. IsStrandOf code j (Halted x out)) h.0 is_of;
    remains = stands_still g none h.1;
  }

  pub trap_of : (trap : Trap) (line : ℕ) → self.mode ≡ mode.Trapped trap line → outs self ≡ [] → Holds self is j → IsHalted (jobs.TrapIn trap line self.run.machine.lines.items self.count)
  trap_of trap line e none d = trap_held d.ground trap line d.strand none d.is_of (subst (λ m. HeldIn self is j d.ground m d.strand) e d.held)

  pub over_of : self.mode ≡ mode.Over → outs self ≡ [] → Holds self is j → IsHalted jobs.OverLimit
  over_of e none d = over_held d.ground d.strand none d.is_of (subst (λ m. HeldIn self is j d.ground m d.strand) e d.held)

  pub up_of : self.mode ≡ mode.GivenUp → outs self ≡ [] → Holds self is j → IsHalted jobs.Memory
  up_of e none d = up_held d.ground d.strand none d.is_of (subst (λ m. HeldIn self is j d.ground m d.strand) e d.held)

  module _ (kept : RestsAreKept) (e : jobs.Effect) (h : IsHalted e) where
    pub given : KeepsGiven (its_parts self).rest.slices.items self.run.machine
    given = (kept (its_code self) (ok_with h.ground []) self.run.machine h.remains refl).0

    pub may : MayGiveUp self.run.machine (length (its_parts self).rest.slices.items)
    may = (kept (its_code self) (ok_with h.ground []) self.run.machine h.remains refl).1

-- another machine with the same blocks
module _ (m m' : Machine) (same : m'.blocks.items ≡ m.blocks.items) where
  pub may_with : (n : ℕ) → MayGiveUp m n → MayGiveUp m' n
  may_with n h = record {
    there = subst (λ l. n ≤ length l) (sym same) h.there;
    all_here = λ a lt. subst (λ l. IsAllHere (block l a)) (sym same) (h.all_here a lt);
  }

  pub gives_with : (n : ℕ) (back : List Placed) → GivesUp m' n back → GivesUp m n back
  gives_with n back h = λ given e k. h given e (record {
    there = subst (λ l. length given ≤ length l) (sym same) k.there;
    all_here = λ a lt. subst (λ l. IsAllHere (block l a)) (sym same) (k.all_here a lt);
    spot = λ a lt. ap (λ l. (block l a).spot) same ∙ k.spot a lt;
    len = λ a lt. ap (λ l. length (block l a).cells) same ∙ k.len a lt;
    same = λ a lt some. ap (λ l. (block l a).cells) same ∙ k.same a lt some;
  })

-- the premise without its truncation
may_up : (m : Machine) (n : ℕ) → ∥ MayGiveUp m n ∥₁ → MayGiveUp m n
may_up m n h = record {
  there = ∥∥₁_elim h le_prop (λ x. x.there);
  all_here = λ a lt.
      (λ k e. ∥∥₁_elim h ⊥_prop (λ x. (x.all_here a lt).0 k e), ∥∥₁_elim h (whole_prop (block m.blocks.items a)) (λ x. (x.all_here a lt).1));
}

module _ (keep : (code : Code) → CallsPreserveJob code) (kept : RestsAreKept) (self : Strand) (running : IsRunning self) (none : outs self ≡ []) where
  abbrev n : ℕ
  n = length self.parts.value.rest.slices.items

  as_many : length (its_parts self).rest.slices.items ≡ n
  as_many = sym running.keeps.rest.as_many

  pub may_trapped : (trap : Trap) (line : ℕ) → self.mode ≡ mode.Trapped trap line → MayGiveUp self.run.machine n
  may_trapped trap line e = subst (MayGiveUp self.run.machine) as_many
      (may_up self.run.machine (length (its_parts self).rest.slices.items) (∥∥₁_elim (sound_of self) (hlevel) (λ s. ∥∥₁_map (running.holds s.ok s.job s.is) (λ d.
      may self s.ok s.job kept (jobs.TrapIn trap line self.run.machine.lines.items self.count) (trap_of self s.ok s.job trap line e none d)))))

  pub may_over : self.mode ≡ mode.Over → MayGiveUp self.run.machine n
  may_over e = subst (MayGiveUp self.run.machine) as_many (may_up self.run.machine (length (its_parts self).rest.slices.items)
      (∥∥₁_elim (sound_of self) (hlevel) (λ s. ∥∥₁_map (running.holds s.ok s.job s.is) (λ d.
      may self s.ok s.job kept jobs.OverLimit (over_of self s.ok s.job e none d)))))

  pub may_give_up : self.mode ≡ mode.GivenUp → MayGiveUp self.run.machine n
  may_give_up e = subst (MayGiveUp self.run.machine) as_many (may_up self.run.machine (length (its_parts self).rest.slices.items)
      (∥∥₁_elim (sound_of self) (hlevel) (λ s. ∥∥₁_map (running.holds s.ok s.job s.is) (λ d.
      may self s.ok s.job kept jobs.Memory (up_of self s.ok s.job e none d)))))

  -- an effect reports the trap, or that the limit was exceeded, and returns the arrays
  abbrev pub ReportsTrap : Trap → (line : ℕ) → Effect → Type 0
  ReportsTrap trap line (effect.Trapped c l lines cost back) =
      (c ≡ trap) × (l ≡ line) × (lines.items ≡ self.run.machine.lines.items) × (cost ≡ self.count) × GivesUp self.run.machine (length self.parts.value.rest.slices.items) back.items
  ReportsTrap trap line _ = ⊥

  abbrev pub ReportsOverLimit : Effect → Type 0
  ReportsOverLimit (effect.OverLimit back) = GivesUp self.run.machine (length self.parts.value.rest.slices.items) back.items
  ReportsOverLimit _ = ⊥

  -- an effect reports that the job was given up
  abbrev pub TellsUp : Effect → Type 0
  TellsUp (effect.GivenUp back) = GivesUp self.run.machine (length self.parts.value.rest.slices.items) back.items
  TellsUp _ = ⊥

  trap_it : (trap : Trap) (line : ℕ) (e : Effect) → ReportsTrap trap line e → (is : IsFit (its_code self)) (j : jobs.Job)
      → IsHalted self is j (jobs.TrapIn trap line self.run.machine.lines.items self.count) → MeansIt (its_code self) is (its_parts self) e j
  trap_it trap line (effect.Ended value shown) t is j h = absurd t
  trap_it trap line (effect.Joined frame replaced shown) t is j h = absurd t
  trap_it trap line (effect.OverLimit back) t is j h = absurd t
  trap_it trap line (effect.Memory back) t is j h = absurd t
  trap_it trap line (effect.GivenUp back) t is j h = absurd t
  trap_it trap line (effect.Trapped c l lines cost back) t is j h = record {
    effect = jobs.TrapIn trap line self.run.machine.lines.items self.count;
    means = halted (code_view (its_code self).code) (keep (code_view (its_code self).code)) j (jobs.TrapIn trap line self.run.machine.lines.items self.count) h.out h.is_of;
    tells = (t.0, t.1, t.2, t.3);
    counts = tt;
    homes = t.4 (its_parts self).rest.slices.items as_many (given self is j kept (jobs.TrapIn trap line self.run.machine.lines.items self.count) h);
  }

  over_it : (e : Effect) → ReportsOverLimit e → (is : IsFit (its_code self)) (j : jobs.Job) → IsHalted self is j jobs.OverLimit → MeansIt (its_code self) is (its_parts self) e j
  over_it (effect.Ended value shown) t is j h = absurd t
  over_it (effect.Joined frame replaced shown) t is j h = absurd t
  over_it (effect.Trapped c l lines cost back) t is j h = absurd t
  over_it (effect.Memory back) t is j h = absurd t
  over_it (effect.GivenUp back) t is j h = absurd t
  over_it (effect.OverLimit back) t is j h = record {
    effect = jobs.OverLimit;
    means = halted (code_view (its_code self).code) (keep (code_view (its_code self).code)) j jobs.OverLimit h.out h.is_of;
    tells = tt;
    counts = tt;
    homes = t (its_parts self).rest.slices.items as_many (given self is j kept jobs.OverLimit h);
  }

  up_it : (e : Effect) → TellsUp e → (is : IsFit (its_code self)) (j : jobs.Job) → IsHalted self is j jobs.Memory → MeansIt (its_code self) is (its_parts self) e j
  up_it (effect.Ended value shown) t is j h = absurd t
  up_it (effect.Joined frame replaced shown) t is j h = absurd t
  up_it (effect.Trapped c l lines cost back) t is j h = absurd t
  up_it (effect.OverLimit back) t is j h = absurd t
  up_it (effect.Memory back) t is j h = absurd t
  up_it (effect.GivenUp back) t is j h = record {
    effect = Memory;
    means = Short refl;
    tells = tt;
    counts = tt;
    homes = t (its_parts self).rest.slices.items as_many (given self is j kept jobs.Memory h);
  }

  pub trap_means : (trap : Trap) (line : ℕ) (e : Effect) → self.mode ≡ mode.Trapped trap line → ReportsTrap trap line e → IsMeaningOf (its_job self) e
  unfolding IsMeaningOf
  trap_means trap line e at t = λ is j job. ∥∥₁_map (running.holds is j job) (λ d. trap_it trap line e t is j (trap_of self is j trap line at none d))

  pub over_means : (e : Effect) → self.mode ≡ mode.Over → ReportsOverLimit e → IsMeaningOf (its_job self) e
  unfolding IsMeaningOf
  over_means e at t = λ is j job. ∥∥₁_map (running.holds is j job) (λ d. over_it e t is j (over_of self is j at none d))

  pub up_means : (e : Effect) → self.mode ≡ mode.GivenUp → TellsUp e → IsMeaningOf (its_job self) e
  unfolding IsMeaningOf
  up_means e at t = λ is j job. ∥∥₁_map (running.holds is j job) (λ d. up_it e t is j (up_of self is j at none d))

-- the effect that memory ran out means every job
abbrev pub IsMemory : Effect → Type 0
IsMemory (effect.Memory back) = Unit {0}
IsMemory _ = ⊥

memory_it : (v : Verified) (is : IsFit v) (p : Parts) (j : jobs.Job) (e : Effect) → IsMemory e → MeansIt v is p e j
memory_it v is p j (effect.Ended value shown) t = absurd t
memory_it v is p j (effect.Joined frame replaced shown) t = absurd t
memory_it v is p j (effect.Trapped c l lines cost back) t = absurd t
memory_it v is p j (effect.OverLimit back) t = absurd t
memory_it v is p j (effect.GivenUp back) t = absurd t
memory_it v is p j (effect.Memory back) t = record { effect = Memory; means = Short refl; tells = tt; counts = tt; homes = tt }

pub memory_means : (job : Job) (e : Effect) → IsMemory e → IsMeaningOf job e
unfolding IsMeaningOf
memory_means job e t = λ is j isj. ∣ memory_it (code_of job.parts.value) is job.parts.value j e t ∣₁
