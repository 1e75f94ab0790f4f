-- The effect of the newest job out was given to a strand.
use Rattle.std.proofs.Common.{◌≡◌, ◌≢◌, ℕ, ◌+◌, ◌-◌, ◌≤◌, true, false, Option, Some, List, ◌∷◌, refl, sym, ap, ◌∙◌, subst, arith}
use Rattle.std.specs.Prelude.{reverse, slice_get}
use Rattle.std.proofs.Math.Logic.{∥∥₁_elim, ∥∥₁_map}
use mathlib.Core.HLevel.{⊥_prop}
use Rattle.cw_facts.specs.Tests.{lt_of}
use Rattle.cw_slices.specs.Placed.{Placed}
use Rattle.cw_code.specs.Code.{Code, code_view}
use Rattle.cw_code.specs.Jobs as jobs
use Rattle.cw_code.specs.Over.{under}
use Rattle.cw_code.specs.Strands.{Halted, outs_of, rest_of}
use Rattle.cw_code.specs.Promises.{IsStrandOf}
use Rattle.cw_code.specs.Steps.{CallsPreserveJob}
use Rattle.cw_runnable.specs.declared.verified.Verified.{Verified}
use Rattle.cw_jobs.specs.declared.call.Parts.{Parts}
use Rattle.cw_jobs.specs.declared.effect.Effect.{Effect}
use Rattle.cw_jobs.specs.declared.effect.Effect.TheVariants as effect
use Rattle.cw_jobs.specs.declared.effect.PieceOutput.{PieceOutput}
use Rattle.cw_jobs.specs.declared.job.Job.{Job}
use Rattle.cw_jobs.specs.Jobs.{code_of, extent_of, IsJob, KeepsHomes}
use Rattle.cw_jobs.specs.Means.{MeansIt, IsMeaningOf}
use Rattle.cw_machine.specs.Arrays.{IsFit}
use Rattle.cw_machine.specs.Unwinding.{ShownRemain}
use Rattle.cw_strand.specs.declared.strand.Mode.{Mode}
use Rattle.cw_strand.specs.declared.strand.Mode.TheVariants as mode
use Rattle.cw_strand.specs.declared.strand.Strand.{Strand}
use Rattle.cw_strand.specs.Holds.{its_parts, its_code, lent_parts, Ground, ok_with, Stands, HeldIn, Holds, IsRunning, IsWaiting, HasStopped, stops, is_lost}
use Rattle.cw_strand.specs.Moves.{MayReturnNewest, MayReach, HasReturnedNewest, HasLost}
use Rattle.cw_strand.specs.Giving.{passes_limit, IsOfRest, GivesBack}
use Rattle.cw_strand.proofs.Course.{wants}
use Rattle.cw_strand.proofs.RunsOn.{sound_of, IsHeldBack, waiting_of}
use Rattle.cw_strand.proofs.Same.{spare_as, Newest}
use Rattle.cw_strand.proofs.Homes.{rest_slices, newly, may_home, stands_on, stands_in, goes_so, stops_on, came_home}
use Rattle.cw_strand.proofs.Given.{out, rests, out_is, waits}
use Rattle.cw_strand.proofs.Effects.{CostsAs, IsOver, meant, homes_in, cost_in, over_in, never_ends, gave_over, gave_limit}

module _ (self : Strand) (job : Job) (others : List Job) (newest : Newest self job others) (running : IsRunning self) where
  abbrev v : Verified
  v = its_code self

  abbrev code : Code
  code = code_view v.code

  abbrev p : Parts
  p = its_parts self

  abbrev q : Parts
  q = lent_parts newest.lent

  -- MEMORY RAN OUT
  pub lost_runs : ((code : Code) → CallsPreserveJob code) → (new : Strand) → HasLost self new → IsRunning new
  lost_runs keep new lost = goes_so self job others newest running new (lost.left newest.lent newest.rest newest.are) (subst (λ n. p.before + n ≤ p.limit) (sym lost.count) running.keeps.within)
      (λ is j d. ∣ record {
        ground = d.ground;
        strand = Halted jobs.Memory (outs_of d.strand);
        is_of = wants code (keep code) j d.strand d.is_of;
        held = subst (λ m. HeldIn (record self { run = new.run; lent = new.lent; count = new.count; spares = new.spares; mode = new.mode }) is j
            d.ground m (Halted jobs.Memory (outs_of d.strand))) (sym lost.mode) refl;
      } ∣₁)
      lost.of lost.parts lost.spares

  -- an effect that means the newest job
  module _ (e : Effect) (means : IsMeaningOf job e) where
    pub meant_in : (is : IsFit (its_code self)) (jo : jobs.Job) → IsJob (its_code self) is q jo → ∥ MeansIt (its_code self) is q e jo ∥₁
    meant_in = meant newest.lent.job.value e (subst (λ b. IsMeaningOf b e) (sym newest.job_is) means) v
        (running.rests 0 newest.lent (subst (λ l. slice_get l 0 ≡ Some newest.lent) (sym newest.are) refl)).code

    module _ (back : List Placed) (replaced : List (Option Placed)) (gives : GivesBack e back replaced) where
      homes_at : (is : IsFit (its_code self)) (j : jobs.Job) (g : Ground (its_code self) is (its_parts self) j) → Stands self is j g
          → ∥ KeepsHomes (rest_slices self job others newest) back replaced ∥₁
      homes_at is j g h =
          let n = newly self job others newest is j g h in
          let jo = rest_of n.level.waiting p.limit q.before in
          ∥∥₁_map (meant_in is jo n.is_lent.job) (λ m. homes_in v is q jo e back replaced gives m)

      may_come : ((is : IsFit (its_code self)) (j : jobs.Job) (d : Holds self is j) → Stands self is j d.ground) → ∥ MayReach self.run.machine v newest.lent.home back replaced ∥₁
      may_come stands = ∥∥₁_elim (sound_of self) (hlevel) (λ s. ∥∥₁_elim (running.holds s.ok s.job s.is) (hlevel) (λ d.
          let h = stands s.ok s.job d in
          ∥∥₁_map (homes_at s.ok s.job d.ground h) (λ k. may_home self job others newest s.ok s.job d.ground h back replaced k)))

      -- A STRAND THAT HAS STOPPED
      pub may_stopped : HasStopped self → MayReturnNewest self back replaced
      may_stopped stopped = record {
        newest = newest.lent;
        older = newest.rest;
        are = newest.are;
        code = running.keeps.code;
        home = λ known. may_come (λ is j d. stands_in self job others newest is j d.ground self.mode d.strand stopped known d.held);
      }

      pub stopped_runs : HasStopped self → (new : Strand) → HasReturnedNewest self back replaced new → IsRunning new
      stopped_runs stopped new home = stops_on self job others newest running stopped back replaced new (came_home self back replaced new home)
          (spare_as self new home.spares home.of running.spares) homes_at

      -- A STRAND THAT WAITS
      module _ (waiting : IsWaiting self) (remain : ShownRemain) where
        pub stands_waits : (is : IsFit (its_code self)) (j : jobs.Job) (g : Ground (its_code self) is (its_parts self) j) → IsHeldBack self is j g → Stands self is j g
        stands_waits is j g h = record {
          levels = h.waited.level ∷ h.waited.others;
          outs = h.waited.runs.outs;
          lends = h.waited.runs.lends;
          remains = remain v (ok_with g h.waited.runs.outs) self.run.machine (under g.base h.state) h.waited.runs.shows.shows;
        }

        pub may_waits : MayReturnNewest self back replaced
        may_waits = record {
          newest = newest.lent;
          older = newest.rest;
          are = newest.are;
          code = running.keeps.code;
          home = λ known. may_come (λ is j d. stands_waits is j d.ground (waiting_of self is j waiting d));
        }

        known : is_lost self.mode ≡ false
        known = subst (λ m. is_lost m ≡ false) (sym waiting) refl

        -- the strand stops because of its limit
        module _ (keep : (code : Code) → CallsPreserveJob code) (new : Strand) (home : HasReturnedNewest self back replaced (record new { mode = self.mode })) where
          left : reverse new.lent.items ≡ newest.rest
          left = home.left newest.lent newest.rest newest.are

          pub over_runs : new.mode ≡ mode.Over
              → ((is : IsFit (its_code self)) (j : jobs.Job) (g : Ground (its_code self) is (its_parts self) j) (h : IsHeldBack self is j g)
              (m : MeansIt (its_code self) is q e (out self job others newest is j g h))
              → IsStrandOf code j (Halted jobs.OverLimit (rests self job others newest is j g h)))
              → IsRunning new
          over_runs over stops = goes_so self job others newest running new left (subst (λ n. p.before + n ≤ p.limit) (sym home.count) running.keeps.within)
              (λ is j d.
              let h = waiting_of self is j waiting d in
              let st = stands_waits is j d.ground h in
              ∥∥₁_map (meant_in is (out self job others newest is j d.ground h) (out_is self job others newest is j d.ground h)) (λ m. record {
                ground = d.ground;
                strand = Halted jobs.OverLimit (rests self job others newest is j d.ground h);
                is_of = stops is j d.ground h m;
                held = subst (λ a. HeldIn (record self { run = new.run; lent = new.lent; count = new.count; spares = new.spares; mode = new.mode })
                    is j d.ground a (Halted jobs.OverLimit (rests self job others newest is j d.ground h))) (sym over) (
                      refl,
                      stands_on self job others newest is j d.ground st back replaced
                          (homes_in v is q (out self job others newest is j d.ground h) e back replaced gives m) new new.run.machine left
                          (home.home newest.lent newest.rest newest.are known),
                    );
              }))
              home.of home.parts home.spares

          -- the strand stops because the cost of the continuation exceeds its limit
          pub passes_runs : new.mode ≡ mode.Over → (cost : ℕ) → CostsAs e cost → passes_limit self cost ≡ true → IsRunning new
          passes_runs over cost costs passes = over_runs over (λ is j g h m.
              let jo = out self job others newest is j g h in
              let lt = lt_of ((p.limit - p.before) - self.count) cost passes in
              let c = cost_in v is q jo e cost costs m in
              let n = h.waited.runs.counts in
              let jl = g.job.limit in
              let jb = g.job.before in
              let w = running.keeps.within in
              gave_over code (keep code) j jo h.state h.count (rests self job others newest is j g h) (waits self job others newest is j g h) m.effect m.means (omega (arith, lt, c, n, jl, jb, w)))

          -- the strand stops because the continuation has exceeded the limit
          pub limit_runs : new.mode ≡ mode.Over → IsOver e → IsRunning new
          limit_runs over is_over = over_runs over (λ is j g h m.
              let jo = out self job others newest is j g h in
              gave_limit code (keep code) j jo h.state h.count (rests self job others newest is j g h) (waits self job others newest is j g h) m.effect (over_in v is q jo e is_over m) m.means)

-- the arrays that returned, for every mode of the strand afterwards
pub mode_back : (self : Strand) (back : List Placed) (replaced : List (Option Placed)) (popped : Strand) → HasReturnedNewest self back replaced popped
    → HasReturnedNewest self back replaced (record popped { mode = self.mode })
mode_back self back replaced popped home = record {
  of = home.of;
  parts = home.parts;
  count = home.count;
  spares = home.spares;
  mode = refl;
  lines = home.lines;
  left = home.left;
  home = home.home;
}

-- a continuation does not end its call
pub never_given : (self : Strand) (job : Job) (others : List Job) (newest : Newest self job others) → IsRunning self → (value : _) (shown : PieceOutput) → IsMeaningOf job (effect.Ended value shown) → ⊥
never_given self job others newest running value shown means =
    let joins = (running.rests 0 newest.lent (subst (λ l. slice_get l 0 ≡ Some newest.lent) (sym newest.are) refl)).joins in
    ∥∥₁_elim newest.lent.job.value.sound ⊥_prop (λ s.
    ∥∥₁_elim (meant newest.lent.job.value (effect.Ended value shown) (subst (λ b. IsMeaningOf b (effect.Ended value shown))
    (sym newest.job_is) means) (code_of (lent_parts newest.lent)) refl s.ok s.job s.is) ⊥_prop
    (λ m. never_ends (code_of (lent_parts newest.lent)) s.ok (lent_parts newest.lent) s.job value shown (s.is.extent ∙ ap extent_of joins) m))

pub of_rest : (self : Strand) (job : Job) (others : List Job) (newest : Newest self job others) → IsRunning self → (e : Effect) → IsMeaningOf job e → IsOfRest e
of_rest self job others newest running (effect.Ended value shown) means = never_given self job others newest running value shown means
of_rest self job others newest running (effect.Joined f r s) means = tt
of_rest self job others newest running (effect.Trapped c l ls n b) means = tt
of_rest self job others newest running (effect.OverLimit b) means = tt
of_rest self job others newest running (effect.Memory b) means = tt
of_rest self job others newest running (effect.GivenUp b) means = tt

-- a strand at a join that does not wait has stopped
pub else_stopped : (m : Mode) → m ≢ mode.Going → m ≢ mode.Waiting → stops m ≡ true
else_stopped mode.Going g w = absurd (g refl)
else_stopped mode.Waiting g w = absurd (w refl)
else_stopped (mode.Trapped c l) g w = refl
else_stopped mode.Over g w = refl
else_stopped mode.Memory g w = refl
else_stopped mode.GivenUp g w = refl
