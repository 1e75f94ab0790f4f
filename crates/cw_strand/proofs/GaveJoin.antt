-- The effect of a continuation that reached its join was given to a strand that waits for it.
use Rattle.std.proofs.Common.{◌≡◌, ℕ, ◌+◌, ◌-◌, ◌≤◌, false, Option, List, [], ◌∷◌, sym, ap₂, ◌∙◌, subst, arith}
use Rattle.std.specs.Prelude.{reverse}
use Rattle.std.proofs.Math.Logic.{∥∥₁_elim, ∥∥₁_map}
use Rattle.cw_facts.specs.Tests.{not_lt_of}
use Rattle.cw_model.specs.declared.limits.TheConstants.{MOST_LIMIT}
use Rattle.cw_model.specs.Trees.{Event}
use Rattle.cw_model.specs.Outcome.{Trace}
use Rattle.cw_slices.specs.Placed.{Placed}
use Rattle.cw_code.specs.Code.{Code, code_view}
use Rattle.cw_code.specs.Fits.{Fits, slots_lent}
use Rattle.cw_code.specs.Run.{State}
use Rattle.cw_code.specs.Good.{FitSettles}
use Rattle.cw_code.specs.Staying.{SeatsLie}
use Rattle.cw_jobs.specs.Strands.{CallsPreserveMeters, CountsEffect, TracksAll, site_at, MeansMeasured}
use Rattle.cw_meter.specs.declared.detail.Detail.{Detail}
use Rattle.cw_greedy.specs.declared.recorder.Recorder.{Recorder}
use Rattle.cw_greedy.specs.Recording.{RecordsIn}
use Rattle.cw_meter.specs.declared.detail.Detail.TheVariants.{Values, Strands, Measures}
use Rattle.cw_meter.specs.declared.meter.Meter.{Meter}
use Rattle.cw_meter.specs.Details.{IsSite}
use Rattle.cw_meter.specs.Origins as origins
use Rattle.cw_meter.specs.Meters.{Meters, Rests}
use Rattle.cw_code.specs.Jobs as jobs
use Rattle.cw_code.specs.Jobs.{JoinFrame, JobMeaning}
use Rattle.cw_code.specs.Over.{under}
use Rattle.cw_code.specs.Strands.{Going, Waits, resumed}
use Rattle.cw_code.specs.RestsStay.{RestsStayInside}
use Rattle.cw_code.specs.Steps.{CallsPreserveJob}
use Rattle.cw_runnable.specs.declared.verified.Verified.{Verified}
use Rattle.cw_jobs.specs.declared.call.Parts.{Parts}
use Rattle.cw_jobs.specs.declared.call.Rest.{Rest}
use Rattle.cw_jobs.specs.declared.effect.Effect.{Effect}
use Rattle.cw_jobs.specs.declared.effect.Effect.TheVariants as effect
use Rattle.cw_jobs.specs.declared.effect.PieceOutput.{PieceOutput}
use Rattle.cw_jobs.specs.declared.job.Job.{Job}
use Rattle.cw_jobs.specs.Jobs.{origin_of, KeepsHomes, KeepsEmpty, KeepsFixed}
use Rattle.cw_jobs.specs.Calls.{HoldsFrame}
use Rattle.cw_jobs.specs.Means.{HasOutput, Tracks, Counts, MeansIt, IsMeaningOf}
use Rattle.cw_machine.specs.declared.run.Run.{Run}
use Rattle.cw_machine.specs.Arrays.{IsFit}
use Rattle.cw_machine.specs.Calls.{loans_of}
use Rattle.cw_machine.specs.RepresentsState.{RepresentsState}
use Rattle.cw_machine.specs.Gives.{IsGiving}
use Rattle.cw_machine.specs.lemmas.Joins.{waits_under, went_under}
use Rattle.cw_strand.specs.declared.strand.Mode.TheVariants as mode
use Rattle.cw_strand.specs.declared.strand.Strand.{Strand}
use Rattle.cw_strand.specs.Levels.{levels_of}
use Rattle.cw_strand.specs.Holds.{its_parts, its_code, lent_parts, Ground, ok_with, Lends, AreOut, HeldIn, Holds, IsRunning, IsWaiting}
use Rattle.cw_strand.specs.Giving.{passes_limit, HasTaken, HasJoined, MayJoin}
use Rattle.cw_strand.proofs.RunsOn.{sound_of, IsHeldBack, waiting_of}
use Rattle.cw_strand.proofs.Same.{Newest}
use Rattle.cw_strand.proofs.TakenBack.{Split, split, rest_out}
use Rattle.cw_strand.proofs.Homes.{goes_so}
use Rattle.cw_strand.proofs.Given.{out, rests, out_is, waits, frozen, reads, giving}
use Rattle.cw_strand.proofs.Effects.{gave_within}
use Rattle.cw_strand.proofs.Taken.{shows_joined}
use Rattle.cw_strand.proofs.Gave.{meant_in}

-- the record of a continuation does not depend on its site
record_at : (a b count : ℕ) (es : List Event) (r : Recorder) → RecordsIn (origins.Rest a) count [] es r → RecordsIn (origins.Rest b) count [] es r
record_at a b count es r h = record {
  goes_on = h.goes_on;
  keeps = h.keeps;
  parts = let p = h.parts in record { out = p.out; parts = p.parts };
  from_main = h.from_main;
  apart = h.apart;
}

-- if not all measures are counted, a meter knows no site of a continuation, and needs none
at_site : (code : Code) (d : Detail) (a b : ℕ) (frame : JoinFrame) (t : Trace) (cost : ℕ) (m : Meter) → IsSite d a b
    → CountsEffect code d a (jobs.Joined frame t cost) m → CountsEffect code d b (jobs.Joined frame t cost) m
at_site code Values a b frame t cost m e h = λ g q.
    let A : Detail → Type 0 = λ x. Meters x g.tags (origins.Rest a) cost [] t.events m in
    let B : Detail → Type 0 = λ x. Meters x g.tags (origins.Rest b) cost [] t.events m in
    subst B (sym q) (subst A q (h g q))
at_site code Strands a b frame t cost m e h = λ g q.
    let A : Detail → Type 0 = λ x. Meters x g.tags (origins.Rest a) cost [] t.events m in
    let B : Detail → Type 0 = λ x. Meters x g.tags (origins.Rest b) cost [] t.events m in
    let was = subst A q (h g q) in
    subst B (sym q) (was.0, (was.1.0, record_at a b cost t.events m.recorder was.1.1))
at_site code (Measures burden) a b frame t cost m e h = subst (λ z. CountsEffect code (Measures burden) z (jobs.Joined frame t cost) m) e h

-- an effect holds the frame at a join and what was shown
abbrev pub IsJoin : Effect → Rest → List (Option Placed) → PieceOutput → Type 0
IsJoin (effect.Joined f r s) frame replaced shown = (f ≡ frame) × (r.items ≡ replaced) × (s ≡ shown)
IsJoin _ frame replaced shown = ⊥

-- the facts that the effect states about the continuation
record Came (v : Verified) (is : IsFit v) (q : Parts) (j : jobs.Job) (back : Rest) (replaced : List (Option Placed)) (shown : PieceOutput) : Type 0 where
  pub frame : JoinFrame
  pub trace : Trace
  pub cost : ℕ
  pub means : JobMeaning (code_view v.code) j (jobs.Joined frame trace cost)
  pub holds : HoldsFrame back frame
  pub empty : KeepsEmpty j q.rest back replaced
  pub shown_is : HasOutput (code_view v.code) shown trace cost
  pub counts : CountsEffect (code_view v.code) q.detail q.site (jobs.Joined frame trace cost) shown.meter
  pub homes : KeepsHomes q.rest.slices.items back.slices.items replaced
  pub fixed : KeepsFixed v is j.place replaced

came_of : (v : Verified) (is : IsFit v) (q : Parts) (j : jobs.Job) (e : Effect) (back : Rest) (replaced : List (Option Placed)) (shown : PieceOutput)
    → IsJoin e back replaced shown → MeansIt v is q e j → Came v is q j back replaced shown
came_of v is q j (effect.Ended value x) back replaced shown i m = absurd i
came_of v is q j (effect.Trapped c l ls n b) back replaced shown i m = absurd i
came_of v is q j (effect.OverLimit b) back replaced shown i m = absurd i
came_of v is q j (effect.Memory b) back replaced shown i m = absurd i
came_of v is q j (effect.GivenUp b) back replaced shown i m = absurd i
came_of v is q j (effect.Joined f r x) back replaced shown i m =
    subst (λ z. Came v is q j back replaced z) i.2 (subst (λ z. Came v is q j back z x) i.1 (subst (λ z. Came v is q j z r.items x) i.0 (at m.effect m.means m.tells m.counts)))
  where
    at : (d : jobs.Effect) → JobMeaning (code_view v.code) j d → Tracks (code_view v.code) j q.rest (effect.Joined f r x) d
        → Counts (code_view v.code) q.detail q.site (effect.Joined f r x) d → Came v is q j f r.items x
    at (jobs.Ended y arrays u k) means tells counts = absurd tells
    at (jobs.TrapIn trap line lines k) means tells counts = absurd tells
    at jobs.OverLimit means tells counts = absurd tells
    at jobs.Memory means tells counts = absurd tells
    at (jobs.Joined frame u k) means tells counts = record {
      frame = frame;
      trace = u;
      cost = k;
      means = means;
      holds = tells.0;
      empty = tells.1;
      shown_is = tells.2;
      counts = counts;
      homes = m.homes.0;
      fixed = m.homes.1;
    }

module _ (self : Strand) (job : Job) (others : List Job) (newest : Newest self job others) (running : IsRunning self) (waiting : IsWaiting self)
    (stay : RestsStayInside) (seats : (code : Code) (fits : Fits code) → SeatsLie code fits) (settles : FitSettles)
    (e : Effect) (means : IsMeaningOf job e) (back : Rest) (replaced : List (Option Placed)) (shown : PieceOutput) (told : IsJoin e back replaced shown) where
  abbrev v : Verified
  v = its_code self

  abbrev code : Code
  code = code_view v.code

  abbrev p : Parts
  p = its_parts self

  abbrev q : Parts
  q = lent_parts newest.lent

  module _ (is : IsFit (its_code self)) (j : jobs.Job) (g : Ground (its_code self) is (its_parts self) j) (h : IsHeldBack self is j g)
      (m : MeansIt (its_code self) is q e (out self job others newest is j g h)) where
    abbrev jo : jobs.Job
    jo = out self job others newest is j g h

    abbrev sp : Split v is p g.base h.waited.level h.waited.others h.waited.runs.outs newest.lent newest.rest
    sp = split self job others newest is j g h

    came : Came v is q jo back replaced shown
    came = came_of v is q jo e back replaced shown told m

    gives_it : IsGiving v (ok_with g sp.others) sp.out self.run.machine (under g.base h.state) came.frame
        (waits_under g.base h.state) back replaced newest.lent.home.lender.slots (slots_lent (loans_of v newest.lent.home.lent)) newest.lent.home.target
    gives_it = giving self job others newest is j g h stay seats settles came.frame came.trace came.cost came.means back replaced came.holds came.empty came.homes came.fixed

    may : MayJoin self.run.machine v back replaced newest.lent.home
    may = record { code = v; ok = ok_with g sp.others; out = sp.out; state = under g.base h.state; frame = came.frame; waits = waits_under g.base h.state; gives = gives_it }

    -- the strand continues at the join
    module _ (keep : (code : Code) → CallsPreserveJob code) (meters : CallsPreserveMeters) (r : Run) (joined : HasJoined self.run v self.count back replaced newest.lent.home shown r)
        (le : p.before + (self.count + shown.cost) ≤ p.limit) (new : Strand) (left : reverse new.lent.items ≡ newest.rest) (run_is : new.run ≡ r)
        (count_is : new.count ≡ self.count + shown.cost) (going : new.mode ≡ mode.Going) where
      abbrev rs : List jobs.Job
      rs = rests self job others newest is j g h

      abbrev now : State
      now = resumed h.state came.frame came.trace

      costs : came.cost ≡ shown.cost
      costs = sym came.shown_is.cost

      total : h.count + came.cost ≡ new.count
      total = ap₂ (λ (x y : ℕ). x + y) h.waited.runs.counts costs ∙ sym count_is

      le_def : j.before + (h.count + came.cost) ≤ j.limit
      le_def =
          let n = h.waited.runs.counts in
          let c = costs in
          let jl = g.job.limit in
          let jb = g.job.before in
          omega (arith, le, n, c, jl, jb)

      shows_now : RepresentsState v (ok_with g sp.others) r.machine (under g.base now)
      shows_now =
          let given = subst (RepresentsState v (ok_with g sp.others) joined.given)
          (went_under g.base h.state came.frame (reads self job others newest is j g h stay seats settles came.frame came.trace came.cost
          came.means back replaced came.holds came.empty came.homes came.fixed))
          (joined.gives v (ok_with g sp.others) sp.out (under g.base h.state) came.frame (waits_under g.base h.state) gives_it) in
          let taken = subst (λ l. HasTaken joined.given l shown.totals.items r.machine) came.shown_is.lines joined.takes in
          shows_joined v (ok_with g sp.others) joined.given r.machine shown.totals.items g.base h.state came.frame came.trace taken given came.shown_is.totals

      measured : MeansMeasured code jo p.detail (site_at (origin_of p) h.state.around) (jobs.Joined came.frame came.trace came.cost) shown.meter
      measured = record {
        means = came.means;
        counts = at_site code p.detail q.site (site_at (origin_of p) h.state.around) came.frame came.trace came.cost shown.meter
            (subst (λ y. IsSite p.detail q.site (site_at (origin_of p) y)) (sym h.waited.back.around) sp.is_lent.site)
            (subst (λ b. CountsEffect code b q.site (jobs.Joined came.frame came.trace came.cost) shown.meter) sp.is_lent.detail came.counts);
      }

      tells_now : TracksAll code p.detail (origin_of p) (Going now (h.count + came.cost) rs) r.meter
      tells_now =
          let n = h.waited.runs.counts in
          let was : TracksAll code p.detail (origin_of p) (Waits h.state h.count (jo ∷ rs)) self.run.meter =
          let told = subst (λ k. TracksAll code p.detail (origin_of p) (Going h.state k []) self.run.meter) (sym n) h.waited.runs.shows.tells in
          λ g b. (told g b, h.waited.spawned) in
          let small : j.limit ≤ MOST_LIMIT = subst (λ l. l ≤ MOST_LIMIT) (sym g.job.limit) running.keeps.range in
          (meters code p.detail).giving (origin_of p) j jo h.state h.count came.cost rs came.frame came.trace self.run.meter shown.meter r.meter
          (waits self job others newest is j g h) le_def small measured
          (subst (λ c. Rests self.run.meter shown.meter r.meter h.count c) (sym costs) (subst (λ k. Rests self.run.meter shown.meter r.meter k shown.cost) (sym n) joined.rests)) was

      pub goes_joined : Holds (record self { run = new.run; lent = new.lent; count = new.count; spares = new.spares; mode = new.mode }) is j
      goes_joined = record {
        ground = g;
        strand = Going now (h.count + came.cost) rs;
        is_of = gave_within code (keep code) j jo h.state h.count rs (waits self job others newest is j g h) (jobs.Joined came.frame came.trace came.cost) came.means le_def;
        held = subst (λ a. HeldIn (record self { run = new.run; lent = new.lent; count = new.count; spares = new.spares; mode = new.mode }) is j g a
            (Going now (h.count + came.cost) rs)) (sym going) (record {
              levels = h.waited.others;
              are = subst (AreOut p (levels_of h.state.around) rs h.waited.others) (sym left) (rest_out self job others newest is j g h).are;
              runs = record {
                counts = total;
                outs = sp.others;
                lends = subst (Lends v is p g.base h.waited.others sp.others) (sym left) sp.rest;
                shows = record {
                  shows = subst (λ (x : Run). RepresentsState v (ok_with g sp.others) x.machine (under g.base now)) (sym run_is) shows_now;
                  tells = subst (λ (x : Run). TracksAll code p.detail (origin_of p) (Going now new.count []) x.meter) (sym run_is)
                      (subst (λ k. TracksAll code p.detail (origin_of p) (Going now k []) r.meter) total tells_now);
                };
                frozen = frozen self job others newest is j g h stay seats settles came.frame came.trace came.cost came.means;
              };
            });
      }

  pub may_join : ∥ MayJoin self.run.machine v back replaced newest.lent.home ∥₁
  may_join = ∥∥₁_elim (sound_of self) (hlevel) (λ s. ∥∥₁_elim (running.holds s.ok s.job s.is) (hlevel) (λ d.
      let h = waiting_of self s.ok s.job waiting d in
      ∥∥₁_map (meant_in self job others newest running e means s.ok (out self job others newest s.ok s.job d.ground h)
      (out_is self job others newest s.ok s.job d.ground h)) (λ m. may s.ok s.job d.ground h m)))

  pub join_runs : ((code : Code) → CallsPreserveJob code) → CallsPreserveMeters → (r : Run) → HasJoined self.run v self.count back replaced newest.lent.home shown r → passes_limit self shown.cost ≡ false
      → (new : Strand) → reverse new.lent.items ≡ newest.rest → new.run ≡ r → new.count ≡ self.count + shown.cost → new.mode ≡ mode.Going
      → new.of ≡ self.of → new.parts ≡ self.parts → new.spares ≡ self.spares → IsRunning new
  join_runs keep meters r joined passes new left run_is count_is going of parts spares =
      let k = not_lt_of ((p.limit - p.before) - self.count) shown.cost passes in
      let w = running.keeps.within in
      let le : p.before + (self.count + shown.cost) ≤ p.limit = omega (arith, k, w) in
      goes_so self job others newest running new left (subst (λ n. p.before + n ≤ p.limit) (sym count_is) le)
      (λ is j d.
      let h = waiting_of self is j waiting d in
      ∥∥₁_map (meant_in self job others newest running e means is (out self job others newest is j d.ground h) (out_is self job others newest is j d.ground h)) (λ m.
      goes_joined is j d.ground h m keep meters r joined le new left run_is count_is going))
      of parts spares
