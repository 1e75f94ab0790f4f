-- A strand at the end of its job: its call has ended, or it is at the join.
use Rattle.std.proofs.Common.{◌≡◌, ℕ, ◌+◌, ℤ, true, false, Option, Some, List, [], ◌∷◌, length, refl, sym, ap, ◌∙◌, subst, arith}
use Rattle.std.specs.Prelude.{map, reverse, slice_get}
use Rattle.std.proofs.Math.Logic.{∥∥₁_elim, ∥∥₁_map}
use mathlib.Core.HLevel.{⊥_prop}
use Rattle.cw_model.specs.Outcome.{Trace}
use Rattle.cw_code.specs.declared.code.Func.{Func}
use Rattle.cw_code.specs.Code.{Code, code_view}
use Rattle.cw_code.specs.Run.{Around, State}
use Rattle.cw_code.specs.Fits.{Fits}
use Rattle.cw_code.specs.Staying.{SeatsLie, IsInside}
use Rattle.cw_code.specs.lemmas.Lying.{outermost_is}
use Rattle.cw_meter.specs.Meters.{Meters, TracksAsBefore}
use Rattle.cw_meter.specs.Origins.{Main, Rest}
use Rattle.cw_jobs.specs.Opens.{whole}
use Rattle.cw_jobs.specs.Strands.{CallsPreserveMeters, TracksAll}
use Rattle.cw_code.specs.Jobs as jobs
use Rattle.cw_code.specs.Jobs.{ToJoin, has_come, standing, JobMeaning}
use Rattle.cw_code.specs.Over.{under}
use Rattle.cw_code.specs.Strands.{Going}
use Rattle.cw_code.specs.Promises.{IsStrandOf}
use Rattle.cw_code.specs.RestsStay.{RestsStayInside}
use Rattle.cw_code.specs.Steps.{CallsPreserveJob}
use Rattle.cw_runnable.specs.declared.verified.Verified.{Verified}
use Rattle.cw_jobs.specs.declared.call.Extent.{Extent}
use Rattle.cw_jobs.specs.declared.call.Extent.TheVariants as extent
use Rattle.cw_jobs.specs.declared.call.Parts.{Parts}
use Rattle.cw_jobs.specs.declared.effect.Effect.{Effect}
use Rattle.cw_jobs.specs.declared.effect.Effect.TheVariants as effect
use Rattle.cw_jobs.specs.declared.effect.PieceOutput.{PieceOutput}
use Rattle.cw_jobs.specs.Totals.{HoldsTotals}
use Rattle.cw_jobs.specs.Jobs.{extent_of, begins_at}
use Rattle.cw_jobs.specs.Means.{HasOutput, MeansIt, IsMeaningOf}
use Rattle.cw_machine.specs.declared.run.Run.{Run}
use Rattle.cw_machine.specs.declared.run.Stop.TheVariants as stop
use Rattle.cw_machine.specs.Arrays.{IsFit}
use Rattle.cw_machine.specs.RepresentsState.{RepresentsState}
use Rattle.cw_machine.specs.JobRuns.{ok_of, job_ok, IsBase, HasCome as HasComeTo, CanEnd, EndsJob}
use Rattle.cw_strand.specs.declared.strand.Lent.{Lent}
use Rattle.cw_strand.specs.declared.strand.Strand.{Strand}
use Rattle.cw_strand.specs.Levels.{Level, levels_of}
use Rattle.cw_strand.specs.Holds.{its_job, its_parts, its_code, outs, ok_with, Lends, AreOut}
use Rattle.cw_strand.specs.Moves.{CameTo, HasCome, IsOutput}
use Rattle.cw_strand.proofs.Levels.{ends_alone}
use Rattle.cw_strand.proofs.Course.{ended, arrived, come_alone, come_joins}
use Rattle.cw_strand.proofs.Ends.{is_nil, no_lent}
use Rattle.cw_strand.proofs.RunsOn.{sound_of}

output_as : (code : Code) (r : Run) (cost count : ℕ) (x : PieceOutput) (t : Trace) → IsOutput r cost x → cost ≡ count → r.machine.lines.items ≡ t.lines
    → HoldsTotals code r.machine.totals.items t.updates → HasOutput code x t count
output_as code r cost count x t is e lines totals = record {
  cost = is.counted ∙ e;
  lines = ap (λ l. l.items) is.lines ∙ lines;
  totals = subst (λ l. HoldsTotals code l t.updates) (sym (ap (λ l. l.items) is.totals)) totals;
}

-- a strand whose state has no enclosing blocks and calls has nothing out
module _ (self : Strand) (p : Parts) (around : List Around) (jobs_out : List jobs.Job) (levels : List Level)
    (are : AreOut p (levels_of around) jobs_out levels (reverse self.lent.items)) (alone : around ≡ []) where
  pub bare : AreOut p [] jobs_out levels (reverse self.lent.items)
  bare = subst (λ a. AreOut p (levels_of a) jobs_out levels (reverse self.lent.items)) alone are

  pub none_lent : (h : Lent) (more : List Lent) → reverse self.lent.items ≡ h ∷ more → ⊥
  none_lent h more e = never (sym bare.2 ∙ e)
    where
      never : [] ≡ h ∷ more → ⊥
      never q = cc

module _ (keep : (code : Code) → CallsPreserveJob code) (self : Strand) (limit : ℕ) where
  abbrev v : Verified
  v = its_code self

  abbrev code : Code
  code = code_view v.code

  abbrev p : Parts
  p = its_parts self

  abbrev lent : List Lent
  lent = reverse self.lent.items

  -- THE CALL HAS ENDED
  module _ (x : Option ℤ) (h : HasCome self limit (stop.Gave x)) where
    pub gave_none : outs self ≡ []
    gave_none = ap (map (λ l. l.job.value)) (is_nil lent (λ l more e. ∥∥₁_elim (sound_of self) ⊥_prop (λ s. ∥∥₁_elim (h.comes s.ok s.job s.is) ⊥_prop (λ c.
        let at = c.at.1 in
        none_lent self p c.state.around c.jobs_out c.levels c.are (ends_alone code c.state x at.arrays at.trace at.steps) l more e))))

    abbrev pub TellsEnd : Effect → Type 0
    TellsEnd (effect.Ended value shown) = (value ≡ x) × IsOutput self.run self.count shown
    TellsEnd _ = ⊥

    end_it : (e : Effect) → TellsEnd e → (is : IsFit (its_code self)) (j : jobs.Job) → CameTo self limit (stop.Gave x) is j → MeansIt (its_code self) is (its_parts self) e j
    end_it (effect.Joined frame replaced shown) t is j c = absurd t
    end_it (effect.Trapped a l lines cost back) t is j c = absurd t
    end_it (effect.OverLimit back) t is j c = absurd t
    end_it (effect.Memory back) t is j c = absurd t
    end_it (effect.GivenUp back) t is j c = absurd t
    end_it (effect.Ended value shown) t is j c =
        let at = c.at.1 in
        let alone = ends_alone code c.state x at.arrays at.trace at.steps in
        let w = h.keeps.within in
        let jl = c.ground.job.limit in
        let jb = c.ground.job.before in
        let e0 = c.at.0 in
        let is_of : IsStrandOf code j (Going c.state c.later []) = subst (λ l. IsStrandOf code j (Going c.state c.later l)) (bare self p c.state.around c.jobs_out c.levels c.are alone).0 c.is_of in
        record {
          effect = jobs.Ended x at.arrays at.trace (c.later + 1);
          means = ended code (keep code) j c.state c.later x at.arrays at.trace
              (subst (λ y. has_come y code c.state ≡ false) (sym c.ground.job.extent) at.before) at.steps (omega (arith, e0, w, jl, jb)) is_of;
          tells = (c.ground.job.extent ∙ at.is_whole, t.0, output_as code self.run self.count (c.later + 1) shown at.trace t.1 c.at.0 at.lines at.totals);
          counts = λ g b.
              subst (λ m. Meters g.detail g.tags Main (c.later + 1) [] (whole at.trace) m) (sym t.1.meter)
              (subst (λ n. Meters g.detail g.tags Main n [] (whole at.trace) self.run.meter) c.at.0 (at.tells g b));
          homes = tt;
        }

    pub end_means : (e : Effect) → TellsEnd e → IsMeaningOf (its_job self) e
    unfolding IsMeaningOf
    end_means e t = λ is j job. ∥∥₁_map (h.comes is j job) (λ c. end_it e t is j c)

  -- THE STRAND IS AT THE JOIN
  same_func : (k l : ℕ) (f g : Func) → slice_get code.funcs k ≡ Some f → slice_get code.funcs l ≡ Some g → k ≡ l → f ≡ g
  same_func k l f g e e' same = let q : Some f ≡ Some g = sym e ∙ ap (slice_get code.funcs) same ∙ e' in cc

  joins_of : (x : Extent) → extent_of x ≡ ToJoin → x ≡ extent.ToJoin
  joins_of extent.ToJoin e = refl
  joins_of extent.WholeCall e = cc

  module _ (stay : RestsStayInside) (seats : (code : Code) (fits : Fits code) → SeatsLie code fits) (is : IsFit (its_code self)) (j : jobs.Job) (c : CameTo self limit stop.Joined is j) where
    abbrev s : State
    s = c.state

    come : has_come (extent_of p.extent) code s ≡ true
    come = c.at.1.come

    pub joins : p.extent ≡ extent.ToJoin
    joins = joins_of p.extent (come_joins code (extent_of p.extent) s come)

    j_joins : j.extent ≡ ToJoin
    j_joins = c.ground.job.extent ∙ ap extent_of joins

    pub alone : s.around ≡ []
    alone = come_alone code (extent_of p.extent) s come

    is_of : IsStrandOf code j (Going s c.later [])
    is_of = subst (λ l. IsStrandOf code j (Going s c.later l)) (bare self p s.around c.jobs_out c.levels c.are alone).0 c.is_of

    j_come : has_come j.extent code s ≡ true
    j_come = subst (λ y. has_come y code s ≡ true) (sym c.ground.job.extent) come

    pub meaning : JobMeaning code j (jobs.Joined (standing s) s.trace c.later)
    meaning = arrived code (keep code) j s c.later j_come is_of

    abbrev base : IsBase v is j p.rest c.ground.base
    base = (c.ground.joins joins).0

    out_nil : c.outs ≡ []
    out_nil = no_lent v is p c.ground.base c.levels c.outs (subst (Lends v is p c.ground.base c.levels c.outs) (bare self p s.around c.jobs_out c.levels c.are alone).2 c.lends)

    shows_job : RepresentsState v (job_ok v is j p.rest c.ground.base base) self.run.machine (under c.ground.base s)
    shows_job =
        subst (λ n. RepresentsState v (ok_of v is n (length j.arrays) p.rest.slices.items (length c.ground.base.around)) self.run.machine (under c.ground.base s)) (c.ground.joins joins).1
        (subst (λ o. RepresentsState v (ok_with c.ground o) self.run.machine (under c.ground.base s)) out_nil c.at.1.shows.shows)

    -- the function of the strand's call is the function of the job
    one_func : shows_job.good.seat.func ≡ base.good.seat.func
    one_func =
        let g0 = base.good in
        let g1 = shows_job.good in
        let lies = seats code is.fits in
        let start = subst (IsInside g0.seat.func) (sym (outermost_is j.place c.ground.base.around base.blocks)) (lies.inside j.place g0.seat) in
        let at = subst (IsInside g0.seat.func) (outermost_is s.place c.ground.base.around base.blocks)
        (stay code is.fits j c.ground.base g0.seat.index g0.seat.func (standing s) s.trace c.later j_joins g0 g0.seat.is_func start meaning) in
        let same = lies.one s.place g0.seat.index g0.seat.func g1.seat g0.seat.is_func at in
        same_func g1.seat.index g0.seat.index g1.seat.func g0.seat.func g1.seat.is_func g0.seat.is_func same

    same_arrays : length s.arrays ≡ length j.arrays
    same_arrays = sym shows_job.good.call.arrays.as_wide ∙ ap (λ (x : Func). x.arrays) one_func ∙ base.good.call.arrays.as_wide

    same_readers : length s.readers ≡ length j.readers
    same_readers = sym shows_job.good.call.readers ∙ ap (λ (x : Func). x.readers) one_func ∙ base.good.call.readers

    pub has_come_to : HasComeTo v is j p.rest self.run.machine s
    has_come_to = record {
      holds = record { base = c.ground.base; is_base = base; shows = shows_job };
      none = alone;
      arrays = same_arrays;
      readers = same_readers;
    }

  module _ (stay : RestsStayInside) (seats : (code : Code) (fits : Fits code) → SeatsLie code fits) (h : HasCome self limit stop.Joined) where
    pub can_end : (n : ℕ) → length self.parts.value.rest.slices.items ≡ n → ∥ CanEnd self.run.machine n ∥₁
    can_end n e = ∥∥₁_elim (sound_of self) (hlevel) (λ s. ∥∥₁_map (h.comes s.ok s.job s.is) (λ c. record {
      code = v;
      is = s.ok;
      job = s.job;
      rest = p.rest;
      state = c.state;
      come = has_come_to stay seats s.ok s.job c;
      as_many = sym h.keeps.rest.as_many ∙ e;
    }))

    pub join_none : outs self ≡ []
    join_none = ap (map (λ l. l.job.value)) (is_nil lent (λ l more e. ∥∥₁_elim (sound_of self) ⊥_prop (λ s. ∥∥₁_elim (h.comes s.ok s.job s.is) ⊥_prop (λ c.
        none_lent self p c.state.around c.jobs_out c.levels c.are (alone stay seats s.ok s.job c) l more e))))

    module _ (meters : CallsPreserveMeters) where
      -- an effect holds the frame and the arrays with which the machine ended
      abbrev pub TellsJoin : Run → Effect → Type 0
      TellsJoin r (effect.Joined frame replaced shown) =
          EndsJob v self.run.machine (length (its_parts self).rest.slices.items) frame replaced.items × IsOutput r self.count shown
      TellsJoin r _ = ⊥

      join_it : (r : Run) → TracksAsBefore self.run.meter r.meter → r.machine.lines.items ≡ self.run.machine.lines.items
          → r.machine.totals.items ≡ self.run.machine.totals.items → (e : Effect) → TellsJoin r e → (is : IsFit (its_code self)) (j : jobs.Job)
          → CameTo self limit stop.Joined is j → MeansIt (its_code self) is (its_parts self) e j
      join_it r m l u (effect.Ended value shown) t is j c = absurd t
      join_it r m l u (effect.Trapped a n lines cost back) t is j c = absurd t
      join_it r m l u (effect.OverLimit back) t is j c = absurd t
      join_it r m l u (effect.Memory back) t is j c = absurd t
      join_it r m l u (effect.GivenUp back) t is j c = absurd t
      join_it r m l u (effect.Joined frame replaced shown) t is j c =
          let at = c.at.1 in
          let ends = t.0 is j p.rest c.state (has_come_to stay seats is j c) refl in
          let e0 = c.at.0 in
          let tells0 : TracksAll code p.detail (Rest p.site) (Going c.state c.later []) self.run.meter =
          subst (λ n. TracksAll code p.detail (Rest p.site) (Going c.state n []) self.run.meter) e0
          (subst (λ y. TracksAll code p.detail (begins_at y p.site) (Going c.state self.count []) self.run.meter) (joins stay seats is j c) at.shows.tells) in
          let measured = (meters code p.detail).arriving j p.site c.state c.later self.run.meter (is_of stay seats is j c) (j_come stay seats is j c) tells0 in
          record {
            effect = jobs.Joined (standing c.state) c.state.trace c.later;
            means = meaning stay seats is j c;
            tells = (
              ends.holds,
              ends.empty,
              output_as code r self.count c.later shown c.state.trace t.1 c.at.0 (l ∙ at.lines)
                  (subst (λ z. HoldsTotals code z c.state.trace.updates) (sym u) at.totals),
            );
            counts = λ g b.
                subst (λ z. Meters g.detail g.tags (Rest p.site) c.later [] c.state.trace.events z) (sym t.1.meter)
                (m g.detail g.tags (Rest p.site) c.later [] c.state.trace.events (measured.counts g b));
            homes = (ends.homes, ends.fixed);
          }

      pub join_means : (r : Run) → TracksAsBefore self.run.meter r.meter → r.machine.lines.items ≡ self.run.machine.lines.items
          → r.machine.totals.items ≡ self.run.machine.totals.items → (e : Effect) → TellsJoin r e → IsMeaningOf (its_job self) e
      unfolding IsMeaningOf
      join_means r m l u e t = λ is j job. ∥∥₁_map (h.comes is j job) (λ c. join_it r m l u e t is j c)
