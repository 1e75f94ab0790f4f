-- A strand begins its job.
use Rattle.std.proofs.Common.{◌≡◌, ℕ, ◌≤◌, [], length, refl, sym, ap, ◌∙◌, subst, arith}
use Rattle.std.specs.Prelude.{map, reverse, Some, slice_get}
use Rattle.std.specs.Coded.{le_prop}
use Rattle.std.proofs.Math.Logic.{∥∥₁_elim}
use Rattle.cw_meter.specs.declared.detail.Detail.{Detail}
use Rattle.cw_meter.specs.declared.detail.Detail.TheVariants.{Values, Strands, Measures}
use Rattle.cw_meter.specs.Details.{IsLight}
use Rattle.cw_code.specs.Code.{Code, code_view}
use Rattle.cw_code.specs.Jobs as jobs
use Rattle.cw_code.specs.Jobs.{job_start}
use Rattle.cw_code.specs.Over.{under}
use Rattle.cw_code.specs.Strands.{Going}
use Rattle.cw_code.specs.Steps.{CallsPreserveJob}
use Rattle.cw_jobs.specs.Strands.{CallsPreserveMeters, StartsFrom, TracksAll}
use Rattle.cw_runnable.specs.declared.verified.Verified.{Verified}
use Rattle.cw_jobs.specs.declared.call.Extent.{Extent}
use Rattle.cw_jobs.specs.declared.call.Extent.TheVariants as extent
use Rattle.cw_jobs.specs.declared.call.Parts.{Parts}
use Rattle.cw_jobs.specs.declared.job.Job.{Job}
use Rattle.cw_jobs.specs.Jobs.{extent_of, origin_of, code_of, IsOutermost, IsJob, IsSound}
use Rattle.cw_machine.specs.declared.machine.Machine.{Machine}
use Rattle.cw_machine.specs.Arrays.{IsFit}
use Rattle.cw_machine.specs.RepresentsState.{RepresentsState, SharesFrozen}
use Rattle.cw_machine.specs.JobRuns.{ok_of, HoldsOf, OnlyReads, IsEmptied}
use Rattle.cw_machine.specs.Segments.{nothing, IsBaseState}
use Rattle.cw_strand.specs.declared.strand.Mode.TheVariants as mode
use Rattle.cw_strand.specs.declared.strand.Strand.{Strand}
use Rattle.cw_strand.specs.Holds.{its_job, its_parts, its_code, Ground, ok_with, Lends, HeldIn, Holds, IsRunning}
use Rattle.cw_strand.specs.Moves.{Begins, BeginsRun}
use Rattle.cw_strand.proofs.RunsOn.{whole_before}
use Rattle.cw_strand.proofs.Flat.{under_flat}

nothing_flat : IsOutermost nothing
nothing_flat = record { around = refl; results = refl; arrived = refl }

-- the ground of a job, and its machine, which represents the job's first state there
pub record Grounded (v : Verified) (is : IsFit v) (p : Parts) (j : jobs.Job) (m : Machine) : Type 0 where
  pub ground : Ground v is p j
  pub shows : RepresentsState v (ok_with ground []) m (under ground.base (job_start j))
  pub frozen : SharesFrozen v (ok_with ground []) (under ground.base (job_start j))

light_prop : (d : Detail) → IsProp (IsLight d)
light_prop Values = hlevel le_prop
light_prop Strands = hlevel le_prop
light_prop (Measures burden) = le_prop

pub grounded : (v : Verified) (is : IsFit v) (p : Parts) (j : jobs.Job) (m : Machine) → IsJob v is p j → IsLight p.detail
    → (h : HoldsOf v is j p.rest m (job_start j)) → OnlyReads v is j p.rest m (job_start j) h → Grounded v is p j m
grounded v is p j m job light h reads = at p.extent refl
  where
    at : (x : Extent) → p.extent ≡ x → Grounded v is p j m
    at extent.ToJoin e = record {
      ground = record {
        job = job;
        light = light;
        base = h.base;
        round = subst (λ y. IsBaseState (extent_of y) h.base) (sym e) (h.is_base.begins, h.is_base.blocks);
        params = h.is_base.good.seat.func.array_params;
        joins = λ e'. (h.is_base, refl);
      };
      shows = h.shows;
      frozen = reads;
    }
    at extent.WholeCall e =
        let out : IsOutermost h.base = h.is_base.outermost (job.extent ∙ ap extent_of e) in
        record {
          ground = record {
            job = job;
            light = light;
            base = nothing;
            round = (let P : Extent → Type 0 = λ y. IsBaseState (extent_of y) nothing in subst P (sym e) refl);
            params = h.is_base.good.seat.func.array_params;
            joins = λ e'. absurd (differ (sym e ∙ e'));
          };
          shows =
              subst (λ s. RepresentsState v (ok_of v is h.is_base.good.seat.func.array_params (length j.arrays) p.rest.slices.items 0) m s)
              (under_flat h.base out h.is_base.begins (job_start j) ∙ sym (under_flat nothing nothing_flat refl (job_start j)))
              (subst (λ l. RepresentsState v (ok_of v is h.is_base.good.seat.func.array_params (length j.arrays) p.rest.slices.items (length l)) m (under h.base (job_start j))) out.around h.shows);
          -- a whole call has no share
          frozen = λ a lt some. absurd (let own = job.unshared (job.extent ∙ ap extent_of e) a in omega (arith, own, some));
        }
      where
        differ : extent.WholeCall ≡ extent.ToJoin → ⊥
        differ k = cc

module _ (self : Strand) (keep : (code : Code) → CallsPreserveJob code) (meters : CallsPreserveMeters) (is : IsFit (its_code self)) (j : jobs.Job) (job : IsJob (its_code self) is (its_parts self) j) where
  abbrev v : Verified
  v = its_code self

  abbrev p : Parts
  p = its_parts self

  pub starts : IsLight p.detail → p.before ≤ p.limit → (h : HoldsOf v is j p.rest self.run.machine (job_start j))
      → OnlyReads v is j p.rest self.run.machine (job_start j) h → StartsFrom (origin_of p) p.detail self.run.meter
      → self.lent.items ≡ [] → self.count ≡ 0 → self.mode ≡ mode.Going → Holds self is j
  starts light low h reads meter none zero going =
      let g = grounded v is p j self.run.machine job light h reads in
      record {
        ground = g.ground;
        strand = Going (job_start j) 0 [];
        is_of = (keep (code_view v.code)).starting j (let l = job.limit in let b = job.before in omega (arith, low, l, b));
        held = subst (λ m. HeldIn self is j g.ground m (Going (job_start j) 0 [])) (sym going) (record {
          levels = [];
          are = (refl, refl, ap reverse none);
          runs = record {
            counts = sym zero;
            outs = [];
            lends = subst (λ l. Lends v is p g.ground.base [] [] l) (sym (ap reverse none)) tt;
            shows = record {
              shows = g.shows;
              tells = subst (λ n. TracksAll (code_view v.code) p.detail (origin_of p) (Going (job_start j) n []) self.run.meter) (sym zero)
                  ((meters (code_view v.code) p.detail).starting (origin_of p) j self.run.meter meter);
            };
            frozen = g.frozen;
          };
        });
      }

-- a strand that holds nothing else
pub begins : ((code : Code) → CallsPreserveJob code) → CallsPreserveMeters → (job : Job) (p' : Parts) (self : Strand) → self.of.value ≡ job
    → self.parts.value ≡ p' → self.lent.items ≡ [] → self.spares.items ≡ [] → self.count ≡ 0 → self.mode ≡ mode.Going
    → BeginsRun job.parts.value p' self.run → Begins job self
begins keep meters job p' self of parts none bare zero going b = record {
  of = of;
  outs = ap (λ l. map (λ h. h.job.value) (reverse l)) none;
  goes = going;
  running = running;
  count = zero;
  whole = λ e. whole_before self running going (ap (λ (x : Job). x.parts.value.extent) of ∙ e);
}
  where
    sound : ∥ IsSound (its_parts self) ∥₁
    sound = (its_job self).sound

    begun : BeginsRun (its_parts self) p' self.run
    begun = subst (λ (x : Job). BeginsRun x.parts.value p' self.run) (sym of) b

    none_there : {A : Type 0} (k : ℕ) (q : A) → slice_get {X = A} [] k ≡ Some q → ⊥
    none_there k q e = cc

    running : IsRunning self
    running = record {
      keeps = record {
        code = ap (λ q. code_of q) parts ∙ begun.code;
        extent = ap (λ (q : Parts). q.extent) parts ∙ begun.extent;
        site = ap (λ (q : Parts). q.site) parts ∙ begun.site;
        detail = ap (λ (q : Parts). q.detail) parts ∙ begun.detail;
        limit = ap (λ (q : Parts). q.limit) parts ∙ begun.limit;
        before = ap (λ (q : Parts). q.before) parts ∙ begun.before;
        rest = subst (λ (q : Parts). IsEmptied (its_parts self).rest q.rest) (sym parts) begun.rest;
        within = (let low = ∥∥₁_elim sound le_prop (λ s. s.within) in omega (arith, low, zero));
        range = ∥∥₁_elim sound le_prop (λ s. s.range);
      };
      spares = λ k q e. absurd (none_there k q (subst (λ l. slice_get l k ≡ Some q) bare e));
      rests = λ k q e. absurd (none_there k q (subst (λ l. slice_get (reverse l) k ≡ Some q) none e));
      holds = λ is j isj.
          let light : IsLight (its_parts self).detail = ∥∥₁_elim sound (light_prop (its_parts self).detail) (λ s. s.light) in
          let low : (its_parts self).before ≤ (its_parts self).limit = ∥∥₁_elim sound le_prop (λ s. s.within) in
          let b = begun.machine is (its_parts self) j refl isj in
          ∣ starts self keep meters is j isj light low b.0 b.1 begun.meter none zero going ∣₁;
    }
