-- A strand whose continuation was handed out continues.
use Rattle.std.proofs.Common.{◌≡◌, ℕ, zero, suc, ◌+◌, false, Some, List, [], ◌∷◌, ◌++◌, length, refl, sym, ap, ◌∙◌, subst, inr, arith}
use Rattle.std.specs.Prelude.{map, reverse, slice_get}
use Rattle.std.proofs.Math.Logic.{∥∥₁_map}
use Rattle.std.proofs.lemmas.Option.{same_Some}
use Rattle.cw_facts.specs.Lists.{reverse_pushed}
use Rattle.cw_code.specs.Code.{Code, code_view}
use Rattle.cw_code.specs.Fits.{slots_lent}
use Rattle.cw_code.specs.Run.{Whole, passed_by}
use Rattle.cw_meter.specs.Details.{IsSite}
use Rattle.cw_jobs.specs.Strands.{TracksAll, site_at}
use Rattle.cw_code.specs.Jobs as jobs
use Rattle.cw_code.specs.Jobs.{has_come}
use Rattle.cw_code.specs.Over.{beneath, under}
use Rattle.cw_code.specs.Strands.{Going, HandsOut, rest_of, spawn_job}
use Rattle.cw_code.specs.Steps.{CallsPreserveJob}
use Rattle.cw_runnable.specs.declared.verified.Verified.{Verified}
use Rattle.cw_jobs.specs.declared.call.Parts.{Parts}
use Rattle.cw_jobs.specs.Jobs.{origin_of}
use Rattle.cw_machine.specs.declared.hands.Lender.{Lender}
use Rattle.cw_machine.specs.declared.run.Spawn.{Spawn}
use Rattle.cw_machine.specs.declared.run.Stop.TheVariants as stop
use Rattle.cw_machine.specs.Arrays.{Out, IsFit}
use Rattle.cw_machine.specs.RepresentsState.{Comes}
use Rattle.cw_machine.specs.Unwinding.{OutsLieApart}
use Rattle.cw_machine.specs.Calls.{loans_of}
use Rattle.cw_machine.specs.Segments.{calls_in}
use Rattle.cw_machine.specs.Hands.{ComesRound, out_of}
use Rattle.cw_machine.specs.lemmas.Rounds.{calls_caller}
use Rattle.cw_strand.specs.declared.strand.Lent.{Lent}
use Rattle.cw_strand.specs.declared.strand.Mode.TheVariants as mode
use Rattle.cw_strand.specs.declared.strand.Strand.{Strand}
use Rattle.cw_strand.specs.Levels.{Level, levels_of, waiting_over}
use Rattle.cw_strand.specs.Holds.{IsRest, its_parts, its_code, outs, lent_parts, ok_with, IsLent, Lends, rest_in, AreOut, HeldIn, Holds, KeepsJob, AreSpare, IsRunning}
use Rattle.cw_strand.specs.Moves.{CameTo, HasCome, HasCut}
use Rattle.cw_strand.proofs.Levels.{HasSpawned}
use Rattle.cw_strand.proofs.WhichOut.{frames_are}
use Rattle.cw_strand.proofs.Course.{ran}
use Rattle.cw_jobs.specs.declared.job.Job.{Job}
use Rattle.cw_strand.proofs.Same.{spare_as}
use Rattle.cw_strand.proofs.Cutting.{over_slots, over_arrays, spawned, handed, rest_job, below}

-- the strand after the job was added to the jobs that are out
module _ (keep : (code : Code) → CallsPreserveJob code) (apart : OutsLieApart) (old mid : Strand) (limit : ℕ) (spawn : Spawn) (x : Lent)
    (cut : HasCut old mid spawn (lent_parts x) x.home.lender) (loaned : x.home.lent ≡ spawn.lent) (target : x.home.target ≡ spawn.target)
    (waits : x.home.floor ≡ length old.run.machine.frames.items) (after : List Lent) (are : after ≡ x ∷ reverse old.lent.items) where
  module _ (is : IsFit (its_code old)) (j : jobs.Job) (job : KeepsJob old) (c : CameTo old limit (stop.Spawned spawn) is j) where
    abbrev v : Verified
    v = its_code old

    abbrev p : Parts
    p = its_parts old

    abbrev s : HasSpawned c.state c.at.1.next spawn.target (map (λ a. Whole a) (passed_by (code_view v.code) spawn.passed))
    s = spawned keep old limit spawn is j c

    abbrev o : Out
    o = out_of (length (beneath c.ground.base c.state.around)) x.home.lender.first old.run.machine.first_array
        (length (waiting_over c.ground.base s.waiting c.state.around).arrays) (slots_lent (loans_of v spawn.lent)) (lent_parts x).rest.slices.items

    -- the number of the machine's frames is the number of calls that wait in the spawned call
    calls_here : length old.run.machine.frames.items ≡ suc (calls_in (beneath c.ground.base c.state.around))
    calls_here =
        frames_are v (ok_with c.ground c.outs) old.run.machine (under c.ground.base c.at.1.next) c.at.1.shows.shows
        ∙ ap (λ a. calls_in (beneath c.ground.base a)) s.around ∙ calls_caller c.ground.base s.waiting c.state.around

    abbrev level : Level
    level = record { waiting = s.waiting; around = c.state.around }

    out_is : IsLent v is p c.ground.base (record { waiting = s.waiting; around = c.state.around }) o x
    out_is =
        let h = handed keep old limit spawn is j c apart mid (lent_parts x) x.home.lender cut in
        let wide = over_slots c.ground.base s.waiting c.state.around in
        record {
          level = refl;
          first = refl;
          slots = sym h.slots_are;
          wide = ap length (over_arrays c.ground.base s.waiting c.state.around);
          lent = ap (λ l. slots_lent (loans_of v l)) (sym loaned);
          slices = refl;
          job = rest_job keep old limit spawn is j c apart mid (lent_parts x) x.home.lender cut;
          code = cut.code;
          joins = cut.joins;
          detail = cut.detail;
          site = subst (λ z. IsSite p.detail z (site_at (origin_of p) c.state.around)) (sym cut.site) c.at.1.site;
          target = target ∙ sym s.target_is;
          floor = waits ∙ calls_here;
          comes = (
            subst (λ l. Comes (lent_parts x).rest.cells.items 0 (length l) (waiting_over c.ground.base s.waiting c.state.around).results) wide h.comes.0,
            subst (λ l. ComesRound (lent_parts x).rest.cells.items 0 (length l) (beneath c.ground.base c.state.around)) wide h.comes.1,
          );
        }

    lent_lends : Lends v is p c.ground.base (level ∷ c.levels) (o ∷ c.outs) after
    lent_lends = subst (Lends v is p c.ground.base (level ∷ c.levels) (o ∷ c.outs)) (sym are) (out_is, below keep old limit spawn is j c apart mid (lent_parts x) x.home.lender cut, c.lends)

    abbrev job_out : jobs.Job
    job_out = spawn_job c.state spawn.target (map (λ a. Whole a) (passed_by (code_view v.code) spawn.passed)) j.limit (j.before + (c.later + 1))

    rest_is : job_out ≡ rest_in p level x
    rest_is =
        let b = c.ground.job.before in
        let e = c.at.0 in
        let q = cut.before in
        let n : j.before + (c.later + 1) ≡ (lent_parts x).before = omega (arith, b, e, q) in
        s.rest j.limit (j.before + (c.later + 1)) ∙ ap (λ l. rest_of s.waiting l (j.before + (c.later + 1))) c.ground.job.limit ∙ ap (λ k. rest_of s.waiting p.limit k) n

    lent_are : AreOut p (levels_of c.at.1.next.around) (job_out ∷ c.jobs_out) (level ∷ c.levels) after
    lent_are =
        subst (AreOut p (levels_of c.at.1.next.around) (job_out ∷ c.jobs_out) (level ∷ c.levels)) (sym are)
        (subst (λ l. AreOut p l (job_out ∷ c.jobs_out) (level ∷ c.levels) (x ∷ reverse old.lent.items)) (sym s.levels) (inr (refl, rest_is, c.are)))

    -- the strand as it continues, stated in terms of the strand before
    abbrev pub on_with : (lent : Strand) → Strand
    on_with lent = record old { run = mid.run; lent = lent.lent; spares = lent.spares }

    pub lent_holds : (lent : Strand) → reverse lent.lent.items ≡ after → old.mode ≡ mode.Going → Holds (on_with lent) is j
    lent_holds lent same going =
        let h = handed keep old limit spawn is j c apart mid (lent_parts x) x.home.lender cut in
        let w = job.within in
        let jl = c.ground.job.limit in
        let jb = c.ground.job.before in
        let e0 = c.at.0 in
        let next = c.at.1.next in
        let is_of = ran (code_view v.code) (keep (code_view v.code)) j c.state next c.later c.jobs_out
        (HandsOut spawn.target (map (λ a. Whole a) (passed_by (code_view v.code) spawn.passed))) c.at.1.turns
        (subst (λ y. has_come y (code_view v.code) c.state ≡ false) (sym c.ground.job.extent) c.at.1.before) c.at.1.steps (omega (arith, e0, w, jl, jb)) c.is_of in
        record {
          ground = c.ground;
          strand = Going next (c.later + 1) (job_out ∷ c.jobs_out);
          is_of = is_of;
          held = subst (λ m. HeldIn (on_with lent) is j c.ground m (Going next (c.later + 1) (job_out ∷ c.jobs_out))) (sym going) (record {
            levels = level ∷ c.levels;
            are = subst (AreOut p (levels_of next.around) (job_out ∷ c.jobs_out) (level ∷ c.levels)) (sym same) lent_are;
            runs = record {
              counts = sym e0;
              outs = o ∷ c.outs;
              lends = subst (Lends v is p c.ground.base (level ∷ c.levels) (o ∷ c.outs)) (sym same) lent_lends;
              shows = record {
                shows = h.shows;
                tells = subst (TracksAll (code_view v.code) p.detail (origin_of p) (Going next old.count [])) (sym cut.meter) c.at.1.shows.tells;
              };
              frozen = c.at.1.may.frozen;
            };
          });
        }

  shared : (HasCome old limit (stop.Spawned spawn)) → (l : List Lent) → l ≡ after → (k : ℕ) (y : Lent) → slice_get l k ≡ Some y → IsRest (its_code old) y
  shared h l same k y e = at k (subst (λ z. slice_get z k ≡ Some y) (same ∙ are) e)
    where
      at : (k : ℕ) → slice_get (x ∷ reverse old.lent.items) k ≡ Some y → IsRest (its_code old) y
      at zero q = subst (IsRest (its_code old)) (same_Some x y q) (record { code = cut.code; joins = cut.joins })
      at (suc k) q = h.rests k y q

  -- the new strand is a strand of its job
  module _ (lent : Strand) (same : reverse lent.lent.items ≡ after) (bare : AreSpare
      (record old { run = mid.run; lent = lent.lent; spares = lent.spares })) (h : HasCome old limit (stop.Spawned spawn)) where
    pub goes_on : IsRunning (record old { run = mid.run; lent = lent.lent; spares = lent.spares })
    goes_on = record {
      keeps = record {
        code = h.keeps.code;
        extent = h.keeps.extent;
        site = h.keeps.site;
        detail = h.keeps.detail;
        limit = h.keeps.limit;
        before = h.keeps.before;
        rest = h.keeps.rest;
        within = h.keeps.within;
        range = h.keeps.range;
      };
      spares = bare;
      rests = shared h (reverse lent.lent.items) same;
      holds = λ is j job. ∥∥₁_map (h.comes is j job) (λ c. lent_holds is j h.keeps c lent same h.going);
    }

    -- a strand with these parts is a strand of its job
    pub goes_as : (new : Strand) → new.of ≡ old.of → new.parts ≡ old.parts → new.run ≡ mid.run → new.count ≡ old.count → new.lent ≡ lent.lent
        → new.spares ≡ lent.spares → new.mode ≡ old.mode → IsRunning new
    goes_as new a b r n l p m = subst IsRunning (
        ap (λ z. record old { of = z; run = mid.run; lent = lent.lent; spares = lent.spares }) (sym a)
        ∙ ap (λ z. record old { of = new.of; parts = z; run = mid.run; lent = lent.lent; spares = lent.spares }) (sym b)
        ∙ ap (λ z. record old { of = new.of; parts = new.parts; run = z; lent = lent.lent; spares = lent.spares }) (sym r)
        ∙ ap (λ z. record old { of = new.of; parts = new.parts; run = new.run; count = z; lent = lent.lent; spares = lent.spares }) (sym n)
        ∙ ap (λ z. record old { of = new.of; parts = new.parts; run = new.run; count = new.count; lent = z; spares = lent.spares }) (sym l)
        ∙ ap (λ z. record old { of = new.of; parts = new.parts; run = new.run; count = new.count; lent = new.lent; spares = z }) (sym p)
        ∙ ap (λ z. record old { of = new.of; parts = new.parts; run = new.run; count = new.count; lent = new.lent; spares = new.spares; mode = z }) (sym m)) goes_on

-- the step of the strand out of which the job was handed
pub lent_step : ((code : Code) → CallsPreserveJob code) → OutsLieApart → (old mid new : Strand) (limit : ℕ) (spawn : Spawn) (job : Job) (l : Lender)
    (x : Lent) → HasCome old limit (stop.Spawned spawn) → HasCut old mid spawn job.parts.value l
    → x.job.value ≡ job → x.home.lender ≡ l → x.home.lent ≡ spawn.lent → x.home.target ≡ spawn.target
    → x.home.floor ≡ length mid.run.machine.frames.items → new.of ≡ mid.of → new.parts ≡ mid.parts → new.run ≡ mid.run → new.count ≡ mid.count
    → new.spares ≡ mid.spares → new.mode ≡ mid.mode → new.lent.items ≡ mid.lent.items ++ x ∷ []
    → IsRunning new × (outs new ≡ job ∷ outs old)
lent_step keep apart old mid new limit spawn job l x h cut same at loaned target waits of parts run count spares mode lent =
    let cut' : HasCut old mid spawn (lent_parts x) x.home.lender = subst (λ (b : Job). HasCut old mid spawn b.parts.value x.home.lender) (sym same)
    (subst (λ k. HasCut old mid spawn job.parts.value k) (sym at) cut) in
    let are : reverse new.lent.items ≡ x ∷ reverse old.lent.items = ap reverse lent ∙ reverse_pushed mid.lent.items x ∙ ap (λ l. x ∷ reverse l) cut.lent in
    let bare : AreSpare (record old { run = mid.run; lent = new.lent; spares = new.spares }) =
    spare_as mid (record old { run = mid.run; lent = new.lent; spares = new.spares }) spares (sym cut.of) cut.spares in (
      goes_as keep apart old mid limit spawn x cut' loaned target (waits ∙ ap length cut.stays.frames)
          (x ∷ reverse old.lent.items) refl new are bare h new (of ∙ cut.of) (parts ∙ cut.parts) run (count ∙ cut.count) refl refl (mode ∙ cut.mode),
      ap (map (λ l. l.job.value)) are ∙ ap (λ z. z ∷ outs old) same,
    )
