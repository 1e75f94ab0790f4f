-- The newest job out returned without being executed to a strand that waits for it, and the strand executes it.
use Rattle.std.proofs.Common.{◌≡◌, suc, Some, List, [], ◌∷◌, length, refl, sym, ap, ◌∙◌, subst}
use Rattle.std.specs.Prelude.{reverse, slice_get}
use Rattle.std.proofs.Math.Logic.{∥∥₁_elim, ∥∥₁_map}
use Rattle.cw_code.specs.Code.{Code, code_view}
use Rattle.cw_code.specs.Fits.{slots_lent}
use Rattle.cw_code.specs.Run.{State}
use Rattle.cw_code.specs.Jobs as jobs
use Rattle.cw_code.specs.Over.{beneath, under}
use Rattle.cw_code.specs.Strands.{Going, Waits}
use Rattle.cw_code.specs.Promises.{IsStrandOf}
use Rattle.cw_code.specs.Steps.{CallsPreserveJob}
use Rattle.cw_runnable.specs.declared.verified.Verified.{Verified}
use Rattle.cw_jobs.specs.declared.call.Parts.{Parts}
use Rattle.cw_jobs.specs.declared.job.Job.{Job}
use Rattle.cw_jobs.specs.Jobs.{code_of}
use Rattle.cw_machine.specs.declared.machine.Machine.{Machine}
use Rattle.cw_machine.specs.Calls.{loans_of}
use Rattle.cw_machine.specs.Arrays.{Out, IsFit, AllAbove}
use Rattle.cw_machine.specs.RepresentsState.{RepresentsState}
use Rattle.cw_machine.specs.Rests.{IsLending, MayTake, TakesBack}
use Rattle.cw_machine.specs.Unwinding.{LieBelow}
use Rattle.cw_strand.specs.declared.strand.Lent.{Lent}
use Rattle.cw_strand.specs.declared.strand.Mode.TheVariants as mode
use Rattle.cw_strand.specs.declared.strand.Strand.{Strand}
use Rattle.cw_strand.specs.Levels.{Level, levels_of}
use Rattle.cw_strand.specs.Holds.{its_parts, its_code, Ground, ok_with, IsLent, Lends, rest_in, AreOut, AreBack, Holds, AreSpare, IsRunning, IsWaiting}
use Rattle.cw_strand.specs.Moves.{HasSpared}
use Rattle.cw_strand.proofs.WhichOut.{outs_above, Back, back_of}
use Rattle.cw_strand.proofs.RunsOn.{sound_of, IsHeldBack, waiting_of}
use Rattle.cw_strand.proofs.Same.{same_strand, Newest}

-- the newest job out
pub record Split (v : Verified) (is : IsFit v) (p : Parts) (base : State) (l : Level) (levels : List Level) (outs : List Out) (x : Lent) (lent : List Lent) : Type 0 where
  pub out : Out
  pub others : List Out
  pub are : outs ≡ out ∷ others
  pub is_lent : IsLent v is p base l out x
  pub below : LieBelow others out.first
  pub rest : Lends v is p base levels others lent

pub split_of : (v : Verified) (is : IsFit v) (p : Parts) (base : State) (l : Level) (levels : List Level) (outs : List Out) (x : Lent)
    (lent : List Lent) → Lends v is p base (l ∷ levels) outs (x ∷ lent) → Split v is p base l levels outs x lent
split_of v is p base l levels [] x lent h = absurd h
split_of v is p base l levels (o ∷ outs) x lent h = record { out = o; others = outs; are = refl; is_lent = h.0; below = h.1; rest = h.2 }

module _ (self : Strand) (job : Job) (others : List Job) (newest : Newest self job others) where
  abbrev v : Verified
  v = its_code self

  abbrev p : Parts
  p = its_parts self

  module _ (is : IsFit (its_code self)) (j : jobs.Job) (g : Ground (its_code self) is (its_parts self) j) (h : IsHeldBack self is j g) where
    abbrev s : State
    s = h.state

    abbrev l : Level
    l = h.waited.level

    abbrev pub others_out : List Level
    others_out = h.waited.others

    pub split : Split v is p g.base l others_out h.waited.runs.outs newest.lent newest.rest
    split = split_of v is p g.base l others_out h.waited.runs.outs newest.lent newest.rest (subst (Lends v is p g.base (l ∷ others_out) h.waited.runs.outs) newest.are h.waited.runs.lends)

    pub rest_out : Back p l (levels_of s.around) h.out others_out newest.lent newest.rest
    rest_out = back_of p l (levels_of s.around) h.out others_out newest.lent newest.rest (subst (AreBack p l (levels_of s.around) h.out (l ∷ others_out)) newest.are h.waited.are)

    above : AllAbove split.others (length (under g.base s).around)
    above = outs_above v is p g.base s.around rest_out.rests others_out split.others newest.rest rest_out.are split.rest

    pub lends_it : IsLending v (ok_with g split.others) split.out self.run.machine (under g.base s) newest.lent.home.lender.slots
        (slots_lent (loans_of v newest.lent.home.lent)) job.parts.value.rest.slices.items
    lends_it = record {
      shows = subst (λ o. RepresentsState v (ok_with g o) self.run.machine (under g.base s)) split.are h.waited.runs.shows.shows;
      above = above;
      level = split.is_lent.level ∙ ap (λ a. length (beneath g.base a)) (sym h.waited.back.around);
      slots_are = split.is_lent.slots;
      lent_are = split.is_lent.lent;
      are = split.is_lent.slices ∙ ap (λ (b : Job). b.parts.value.rest.slices.items) newest.job_is;
    }

    pub may : MayTake self.run.machine newest.lent.home.lender.slots (slots_lent (loans_of (its_code self) newest.lent.home.lent)) job.parts.value.rest.slices.items
    may = record { code = v; ok = ok_with g split.others; out = split.out; state = under g.base s; lends = lends_it }

    module _ (keep : (code : Code) → CallsPreserveJob code) (m : Machine) (takes : TakesBack self.run.machine newest.lent.home.lender.slots
        (slots_lent (loans_of (its_code self) newest.lent.home.lent)) job.parts.value.rest.slices.items m) (new : Strand)
        (left : reverse new.lent.items ≡ newest.rest) where
      abbrev goes_with : Strand
      goes_with = record self { run = record self.run { machine = m }; lent = new.lent; spares = new.spares; mode = mode.Going }

      pub taken : Holds goes_with is j
      taken =
          let was = subst (λ o. IsStrandOf (code_view v.code) j (Waits s h.count o)) rest_out.is h.is_of in
          record {
            ground = g;
            strand = Going s h.count rest_out.rests;
            is_of = (keep (code_view v.code)).taking_back j (Waits s h.count (rest_in p l newest.lent ∷ rest_out.rests)) was;
            held = record {
              levels = others_out;
              runs = record {
                counts = h.waited.runs.counts;
                outs = split.others;
                lends = subst (Lends v is p g.base others_out split.others) (sym left) split.rest;
                shows = record {
                  shows = takes v (ok_with g split.others) split.out (under g.base s) lends_it;
                  tells = h.waited.runs.shows.tells;
                };
                frozen = h.waited.runs.frozen;
              };
              are = subst (AreOut p (levels_of s.around) rest_out.rests others_out) (sym left) rest_out.are;
            };
          }

  -- the job has a share of the strand's code
  pub job_code : IsRunning self → code_of job.parts.value ≡ its_code self
  job_code running = subst (λ (b : Job). code_of b.parts.value ≡ its_code self) newest.job_is (running.rests 0 newest.lent (subst (λ l. slice_get l 0 ≡ Some newest.lent) (sym newest.are) refl)).code

  pub may_take : IsRunning self → IsWaiting self → ∥ MayTake self.run.machine newest.lent.home.lender.slots
      (slots_lent (loans_of (its_code self) newest.lent.home.lent)) job.parts.value.rest.slices.items ∥₁
  may_take running waits = ∥∥₁_elim (sound_of self) (hlevel) (λ s. ∥∥₁_map (running.holds s.ok s.job s.is) (λ d.
      may s.ok s.job d.ground (waiting_of self s.ok s.job waits d)))

  module _ (keep : (code : Code) → CallsPreserveJob code) (running : IsRunning self) (waits : IsWaiting self) (m : Machine)
      (takes : TakesBack self.run.machine newest.lent.home.lender.slots
      (slots_lent (loans_of (its_code self) newest.lent.home.lent)) job.parts.value.rest.slices.items m) (new : Strand)
      (left : reverse new.lent.items ≡ newest.rest) where
    pub takes_back : AreSpare (record self { run = record self.run { machine = m }; lent = new.lent; spares = new.spares; mode = mode.Going })
        → IsRunning (record self { run = record self.run { machine = m }; lent = new.lent; spares = new.spares; mode = mode.Going })
    takes_back bare = record {
      keeps = record {
        code = running.keeps.code;
        extent = running.keeps.extent;
        site = running.keeps.site;
        detail = running.keeps.detail;
        limit = running.keeps.limit;
        before = running.keeps.before;
        rest = running.keeps.rest;
        within = running.keeps.within;
        range = running.keeps.range;
      };
      spares = bare;
      rests = λ k x e. running.rests (suc k) x (subst (λ l. slice_get l (suc k) ≡ Some x) (sym newest.are) (subst (λ l. slice_get l k ≡ Some x) left e));
      holds = λ is j isj. ∥∥₁_map (running.holds is j isj) (λ d. taken is j d.ground (waiting_of self is j waits d) keep m takes new left);
    }

    -- a strand with these parts is a strand of its job
    pub takes_back_to : (mid : Strand) → mid ≡ record self { run = record self.run { machine = m }; lent = mid.lent; mode = mode.Going }
        → reverse mid.lent.items ≡ newest.rest → HasSpared mid new → IsRunning new
    takes_back_to mid e rest spared =
        let same : record self { run = record self.run { machine = m }; lent = new.lent; spares = new.spares; mode = mode.Going } ≡ new =
        same_strand (record self { run = record self.run { machine = m }; lent = new.lent; spares = new.spares; mode = mode.Going }) new
        (spared.of ∙ ap (λ (z : Strand). z.of) e) (spared.parts ∙ ap (λ (z : Strand). z.parts) e) (spared.run ∙ ap (λ (z : Strand). z.run) e)
        (spared.count ∙ ap (λ (z : Strand). z.count) e) refl refl (spared.mode ∙ ap (λ (z : Strand). z.mode) e) in
        subst IsRunning same (takes_back (subst AreSpare (sym same) spared.spares))
