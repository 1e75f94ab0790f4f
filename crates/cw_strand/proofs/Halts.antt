-- A strand whose run reached a stop that hands nothing out: the strand waits, or it has stopped.
use Rattle.std.proofs.Common.{◌≡◌, ◌≢◌, ℕ, suc, ◌+◌, ◌-◌, ◌≤◌, false, List, ◌∷◌, refl, sym, ap, ◌∙◌, subst, arith}
use Rattle.std.specs.Prelude.{reverse, Some, slice_get}
use Rattle.std.proofs.Math.Logic.{∥∥₁_map}
use Rattle.cw_model.specs.declared.trap.Trap.{Trap}
use Rattle.cw_code.specs.Code.{Code, code_view}
use Rattle.cw_code.specs.Jobs as jobs
use Rattle.cw_code.specs.Jobs.{has_come}
use Rattle.cw_code.specs.Over.{beneath, under}
use Rattle.cw_code.specs.Strands as strands
use Rattle.cw_code.specs.Strands.{Going, Waits, Halted, ComesBack, outs_of}
use Rattle.cw_code.specs.Steps.{CallsPreserveJob}
use Rattle.cw_runnable.specs.declared.verified.Verified.{Verified}
use Rattle.cw_jobs.specs.declared.call.Parts.{Parts}
use Rattle.cw_jobs.specs.Jobs.{extent_of, code_of}
use Rattle.cw_machine.specs.declared.run.Stop.{Stop}
use Rattle.cw_machine.specs.declared.run.Stop.TheVariants as stop
use Rattle.cw_machine.specs.Arrays.{IsFit}
use Rattle.cw_machine.specs.Segments.{calls_in}
use Rattle.cw_machine.specs.Unwinding.{ShownRemain}
use Rattle.cw_machine.specs.lemmas.Rounds.{calls_caller}
use Rattle.cw_strand.specs.declared.strand.Lent.{Lent}
use Rattle.cw_strand.specs.declared.strand.Mode.{Mode}
use Rattle.cw_strand.specs.declared.strand.Mode.TheVariants as mode
use Rattle.cw_strand.specs.declared.strand.Strand.{Strand}
use Rattle.cw_strand.specs.Levels.{levels_of}
use Rattle.cw_strand.specs.Holds.{given_up as up_of}
use Rattle.cw_strand.specs.Holds.{its_parts, its_code, floor_in, Ground, IsRest, ok_with, Lends, AreOut, AreBack, Stands, HeldIn, Holds, KeepsJob, IsRunning, stops}
use Rattle.cw_strand.specs.Moves.{CameTo, HasCome, HasSpared}
use Rattle.cw_jobs.specs.lemmas.Spawns.{HasSpawnedWhere, waiters_have_spawned}
use Rattle.cw_strand.proofs.Levels.{HasReturned, LevelsAfter, levels_move}
use Rattle.cw_strand.proofs.WhichOut.{is_back, NewestOut, newest_out}
use Rattle.cw_strand.proofs.Same.{same_strand}
use Rattle.cw_strand.proofs.Course.{ran, fell, passed, wants}

pub keeps_as : (self : Strand) (m : Mode) → KeepsJob self → KeepsJob (record self { mode = m })
keeps_as self m h = record {
  code = h.code;
  extent = h.extent;
  site = h.site;
  detail = h.detail;
  limit = h.limit;
  before = h.before;
  rest = h.rest;
  within = h.within;
  range = h.range;
}

module _ (keep : (code : Code) → CallsPreserveJob code) (self : Strand) (limit : ℕ) where
  abbrev v : Verified
  v = its_code self

  abbrev code : Code
  code = code_view v.code

  abbrev p : Parts
  p = its_parts self

  abbrev lent : List Lent
  lent = reverse self.lent.items

  module _ (is : IsFit (its_code self)) (j : jobs.Job) (job : KeepsJob self) where
    -- the run is not at the join of the job
    not_come : (to : Stop) (c : CameTo self limit to is j) → has_come (extent_of p.extent) code c.state ≡ false → has_come j.extent code c.state ≡ false
    not_come to c h = subst (λ x. has_come x code c.state ≡ false) (sym c.ground.job.extent) h

    -- one more instruction is within the limit
    one_more : (to : Stop) (c : CameTo self limit to is j) → self.count ≡ c.later + 1 → j.before + (c.later + 1) ≤ j.limit
    one_more to c e = let w = job.within in let l = c.ground.job.limit in let b = c.ground.job.before in omega (arith, e, w, l, b)

    trapped : (trap : Trap) (line : ℕ) → CameTo self limit (stop.Trapped trap line) is j → Holds (record self { mode = mode.Trapped trap line }) is j
    trapped trap line c =
        let at = c.at.1 in
        let out = c.jobs_out in
        record {
          ground = c.ground;
          strand = Halted (jobs.TrapIn trap line at.lines (c.later + 1)) out;
          is_of = fell code (keep code) j c.state c.later out trap line at.lines (not_come (stop.Trapped trap line) c at.before) at.steps (one_more (stop.Trapped trap line) c c.at.0) c.is_of;
          held = (
            ap (λ l. jobs.TrapIn trap line l (c.later + 1)) (sym at.shown) ∙ ap (jobs.TrapIn trap line self.run.machine.lines.items) (sym c.at.0),
            record { levels = c.levels; outs = c.outs; lends = c.lends; remains = at.remains },
          );
        }

    over : ShownRemain → limit ≡ p.limit - p.before → CameTo self limit stop.Over is j → Holds (record self { mode = mode.Over }) is j
    over remain end c =
        let at = c.at.2 in
        let e = c.at.0 in
        let full = c.at.1 in
        let l = c.ground.job.limit in
        let b = c.ground.job.before in
        let out = c.jobs_out in
        record {
          ground = c.ground;
          strand = Halted jobs.OverLimit out;
          is_of = passed code (keep code) j c.state c.later out (not_come stop.Over c at.before) (omega (arith, e, full, end, l, b)) c.is_of;
          held = (
            refl,
            record { levels = c.levels; outs = c.outs; lends = c.lends; remains = remain v (ok_with c.ground c.outs) self.run.machine (under c.ground.base c.state) at.shows.shows },
          );
        }

    lost : (to : Stop) → CameTo self limit to is j → Holds (record self { mode = mode.Memory }) is j
    lost to c =
        let out = c.jobs_out in
        record {
          ground = c.ground;
          strand = Halted jobs.Memory out;
          is_of = wants code (keep code) j (Going c.state c.later out) c.is_of;
          held = refl;
        }

    -- the continuation of the spawned call that has returned is the newest out
    newest : (c : CameTo self limit stop.CameBack is j) (r : HasReturned c.state c.at.1.next) → NewestOut p r.level (levels_of c.at.1.next.around) c.jobs_out c.levels lent
    newest c r =
        let base = c.ground.base in
        let floor : floor_in lent ≡ suc (calls_in (beneath base r.level.around)) = sym c.at.1.at ∙ ap (λ a. calls_in (beneath base a)) r.around ∙ calls_caller base r.level.waiting r.level.around in
        let are : AreOut p (r.level ∷ levels_of r.level.around) c.jobs_out c.levels lent =
        subst (λ a. AreOut p (r.level ∷ levels_of a) c.jobs_out c.levels lent) r.back.around (subst (λ l. AreOut p l c.jobs_out c.levels lent) r.levels c.are) in
        newest_out p r.level (levels_of c.at.1.next.around) c.jobs_out c.levels lent
        (subst (λ a. AreBack p r.level (levels_of a) c.jobs_out c.levels lent) (sym r.back.around) (is_back v is p base r.level c.outs c.jobs_out c.levels lent c.lends floor are))

    pub came_back : CameTo self limit stop.CameBack is j → Holds (record self { mode = mode.Waiting }) is j
    came_back c =
        let at = c.at.1 in
        let out = c.jobs_out in
        let r : HasReturned c.state at.next = subst (λ t. LevelsAfter t c.state at.next) at.turns (levels_move code c.state at.next at.steps) in
        let b = newest c r in
        record {
          ground = c.ground;
          strand = Waits at.next (c.later + 1) out;
          is_of = ran code (keep code) j c.state at.next c.later out ComesBack at.turns (not_come stop.CameBack c at.before) at.steps (one_more stop.CameBack c c.at.0) c.is_of;
          held = record {
            level = r.level;
            back = r.back;
            spawned = subst (λ t. HasSpawnedWhere t at.next) at.turns (waiters_have_spawned code c.state at.next at.steps);
            others = b.others;
            runs = record {
              counts = sym c.at.0;
              outs = c.outs;
              lends = subst (λ l. Lends v is p c.ground.base l c.outs lent) b.are c.lends;
              shows = at.shows;
              frozen = at.frozen;
            };
            are = b.back;
          };
        }

  pub trapped_runs : (trap : Trap) (line : ℕ) → HasCome self limit (stop.Trapped trap line) → IsRunning (record self { mode = mode.Trapped trap line })
  trapped_runs trap line h = record {
    keeps = keeps_as self (mode.Trapped trap line) h.keeps;
    spares = h.spares;
    rests = h.rests;
    holds = λ is j job. ∥∥₁_map (h.comes is j job) (λ c. trapped is j h.keeps trap line c);
  }

  pub over_runs : ShownRemain → limit ≡ p.limit - p.before → HasCome self limit stop.Over → IsRunning (record self { mode = mode.Over })
  over_runs remain end h = record {
    keeps = keeps_as self mode.Over h.keeps;
    spares = h.spares;
    rests = h.rests;
    holds = λ is j job. ∥∥₁_map (h.comes is j job) (λ c. over is j h.keeps remain end c);
  }

  pub lost_runs : (to : Stop) → HasCome self limit to → IsRunning (record self { mode = mode.Memory })
  lost_runs to h = record {
    keeps = keeps_as self mode.Memory h.keeps;
    spares = h.spares;
    rests = h.rests;
    holds = λ is j job. ∥∥₁_map (h.comes is j job) (λ c. lost is j h.keeps to c);
  }

  pub back_runs : HasCome self limit stop.CameBack → IsRunning (record self { mode = mode.Waiting })
  back_runs h = record {
    keeps = keeps_as self mode.Waiting h.keeps;
    spares = h.spares;
    rests = h.rests;
    holds = λ is j job. ∥∥₁_map (h.comes is j job) (λ c. came_back is j h.keeps c);
  }

-- memory ran out, whatever the strand did before
pub fails : ((code : Code) → CallsPreserveJob code) → (self : Strand) → IsRunning self → IsRunning (record self { mode = mode.Memory })
fails keep self h = record {
  keeps = keeps_as self mode.Memory h.keeps;
  spares = h.spares;
  rests = h.rests;
  holds = λ is j job. ∥∥₁_map (h.holds is j job) (λ d. record {
    ground = d.ground;
    strand = Halted jobs.Memory (outs_of d.strand);
    is_of = wants (code_view (its_code self).code) (keep (code_view (its_code self).code)) j d.strand d.is_of;
    held = refl;
  });
}

-- the arrays of a strand that is running or waits are known, and where each must return
stands_before : ShownRemain → (self : Strand) (is : IsFit (its_code self)) (j : jobs.Job) (g : Ground (its_code self) is (its_parts self) j)
    (m : Mode) (d : strands.Strand) → stops m ≡ false → HeldIn self is j g m d
    → Stands (record self { mode = mode.GivenUp }) is j g
stands_before remain self is j g mode.Going (Going s count out) goes h = record {
  levels = h.levels;
  outs = h.runs.outs;
  lends = h.runs.lends;
  remains = remain (its_code self) (ok_with g h.runs.outs) self.run.machine (under g.base s) h.runs.shows.shows;
}
stands_before remain self is j g mode.Going (Waits s count out) goes h = absurd h
stands_before remain self is j g mode.Going (Halted e out) goes h = absurd h
stands_before remain self is j g mode.Waiting (Waits s count out) goes h = record {
  levels = h.level ∷ h.others;
  outs = h.runs.outs;
  lends = h.runs.lends;
  remains = remain (its_code self) (ok_with g h.runs.outs) self.run.machine (under g.base s) h.runs.shows.shows;
}
stands_before remain self is j g mode.Waiting (Going s count out) goes h = absurd h
stands_before remain self is j g mode.Waiting (Halted e out) goes h = absurd h
stands_before remain self is j g (mode.Trapped trap line) d goes h = cc
stands_before remain self is j g mode.Over d goes h = cc
stands_before remain self is j g mode.Memory d goes h = cc
stands_before remain self is j g mode.GivenUp d goes h = cc

-- a strand that has stopped keeps its mode
pub stays_up : (m : Mode) → m ≢ mode.Going → m ≢ mode.Waiting → m ≡ up_of m
stays_up mode.Going g w = absurd (g refl)
stays_up mode.Waiting g w = absurd (w refl)
stays_up (mode.Trapped trap line) g w = refl
stays_up mode.Over g w = refl
stays_up mode.Memory g w = refl
stays_up mode.GivenUp g w = refl

-- the strand is given up
pub gives_up : ((code : Code) → CallsPreserveJob code) → ShownRemain → (self : Strand) → stops self.mode ≡ false → IsRunning self → IsRunning (record self { mode = mode.GivenUp })
gives_up keep remain self goes h = record {
  keeps = keeps_as self mode.GivenUp h.keeps;
  spares = h.spares;
  rests = h.rests;
  holds = λ is j job. ∥∥₁_map (h.holds is j job) (λ d. record {
    ground = d.ground;
    strand = Halted jobs.Memory (outs_of d.strand);
    is_of = wants (code_view (its_code self).code) (keep (code_view (its_code self).code)) j d.strand d.is_of;
    held = (refl, stands_before remain self is j d.ground self.mode d.strand goes d.held);
  });
}

-- a strand in which memory ran out, and of which only the spares changed, is a strand of its job
pub spared_runs : ((code : Code) → CallsPreserveJob code) → (old new : Strand) (limit : ℕ) (to : Stop) → HasCome old limit to → HasSpared old new → IsRunning (record new { mode = mode.Memory })
spared_runs keep old new limit to h same = subst IsRunning
    (same_strand (record old { lent = new.lent; spares = new.spares; mode = mode.Memory }) (record new { mode = mode.Memory }) same.of same.parts same.run same.count refl refl refl)
    (record {
      keeps = record {
        code = h.keeps.code;
        extent = h.keeps.extent;
        site = h.keeps.site;
        detail = h.keeps.detail;
        limit = h.keeps.limit;
        before = h.keeps.before;
        rest = h.keeps.rest;
        within = h.keeps.within;
        range = h.keeps.range;
      };
      spares = subst (λ o. (k : ℕ) (b : _) → slice_get new.spares.items k ≡ Some b → code_of b.value ≡ code_of o.value.parts.value) same.of same.spares;
      rests = subst (λ l. (k : ℕ) (x : Lent) → slice_get (reverse l) k ≡ Some x → IsRest (its_code old) x) (sym same.lent) h.rests;
      holds = λ is j job. ∥∥₁_map (h.comes is j job) (λ c. record {
        ground = c.ground;
        strand = Halted jobs.Memory c.jobs_out;
        is_of = wants (code_view (its_code old).code) (keep (code_view (its_code old).code)) j (Going c.state c.later c.jobs_out) c.is_of;
        held = refl;
      });
    })
