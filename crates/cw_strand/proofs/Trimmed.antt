-- A strand that gives memory back is the strand that it was.
use Rattle.std.proofs.Common.{◌≡◌, ◌∙◌, ℕ, List, [], sym, ap, subst}
use Rattle.std.specs.Prelude.{slice_get, Some}
use Rattle.std.proofs.Math.Logic.{∥∥₁_map}
use Rattle.cw_code.specs.Code.{code_view}
use Rattle.cw_code.specs.Run.{State}
use Rattle.cw_code.specs.Jobs as jobs
use Rattle.cw_code.specs.Over.{under}
use Rattle.cw_code.specs.Strands as strands
use Rattle.cw_code.specs.Strands.{Going, Waits, Halted}
use Rattle.cw_meter.specs.Meters.{TracksAsBefore}
use Rattle.cw_jobs.specs.Opens.{opens_round}
use Rattle.cw_jobs.specs.Jobs.{code_of, origin_of}
use Rattle.cw_machine.specs.Arrays.{IsFit, RemainsIn}
use Rattle.cw_machine.specs.Trims.{Trims}
use Rattle.cw_strand.specs.declared.strand.Mode.{Mode}
use Rattle.cw_strand.specs.declared.strand.Mode.TheVariants as mode
use Rattle.cw_strand.specs.declared.strand.Strand.{Strand}
use Rattle.cw_strand.specs.Holds.{its_code, its_parts, ok_with, Ground, HeldIn, IsRunning, Runs, Stands}
use Rattle.cw_strand.specs.Levels.{Level}

no_item : {A : Type 0} (k : ℕ) (x : A) → slice_get [] k ≡ Some x → ⊥
no_item k x e = cc

abbrev trimmed : (self new : Strand) → Strand
trimmed self new = record self { run = new.run; spares = new.spares }

module _ (self new : Strand) (trims : Trims (its_code self) self.run.machine new.run.machine) (views : new.run.machine.views.items ≡ self.run.machine.views.items)
    (blocks : new.run.machine.blocks.items ≡ self.run.machine.blocks.items) (lines : new.run.machine.lines.items ≡ self.run.machine.lines.items)
    (told : TracksAsBefore self.run.meter new.run.meter) where
  module _ (is : IsFit (its_code self)) (j : jobs.Job) (g : Ground (its_code self) is (its_parts self) j) where
    runs : (levels : List Level) (s : State) (count : ℕ) → Runs self is j g levels s count → Runs (trimmed self new) is j g levels s count
    runs levels s count h = record {
      counts = h.counts;
      outs = h.outs;
      lends = h.lends;
      shows = record {
        shows = trims (ok_with g h.outs) (under g.base s) h.shows.shows;
        tells = λ gauge e.
            told gauge.detail gauge.tags (origin_of (its_parts self)) self.count (opens_round (origin_of (its_parts self)) s.around) s.trace.events (h.shows.tells gauge e);
      };
      frozen = h.frozen;
    }

    stands : Stands self is j g → Stands (trimmed self new) is j g
    stands h = record {
      levels = h.levels;
      outs = h.outs;
      lends = h.lends;
      remains = subst (λ l. RemainsIn (ok_with g h.outs).outs (ok_with g h.outs).given l new.run.machine.blocks.items) (sym views)
          (subst (λ l. RemainsIn (ok_with g h.outs).outs (ok_with g h.outs).given self.run.machine.views.items l) (sym blocks) h.remains);
    }

    held : (m : Mode) (d : strands.Strand) → HeldIn self is j g m d → HeldIn (trimmed self new) is j g m d
    held mode.Going (Going s count out) h = record { levels = h.levels; runs = runs h.levels s count h.runs; are = h.are }
    held mode.Going (Waits s count out) h = absurd h
    held mode.Going (Halted e out) h = absurd h
    held mode.Waiting (Going s count out) h = absurd h
    held mode.Waiting (Waits s count out) h = record {
      level = h.level;
      back = h.back;
      spawned = h.spawned;
      others = h.others;
      runs = runs _ s count h.runs;
      are = h.are;
    }
    held mode.Waiting (Halted e out) h = absurd h
    held (mode.Trapped trap line) (Going s count out) h = absurd h
    held (mode.Trapped trap line) (Waits s count out) h = absurd h
    held (mode.Trapped trap line) (Halted e out) h = (h.0 ∙ ap (λ l. jobs.TrapIn trap line l self.count) (sym lines), stands h.1)
    held mode.Over (Going s count out) h = absurd h
    held mode.Over (Waits s count out) h = absurd h
    held mode.Over (Halted e out) h = (h.0, stands h.1)
    held mode.Memory (Going s count out) h = absurd h
    held mode.Memory (Waits s count out) h = absurd h
    held mode.Memory (Halted e out) h = h
    held mode.GivenUp (Going s count out) h = absurd h
    held mode.GivenUp (Waits s count out) h = absurd h
    held mode.GivenUp (Halted e out) h = (h.0, stands h.1)

  pub trimmed_runs : new.spares.items ≡ [] → IsRunning self → IsRunning (trimmed self new)
  trimmed_runs none h = record {
    keeps = record {
      code = h.keeps.code;
      extent = h.keeps.extent;
      site = h.keeps.site;
      detail = h.keeps.detail;
      limit = h.keeps.limit;
      before = h.keeps.before;
      rest = h.keeps.rest;
      within = h.keeps.within;
      range = h.keeps.range;
    };
    spares = λ k b e. absurd (no_item k b (subst (λ l. slice_get l k ≡ Some b) none e));
    rests = h.rests;
    holds = λ is j job. ∥∥₁_map (h.holds is j job) (λ d. record { ground = d.ground; strand = d.strand; is_of = d.is_of; held = held is j d.ground self.mode d.strand d.held });
  }
