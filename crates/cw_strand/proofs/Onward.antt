-- A strand that is running may execute instructions, and the stop that its run reaches.
use Rattle.std.proofs.Common.{ℕ, ◌-◌, ◌≤◌, Bool, List, sym, ◌∙◌, subst, arith}
use Rattle.std.specs.Prelude.{reverse}
use Rattle.cw_code.specs.Code.{Code, code_view}
use Rattle.cw_code.specs.Run.{State}
use Rattle.cw_code.specs.Jobs as jobs
use Rattle.cw_code.specs.Over.{under}
use Rattle.cw_code.specs.Strands.{Going}
use Rattle.cw_code.specs.Promises.{IsStrandOf}
use Rattle.cw_code.specs.Steps.{CallsPreserveJob}
use Rattle.cw_runnable.specs.declared.verified.Verified.{Verified}
use Rattle.cw_machine.specs.declared.run.Run.{Run}
use Rattle.cw_machine.specs.declared.run.Stop.{Stop}
use Rattle.cw_machine.specs.declared.run.Stop.TheVariants as stop
use Rattle.cw_machine.specs.Arrays.{Out, IsFit}
use Rattle.cw_machine.specs.RepresentsState.{SharesFrozen}
use Rattle.cw_machine.specs.Segments.{MayRun, IsUnderWay, StopsAt, GoesOn}
use Rattle.cw_strand.specs.declared.strand.Strand.{Strand}
use Rattle.cw_strand.specs.Levels.{Level, levels_of}
use Rattle.cw_strand.specs.Holds.{its_parts, its_code, floor_of, Ground, setting_of, ok_with, Lends, AreOut, Ongoing}
use Rattle.cw_strand.specs.Moves.{CameTo}
use Rattle.cw_strand.proofs.WhichOut.{floor_is}
use Rattle.cw_strand.proofs.Course.{stretched}

module _ (self : Strand) (is : IsFit (its_code self)) (j : jobs.Job) (g : Ground (its_code self) is (its_parts self) j) where
  pub may_run : (s : State) (jobs_out : List jobs.Job) (levels : List Level) (outs : List Out)
      → AreOut (its_parts self) (levels_of s.around) jobs_out levels (reverse self.lent.items)
      → Lends (its_code self) is (its_parts self) g.base levels outs (reverse self.lent.items) → SharesFrozen (its_code self) (ok_with g outs) (under g.base s)
      → MayRun (its_code self) (ok_with g outs) (setting_of g) (floor_of self) s
  may_run s jobs_out levels outs are lends frozen =
      let floor = floor_is (its_code self) is (its_parts self) g.base s.around jobs_out levels outs (reverse self.lent.items) are lends in
      record {
        outer = omega arith;
        bottom = floor.bottom;
        ends = floor.ends;
        above = floor.above;
        frozen = frozen;
        whole = λ e a lt. g.job.unshared (g.job.extent ∙ e) a;
      }

  pub may_go : (s : State) (count : ℕ) (jobs_out : List jobs.Job) (h : Ongoing self is j g s count jobs_out) → MayRun (its_code self) (ok_with g h.runs.outs) (setting_of g) (floor_of self) s
  may_go s count jobs_out h = may_run s jobs_out h.levels h.runs.outs h.are h.runs.lends h.runs.frozen

  pub under_way : (s : State) (count : ℕ) (jobs_out : List jobs.Job) → Ongoing self is j g s count jobs_out → IsUnderWay (its_code self) (floor_of self) self.count self.run
  under_way s count jobs_out h = record {
    ok = ok_with g h.runs.outs;
    setting = setting_of g;
    state = s;
    shows = h.runs.shows;
    may = may_go s count jobs_out h;
  }

pub done_later : (v : Verified) (ok : _) (k : _) (floor : ℕ) (stops : Bool) (limit : ℕ) (to : Stop) (done : ℕ) (r : Run) (later : ℕ) (s : State)
    → StopsAt v ok k floor stops limit to done r later s → later ≤ done
done_later v ok k floor stops limit (stop.Spawned spawn) done r later s h = let e = h.0 in omega (arith, e)
done_later v ok k floor stops limit stop.CameBack done r later s h = let e = h.0 in omega (arith, e)
done_later v ok k floor stops limit stop.Joined done r later s h = let e = h.0 in omega (arith, e)
done_later v ok k floor stops limit (stop.Gave x) done r later s h = let e = h.0 in omega (arith, e)
done_later v ok k floor stops limit (stop.Trapped c l) done r later s h = let e = h.0 in omega (arith, e)
done_later v ok k floor stops limit stop.Over done r later s h = let e = h.0 in omega (arith, e)
done_later v ok k floor stops limit stop.NoMemory done r later s h = omega (arith, h)

-- the run of a strand continued up to a stop
module _ (keep : (code : Code) → CallsPreserveJob code) (self : Strand) (is : IsFit (its_code self)) (j : jobs.Job)
    (g : Ground (its_code self) is (its_parts self) j) (r : Run) (done limit : ℕ) (stops : Bool) (to : Stop) where
  abbrev after : Strand
  after = record self { run = r; count = done }

  pub came_to : (s : State) (count : ℕ) (jobs_out : List jobs.Job) → IsStrandOf (code_view (its_code self).code) j (Going s count jobs_out) → Ongoing self is j g s count jobs_out
      → GoesOn (its_code self) self.run self.count limit (floor_of self) stops to done r → done ≤ limit
      → limit ≤ (its_parts self).limit - (its_parts self).before → (its_parts self).before ≤ (its_parts self).limit → CameTo after limit to is j
  came_to s count jobs_out is_of h goes le within low =
      let code = code_view (its_code self).code in
      let p = its_parts self in
      let lent = reverse self.lent.items in
      let came = goes (ok_with g h.runs.outs) (setting_of g) s h.runs.shows (may_go self is j g s count jobs_out h) in
      let later_done = done_later (its_code self) (ok_with g h.runs.outs) (setting_of g) (floor_of self) stops limit to done r came.0 came.1 came.3 in
      let counts = h.runs.counts in
      let jl = g.job.limit in
      let jb = g.job.before in
      let led = stretched code (keep code) j (setting_of g) (sym g.job.extent)
      (its_code self) is p h.levels h.runs.outs lent h.runs.lends stops self.count came.0 s came.1 came.2 (omega (arith, later_done, le, within, low, jl, jb))
      (record { jobs_out = jobs_out; is_of = subst (λ n. IsStrandOf code j (Going s n jobs_out)) counts is_of; are = h.are }) in
      record {
        ground = g;
        state = came.1;
        later = came.0;
        stops = stops;
        levels = h.levels;
        outs = h.runs.outs;
        jobs_out = led.jobs_out;
        lends = h.runs.lends;
        are = led.are;
        is_of = led.is_of;
        at = came.3;
      }
