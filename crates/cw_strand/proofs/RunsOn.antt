-- A strand that is running continues up to a stop.
use Rattle.std.proofs.Common.{◌≡◌, ◌≢◌, ℕ, Bool, ◌-◌, ◌≤◌, true, false, List, [], ◌∷◌, refl, sym, ap, ◌∙◌, subst, arith}
use Rattle.std.specs.Prelude.{map, reverse}
use Rattle.std.specs.Coded.{le_prop}
use Rattle.std.proofs.Math.Logic.{∥∥₁_elim, ∥∥₁_map}
use mathlib.Core.HLevel.{⊥_prop}
use Rattle.std.proofs.lemmas.Bool.{true≢false}
use Rattle.cw_code.specs.Code.{Code, code_view}
use Rattle.cw_code.specs.Run.{State}
use Rattle.cw_code.specs.Jobs as jobs
use Rattle.cw_code.specs.Jobs.{has_come}
use Rattle.cw_code.specs.Strands as strands
use Rattle.cw_code.specs.Strands.{Going, Waits, Halted}
use Rattle.cw_code.specs.Promises.{IsStrandOf}
use Rattle.cw_code.specs.Steps.{CallsPreserveJob}
use Rattle.cw_jobs.specs.declared.call.Extent.TheVariants as extent
use Rattle.cw_jobs.specs.Jobs.{extent_of, IsSound}
use Rattle.cw_machine.specs.declared.run.Run.{Run}
use Rattle.cw_machine.specs.declared.run.Spawn.{Spawn}
use Rattle.cw_machine.specs.declared.run.Stop.{Stop}
use Rattle.cw_machine.specs.declared.run.Stop.TheVariants as stop
use Rattle.cw_machine.specs.Arrays.{Out, IsFit}
use Rattle.cw_machine.specs.Segments.{Setting, Segment, Here, Further, MayRun, RepresentsRunState, StopsAt, IsUnderWay, GoesOn}
use Rattle.cw_strand.specs.declared.strand.Lent.{Lent}
use Rattle.cw_strand.specs.declared.strand.Mode.TheVariants as mode
use Rattle.cw_strand.specs.declared.strand.Strand.{Strand}
use Rattle.cw_strand.specs.Levels.{Level}
use Rattle.cw_strand.specs.Holds.{its_job, its_parts, its_code, outs, floor_of, Ground, setting_of, ok_with, Lends, Ongoing, Waited, HeldIn, Holds, IsRunning, IsWaiting, IsAtSync}
use Rattle.cw_strand.specs.Moves.{CameTo, HasCome, IsBefore, IsStill, RunsOn}
use Rattle.cw_strand.proofs.Onward.{done_later, may_go, under_way, came_to}
use Rattle.cw_strand.proofs.Halts.{came_back}

-- the job of a strand represents a job of the definitions, with well-formed code
pub sound_of : (self : Strand) → ∥ IsSound (its_parts self) ∥₁
sound_of self = (its_job self).sound

module _ (self : Strand) (is : IsFit (its_code self)) (j : jobs.Job) where
  -- a strand that is running
  pub record IsGoing (g : Ground (its_code self) is (its_parts self) j) : Type 0 where
    pub state : State
    pub count : ℕ
    pub out : List jobs.Job
    pub is_of : IsStrandOf (code_view (its_code self).code) j (Going state count out)
    pub held : Ongoing self is j g state count out

  going_held : (g : Ground (its_code self) is (its_parts self) j) (d : strands.Strand) → IsStrandOf (code_view (its_code self).code) j d → HeldIn self is j g mode.Going d → IsGoing g
  going_held g (Going s count out) is_of h = record { state = s; count = count; out = out; is_of = is_of; held = h }
  going_held g (Waits s count out) is_of h = absurd h
  going_held g (Halted e out) is_of h = absurd h

  pub going_of : self.mode ≡ mode.Going → (d : Holds self is j) → IsGoing d.ground
  going_of e d = going_held d.ground d.strand d.is_of (subst (λ m. HeldIn self is j d.ground m d.strand) e d.held)

  -- a strand that waits
  pub record IsHeldBack (g : Ground (its_code self) is (its_parts self) j) : Type 0 where
    pub state : State
    pub count : ℕ
    pub out : List jobs.Job
    pub is_of : IsStrandOf (code_view (its_code self).code) j (Waits state count out)
    pub waited : Waited self is j g state count out

  waiting_held : (g : Ground (its_code self) is (its_parts self) j) (d : strands.Strand) → IsStrandOf (code_view (its_code self).code) j d → HeldIn self is j g mode.Waiting d → IsHeldBack g
  waiting_held g (Going s count out) is_of h = absurd h
  waiting_held g (Waits s count out) is_of h = record { state = s; count = count; out = out; is_of = is_of; waited = h }
  waiting_held g (Halted e out) is_of h = absurd h

  pub waiting_of : self.mode ≡ mode.Waiting → (d : Holds self is j) → IsHeldBack d.ground
  waiting_of e d = waiting_held d.ground d.strand d.is_of (subst (λ m. HeldIn self is j d.ground m d.strand) e d.held)

-- the run of the strand is under way
pub run_way : (self : Strand) → IsRunning self → self.mode ≡ mode.Going → ∥ IsUnderWay (its_code self) (floor_of self) self.count self.run ∥₁
run_way self h e = ∥∥₁_elim (sound_of self) (hlevel) (λ s. ∥∥₁_map (h.holds s.ok s.job s.is) (λ d.
    let at = going_of self s.ok s.job e d in
    under_way self s.ok s.job d.ground at.state at.count at.out at.held))

-- the run reaches a stop
pub run_came : ((code : Code) → CallsPreserveJob code) → (self : Strand) (r : Run) (done limit : ℕ) (stops : Bool) (to : Stop) → IsRunning self
    → self.mode ≡ mode.Going → GoesOn (its_code self) self.run self.count limit (floor_of self) stops to done r → done ≤ limit
    → limit ≤ (its_parts self).limit - (its_parts self).before
    → HasCome (record self { run = r; count = done }) limit to
run_came keep self r done limit stops to h e goes le within = record {
  going = e;
  keeps = record {
    code = h.keeps.code;
    extent = h.keeps.extent;
    site = h.keeps.site;
    detail = h.keeps.detail;
    limit = h.keeps.limit;
    before = h.keeps.before;
    rest = h.keeps.rest;
    within = (let w = h.keeps.within in omega (arith, w, le, within));
    range = h.keeps.range;
  };
  spares = h.spares;
  rests = h.rests;
  comes = λ is j job. ∥∥₁_map (h.holds is j job) (λ d.
      let at = going_of self is j e d in
      came_to keep self is j d.ground r done limit stops to at.state at.count at.out at.is_of at.held goes le within (let w = h.keeps.within in omega (arith, w)));
}

-- if there is a level, something is out
lends_some : (self : Strand) (v : _) (is : IsFit v) (p : _) (base : State) (l : Level) (levels : List Level) (out : List Out)
    → Lends v is p base (l ∷ levels) out (reverse self.lent.items) → outs self ≢ []
lends_some self v is p base l levels out h e = at out (reverse self.lent.items) h e
  where
    at : (out : List Out) (lent : List Lent) → Lends v is p base (l ∷ levels) out lent → map (λ x. x.job.value) lent ≢ []
    at [] lent k q = absurd k
    at (o ∷ out) [] k q = absurd k
    at (o ∷ out) (x ∷ lent) k q = cc

waits_some : (self : Strand) (is : IsFit (its_code self)) (j : jobs.Job) (g : Ground (its_code self) is (its_parts self) j) (s : State) (count : ℕ)
    (out : List jobs.Job) → Waited self is j g s count out → outs self ≢ []
waits_some self is j g s count out w = lends_some self (its_code self) is (its_parts self) g.base w.level w.others w.runs.outs w.runs.lends

pub waiting_some : (self : Strand) → IsRunning self → IsWaiting self → outs self ≢ []
waiting_some self h e none = ∥∥₁_elim (sound_of self) ⊥_prop (λ s. ∥∥₁_elim (h.holds s.ok s.job s.is) ⊥_prop (λ d.
    let at = waiting_of self s.ok s.job e d in
    waits_some self s.ok s.job d.ground at.state at.count at.out at.waited none))

pub back_some : ((code : Code) → CallsPreserveJob code) → (self : Strand) (limit : ℕ) → HasCome self limit stop.CameBack → outs self ≢ []
back_some keep self limit h none = ∥∥₁_elim (sound_of self) ⊥_prop (λ s. ∥∥₁_elim (h.comes s.ok s.job s.is) ⊥_prop (λ c.
    let d : Holds (record self { mode = mode.Waiting }) s.ok s.job = came_back keep self limit s.ok s.job h.keeps c in
    let at = waiting_of (record self { mode = mode.Waiting }) s.ok s.job refl d in
    waits_some (record self { mode = mode.Waiting }) s.ok s.job d.ground at.state at.count at.out at.waited none))

pub waits_at : (self : Strand) → self.mode ≡ mode.Waiting → IsAtSync self
waits_at self e going = differ (sym e ∙ going)
  where
    differ : mode.Waiting ≡ mode.Going → ⊥
    differ k = cc

-- instructions only increase the count
stretch_low : (k : Setting) (code : Code) (floor : ℕ) (stops : Bool) (count later : ℕ) (s s1 : State) → Segment k code floor stops count s later s1 → count ≤ later
stretch_low k code floor stops count _ s _ (Here _ _) = omega arith
stretch_low k code floor stops count _ s _ (Further _ later _ s1 s2 before p) = let le = stretch_low k code floor stops count later s s1 before in omega (arith, le)

-- a run that may execute no instruction executes none
still_at : (v : _) (ok : _) (k : _) (floor : ℕ) (stops : Bool) (limit : ℕ) (to : Stop) (done : ℕ) (r : Run) (later : ℕ) (s : State)
    → StopsAt v ok k floor stops limit to done r later s → done ≤ later → IsStill to
still_at v ok k floor stops limit (stop.Spawned spawn) done r later s h le = let e = h.0 in omega (arith, e, le)
still_at v ok k floor stops limit stop.CameBack done r later s h le = let e = h.0 in omega (arith, e, le)
still_at v ok k floor stops limit stop.Joined done r later s h le = tt
still_at v ok k floor stops limit (stop.Gave x) done r later s h le = let e = h.0 in omega (arith, e, le)
still_at v ok k floor stops limit (stop.Trapped c l) done r later s h le = let e = h.0 in omega (arith, e, le)
still_at v ok k floor stops limit stop.Over done r later s h le = tt
still_at v ok k floor stops limit stop.NoMemory done r later s h le = omega (arith, h, le)

decided : (to : Stop) → ∥ IsStill to ∥₁ → IsStill to
decided (stop.Spawned spawn) h = ∥∥₁_elim h ⊥_prop (λ x. x)
decided stop.CameBack h = ∥∥₁_elim h ⊥_prop (λ x. x)
decided stop.Joined h = tt
decided (stop.Gave x) h = ∥∥₁_elim h ⊥_prop (λ x. x)
decided (stop.Trapped c l) h = ∥∥₁_elim h ⊥_prop (λ x. x)
decided stop.Over h = tt
decided stop.NoMemory h = ∥∥₁_elim h ⊥_prop (λ x. x)

-- a run that stopped at its place executes no instruction
stretch_here : (k : Setting) (code : Code) (floor : ℕ) (stops : Bool) (count later : ℕ) (s s1 : State) → Segment k code floor stops count s later s1 → later ≤ count → s1 ≡ s
stretch_here k code floor stops count _ s _ (Here _ _) le = refl
stretch_here k code floor stops count _ s _ (Further _ later _ s1 s2 before p) le = let low = stretch_low k code floor stops count later s s1 before in absurd (omega (arith, low, le))

module _ (self : Strand) (r : Run) (done limit : ℕ) (stops : Bool) (to : Stop) (h : IsRunning self) (e : self.mode ≡ mode.Going)
    (goes : GoesOn (its_code self) self.run self.count limit (floor_of self) stops to done r) where
  abbrev floor : ℕ
  floor = floor_of self

  low : self.count ≤ done
  low = ∥∥₁_elim (sound_of self) le_prop (λ s. ∥∥₁_elim (h.holds s.ok s.job s.is) le_prop (λ d.
      let at = going_of self s.ok s.job e d in
      let ok = ok_with d.ground at.held.runs.outs in
      let came = goes ok (setting_of d.ground) at.state at.held.runs.shows (may_go self s.ok s.job d.ground at.state at.count at.out at.held) in
      let far = stretch_low (setting_of d.ground) (code_view (its_code self).code) floor stops self.count came.0 at.state came.1 came.2 in
      let near = done_later (its_code self) ok (setting_of d.ground) floor stops limit to done r came.0 came.1 came.3 in
      omega (arith, far, near)))

  still : done ≡ self.count → IsStill to
  still same = decided to (∥∥₁_elim (sound_of self) (hlevel) (λ s. ∥∥₁_map (h.holds s.ok s.job s.is) (λ d.
      let at = going_of self s.ok s.job e d in
      let came = goes (ok_with d.ground at.held.runs.outs) (setting_of d.ground) at.state at.held.runs.shows (may_go self s.ok s.job d.ground at.state at.count at.out at.held) in
      let far = stretch_low (setting_of d.ground) (code_view (its_code self).code) floor stops self.count came.0 at.state came.1 came.2 in
      still_at (its_code self) (ok_with d.ground at.held.runs.outs) (setting_of d.ground) floor stops limit to done r came.0 came.1 came.3 (omega (arith, far, same)))))

  before : IsBefore self → done ≡ self.count → to ≢ stop.Joined
  before b same is = ∥∥₁_elim (sound_of self) ⊥_prop (λ s. ∥∥₁_elim (b.comes s.ok s.job s.is) ⊥_prop (λ c.
      let v = its_code self in
      let ok = ok_with c.ground c.outs in
      let k = setting_of c.ground in
      let came = goes ok k c.state c.at.2.shows c.at.2.may in
      let at = subst (λ t. StopsAt v ok k floor stops limit t done r came.0 came.1) is came.3 in
      let same_at = at.0 in
      let here = stretch_here k (code_view v.code) floor stops self.count came.0 c.state came.1 came.2 (omega (arith, same, same_at)) in
      true≢false (sym at.1.come ∙ ap (λ z. has_come k.extent (code_view v.code) z) here ∙ c.at.2.before)))

  -- the run stopped at a spawn only if it was asked to
  unasked : (spawn : Spawn) → to ≡ stop.Spawned spawn → stops ≡ false → ⊥
  unasked spawn is not = ∥∥₁_elim (sound_of self) ⊥_prop (λ s. ∥∥₁_elim (h.holds s.ok s.job s.is) ⊥_prop (λ d.
      let at = going_of self s.ok s.job e d in
      let ok = ok_with d.ground at.held.runs.outs in
      let came = goes ok (setting_of d.ground) at.state at.held.runs.shows (may_go self s.ok s.job d.ground at.state at.count at.out at.held) in
      true≢false (sym (subst (λ t. StopsAt (its_code self) ok (setting_of d.ground) floor stops limit t done r came.0 came.1) is came.3).1.asked ∙ not)))

  asked : (spawn : Spawn) → to ≡ stop.Spawned spawn → stops ≡ true
  asked spawn is = by stops refl
    where
      by : (b : Bool) → stops ≡ b → stops ≡ true
      by true same = same
      by false same = absurd (unasked spawn is same)

  -- the instructions that the run has executed so far
  pub run_ran : done ≤ limit → RunsOn self (record self { run = r; count = done }) limit stops to
  run_ran le = record { asked = asked; from = low; within = le; still = still; before = before }

-- a run that stopped without an instruction continues from its place
goes_from : (self : Strand) (limit : ℕ) (to : Stop) → HasCome self limit to
    → ((is : IsFit (its_code self)) (j : jobs.Job) (c : CameTo self limit to is j)
    → (self.count ≡ c.later) × RepresentsRunState (its_code self) (ok_with c.ground c.outs) (setting_of c.ground) self.count self.run c.state
    × MayRun (its_code self) (ok_with c.ground c.outs) (setting_of c.ground) (floor_of self) c.state)
    → IsRunning self
goes_from self limit to h at = record {
  keeps = h.keeps;
  spares = h.spares;
  rests = h.rests;
  holds = λ is j job. ∥∥₁_map (h.comes is j job) (λ c.
      let on = at is j c in record {
        ground = c.ground;
        strand = Going c.state c.later c.jobs_out;
        is_of = c.is_of;
        held = subst (λ m. HeldIn self is j c.ground m (Going c.state c.later c.jobs_out)) (sym h.going) (record {
          levels = c.levels;
          runs = record {
            counts = sym on.0;
            outs = c.outs;
            lends = c.lends;
            shows = on.1;
            frozen = on.2.frozen;
          };
          are = c.are;
        });
      });
}

-- the run may execute no more instructions, or is at the join
pub over_goes : (self : Strand) (limit : ℕ) → HasCome self limit stop.Over → IsRunning self
over_goes self limit h = goes_from self limit stop.Over h (λ is j c. (c.at.0, c.at.2.shows, c.at.2.may))

pub join_goes : (self : Strand) (limit : ℕ) → HasCome self limit stop.Joined → IsRunning self
join_goes self limit h = goes_from self limit stop.Joined h (λ is j c. (c.at.0, c.at.1.shows, c.at.1.may))

-- a whole call that is running is before an instruction
pub whole_before : (self : Strand) → IsRunning self → self.mode ≡ mode.Going → (its_parts self).extent ≡ extent.WholeCall → IsBefore self
whole_before self h e whole = record {
  going = e;
  keeps = h.keeps;
  spares = h.spares;
  rests = h.rests;
  comes = λ is j job. ∥∥₁_map (h.holds is j job) (λ d.
      let at = going_of self is j e d in
      let code = code_view (its_code self).code in
      record {
        ground = d.ground;
        state = at.state;
        later = self.count;
        stops = false;
        levels = at.held.levels;
        outs = at.held.runs.outs;
        jobs_out = at.out;
        lends = at.held.runs.lends;
        are = at.held.are;
        is_of = subst (λ n. IsStrandOf code j (Going at.state n at.out)) at.held.runs.counts at.is_of;
        at = (
          refl,
          refl,
          record {
            before = subst (λ y. has_come (extent_of y) code at.state ≡ false) (sym whole) refl;
            shows = at.held.runs.shows;
            may = may_go self is j d.ground at.state at.count at.out at.held;
          },
        );
      });
}
