-- Slices return to the newest job out of a strand that does not continue.
use Rattle.std.proofs.Common.{◌≡◌, suc, ◌+◌, ◌≤◌, true, false, Option, Some, List, [], ◌∷◌, refl, sym, ap, ◌∙◌, subst}
use Rattle.std.specs.Prelude.{reverse, slice_get}
use Rattle.std.proofs.Math.Logic.{∥∥₁_elim, ∥∥₁_map}
use Rattle.std.proofs.lemmas.Bool.{true≢false}
use Rattle.cw_code.specs.Fits.{slots_lent}
use Rattle.cw_code.specs.Run.{State}
use Rattle.cw_slices.specs.Placed.{Placed}
use Rattle.cw_code.specs.Jobs as jobs
use Rattle.cw_code.specs.Strands as strands
use Rattle.cw_code.specs.Strands.{Going, Waits, Halted}
use Rattle.cw_runnable.specs.declared.verified.Verified.{Verified}
use Rattle.cw_jobs.specs.declared.call.Parts.{Parts}
use Rattle.cw_jobs.specs.declared.job.Job.{Job}
use Rattle.cw_jobs.specs.Jobs.{KeepsHomes}
use Rattle.cw_jobs.specs.lemmas.Homes.{unchanged_homes}
use Rattle.cw_machine.specs.declared.machine.Machine.{Machine}
use Rattle.cw_machine.specs.declared.run.Run.{Run}
use Rattle.cw_machine.specs.Calls.{loans_of}
use Rattle.cw_machine.specs.Arrays.{Out, IsFit}
use Rattle.cw_machine.specs.RepresentsState.{Remains}
use Rattle.cw_machine.specs.Unwinding.{LieBelow, ComesTo}
use Rattle.cw_strand.specs.declared.strand.Lent.{Lent}
use Rattle.cw_strand.specs.declared.strand.Mode.{Mode}
use Rattle.cw_strand.specs.declared.strand.Mode.TheVariants as mode
use Rattle.cw_strand.specs.declared.strand.Strand.{Strand}
use Rattle.cw_strand.specs.Levels.{Level}
use Rattle.cw_strand.specs.Holds.{its_parts, its_code, lent_parts, Ground, ok_with, IsLent, Lends, Stands, HeldIn, Holds, AreSpare, IsRunning, stops, is_lost, HasStopped}
use Rattle.cw_strand.specs.Moves.{HasReturnedNewest, HasSpared, MayReach, Reaches}
use Rattle.cw_strand.proofs.RunsOn.{sound_of}
use Rattle.cw_strand.proofs.Same.{same_strand, spare_as, Newest}

-- the newest job out, at any level
pub record Newly (v : Verified) (is : IsFit v) (p : Parts) (base : State) (levels : List Level) (outs : List Out) (x : Lent) (lent : List Lent) : Type 0 where
  pub level : Level
  pub others_levels : List Level
  pub out : Out
  pub others : List Out
  pub are : outs ≡ out ∷ others
  pub is_lent : IsLent v is p base level out x
  pub below : LieBelow others out.first
  pub rest : Lends v is p base others_levels others lent

newly_of : (v : Verified) (is : IsFit v) (p : Parts) (base : State) (levels : List Level) (outs : List Out) (x : Lent) (lent : List Lent)
    → Lends v is p base levels outs (x ∷ lent) → Newly v is p base levels outs x lent
newly_of v is p base [] [] x lent h = absurd h
newly_of v is p base [] (o ∷ outs) x lent h = absurd h
newly_of v is p base (l ∷ levels) [] x lent h = absurd h
newly_of v is p base (l ∷ levels) (o ∷ outs) x lent h = record { level = l; others_levels = levels; out = o; others = outs; are = refl; is_lent = h.0; below = h.1; rest = h.2 }

-- slices that nobody changed are where they were
same_homes : (slices back : List Placed) → back ≡ slices → KeepsHomes slices back []
same_homes slices back e = subst (λ b. KeepsHomes slices b []) (sym e) (unchanged_homes slices)

-- the slices of the newest job returned, whichever boxes are kept
pub record CameHome (old : Strand) (back : List Placed) (replaced : List (Option Placed)) (new : Strand) : Type 0 where
  pub of : new.of ≡ old.of
  pub parts : new.parts ≡ old.parts
  pub count : new.count ≡ old.count
  pub mode : new.mode ≡ old.mode
  pub lines : new.run.machine.lines.items ≡ old.run.machine.lines.items
  pub left : (x : Lent) (xs : List Lent) → reverse old.lent.items ≡ x ∷ xs → reverse new.lent.items ≡ xs
  pub home : (x : Lent) (xs : List Lent) → reverse old.lent.items ≡ x ∷ xs → is_lost old.mode ≡ false → Reaches old.run.machine (its_code old) x.home back replaced new.run.machine

module _ (self : Strand) (job : Job) (others : List Job) (newest : Newest self job others) where
  abbrev v : Verified
  v = its_code self

  abbrev p : Parts
  p = its_parts self

  abbrev pub rest_slices : List Placed
  rest_slices = (lent_parts newest.lent).rest.slices.items

  module _ (is : IsFit (its_code self)) (j : jobs.Job) (g : Ground (its_code self) is (its_parts self) j) (h : Stands self is j g) where
    pub newly : Newly v is p g.base h.levels h.outs newest.lent newest.rest
    newly = newly_of v is p g.base h.levels h.outs newest.lent newest.rest (subst (Lends v is p g.base h.levels h.outs) newest.are h.lends)

    module _ (back : List Placed) (replaced : List (Option Placed)) (homes : KeepsHomes rest_slices back replaced) where
      comes : ComesTo v (ok_with g newly.others) newly.out self.run.machine newest.lent.home.lender.first newest.lent.home.lender.slots (slots_lent (loans_of v newest.lent.home.lent)) back replaced
      comes = record {
        remains = subst (λ o. Remains v (ok_with g o) self.run.machine) newly.are h.remains;
        first = newly.is_lent.first;
        slots_are = newly.is_lent.slots;
        lent_are = newly.is_lent.lent;
        below = subst (LieBelow newly.others) newly.is_lent.first newly.below;
        homes = subst (λ s. KeepsHomes s back replaced) (sym newly.is_lent.slices) homes;
      }

      pub may_home : MayReach self.run.machine v newest.lent.home back replaced
      may_home = record { code = v; ok = ok_with g newly.others; out = newly.out; comes = comes }

      -- the strand's arrays are then known, with the remaining jobs out
      pub stands_on : (new : Strand) (m : Machine) → reverse new.lent.items ≡ newest.rest → Reaches self.run.machine v newest.lent.home back replaced m
          → Stands (record self { run = record new.run { machine = m }; lent = new.lent; count = new.count; spares = new.spares; mode = new.mode }) is j g
      stands_on new m left home = record {
        levels = newly.others_levels;
        outs = newly.others;
        lends = subst (Lends v is p g.base newly.others_levels newly.others) (sym left) newly.rest;
        remains = home v (ok_with g newly.others) newly.out comes;
      }

  pub stands_in : (is : IsFit (its_code self)) (j : jobs.Job) (g : Ground (its_code self) is (its_parts self) j) (m : Mode) (d : strands.Strand)
      → stops m ≡ true → is_lost m ≡ false → HeldIn self is j g m d → Stands self is j g
  stands_in is j g mode.Going d s l h = cc
  stands_in is j g mode.Waiting d s l h = cc
  stands_in is j g mode.Memory d s l h = cc
  stands_in is j g (mode.Trapped c n) (Going t count out) s l h = absurd h
  stands_in is j g (mode.Trapped c n) (Waits t count out) s l h = absurd h
  stands_in is j g (mode.Trapped c n) (Halted e out) s l h = h.1
  stands_in is j g mode.Over (Going t count out) s l h = absurd h
  stands_in is j g mode.Over (Waits t count out) s l h = absurd h
  stands_in is j g mode.Over (Halted e out) s l h = h.1
  stands_in is j g mode.GivenUp (Going t count out) s l h = absurd h
  stands_in is j g mode.GivenUp (Waits t count out) s l h = absurd h
  stands_in is j g mode.GivenUp (Halted e out) s l h = h.1

  -- a strand that has stopped represents what it represented before
  held_on : (is : IsFit (its_code self)) (j : jobs.Job) (g : Ground (its_code self) is (its_parts self) j) (a : Mode) (d : strands.Strand)
      (new : Strand) → new.count ≡ self.count → new.run.machine.lines.items ≡ self.run.machine.lines.items → stops a ≡ true
      → (is_lost a ≡ false → Stands (record self { run = new.run; lent = new.lent; count = new.count; spares = new.spares; mode = new.mode }) is j g)
      → HeldIn self is j g a d → HeldIn (record self { run = new.run; lent = new.lent; count = new.count; spares = new.spares; mode = new.mode }) is j g a d
  held_on is j g mode.Going d new count lines s home h = cc
  held_on is j g mode.Waiting d new count lines s home h = cc
  held_on is j g (mode.Trapped c n) (Going t k out) new count lines s home h = absurd h
  held_on is j g (mode.Trapped c n) (Waits t k out) new count lines s home h = absurd h
  held_on is j g (mode.Trapped c n) (Halted e out) new count lines s home h =
      (h.0 ∙ ap (λ l. jobs.TrapIn c n l self.count) (sym lines) ∙ ap (jobs.TrapIn c n new.run.machine.lines.items) (sym count), home refl)
  held_on is j g mode.Over (Going t k out) new count lines s home h = absurd h
  held_on is j g mode.Over (Waits t k out) new count lines s home h = absurd h
  held_on is j g mode.Over (Halted e out) new count lines s home h = (h.0, home refl)
  held_on is j g mode.GivenUp (Going t k out) new count lines s home h = absurd h
  held_on is j g mode.GivenUp (Waits t k out) new count lines s home h = absurd h
  held_on is j g mode.GivenUp (Halted e out) new count lines s home h = (h.0, home refl)
  held_on is j g mode.Memory (Going t k out) new count lines s home h = absurd h
  held_on is j g mode.Memory (Waits t k out) new count lines s home h = absurd h
  held_on is j g mode.Memory (Halted e out) new count lines s home h = h

  -- a strand after its newest job returned, whatever else changed
  module _ (running : IsRunning self) (new : Strand) (left : reverse new.lent.items ≡ newest.rest) (within : p.before + new.count ≤ p.limit)
      (holds : (is : IsFit (its_code self)) (j : jobs.Job) → Holds self is j
      → ∥ Holds (record self { run = new.run; lent = new.lent; count = new.count; spares = new.spares; mode = new.mode }) is j ∥₁) where
    pub goes_spared : new.of ≡ self.of → new.parts ≡ self.parts → AreSpare new → IsRunning new
    goes_spared of parts bare =
        let same = same_strand (record self { run = new.run; lent = new.lent; count = new.count; spares = new.spares; mode = new.mode }) new of parts refl refl refl refl refl in
        subst IsRunning same (record {
          keeps = record {
            code = running.keeps.code;
            extent = running.keeps.extent;
            site = running.keeps.site;
            detail = running.keeps.detail;
            limit = running.keeps.limit;
            before = running.keeps.before;
            rest = running.keeps.rest;
            within = within;
            range = running.keeps.range;
          };
          spares = subst AreSpare (sym same) bare;
          rests = λ k x e. running.rests (suc k) x (subst (λ l. slice_get l (suc k) ≡ Some x) (sym newest.are) (subst (λ l. slice_get l k ≡ Some x) left e));
          holds = λ is j isj. ∥∥₁_elim (running.holds is j isj) (hlevel) (holds is j);
        })

    pub goes_so : new.of ≡ self.of → new.parts ≡ self.parts → new.spares ≡ self.spares → IsRunning new
    goes_so of parts spares = goes_spared of parts (spare_as self new spares of running.spares)

  -- nobody executed the job
  pub may_skip : IsRunning self → HasStopped self → (back : List Placed) → back ≡ rest_slices → is_lost self.mode ≡ false → ∥ MayReach self.run.machine v newest.lent.home back [] ∥₁
  may_skip running stopped back e known = ∥∥₁_elim (sound_of self) (hlevel) (λ s. ∥∥₁_map (running.holds s.ok s.job s.is) (λ d.
      may_home s.ok s.job d.ground (stands_in s.ok s.job d.ground self.mode d.strand stopped known d.held) back [] (same_homes rest_slices back e)))

  -- a strand that has stopped and whose newest job returned
  module _ (running : IsRunning self) (stopped : HasStopped self) (back : List Placed) (replaced : List (Option Placed)) (new : Strand) (home : CameHome self back replaced new) where
    pub stops_on : AreSpare new → ((is : IsFit (its_code self)) (j : jobs.Job) (g : Ground (its_code self) is (its_parts self) j)
        → Stands self is j g → ∥ KeepsHomes rest_slices back replaced ∥₁) → IsRunning new
    stops_on bare homes = goes_spared running new left within on home.of home.parts bare
      where
        left : reverse new.lent.items ≡ newest.rest
        left = home.left newest.lent newest.rest newest.are

        within : p.before + new.count ≤ p.limit
        within = subst (λ n. p.before + n ≤ p.limit) (sym home.count) running.keeps.within

        on : (is : IsFit (its_code self)) (j : jobs.Job) → Holds self is j → ∥ Holds (record self { run = new.run; lent = new.lent; count = new.count; spares = new.spares; mode = new.mode }) is j ∥₁
        on is j d = at (is_lost self.mode) refl
          where
            held : (is_lost self.mode ≡ false → Stands (record self {
              run = new.run;
              lent = new.lent;
              count = new.count;
              spares = new.spares;
              mode = new.mode;
            }) is j d.ground) → Holds (record self {
              run = new.run;
              lent = new.lent;
              count = new.count;
              spares = new.spares;
              mode = new.mode;
            }) is j
            held stands = record {
              ground = d.ground;
              strand = d.strand;
              is_of = d.is_of;
              held = subst (λ m. HeldIn (record self { run = new.run; lent = new.lent; count = new.count; spares = new.spares; mode = new.mode }) is j d.ground m d.strand) (sym home.mode)
                  (held_on is j d.ground self.mode d.strand new home.count home.lines stopped stands d.held);
            }

            at : (b : _) → is_lost self.mode ≡ b → ∥ Holds (record self { run = new.run; lent = new.lent; count = new.count; spares = new.spares; mode = new.mode }) is j ∥₁
            at true e = ∣ held (λ k. absurd (true≢false (sym e ∙ k))) ∣₁
            at false e =
                let h = stands_in is j d.ground self.mode d.strand stopped e d.held in
                ∥∥₁_map (homes is j d.ground h) (λ k. held (λ q. stands_on is j d.ground h back replaced k new new.run.machine left (home.home newest.lent newest.rest newest.are e)))

pub came_home : (self : Strand) (back : List Placed) (replaced : List (Option Placed)) (popped : Strand) → HasReturnedNewest self back replaced popped → CameHome self back replaced popped
came_home self back replaced popped home = record { of = home.of; parts = home.parts; count = home.count; mode = home.mode; lines = home.lines; left = home.left; home = home.home }

-- the job was skipped
pub skips : (self : Strand) (job : Job) (others : List Job) (newest : Newest self job others) → IsRunning self → HasStopped self
    → (back : List Placed) → back ≡ rest_slices self job others newest → (popped new : Strand) → HasReturnedNewest self back [] popped
    → HasSpared popped new → IsRunning new
skips self job others newest running stopped back e popped new home spared =
    stops_on self job others newest running stopped back [] new (record {
      of = spared.of ∙ home.of;
      parts = spared.parts ∙ home.parts;
      count = spared.count ∙ home.count;
      mode = spared.mode ∙ home.mode;
      lines = ap (λ (r : Run). r.machine.lines.items) spared.run ∙ home.lines;
      left = λ x xs are. ap reverse spared.lent ∙ home.left x xs are;
      home = λ x xs are known. subst (λ (r : Run). Reaches self.run.machine (its_code self) x.home back [] r.machine) (sym spared.run) (home.home x xs are known);
    }) spared.spares (λ is j g h. ∣ same_homes (rest_slices self job others newest) back e ∣₁)
