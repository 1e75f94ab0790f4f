-- The facts that hold when the continuation of a block returns to the strand that waits for it.
use Rattle.std.proofs.Common.{◌≡◌, ℕ, ◌-◌, ◌≤◌, ℤ, true, Option, Some, None, List, [], ◌∷◌, ◌++◌, length, refl, sym, ap, ◌∙◌, subst, arith}
use Rattle.std.specs.Prelude.{slice_get}
use Rattle.cw_model.specs.Outcome.{Trace, quiet}
use Rattle.cw_slices.specs.Placed.{Placed}
use Rattle.cw_code.specs.declared.code.Func.{Func}
use Rattle.cw_code.specs.Code.{Code, code_view}
use Rattle.cw_code.specs.Fits.{Fits, Shape, slots_lent}
use Rattle.cw_code.specs.Run.{Results, Waiting, Around, State, is_full}
use Rattle.cw_code.specs.Good.{IsNotAmong, slots_in, ints_round, all_of, Good, GoodState, FitSettles}
use Rattle.cw_code.specs.Staying.{SeatsLie, IsInside}
use Rattle.cw_code.specs.lemmas.Lying.{outermost_is}
use Rattle.cw_code.specs.lemmas.Slots.{not_in_first, not_in_second}
use Rattle.cw_code.specs.Jobs as jobs
use Rattle.cw_code.specs.Jobs.{ToJoin, JoinFrame, Came, Arrives, Returns, Falls, Beyond, Lost, course, IsOf, Same, Passed, Short, job_start, JobMeaning, Joined}
use Rattle.cw_code.specs.Over.{beneath, results_under, under}
use Rattle.cw_code.specs.Strands.{Waits, rest_of, rest_at, resumed}
use Rattle.cw_code.specs.Promises.{IsStrandOf}
use Rattle.cw_code.specs.RestsStay.{RestsStayInside}
use Rattle.cw_code.specs.lemmas.JobsFit.{Upon, Arrived, arrived, gives_fit}
use Rattle.cw_runnable.specs.declared.verified.Verified.{Verified}
use Rattle.cw_jobs.specs.declared.call.Parts.{Parts}
use Rattle.cw_jobs.specs.declared.call.Rest.{Rest}
use Rattle.cw_jobs.specs.declared.job.Job.{Job}
use Rattle.cw_jobs.specs.Calls.{placed, HasArrays, HoldsFrame}
use Rattle.cw_jobs.specs.Jobs.{IsJob, KeepsHomes, KeepsEmpty, KeepsFixed}
use Rattle.cw_machine.specs.Arrays.{IsFit}
use Rattle.cw_machine.specs.Calls.{loans_of}
use Rattle.cw_machine.specs.RepresentsState.{Comes, RepresentsState, SharesFrozen}
use Rattle.cw_machine.specs.Rests.{lending}
use Rattle.cw_machine.specs.Gives.{went_on, ComesBut, AreTogether, IsGiving}
use Rattle.cw_machine.specs.Hands.{ComesRound}
use Rattle.cw_machine.specs.lemmas.Joins.{waits_under, went_under, comes_back, comes_back_round}
use Rattle.cw_machine.specs.lemmas.Rounds.{round_many}
use Rattle.cw_strand.specs.declared.strand.Strand.{Strand}
use Rattle.cw_strand.specs.Levels.{Level, ResultWaits, waiting_over}
use Rattle.cw_strand.specs.Holds.{its_parts, its_code, lent_parts, Ground, ok_with}
use Rattle.cw_strand.proofs.RestReads.{frozen_arrives, same_readers}
use Rattle.cw_strand.proofs.RunsOn.{IsHeldBack}
use Rattle.cw_strand.proofs.Same.{Newest}
use Rattle.cw_strand.proofs.TakenBack.{Split, split, rest_out, lends_it}

-- the run of a continuation whose effect is at its join reached the join
pub record ComesThere (code : Code) (job : jobs.Job) (frame : JoinFrame) (t : Trace) : Type 0 where
  pub budget : ℕ
  pub left : ℕ
  pub there : course code job budget ≡ Arrives frame t left

came_of : (code : Code) (job : jobs.Job) (frame : JoinFrame) (t : Trace) (cost : ℕ) (c : Came) → course code job job.limit ≡ c → IsOf c job.limit (Joined frame t cost) → ComesThere code job frame t
came_of code job frame t cost (Arrives f u left) e is = record {
  budget = job.limit;
  left = left;
  there = e ∙ ap (λ x. Arrives x u left) (sym (the_frame is)) ∙ ap (λ x. Arrives frame x left) (sym (the_trace is));
}
  where
    the_frame : Joined frame t cost ≡ Joined f u (job.limit - left) → frame ≡ f
    the_frame q = cc

    the_trace : Joined frame t cost ≡ Joined f u (job.limit - left) → t ≡ u
    the_trace q = cc
came_of code job frame t cost (Returns v arrays u left) e is = cc
came_of code job frame t cost (Falls trap line lines left) e is = cc
came_of code job frame t cost Beyond e is = cc
came_of code job frame t cost Lost e is = absurd is

pub comes_there : (code : Code) (job : jobs.Job) (frame : JoinFrame) (t : Trace) (cost : ℕ) → JobMeaning code job (Joined frame t cost) → ComesThere code job frame t
comes_there code job frame t cost (Same is) = came_of code job frame t cost (course code job job.limit) refl is
comes_there code job frame t cost (Passed e h) = cc
comes_there code job frame t cost (Short e) = cc

-- results, placed over the enclosing blocks of a run
over_results : (b : State) (w : Waiting) (around : List Around) → (waiting_over b w around).results ≡ results_under b around w.results
over_results b w [] = refl
over_results b w (a ∷ around) = refl

under_cons : (b : State) (around : List Around) (r : ℕ × ℤ) (results : Results ℤ) → results_under b around (r ∷ results) ≡ r ∷ results_under b around results
under_cons b [] r results = refl
under_cons b (a ∷ around) r results = refl

out_alone : (s : State) (f : Func) (shape : Shape) → s.operands ≡ [] → Good f shape s → Good f shape (under s (job_start (rest_at s 0 0)))
out_alone s f shape none g =
    let k = subst (λ ops. Good f shape (record s { operands = ops })) none g in
    record { as_many = k.as_many; ints = k.ints; arrays = k.arrays; readers = k.readers; cuts = k.cuts }

same_func : (code : Code) (k l : ℕ) (f g : Func) → slice_get code.funcs k ≡ Some f → slice_get code.funcs l ≡ Some g → k ≡ l → f ≡ g
same_func code k l f g e e' same = let q : Some f ≡ Some g = sym e ∙ ap (slice_get code.funcs) same ∙ e' in cc

-- the start of the continuation that is out, placed over the state in which its block continues, is a good state
out_starts : (code : Code) (fits : Fits code) (s : State) (limit before : ℕ) → s.operands ≡ [] → GoodState code fits s → GoodState code fits (under s (job_start (rest_at s limit before)))
out_starts code fits s limit before none g = record { seat = g.seat; call = out_alone s g.seat.func g.seat.shape none g.call; others = g.others }

-- The newest job out of a strand that waits
module _ (self : Strand) (job : Job) (others : List Job) (newest : Newest self job others) (is : IsFit (its_code self)) (j : jobs.Job)
    (g : Ground (its_code self) is (its_parts self) j) (h : IsHeldBack self is j g) where
  abbrev v : Verified
  v = its_code self

  abbrev code : Code
  code = code_view v.code

  abbrev p : Parts
  p = its_parts self

  abbrev s : State
  s = h.state

  abbrev q : Parts
  q = lent_parts newest.lent

  abbrev l : Level
  l = h.waited.level

  abbrev sp : Split v is p g.base l h.waited.others h.waited.runs.outs newest.lent newest.rest
  sp = split self job others newest is j g h

  -- the job is the continuation of the block in which the strand continues
  abbrev pub out : jobs.Job
  out = rest_at s p.limit q.before

  abbrev pub rests : List jobs.Job
  rests = (rest_out self job others newest is j g h).rests

  rest_is : rest_of l.waiting p.limit q.before ≡ out
  rest_is =
      let b = h.waited.back in
      ap (λ x. record (rest_of l.waiting p.limit q.before) { place = x }) (sym b.place)
      ∙ ap (λ x. record (rest_of l.waiting p.limit q.before) { place = s.place; slots = x }) (sym b.slots)
      ∙ ap (λ x. record (rest_of l.waiting p.limit q.before) { place = s.place; slots = s.slots; arrays = x }) (sym b.arrays)
      ∙ ap (λ x. record (rest_of l.waiting p.limit q.before) { place = s.place; slots = s.slots; arrays = s.arrays; depth = x }) (sym b.depth)
      ∙ ap (λ x. record (rest_of l.waiting p.limit q.before) { place = s.place; slots = s.slots; arrays = s.arrays; depth = s.depth; readers = x }) (sym b.readers)

  pub out_is : IsJob v is q out
  out_is = subst (IsJob v is q) rest_is sp.is_lent.job

  pub waits : IsStrandOf code j (Waits s h.count (out ∷ rests))
  waits =
      subst (λ x. IsStrandOf code j (Waits s h.count (x ∷ rests))) rest_is
      (subst (λ o. IsStrandOf code j (Waits s h.count o)) (rest_out self job others newest is j g h).is h.is_of)

  pub none : s.operands ≡ []
  none = waits.2.0.none

  -- the frame that it reached at the join, by the definitions
  module _ (stay : RestsStayInside) (seats : (code : Code) (fits : Fits code) → SeatsLie code fits) (settles : FitSettles) (frame : JoinFrame)
      (t : Trace) (cost : ℕ) (means : JobMeaning code out (Joined frame t cost)) where
    shown : RepresentsState v (lending (ok_with g sp.others) sp.out) self.run.machine (under g.base s)
    shown = (lends_it self job others newest is j g h).shows

    abbrev there : ComesThere code out frame t
    there = comes_there code out frame t cost means

    came : Arrived code is.fits is.steps settles (under g.base s) frame
    came =
        arrived code is.fits is.steps settles (under g.base s) there.budget (job_start out) frame t there.left
        (out_starts code is.fits (under g.base s) p.limit q.before none shown.good) there.there

    pub good : frame.readers ≡ s.readers → GoodState code is.fits (went_on (under g.base s) frame (waits_under g.base s))
    good reads = subst (GoodState code is.fits) (sym (went_under g.base s frame reads)) (gives_fit code is.fits is.steps settles ToJoin (Upon g.base) s frame quiet shown.good came)

    pub together : AreTogether v (ok_with g sp.others) s.place frame.place
    together = λ seat seat'.
        let lies = seats code is.fits in
        let b = out_is.base in
        let start = subst (IsInside seat.func) (sym (outermost_is s.place b.around out_is.blocks)) (lies.inside s.place seat) in
        let at = subst (IsInside seat.func) (outermost_is frame.place b.around out_is.blocks)
        (stay code is.fits out b seat.index seat.func frame t cost refl out_is.good seat.is_func start means) in
        lies.one frame.place seat.index seat.func seat' seat.is_func at

    -- the frame and the call read the same number of arrays
    reads_as_many : length frame.readers ≡ length s.readers
    reads_as_many =
        let a = came in
        let same = same_func code a.seat.index shown.good.seat.index a.seat.func shown.good.seat.func a.seat.is_func shown.good.seat.is_func (together shown.good.seat a.seat) in
        sym a.good.readers ∙ ap (λ (x : Func). x.readers) same ∙ shown.good.call.readers

    -- the arrays that the run got as shares are only read at the join, too
    pub frozen : SharesFrozen v (ok_with g sp.others) (under g.base (resumed s frame t))
    frozen a lt some =
        frozen_arrives code is.fits is.steps settles is.frozen (under g.base s) (length g.base.around) a
        (placed p.rest.slices.items a).items deep there.budget (job_start out) frame t there.left (record {
          good = out_starts code is.fits (under g.base s) p.limit q.before none shown.good;
          frozen = h.waited.runs.frozen a lt some;
          here = (shown.arrays.5.has a lt some).0;
        }) there.there
      where
        deep : length g.base.around ≤ length (under g.base s).around
        deep = let many = round_many g.base s.around in omega (arith, many)

    module _ (back : Rest) (replaced : List (Option Placed)) (holds : HoldsFrame back frame) (empty : KeepsEmpty out q.rest back replaced)
        (homes : KeepsHomes q.rest.slices.items back.slices.items replaced) (fixed : KeepsFixed v is out.place replaced) where
      pub reads : frame.readers ≡ s.readers
      reads = same_readers q.rest.slices.items back.slices.items replaced homes s.readers frame.readers reads_as_many out_is.holds.reads holds.reads

      abbrev full_apart : (a : ℕ) → is_full (slice_get s.slots a) ≡ true → IsNotAmong a (slots_in (under g.base s).results ++ all_of (ints_round (beneath g.base s.around)))
      full_apart a full = shown.good.call.ints.apart a full

      comes0 : Comes q.rest.cells.items 0 (length s.slots) (results_under g.base s.around l.waiting.results) × ComesRound q.rest.cells.items 0 (length s.slots) (beneath g.base s.around)
      comes0 =
          let c = sp.is_lent.comes in
          let b = h.waited.back in (
            subst (λ a. Comes q.rest.cells.items 0 (length s.slots) (results_under g.base a l.waiting.results)) (sym b.around)
                (subst (λ r. Comes q.rest.cells.items 0 (length s.slots) r) (over_results g.base l.waiting l.around)
                (subst (λ z. Comes q.rest.cells.items 0 (length z) (waiting_over g.base l.waiting l.around).results) (sym b.slots) c.0)),
            subst (λ a. ComesRound q.rest.cells.items 0 (length s.slots) (beneath g.base a)) (sym b.around)
                (subst (λ z. ComesRound q.rest.cells.items 0 (length z) (beneath g.base l.around)) (sym b.slots) c.1),
          )

      -- the values that wait next to the result of the call
      comes_at : (target : Option ℕ) (results : Results ℤ) → ResultWaits target results l.waiting.results
          → ((a : ℕ) → is_full (slice_get s.slots a) ≡ true → IsNotAmong a (slots_in (results_under g.base s.around results)))
          → ComesBut target back.cells.items (results_under g.base s.around results)
      comes_at None results w apart =
          comes_back None s.slots q.rest.cells.items back.cells.items (λ a e. empty.cells a e) (results_under g.base s.around results) apart
          (subst (λ r. Comes q.rest.cells.items 0 (length s.slots) (results_under g.base s.around r)) (sym w) comes0.0)
      comes_at (Some k) results w apart =
          let same : results_under g.base s.around results ≡ (k, w.0) ∷ results_under g.base s.around l.waiting.results =
          ap (results_under g.base s.around) w.1 ∙ under_cons g.base s.around (k, w.0) l.waiting.results in
          subst (ComesBut (Some k) back.cells.items) (sym same) (
            (λ d. absurd (d refl)),
            comes_back (Some k) s.slots q.rest.cells.items back.cells.items (λ a e. empty.cells a e) (results_under g.base s.around l.waiting.results)
                (λ a full. (subst (λ r. IsNotAmong a (slots_in r)) same (apart a full)).1) comes0.0,
          )

      awaits_at : (target : Option ℕ) (results : Results ℤ) → ResultWaits target results l.waiting.results → (a : ℕ) → target ≡ Some a → IsNotAmong a (slots_in results) → ⊥
      awaits_at None results w a e n = cc
      awaits_at (Some k) results w a e n =
          let same : k ≡ a = cc in
          (subst (λ r. IsNotAmong a (slots_in r)) w.1 n).0 (sym same)

      pub giving : IsGiving v (ok_with g sp.others) sp.out self.run.machine (under g.base s) frame
          (waits_under g.base s) back replaced newest.lent.home.lender.slots (slots_lent (loans_of v newest.lent.home.lent)) newest.lent.home.target
      giving =
          let it = lends_it self job others newest is j g h in
          let same = sp.is_lent.slices in
          let w : ResultWaits newest.lent.home.target s.results l.waiting.results = subst (λ o. ResultWaits o s.results l.waiting.results) (sym sp.is_lent.target) h.waited.back.results in
          record {
            slots_are = sp.is_lent.slots;
            lent_are = sp.is_lent.lent;
            readers = reads;
            shows = it.shows;
            above = it.above;
            level = it.level;
            had = subst (λ x. HasArrays x s.arrays) (sym same) out_is.holds.has;
            wide = sp.is_lent.wide ∙ ap length (sym h.waited.back.arrays);
            together = together;
            good = good reads;
            holds = holds;
            homes = subst (λ x. KeepsHomes x back.slices.items replaced) (sym same) homes;
            fixed = fixed;
            slots = record {
              own = λ a e. empty.own a e;
              items = λ a e. empty.slices a e ∙ ap (λ x. (placed x a).items) (sym same);
            };
            comes = comes_at newest.lent.home.target s.results w (λ a full. not_in_first a (slots_in (under g.base s).results) (all_of (ints_round (beneath g.base s.around))) (full_apart a full));
            round = comes_back_round newest.lent.home.target s.slots q.rest.cells.items back.cells.items (λ a e. empty.cells a e) (beneath g.base s.around)
                (λ a full. not_in_second a (slots_in (under g.base s).results) (all_of (ints_round (beneath g.base s.around))) (full_apart a full)) comes0.1;
            awaits = waits_newest newest.lent.home.target w;
          }
        where
          waits_newest : (target : Option ℕ) → ResultWaits target s.results l.waiting.results → (a : ℕ) → target ≡ Some a → IsNotAmong a (slots_in (waits_under g.base s).newest) → ⊥
          waits_newest target w a e n = awaits_at target s.results w a e (subst (λ r. IsNotAmong a (slots_in r)) newest_is n)
            where
              newest_is : (waits_under g.base s).newest ≡ s.results
              newest_is = at s.around
                where
                  at : (around : List Around) → (waits_under g.base (record s { around = around })).newest ≡ s.results
                  at [] = refl
                  at (a ∷ around) = refl
