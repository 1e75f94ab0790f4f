-- A strand of a job of well-formed code always has what its next instruction needs.
use Rattle.std.proofs.Common.{◌≡◌, ℕ, zero, suc, ℤ, pos, Bool, true, false, ◌&&◌, Option, Some, None, List, [], ◌∷◌}
use Rattle.std.proofs.Common.{◌++◌, refl, sym, ap, ◌∙◌, subst, append_assoc}
use Rattle.std.specs.Prelude.{map, slice_get}
use Rattle.std.proofs.lemmas.List.{append-nil}
use Rattle.cw_model.specs.declared.syntax.CallKind.TheVariants.{Spawned}
use Rattle.cw_model.specs.Outcome.{Trace, quiet}
use Rattle.cw_code.specs.declared.code.Func.{Func}
use Rattle.cw_code.specs.Code.{Code}
use Rattle.cw_code.specs.Fits.{Shape, Fits}
use Rattle.cw_code.specs.Run.{Slots, Results, Taken, slot_taken, Waiting, Around, Caller, State, Transition, On, Ends}
use Rattle.cw_code.specs.Run.{Stops, Stuck, settled, Entering, waiting_at, begun, result_of, going_on, step}
use Rattle.cw_code.specs.Good.{slots_in, Seat, Good, IsGiven, AllResume, GoodState, GoodTransition, FitSteps}
use Rattle.cw_code.specs.Good.{FitSettles}
use Rattle.cw_code.specs.lemmas.Slots.{settled_append}
use Rattle.cw_code.specs.lemmas.Runs.{stuck_on}
use Rattle.cw_code.specs.Jobs.{Extent, WholeCall, ToJoin, joins, is_first, has_come, JoinFrame, standing}
use Rattle.cw_code.specs.Jobs.{Arrives, Returns, Falls, Beyond, Lost, moved, travel, Job, job_start}
use Rattle.cw_code.specs.Strands.{spawn_job, resumed}
use Rattle.cw_code.specs.Over.{beneath, results_under, arrived_under, under, transition_under}
use Rattle.cw_code.specs.lemmas.Under.{act_under}
use Rattle.cw_code.specs.lemmas.Budgets.{come_at, none_left, go_one}

-- the base of a run: none for a whole call; for a continuation, the state in which its block would continue
pub data Base : Extent → Type 0 where
  Alone : Base WholeCall
  Upon : State → Base ToJoin

abbrev pub lifted : {x : Extent} → Base x → State → State
lifted Alone s = s
lifted (Upon b) s = under b s

abbrev slots_of_transition : State → Transition → State
slots_of_transition x (On s) = s
slots_of_transition x (Ends v arrays t) = x
slots_of_transition x (Stops trap line lines) = x
slots_of_transition x Stuck = x

-- two states have equal slots
record SameSlots (s s' : State) : Type 0 where
  pub slots : s.slots ≡ s'.slots
  pub arrays : s.arrays ≡ s'.arrays

same_slots : (target : Option ℕ) (v : Option ℤ) (results : Results (List ℤ)) (s s' : State)
    → result_of Spawned target v results s ≡ On s' → SameSlots s s'
same_slots None v results s s' e =
    record
    { slots = ap (λ w. (slots_of_transition s w).slots) e; arrays = ap (λ w. (slots_of_transition s w).arrays) e }
same_slots (Some a) None results s s' e = absurd (stuck_on s' e)
same_slots (Some a) (Some x) results s s' e =
    record
    { slots = ap (λ w. (slots_of_transition s w).slots) e; arrays = ap (λ w. (slots_of_transition s w).arrays) e }

-- arrays that a call may return
abbrev some_back : List Taken → Results (List ℤ)
some_back [] = []
some_back (x ∷ taken) = (slot_taken x, []) ∷ some_back taken

is_back : (taken : List Taken) → slots_in (some_back taken) ≡ map slot_taken taken
is_back [] = refl
is_back (x ∷ taken) = ap (λ ks. slot_taken x ∷ ks) (is_back taken)

-- a value that a call may return
abbrev some_given : Bool → Option ℤ
some_given true = Some (pos 0)
some_given false = None

is_given : (gives : Bool) → IsGiven gives (some_given gives)
is_given true = tt
is_given false = tt

module _ (code : Code) (fits : Fits code) (steps_well : FitSteps code fits) (settles : FitSettles) where
  -- the state after an instruction, placed over the base, is good
  abbrev pub LiftedTransition : {x : Extent} → Base x → Transition → Type 0
  LiftedTransition base (On s) = GoodState code fits (lifted base s)
  LiftedTransition base (Ends v arrays t) = Unit {0}
  LiftedTransition base (Stops trap line lines) = Unit {0}
  LiftedTransition base Stuck = ⊥

  pub lifted_step : (x : Extent) (base : Base x) (s : State) → has_come x code s ≡ false
      → GoodState code fits (lifted base s) → LiftedTransition base (step code s)
  lifted_step x Alone s h good = whole (step code s) (steps_well s good)
    where
      whole : (w : Transition) → GoodTransition code fits w → LiftedTransition Alone w
      whole (On s') k = k
      whole (Ends v arrays t) k = tt
      whole (Stops trap line lines) k = tt
      whole Stuck k = k
  lifted_step x (Upon b) s h good =
      rest (step code s) (subst (GoodTransition code fits) (act_under b ToJoin code s (slice_get code.instrs s.place) h)
      (steps_well (under b s) good))
    where
      rest : (w : Transition) → GoodTransition code fits (transition_under b w) → LiftedTransition (Upon b) w
      rest (On s') k = k
      rest (Ends v arrays t) k = tt
      rest (Stops trap line lines) k = tt
      rest Stuck k = k

  -- a job of well-formed code
  pub record FitJob (job : Job) : Type 0 where
    pub base : Base job.extent
    pub good : GoodState code fits (lifted base (job_start job))

  -- the continuation of a block is good, for all results of its call
  rest_fits : (callee : Func) (w : Waiting) (around : List Around) (limit before : ℕ) → w.kind ≡ Spawned
      → w.operands ≡ [] → AllResume code fits callee (Caller w ∷ around)
      → FitJob (record {
        extent = ToJoin;
        place = w.place;
        slots = w.slots;
        arrays = w.arrays;
        readers = w.readers;
        depth = w.depth;
        limit = limit;
        before = before;
      })
  rest_fits callee w around limit before kind none h =
      let f = h.0.seat.func in
      let shape = h.0.seat.shape in
      let v = some_given callee.gives_int in
      let results = some_back w.taken in
      let r = h.0.on v (is_given callee.gives_int) results (is_back w.taken) quiet in
      let after : State =
      record (going_on w around quiet)
      { slots = r.slots; arrays = r.arrays; results = r.results; arrived = r.arrived } in
      let went : result_of Spawned w.target v results (going_on w around quiet) ≡ On after =
      ap (λ k. result_of k w.target v results (going_on w around quiet)) (sym kind) ∙ r.went in
      let same = same_slots w.target v results (going_on w around quiet) after went in
      record {
        base = Upon (record (going_on w around quiet) { operands = []; results = r.results; arrived = r.arrived });
        good = record {
          seat = h.0.seat;
          call =
              subst (λ ops. Good f shape
              (record (going_on w around quiet) { operands = ops; results = r.results; arrived = r.arrived }))
              none
              (subst (λ x. Good f shape (record (going_on w around quiet) {
                arrays = x;
                results = r.results;
                arrived = r.arrived;
              })) (sym same.arrays)
              (subst (λ x. Good f shape (record after { slots = x })) (sym same.slots) r.good));
          others = h.1;
        };
      }

  -- the job of a spawn is good
  pub hands_fit : (x : Extent) (base : Base x) (s : State) (e : Entering) (limit before : ℕ) → e.kind ≡ Spawned
      → GoodState code fits (lifted base (begun s e)) → FitJob (spawn_job s e.target e.taken limit before)
  hands_fit x base s e limit before kind good =
      cases x base s.around (subst (λ k. GoodState code fits (lifted base (begun s (record e { kind = k })))) kind good)
    where
      cases : (x' : Extent) (base' : Base x') (around : List Around)
          → GoodState code fits (lifted base' (begun (record s { around = around }) (record e { kind = Spawned })))
          → FitJob (spawn_job s e.target e.taken limit before)
      cases x' Alone around g =
          rest_fits g.seat.func (waiting_at s (record e { kind = Spawned })) around limit before refl refl g.others
      cases x' (Upon b) [] g =
          rest_fits g.seat.func (record (waiting_at s (record e { kind = Spawned }))
          { results = s.results ++ b.results; arrived = s.arrived ++ b.arrived; events = _ }) b.around limit
          before refl refl g.others
      cases x' (Upon b) (a ∷ around) g =
          rest_fits g.seat.func (waiting_at s (record e { kind = Spawned })) (beneath b (a ∷ around)) limit before refl
          refl g.others

  -- the state that a run reaches at the join, placed over its base
  pub record Arrived (b : State) (frame : JoinFrame) : Type 0 where
    pub seat : Seat code fits frame.place
    pub slots : Slots ℤ
    pub arrays : Slots (List ℤ)
    pub results : Results ℤ
    pub returned : Results (List ℤ)
    pub good : Good seat.func seat.shape
        (record b {
          place = frame.place;
          operands = frame.operands;
          slots = slots;
          arrays = arrays;
          readers = frame.readers;
          results = results ++ b.results;
          arrived = returned ++ b.arrived;
        })
    pub same : frame.slots ≡ settled results slots
    pub same_arrays : frame.arrays ≡ settled returned arrays
    pub others : AllResume code fits seat.func b.around

  pub arrived : (b : State) (n : ℕ) (s : State) (frame : JoinFrame) (t : Trace) (left : ℕ)
      → GoodState code fits (under b s) → travel ToJoin code n s ≡ Arrives frame t left → Arrived b frame
  arrived b zero s frame t left good e = cases (has_come ToJoin code s) refl
    where
      at : (around : List Around) (j : Bool) → (is_first around && j) ≡ true
          → GoodState code fits (under b (record s { around = around })) → Arrived b (standing s)
      at [] j h g =
          record {
            seat = g.seat;
            slots = s.slots;
            arrays = s.arrays;
            results = s.results;
            returned = s.arrived;
            good = record {
              as_many = g.call.as_many;
              ints = g.call.ints;
              arrays = g.call.arrays;
              readers = g.call.readers;
              cuts = g.call.cuts;
            };
            same = refl;
            same_arrays = refl;
            others = g.others;
          }
      at (a ∷ around) j h g = cc

      cases : (c : Bool) → has_come ToJoin code s ≡ c → Arrived b frame
      cases true h =
          subst (Arrived b) (ap (λ c. elim c [
            | Arrives f u k ↦ f
            | Returns v arrays u k ↦ standing s
            | Falls trap line lines k ↦ standing s
            | Beyond ↦ standing s
            | Lost ↦ standing s
          ])
          (sym (come_at ToJoin code zero s h) ∙ e)) (at s.around (joins (slice_get code.instrs s.place)) h good)
      cases false h = absurd (none (sym (none_left ToJoin code s h) ∙ e))
        where
          none : Beyond ≡ Arrives frame t left → ⊥
          none k = cc
  arrived b (suc n) s frame t left good e =
      cases (has_come ToJoin code s) refl (λ s' good' e'. arrived b n s' frame t left good' e')
    where
      at : (around : List Around) (j : Bool) → (is_first around && j) ≡ true
          → GoodState code fits (under b (record s { around = around })) → Arrived b (standing s)
      at [] j h g =
          record {
            seat = g.seat;
            slots = s.slots;
            arrays = s.arrays;
            results = s.results;
            returned = s.arrived;
            good = record {
              as_many = g.call.as_many;
              ints = g.call.ints;
              arrays = g.call.arrays;
              readers = g.call.readers;
              cuts = g.call.cuts;
            };
            same = refl;
            same_arrays = refl;
            others = g.others;
          }
      at (a ∷ around) j h g = cc

      went : (w : Transition) → LiftedTransition (Upon b) w
          → ((s' : State) → GoodState code fits (under b s') → travel ToJoin code n s' ≡ Arrives frame t left
          → Arrived b frame) → moved w n (λ s'. travel ToJoin code n s') ≡ Arrives frame t left → Arrived b frame
      went (On s') g more k = more s' g k
      went (Ends v arrays u) g more k = cc
      went (Stops trap line lines) g more k = cc
      went Stuck g more k = absurd g

      cases : (c : Bool) → has_come ToJoin code s ≡ c
          → ((s' : State) → GoodState code fits (under b s') → travel ToJoin code n s' ≡ Arrives frame t left
          → Arrived b frame) → Arrived b frame
      cases true h more =
          subst (Arrived b) (ap (λ c. elim c [
            | Arrives f u k ↦ f
            | Returns v arrays u k ↦ standing s
            | Falls trap line lines k ↦ standing s
            | Beyond ↦ standing s
            | Lost ↦ standing s
          ])
          (sym (come_at ToJoin code (suc n) s h) ∙ e))
          (at s.around (joins (slice_get code.instrs s.place)) h good)
      cases false h more =
          went (step code s) (lifted_step ToJoin (Upon b) s h good) more (sym (go_one ToJoin code n s h) ∙ e)

  -- pending results over a state go back into their slots, some of them first
  gone_back : (f : Func) (shape : Shape) (b : State) (frame : JoinFrame) (slots : Slots ℤ) (arrays : Slots (List ℤ))
      (first second others : Results ℤ) (first' second' others' : Results (List ℤ))
      → frame.slots ≡ settled first slots → frame.arrays ≡ settled first' arrays
      → Good f shape (record b {
        place = frame.place;
        operands = frame.operands;
        slots = slots;
        arrays = arrays;
        readers = frame.readers;
        results = first ++ (second ++ others);
        arrived = first' ++ (second' ++ others');
      })
      → Good f shape (record b {
        place = frame.place;
        operands = frame.operands;
        slots = settled second frame.slots;
        arrays = settled second' frame.arrays;
        readers = frame.readers;
        results = others;
        arrived = others';
      })
  gone_back f shape b frame slots arrays first second others first' second' others' same same' g =
      let s : State = record b {
        place = frame.place;
        operands = frame.operands;
        slots = slots;
        arrays = arrays;
        readers = frame.readers;
      } in
      let one = settles f shape s (first ++ second) others (first' ++ second') others'
      (subst (λ r. Good f shape (record s { results = r; arrived = (first' ++ second') ++ others' }))
      (sym (append_assoc first second others))
      (subst (λ r. Good f shape (record s { results = first ++ (second ++ others); arrived = r }))
      (sym (append_assoc first' second' others')) g)) in
      subst (λ x. Good f shape
      (record s { slots = x; arrays = settled second' frame.arrays; results = others; arrived = others' }))
      (settled_append first second slots ∙ ap (settled second) (sym same))
      (subst (λ x. Good f shape
      (record s { slots = settled (first ++ second) slots; arrays = x; results = others; arrived = others' }))
      (settled_append first' second' arrays ∙ ap (settled second') (sym same')) one)

  -- give preserves good states
  pub gives_fit : (x : Extent) (base : Base x) (s : State) (frame : JoinFrame) (t : Trace)
      → GoodState code fits (lifted base s) → Arrived (lifted base s) frame
      → GoodState code fits (lifted base (resumed s frame t))
  gives_fit x Alone s frame t good a =
      let g =
      gone_back a.seat.func a.seat.shape s frame a.slots a.arrays a.results s.results [] a.returned s.arrived []
      a.same a.same_arrays
      (subst (λ r. Good a.seat.func a.seat.shape (record s {
        place = frame.place;
        operands = frame.operands;
        slots = a.slots;
        arrays = a.arrays;
        readers = frame.readers;
        results = a.results ++ r;
        arrived = a.returned ++ (s.arrived ++ []);
      }))
      (sym (append-nil s.results))
      (subst (λ r. Good a.seat.func a.seat.shape (record s {
        place = frame.place;
        operands = frame.operands;
        slots = a.slots;
        arrays = a.arrays;
        readers = frame.readers;
        results = a.results ++ s.results;
        arrived = a.returned ++ r;
      }))
      (sym (append-nil s.arrived)) a.good)) in
      record {
        seat = a.seat;
        call = record { as_many = g.as_many; ints = g.ints; arrays = g.arrays; readers = g.readers; cuts = g.cuts };
        others = a.others;
      }
  gives_fit x (Upon b) s frame t good a = cases s.around a.good a.others
    where
      cases : (around : List Around)
          → Good a.seat.func a.seat.shape (record (under b (record s { around = around })) {
            place = frame.place;
            operands = frame.operands;
            slots = a.slots;
            arrays = a.arrays;
            readers = frame.readers;
            results = a.results ++ results_under b around s.results;
            arrived = a.returned ++ arrived_under b around s.arrived;
          })
          → AllResume code fits a.seat.func (beneath b around)
          → GoodState code fits (under b (resumed (record s { around = around }) frame t))
      cases [] g others =
          let k =
          gone_back a.seat.func a.seat.shape (under b (record s { around = [] })) frame a.slots a.arrays a.results
          s.results b.results a.returned s.arrived b.arrived a.same a.same_arrays g in
          record {
            seat = a.seat;
            call = record { as_many = k.as_many; ints = k.ints; arrays = k.arrays; readers = k.readers; cuts = k.cuts };
            others = others;
          }
      cases (y ∷ around) g others =
          let k =
          gone_back a.seat.func a.seat.shape (under b (record s { around = y ∷ around })) frame a.slots a.arrays
          a.results s.results [] a.returned s.arrived [] a.same a.same_arrays
          (subst (λ r. Good a.seat.func a.seat.shape (record (under b (record s { around = y ∷ around })) {
            place = frame.place;
            operands = frame.operands;
            slots = a.slots;
            arrays = a.arrays;
            readers = frame.readers;
            results = a.results ++ r;
            arrived = a.returned ++ (s.arrived ++ []);
          })) (sym (append-nil s.results))
          (subst (λ r. Good a.seat.func a.seat.shape (record (under b (record s { around = y ∷ around })) {
            place = frame.place;
            operands = frame.operands;
            slots = a.slots;
            arrays = a.arrays;
            readers = frame.readers;
            results = a.results ++ s.results;
            arrived = a.returned ++ r;
          })) (sym (append-nil s.arrived)) g)) in
          record {
            seat = a.seat;
            call = record { as_many = k.as_many; ints = k.ints; arrays = k.arrays; readers = k.readers; cuts = k.cuts };
            others = others;
          }
