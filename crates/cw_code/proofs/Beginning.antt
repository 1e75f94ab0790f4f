-- The start of a function, of a call, and of the iterations of a loop, in well-formed code.
use Rattle.std.proofs.Common.{◌≡◌, ℕ, ◌+◌, ◌-◌, ◌<◌, ◌≤◌, ℤ, pos, ◌+ℤ◌, Bool, true, false, ◌&&◌, nat_lt, if◌then◌else◌}
use Rattle.std.proofs.Common.{Option, Some, None, List, [], ◌∷◌, ◌++◌, length, refl, sym, ap, ◌∙◌, subst, arith, length-append}
use Rattle.std.specs.Prelude.{take, drop, map, replicate, slice_get, slice_set, nat_eq, nat_le}
use Rattle.std.proofs.lemmas.List.{length-drop, length-reverse, length-take, length-map, length-replicate}
use Rattle.cw_facts.specs.Tests.{taken, both_true, first_true, second_true, at_most, equal, le_of, lt_of, eq_of}
use Rattle.cw_facts.specs.Lists.{there_at}
use Rattle.cw_code.specs.lemmas.Slots.{not_in_first, whole_slots}
use Rattle.cw_model.specs.declared.trap.Trap.TheVariants as trap
use Rattle.cw_model.specs.declared.limits.TheConstants.{MOST_DEPTH}
use Rattle.cw_model.specs.Ints.{Result, Value, Fails, natural}
use Rattle.cw_model.specs.Loops.{loop_iterations}
use Rattle.cw_model.specs.declared.syntax.CallKind.{CallKind}
use Rattle.cw_model.specs.declared.syntax.CallKind.TheVariants.{Plain, Spawned}
use Rattle.cw_model.specs.Outcome.{Trace}
use Rattle.cw_code.specs.declared.code.Callee.{Callee}
use Rattle.cw_code.specs.declared.code.Func.{Func}
use Rattle.cw_code.specs.declared.code.Inner.{Inner}
use Rattle.cw_code.specs.declared.code.Loan.{Loan}
use Rattle.cw_code.specs.declared.code.Loan.TheVariants.{Array, Reader}
use Rattle.cw_code.specs.Code.{Code}
use Rattle.cw_code.specs.Run.{Slots, Results, Readers, reader, loaned, lent_in, has_readers, lent_by, Whole, Waiting, Around, Caller, Block, State, Transition, On, Stops, Stuck}
use Rattle.cw_code.specs.Run.{ticked, inside, is_full, settled, slots_of, arrays_of}
use Rattle.cw_code.specs.Run.{may_take, slot_taken, moved_out, Entering, arguments_of, has_room, may_keep, may_begin, waiting_at, begun, begins, call_of, on_arrays, enter, recur}
use Rattle.cw_code.specs.Run.{parts_of, looped, on_range, start, given, going_on, returns_to, back}
use Rattle.cw_code.specs.Run.{passed_by}
use Rattle.cw_code.specs.Fits.{params_of, array_params_of, readers_of, gives_value, is_site, names_target, names_callee, is_none_of, names_arrays, names_passed, names_loan, names_loans}
use Rattle.cw_code.specs.Fits.{names_lent, names_inner, Row, Shape, empty_rows, gone_rows, has_slot, has_array, has_arrays, has_loan, has_loans, has_target}
use Rattle.cw_code.specs.Fits.{has_arguments, with_target, with_gone, with_passed, with_lent, none_empty}
use Rattle.cw_code.specs.Fits.{first_shape, Table, FlowsInto, Fits}
use Rattle.cw_code.specs.Good.{slots_in, ints_round, arrays_round, all_of, Holds, CutsAgree, Seat, Good, IsGiven, Resumed}
use Rattle.cw_code.specs.Good.{Resumes, AllResume, GoodState, GoodTransition}
use Rattle.cw_code.proofs.Slots.{slots_in_both}
use Rattle.cw_code.proofs.Keeps.{none_of, AllThere, still_full, finds, with_rows, with_slot, with_taken, with_all_taken, with_settled, begins_full}
use Rattle.cw_code.proofs.Taken.{gives_back, there_arrays, reader_full, AllLoaned, there_lent, part_slots, covered}

module _ (code : Code) (fits : Fits code) where
  pub goes_back : (callee : Func) (around : List Around) (v : Option ℤ) (arrays : Slots (List ℤ)) (t : Trace) → IsGiven callee.gives_int v
      → CutsAgree [] around → callee.arrays ≡ length arrays → ((a : ℕ) → a < length arrays → is_full (slice_get arrays a) ≡ true)
      → AllResume code fits callee around → GoodTransition code fits (back around v arrays t)
  goes_back callee [] v arrays t i c n all h = tt
  goes_back callee (Caller w ∷ around) v arrays t i c n all h =
      let b = gives_back w.taken arrays (let le = h.0.enough in omega (arith, n, le)) all in
      let r = h.0.on v i b.0 b.2 _ in
      subst (λ o. GoodTransition code fits (returns_to w around v o t)) (sym b.1)
      (subst (GoodTransition code fits) (sym r.went) (record { seat = h.0.seat; call = r.good; others = h.1 }))
  goes_back callee (Block o ∷ around) v arrays t i c n all h = absurd c

  abbrev pub table_at : (place : ℕ) → Seat code fits place → Table
  table_at place seat = (fits.each seat.index seat.func seat.is_func).table

  -- the seat of a place into which a static state flows
  abbrev next_seat : (place : ℕ) (seat : Seat code fits place) (next : ℕ) (out : Shape) → FlowsInto (table_at place seat) next out → Seat code fits next
  next_seat place seat next out l = record { index = seat.index; func = seat.func; is_func = seat.is_func; shape = l.there; at = l.found }

  takes : (place : ℕ) (seat : Seat code fits place) (out : Shape) (s : State) (next : ℕ) (l : FlowsInto (table_at place seat) next out) → Good seat.func out s → Good seat.func l.there s
  takes place seat out s next l g = covered seat.func l.there out s l.as_many (l.covers, l.covers_gone, l.covers_frozen, refl, l.covers_outer) g

  pub arrives : (place : ℕ) (seat : Seat code fits place) (out : Shape) (s : State) (l : FlowsInto (table_at place seat) s.place out)
      → Good seat.func out s → AllResume code fits seat.func s.around → GoodState code fits s
  arrives place seat out s l g others = record { seat = next_seat place seat s.place out l; call = takes place seat out s s.place l g; others = others }

  -- a function starts in a good state
  pub starts_well : (k : ℕ) (f : Func) → slice_get code.funcs k ≡ Some f
      → (arguments : List ℤ) (given : List (List ℤ)) (lent : Readers) (depth : ℕ) (around : List Around) (t : Trace) → length arguments ≡ f.params
      → length given ≡ f.array_params → length lent ≡ f.readers
      → ints_round around ≡ [] → arrays_round around ≡ [] → CutsAgree [] around → AllResume code fits f around
      → GoodState code fits (record {
        place = f.start;
        operands = [];
        slots = slots_of f arguments;
        arrays = arrays_of f given;
        readers = lent;
        results = [];
        arrived = [];
        depth = depth;
        around = around;
        trace = t;
      })
  starts_well k f is arguments given lent depth around t n n' n'' e e' c others =
      let h = fits.each k f is in
      let l = h.is_table.starts in
      let room = h.room in
      let room' = h.array_room in
      let s : State = record {
        place = f.start;
        operands = [];
        slots = slots_of f arguments;
        arrays = arrays_of f given;
        readers = lent;
        results = [];
        arrived = [];
        depth = depth;
        around = around;
        trace = t;
      } in
      let ints = begins_full f.slots (arguments ++ replicate (f.slots - f.params) (pos 0))
      (length-append arguments (replicate (f.slots - f.params) (pos 0)) ∙ omega (arith, n, room, length-replicate (f.slots - f.params) (pos 0))) in
      let arrays = begins_full f.arrays (given ++ replicate (f.arrays - f.array_params) [])
      (length-append given (replicate (f.arrays - f.array_params) [])
      ∙ (let m : length {A = List ℤ} (replicate (f.arrays - f.array_params) [])
      ≡ f.arrays - f.array_params = length-replicate (f.arrays - f.array_params) [] in omega (arith, n', room', m))) in
      record {
        seat = record { index = k; func = f; is_func = is; shape = l.there; at = l.found };
        call = covered f l.there (first_shape f) s l.as_many (l.covers, l.covers_gone, l.covers_frozen, refl, l.covers_outer) (record {
          as_many = refl;
          ints = subst (λ os. Holds f.slots (none_empty f.slots) [] (slots_of f arguments) [] os) (sym e) ints;
          arrays = subst (λ os. Holds f.arrays (none_empty f.arrays) [] (arrays_of f given) [] os) (sym e') arrays;
          readers = sym n'';
          cuts = c;
        });
        others = others;
      }

  module _ (s : State) (good : GoodState code fits s) where
    abbrev seat : Seat code fits s.place
    seat = good.seat

    abbrev shape : Shape
    shape = good.seat.shape

    abbrev g : Good seat.func shape s
    g = good.call

    abbrev table : Table
    table = table_at s.place seat

    pub full_slot : (a : ℕ) → has_slot shape a ≡ true → is_full (slice_get s.slots a) ≡ true
    full_slot a h = finds seat.func.slots shape.empty (empty_rows shape.outer) s.slots (slots_in s.results) (ints_round s.around) g.ints a h

    pub full_array : (a : ℕ) → has_array shape a ≡ true → is_full (slice_get s.arrays a) ≡ true
    full_array a h = finds seat.func.arrays shape.gone (gone_rows shape.outer) s.arrays (slots_in s.arrived) (arrays_round s.around) g.arrays a h

    -- the arrays that an instruction names can be taken
    pub all_there : (width : ℕ) (passed : List ℕ) → names_arrays width passed ≡ true → has_arrays shape passed ≡ true → AllThere passed s.arrays
    all_there width [] n h = tt
    all_there width (a ∷ passed) n h =
        let rest = second_true (nat_lt a width) (is_none_of a passed && names_arrays width passed) n in (
          none_of a passed (first_true (is_none_of a passed) (names_arrays width passed) rest),
          full_array a (first_true (has_array shape a) (has_arrays shape passed) h),
          all_there width passed (second_true (is_none_of a passed) (names_arrays width passed) rest) (second_true (has_array shape a) (has_arrays shape passed) h),
        )

    -- the premises of a call, and the state of its caller during the call
    record Enters (e : Entering) : Type 0 where
      pub index : ℕ
      pub is : slice_get code.funcs index ≡ Some e.func
      pub enough : e.func.params ≤ length s.operands
      pub arguments : length e.arguments ≡ e.func.params
      pub given : length e.given ≡ e.func.array_params
      pub many : length e.taken ≡ e.func.array_params
      pub lent : length e.lent ≡ e.func.readers
      pub there : AllThere (map slot_taken e.taken) s.arrays
      pub target : has_target shape e.target ≡ true
      pub gives : (a : ℕ) → e.target ≡ Some a → e.func.gives_int ≡ true
      pub keeps : has_arguments e.kind e.func.params shape.operands ≡ true
      pub frozen : Row
      pub leads : FlowsInto table (s.place + 1) (record shape {
        operands = shape.operands - e.func.params;
        empty = with_target e.kind e.target shape.empty;
        gone = with_passed e.kind (map slot_taken e.taken) shape.gone;
        frozen = frozen;
      })

    module _ (e : Entering) (h : Enters e) where
      -- the arrays of the caller during the call, and after the call returned its arrays
      arrays_gone : Holds seat.func.arrays (with_gone (map slot_taken e.taken) shape.gone) (gone_rows shape.outer)
          (moved_out (map slot_taken e.taken) s.arrays) (map slot_taken e.taken ++ slots_in s.arrived) (arrays_round s.around)
      arrays_gone = with_all_taken seat.func.arrays (map slot_taken e.taken) shape.gone (gone_rows shape.outer) s.arrays (slots_in s.arrived) (arrays_round s.around) h.there g.arrays

      arrays_back : (results : Results (List ℤ)) → slots_in results ≡ map slot_taken e.taken
          → Holds seat.func.arrays shape.gone (gone_rows shape.outer) (settled results (moved_out (map slot_taken e.taken) s.arrays))
          (slots_in s.arrived) (arrays_round s.around)
      arrays_back results same =
          let k = with_settled seat.func.arrays (with_gone (map slot_taken e.taken) shape.gone) (gone_rows shape.outer)
          (moved_out (map slot_taken e.taken) s.arrays) results (slots_in s.arrived) (arrays_round s.around)
          (subst (λ ws. Holds seat.func.arrays (with_gone (map slot_taken e.taken) shape.gone) (gone_rows shape.outer)
          (moved_out (map slot_taken e.taken) s.arrays) (ws ++ slots_in s.arrived) (arrays_round s.around)) (sym same) arrays_gone) in
          with_rows seat.func.arrays (with_gone (map slot_taken e.taken) shape.gone) shape.gone (gone_rows shape.outer) (gone_rows shape.outer)
          (settled results (moved_out (map slot_taken e.taken) s.arrays)) (slots_in s.arrived) (arrays_round s.around) g.arrays.row_holds g.arrays.rows_hold k

      arrays_wait : (results : Results (List ℤ)) → slots_in results ≡ map slot_taken e.taken
          → Holds seat.func.arrays (with_gone (map slot_taken e.taken) shape.gone) (gone_rows shape.outer)
          (moved_out (map slot_taken e.taken) s.arrays) (slots_in (results ++ s.arrived)) (arrays_round s.around)
      arrays_wait results same =
          subst (λ ws. Holds seat.func.arrays (with_gone (map slot_taken e.taken) shape.gone) (gone_rows shape.outer) (moved_out (map slot_taken e.taken) s.arrays) ws (arrays_round s.around))
          (ap (λ ws. ws ++ slots_in s.arrived) (sym same) ∙ sym (slots_in_both results s.arrived)) arrays_gone

      -- the static state of the caller, for a kind of call and a slot for its result
      abbrev left_by : CallKind → Option ℕ → Shape
      left_by kind target = record shape {
        operands = shape.operands - e.func.params;
        empty = with_target kind target shape.empty;
        gone = with_passed kind (map slot_taken e.taken) shape.gone;
        frozen = h.frozen;
      }

      abbrev called_by : CallKind → Option ℕ → Waiting
      called_by kind target = waiting_at s (record e { kind = kind; target = target })

      plain_count : shape.operands - e.func.params ≡ length (drop e.func.params s.operands)
      plain_count = let n = g.as_many in omega (arith, n, length-drop e.func.params s.operands)

      spawned_count : has_arguments Spawned e.func.params shape.operands ≡ true → shape.operands - e.func.params ≡ 0
      spawned_count k = let n = eq_of e.func.params shape.operands k in omega (arith, n)

      waits : (kind : CallKind) (target : Option ℕ) → has_arguments kind e.func.params shape.operands ≡ true → has_target shape target ≡ true
          → ((a : ℕ) → target ≡ Some a → e.func.gives_int ≡ true) → (l : FlowsInto table (s.place + 1) (left_by kind target))
          → (v : Option ℤ) → IsGiven e.func.gives_int v → (results : Results (List ℤ)) → slots_in results ≡ map slot_taken e.taken → (t : Trace)
          → Resumed seat.func l.there (called_by kind target) v results s.around t
      waits Plain None k there gives l v i results same t = record {
        slots = s.slots;
        arrays = settled results (moved_out (map slot_taken e.taken) s.arrays);
        results = s.results;
        arrived = s.arrived;
        went = refl;
        good = takes s.place seat (left_by Plain None) (record (going_on (called_by Plain None) s.around t) { arrays = settled results (moved_out (map slot_taken e.taken) s.arrays) }) (s.place + 1) l
            (record { as_many = plain_count; ints = g.ints; arrays = arrays_back results same; readers = g.readers; cuts = g.cuts });
      }
      waits Plain (Some a) k there gives l None i results same t = absurd (subst (λ b. IsGiven b None) (gives a refl) i)
      waits Plain (Some a) k there gives l (Some v) i results same t = record {
        slots = slice_set s.slots a (Some v);
        arrays = settled results (moved_out (map slot_taken e.taken) s.arrays);
        results = s.results;
        arrived = s.arrived;
        went = taken (is_full (slice_get s.slots a)) (On (record (going_on (called_by Plain (Some a)) s.around t)
            { slots = slice_set s.slots a (Some v); arrays = settled results (moved_out (map slot_taken e.taken) s.arrays) })) Stuck (full_slot a there);
        good = takes s.place seat (left_by Plain (Some a)) (record (going_on (called_by Plain (Some a)) s.around t)
            { slots = slice_set s.slots a (Some v); arrays = settled results (moved_out (map slot_taken e.taken) s.arrays) }) (s.place + 1) l
            (record {
              as_many = plain_count;
              ints = with_slot seat.func.slots shape.empty (empty_rows shape.outer) s.slots (slots_in s.results) (ints_round s.around) a v (full_slot a there) g.ints;
              arrays = arrays_back results same;
              readers = g.readers;
              cuts = g.cuts;
            });
      }
      waits Spawned None k there gives l v i results same t = record {
        slots = s.slots;
        arrays = moved_out (map slot_taken e.taken) s.arrays;
        results = s.results;
        arrived = results ++ s.arrived;
        went = refl;
        good = takes s.place seat (left_by Spawned None) (record (going_on (called_by Spawned None) s.around t) { arrived = results ++ s.arrived }) (s.place + 1) l
            (record { as_many = spawned_count k; ints = g.ints; arrays = arrays_wait results same; readers = g.readers; cuts = g.cuts });
      }
      waits Spawned (Some a) k there gives l None i results same t = absurd (subst (λ b. IsGiven b None) (gives a refl) i)
      waits Spawned (Some a) k there gives l (Some v) i results same t = record {
        slots = slice_set s.slots a None;
        arrays = moved_out (map slot_taken e.taken) s.arrays;
        results = (a, v) ∷ s.results;
        arrived = results ++ s.arrived;
        went = refl;
        good = takes s.place seat (left_by Spawned (Some a)) (record (going_on (called_by Spawned (Some a)) s.around t)
            { results = (a, v) ∷ s.results; arrived = results ++ s.arrived }) (s.place + 1) l
            (record {
              as_many = spawned_count k;
              ints = with_taken seat.func.slots shape.empty (empty_rows shape.outer) s.slots (slots_in s.results) (ints_round s.around) a (full_slot a there) g.ints;
              arrays = arrays_wait results same;
              readers = g.readers;
              cuts = g.cuts;
            });
      }

      may_take_it : (kind : CallKind) (target : Option ℕ) → has_target shape target ≡ true → may_take kind target s.slots ≡ true
      may_take_it Plain target k = refl
      may_take_it Spawned None k = refl
      may_take_it Spawned (Some a) k = full_slot a k

      may_keep_it : (kind : CallKind) → has_arguments kind e.func.params shape.operands ≡ true → may_keep kind (drop e.func.params s.operands) ≡ true
      may_keep_it Plain k = refl
      may_keep_it Spawned k = none (drop e.func.params s.operands) (sym plain_count ∙ spawned_count k)
        where
          none : (ops : List ℤ) → length ops ≡ 0 → may_keep Spawned ops ≡ true
          none [] n = refl
          none (v ∷ ops) n = absurd (omega (arith, n))

      -- a call whose premises hold starts in a good state
      begins_well : GoodTransition code fits (begins s e)
      begins_well =
          let f = fits.each h.index e.func h.is in
          let enough = h.enough in
          let many = h.many in
          let room' = f.array_room in
          let some = both_true (nat_eq (length e.given) e.func.array_params) (nat_le e.func.array_params e.func.arrays)
          (equal (length e.given) e.func.array_params h.given) (at_most e.func.array_params e.func.arrays room') in
          let room = both_true (nat_le e.func.params (length s.operands))
          (nat_le e.func.params e.func.slots && (nat_eq (length e.given) e.func.array_params && nat_le e.func.array_params e.func.arrays))
          (at_most e.func.params (length s.operands) enough)
          (both_true (nat_le e.func.params e.func.slots) (nat_eq (length e.given) e.func.array_params && nat_le e.func.array_params e.func.arrays) (at_most e.func.params e.func.slots f.room) some) in
          let keeps = both_true (may_take e.kind e.target s.slots) (may_keep e.kind (drop e.func.params s.operands)) (may_take_it e.kind e.target h.target) (may_keep_it e.kind h.keeps) in
          let may = both_true (has_room e.func s.operands e.given) (has_readers e.func e.lent && (may_take e.kind e.target s.slots && may_keep e.kind (drop e.func.params s.operands))) room
          (both_true (has_readers e.func e.lent) (may_take e.kind e.target s.slots && may_keep e.kind (drop e.func.params s.operands)) (equal (length e.lent) e.func.readers h.lent) keeps) in
          let resumes : Resumes code fits e.func (waiting_at s e) s.around = record {
            seat = next_seat s.place seat (s.place + 1) (left_by e.kind e.target) h.leads;
            enough = omega (arith, many, room');
            apart = λ a k. not_in_first a (map slot_taken e.taken) (slots_in s.arrived)
                (not_in_first a (map slot_taken e.taken ++ slots_in s.arrived) (all_of (arrays_round s.around)) (arrays_gone.apart a k));
            on = waits e.kind e.target h.keeps h.target h.gives h.leads;
          } in
          subst (GoodTransition code fits) (sym (taken (may_begin s e) (On (begun s e)) Stuck may))
          (starts_well h.index e.func h.is e.arguments e.given e.lent e.depth (Caller (waiting_at s e) ∷ s.around)
          (inside (ticked s.trace)) h.arguments h.given h.lent refl refl tt (resumes, good.others))

    -- the callee of a call, and the slots of the arrays that it takes
    record Named (function : ℕ) (passed : List ℕ) : Type 0 where
      pub func : Func
      pub is : slice_get code.funcs function ≡ Some func
      pub many : length passed ≡ func.array_params
      pub slots : names_arrays seat.func.arrays passed ≡ true

    named : (function : ℕ) (passed : List ℕ) → names_passed code seat.func function passed ≡ true → Named function passed
    named function passed n =
        let f = there_at code.funcs function (lt_of function (length code.funcs) (first_true _ _ n)) in
        let rest = second_true (nat_lt function (length code.funcs)) (nat_eq (length passed) (array_params_of (slice_get code.funcs function)) && names_arrays seat.func.arrays passed) n in
        record {
          func = f.0;
          is = f.1;
          many = eq_of (length passed) (array_params_of (slice_get code.funcs function)) (first_true _ _ rest) ∙ ap array_params_of f.1;
          slots = second_true (nat_eq (length passed) (array_params_of (slice_get code.funcs function))) (names_arrays seat.func.arrays passed) rest;
        }

    -- the number of lent arrays is the number that the callee reads
    lent_many : (function : ℕ) (passed : List ℕ) (loans : List Loan) (n : Named function passed) → names_lent code seat.func function passed loans ≡ true → length loans ≡ n.func.readers
    lent_many function passed loans n h = eq_of (length loans) (readers_of (slice_get code.funcs function)) (first_true _ _ h) ∙ ap readers_of n.is

    -- an array that a call was lent exists
    pub reader_there : (r : ℕ) → nat_lt r seat.func.readers ≡ true → is_full (reader s.readers r) ≡ true
    reader_there r n = let e = g.readers in reader_full s.readers r (omega (arith, lt_of r seat.func.readers n, e))

    -- an array that a call lends exists, and the call does not take it
    loan_there : (passed : List ℕ) (loan : Loan) → names_loan seat.func passed loan ≡ true → has_loan shape loan ≡ true → is_full (loaned loan (moved_out passed s.arrays) s.readers) ≡ true
    loan_there passed (Array a) n h = still_full passed s.arrays a (none_of a passed (second_true (nat_lt a seat.func.arrays) (is_none_of a passed) n)) (full_array a h)
    loan_there passed (Reader r) n h = reader_there r n

    all_loaned : (passed : List ℕ) (loans : List Loan) → names_loans seat.func passed loans ≡ true → has_loans shape loans ≡ true → AllLoaned loans (moved_out passed s.arrays) s.readers
    all_loaned passed [] n h = tt
    all_loaned passed (loan ∷ loans) n h = (
      loan_there passed loan (first_true (names_loan seat.func passed loan) (names_loans seat.func passed loans) n) (first_true (has_loan shape loan) (has_loans shape loans) h),
      all_loaned passed loans (second_true (names_loan seat.func passed loan) (names_loans seat.func passed loans) n) (second_true (has_loan shape loan) (has_loans shape loans) h),
    )

    arguments_count : (f : Func) → f.params ≤ length s.operands → length (arguments_of f s.operands) ≡ f.params
    arguments_count f le = length-reverse (take f.params s.operands) ∙ omega (arith, length-take f.params s.operands, le)

    enough_so : (kind : CallKind) (params : ℕ) → has_arguments kind params shape.operands ≡ true → params ≤ length s.operands
    enough_so Plain params k = let n = g.as_many in omega (arith, n, le_of params shape.operands k)
    enough_so Spawned params k = let n = g.as_many in omega (arith, n, eq_of params shape.operands k)

    -- a call with the whole arrays in these slots
    whole_enters : (kind : CallKind) (site target : Option ℕ) (depth : ℕ) (function : ℕ) (passed : List ℕ) (n : Named function passed)
        (given : List (List ℤ)) (lent : Readers) (frozen : Row) → length given ≡ length passed → length lent ≡ n.func.readers → AllThere passed s.arrays
        → has_arguments kind n.func.params shape.operands ≡ true → has_target shape target ≡ true → ((a : ℕ) → target ≡ Some a → n.func.gives_int ≡ true)
        → FlowsInto table (s.place + 1) (record shape {
          operands = shape.operands - n.func.params;
          empty = with_target kind target shape.empty;
          gone = with_passed kind passed shape.gone;
          frozen = frozen;
        })
        → Enters (record {
          kind = kind;
          site = site;
          target = target;
          depth = depth;
          func = n.func;
          arguments = arguments_of n.func s.operands;
          given = given;
          taken = map (λ a. Whole a) passed;
          lent = lent;
        })
    whole_enters kind site target depth function passed n given lent frozen e e' there keeps has gives l = record {
      index = function;
      is = n.is;
      enough = enough_so kind n.func.params keeps;
      arguments = arguments_count n.func (enough_so kind n.func.params keeps);
      given = e ∙ n.many;
      many = length-map passed (λ a. Whole a) ∙ n.many;
      lent = e';
      there = subst (λ p. AllThere p s.arrays) (sym (whole_slots passed)) there;
      target = has;
      gives = gives;
      keeps = keeps;
      frozen = frozen;
      leads = subst (λ p. FlowsInto table (s.place + 1) (record shape {
        operands = shape.operands - n.func.params;
        empty = with_target kind target shape.empty;
        gone = with_passed kind p shape.gone;
        frozen = frozen;
      })) (sym (whole_slots passed)) l;
    }

    -- the number of parameters of a callee, by its index
    params_are : (function : ℕ) (passed : List ℕ) (n : Named function passed) → params_of (slice_get code.funcs function) ≡ n.func.params
    params_are function passed n = ap params_of n.is

    pub enters_well : (kind : CallKind) (c : Callee) → (names_callee code seat.func kind c && names_lent code seat.func c.function (passed_by code c.passed) (lent_by code c.lent)) ≡ true
        → ((has_arguments kind (params_of (slice_get code.funcs c.function)) shape.operands
        && (has_target shape c.target && has_arrays shape (passed_by code c.passed))) && has_loans shape (lent_by code c.lent)) ≡ true
        → FlowsInto table (s.place + 1) (record shape {
          operands = shape.operands - params_of (slice_get code.funcs c.function);
          empty = with_target kind c.target shape.empty;
          gone = with_passed kind (passed_by code c.passed) shape.gone;
          frozen =
              with_lent kind (lent_by code c.lent) shape.frozen;
        })
        → GoodTransition code fits (enter s kind c (passed_by code c.passed) (lent_by code c.lent) (slice_get code.funcs c.function))
    enters_well kind c names found l =
        let passed = passed_by code c.passed in
        let loans = lent_by code c.lent in
        let params = params_of (slice_get code.funcs c.function) in
        let n = first_true (names_callee code seat.func kind c) (names_lent code seat.func c.function passed loans) names in
        let named_lent = second_true (names_callee code seat.func kind c) (names_lent code seat.func c.function passed loans) names in
        let r = first_true (has_arguments kind params shape.operands && (has_target shape c.target && has_arrays shape passed)) (has_loans shape loans) found in
        let f = named c.function passed (first_true (names_passed code seat.func c.function passed) _ n) in
        let target = second_true (is_site kind c (slice_get code.sites (c.site - 1))) (names_target code seat.func c c.target)
        (second_true (nat_lt 0 c.site) (is_site kind c (slice_get code.sites (c.site - 1)) && names_target code seat.func c c.target)
        (second_true (names_passed code seat.func c.function passed) _ n)) in
        let keeps = subst (λ k. has_arguments kind k shape.operands ≡ true) (params_are c.function passed f)
        (first_true (has_arguments kind params shape.operands) (has_target shape c.target && has_arrays shape passed) r) in
        let rest = second_true (has_arguments kind params shape.operands) (has_target shape c.target && has_arrays shape passed) r in
        let there = all_there seat.func.arrays passed f.slots (second_true (has_target shape c.target) (has_arrays shape passed) rest) in
        let given = there_arrays passed s.arrays there in
        let loaned_all = all_loaned passed loans (second_true (nat_eq (length loans) (readers_of (slice_get code.funcs c.function)))
        (names_loans seat.func passed loans) named_lent) (second_true (has_arguments kind params shape.operands
        && (has_target shape c.target && has_arrays shape passed)) (has_loans shape loans) found) in
        let lent = there_lent loans (moved_out passed s.arrays) s.readers loaned_all in
        let frozen = with_lent kind loans shape.frozen in
        let lead = subst (λ k. FlowsInto table (s.place + 1) (record shape {
          operands = shape.operands - k;
          empty = with_target kind c.target shape.empty;
          gone = with_passed kind passed shape.gone;
          frozen = frozen;
        })) (params_are c.function passed f) l in
        let enters = whole_enters kind (Some c.site) c.target (s.depth + 1) c.function passed f given.0 lent.0 frozen given.2
        (lent.2 ∙ lent_many c.function passed loans f named_lent) there keeps
        (first_true (has_target shape c.target) (has_arrays shape passed) rest)
        (λ a e. gives f.func f.is a (subst (λ o. names_target code seat.func c o ≡ true) e target)) lead in
        subst (λ o. GoodTransition code fits (enter s kind c passed loans o)) (sym f.is)
        (subst (λ o. GoodTransition code fits (if nat_lt MOST_DEPTH (s.depth + 1) then Stops trap.TooDeep c.line s.trace.lines
        else on_arrays o (λ xs. on_arrays (lent_in loans (moved_out passed s.arrays) s.readers)
        (λ ys. begins s (call_of s kind c passed f.func xs ys))))) (sym given.1)
        (subst (λ o. GoodTransition code fits (if nat_lt MOST_DEPTH (s.depth + 1) then Stops trap.TooDeep c.line s.trace.lines
        else on_arrays o (λ ys. begins s (call_of s kind c passed f.func given.0 ys)))) (sym lent.1)
        (either (nat_lt MOST_DEPTH (s.depth + 1)) _ (begins_well _ enters))))
      where
        gives : (f : Func) → slice_get code.funcs c.function ≡ Some f → (a : ℕ) → names_target code seat.func c (Some a) ≡ true → f.gives_int ≡ true
        gives f is a h = sym (ap gives_value is) ∙ second_true (nat_lt a seat.func.slots) (gives_value (slice_get code.funcs c.function)) h

        either : (b : Bool) (w : Transition) → GoodTransition code fits w → GoodTransition code fits (if b then Stops trap.TooDeep c.line s.trace.lines else w)
        either true w h = tt
        either false w h = h

    pub recurs_well : (kind : CallKind) (c : Inner) → names_inner code seat.func c ≡ true
        → (has_arguments kind (params_of (slice_get code.funcs c.function)) shape.operands && has_arrays shape (passed_by code c.passed)) ≡ true
        → FlowsInto table (s.place + 1) (record shape {
          operands = shape.operands - params_of (slice_get code.funcs c.function);
          empty = with_target kind None shape.empty;
          gone = with_passed kind (passed_by code c.passed) shape.gone;
        })
        → GoodTransition code fits (recur s kind (passed_by code c.passed) (slice_get code.funcs c.function))
    recurs_well kind c names r l =
        let passed = passed_by code c.passed in
        let params = params_of (slice_get code.funcs c.function) in
        let n = first_true (names_passed code seat.func c.function passed) (names_lent code seat.func c.function passed []) names in
        let f = named c.function passed n in
        let keeps = subst (λ k. has_arguments kind k shape.operands ≡ true) (params_are c.function passed f) (first_true (has_arguments kind params shape.operands) (has_arrays shape passed) r) in
        let there = all_there seat.func.arrays passed f.slots (second_true (has_arguments kind params shape.operands) (has_arrays shape passed) r) in
        let given = there_arrays passed s.arrays there in
        let lead = subst (λ k. FlowsInto table (s.place + 1) (record shape
        { operands = shape.operands - k; empty = with_target kind None shape.empty; gone = with_passed kind passed shape.gone }))
        (params_are c.function passed f) l in
        let none_lent = lent_many c.function passed [] f (second_true (names_passed code seat.func c.function passed) (names_lent code seat.func c.function passed []) names) in
        let enters = whole_enters kind None None s.depth c.function passed f given.0 [] shape.frozen given.2 none_lent there keeps refl (λ a e. absurd (none a e)) lead in
        subst (λ o. GoodTransition code fits (recur s kind passed o)) (sym f.is)
        (subst (λ o. GoodTransition code fits (on_arrays o (λ xs. begins s
        (record {
          kind = kind;
          site = None;
          target = None;
          depth = s.depth;
          func = f.func;
          arguments = arguments_of f.func s.operands;
          given = xs;
          taken = map (λ a. Whole a) passed;
          lent = [];
        })))) (sym given.1)
        (begins_well _ enters))
      where
        none : (a : ℕ) → None ≡ Some a → ⊥
        none a e = cc

    pub starts_loop : (c : Inner) (line : ℕ) → (names_inner code seat.func c && nat_le 2 (params_of (slice_get code.funcs c.function))) ≡ true
        → (nat_le (params_of (slice_get code.funcs c.function)) shape.operands && has_arrays shape (passed_by code c.passed)) ≡ true
        → FlowsInto table (s.place + 1) (record shape { operands = shape.operands - params_of (slice_get code.funcs c.function) })
        → GoodTransition code fits (start s line (passed_by code c.passed) (slice_get code.funcs c.function))
    starts_loop c line n r l =
        let passed = passed_by code c.passed in
        let params = params_of (slice_get code.funcs c.function) in
        let names = first_true (names_inner code seat.func c) (nat_le 2 params) n in
        let f = named c.function passed (first_true (names_passed code seat.func c.function passed) (names_lent code seat.func c.function passed []) names) in
        let none_lent = lent_many c.function passed [] f (second_true (names_passed code seat.func c.function passed) (names_lent code seat.func c.function passed []) names) in
        let two = le_of 2 params (second_true (names_inner code seat.func c) (nat_le 2 params) n) in
        let same = params_are c.function passed f in
        let keeps = subst (λ k. nat_le k shape.operands ≡ true) same (first_true (nat_le params shape.operands) (has_arrays shape passed) r) in
        let there = all_there seat.func.arrays passed f.slots (second_true (nat_le params shape.operands) (has_arrays shape passed) r) in
        let given = there_arrays passed s.arrays there in
        let lead = subst (λ k. FlowsInto table (s.place + 1) (record shape { operands = shape.operands - k })) same l in
        subst (λ o. GoodTransition code fits (start s line passed o)) (sym f.is)
        (subst (λ o. GoodTransition code fits (on_arrays o (λ xs. on_range (arguments_of f.func s.operands)
        (λ low high captured. looped s line passed f.func xs low captured (loop_iterations low high xs))))) (sym given.1)
        (ranges f.func f.is f.many none_lent keeps given.0 given.2 there lead (arguments_of f.func s.operands)
        (arguments_count f.func (enough_so Plain f.func.params keeps)) (omega (arith, two, same))))
      where
        none : (a : ℕ) → None ≡ Some a → ⊥
        none a e = cc

        loops : (f : Func) → slice_get code.funcs c.function ≡ Some f → length (passed_by code c.passed) ≡ f.array_params → 0 ≡ f.readers
            → nat_le f.params shape.operands ≡ true → (given : List (List ℤ)) → length given ≡ length (passed_by code c.passed)
            → AllThere (passed_by code c.passed) s.arrays
            → FlowsInto table (s.place + 1) (record shape { operands = shape.operands - f.params }) → (low : ℤ) (captured : List ℤ)
            → length captured + 2 ≡ f.params → (turns : Result) → GoodTransition code fits (looped s line (passed_by code c.passed) f given low captured turns)
        loops f is many none_lent keeps given e there lead low captured count (Fails trap) = tt
        loops f is many none_lent keeps given e there lead low captured count (Value m) =
            let same = part_slots (natural low) (passed_by code c.passed) given e in
            let n : length (low ∷ (low +ℤ m) ∷ captured) ≡ f.params = omega (arith, count) in
            let enter : Entering = record {
              kind = Plain;
              site = None;
              target = None;
              depth = s.depth;
              func = f;
              arguments = low ∷ (low +ℤ m) ∷ captured;
              given = map (λ xs. take (natural m) (drop (natural low) xs)) given;
              taken = parts_of (natural low) (passed_by code c.passed) given;
              lent = [];
            } in
            begins_well enter (record {
              index = c.function;
              is = is;
              enough = enough_so Plain f.params keeps;
              arguments = n;
              given = length-map given (λ xs. take (natural m) (drop (natural low) xs)) ∙ e ∙ many;
              many = sym (length-map (parts_of (natural low) (passed_by code c.passed) given) slot_taken) ∙ ap length same ∙ many;
              lent = none_lent;
              there = subst (λ p. AllThere p s.arrays) (sym same) there;
              target = refl;
              gives = λ a k. absurd (none a k);
              keeps = keeps;
              frozen = shape.frozen;
              leads = lead;
            })

        ranges : (f : Func) → slice_get code.funcs c.function ≡ Some f → length (passed_by code c.passed) ≡ f.array_params → 0 ≡ f.readers
            → nat_le f.params shape.operands ≡ true → (given : List (List ℤ)) → length given ≡ length (passed_by code c.passed)
            → AllThere (passed_by code c.passed) s.arrays
            → FlowsInto table (s.place + 1) (record shape { operands = shape.operands - f.params }) → (arguments : List ℤ) → length arguments ≡ f.params → 2 ≤ f.params
            → GoodTransition code fits (on_range arguments (λ low high captured. looped s line (passed_by code c.passed) f given low captured (loop_iterations low high given)))
        ranges f is many none_lent keeps given e there lead [] n two = absurd (omega (arith, n, two))
        ranges f is many none_lent keeps given e there lead (low ∷ []) n two = absurd (omega (arith, n, two))
        ranges f is many none_lent keeps given e there lead (low ∷ high ∷ captured) n two =
            loops f is many none_lent keeps given e there lead low captured (omega (arith, n)) (loop_iterations low high given)
