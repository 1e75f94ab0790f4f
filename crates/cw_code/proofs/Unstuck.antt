-- Well-formed code never gets stuck.
use Rattle.std.proofs.Common.{◌≡◌, ◌≢◌, ℕ, zero, suc, ◌+◌, ◌-◌, ◌<◌, ℤ, Bool, true, false, not, ◌&&◌, if◌then◌else◌}
use Rattle.std.proofs.Common.{Option, Some, None, List, [], ◌∷◌, ◌++◌, length, refl, sym, ap, ◌∙◌, subst, arith}
use Rattle.std.specs.Prelude.{take, drop, slice_get, slice_set, is_none, option_map, nat_eq, nat_le}
use Rattle.std.proofs.lemmas.List.{length-map}
use Rattle.cw_facts.specs.Tests.{taken, both_true, first_true, second_true, at_most, equal, le_of, lt_of}
use Rattle.cw_facts.specs.Lists.{missing, there_at, set_other}
use Rattle.cw_code.specs.lemmas.Slots.{row_there, none_waits}
use Rattle.cw_model.specs.Syntax.{Name}
use Rattle.cw_model.specs.Ints.{Result, Value, Fails, is_zero, natural}
use Rattle.cw_model.specs.Expressions.{apply, element, in_bounds, written}
use Rattle.cw_model.specs.Meaning.{new_length, cut_place}
use Rattle.cw_model.specs.declared.syntax.CallKind.TheVariants.{Plain, Spawned}
use Rattle.cw_model.specs.Answers.{answer_of}
use Rattle.cw_code.specs.declared.code.BlockKind.TheVariants.{Scope, Region}
use Rattle.cw_code.specs.declared.code.Func.{Func}
use Rattle.cw_code.specs.declared.code.Halves.{Halves}
use Rattle.cw_code.specs.declared.code.Instr.{Instr}
use Rattle.cw_code.specs.declared.code.Instr.TheVariants as instr
use Rattle.cw_code.specs.Code.{Code, reducer_names}
use Rattle.cw_code.specs.Run.{Slots, reader, Around, Caller, Block, State, Transition, On, Ends, Stops, Stuck}
use Rattle.cw_code.specs.Run.{RunOutcome, ticked, synced, inside, on_top, on_two, on_slot, is_full, operated, set_array, apply_unary, adds, settled, put_in}
use Rattle.cw_code.specs.Run.{given, back, opened_at, opened, opened_region, cut_arrays, may_cut, cuts, resumes, closed}
use Rattle.cw_code.specs.Run.{resumes_uncut, cut_ends, jumped, act, step, go_on, steps, first_state, first_transition, reducers_of, code_serial}
use Rattle.cw_code.specs.Fits.{params_of, array_params_of, readers_of, gives_value, NeverStuck, names_arrays}
use Rattle.cw_code.specs.Fits.{names_well, Outer, Shape, empty_rows, gone_rows, full_in_all, is_full_in, has_slot, has_array, has_arrays}
use Rattle.cw_code.specs.Fits.{none_open, can_close, has_parts, can_uncut, is_no_part, are_no_parts, is_ready, none_empty, cleared}
use Rattle.cw_code.specs.Fits.{closed_shape, with_uncut, uncut_shape, opened_shape, outer_of, cut_outer, popped, leaves, nexts, Table, FlowsInto, FlowsIntoEach, Fits}
use Rattle.cw_code.specs.Good.{IsNotAmong, slots_in, slot_cut, ints_round, arrays_round, all_of, Holds, CutsAgree, Seat, Good, IsGiven}
use Rattle.cw_code.specs.Good.{AllResume, GoodState, GoodTransition, Facts, FitBegins, FitFacts, FitSteps, NeverStuckFrom}
use Rattle.cw_code.proofs.Slots.{set_full, full_there}
use Rattle.cw_code.proofs.Keeps.{AllThere, with_slot, with_taken, with_block, with_outer, with_filled}
use Rattle.cw_code.proofs.Taken.{lie_within, joined}
use Rattle.cw_code.proofs.Beginning.{table_at, arrives, goes_back, starts_well, full_slot, full_array, all_there, reader_there, enters_well, recurs_well, starts_loop}

module _ (code : Code) (fits : Fits code) where
  module _ (s : State) (good : GoodState code fits s) where
    abbrev seat : Seat code fits s.place
    seat = good.seat

    abbrev shape : Shape
    shape = good.seat.shape

    abbrev g : Good seat.func shape s
    g = good.call

    abbrev table : Table
    table = table_at code fits s.place seat

    -- the same call continues, with this number of operands
    more : (n : ℕ) (to : State) → to ≡ record s { place = to.place; operands = to.operands; trace = to.trace } → n ≡ length to.operands
        → FlowsInto table to.place (record shape { operands = n }) → GoodState code fits to
    more n to same e l = subst (GoodState code fits) (sym same)
        (arrives code fits s.place seat (record shape { operands = n }) (record s { place = to.place; operands = to.operands; trace = to.trace }) l
        (record { as_many = e; ints = g.ints; arrays = g.arrays; readers = g.readers; cuts = g.cuts }) good.others)

    -- a full array slot is written
    more_array : (n a : ℕ) (xs : List ℤ) (rest : List ℤ) → is_full (slice_get s.arrays a) ≡ true → n ≡ length rest → FlowsInto table (s.place + 1) (record shape { operands = n })
        → GoodState code fits (record s { place = s.place + 1; operands = rest; arrays = slice_set s.arrays a (Some xs); trace = ticked s.trace })
    more_array n a xs rest there e l =
        arrives code fits s.place seat (record shape { operands = n }) (record s { place = s.place + 1; operands = rest; arrays = slice_set s.arrays a (Some xs); trace = ticked s.trace }) l
        (record {
          as_many = e;
          ints = g.ints;
          arrays = with_slot seat.func.arrays shape.gone (gone_rows shape.outer) s.arrays (slots_in s.arrived) (arrays_round s.around) a xs there g.arrays;
          readers = g.readers;
          cuts = g.cuts;
        }) good.others

    slot_well : {A : Type 0} (o : Option (Option A)) (go : A → Transition) → is_full o ≡ true → ((x : A) → GoodTransition code fits (go x)) → GoodTransition code fits (on_slot o go)
    slot_well None go h k = cc
    slot_well (Some None) go h k = cc
    slot_well (Some (Some x)) go h k = k x

    operates_well : (line : ℕ) (rest : List ℤ) (r : Result) (n : ℕ) → FlowsInto table (s.place + 1) (record shape { operands = n })
        → n ≡ length rest + 1 → GoodTransition code fits (operated s line rest r)
    operates_well line rest (Value v) n l e = more n _ refl (omega (arith, e)) l
    operates_well line rest (Fails trap) n l e = tt

    sets_well : (a line : ℕ) (rest : List ℤ) (make : ℤ → List ℤ) (r : Result) (n : ℕ) → is_full (slice_get s.arrays a) ≡ true
        → FlowsInto table (s.place + 1) (record shape { operands = n }) → n ≡ length rest → GoodTransition code fits (set_array s a line rest make r)
    sets_well a line rest make (Value v) n there l e = more_array n a (make v) rest there e l
    sets_well a line rest make (Fails trap) n there l e = tt

    top_well : (go : ℤ → List ℤ → Transition) → nat_le 1 shape.operands ≡ true
        → ((v : ℤ) (rest : List ℤ) → shape.operands ≡ length rest + 1 → GoodTransition code fits (go v rest)) → GoodTransition code fits (on_top s go)
    top_well go enough k = cases s.operands g.as_many
      where
        cases : (ops : List ℤ) → shape.operands ≡ length ops → GoodTransition code fits (on_top (record s { operands = ops }) go)
        cases [] e = absurd (omega (arith, e, le_of 1 shape.operands enough))
        cases (v ∷ rest) e = k v rest (omega (arith, e))

    two_well : (go : ℤ → ℤ → List ℤ → Transition) → nat_le 2 shape.operands ≡ true
        → ((v w : ℤ) (rest : List ℤ) → shape.operands ≡ length rest + 2 → GoodTransition code fits (go v w rest)) → GoodTransition code fits (on_two s go)
    two_well go enough k = cases s.operands g.as_many
      where
        cases : (ops : List ℤ) → shape.operands ≡ length ops → GoodTransition code fits (on_two (record s { operands = ops }) go)
        cases [] e = absurd (omega (arith, e, le_of 2 shape.operands enough))
        cases (w ∷ []) e = absurd (omega (arith, e, le_of 2 shape.operands enough))
        cases (w ∷ v ∷ rest) e = k v w rest (omega (arith, e))

    adds_well : (o : Option Name) (v : ℤ) (rest : List ℤ) → (name : Name) × (o ≡ Some name) → shape.operands ≡ length rest + 1
        → FlowsInto table (s.place + 1) (popped shape) → GoodTransition code fits (adds s o v rest)
    adds_well None v rest h e l = absurd (none h.0 h.1)
      where
        none : (name : Name) → None ≡ Some name → ⊥
        none name k = cc
    adds_well (Some name) v rest h e l = more (shape.operands - 1) _ refl (omega (arith, e)) l

    opens_well : (tag : Option Name) → FlowsInto table (s.place + 1) (opened_shape shape (outer_of shape)) → GoodTransition code fits (opened s tag None)
    opens_well tag l =
        arrives code fits s.place seat (opened_shape shape (outer_of shape)) (record s
        { place = s.place + 1; results = []; arrived = []; around = Block (opened_at s tag None) ∷ s.around; trace = inside (ticked s.trace) }) l
        (record {
          as_many = g.as_many;
          ints = with_block seat.func.slots shape.empty (empty_rows shape.outer) s.slots (slots_in s.results) (ints_round s.around) (length shape.empty) g.ints.row_holds.as_wide g.ints;
          arrays = with_block seat.func.arrays shape.gone (gone_rows shape.outer) s.arrays (slots_in s.arrived) (arrays_round s.around) (length shape.gone) g.arrays.row_holds.as_wide g.arrays;
          readers = g.readers;
          cuts = (refl, g.cuts);
        }) good.others

    region_well : (o : Option Name) → (name : Name) × (o ≡ Some name) → FlowsInto table (s.place + 1) (opened_shape shape (outer_of shape)) → GoodTransition code fits (opened_region s o)
    region_well None h l = absurd (none h.0 h.1)
      where
        none : (name : Name) → None ≡ Some name → ⊥
        none name k = cc
    region_well (Some name) h l = opens_well (Some name) l

    -- the static state after a join
    abbrev after_join : Shape
    after_join = cleared shape

    joined_here : Good seat.func after_join (put_in s)
    joined_here = joined seat.func shape s g

    closes_well : (outer : List Outer) (around : List Around) → can_close outer ≡ true → Good seat.func (record after_join { outer = outer }) (record (put_in s) { around = around })
        → AllResume code fits seat.func around → FlowsInto table (s.place + 1) (closed_shape shape outer) → GoodTransition code fits (closed (put_in s) around)
    closes_well [] around h k others l = cc
    closes_well (o ∷ outer) [] h k others l = absurd k.cuts
    closes_well (o ∷ outer) (Caller w ∷ around) h k others l = absurd k.cuts
    closes_well (o ∷ outer) (Block b ∷ around) h k others l =
        let resumes_uncut : b.cut ≡ None = no_cut b.cut (subst (λ c. is_none c ≡ true) k.cuts.0 h) in
        subst (λ c. GoodTransition code fits (if is_none c then resumes (put_in s) b around else Stuck)) (sym resumes_uncut)
        (arrives code fits s.place seat (closed_shape shape (o ∷ outer)) _ l (record {
          as_many = k.as_many;
          ints = with_outer seat.func.slots (none_empty (length shape.empty)) o.empty (empty_rows outer) (settled s.results s.slots) (slots_in b.results) (ints_round around) k.ints;
          arrays = subst (λ c. Holds seat.func.arrays o.gone (gone_rows outer) (settled s.arrived s.arrays) (slot_cut c ++ slots_in b.arrived) (arrays_round around)) resumes_uncut
              (with_outer seat.func.arrays (none_empty (length shape.gone)) o.gone (gone_rows outer) (settled s.arrived s.arrays)
              (slot_cut b.cut ++ slots_in b.arrived) (arrays_round around) k.arrays);
          readers = k.readers;
          cuts = k.cuts.1;
        }) others)
      where
        no_cut : (c : Option Halves) → is_none c ≡ true → c ≡ None
        no_cut None e = refl
        no_cut (Some x) e = cc

    -- the slots of a cut
    abbrev cut_slots : Halves → List ℕ
    cut_slots h = h.array ∷ h.left ∷ h.right ∷ []

    cuts_well : (h : Halves) (line : ℕ) (xs rest : List ℤ) (r : Result) → AllThere (cut_slots h) s.arrays → shape.operands ≡ length rest + 1
        → FlowsInto table (s.place + 1) (opened_shape (popped shape) (cut_outer shape h)) → GoodTransition code fits (cuts s h line xs rest r)
    cuts_well h line xs rest (Fails trap) there e l = tt
    cuts_well h line xs rest (Value v) there e l =
        let gone = slice_set s.arrays h.array None in
        let left = take (natural v) xs in
        let right = drop (natural v) xs in
        let apart_left : h.left ≢ h.array = λ k. there.0.0 (sym k) in
        let apart_right : h.right ≢ h.array = λ k. there.0.1.0 (sym k) in
        let apart_both : h.right ≢ h.left = λ k. there.2.0.0 (sym k) in
        let left_there : is_full (slice_get gone h.left) ≡ true = ap is_full (set_other s.arrays h.array h.left None apart_left) ∙ there.2.1 in
        let right_there : is_full (slice_get gone h.right) ≡ true = ap is_full (set_other s.arrays h.array h.right None apart_right) ∙ there.2.2.1 in
        let right_there' : is_full (slice_get (slice_set gone h.left None) h.right) ≡ true = ap is_full (set_other gone h.left h.right None apart_both) ∙ right_there in
        let right_there2 : is_full (slice_get (slice_set gone h.left (Some left)) h.right) ≡ true = ap is_full (set_other gone h.left h.right (Some left) apart_both) ∙ right_there in
        let may = both_true (is_full (slice_get s.arrays h.array)) (is_full (slice_get gone h.left) && is_full (slice_get (slice_set gone h.left None) h.right)) there.1
        (both_true (is_full (slice_get gone h.left)) (is_full (slice_get (slice_set gone h.left None) h.right)) left_there right_there') in
        let row = slice_set shape.gone h.array true in
        let rows = gone_rows shape.outer in
        let round = arrays_round s.around in
        let waits = h.array ∷ slots_in s.arrived in
        let taken_out = with_taken seat.func.arrays shape.gone rows s.arrays (slots_in s.arrived) round h.array there.1 g.arrays in
        let both = with_slot seat.func.arrays row rows (slice_set gone h.left (Some left)) waits round h.right right right_there2
        (with_slot seat.func.arrays row rows gone waits round h.left left left_there taken_out) in
        let s' : State = record s { operands = rest; arrays = cut_arrays h xs (natural v) s.arrays } in
        subst (GoodTransition code fits) (sym (taken (may_cut h s.arrays) (opened s' None (Some h)) Stuck may))
        (arrives code fits s.place seat (opened_shape (popped shape) (cut_outer shape h))
        (record s' { place = s.place + 1; results = []; arrived = []; around = Block (opened_at s' None (Some h)) ∷ s.around; trace = inside (ticked s.trace) }) l
        (record {
          as_many = omega (arith, e);
          ints = with_block seat.func.slots shape.empty (empty_rows shape.outer) s.slots (slots_in s.results) (ints_round s.around) (length shape.empty) g.ints.row_holds.as_wide g.ints;
          arrays = with_block seat.func.arrays row rows (cut_arrays h xs (natural v) s.arrays) waits round (length shape.gone) g.arrays.row_holds.as_wide both;
          readers = g.readers;
          cuts = (refl, g.cuts);
        }) good.others)

    uncuts_well : (outer : List Outer) (around : List Around) → can_uncut outer ≡ true → Good seat.func (record after_join { outer = outer }) (record (put_in s) { around = around })
        → AllResume code fits seat.func around → FlowsInto table (s.place + 1) (uncut_shape shape outer) → GoodTransition code fits (cut_ends (put_in s) around)
    uncuts_well [] around h k others l = cc
    uncuts_well (o ∷ outer) [] h k others l = absurd k.cuts
    uncuts_well (o ∷ outer) (Caller w ∷ around) h k others l = absurd k.cuts
    uncuts_well (o ∷ outer) (Block b ∷ around) h k others l = by_cut o.cut h k.cuts.0 l
      where
        arrays : Slots (List ℤ)
        arrays = settled s.arrived s.arrays

        -- a slot that is full in all enclosing blocks is full after the join
        back_there : (a : ℕ) → full_in_all (gone_rows (o ∷ outer)) a ≡ true → is_full (slice_get arrays a) ≡ true
        back_there a all =
            let own = first_true (is_full_in (slice_get o.gone a)) (full_in_all (gone_rows outer) a) all in
            k.arrays.awaited a (omega (arith, row_there o.gone a own, k.arrays.rows_hold.0.as_wide, k.arrays.as_wide))
            (none_waits seat.func.arrays (gone_rows (o ∷ outer)) (arrays_round (Block b ∷ around)) a k.arrays.rows_hold all)

        ends : (c : Halves) → (full_in_all (gone_rows (o ∷ outer)) c.left && full_in_all (gone_rows (o ∷ outer)) c.right) ≡ true → b.cut ≡ Some c
            → FlowsInto table (s.place + 1) (record shape { empty = o.empty; gone = slice_set o.gone c.array false; frozen = o.frozen; outer = outer })
            → GoodTransition code fits (resumes_uncut (put_in s) b around (Some c))
        ends c there is lead =
            let all = gone_rows (o ∷ outer) in
            let left_there = back_there c.left (first_true (full_in_all all c.left) (full_in_all all c.right) there) in
            let right_there = back_there c.right (second_true (full_in_all all c.left) (full_in_all all c.right) there) in
            slot_well (slice_get (settled s.arrived s.arrays) c.left) _ left_there (λ left.
            slot_well (slice_get (settled s.arrived s.arrays) c.right) _ right_there (λ right.
            let rows = gone_rows (o ∷ outer) in
            let row = none_empty (length shape.gone) in
            let round = arrays_round (Block b ∷ around) in
            let one = with_slot seat.func.arrays row rows (settled s.arrived s.arrays) [] round c.left [] left_there k.arrays in
            let two = with_slot seat.func.arrays row rows (slice_set (settled s.arrived s.arrays) c.left (Some [])) [] round c.right [] (still_right c.left c.right right_there) one in
            let outside = subst (λ x. Holds seat.func.arrays o.gone (gone_rows outer)
            (slice_set (slice_set (settled s.arrived s.arrays) c.left (Some [])) c.right (Some [])) (slot_cut x ++ slots_in b.arrived) (arrays_round around)) is
            (with_outer seat.func.arrays row o.gone (gone_rows outer) (slice_set (slice_set (settled s.arrived s.arrays) c.left (Some [])) c.right
            (Some [])) (slot_cut b.cut ++ slots_in b.arrived) (arrays_round around) two) in
            arrives code fits s.place seat (record shape { empty = o.empty; gone = slice_set o.gone c.array false; frozen = o.frozen; outer = outer }) _ lead (record {
              as_many = k.as_many;
              ints = with_outer seat.func.slots (none_empty (length shape.empty)) o.empty (empty_rows outer) (settled s.results s.slots) (slots_in b.results) (ints_round around) k.ints;
              arrays = with_filled seat.func.arrays o.gone (gone_rows outer)
                  (slice_set (slice_set (settled s.arrived s.arrays) c.left (Some [])) c.right (Some [])) c.array (left ++ right) (slots_in b.arrived)
                  (arrays_round around) outside;
              readers = k.readers;
              cuts = k.cuts.1;
            }) others))
          where
            still_right : (a c' : ℕ) → is_full (slice_get (settled s.arrived s.arrays) c') ≡ true → is_full (slice_get (slice_set (settled s.arrived s.arrays) a (Some [])) c') ≡ true
            still_right a c' h' = set_full (settled s.arrived s.arrays) a c' [] (full_there (settled s.arrived s.arrays) c' h') (λ n. h')

        by_cut : (c : Option Halves) → has_parts (gone_rows (o ∷ outer)) c ≡ true → c ≡ b.cut
            → FlowsInto table (s.place + 1) (record shape { empty = o.empty; gone = with_uncut c o.gone; frozen = o.frozen; outer = outer })
            → GoodTransition code fits (resumes_uncut (put_in s) b around b.cut)
        by_cut None p is lead = cc
        by_cut (Some c) p is lead = subst (λ x. GoodTransition code fits (resumes_uncut (put_in s) b around x)) is (ends c p (sym is) lead)

    none_round : (outer : List Outer) → none_open outer ≡ true → CutsAgree outer s.around → CutsAgree [] s.around
    none_round [] h k = k
    none_round (o ∷ outer) h k = cc

    ends_well : (v : Option ℤ) → IsGiven seat.func.gives_int v → none_open shape.outer ≡ true → GoodTransition code fits (back s.around v (settled s.arrived s.arrays) (synced s.trace))
    ends_well v i shut =
        let alone = none_round shape.outer shut g.cuts in
        goes_back code fits seat.func s.around v (settled s.arrived s.arrays) (synced s.trace) i alone joined_here.arrays.as_wide
        (λ a lt. joined_here.arrays.awaited a lt (none s.around alone a)) good.others
      where
        none : (around : List Around) → CutsAgree [] around → (a : ℕ) → IsNotAmong a (all_of (arrays_round around))
        none [] k a = tt
        none (Caller w ∷ around) k a = tt
        none (Block b ∷ around) k a = absurd k

    acts_well : (i : Instr) → names_well code seat.func s.place i ≡ true → is_ready code shape i ≡ true
        → FlowsIntoEach table (leaves code shape i) (nexts s.place i) → GoodTransition code fits (act code s (Some i))
    acts_well (instr.Push v) n r l = more (shape.operands + 1) _ refl (omega (arith, g.as_many)) l.0
    acts_well (instr.Load a) n r l = slot_well (slice_get s.slots a) _ (full_slot code fits s good a r) (λ v. more (shape.operands + 1) _ refl (omega (arith, g.as_many)) l.0)
    acts_well (instr.Store a) n r l = top_well _ (second_true (has_slot shape a) (nat_le 1 shape.operands) r) (λ v rest e.
        let there = full_slot code fits s good a (first_true (has_slot shape a) (nat_le 1 shape.operands) r) in
        subst (GoodTransition code fits) (sym (taken (is_full (slice_get s.slots a))
        (On (record s { place = s.place + 1; operands = rest; slots = slice_set s.slots a (Some v); trace = ticked s.trace })) Stuck there))
        (arrives code fits s.place seat (popped shape) (record s { place = s.place + 1; operands = rest; slots = slice_set s.slots a (Some v); trace = ticked s.trace }) l.0
        (record {
          as_many = omega (arith, e);
          ints = with_slot seat.func.slots shape.empty (empty_rows shape.outer) s.slots (slots_in s.results) (ints_round s.around) a v there g.ints;
          arrays = g.arrays;
          readers = g.readers;
          cuts = g.cuts;
        }) good.others))
    acts_well (instr.Unary operator line) n r l = top_well _ r (λ v rest e. operates_well line rest (apply_unary operator v) shape.operands l.0 e)
    acts_well (instr.Binary operator line) n r l = two_well _ r (λ v w rest e. operates_well line rest (apply operator v w) (shape.operands - 1) l.0 (omega (arith, e)))
    acts_well (instr.Skip k) n r l = more shape.operands _ refl g.as_many l.0
    acts_well (instr.SkipIfZero k) n r l = top_well _ r (λ v rest e. either (is_zero v) rest e)
      where
        either : (b : Bool) (rest : List ℤ) → shape.operands ≡ length rest + 1 → GoodTransition code fits (jumped (record s { operands = rest }) (if b then s.place + 1 + k else s.place + 1))
        either true rest e = more (shape.operands - 1) _ refl (omega (arith, e)) l.1.0
        either false rest e = more (shape.operands - 1) _ refl (omega (arith, e)) l.0
    acts_well (instr.GoBack k) n r l = more shape.operands _ refl g.as_many l.0
    acts_well (instr.Call kind c) n r l = enters_well code fits s good kind c n r l.0
    acts_well (instr.Recur Plain c) n r l = recurs_well code fits s good Plain c n r l.0
    acts_well (instr.Recur Spawned c) n r l = recurs_well code fits s good Spawned c n r l.0
    acts_well (instr.Start c line) n r l = starts_loop code fits s good c line n r l.0
    acts_well (instr.NewArray a line) n found l =
        let r = first_true (has_array shape a && nat_le 1 shape.operands) (is_no_part a shape.outer) found in
        let there = full_array code fits s good a (first_true (has_array shape a) (nat_le 1 shape.operands) r) in
        slot_well (slice_get s.arrays a) _ there (λ old. top_well _ (second_true (has_array shape a) (nat_le 1 shape.operands) r)
        (λ v rest e. sets_well a line rest _ (new_length v) (shape.operands - 1) there l.0 (omega (arith, e))))
    acts_well (instr.Length a) n r l = slot_well (slice_get s.arrays a) _ (full_array code fits s good a r) (λ xs. more (shape.operands + 1) _ refl (omega (arith, g.as_many)) l.0)
    acts_well (instr.Element a line) n r l =
        slot_well (slice_get s.arrays a) _ (full_array code fits s good a (first_true (has_array shape a) (nat_le 1 shape.operands) r)) (λ xs.
        top_well _ (second_true (has_array shape a) (nat_le 1 shape.operands) r) (λ v rest e. operates_well line rest (in_bounds (element xs v)) shape.operands l.0 e))
    acts_well (instr.SetElement a line) n r l =
        let there = full_array code fits s good a (first_true (has_array shape a) (nat_le 2 shape.operands) r) in
        slot_well (slice_get s.arrays a) _ there (λ xs. two_well _ (second_true (has_array shape a) (nat_le 2 shape.operands) r)
        (λ i v rest e. sets_well a line rest _ (written xs i v) (shape.operands - 2) there l.0 (omega (arith, e))))
    acts_well (instr.ReadLength a) n r l = slot_well (reader s.readers a) _ (reader_there code fits s good a n) (λ xs. more (shape.operands + 1) _ refl (omega (arith, g.as_many)) l.0)
    acts_well (instr.ReadElement a line) n r l =
        slot_well (reader s.readers a) _ (reader_there code fits s good a n) (λ xs. top_well _ r (λ v rest e. operates_well line rest (in_bounds (element xs v)) shape.operands l.0 e))
    acts_well (instr.Cut h line) n found l =
        let r = first_true (has_arrays shape (cut_slots h) && nat_le 1 shape.operands) (are_no_parts h shape.outer) found in
        let named = first_true (names_arrays seat.func.arrays (cut_slots h)) (nat_le seat.func.array_params h.left && nat_le seat.func.array_params h.right) n in
        let there = all_there code fits s good seat.func.arrays (cut_slots h) named (first_true (has_arrays shape (cut_slots h)) (nat_le 1 shape.operands) r) in
        slot_well (slice_get s.arrays h.array) _ there.1 (λ xs. top_well _ (second_true (has_arrays shape (cut_slots h)) (nat_le 1 shape.operands) r)
        (λ v rest e. cuts_well h line xs rest (cut_place xs v) there e l.0))
    acts_well instr.EndCut n r l = uncuts_well shape.outer s.around (second_true (nat_eq 0 shape.operands) (can_uncut shape.outer) r) joined_here good.others l.0
    acts_well instr.Sync n r l = arrives code fits s.place seat after_join (record (put_in s) { place = s.place + 1; trace = synced s.trace }) l.0
        (record {
          as_many = joined_here.as_many;
          ints = joined_here.ints;
          arrays = joined_here.arrays;
          readers = joined_here.readers;
          cuts = joined_here.cuts;
        }) good.others
    acts_well (instr.Open Scope) n r l = opens_well None l.0
    acts_well (instr.Open (Region k)) n r l = region_well (slice_get code.tags k) (there_at code.tags k (lt_of k (length code.tags) n)) l.0
    acts_well instr.Close n r l = closes_well shape.outer s.around (second_true (nat_eq 0 shape.operands) (can_close shape.outer) r) joined_here good.others l.0
    acts_well instr.Print n r l = top_well _ r (λ v rest e. more (shape.operands - 1) _ refl (omega (arith, e)) l.0)
    acts_well (instr.Reduce k) n r l = top_well _ r (λ v rest e. adds_well (slice_get (reducer_names code.reducers) k) v rest
        (there_at (reducer_names code.reducers) k (subst (λ n. k < n) (sym (length-map code.reducers (λ r. r.name))) (lt_of k (length code.reducers) n))) e l.0)
    acts_well instr.ReturnValue n r l = top_well _ (first_true (nat_le 1 shape.operands) (none_open shape.outer) r) (λ v rest e.
        ends_well (Some v) (subst (λ b. IsGiven b (Some v)) (sym n) tt) (second_true (nat_le 1 shape.operands) (none_open shape.outer) r))
    acts_well instr.Return n r l = ends_well None (nothing seat.func.gives_int n) r
      where
        nothing : (b : Bool) → not b ≡ true → IsGiven b None
        nothing true h = cc
        nothing false h = tt

    -- the instruction at the place exists and is well-formed
    pub facts : Facts code fits s good
    facts = cases (slice_get code.instrs s.place) refl
      where
        cases : (o : Option Instr) → slice_get code.instrs s.place ≡ o → Facts code fits s good
        cases None e =
            let h = fits.each seat.index seat.func seat.is_func in
            absurd (missing code.instrs s.place (omega (arith, (h.is_table.within s.place shape seat.at).1, lie_within 0 code.funcs (length code.instrs) seat.index seat.func fits.lie seat.is_func)) e)
        cases (Some i) e =
            let h = fits.each seat.index seat.func seat.is_func in
            let w = h.is_table.within s.place shape seat.at in
            record {
              instr = i;
              is = e;
              named = h.names s.place i w.0 w.1 e;
              ready = h.is_table.ready s.place shape i seat.at e;
              thawed = h.is_table.thawed s.place shape i seat.at e;
              leads = h.is_table.goes s.place shape i seat.at e;
              full = full_slot code fits s good;
              full_array = full_array code fits s good;
            }

    pub steps_well : GoodTransition code fits (step code s)
    steps_well = subst (λ o. GoodTransition code fits (act code s o)) (sym facts.is) (acts_well facts.instr facts.named facts.ready facts.leads)

  runs_well : (n : ℕ) (s : State) → GoodState code fits s → is_none (steps code n s) ≡ false
  runs_well zero s good = refl
  runs_well (suc n) s good = cases (λ s' good'. runs_well n s' good') (step code s) (steps_well s good)
    where
      cases : ((s' : State) → GoodState code fits s' → is_none (steps code n s') ≡ false) → (w : Transition) → GoodTransition code fits w → is_none (go_on w n (λ s'. steps code n s')) ≡ false
      cases more (On s') h = more s' h
      cases more (Ends v arrays t) h = refl
      cases more (Stops trap line lines) h = refl
      cases more Stuck h = absurd h

  -- the start of a run
  pub first_good : FitBegins code fits
  first_good k f args given lent e m m' m'' = starts_well code fits k f e args given lent 1 [] _ m m' m'' refl refl tt tt

  answered : (r : RunOutcome) → is_none r ≡ false → is_none (option_map (λ o. answer_of (reducers_of code) o) r) ≡ false
  answered None h = h
  answered (Some o) h = refl

  found_main : (o : Option Func) → slice_get code.funcs code.main ≡ o → (args : List ℤ) → length args ≡ params_of o → (n : ℕ)
      → is_none (option_map (λ r. answer_of (reducers_of code) r) (go_on (first_transition o args) n (λ s. steps code n s))) ≡ false
  found_main None e args m n = absurd (none (sym (ap gives_value e) ∙ fits.main))
    where
      none : false ≡ true → ⊥
      none k = cc
  found_main (Some f) e args m n =
      let none : f.array_params ≡ 0 = sym (ap array_params_of e) ∙ fits.of_integers in
      let none_lent : f.readers ≡ 0 = sym (ap readers_of e) ∙ fits.reads_none in
      let takes_none = both_true (nat_eq f.array_params 0) (nat_eq f.readers 0) (equal f.array_params 0 none) (equal f.readers 0 none_lent) in
      let begins = both_true (nat_eq (length args) f.params) (nat_le f.params f.slots && (nat_eq f.array_params 0 && nat_eq f.readers 0)) (equal (length args) f.params m)
      (both_true (nat_le f.params f.slots) (nat_eq f.array_params 0 && nat_eq f.readers 0) (at_most f.params f.slots (fits.each code.main f e).room) takes_none) in
      let state = first_state f args [] [] in
      subst (λ b. is_none (option_map (λ r. answer_of (reducers_of code) r) (go_on (if b then On state else Stuck) n (λ s. steps code n s))) ≡ false) (sym begins)
      (answered (steps code n state) (runs_well n state (first_good code.main f args [] [] e m (sym none) (sym none_lent))))

pub fits_never_stuck : (code : Code) → Fits code → NeverStuck code
unfolding code_serial
fits_never_stuck code fits args m n = found_main code fits (slice_get code.funcs code.main) refl args m n

pub fits_never_stuck_from : (code : Code) → Fits code → NeverStuckFrom code
fits_never_stuck_from code fits k f args given lent e m m' m'' n = runs_well code fits n (first_state f args given lent) (first_good code fits k f args given lent e m m' m'')

pub fit_facts : (code : Code) (fits : Fits code) → FitFacts code fits
fit_facts code fits s good = facts code fits s good

pub fit_steps : (code : Code) (fits : Fits code) → FitSteps code fits
fit_steps code fits s good = steps_well code fits s good
