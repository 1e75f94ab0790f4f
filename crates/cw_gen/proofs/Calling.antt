-- The effect of a call: it passes values and arrays to a function, and receives its result and its arrays.
use Rattle.std.proofs.Common.{◌≡◌, ℕ, suc, ◌+◌, ◌<◌, ◌≤◌, ◌-◌, List, [], ◌∷◌, ◌++◌, length, Bool, true, false, ◌&&◌}
use Rattle.std.proofs.Common.{if◌then◌else◌, nat_lt, Option, Some, None, refl, sym, ap, ◌∙◌, subst, arith, ℤ, true≢false}
use Rattle.std.specs.Prelude.{slice_get, slice_set, replicate, take, drop, map, nat_le, nat_eq, option_map}
use Rattle.std.proofs.lemmas.Slice.Eq.{bytes_eq-Decides}
use Rattle.cw_facts.specs.Tests.{taken, both_true, at_most, equal}
use Rattle.cw_model.specs.Names.{is_among, differ}
use Rattle.std.proofs.lemmas.List.{length-set, length-map, drop_all}
use Rattle.cw_model.specs.declared.trap.Trap.TheVariants as trap
use Rattle.cw_model.specs.declared.limits.TheConstants.{MOST_DEPTH}
use Rattle.cw_model.specs.declared.syntax.CallKind.{CallKind}
use Rattle.cw_model.specs.declared.syntax.CallKind.TheVariants.{Plain, Spawned}
use Rattle.cw_model.specs.Syntax.{Name, Function}
use Rattle.cw_model.specs.Frames.{Frame, no_frame, set_result}
use Rattle.cw_model.specs.Outcome.{Trapped, Trace}
use Rattle.cw_model.specs.Meaning.{Returned, Completion, Normal, Calls, Deeper, going, Entry, depth_of}
use Rattle.cw_model.specs.Ownership.{SpawnIn, ReaderIn, Taken, target_names, taken_by, frozen_by}
use Rattle.cw_tree.specs.Resolved.{Lists, Locals, slot_of, locals_of}
use Rattle.cw_loops.specs.lemmas.Naming.{among_right}
use Rattle.cw_code.specs.declared.code.Func.{Func}
use Rattle.cw_code.specs.Code.{Code}
use Rattle.cw_code.specs.Run as run
use Rattle.cw_code.specs.Run.{Slots, Results, Waiting, Around, Caller, State, On, Stuck, RunOutcome, ticked, inside, is_full, settled, moved_out}
use Rattle.cw_code.specs.Run.{slot_taken, may_take, may_keep, may_begin, kept_by, taken_from, has_room, has_readers, Readers, Entering, begins}
use Rattle.cw_code.specs.Run.{begun, given_back, returns_to, event_of, rejoined, result_of, back, cuts, go_on, steps}
use Rattle.cw_code.specs.lemmas.Runs.{joined_quiet}
use Rattle.cw_gen.specs.Marks.{Marks}
use Rattle.cw_gen.proofs.Marked.{owned, lent, read_in, marked_results, told_all, told_more, taken_at, numbers_at, OwnSlots, AllOwn, both_own, settle_owned}
use Rattle.cw_gen.proofs.Marked.{settle_read, slots_told, given_told, move_owned, move_read, owned_full, read_full, length_owned, length_lent}
use Rattle.cw_gen.proofs.MarkedParams.{marks_short}
use Rattle.cw_gen.proofs.Fine.{AllUsable, AllWritable, TargetFine, Room, marks_for}
use Rattle.cw_gen.proofs.Traces.{resume}
use Rattle.cw_gen.proofs.Takens.{holds, holds_behind, held_by_spawn}
use Rattle.cw_gen.proofs.Names.{Entries, AgreesOf, can_write}
use Rattle.cw_gen.proofs.Names as holding
use Rattle.cw_gen.proofs.Stores.{Store, Outside, int_waits, array_waits, Agrees, Fills, writes}
use Rattle.cw_gen.proofs.Passing.{slots_for, all_usable, backs_own, backs, put_backs, with_arrays, settled_moved, agree_back, agree_await, arrays_after, arrived_after, arrays_count, frame_came}
use Rattle.cw_gen.proofs.Codes.{Bound, first_store, here, GivesBack, GivenBy}
use Rattle.cw_gen.proofs.Texts.{Compiled}
use Rattle.cw_gen.proofs.Simple.{Onwards}

-- the locals held after a call: a spawn takes the name of its result and its arrays, and freezes the arrays that it
-- reads
abbrev pub taken_on : CallKind → (level : ℕ) → Option Name → (given read : List Name) → Taken → Taken
taken_on Plain level target xs ys taken' = taken'
taken_on Spawned level target xs ys taken' = frozen_by level ys (taken_by level (target_names target ++ xs) taken')

-- the values that a call passes to a function with this entry: its arrays, by name and out of their slots, and a frame
-- of values; and the arrays after the function has ended
pub record Hands (marks : Marks) (locals : Locals) (taken' : Taken) (frame : Frame) (f : Function) (fn : Func) : Type 0 where
  pub names : List Name
  pub outs : List run.Taken
  pub ints : List ℤ
  pub arrays : List (List ℤ)
  pub given : Frame
  pub left : Frame → List (List ℤ)
  pub returned : Frame → Frame
  pub as_ints : length ints ≡ fn.params
  pub as_arrays : length arrays ≡ fn.array_params + fn.readers
  pub bound : Bound f.params ints arrays no_frame given
  pub writable : AllWritable marks locals.arrays taken' names
  pub apart : differ names ≡ true
  pub many : (g : Frame) → length names ≡ length (left g)
  pub moved : map slot_taken outs ≡ slots_for locals.arrays names
  pub found : (g : Frame) (slots : Slots (List ℤ)) → GivesBack (marks_for f.params) (locals_of f.params).arrays g slots → given_back outs slots ≡ Some (backs locals.arrays names (left g))
  pub back : (g : Frame) → returned g ≡ with_arrays frame (put_backs names (left g) frame.arrays)

module _ (code : Code) (fs : List Function) (lists : Lists) where
  -- calls from this depth, with less fuel than the bound, execute their functions
  pub record CallsRun (bound depth : ℕ) (calls : Calls) : Type 0 where
    pub enters : (entry : Entry) → nat_lt MOST_DEPTH (depth_of entry depth) ≡ false → (f : Function) (fn : Func) → Compiled code fs lists f fn →
        (vs : List ℤ) (xss : List (List ℤ)) (given : Frame) → length vs ≡ fn.params → length xss ≡ fn.array_params + fn.readers → Bound f.params vs xss no_frame given →
        (around : List Around) (line left : ℕ) (t : Trace) (next : Returned → ℕ → Trace → RunOutcome) → left < bound →
        ((v : Option ℤ) (g : Frame) (arrays : Slots (List ℤ)) (l : ℕ) (u : Trace) → GivenBy f v
        → GivesBack (marks_for f.params) (locals_of f.params).arrays g arrays → l ≤ left
        → go_on (back around v arrays u) l (λ s. steps code l s) ≡ next (v, g) l u) →
        steps code left (here (marks_for f.params) (depth_of entry depth) around fn.start [] (first_store fn vs xss) t) ≡ resume t (calls entry f given line left) next
    pub traps : nat_lt MOST_DEPTH (depth + 1) ≡ true → (f : Function) (given : Frame) (line left : ℕ) → left < bound → calls Deeper f given line left ≡ Trapped trap.TooDeep line []

  -- there is room for the call of a function that has code
  has_its_room : (f : Function) (fn : Func) → Compiled code fs lists f fn → (ops : List ℤ) (xss : List (List ℤ)) → length ops ≡ fn.params → length xss ≡ fn.array_params → has_room fn ops xss ≡ true
  has_its_room f fn compiled ops xss n m =
      let arrays = nat_eq (length xss) fn.array_params && nat_le fn.array_params fn.arrays in
      both_true (nat_le fn.params (length ops)) (nat_le fn.params fn.slots && arrays)
      (at_most fn.params (length ops) (omega (arith, n)))
      (both_true (nat_le fn.params fn.slots) arrays (at_most fn.params fn.slots compiled.room)
      (both_true (nat_eq (length xss) fn.array_params) (nat_le fn.array_params fn.arrays) (equal (length xss) fn.array_params m) (at_most fn.array_params fn.arrays compiled.array_room)))

  -- the arrays that a function is given and the arrays that it is lent
  short : (f : Function) (fn : Func) → Compiled code fs lists f fn → (xss : List (List ℤ)) → length xss ≡ fn.array_params + fn.readers → length (marks_for f.params) ≤ length xss
  short f fn compiled xss m = omega (arith, marks_short f.params, compiled.readers, m)

  own_many : (f : Function) (fn : Func) → Compiled code fs lists f fn → (xss : List (List ℤ)) → length xss ≡ fn.array_params + fn.readers → length (owned (marks_for f.params) xss) ≡ fn.array_params
  own_many f fn compiled xss m = omega (arith, length_owned (marks_for f.params) xss (short f fn compiled xss m), compiled.marked, m)

  lent_many : (f : Function) (fn : Func) → Compiled code fs lists f fn → (xss : List (List ℤ)) → length xss ≡ fn.array_params + fn.readers → length (lent (marks_for f.params) xss) ≡ fn.readers
  lent_many f fn compiled xss m = length_lent (marks_for f.params) xss (short f fn compiled xss m) ∙ compiled.marked

  module _ (marks : Marks) (depth : ℕ) where
    abbrev at : List Around → ℕ → List ℤ → Store → Trace → State
    at around pc ops store t = here marks depth around pc ops store t

    -- the integers of a caller after it receives the result of a call
    record ComesInt (around : List Around) (names : List Name) (after_it : Taken) (kind : CallKind) (target : Option Name) (v : Option ℤ) (pc : ℕ)
        (store : Store) (outer : Outside) (frame : Frame) (back : Results (List ℤ)) (size : ℕ) (t : Trace) : Type 0 where
      pub slots' : Slots ℤ
      pub results' : Results ℤ
      pub went : result_of kind (option_map (λ x. slot_of x names) target) v (marked_results marks back)
          (at around pc [] (record {
            slots = taken_from kind (option_map (λ x. slot_of x names) target) store.slots;
            arrays = store.arrays;
            results = store.results;
            arrived = store.arrived;
          }) t)
          ≡ On (at around pc [] (record { slots = slots'; arrays = arrays_after kind back store.arrays; results = results'; arrived = arrived_after kind back store.arrived }) t)
      pub agrees : AgreesOf false names after_it (set_result target v frame).ints slots' (results' ∷ int_waits outer)
      pub count : length slots' ≡ size

    -- a spawn that also reads arrays keeps held names held
    past : (level : ℕ) (read : List Name) (cuts : Bool) (d : ℕ) (x : Name) (more taken' : Taken) → holds cuts d x taken' ≡ true
        → holds cuts d x (map (λ z. (z, ReaderIn level)) read ++ (more ++ taken')) ≡ true
    past level read cuts d x more taken' h = holds_behind cuts d x (map (λ z. (z, ReaderIn level)) read) (more ++ taken') (holds_behind cuts d x more taken' h)

    -- no array that waits is only read
    arrived_own : (kind : CallKind) (back arrived : Results (List ℤ)) → AllOwn marks back → AllOwn marks arrived → AllOwn marks (arrived_after kind back arrived)
    arrived_own Plain back arrived h k = k
    arrived_own Spawned back arrived h k = both_own marks back arrived h k

    -- the arrays that a call returns immediately, and those that it returns at the next join
    plain_back : (around : List Around) (pc : ℕ) (slots : Slots ℤ) (store : Store) (back : Results (List ℤ)) (t : Trace) → AllOwn marks back →
        record (at around pc [] (record { slots = slots; arrays = store.arrays; results = store.results; arrived = store.arrived }) t)
        { arrays = settled (marked_results marks back) (owned marks store.arrays) }
        ≡ at around pc [] (record { slots = slots; arrays = settled back store.arrays; results = store.results; arrived = store.arrived }) t
    plain_back around pc slots store back t own =
        ap (λ l. record (at around pc [] (record { slots = slots; arrays = store.arrays; results = store.results; arrived = store.arrived }) t)
        { arrays = l }) (sym (settle_owned marks back store.arrays own))
        ∙ ap (λ l. record (at around pc [] (record {
          slots = slots;
          arrays = settled back store.arrays;
          results = store.results;
          arrived = store.arrived;
        }) t) { readers = l }) (sym (settle_read marks back store.arrays own))

    spawn_back : (around : List Around) (pc : ℕ) (slots : Slots ℤ) (results : Results ℤ) (store : Store) (back : Results (List ℤ)) (t : Trace) →
        On (record (at around pc [] (record { slots = slots; arrays = store.arrays; results = results; arrived = store.arrived }) t) { arrived = marked_results marks back ++ marked_results marks store.arrived })
        ≡ On (at around pc [] (record { slots = slots; arrays = store.arrays; results = results; arrived = back ++ store.arrived }) t)
    spawn_back around pc slots results store back t = ap (λ l. On (record
        (at around pc [] (record { slots = slots; arrays = store.arrays; results = results; arrived = store.arrived }) t) { arrived = l }))
        (told_more marks back store.arrived)

    -- the result of a call arrives: immediately or at the next join
    comes : (around : List Around) (locals : Locals) (taken' : Taken) (level : ℕ) (f : Function) (kind : CallKind) (target : Option Name)
        (xs read : List Name) (v : Option ℤ) (pc : ℕ) (store : Store) (outer : Outside) (frame : Frame) (back : Results (List ℤ)) (size : ℕ) (t : Trace) →
        level ≡ suc (length outer) → AllOwn marks back → GivenBy f v → TargetFine locals taken' f target
        → AgreesOf false locals.ints taken' frame.ints store.slots (store.results ∷ int_waits outer) → length store.slots ≡ size →
        ComesInt around locals.ints (taken_on kind level target xs read taken') kind target v pc store outer frame back size t
    comes around locals taken' level f Plain None xs read v pc store outer frame back size t at_level own given fine a n =
        record { slots' = store.slots; results' = store.results; went = ap On (plain_back around pc store.slots store back t own); agrees = a; count = n }
    comes around locals taken' level f Plain (Some x) xs read None pc store outer frame back size t at_level own given fine a n = absurd (true≢false (sym fine.1 ∙ given))
    comes around locals taken' level f Plain (Some x) xs read (Some v) pc store outer frame back size t at_level own given fine a n =
        let at_x = slot_of x locals.ints in
        record {
          slots' = slice_set store.slots at_x (Some v);
          results' = store.results;
          went =
              ap (λ s. run.given (Some at_x) (Some v) s) (plain_back around pc store.slots store back t own)
              ∙ taken (is_full (slice_get store.slots at_x)) (On (at around pc []
              (record {
                slots = slice_set store.slots at_x (Some v);
                arrays = settled back store.arrays;
                results = store.results;
                arrived = store.arrived;
              }) t)) Stuck (can_write false locals.ints taken' x frame.ints store.slots (store.results ∷ int_waits outer) fine.0 a);
          agrees = holding.assigns false locals.ints taken' x v frame.ints store.slots (store.results ∷ int_waits outer) fine.0 a;
          count = length-set store.slots at_x (Some v) ∙ n;
        }
    comes around locals taken' level f Spawned None xs read v pc store outer frame back size t at_level own given fine a n = record {
      slots' = store.slots;
      results' = store.results;
      went = spawn_back around pc store.slots store.results store back t;
      agrees = holding.takes false locals.ints taken' (frozen_by level read (taken_by level xs taken')) frame.ints store.slots
          (store.results ∷ int_waits outer) (λ d x h. past level read false d x (map (λ z. (z, SpawnIn level)) xs) taken' h) a;
      count = n;
    }
    comes around locals taken' level f Spawned (Some x) xs read None pc store outer frame back size t at_level own given fine a n = absurd (true≢false (sym fine.1 ∙ given))
    comes around locals taken' level f Spawned (Some x) xs read (Some v) pc store outer frame back size t at_level own given fine a n =
        let all = x ∷ xs in
        let depth : suc (length (int_waits outer)) ≡ level = ap suc (length-map outer (λ w. w.ints)) ∙ sym at_level in
        record {
          slots' = slice_set store.slots (slot_of x locals.ints) None;
          results' = (slot_of x locals.ints, v) ∷ store.results;
          went = spawn_back around pc (slice_set store.slots (slot_of x locals.ints) None) ((slot_of x locals.ints, v) ∷ store.results) store back t;
          agrees = holding.awaits false locals.ints taken' (frozen_by level read (taken_by level all taken')) x v frame.ints store.slots store.results (int_waits outer) fine.0
              (λ d y h. past level read false d y (map (λ z. (z, SpawnIn level)) all) taken' h)
              (ap (λ m. holds false m x (frozen_by level read (taken_by level all taken'))) depth
              ∙ holds_behind false level x (map (λ z. (z, ReaderIn level)) read) (taken_by level all taken')
              (held_by_spawn false level x all taken' (ap (λ b. if b then true else is_among x xs) ((bytes_eq-Decides x x).1 refl)))) a;
          count = length-set store.slots (slot_of x locals.ints) None ∙ n;
        }

    -- the arrays of a caller after it receives the arrays of a call
    record ComesArray (names : List Name) (after_it : Taken) (kind : CallKind) (store : Store) (outer : Outside) (moved : Slots (List ℤ))
        (back : Results (List ℤ)) (entries : Entries (List ℤ)) : Type 0 where
      pub agrees : AgreesOf true names after_it entries (arrays_after kind back moved) (arrived_after kind back store.arrived ∷ array_waits outer)

    -- the arrays of a call arrive: immediately or at the next join
    arrays_come : (locals : Locals) (taken' : Taken) (level : ℕ) (kind : CallKind) (target : Option Name) (xs read : List Name) (vs : List (List ℤ))
        (store : Store) (outer : Outside) (entries : Entries (List ℤ)) →
        level ≡ suc (length outer) → (us : AllUsable locals.arrays taken' xs) → differ xs ≡ true → length xs ≡ length vs →
        AgreesOf true locals.arrays taken' entries store.arrays (store.arrived ∷ array_waits outer) →
        ComesArray locals.arrays (taken_on kind level target xs read taken') kind store outer (moved_out (slots_for locals.arrays xs) store.arrays)
        (backs locals.arrays xs vs) (put_backs xs vs entries)
    arrays_come locals taken' level Plain target xs read vs store outer entries at_level us apart n a = record {
      agrees = subst (λ l. AgreesOf true locals.arrays taken' (put_backs xs vs entries) l (store.arrived ∷ array_waits outer)) (sym (settled_moved locals.arrays taken' xs vs store.arrays us apart n))
          (agree_back locals.arrays taken' xs vs entries store.arrays (store.arrived ∷ array_waits outer) us a);
    }
    arrays_come locals taken' level Spawned target xs read vs store outer entries at_level us apart n a =
        let all = target_names target ++ xs in
        let depth : suc (length (array_waits outer)) ≡ level = ap suc (length-map outer (λ w. w.arrays)) ∙ sym at_level in
        record {
          agrees = agree_await locals.arrays taken' (frozen_by level read (taken_by level all taken')) xs vs entries store.arrays store.arrived (array_waits outer) us apart n
              (λ d y h. past level read true d y (map (λ z. (z, SpawnIn level)) all) taken' h)
              (λ y h. ap (λ m. holds true m y (frozen_by level read (taken_by level all taken'))) depth
              ∙ holds_behind true level y (map (λ z. (z, ReaderIn level)) read) (taken_by level all taken')
              (held_by_spawn true level y all taken' (among_right y (target_names target) xs h))) a;
        }

    -- the slot for the result of a spawned call is available
    pub can_take : (locals : Locals) (taken' : Taken) (f : Function) (kind : CallKind) (target : Option Name) (store : Store) (outer : Outside) (frame : Frame) →
        TargetFine locals taken' f target → Agrees locals taken' frame store outer → may_take kind (option_map (λ x. slot_of x locals.ints) target) store.slots ≡ true
    can_take locals taken' f Plain target store outer frame fine a = refl
    can_take locals taken' f Spawned None store outer frame fine a = refl
    can_take locals taken' f Spawned (Some x) store outer frame fine a = writes locals taken' x frame store outer fine.0 a

    -- the state of the caller while it waits
    abbrev waits : (pc : ℕ) → Store → CallKind → (mark slot : Option ℕ) → (moved : List ℕ) → List run.Taken → Trace → Waiting
    waits pc store kind mark slot moved outs u = record {
      place = pc + 1;
      operands = [];
      slots = taken_from kind slot store.slots;
      arrays = owned marks (moved_out moved store.arrays);
      readers = read_in marks (moved_out moved store.arrays);
      results = store.results;
      arrived = marked_results marks store.arrived;
      depth = depth;
      kind = kind;
      site = mark;
      target = slot;
      taken = map (taken_at marks) outs;
      events = (ticked u).events;
    }

    -- the state of a call before its function begins
    abbrev pub entering : CallKind → (mark slot : Option ℕ) → (inner : ℕ) → Func → List ℤ → (given : List (List ℤ)) → List run.Taken → (read : Readers) → Entering
    entering kind mark slot inner fn vs xss outs read = record {
      kind = kind;
      site = mark;
      target = slot;
      depth = inner;
      func = fn;
      arguments = vs;
      given = xss;
      taken = map (taken_at marks) outs;
      lent = read;
    }

    -- the state at the start of the function
    abbrev pub entered : (around : List Around) (pc : ℕ) → Store → CallKind → (mark slot : Option ℕ) → (inner : ℕ) → (moved : List ℕ)
        → List run.Taken → Marks → Func → (vs : List ℤ) → List (List ℤ) → Trace → State
    entered around pc store kind mark slot inner moved outs callee fn vs xss u =
        here callee inner (Caller (waits pc store kind mark slot moved outs u) ∷ around) fn.start [] (first_store fn vs xss) (inside (ticked u))

    -- without operands no operand is kept
    none_kept : (kind : CallKind) → kept_by kind [] ≡ []
    none_kept Plain = refl
    none_kept Spawned = refl

    -- a call may keep no operands
    may_keep_none : (kind : CallKind) → may_keep kind [] ≡ true
    may_keep_none Plain = refl
    may_keep_none Spawned = refl

    -- a call that can begin begins
    pub begins_so : (around : List Around) (pc : ℕ) (ops : List ℤ) (store : Store) (kind : CallKind) (mark slot : Option ℕ) (inner : ℕ)
        (f : Function) (fn : Func) (vs : List ℤ) (xss : List (List ℤ)) (outs : List run.Taken) (moved : List ℕ) (u : Trace) →
        Compiled code fs lists f fn → length ops ≡ fn.params → length xss ≡ fn.array_params + fn.readers → map slot_taken outs ≡ moved → OwnSlots marks moved → may_take kind slot store.slots ≡ true →
        begins (at around pc ops store u) (entering kind mark slot inner fn vs (owned (marks_for f.params) xss) outs (lent (marks_for f.params) xss))
        ≡ On (entered around pc store kind mark slot inner moved outs (marks_for f.params) fn vs xss u)
    begins_so around pc ops store kind mark slot inner f fn vs xss outs moved u compiled n m out own take =
        let s = at around pc ops store u in
        let callee = marks_for f.params in
        let given = owned callee xss in
        let read = lent callee xss in
        let none : List ℤ = [] in
        let more = replicate (fn.arrays - fn.array_params) none in
        let e = entering kind mark slot inner fn vs given outs read in
        let left_over : drop fn.params ops ≡ [] = drop_all fn.params ops (omega (arith, n)) in
        let keeps : may_keep kind (drop fn.params ops) ≡ true = ap (may_keep kind) left_over ∙ may_keep_none kind in
        let nothing : kept_by kind (drop fn.params ops) ≡ [] = ap (kept_by kind) left_over ∙ none_kept kind in
        let rest : (may_take kind slot store.slots && may_keep kind (drop fn.params ops)) ≡ true = both_true (may_take kind slot store.slots) (may_keep kind (drop fn.params ops)) take keeps in
        let reads : has_readers fn read ≡ true = equal (length read) fn.readers (lent_many f fn compiled xss m) in
        let may : may_begin s e ≡ true =
        both_true (has_room fn ops given) (has_readers fn read && (may_take kind slot store.slots && may_keep kind (drop fn.params ops)))
        (has_its_room f fn compiled ops given n (own_many f fn compiled xss m))
        (both_true (has_readers fn read) (may_take kind slot store.slots && may_keep kind (drop fn.params ops)) reads rest) in
        let gone : moved_out (map slot_taken (map (taken_at marks) outs)) (owned marks store.arrays) ≡ owned marks (moved_out moved store.arrays) =
        ap (λ l. moved_out l (owned marks store.arrays)) (slots_told marks outs ∙ ap (numbers_at marks) out) ∙ sym (move_owned marks moved store.arrays own) in
        let w = waits pc store kind mark slot moved outs u in
        let first = here callee inner (Caller w ∷ around) fn.start [] (first_store fn vs xss) (inside (ticked u)) in
        taken (may_begin s e) (On (begun s e)) Stuck may
        ∙ ap (λ ls. On (record (begun s e) {
          around = Caller (record w {
            operands = ls;
            arrays = moved_out (map slot_taken (map (taken_at marks) outs)) (owned marks store.arrays);
            readers = read_in marks store.arrays;
          }) ∷ around;
        })) nothing
        ∙ ap (λ ls. On (record (begun s e) { around = Caller (record w { arrays = ls; readers = read_in marks store.arrays }) ∷ around })) gone
        ∙ ap (λ ls. On (record (begun s e) { around = Caller (record w { readers = ls }) ∷ around })) (sym (move_read marks moved store.arrays own))
        ∙ ap (λ ls. On (record first { arrays = ls; readers = read })) (sym (owned_full callee xss more (short f fn compiled xss m)))
        ∙ ap (λ ls. On (record first { readers = ls })) (sym (read_full callee xss more (short f fn compiled xss m)))

    -- the code executes a call, from the start of its function on
    module _ (bound : ℕ) (calls : Calls) (run_calls : CallsRun bound depth calls) where
      pub inside_runs : (around : List Around) (locals : Locals) (taken' : Taken) (level : ℕ) (kind : CallKind) (entry : Entry) (mark : Option ℕ)
          (target : Option Name) (line pc : ℕ) (size : Room) (f : Function) (fn : Func) (frame : Frame) (h : Hands marks locals taken' frame f fn)
          (store : Store) (outer : Outside) (read : List Name) (u : Trace) (l : ℕ) (next : Completion → ℕ → Trace → RunOutcome) →
          nat_lt MOST_DEPTH (depth_of entry depth) ≡ false → level ≡ suc (length outer) → Compiled code fs lists f fn
          → TargetFine locals taken' f target → Agrees locals taken' frame store outer → Fills marks store size → l < bound →
          Onwards code marks depth around locals (taken_on kind level target h.names read taken') (pc + 1) outer size l next →
          steps code l (entered around pc store kind mark (option_map (λ x. slot_of x locals.ints) target) (depth_of entry depth)
          (slots_for locals.arrays h.names) h.outs (marks_for f.params) fn h.ints h.arrays u)
          ≡ resume (inside (ticked u)) (calls entry f h.given line l) (λ r l' u'. resume (rejoined (event_of kind mark) (ticked u).events u') (going (set_result target r.0 (h.returned r.1)) l') next)
      inside_runs around locals taken' level kind entry mark target line pc size f fn frame h store outer read u l next shallow at_level compiled target_fine agrees m below on =
          let xs = h.names in
          let us = all_usable marks locals.arrays taken' xs h.writable in
          let slot = option_map (λ x. slot_of x locals.ints) target in
          let gone = slots_for locals.arrays xs in
          let after_all = taken_on kind level target xs read taken' in
          run_calls.enters entry shallow f fn compiled h.ints h.arrays h.given h.as_ints h.as_arrays h.bound
          (Caller (waits pc store kind mark slot gone h.outs u) ∷ around)
          line l (inside (ticked u)) (λ r l' u'. resume (rejoined (event_of kind mark) (ticked u).events u') (going (set_result target r.0 (h.returned r.1)) l') next) below
          (λ v g arrays l' u' given gives le.
          let vs = h.left g in
          let back' = backs locals.arrays xs vs in
          let t' = rejoined (event_of kind mark) (ticked u).events u' in
          let own = backs_own marks locals.arrays taken' xs vs h.writable in
          let moved : Store = record { slots = store.slots; arrays = moved_out gone store.arrays; results = store.results; arrived = store.arrived } in
          let come = comes around locals taken' level f kind target xs read v (pc + 1) moved outer frame back' size.ints t' at_level own given target_fine agrees.ints m.ints in
          let arrays_there = arrays_come locals taken' level kind target xs read vs store outer frame.arrays at_level us h.apart (h.many g) agrees.arrays in
          let after_it : Store = record {
            slots = come.slots';
            arrays = arrays_after kind back' (moved_out gone store.arrays);
            results = come.results';
            arrived = arrived_after kind back' store.arrived;
          } in
          let came : Frame = set_result target v (with_arrays frame (put_backs xs vs frame.arrays)) in
          let agrees' : Agrees locals after_all came after_it outer = frame_came target v frame
          (put_backs xs vs frame.arrays) after_all locals after_it outer come.agrees arrays_there.agrees agrees.whole in
          ap (λ o. go_on (returns_to (waits pc store kind mark slot gone h.outs u) around v o u') l' (λ s. steps code l' s))
          (given_told marks h.outs arrays ∙ ap (told_all marks) (h.found g arrays gives))
          ∙ ap (λ w. go_on w l' (λ s. steps code l' s)) come.went
          ∙ on came after_it l' t' agrees' (record { ints = come.count; arrays = arrays_count kind back' gone store.arrays ∙ m.arrays; own = arrived_own kind back' store.arrived own m.own }) le
          ∙ ap (λ q. next (Normal (set_result target v q)) l' t') (sym (h.back g))
          ∙ ap (next (Normal (set_result target v (h.returned g))) l') (sym (joined_quiet t')))
