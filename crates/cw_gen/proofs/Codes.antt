-- The code of each part of a program, and the functions that its calls find.
use Rattle.std.proofs.Common.{◌≡◌, ℕ, suc, ◌≤◌, Bool, not, cond, filter, List, [], ◌∷◌, ◌++◌, length, true, false, if◌then◌else◌, Option, Some, None, refl, sym, ap, ◌∙◌, arith, append_assoc, ℤ}
use Rattle.std.specs.Prelude.{reverse, take, map, min, is_none}
use Rattle.std.proofs.lemmas.List.{append-nil, length-reverse, reverse-reverse}
use Rattle.cw_facts.specs.Tests.{first_true, second_true, not_true}
use Rattle.cw_model.specs.Syntax.{Name, Expr, Variable, Stmt, Block, End, Then, Param, Function, is_array_param}
use Rattle.std.specs.List.{list_all}
use Rattle.cw_model.specs.Frames.{Frame, new_int, new_array, set_result}
use Rattle.cw_model.specs.Outcome.{Outcome, Trace, then_do}
use Rattle.cw_model.specs.Meaning.{Returned, Completion, going, returned_arrays}
use Rattle.cw_model.specs.Answers.{main_frame}
use Rattle.cw_model.specs.Typing.{Returns, Nowhere, WithInt, Alone, surely_returns, block_returns}
use Rattle.cw_model.specs.Ownership.{Taken}
use Rattle.cw_model.specs.Ownership as ownership
use Rattle.cw_tree.specs.Resolved.{Locals, is_reader, slot_of, locals_of}
use Rattle.cw_loops.specs.Slotted.{slotted_argument}
use Rattle.cw_loops.specs.Slotted as slotted
use Rattle.cw_code.specs.declared.code.Func.{Func}
use Rattle.cw_code.specs.Run.{Slots, Around, State, Transition, is_full, on_slot, settled, full, slots_of, arrays_of, arguments_of}
use Rattle.cw_gen.specs.Emit.{most_jump, distance, emitted_arg}
use Rattle.cw_gen.proofs.Texts.{expr_code}
use Rattle.cw_gen.specs.Marks.{Marks}
use Rattle.cw_gen.proofs.Marked.{owned, read_in, marked_results, AllOwn, settle_owned}
use Rattle.cw_gen.proofs.Fine.{NoArray, ArrayAlone, Room, Begins}
use Rattle.cw_gen.proofs.Stores.{Store, Outside, array_waits, Agrees}
use Rattle.cw_gen.proofs.Names.{names_in, values_in, names_more, values_more, all_of}

-- taking the length of a list returns the list
pub take_all : (xs : List ℤ) (n : ℕ) → n ≡ length xs → take n xs ≡ xs
take_all xs n e = ap (λ m. take m xs) e ∙ whole xs
  where
    whole : (xs : List ℤ) → take (length xs) xs ≡ xs
    whole [] = refl
    whole (x ∷ xs) = ap (λ l. x ∷ l) (whole xs)

-- the continuation in the caller after a call
abbrev pub leaves : Option Name → List Param → List Expr → Frame → Returned → ℕ → Outcome Completion
leaves target ps es frame r = going (set_result target r.0 (returned_arrays ps es r.1 frame))

-- the arrays among arguments, whether given away or only read
abbrev pub arrays_named : List Param → List Expr → List Name
arrays_named [] es = []
arrays_named (p ∷ ps) [] = []
arrays_named (p ∷ ps) (e ∷ es) = (if is_array_param p then ownership.names_in e else []) ++ arrays_named ps es

-- a frame after parameters are bound to values: integers and arrays, each in order
pub record Bound (ps : List Param) (vs : List ℤ) (xss : List (List ℤ)) (before after : Frame) : Type 0 where
  pub ints : names_in after.ints ≡ names_in before.ints ++ (locals_of ps).ints
  pub values : values_in after.ints ≡ values_in before.ints ++ vs
  pub arrays : names_in after.arrays ≡ names_in before.arrays ++ (locals_of ps).arrays
  pub elements : values_in after.arrays ≡ values_in before.arrays ++ xss
  pub whole : after.sliced ≡ before.sliced

-- without parameters nothing is bound
pub bound_none : (g : Frame) → Bound [] [] [] g g
bound_none g = record {
  ints = sym (append-nil (names_in g.ints));
  values = sym (append-nil (values_in g.ints));
  arrays = sym (append-nil (names_in g.arrays));
  elements = sym (append-nil (values_in g.arrays));
  whole = refl;
}

-- one integer, and then the other parameters
pub bound_int : (p : Param) (ps : List Param) (v : ℤ) (vs : List ℤ) (xss : List (List ℤ)) (g after : Frame) → (is_array_param p) ≡ false
    → Bound ps vs xss (new_int p.name v g) after → Bound (p ∷ ps) (v ∷ vs) xss g after
bound_int p ps v vs xss g after is b = record {
  ints = b.ints ∙ ap (λ l. l ++ (locals_of ps).ints) (names_more g.ints p.name v) ∙ append_assoc (names_in g.ints) (p.name ∷ []) (locals_of ps).ints
      ∙ ap (λ l. names_in g.ints ++ l) (sym (kept (not (is_array_param p)) (ap not is)));
  values = b.values ∙ ap (λ l. l ++ vs) (values_more g.ints p.name v) ∙ append_assoc (values_in g.ints) (v ∷ []) vs;
  arrays = b.arrays ∙ ap (λ l. names_in g.arrays ++ l) (sym (left_out (is_array_param p) is));
  elements = b.elements;
  whole = b.whole;
}
  where
    kept : (c : Bool) → c ≡ true → map (λ (q : Param). q.name) (cond c (p ∷ filter (λ q. not (is_array_param q)) ps) (filter (λ q. not (is_array_param q)) ps)) ≡ p.name ∷ (locals_of ps).ints
    kept true e = refl
    kept false e = cc

    left_out : (c : Bool) → c ≡ false → map (λ (q : Param). q.name) (cond c (p ∷ filter (λ q. (is_array_param q)) ps) (filter (λ q. (is_array_param q)) ps)) ≡ (locals_of ps).arrays
    left_out true e = cc
    left_out false e = refl

-- one array, and then the other parameters
pub bound_array : (p : Param) (ps : List Param) (xs : List ℤ) (vs : List ℤ) (xss : List (List ℤ)) (g after : Frame) → (is_array_param p) ≡ true
    → Bound ps vs xss (new_array p.name xs g) after → Bound (p ∷ ps) vs (xs ∷ xss) g after
bound_array p ps xs vs xss g after is b = record {
  ints = b.ints ∙ ap (λ l. names_in g.ints ++ l) (sym (left_out (not (is_array_param p)) (ap not is)));
  values = b.values;
  arrays = b.arrays ∙ ap (λ l. l ++ (locals_of ps).arrays) (names_more g.arrays p.name xs)
      ∙ append_assoc (names_in g.arrays) (p.name ∷ []) (locals_of ps).arrays ∙ ap (λ l. names_in g.arrays ++ l) (sym (kept (is_array_param p) is));
  elements = b.elements ∙ ap (λ l. l ++ xss) (values_more g.arrays p.name xs) ∙ append_assoc (values_in g.arrays) (xs ∷ []) xss;
  whole = b.whole;
}
  where
    kept : (c : Bool) → c ≡ true → map (λ (q : Param). q.name) (cond c (p ∷ filter (λ q. (is_array_param q)) ps) (filter (λ q. (is_array_param q)) ps)) ≡ p.name ∷ (locals_of ps).arrays
    kept true e = refl
    kept false e = cc

    left_out : (c : Bool) → c ≡ false → map (λ (q : Param). q.name) (cond c (p ∷ filter (λ q. not (is_array_param q)) ps) (filter (λ q. not (is_array_param q)) ps)) ≡ (locals_of ps).ints
    left_out true e = cc
    left_out false e = refl

-- the frame of main binds its parameters
pub bound_main : (ps : List Param) (vs : List ℤ) (g : Frame) → list_all (λ p. not (is_array_param p)) ps ≡ true → length vs ≡ length ps → Bound ps vs [] g (main_frame ps vs g)
bound_main [] [] g ints n = bound_none g
bound_main [] (v ∷ vs) g ints n = absurd (omega (arith, n))
bound_main (p ∷ ps) [] g ints n = absurd (omega (arith, n))
bound_main (p ∷ ps) (v ∷ vs) g ints n =
    let rest = list_all (λ q. not (is_array_param q)) ps in
    bound_int p ps v vs [] g (main_frame ps vs (new_int p.name v g)) (not_true (is_array_param p) (first_true (not (is_array_param p)) rest ints))
    (bound_main ps vs (new_int p.name v g) (second_true (not (is_array_param p)) rest ints) (omega (arith, n)))

-- main takes only integers, one for each parameter
pub main_locals : (ps : List Param) → list_all (λ p. not (is_array_param p)) ps ≡ true → (length (locals_of ps).ints ≡ length ps) × (length (locals_of ps).arrays ≡ 0)
main_locals [] ints = (refl, refl)
main_locals (p ∷ ps) ints =
    let rest = list_all (λ q. not (is_array_param q)) ps in
    let more = main_locals ps (second_true (not (is_array_param p)) rest ints) in
    test (is_array_param p) (first_true (not (is_array_param p)) rest ints) more.0 more.1
  where
    test : (b : Bool) → not b ≡ true → length (locals_of ps).ints ≡ length ps → length (locals_of ps).arrays ≡ 0 →
        (length (map (λ (q : Param). q.name) (cond (not b) (p ∷ filter (λ q. not (is_array_param q)) ps) (filter (λ q. not (is_array_param q)) ps)))
        ≡ suc (length ps)) × (length (map (λ (q : Param). q.name) (cond b (p ∷ filter (λ q. (is_array_param q)) ps) (filter (λ q. (is_array_param q)) ps))) ≡ 0)
    test true h a b = cc
    test false h a b = (ap suc a, b)

-- the arguments of a call, read from its operands
pub arguments_are : (fn : Func) (vs : List ℤ) → fn.params ≡ length vs → arguments_of fn (reverse vs) ≡ vs
arguments_are fn vs n = ap reverse (take_all (reverse vs) fn.params (n ∙ sym (length-reverse vs))) ∙ reverse-reverse vs

-- the slots of a call at its begin
abbrev pub first_store : Func → List ℤ → List (List ℤ) → Store
first_store fn vs xss = record { slots = slots_of fn vs; arrays = arrays_of fn xss; results = []; arrived = [] }

-- a distance within the limit is not changed
pub distance_is : (n : ℕ) → n ≤ most_jump → distance n ≡ n
distance_is n le = least n most_jump le
  where
    least : (a b : ℕ) → a ≤ b → min a b ≡ a
    least a b h = omega (arith, h)

-- an integer as an argument
pub arg_code : (marks : Marks) (locals : Locals) (line : ℕ) (ps : List Param) (e : Expr) → NoArray locals e → emitted_arg marks line (slotted_argument locals ps e) ≡ expr_code marks locals line e
arg_code marks locals line ps (Variable x) h = ap (λ b. emitted_arg marks line (if b then slotted.slot_to ps (slot_of x locals.arrays) else slotted.Int (slotted.Variable (slot_of x locals.ints)))) h
arg_code marks locals line ps _ h = refl

-- an array as an argument
pub array_code : (marks : Marks) (locals : Locals) (line : ℕ) (ps : List Param) (e : Expr) → ArrayAlone locals e → emitted_arg marks line (slotted_argument locals ps e) ≡ []
array_code marks locals line ps (Variable x) h =
    ap (λ b. emitted_arg marks line (if b then slotted.slot_to ps (slot_of x locals.arrays) else slotted.Int (slotted.Variable (slot_of x locals.ints)))) h
    ∙ either (is_reader ps)
  where
    either : (b : Bool) → emitted_arg marks line (if b then slotted.Shared (slot_of x locals.arrays) else slotted.Array (slot_of x locals.arrays)) ≡ []
    either true = refl
    either false = refl
array_code marks locals line ps _ h = absurd h

-- the state of a call at a place; array slots that are only read are readers in the code
abbrev pub here : Marks → (depth : ℕ) → List Around → ℕ → List ℤ → Store → Trace → State
here marks depth around place operands store trace = record {
  place = place;
  operands = operands;
  slots = store.slots;
  arrays = owned marks store.arrays;
  readers = read_in marks store.arrays;
  results = store.results;
  arrived = marked_results marks store.arrived;
  depth = depth;
  around = around;
  trace = trace;
}

-- the arrays of a call that ends are the arrays of its frame; the arrays of its parameters come first
pub record GivesBack (marks : Marks) (given : List Name) (frame : Frame) (arrays : Slots (List ℤ)) : Type 0 where
  pub more : List Name
  pub named : names_in frame.arrays ≡ given ++ more
  pub rest : List (List ℤ)
  pub are : arrays ≡ owned marks (full (values_in frame.arrays ++ rest))

-- a return is in no inner block
abbrev pub Outermost : Returns → Outside → Type 0
Outermost Nowhere outer = Unit {0}
Outermost WithInt outer = outer ≡ []
Outermost Alone outer = outer ≡ []

-- a statement that does not return, followed by a block that does not return
pub both_go_on : (line : ℕ) (s : Stmt) (b : Block) → surely_returns s ≡ false → block_returns b ≡ false → block_returns (Then line s b) ≡ false
both_go_on line s End h k = h
both_go_on line s (Then line' s' b) h k = k

-- the result of a call, which exists only if its function returns an integer
abbrev pub GivenBy : Function → Option ℤ → Type 0
GivenBy f (Some v) = Unit {0}
GivenBy f None = f.gives_int ≡ false

-- the result that a return may have
abbrev pub MayGive : Returns → Option ℤ → Type 0
MayGive Nowhere v = ⊥
MayGive WithInt v = is_none v ≡ false
MayGive Alone v = is_none v ≡ true

-- the arrays that a call returns at its end are the arrays of its frame
pub gives_back : (marks : Marks) (room : Room) (locals : Locals) (taken' : Taken) (frame : Frame) (store : Store) (outer : Outside) → outer ≡ []
    → Begins room.given locals.arrays → Agrees locals taken' frame store outer → AllOwn marks store.arrived
    → GivesBack marks room.given frame (settled (marked_results marks store.arrived) (owned marks store.arrays))
gives_back marks room locals taken' frame store outer e begins a own = record {
  more = begins.more;
  named = a.arrays.named ∙ begins.is;
  rest = a.arrays.rest;
  are =
      sym (settle_owned marks store.arrived store.arrays own)
      ∙ ap (owned marks) (ap (λ l. settled l store.arrays) (sym (append-nil store.arrived)) ∙ ap (λ o. settled (store.arrived ++ all_of (array_waits o)) store.arrays) (sym e) ∙ a.arrays.held);
}

-- a slot that is full
pub full_slot : {A : Type 0} (o : Option (Option A)) (w : Transition) → is_full o ≡ true → on_slot o (λ old. w) ≡ w
full_slot (Some (Some x)) w h = refl
full_slot (Some None) w h = cc
full_slot None w h = cc

-- a part of a run, and its continuation
abbrev pub then_do_after : {A B : Type 0} → (A → ℕ → Outcome B) → (ℕ → Outcome A) → ℕ → Outcome B
then_do_after go piece = λ l. then_do (piece l) go
