-- Arrays as arguments: the arrays that a call takes, and the arrays that it returns.
use Rattle.std.proofs.Common.{◌≡◌, ℕ, suc, List, [], ◌∷◌, ◌++◌, length, Bool, true, false, not, ◌&&◌, if◌then◌else◌, cond, filter, Option, Some, None, refl, sym, ap, ◌∙◌, arith, append_assoc, ℤ}
use Rattle.std.specs.Prelude.{slice_get, slice_set, map}
use Rattle.std.proofs.lemmas.List.{length-set, set-set, set_comm}
use Rattle.std.proofs.lemmas.Slice.Eq.{bytes_eq-Decides}
use Rattle.std.specs.List.{list_any}
use Rattle.cw_facts.specs.Tests.{first_true, second_true, not_true, neither_first, neither_second}
use Rattle.cw_model.specs.declared.syntax.NameKind.{NameKind}
use Rattle.cw_model.specs.declared.syntax.NameKind.TheVariants.{Integer, Array, Const}
use Rattle.cw_model.specs.Syntax.{Name, Expr, Number, Variable, Element, Length, Negative, Not, Binary, Param, takes_array, is_written_kind, is_const_kind}
use Rattle.cw_model.specs.Names.{same_name, is_among, differ, find, put}
use Rattle.cw_model.specs.declared.syntax.CallKind.{CallKind}
use Rattle.cw_model.specs.declared.syntax.CallKind.TheVariants.{Plain, Spawned}
use Rattle.cw_model.specs.Frames.{Frame, array_of, set_array, set_result}
use Rattle.cw_model.specs.Meaning.{returned_array, returned_arrays}
use Rattle.cw_model.specs.Ownership.{Taken, names_in, arrays_given, arrays_lent}
use Rattle.cw_code.specs.Run as run
use Rattle.cw_code.specs.Run.{Slots, Results, Whole, moved_out, and_array, arrays_in, and_result, settled, full, given_back}
use Rattle.cw_code.specs.lemmas.Slots.{settled_count, settled_append}
use Rattle.cw_tree.specs.Resolved.{Locals, slot_of}
use Rattle.cw_tree.specs.lemmas.Names.{front_among, later_among}
use Rattle.cw_loops.specs.Slotted.{slotted_expr, slotted_argument, slotted_arguments}
use Rattle.cw_loops.specs.Slotted as slotted
use Rattle.cw_loops.specs.lemmas.Naming.{other_than}
use Rattle.cw_gen.specs.Emit.{passed_in, lent_in}
use Rattle.cw_gen.specs.Marks.{Marks, place_of, array_at}
use Rattle.cw_gen.proofs.Marked.{owned, read_in, OwnSlots, numbers_at, AllOwn, loan_found}
use Rattle.cw_gen.proofs.Texts.{taken_params}
use Rattle.cw_gen.proofs.Fine.{IsUsable, AllUsable, AllWritable, NotBoth, ArrayAlone, ArgFine, given_alone, ArgsFine}
use Rattle.cw_gen.proofs.Takens.{holds}
use Rattle.cw_gen.proofs.Names.{Entries, values_in, all_of, get-other, slots_apart, AgreesOf, AllHeld}
use Rattle.cw_gen.proofs.Names as holding
use Rattle.cw_gen.proofs.Stores.{Store, Outside, int_waits, array_waits, Agrees}

-- the slots of names
abbrev pub slots_for : (names given : List Name) → List ℕ
slots_for names given = map (λ a. slot_of a names) given

-- arrays that may be written are usable
pub all_usable : (marks : Marks) (names : List Name) (taken : Taken) (xs : List Name) → AllWritable marks names taken xs → AllUsable names taken xs
all_usable marks names taken [] h = tt
all_usable marks names taken (x ∷ xs) h = (h.0.usable, all_usable marks names taken xs h.1)

-- the slots of arrays that may be written are not only read
pub own_slots : (marks : Marks) (names : List Name) (taken : Taken) (xs : List Name) → AllWritable marks names taken xs → OwnSlots marks (slots_for names xs)
own_slots marks names taken [] h = tt
own_slots marks names taken (x ∷ xs) h = (h.0.own, own_slots marks names taken xs h.1)

-- the arrays among arguments that are given away may be written
pub writable_args : (marks : Marks) (locals : Locals) (taken : Taken) (ps : List Param) (es : List Expr) → ArgsFine marks locals taken ps es
    → AllWritable marks locals.arrays taken (arrays_given ps es)
writable_args marks locals taken [] [] fine = tt
writable_args marks locals taken [] (e ∷ es) fine = absurd fine
writable_args marks locals taken (p ∷ ps) [] fine = absurd fine
writable_args marks locals taken (p ∷ ps) (e ∷ es) fine = one (arrays_given ps es) p.kind e fine.0 (writable_args marks locals taken ps es fine.1)
  where
    one : (rest : List Name) (k : NameKind) (e : Expr) → ArgFine k marks locals taken e → AllWritable marks locals.arrays taken rest
        → AllWritable marks locals.arrays taken ((if is_written_kind k then names_in e else []) ++ rest)
    one rest Integer e h r = r
    one rest Const e h r = r
    one rest Array (Variable a) h r = (h, r)
    one rest Array _ h r = absurd h

-- the arrays among arguments that are only read are usable
pub usable_lent : (marks : Marks) (locals : Locals) (taken : Taken) (ps : List Param) (es : List Expr) → ArgsFine marks locals taken ps es → AllUsable locals.arrays taken (arrays_lent ps es)
usable_lent marks locals taken [] [] fine = tt
usable_lent marks locals taken [] (e ∷ es) fine = absurd fine
usable_lent marks locals taken (p ∷ ps) [] fine = absurd fine
usable_lent marks locals taken (p ∷ ps) (e ∷ es) fine = one (arrays_lent ps es) p.kind e fine.0 (usable_lent marks locals taken ps es fine.1)
  where
    one : (rest : List Name) (k : NameKind) (e : Expr) → ArgFine k marks locals taken e → AllUsable locals.arrays taken rest
        → AllUsable locals.arrays taken ((if is_const_kind k then names_in e else []) ++ rest)
    one rest Integer e h r = r
    one rest Array e h r = r
    one rest Const (Variable a) h r = (h, r)
    one rest Const _ h r = absurd h

-- the list of a call has the slots of its arrays, with the numbers of the code
pub passed_slots : (marks : Marks) (locals : Locals) (taken : Taken) (ps : List Param) (es : List Expr) → ArgsFine marks locals taken ps es →
    passed_in marks (slotted_arguments locals ps es) ≡ numbers_at marks (slots_for locals.arrays (arrays_given ps es))
passed_slots marks locals taken [] [] fine = refl
passed_slots marks locals taken [] (e ∷ es) fine = absurd fine
passed_slots marks locals taken (p ∷ ps) [] fine = absurd fine
passed_slots marks locals taken (p ∷ ps) (e ∷ es) fine = one (slotted_arguments locals ps es) (arrays_given ps es) (passed_slots marks locals taken ps es fine.1) p.kind e fine.0
  where
    -- an argument for a parameter of this kind
    at_kind : NameKind → Expr → slotted.Argument
    at_kind k (Variable x) = if is_among x locals.arrays then (if is_const_kind k then slotted.Shared (slot_of x locals.arrays)
        else slotted.Array (slot_of x locals.arrays)) else slotted.Int (slotted.Variable (slot_of x locals.ints))
    at_kind k e = slotted.Int (slotted_expr locals e)

    same : (e : Expr) → slotted_argument locals (p ∷ ps) e ≡ at_kind p.kind e
    same (Number n) = refl
    same (Variable x) = refl
    same (Element a e) = refl
    same (Length a) = refl
    same (Negative e) = refl
    same (Not e) = refl
    same (Binary o d e) = refl

    kinds : (args : List slotted.Argument) (rest : List Name) → passed_in marks args ≡ numbers_at marks (slots_for locals.arrays rest) → (k : NameKind) (e : Expr) → ArgFine k marks locals taken e →
        passed_in marks (at_kind k e ∷ args) ≡ numbers_at marks (slots_for locals.arrays ((if is_written_kind k then names_in e else []) ++ rest))
    kinds args rest more Integer (Variable x) h = ap (λ c. passed_in marks
        ((if c then slotted.Array (slot_of x locals.arrays) else slotted.Int (slotted.Variable (slot_of x locals.ints))) ∷ args)) h.1 ∙ more
    kinds args rest more Integer _ h = more
    kinds args rest more Array (Variable a) h = ap (λ c. passed_in marks
        ((if c then slotted.Array (slot_of a locals.arrays) else slotted.Int (slotted.Variable (slot_of a locals.ints))) ∷ args)) h.usable.declared
        ∙ ap (λ l. array_at marks (slot_of a locals.arrays) ∷ l) more
    kinds args rest more Array _ h = absurd h
    kinds args rest more Const (Variable a) h = ap (λ c. passed_in marks
        ((if c then slotted.Shared (slot_of a locals.arrays) else slotted.Int (slotted.Variable (slot_of a locals.ints))) ∷ args)) h.declared ∙ more
    kinds args rest more Const _ h = absurd h

    one : (args : List slotted.Argument) (rest : List Name) → passed_in marks args ≡ numbers_at marks (slots_for locals.arrays rest) → (k : NameKind) (e : Expr) → ArgFine p.kind marks locals taken e →
        passed_in marks (slotted_argument locals (p ∷ ps) e ∷ args) ≡ numbers_at marks (slots_for locals.arrays ((if is_written_kind p.kind then names_in e else []) ++ rest))
    one args rest more k e h = ap (λ a. passed_in marks (a ∷ args)) (same e) ∙ kinds args rest more p.kind e h

-- the loans of a call are the places of the arrays that are only read
pub lent_slots : (marks : Marks) (locals : Locals) (taken : Taken) (ps : List Param) (es : List Expr) → ArgsFine marks locals taken ps es →
    lent_in marks (slotted_arguments locals ps es) ≡ map (place_of marks) (slots_for locals.arrays (arrays_lent ps es))
lent_slots marks locals taken [] [] fine = refl
lent_slots marks locals taken [] (e ∷ es) fine = absurd fine
lent_slots marks locals taken (p ∷ ps) [] fine = absurd fine
lent_slots marks locals taken (p ∷ ps) (e ∷ es) fine = one (slotted_arguments locals ps es) (arrays_lent ps es) (lent_slots marks locals taken ps es fine.1) e fine.0
  where
    at_kind : NameKind → Expr → slotted.Argument
    at_kind k (Variable x) = if is_among x locals.arrays then (if is_const_kind k then slotted.Shared (slot_of x locals.arrays)
        else slotted.Array (slot_of x locals.arrays)) else slotted.Int (slotted.Variable (slot_of x locals.ints))
    at_kind k e = slotted.Int (slotted_expr locals e)

    same : (e : Expr) → slotted_argument locals (p ∷ ps) e ≡ at_kind p.kind e
    same (Number n) = refl
    same (Variable x) = refl
    same (Element a e) = refl
    same (Length a) = refl
    same (Negative e) = refl
    same (Not e) = refl
    same (Binary o d e) = refl

    kinds : (args : List slotted.Argument) (rest : List Name) → lent_in marks args ≡ map (place_of marks) (slots_for locals.arrays rest) → (k : NameKind) (e : Expr) → ArgFine k marks locals taken e →
        lent_in marks (at_kind k e ∷ args) ≡ map (place_of marks) (slots_for locals.arrays ((if is_const_kind k then names_in e else []) ++ rest))
    kinds args rest more Integer (Variable x) h = ap (λ c. lent_in marks
        ((if c then slotted.Array (slot_of x locals.arrays) else slotted.Int (slotted.Variable (slot_of x locals.ints))) ∷ args)) h.1 ∙ more
    kinds args rest more Integer _ h = more
    kinds args rest more Array (Variable a) h = ap (λ c. lent_in marks
        ((if c then slotted.Array (slot_of a locals.arrays) else slotted.Int (slotted.Variable (slot_of a locals.ints))) ∷ args)) h.usable.declared ∙ more
    kinds args rest more Array _ h = absurd h
    kinds args rest more Const (Variable a) h = ap (λ c. lent_in marks
        ((if c then slotted.Shared (slot_of a locals.arrays) else slotted.Int (slotted.Variable (slot_of a locals.ints))) ∷ args)) h.declared
        ∙ ap (λ l. place_of marks (slot_of a locals.arrays) ∷ l) more
    kinds args rest more Const _ h = absurd h

    one : (args : List slotted.Argument) (rest : List Name) → lent_in marks args ≡ map (place_of marks) (slots_for locals.arrays rest) → (e : Expr) → ArgFine p.kind marks locals taken e →
        lent_in marks (slotted_argument locals (p ∷ ps) e ∷ args) ≡ map (place_of marks) (slots_for locals.arrays ((if is_const_kind p.kind then names_in e else []) ++ rest))
    one args rest more e h = ap (λ a. lent_in marks (a ∷ args)) (same e) ∙ kinds args rest more p.kind e h

-- the number of arrays that are given away is the number that is taken
pub as_many_arrays : (marks : Marks) (locals : Locals) (taken : Taken) (ps : List Param) (es : List Expr) → ArgsFine marks locals taken ps es → length (arrays_given ps es) ≡ length (taken_params ps)
as_many_arrays marks locals taken [] [] fine = refl
as_many_arrays marks locals taken [] (e ∷ es) fine = absurd fine
as_many_arrays marks locals taken (p ∷ ps) [] fine = absurd fine
as_many_arrays marks locals taken (p ∷ ps) (e ∷ es) fine = one p.kind e fine.0 (as_many_arrays marks locals taken ps es fine.1)
  where
    one : (k : NameKind) (e : Expr) → ArgFine k marks locals taken e → length (arrays_given ps es) ≡ length (taken_params ps) →
        length ((if is_written_kind k then names_in e else []) ++ arrays_given ps es)
        ≡ length (map (λ (q : Param). q.name) (cond (is_written_kind k) (p ∷ filter (λ q. takes_array q) ps) (filter (λ q. takes_array q) ps)))
    one Integer e h k = k
    one Const e h k = k
    one Array (Variable a) h k = ap suc k
    one Array _ h k = absurd h

-- a name that is not among others has another slot
pub not_same : (x : Name) (given : List Name) (b : Name) → is_among x (b ∷ given) ≡ false → (same_name x b ≡ false) × (is_among x given ≡ false)
not_same x given b h = cases (same_name x b) refl h
  where
    cases : (c : Bool) → same_name x b ≡ c → (if c then true else is_among x given) ≡ false → (same_name x b ≡ false) × (is_among x given ≡ false)
    cases true e h' = cc
    cases false e h' = (e, h')

-- moving other arrays out keeps a slot
pub get-moved : {A : Type 0} (names : List Name) (taken : Taken) (a : Name) (given : List Name) (slots : Slots A) → IsUsable names taken a
    → AllUsable names taken given → is_among a given ≡ false → slice_get (moved_out (slots_for names given) slots) (slot_of a names)
    ≡ slice_get slots (slot_of a names)
get-moved names taken a [] slots u us apart = refl
get-moved names taken a (b ∷ given) slots u us apart =
    let other = not_same a given b apart in
    get-other (moved_out (slots_for names given) slots) (slot_of a names) (slot_of b names) None (slots_apart a b names u.declared us.0.declared other.0)
    ∙ get-moved names taken a given slots u us.1 other.1

-- moving other arrays out commutes with setting a slot
set-moved : {A : Type 0} (names : List Name) (taken : Taken) (a : Name) (given : List Name) (v : Option A) (slots : Slots A) → IsUsable names taken a
    → AllUsable names taken given → is_among a given ≡ false → slice_set (moved_out (slots_for names given) slots) (slot_of a names) v
    ≡ moved_out (slots_for names given) (slice_set slots (slot_of a names) v)
set-moved names taken a [] v slots u us apart = refl
set-moved names taken a (b ∷ given) v slots u us apart =
    let other = not_same a given b apart in
    sym (set_comm (moved_out (slots_for names given) slots) (slot_of a names) (slot_of b names) v None (slots_apart a b names u.declared us.0.declared other.0))
    ∙ ap (λ l. slice_set l (slot_of b names) None) (set-moved names taken a given v slots u us.1 other.1)

-- moving arrays out keeps the number of slots
pub length-moved : {A : Type 0} (given : List ℕ) (slots : Slots A) → length (moved_out given slots) ≡ length slots
length-moved [] slots = refl
length-moved (a ∷ given) slots = length-set (moved_out given slots) a None ∙ length-moved given slots

-- a call finds its arrays
pub arrays_found : (names : List Name) (taken : Taken) (entries : Entries (List ℤ)) (slots : Slots (List ℤ)) (waits : List (Results (List ℤ)))
    (given : List Name) → AgreesOf true names taken entries slots waits → AllUsable names taken given → differ given ≡ true →
    arrays_in (slots_for names given) slots ≡ Some (map (λ a. find [] a entries) given)
arrays_found names taken entries slots waits [] agrees us apart = refl
arrays_found names taken entries slots waits (a ∷ given) agrees us apart =
    let other = not_true (is_among a given) (first_true (not (is_among a given)) (differ given) apart) in
    ap (λ o. and_array o (arrays_in (slots_for names given) slots)) (get-moved names taken a given slots us.0 us.1 other ∙ holding.loads true [] names taken a entries slots waits us.0 agrees)
    ∙ ap (λ o. and_array (Some (Some (find [] a entries))) o) (arrays_found names taken entries slots waits given agrees us.1 (second_true (not (is_among a given)) (differ given) apart))

-- a call is lent the arrays that it reads and does not also take
pub loans_found : (marks : Marks) (names : List Name) (taken : Taken) (entries : Entries (List ℤ)) (slots : Slots (List ℤ))
    (waits : List (Results (List ℤ))) (given read : List Name) → AgreesOf true names taken entries slots waits → AllWritable marks names taken given
    → AllUsable names taken read → NotBoth given read →
    run.lent_in (map (place_of marks) (slots_for names read)) (moved_out (numbers_at marks (slots_for names given)) (owned marks slots))
    (read_in marks slots) ≡ Some (map (λ a. find [] a entries) read)
loans_found marks names taken entries slots waits given [] agrees ws us apart = refl
loans_found marks names taken entries slots waits given (a ∷ read) agrees ws us apart =
    let us' = all_usable marks names taken given ws in
    let here = get-moved names taken a given slots us.0 us' (neither_first (is_among a given) (list_any (λ b. is_among b given) read) apart)
    ∙ holding.loads true [] names taken a entries slots waits us.0 agrees in
    ap (λ o. and_array o (run.lent_in (map (place_of marks) (slots_for names read))
    (moved_out (numbers_at marks (slots_for names given)) (owned marks slots)) (read_in marks slots)))
    (loan_found marks (slots_for names given) (slot_of a names) slots (find [] a entries) (own_slots marks names taken given ws) here)
    ∙ ap (and_array (Some (Some (find [] a entries)))) (loans_found marks names taken entries slots waits given read agrees ws us.1
    (neither_second (is_among a given) (list_any (λ b. is_among b given) read) apart))

-- these values return to the slots of these names
abbrev pub backs : (names given : List Name) → List (List ℤ) → Results (List ℤ)
backs names [] vs = []
backs names (a ∷ given) [] = []
backs names (a ∷ given) (v ∷ vs) = (slot_of a names, v) ∷ backs names given vs

-- no slot of a returned array is only read
pub backs_own : (marks : Marks) (names : List Name) (taken : Taken) (given : List Name) (vs : List (List ℤ)) → AllWritable marks names taken given → AllOwn marks (backs names given vs)
backs_own marks names taken [] vs h = tt
backs_own marks names taken (a ∷ given) [] h = tt
backs_own marks names taken (a ∷ given) (v ∷ vs) h = (h.0.own, backs_own marks names taken given vs h.1)

-- these values return to these names of a frame
abbrev pub put_backs : (given : List Name) → List (List ℤ) → Entries (List ℤ) → Entries (List ℤ)
put_backs [] vs entries = entries
put_backs (a ∷ given) [] entries = entries
put_backs (a ∷ given) (v ∷ vs) entries = put_backs given vs (put a v entries)

-- the arrays of a call, by the names of its parameters
abbrev pub left_in : Frame → List Name → List (List ℤ)
left_in g qs = map (λ q. array_of g q) qs

-- a frame with other arrays
abbrev pub with_arrays : Frame → Entries (List ℤ) → Frame
with_arrays frame entries = record { ints = frame.ints; arrays = entries; sliced = frame.sliced }

-- an array that a call takes is a name as an argument
taken_alone : (k : NameKind) (marks : Marks) (locals : Locals) (taken : Taken) (e : Expr) → is_written_kind k ≡ true → ArgFine k marks locals taken e → ArrayAlone locals e
taken_alone Integer marks locals taken e is h = cc
taken_alone Array marks locals taken e is h = given_alone marks locals taken e h
taken_alone Const marks locals taken e is h = cc

-- the arrays of a call return to their names
pub returned_are : (marks : Marks) (locals : Locals) (taken : Taken) (ps : List Param) (es : List Expr) (g frame : Frame)
    → ArgsFine marks locals taken ps es → returned_arrays ps es g frame ≡ with_arrays frame (put_backs (arrays_given ps es) (left_in g (taken_params ps)) frame.arrays)
returned_are marks locals taken [] [] g frame fine = refl
returned_are marks locals taken [] (e ∷ es) g frame fine = absurd fine
returned_are marks locals taken (p ∷ ps) [] g frame fine = absurd fine
returned_are marks locals taken (p ∷ ps) (e ∷ es) g frame fine = returned_are marks locals taken ps es g (returned_array p e g frame) fine.1
    ∙ one (takes_array p) refl e (λ is. taken_alone p.kind marks locals taken e is fine.0)
  where
    one : (b : Bool) → takes_array p ≡ b → (e : Expr) → (b ≡ true → ArrayAlone locals e)
        → with_arrays (returned_array p e g frame) (put_backs (arrays_given ps es) (left_in g (taken_params ps)) (returned_array p e g frame).arrays)
        ≡ with_arrays frame (put_backs ((if b then names_in e else []) ++ arrays_given ps es)
        (left_in g (map (λ (q : Param). q.name) (cond b (p ∷ filter (λ q. takes_array q) ps) (filter (λ q. takes_array q) ps)))) frame.arrays)
    one true is (Variable a) h = ap (λ c. let f = if c then set_array a (array_of g p.name) frame else frame in
        with_arrays f (put_backs (arrays_given ps es) (left_in g (taken_params ps)) f.arrays)) is
    one true is (Number n) h = absurd (h refl)
    one true is (Element a e) h = absurd (h refl)
    one true is (Length a) h = absurd (h refl)
    one true is (Negative e) h = absurd (h refl)
    one true is (Not e) h = absurd (h refl)
    one true is (Binary o d e) h = absurd (h refl)
    one false is (Variable a) h = ap (λ c. let f = if c then set_array a (array_of g p.name) frame else frame in
        with_arrays f (put_backs (arrays_given ps es) (left_in g (taken_params ps)) f.arrays)) is
    one false is _ h = refl

-- the arrays that a call returns are the arrays of its frame, by the names of its parameters
pub firsts : (names : List Name) (given qs more : List Name) (g : Frame) (entries : Entries (List ℤ)) (rest : List (List ℤ))
    → length given ≡ length qs → holding.names_in entries ≡ qs ++ more → differ qs ≡ true → ((q : Name) → is_among q qs ≡ true → array_of g q ≡ find [] q entries) →
    given_back (map (λ a. Whole a) (slots_for names given)) (full (values_in entries ++ rest)) ≡ Some (backs names given (left_in g qs))
firsts names [] qs more g entries rest n named apart same = refl
firsts names (a ∷ given) [] more g entries rest n named apart same = absurd (omega (arith, n))
firsts names (a ∷ given) (q ∷ qs) more g [] rest n named apart same = cc
firsts names (a ∷ given) (q ∷ qs) more g (e ∷ entries) rest n named apart same =
    let other = not_true (is_among q qs) (first_true (not (is_among q qs)) (differ qs) apart) in
    let head : e.0 ≡ q = cc named in
    let tail : holding.names_in entries ≡ qs ++ more = cc named in
    let here : array_of g q ≡ e.1 = same q (ap (λ b. if b then true else is_among q qs) ((bytes_eq-Decides q q).1 refl))
    ∙ ap (λ b. if b then e.1 else find [] q entries) ((bytes_eq-Decides q e.0).1 (sym head)) in
    ap (λ o. and_result (Whole (slot_of a names)) (Some e.1) o)
    (firsts names given qs more g entries rest (omega (arith, n)) tail (second_true (not (is_among q qs)) (differ qs) apart)
    (λ z h. same z (later_among z q qs h) ∙ ap (λ b. if b then e.1 else find [] z entries) (ap (same_name z) head ∙ other_than z q qs other h)))
    ∙ ap (λ v. Some ((slot_of a names, v) ∷ backs names given (left_in g qs))) (sym here)

-- the returned arrays fill the slots that were moved out
pub settled_moved : (names : List Name) (taken : Taken) (given : List Name) (vs : List (List ℤ)) (slots : Slots (List ℤ))
    → AllUsable names taken given → differ given ≡ true → length given ≡ length vs
    → settled (backs names given vs) (moved_out (slots_for names given) slots) ≡ settled (backs names given vs) slots
settled_moved names taken [] vs slots us apart n = refl
settled_moved names taken (a ∷ given) [] slots us apart n = absurd (omega (arith, n))
settled_moved names taken (a ∷ given) (v ∷ vs) slots us apart n =
    let i = slot_of a names in
    let other = not_true (is_among a given) (first_true (not (is_among a given)) (differ given) apart) in
    ap (settled (backs names given vs)) (set-set (moved_out (slots_for names given) slots) i None (Some v) ∙ set-moved names taken a given (Some v) slots us.0 us.1 other)
    ∙ settled_moved names taken given vs (slice_set slots i (Some v)) us.1 (second_true (not (is_among a given)) (differ given) apart) (omega (arith, n))

-- the arrays of a plain call are in their slots again
pub agree_back : (names : List Name) (taken : Taken) (given : List Name) (vs : List (List ℤ)) (entries : Entries (List ℤ)) (slots : Slots (List ℤ))
    (waits : List (Results (List ℤ))) → AllUsable names taken given → AgreesOf true names taken entries slots waits →
    AgreesOf true names taken (put_backs given vs entries) (settled (backs names given vs) slots) waits
agree_back names taken [] vs entries slots waits us a = a
agree_back names taken (x ∷ given) [] entries slots waits us a = a
agree_back names taken (x ∷ given) (v ∷ vs) entries slots waits us a =
    agree_back names taken given vs (put x v entries) (slice_set slots (slot_of x names) (Some v)) waits us.1
    (holding.assigns true names taken x v entries slots waits us.0 a)

-- the arrays of a spawned call wait
pub agree_await : (names : List Name) (taken taken' : Taken) (given : List Name) (vs : List (List ℤ)) (entries : Entries (List ℤ))
    (slots : Slots (List ℤ)) (arrived : Results (List ℤ)) (outer : List (Results (List ℤ))) → AllUsable names taken given → differ given ≡ true
    → length given ≡ length vs →
    ((d : ℕ) (y : Name) → holds true d y taken ≡ true → holds true d y taken' ≡ true)
    → ((y : Name) → is_among y given ≡ true → holds true (suc (length outer)) y taken' ≡ true) → AgreesOf true names taken entries slots (arrived ∷ outer) →
    AgreesOf true names taken' (put_backs given vs entries) (moved_out (slots_for names given) slots) ((backs names given vs ++ arrived) ∷ outer)
agree_await names taken taken' given vs entries slots arrived outer us apart n more is a =
    let b = agree_back names taken given vs entries slots (arrived ∷ outer) us a in
    let kept = holding.levels_kept true names names taken taken' (arrived ∷ outer) (λ d le. holding.more_taken true names taken taken' more d) a.levels in
    record {
      named = b.named;
      rest = b.rest;
      held =
          ap (λ l. settled l (moved_out (slots_for names given) slots)) (append_assoc (backs names given vs) arrived (all_of outer))
          ∙ settled_append (backs names given vs) (arrived ++ all_of outer) (moved_out (slots_for names given) slots)
          ∙ ap (settled (arrived ++ all_of outer)) (settled_moved names taken given vs slots us apart n)
          ∙ b.held;
      levels = (each given vs us is kept.0, kept.1);
    }
  where
    each : (given : List Name) (vs : List (List ℤ)) → AllUsable names taken given
        → ((y : Name) → is_among y given ≡ true → holds true (suc (length outer)) y taken' ≡ true)
        → AllHeld true names taken' (suc (length outer)) arrived → AllHeld true names taken' (suc (length outer)) (backs names given vs ++ arrived)
    each [] vs us is h = h
    each (x ∷ given) [] us is h = h
    each (x ∷ given) (v ∷ vs) us is h = (record { name = x; declared = us.0.declared; slot = refl; held = is x (front_among x given) }, each given vs us.1 (λ y k. is y (later_among y x given k)) h)

pub none_of_some : (p : Param → Bool) (x : Name) (ps : List Param) → is_among x (map (λ (z : Param). z.name) ps) ≡ false → is_among x (map (λ (z : Param). z.name) (filter p ps)) ≡ false
none_of_some p x [] h = refl
none_of_some p x (z ∷ ps) h = cases (none_of_some p x ps) (same_name x z.name) (p z) refl h
  where
    cases : (is_among x (map (λ (y : Param). y.name) ps) ≡ false → is_among x (map (λ (y : Param). y.name) (filter p ps)) ≡ false) → (b c : Bool)
        → same_name x z.name ≡ b → (if b then true else is_among x (map (λ (y : Param). y.name) ps)) ≡ false
        → is_among x (map (λ (y : Param). y.name) (cond c (z ∷ filter p ps) (filter p ps))) ≡ false
    cases more true c e h' = cc
    cases more false true e h' = ap (λ b. if b then true else is_among x (map (λ (y : Param). y.name) (filter p ps))) e ∙ more h'
    cases more false false e h' = more h'

-- some of a list of distinct names are distinct
pub differ_some : (p : Param → Bool) (ps : List Param) → differ (map (λ (q : Param). q.name) ps) ≡ true → differ (map (λ (q : Param). q.name) (filter p ps)) ≡ true
differ_some p [] h = refl
differ_some p (q ∷ ps) h = test (differ_some p ps (second_true (not (is_among q.name (map (λ (z : Param). z.name) ps))) (differ (map (λ (z : Param). z.name) ps)) h)) (p q)
  where
    test : differ (map (λ (z : Param). z.name) (filter p ps)) ≡ true → (c : Bool) → differ (map (λ (z : Param). z.name) (cond c (q ∷ filter p ps) (filter p ps))) ≡ true
    test rest true =
        ap (λ b. not b && differ (map (λ (z : Param). z.name) (filter p ps)))
        (none_of_some p q.name ps (not_true (is_among q.name (map (λ (z : Param). z.name) ps))
        (first_true (not (is_among q.name (map (λ (z : Param). z.name) ps))) (differ (map (λ (z : Param). z.name) ps)) h)))
        ∙ rest
    test rest false = rest

-- the array slots of a caller, and the waiting arrays, after a call returns arrays
abbrev pub arrays_after : CallKind → Results (List ℤ) → Slots (List ℤ) → Slots (List ℤ)
arrays_after Plain back arrays = settled back arrays
arrays_after Spawned back arrays = arrays

abbrev pub arrived_after : CallKind → Results (List ℤ) → Results (List ℤ) → Results (List ℤ)
arrived_after Plain back arrived = arrived
arrived_after Spawned back arrived = back ++ arrived

-- the number of slots does not change
pub arrays_count : (kind : CallKind) (back : Results (List ℤ)) (passed : List ℕ) (arrays : Slots (List ℤ)) → length (arrays_after kind back (moved_out passed arrays)) ≡ length arrays
arrays_count Plain back passed arrays = settled_count back (moved_out passed arrays) ∙ length-moved passed arrays
arrays_count Spawned back passed arrays = length-moved passed arrays

-- the frame of the caller after a call
pub frame_came : (target : Option Name) (v : Option ℤ) (frame : Frame) (entries : Entries (List ℤ)) (after_it : Taken) (locals : Locals)
    (store : Store) (outer : Outside) → AgreesOf false locals.ints after_it (set_result target v frame).ints store.slots (store.results ∷ int_waits outer) →
    AgreesOf true locals.arrays after_it entries store.arrays (store.arrived ∷ array_waits outer) → frame.sliced ≡ []
    → Agrees locals after_it (set_result target v (with_arrays frame entries)) store outer
frame_came None v frame entries after_it locals store outer ints arrays whole = record { ints = ints; arrays = arrays; whole = whole }
frame_came (Some x) None frame entries after_it locals store outer ints arrays whole = record { ints = ints; arrays = arrays; whole = whole }
frame_came (Some x) (Some v) frame entries after_it locals store outer ints arrays whole = record { ints = ints; arrays = arrays; whole = whole }
