-- The effect of a cut, and of its end, on the slots of a call.
use Rattle.std.proofs.Common.{◌≡◌, ℕ, suc, ◌+◌, ◌≤◌, List, [], ◌∷◌, ◌++◌, length, Bool, true, false, not, ◌&&◌, if◌then◌else◌}
use Rattle.std.proofs.Common.{cond, Some, None, refl, sym, ap, ◌∙◌, subst, arith, append_assoc, length-append, ℤ}
use Rattle.std.specs.Prelude.{slice_get, slice_set, take, drop}
use Rattle.std.proofs.lemmas.List.{append-nil, length-set}
use Rattle.std.proofs.lemmas.Slice.Eq.{bytes_eq-Decides}
use Rattle.cw_facts.specs.Tests.{both_true}
use Rattle.cw_model.specs.Syntax.{Name}
use Rattle.cw_model.specs.Names.{same_name, is_among, find, put}
use Rattle.cw_model.specs.Frames.{Frame, array_of, new_array, leave}
use Rattle.cw_model.specs.Meaning.{uncut}
use Rattle.cw_model.specs.Ownership.{SpawnIn, ReaderIn, CutOf, Taken, is_taken, cut_ended, freed, without}
use Rattle.cw_code.specs.declared.code.Halves.{Halves}
use Rattle.cw_code.specs.Run.{is_full, settled, cut_arrays, may_cut, uncut_arrays}
use Rattle.cw_code.specs.lemmas.Slots.{settled_count}
use Rattle.cw_tree.specs.Resolved.{Locals, slot_of, with_array}
use Rattle.cw_tree.specs.lemmas.NamedSlots.{slot_stays, slot_in}
use Rattle.cw_tree.specs.lemmas.Names.{front_among, later_among}
use Rattle.cw_loops.specs.lemmas.Naming.{among_left}
use Rattle.cw_gen.specs.Marks.{Marks}
use Rattle.cw_gen.proofs.Marked.{AllOwn}
use Rattle.cw_gen.proofs.Fine.{IsUsable, Room}
use Rattle.cw_gen.proofs.Takens.{holds, holds_behind, freed_without, spawn_past_cut}
use Rattle.cw_gen.proofs.Names.{Entries, names_in, names_more, get-other, AgreesOf, is_free, slot_new}
use Rattle.cw_gen.proofs.Names as names
use Rattle.cw_gen.proofs.Scopes.{extended, same_locals}
use Rattle.cw_gen.proofs.Stores.{Store, Waits, Outside, int_waits, array_waits, joined_with, Agrees, Fills, finds, new_array_is_there, exits, leaves_block}

-- the slots of a cut
abbrev pub cut_halves : Locals → (x y : Name) → Halves
cut_halves locals x y = record { array = slot_of x locals.arrays; left = length locals.arrays; right = length (locals.arrays ++ y ∷ []) }

-- the results that wait outside of a cut, including its array
abbrev pub cut_waits : Locals → (x : Name) → List ℤ → Store → Waits
cut_waits locals x xs store = record { ints = store.results; arrays = (slot_of x locals.arrays, xs) ∷ store.arrived }

-- the slots inside a cut
abbrev pub cut_store : Locals → (x y : Name) → List ℤ → ℕ → Store → Store
cut_store locals x y xs n store = record { slots = store.slots; arrays = cut_arrays (cut_halves locals x y) xs n store.arrays; results = []; arrived = [] }

-- the slots after a cut
abbrev pub uncut_store : Locals → (x y : Name) → (left right : List ℤ) → (inner store : Store) → Store
uncut_store locals x y left right inner store =
    record {
      slots = settled inner.results inner.slots;
      arrays = uncut_arrays (cut_halves locals x y) left right
          (settled inner.arrived inner.arrays);
      results = store.results;
      arrived = store.arrived;
    }

abbrev pub parted : (y z : Name) → List ℤ → ℕ → Frame → Frame
parted y z xs n frame = new_array z (drop n xs) (new_array y (take n xs) frame)

pub cut_fills : (marks : Marks) (locals : Locals) (x y : Name) (xs : List ℤ) (n : ℕ) (store : Store) (room : Room) → Fills marks store room → Fills marks (cut_store locals x y xs n store) room
cut_fills marks locals x y xs n store room m =
    let h = cut_halves locals x y in
    let a = slice_set store.arrays h.array None in
    let b = slice_set a h.left (Some (take n xs)) in
    record { ints = m.ints; arrays = length-set b h.right (Some (drop n xs)) ∙ length-set a h.left (Some (take n xs)) ∙ length-set store.arrays h.array None ∙ m.arrays; own = tt }

pub uncut_fills : (marks : Marks) (locals : Locals) (x y : Name) (left right : List ℤ) (inner store : Store) (room : Room)
    → AllOwn marks store.arrived → Fills marks inner room → Fills marks (uncut_store locals x y left right inner store) room
uncut_fills marks locals x y left right inner store room own m =
    let h = cut_halves locals x y in
    let none : List ℤ = [] in
    let s = settled inner.arrived inner.arrays in
    let a = slice_set s h.left (Some none) in
    let b = slice_set a h.right (Some none) in
    record {
      ints = settled_count inner.results inner.slots ∙ m.ints;
      arrays = length-set b h.array (Some (left ++ right)) ∙ length-set a h.right (Some none) ∙ length-set s h.left (Some none) ∙ settled_count inner.arrived inner.arrays ∙ m.arrays;
      own = own;
    }

-- the slots of a cut are available
pub can_cut : (locals : Locals) (taken : Taken) (x y : Name) (frame : Frame) (store : Store) (outer : Outside) → IsUsable locals.arrays taken x
    → suc (suc (length locals.arrays)) ≤ length store.arrays → Agrees locals taken frame store outer → may_cut (cut_halves locals x y) store.arrays ≡ true
can_cut locals taken x y frame store outer u room a =
    let h = cut_halves locals x y in
    let s = store.arrays in
    let s1 = slice_set s h.array None in
    let s2 = slice_set s1 h.left None in
    let next : length (locals.arrays ++ y ∷ []) ≡ length locals.arrays + 1 = length-append locals.arrays (y ∷ []) in
    let within = slot_in x locals.arrays u.declared in
    let one : is_full (slice_get s h.array) ≡ true = ap is_full (finds locals taken x frame store outer u a) in
    let two : is_full (slice_get s1 h.left) ≡ true = ap is_full (get-other s h.left h.array None (λ e. omega (arith, within, e)))
    ∙ new_array_is_there locals taken frame store outer h.left (omega arith) (omega (arith, room)) a in
    let three : is_full (slice_get s2 h.right) ≡ true =
    ap is_full (get-other s1 h.right h.left None (λ e. omega (arith, next, e)) ∙ get-other s h.right h.array None (λ e. omega (arith, next, within, e)))
    ∙ new_array_is_there locals taken frame store outer h.right (omega (arith, next)) (omega (arith, room, next)) a in
    both_true (is_full (slice_get s h.array)) (is_full (slice_get s1 h.left) && is_full (slice_get s2 h.right)) one
    (both_true (is_full (slice_get s1 h.left)) (is_full (slice_get s2 h.right)) two three)

-- storing the value of a name again changes nothing
put_same : {A : Type 0} (none : A) (x : Name) (es : Entries A) → put x (find none x es) es ≡ es
put_same none x [] = refl
put_same none x (e ∷ es) = test (put_same none x es) (same_name x e.0)
  where
    test : put x (find none x es) es ≡ es → (b : Bool) → (if b then (e.0, (if b then e.1 else find none x es)) ∷ es else e ∷ put x (if b then e.1 else find none x es) es) ≡ e ∷ es
    test more true = refl
    test more false = ap (λ l. e ∷ l) more

pub cut_enters : (locals : Locals) (taken : Taken) (x y z : Name) (n : ℕ) (frame : Frame) (store : Store) (outer : Outside)
    → IsUsable locals.arrays taken x → suc (suc (length locals.arrays)) ≤ length store.arrays → Agrees locals taken frame store outer →
    Agrees (with_array z (with_array y locals)) ((x, CutOf) ∷ taken) (parted y z (array_of frame x) n frame)
    (cut_store locals x y (array_of frame x) n store) (cut_waits locals x (array_of frame x) store ∷ outer)
cut_enters locals taken x y z n frame store outer u room a =
    let xs = array_of frame x in
    let taken' = (x, CutOf) ∷ taken in
    let i = slot_of x locals.arrays in
    let s1 = slice_set store.arrays i None in
    let ws = ((i, xs) ∷ store.arrived) ∷ array_waits outer in
    let more : (cuts : Bool) (d : ℕ) (q : Name) → holds cuts d q taken ≡ true → holds cuts d q taken' ≡ true = λ cuts d q h. holds_behind cuts d q ((x, CutOf) ∷ []) taken h in
    let here : holds true (suc (length (array_waits outer))) x taken' ≡ true =
    ap (λ b. if b && true then true else holds true (suc (length (array_waits outer))) x taken) ((bytes_eq-Decides x x).1 refl) in
    let w : AgreesOf true locals.arrays taken' frame.arrays s1 ws =
    subst (λ es. AgreesOf true locals.arrays taken' es s1 ws) (put_same [] x frame.arrays)
    (names.awaits true locals.arrays taken taken' x xs frame.arrays store.arrays store.arrived (array_waits outer) u (more true) here a.arrays) in
    let len1 : length s1 ≡ length store.arrays = length-set store.arrays i None in
    let left = names.declares true locals.arrays taken' y (take n xs) frame.arrays s1 ([] ∷ ws) (omega (arith, room, len1)) (names.enters true locals.arrays taken' frame.arrays s1 ws w) in
    let s2 = slice_set s1 (length locals.arrays) (Some (take n xs)) in
    let len2 : length s2 ≡ length s1 = length-set s1 (length locals.arrays) (Some (take n xs)) in
    let next : length (locals.arrays ++ y ∷ []) ≡ length locals.arrays + 1 = length-append locals.arrays (y ∷ []) in
    record {
      ints = names.enters false locals.ints taken' frame.ints store.slots (store.results ∷ int_waits outer)
          (names.takes false locals.ints taken taken' frame.ints store.slots (store.results ∷ int_waits outer) (more false) a.ints);
      arrays = names.declares true (locals.arrays ++ y ∷ []) taken' z (drop n xs) (frame.arrays ++ (y, take n xs) ∷ []) s2 ([] ∷ ws) (omega (arith, room, len1, len2, next)) left;
      whole = a.whole;
    }

among_end : (x : Name) (ns : List Name) → is_among x (ns ++ x ∷ []) ≡ true
among_end x [] = ap (λ b. if b then true else false) ((bytes_eq-Decides x x).1 refl)
among_end x (y ∷ ns) = test (among_end x ns) (same_name x y)
  where
    test : is_among x (ns ++ x ∷ []) ≡ true → (b : Bool) → (if b then true else is_among x (ns ++ x ∷ [])) ≡ true
    test more true = refl
    test more false = more

-- the slot of a new name with other names after it
pub slot_first : (x : Name) (ns more : List Name) → is_among x ns ≡ false → slot_of x (ns ++ x ∷ more) ≡ length ns
slot_first x ns more h = ap (slot_of x) (sym (append_assoc ns (x ∷ []) more)) ∙ slot_stays x (ns ++ x ∷ []) more (among_end x ns) ∙ slot_new x ns h

pub among_first : (x : Name) (ns more : List Name) → is_among x (ns ++ x ∷ more) ≡ true
among_first x ns more = ap (is_among x) (sym (append_assoc ns (x ∷ []) more)) ∙ among_left x (ns ++ x ∷ []) more (among_end x ns)

-- a name that is not taken is not taken if fewer names are held
free_without : (own : List Name) (taken : Taken) (x : Name) → is_taken taken x ≡ false → is_taken (without own taken) x ≡ false
free_without own [] x h = refl
free_without own ((y, SpawnIn d) ∷ taken) x h = test (free_without own taken x) (is_among y own) (same_name x y) refl h
  where
    test : (is_taken taken x ≡ false → is_taken (without own taken) x ≡ false) → (b c : Bool) → same_name x y ≡ c
        → (if c then true else is_taken taken x) ≡ false → is_taken (cond (not b) ((y, SpawnIn d) ∷ without own taken) (without own taken)) x ≡ false
    test more b true e h' = cc
    test more true false e h' = more h'
    test more false false e h' = ap (λ c. if c then true else is_taken (without own taken) x) e ∙ more h'
free_without own ((y, CutOf) ∷ taken) x h = test (free_without own taken x) (is_among y own) (same_name x y) refl h
  where
    test : (is_taken taken x ≡ false → is_taken (without own taken) x ≡ false) → (b c : Bool) → same_name x y ≡ c
        → (if c then true else is_taken taken x) ≡ false → is_taken (cond (not b) ((y, CutOf) ∷ without own taken) (without own taken)) x ≡ false
    test more b true e h' = cc
    test more true false e h' = more h'
    test more false false e h' = ap (λ c. if c then true else is_taken (without own taken) x) e ∙ more h'
free_without own ((y, ReaderIn d) ∷ taken) x h = test (free_without own taken x h) (is_among y own)
  where
    test : is_taken (without own taken) x ≡ false → (b : Bool) → is_taken (cond (not b) ((y, ReaderIn d) ∷ without own taken) (without own taken)) x ≡ false
    test more true = more
    test more false = more

-- removing names in two steps
without_both : (y z : Name) (own : List Name) (taken : Taken) → without (y ∷ z ∷ []) (without own taken) ≡ without (y ∷ z ∷ own) taken
without_both y z own [] = refl
without_both y z own (t ∷ taken) = test (without_both y z own taken) (is_among t.0 own) (same_name t.0 y) (same_name t.0 z) refl refl
  where
    left_out : (c d : Bool) → same_name t.0 y ≡ c → same_name t.0 z ≡ d → is_among t.0 (y ∷ z ∷ []) ≡ (if c then true else if d then true else false)
    left_out c d e e' = ap (λ q. if q then true else is_among t.0 (z ∷ [])) e ∙ ap (λ q. if c then true else if q then true else false) e'

    test : without (y ∷ z ∷ []) (without own taken) ≡ without (y ∷ z ∷ own) taken → (b c d : Bool) → same_name t.0 y ≡ c → same_name t.0 z ≡ d →
        without (y ∷ z ∷ []) (cond (not b) (t ∷ without own taken) (without own taken))
        ≡ cond (not (if c then true else if d then true else b)) (t ∷ without (y ∷ z ∷ own) taken) (without (y ∷ z ∷ own) taken)
    test more true true d e e' = more
    test more true false true e e' = more
    test more true false false e e' = more
    test more false true d e e' = ap (λ q. cond (not q) (t ∷ without (y ∷ z ∷ []) (without own taken)) (without (y ∷ z ∷ []) (without own taken))) (left_out true d e e') ∙ more
    test more false false true e e' = ap (λ q. cond (not q) (t ∷ without (y ∷ z ∷ []) (without own taken)) (without (y ∷ z ∷ []) (without own taken))) (left_out false true e e') ∙ more
    test more false false false e e' = ap (λ q. cond (not q) (t ∷ without (y ∷ z ∷ []) (without own taken))
        (without (y ∷ z ∷ []) (without own taken))) (left_out false false e e') ∙ ap (λ l. t ∷ l) more

-- the state at the end of a cut, and after it
pub record CutEnds (locals : Locals) (x y z : Name) (own : List Name) (all : Taken) (frame left_inner : Frame) (st store : Store) (outer : Outside) : Type 0 where
  pub left : slice_get (settled st.arrived st.arrays) (length locals.arrays) ≡ Some (Some (array_of left_inner y))
  pub right : slice_get (settled st.arrived st.arrays) (length (locals.arrays ++ y ∷ [])) ≡ Some (Some (array_of left_inner z))
  pub agrees : Agrees locals (cut_ended x (freed (suc (suc (length outer))) (without (y ∷ z ∷ own) all))) (uncut x y z frame left_inner)
      (uncut_store locals x y (array_of left_inner y) (array_of left_inner z) st store) outer

pub cut_exits : (locals : Locals) (taken : Taken) (x y z : Name) (xs : List ℤ) (n : ℕ) (own more more_arrays : List Name) (all : Taken) (frame g : Frame) (st store : Store) (outer : Outside) →
    IsUsable locals.arrays taken x → is_among y locals.arrays ≡ false → is_among z (locals.arrays ++ y ∷ []) ≡ false → Agrees locals taken frame store outer →
    Agrees (extended (with_array z (with_array y locals)) more more_arrays) all g st (cut_waits locals x xs store ∷ outer) →
    ((q : Name) → is_among q more ≡ true → is_among q own ≡ true) → ((q : Name) → is_among q more_arrays ≡ true → is_among q own ≡ true) →
    ((q : Name) → is_among q (y ∷ z ∷ own) ≡ true → is_taken (freed (suc (suc (length outer))) all) q ≡ false) →
    CutEnds locals x y z own all frame (leave (parted y z xs n frame) g) st store outer
cut_exits locals taken x y z xs n own more more_arrays all frame g st store outer u new_y new_z a ag own_ok own_arrays_ok free =
    let depth = suc (suc (length outer)) in
    let w = cut_waits locals x xs store in
    let inner = with_array z (with_array y locals) in
    let start = parted y z xs n frame in
    let left_inner = leave start g in
    let j = joined_with st w in
    let t1 = without own (freed depth all) in
    let t2 = without (y ∷ z ∷ []) t1 in
    let i = slot_of x locals.arrays in
    let named : names_in start.arrays ≡ inner.arrays = names_more (frame.arrays ++ (y, take n xs) ∷ []) z (drop n xs)
    ∙ ap (λ l. l ++ z ∷ []) (names_more frame.arrays y (take n xs) ∙ ap (λ l. l ++ y ∷ []) a.arrays.named) in
    let b1 = exits (extended inner more more_arrays) all g st w outer ag in
    let b2 = leaves_block inner more more_arrays own (freed depth all) start g j outer a.ints.named named a.whole own_ok own_arrays_ok
    (λ q h. free q (later_among q y (z ∷ own) (later_among q z own h))) b1 in
    let same : inner ≡ extended locals [] (y ∷ z ∷ []) = same_locals locals.ints (locals.ints ++ []) inner.arrays (locals.arrays ++ y ∷ z ∷ [])
    (sym (append-nil locals.ints)) (append_assoc locals.arrays (y ∷ []) (z ∷ [])) in
    let b3 = leaves_block locals [] (y ∷ z ∷ []) (y ∷ z ∷ []) t1 frame left_inner j outer a.ints.named a.arrays.named a.whole (λ q h. cc) (λ q h. h)
    (λ q h. free_without own (freed depth all) q (free q (among_left q (y ∷ z ∷ []) own h))) (subst (λ ls. Agrees ls t1 left_inner j outer) same b2) in
    let use_y : IsUsable inner.arrays t1 y = record {
      declared = among_left y (locals.arrays ++ y ∷ []) (z ∷ []) (among_end y locals.arrays);
      free = free_without own (freed depth all) y (free y (front_among y (z ∷ own)));
    } in
    let use_z : IsUsable inner.arrays t1 z = record {
      declared = among_end z (locals.arrays ++ y ∷ []);
      free = free_without own (freed depth all) z (free z (later_among z y (z ∷ own) (front_among z own)));
    } in
    let at_y : slot_of y inner.arrays ≡ length locals.arrays = slot_stays y (locals.arrays ++ y ∷ []) (z ∷ []) (among_end y locals.arrays) ∙ slot_new y locals.arrays new_y in
    let at_z : slot_of z inner.arrays ≡ length (locals.arrays ++ y ∷ []) = slot_new z (locals.arrays ++ y ∷ []) new_z in
    let next : length (locals.arrays ++ y ∷ []) ≡ length locals.arrays + 1 = length-append locals.arrays (y ∷ []) in
    let entries = (leave frame left_inner).arrays in
    let ws = ((i, xs) ∷ store.arrived) ∷ array_waits outer in
    let none : List ℤ = [] in
    let k1 = names.junk true locals.arrays t2 (length locals.arrays) none entries j.arrays ws (omega arith) b3.arrays in
    let k2 = names.junk true locals.arrays t2 (length (locals.arrays ++ y ∷ [])) none entries (slice_set j.arrays (length locals.arrays) (Some none)) ws (omega (arith, next)) k1 in
    let both : t2 ≡ freed depth (without (y ∷ z ∷ own) all) = without_both y z own (freed depth all) ∙ freed_without depth (y ∷ z ∷ own) all in
    let v = array_of left_inner y ++ array_of left_inner z in
    let after_it = uncut_store locals x y (array_of left_inner y) (array_of left_inner z) st store in
    let arrays' : AgreesOf true locals.arrays (cut_ended x t2) (put x v entries) after_it.arrays (store.arrived ∷ array_waits outer) =
    names.put_back true locals.arrays t2 x v xs entries (slice_set (slice_set j.arrays (length locals.arrays) (Some none))
    (length (locals.arrays ++ y ∷ [])) (Some none)) store.arrived (array_waits outer) u.declared
    (is_free true locals.arrays taken x (store.arrived ∷ array_waits outer) u a.arrays.levels) k2 in
    let ints' = names.takes false locals.ints t2 (cut_ended x t2) (leave frame left_inner).ints j.slots (store.results ∷ int_waits outer) (λ d q h. spawn_past_cut d x q t2 h) b3.ints in
    record {
      left = ap (slice_get j.arrays) (sym at_y) ∙ finds inner t1 y left_inner j outer use_y b2;
      right = ap (slice_get j.arrays) (sym at_z) ∙ finds inner t1 z left_inner j outer use_z b2;
      agrees = subst (λ t. Agrees locals (cut_ended x t) (uncut x y z frame left_inner) after_it outer) both (record { ints = ints'; arrays = arrays'; whole = a.whole });
    }
