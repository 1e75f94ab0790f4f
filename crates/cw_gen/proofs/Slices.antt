-- The arguments of a loop's function: the ends of a range with the captured integers, and slices of arrays, which are
-- part of their arrays again after the function has ended.
use Rattle.std.proofs.Common.{◌≡◌, ℕ, suc, List, [], ◌∷◌, ◌++◌, length, Bool, true, false, not, if◌then◌else◌, cond, filter, Some, refl, sym, ap, ◌∙◌, arith, ℤ, ◌+ℤ◌, true≢false}
use Rattle.std.specs.Prelude.{map, take, drop}
use Rattle.std.specs.List.{list_all}
use Rattle.std.proofs.lemmas.List.{length-map}
use Rattle.std.proofs.lemmas.Slice.Eq.{bytes_eq-Decides}
use Rattle.cw_facts.specs.Tests.{first_true, second_true, not_true}
use Rattle.cw_model.specs.Syntax.{Name, Param, Function, is_array_param}
use Rattle.cw_model.specs.Names.{same_name, is_among, differ, find, put}
use Rattle.cw_model.specs.Ints.{natural}
use Rattle.cw_model.specs.Frames.{Frame, no_frame, int_of, array_of, new_int, new_array, set_array}
use Rattle.cw_model.specs.Meaning.{with_slice, loop_frame, slices_back}
use Rattle.cw_model.specs.Ownership.{Taken}
use Rattle.cw_code.specs.declared.code.Func.{Func}
use Rattle.cw_code.specs.Run.{and_result, full, Part, parts_of, slot_taken, given_back}
use Rattle.cw_tree.specs.Resolved.{Lists, Locals, slot_of, locals_of}
use Rattle.cw_tree.specs.lemmas.Names.{later_among}
use Rattle.cw_loops.specs.lemmas.Naming.{other_than}
use Rattle.cw_code.specs.Code.{Code}
use Rattle.cw_gen.specs.Marks.{Marks}
use Rattle.cw_gen.proofs.Marked.{owned}
use Rattle.cw_gen.proofs.Fine.{AllWritable, ints_first, TakesRange}
use Rattle.cw_gen.proofs.Names.{Entries, values_in}
use Rattle.cw_gen.proofs.Names as holding
use Rattle.cw_gen.proofs.Texts.{Compiled}
use Rattle.cw_gen.proofs.Codes.{Bound, bound_none, bound_int, bound_array}
use Rattle.cw_gen.proofs.Passing.{slots_for, not_same, backs, put_backs, with_arrays}
use Rattle.cw_gen.proofs.Calling.{Hands}

-- parameters that are all arrays are in order, and none of them is an integer
arrays_alone : (ps : List Param) → list_all (λ (q : Param). (is_array_param q)) ps ≡ true → (ints_first ps ≡ true) × (length (locals_of ps).ints ≡ 0)
arrays_alone [] h = (refl, refl)
arrays_alone (p ∷ ps) h =
    let rest = second_true (is_array_param p) (list_all (λ (q : Param). (is_array_param q)) ps) h in
    test (is_array_param p) (first_true (is_array_param p) (list_all (λ (q : Param). (is_array_param q)) ps) h) rest (arrays_alone ps rest).1
  where
    test : (b : Bool) → b ≡ true → list_all (λ (q : Param). (is_array_param q)) ps ≡ true → length (locals_of ps).ints ≡ 0 →
        ((if b then list_all (λ (q : Param). (is_array_param q)) ps else ints_first ps) ≡ true)
        × (length (map (λ (q : Param). q.name) (cond (not b) (p ∷ filter (λ q. not (is_array_param q)) ps) (filter (λ q. not (is_array_param q)) ps))) ≡ 0)
    test true e rest none = (rest, none)
    test false e rest none = cc

-- the numbers of integers and of arrays with one more parameter
abbrev more_ints : List Param → Param → Bool → ℕ
more_ints ps p b = length (map (λ (q : Param). q.name) (cond (not b) (p ∷ filter (λ q. not (is_array_param q)) ps) (filter (λ q. not (is_array_param q)) ps)))

abbrev more_arrays : List Param → Param → Bool → ℕ
more_arrays ps p b = length (map (λ (q : Param). q.name) (cond b (p ∷ filter (λ q. (is_array_param q)) ps) (filter (λ q. (is_array_param q)) ps)))

-- a loop's function binds these parameters
abbrev LoopBound : List Param → Type 0
LoopBound ps =
    (vs : List ℤ) (xss : List (List ℤ)) (g : Frame) → ints_first ps ≡ true → length vs ≡ length (locals_of ps).ints
    → length xss ≡ length (locals_of ps).arrays → Bound ps vs xss g (loop_frame ps vs xss g)

-- the frame of a loop's function binds its parameters
pub bound_loop : (ps : List Param) (vs : List ℤ) (xss : List (List ℤ)) (g : Frame) → ints_first ps ≡ true → length vs ≡ length (locals_of ps).ints
    → length xss ≡ length (locals_of ps).arrays → Bound ps vs xss g (loop_frame ps vs xss g)
bound_loop [] [] [] g order n m = bound_none g
bound_loop [] [] (xs ∷ xss) g order n m = absurd (omega (arith, m))
bound_loop [] (v ∷ vs) xss g order n m = absurd (omega (arith, n))
bound_loop (p ∷ ps) vs xss g order n m = test (λ vs' xss' g' order' n' m'. bound_loop ps vs' xss' g' order' n' m') (is_array_param p) refl order n m
  where
    an_array : LoopBound ps → (is_array_param p) ≡ true → (ints_first ps ≡ true) × (length (locals_of ps).ints ≡ 0)
        → (vs : List ℤ) (xss : List (List ℤ)) → length vs ≡ 0 → length xss ≡ suc (length (locals_of ps).arrays)
        → Bound (p ∷ ps) vs xss g (loop_frame (p ∷ ps) vs xss g)
    an_array more is alone (v ∷ vs) xss n m = absurd (omega (arith, n))
    an_array more is alone [] [] n m = absurd (omega (arith, m))
    an_array more is alone [] (xs ∷ xss) n m =
        bound_array p ps xs [] xss g (loop_frame ps [] xss (new_array p.name xs g)) is (more [] xss (new_array p.name xs g) alone.0 (sym alone.1) (omega (arith, m)))

    an_int : LoopBound ps → (is_array_param p) ≡ false → ints_first ps ≡ true → (vs : List ℤ) → length vs ≡ suc (length (locals_of ps).ints)
        → length xss ≡ length (locals_of ps).arrays → Bound (p ∷ ps) vs xss g (loop_frame (p ∷ ps) vs xss g)
    an_int more is rest [] n m = absurd (omega (arith, n))
    an_int more is rest (v ∷ vs) n m = bound_int p ps v vs xss g (loop_frame ps vs xss (new_int p.name v g)) is (more vs xss (new_int p.name v g) rest (omega (arith, n)) m)

    test : LoopBound ps → (b : Bool) → (is_array_param p) ≡ b → (if b then list_all (λ (q : Param). (is_array_param q)) ps else ints_first ps) ≡ true
        → length vs ≡ more_ints ps p b → length xss ≡ more_arrays ps p b → Bound (p ∷ ps) vs xss g (loop_frame (p ∷ ps) vs xss g)
    test more true is rest n m = an_array more is (arrays_alone ps rest) vs xss (n ∙ (arrays_alone ps rest).1) m
    test more false is rest n m = an_int more is rest vs n m

-- the arrays with the slices that a loop's function leaves
abbrev pub sliced_back : Frame → (from : ℕ) → Frame → List Name → List (List ℤ)
sliced_back frame from g over = map (λ a. with_slice (array_of frame a) from (array_of g a)) over

-- the slots of slices are the slots of their arrays
pub part_slots : (from : ℕ) (frame : Frame) (slot : Name → ℕ) (over : List Name) → map slot_taken (parts_of from (map slot over) (map (λ a. array_of frame a) over)) ≡ map slot over
part_slots from frame slot [] = refl
part_slots from frame slot (a ∷ over) = ap (λ l. slot a ∷ l) (part_slots from frame slot over)

-- the slices of arrays
pub slices_are : (from n : ℕ) (frame : Frame) (over : List Name) → map (λ xs. take n (drop from xs)) (map (λ a. array_of frame a) over) ≡ map (λ a. take n (drop from (array_of frame a))) over
slices_are from n frame [] = refl
slices_are from n frame (a ∷ over) = ap (λ l. take n (drop from (array_of frame a)) ∷ l) (slices_are from n frame over)

-- the slices that a loop's function returns are part of their arrays again
pub slices_found : (names over more : List Name) (from : ℕ) (frame g : Frame) (entries : Entries (List ℤ)) (rest : List (List ℤ))
    → holding.names_in entries ≡ over ++ more → differ over ≡ true → ((q : Name) → is_among q over ≡ true → array_of g q ≡ find [] q entries) →
    given_back (parts_of from (slots_for names over) (map (λ a. array_of frame a) over)) (full (values_in entries ++ rest)) ≡ Some (backs names over (sliced_back frame from g over))
slices_found names [] more from frame g entries rest named apart same = refl
slices_found names (q ∷ qs) more from frame g [] rest named apart same = cc
slices_found names (q ∷ qs) more from frame g (e ∷ entries) rest named apart same =
    let other = not_true (is_among q qs) (first_true (not (is_among q qs)) (differ qs) apart) in
    let head : e.0 ≡ q = cc named in
    let tail : holding.names_in entries ≡ qs ++ more = cc named in
    let whole = array_of frame q in
    let here : array_of g q ≡ e.1 = same q (ap (λ b. if b then true else is_among q qs) ((bytes_eq-Decides q q).1 refl))
    ∙ ap (λ b. if b then e.1 else find [] q entries) ((bytes_eq-Decides q e.0).1 (sym head)) in
    ap (λ o. and_result (Part (slot_of q names) from whole) (Some e.1) o)
    (slices_found names qs more from frame g entries rest tail (second_true (not (is_among q qs)) (differ qs) apart)
    (λ z h. same z (later_among z q qs h) ∙ ap (λ b. if b then e.1 else find [] z entries) (ap (same_name z) head ∙ other_than z q qs other h)))
    ∙ ap (λ v. Some ((slot_of q names, with_slice whole from v) ∷ backs names qs (sliced_back frame from g qs))) (sym here)

-- storing a value at another name keeps the value of a name
find_other : {A : Type 0} (none : A) (b a : Name) (v : A) (es : Entries A) → same_name a b ≡ false → find none b (put a v es) ≡ find none b es
find_other none b a v [] apart = refl
find_other none b a v (e ∷ es) apart = test (find_other none b a v es apart) (same_name a e.0) refl (same_name b e.0) refl
  where
    test : find none b (put a v es) ≡ find none b es → (c : Bool) → same_name a e.0 ≡ c → (d : Bool) → same_name b e.0 ≡ d
        → find none b (if c then (e.0, v) ∷ es else e ∷ put a v es) ≡ (if d then e.1 else find none b es)
    test more true at true is = absurd (true≢false (sym ((bytes_eq-Decides a b).1 ((bytes_eq-Decides a e.0).0 at ∙ sym ((bytes_eq-Decides b e.0).0 is))) ∙ apart))
    test more true at false is = ap (λ q. if q then v else find none b es) is
    test more false at true is = ap (λ q. if q then e.1 else find none b (put a v es)) is
    test more false at false is = ap (λ q. if q then e.1 else find none b (put a v es)) is ∙ more

-- changing another array keeps the slices
sliced_other : (frame g : Frame) (from : ℕ) (a : Name) (v : List ℤ) (over : List Name) → is_among a over ≡ false → sliced_back (set_array a v frame) from g over ≡ sliced_back frame from g over
sliced_other frame g from a v [] apart = refl
sliced_other frame g from a v (b ∷ over) apart =
    let other = not_same a over b apart in
    ap (λ xs. with_slice xs from (array_of g b) ∷ sliced_back (set_array a v frame) from g over) (find_other [] b a v frame.arrays other.0)
    ∙ ap (λ l. with_slice (array_of frame b) from (array_of g b) ∷ l) (sliced_other frame g from a v over other.1)

-- slices are written back in sequence
pub slices_put : (over : List Name) (from : ℕ) (g frame : Frame) → differ over ≡ true → slices_back over from g frame ≡ with_arrays frame (put_backs over (sliced_back frame from g over) frame.arrays)
slices_put [] from g frame apart = refl
slices_put (a ∷ over) from g frame apart =
    let v = with_slice (array_of frame a) from (array_of g a) in
    let other = not_true (is_among a over) (first_true (not (is_among a over)) (differ over) apart) in
    slices_put over from g (set_array a v frame) (second_true (not (is_among a over)) (differ over) apart)
    ∙ ap (λ vs. with_arrays frame (put_backs over vs (put a v frame.arrays))) (sliced_other frame g from a v over other)

-- the values that a loop passes to its function: this number of iterations from `low` on
unfoldable pub hands_of_loop : (code : Code) (fs : List Function) (lists : Lists) (marks : Marks) (locals : Locals) (taken' : Taken) (frame : Frame)
    (f : Function) (fn : Func) (captured over : List Name) (low turns : ℤ) →
    Compiled code fs lists f fn → TakesRange f captured over → AllWritable marks locals.arrays taken' over → differ over ≡ true → Hands marks locals taken' frame f fn
hands_of_loop code fs lists marks locals taken' frame f fn captured over low turns compiled takes us apart =
    let from = natural low in
    let ints = low ∷ (low +ℤ turns) ∷ map (int_of frame) captured in
    let slices = map (λ a. take (natural turns) (drop from (array_of frame a))) over in
    let n : length ints ≡ length (locals_of f.params).ints = ap (λ k. suc (suc k)) (length-map captured (int_of frame)) ∙ sym takes.ints in
    let m : length slices ≡ length (locals_of f.params).arrays = length-map over (λ a. take (natural turns) (drop from (array_of frame a))) ∙ ap length (sym takes.arrays) in
    record {
      names = over;
      outs = parts_of from (slots_for locals.arrays over) (map (λ a. array_of frame a) over);
      ints = ints;
      arrays = slices;
      given = loop_frame f.params ints slices no_frame;
      left = λ g. sliced_back frame from g over;
      returned = λ g. slices_back over from g frame;
      as_ints = n ∙ sym compiled.params;
      as_arrays = m ∙ sym compiled.readers;
      bound = bound_loop f.params ints slices no_frame takes.order n m;
      writable = us;
      apart = apart;
      many = λ g. sym (length-map over (λ a. with_slice (array_of frame a) from (array_of g a)));
      moved = part_slots from frame (λ a. slot_of a locals.arrays) over;
      found = λ g slots gives.
          ap (given_back (parts_of from (slots_for locals.arrays over) (map (λ a. array_of frame a) over))) (gives.are ∙ ap (λ ms. owned ms (full (values_in g.arrays ++ gives.rest))) takes.unread)
          ∙ slices_found locals.arrays over gives.more from frame g g.arrays gives.rest (gives.named ∙ ap (λ qs. qs ++ gives.more) takes.arrays) apart (λ q h. refl);
      back = λ g. slices_put over from g frame apart;
    }
