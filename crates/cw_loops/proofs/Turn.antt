-- An iteration of a loop, in the frame of the source and in the frame of the generated function.
use Rattle.std.proofs.Common.{◌≡◌, ℕ, ◌+◌, ◌≤◌, ◌<◌, ◌^◌, Bool, true, false, ℤ, pos, ◌+ℤ◌, ◌-ℤ◌, List, [], ◌∷◌, ◌++◌, length, take, arith, refl, sym, ◌∙◌, ap, append_assoc, append-nil, subst}
use Rattle.std.specs.Prelude.{if◌then◌else◌, slice_get, slice_set}
use Rattle.std.proofs.lemmas.List.{length-set}
use Rattle.std.proofs.lemmas.Int.{ints}
use Rattle.std.proofs.Math.Seq.{take-append_seam}
use Rattle.cw_model.specs.Ints.{natural, fits}
use Rattle.cw_model.specs.Syntax.{Name, Block, Function}
use Rattle.cw_model.specs.Names.{same_name, is_among, find, put}
use Rattle.cw_model.specs.Frames.{Frame, new_int, inside_loop, leave}
use Rattle.cw_model.specs.Outcome.{Done, quiet}
use Rattle.cw_model.specs.Meaning.{Completion, Normal, onward, going, Calls, run_all, call, with_slice}
use Rattle.cw_model.specs.lemmas.Names.{same_itself, same_are, swapped}
use Rattle.cw_tree.specs.lemmas.Names.{front_among, later_among}
use Rattle.cw_loops.specs.Lowered.{is_plain, low, high}
use Rattle.cw_loops.specs.Lowerable.{Surroundings}
use Rattle.cw_loops.specs.lemmas.Apart.{plain_apart}
use Rattle.cw_loops.specs.lemmas.Naming.{among_left, among_split, other_than}
use Rattle.cw_loops.proofs.Alike.{Alike, alike_then, then_gives}
use Rattle.cw_loops.proofs.Numbers.{tested, between}
use Rattle.cw_loops.proofs.Tables.{keys}
use Rattle.cw_loops.proofs.Arguments.{table, keys-append, keys-table, find_at}
use Rattle.cw_loops.proofs.Cuts.{alike_left}
use Rattle.cw_loops.proofs.Leaf.{at_turn, NextIteration, Turns}
use Rattle.cw_loops.proofs.RangeHalvesCall.{Reached, counted, length_of_table}
use Rattle.cw_loops.proofs.Fitting.{Good, AllFit, fine-put, find_fine, fit-append}
use Rattle.cw_loops.proofs.Statements.{Out, goes, returns, OutAll, alike_done, length-keys, fine_set}
use Rattle.cw_loops.proofs.Worlds.{World, Rel, related, source, target, find_in}
use Rattle.cw_loops.proofs.Slices.{mapped, Distinct, keys-mapped, find_mapped, mapped_alike, find_put_other, put_put, put_unmapped}
use Rattle.cw_loops.proofs.Ranges.{Agrees, Put, get_slice, set_slice}

pub among_one : (x y : Name) → is_among x (y ∷ []) ≡ true → x ≡ y
among_one x y h = go (same_name x y) refl h
  where
    go : (b : Bool) → same_name x y ≡ b → (if b then true else false) ≡ true → x ≡ y
    go true e g = same_are x y e
    go false e g = absurd cc

pub table_at : (over : List Name) (s : Name → List ℤ) (a : Name) → is_among a over ≡ true → find [] a (table over s) ≡ s a
table_at [] s a h = absurd cc
table_at (b ∷ over) s a h = go (same_name a b) refl h (table_at over s a)
  where
    go : (x : Bool) → same_name a b ≡ x → (if x then true else is_among a over) ≡ true → (is_among a over ≡ true → find [] a (table over s) ≡ s a) → (if x then s b else find [] a (table over s)) ≡ s a
    go true e g f = ap s (sym (same_are a b e))
    go false e g f = f g

-- changes the value of one array
changed : (Name → List ℤ) → Name → List ℤ → Name → List ℤ
changed s a v b = if same_name a b then v else s b

changed_here : (s : Name → List ℤ) (a : Name) (v : List ℤ) → changed s a v a ≡ v
unfolding changed
changed_here s a v = ap (λ x. if x then v else s a) (same_itself a)

changed_other : (s : Name → List ℤ) (a : Name) (v : List ℤ) (b : Name) → same_name a b ≡ false → changed s a v b ≡ s b
unfolding changed
changed_other s a v b h = ap (λ x. if x then v else s b) h

table_same : (over : List Name) (s s' : Name → List ℤ) → ((b : Name) → is_among b over ≡ true → s b ≡ s' b) → table over s ≡ table over s'
table_same [] s s' h = refl
table_same (a ∷ over) s s' h = rw (h a (front_among a over)) (ap (λ t. (a, s' a) ∷ t) (table_same over s s' (λ b o. h b (later_among b a over o))))

table_put : (over : List Name) (s : Name → List ℤ) (a : Name) (v : List ℤ) → Distinct over → is_among a over ≡ true → put a v (table over s) ≡ table over (changed s a v)
table_put [] s a v d h = absurd cc
table_put (b ∷ over) s a v d h = go (same_name a b) refl h (table_put over s a v d.1)
  where
    go : (x : Bool) → same_name a b ≡ x → (if x then true else is_among a over) ≡ true → (is_among a over ≡ true → put a v (table over s) ≡ table over (changed s a v)) →
        (if x then (b, v) ∷ table over s else (b, s b) ∷ put a v (table over s)) ≡ (b, changed s a v b) ∷ table over (changed s a v)
    go true e g f =
        let ab : a ≡ b = same_are a b e in
        let rest : table over s ≡ table over (changed s a v) = table_same over s (changed s a v)
        (λ c o. sym (changed_other s a v c (ap (λ y. same_name y c) ab ∙ swapped c b (other_than c b over d.0 o)))) in
        let here : changed s a v b ≡ v = ap (changed s a v) (sym ab) ∙ changed_here s a v in
        rw here (ap (λ t. (b, v) ∷ t) rest)
    go false e g f = rw (changed_other s a v b e) (ap (λ t. (b, s b) ∷ t) (f g))

mapped_put : (as' : List Name) (f g : Name → List ℤ → List ℤ) (t : List (Name × List ℤ)) (a : Name) → Distinct as' → is_among a as' ≡ true →
    ((b : Name) → same_name a b ≡ false → (xs : List ℤ) → g b xs ≡ f b xs) → put a (g a (find [] a t)) (mapped as' f t) ≡ mapped as' g t
mapped_put [] f g t a d h k = absurd cc
mapped_put (b ∷ bs) f g t a d h k = go (same_name a b) refl h (λ u. mapped_put bs f g u a d.1)
  where
    go : (x : Bool) → same_name a b ≡ x → (if x then true else is_among a bs) ≡ true →
        ((u : List (Name × List ℤ)) → is_among a bs ≡ true → ((b : Name) → same_name a b ≡ false → (xs : List ℤ) → g b xs ≡ f b xs) → put a (g a (find [] a u)) (mapped bs f u) ≡ mapped bs g u) →
        put a (g a (find [] a t)) (mapped bs f (put b (f b (find [] b t)) t)) ≡ mapped bs g (put b (g b (find [] b t)) t)
    go true e o ih =
        let ba : b ≡ a = sym (same_are a b e) in
        let new : is_among a bs ≡ false = ap (λ y. is_among y bs) (sym ba) ∙ d.0 in
        ap (λ y. put a (g a (find [] a t)) (mapped bs f (put y (f y (find [] y t)) t))) ba
        ∙ put_unmapped bs f (put a (f a (find [] a t)) t) a (g a (find [] a t)) new
        ∙ ap (λ u. mapped bs f u) (put_put a (g a (find [] a t)) (f a (find [] a t)) t)
        ∙ mapped_alike bs f g (put a (g a (find [] a t)) t) d.1 (λ c oc. sym (k c (swapped c a (other_than c a bs new oc)) (find [] c (put a (g a (find [] a t)) t))))
        ∙ ap (λ y. mapped bs g (put y (g y (find [] y t)) t)) (sym ba)
    go false e o ih =
        ap (λ v. put a (g a v) (mapped bs f (put b (f b (find [] b t)) t))) (sym (find_put_other a b (f b (find [] b t)) t e))
        ∙ ih (put b (f b (find [] b t)) t) o k
        ∙ ap (λ v. mapped bs g (put b v t)) (sym (k b e (find [] b t)))

-- the context of an iteration
abbrev pub turn_scope : List Function → (outer arrays sliced : List Name) → (x : Name) → (taken over : List Name) → Surroundings
turn_scope functions outer arrays sliced x taken over = record {
  outer = outer ++ x ∷ [];
  given = (low ∷ high ∷ taken) ++ x ∷ [];
  shared = taken ++ x ∷ [];
  arrays = arrays;
  over = over;
  sliced = over ++ sliced;
  variable = x;
  returns = false;
  functions = functions;
}

-- the arrays of the source, and the slices of the function
pub record Slots (over : List Name) (i0 : List (Name × ℤ)) (sliced0 : List Name) (lo : ℤ) (n : ℕ) (frame : Frame) (fa ga : List (Name × List ℤ)) : Type 0 where
  pub slices : Name → List ℤ
  pub is : ga ≡ table over slices
  pub put' : Put over lo n frame (record { ints = i0; arrays = fa; sliced = sliced0 }) slices

-- the body of an iteration behaves in the same way from all related frames
abbrev pub BodyAlike : Surroundings → (b b' : Block) → (fs fs' : List Function) → Calls → (depth limit : ℕ) → Type 1
BodyAlike scope b b' fs fs' calls depth limit = (fo go : List (Name × ℤ)) (Slot : (fa ga : List (Name × List ℤ)) → Type 0) → World scope fo go Slot → (f g : Frame) → Rel scope fo go Slot [] [] f g →
    (left bound : ℕ) → left ≤ limit → left < bound → Alike (OutAll scope fo go Slot [] [] f) left (run_all b fs calls f left) (run_all b' fs' (call bound depth fs') g left)

module _ (functions0 : List Function) (i0 : List (Name × ℤ)) (outer0 arrays0 sliced0 : List Name) (outer_is : keys i0 ≡ outer0) (x : Name) (over : List Name) (cs : List (Name × ℤ))
    (plain : is_plain x ≡ true) (x_new : is_among x outer0 ≡ false) (away : is_among x (keys cs) ≡ false)
    (taken_same : (v : Name) → is_among v (keys cs) ≡ true → (is_plain v ≡ true) × (is_among v outer0 ≡ true) × (find (pos 0) v cs ≡ find (pos 0) v i0))
    (distinct : Distinct over) (known : (a : Name) → is_among a over ≡ true → is_among a arrays0 ≡ true) where
  abbrev scope : Surroundings
  scope = turn_scope functions0 outer0 arrays0 sliced0 x (keys cs) over

  module _ (lo : ℤ) (n : ℕ) (small : n < 2 ^ 63) (frame : Frame) (s0 : Name → List ℤ) (agrees : Agrees over i0 arrays0 sliced0 lo n frame s0) (j : ℕ) (below : j < n) where
    abbrev i : ℤ
    i = lo +ℤ pos j

    abbrev fo' : List (Name × ℤ)
    fo' = i0 ++ (x, i) ∷ []

    abbrev go' : List (Name × ℤ)
    go' = ((low, lo) ∷ (high, lo +ℤ pos n) ∷ cs) ++ (x, i) ∷ []

    abbrev Slot' : (fa ga : List (Name × List ℤ)) → Type 0
    Slot' = Slots over i0 sliced0 lo n frame

    x_outer : (l : List (Name × ℤ)) → find (pos 0) x (fo' ++ l) ≡ i
    x_outer l = ap (λ t. find (pos 0) x t) (append_assoc i0 ((x, i) ∷ []) l) ∙ find_at (pos 0) x i i0 l (ap (λ ks. is_among x ks) outer_is ∙ x_new)

    variable_away : is_among x (keys ((low, lo) ∷ (high, lo +ℤ pos n) ∷ cs)) ≡ false
    variable_away = rw (plain_apart x (108 ∷ []) plain, plain_apart x (104 ∷ []) plain) away

    x_given : (l : List (Name × ℤ)) → find (pos 0) x (go' ++ l) ≡ i
    x_given l = ap (λ t. find (pos 0) x t) (append_assoc ((low, lo) ∷ (high, lo +ℤ pos n) ∷ cs) ((x, i) ∷ []) l) ∙ find_at (pos 0) x i ((low, lo) ∷ (high, lo +ℤ pos n) ∷ cs) l variable_away

    shared : (v : Name) → is_among v (keys cs ++ x ∷ []) ≡ true → (l : List (Name × ℤ)) → find (pos 0) v (fo' ++ l) ≡ find (pos 0) v (go' ++ l)
    shared v h l = go (is_among v (keys cs)) refl
      where
        go : (b : Bool) → is_among v (keys cs) ≡ b → find (pos 0) v (fo' ++ l) ≡ find (pos 0) v (go' ++ l)
        go true e =
            let t = taken_same v e in
            let head : (u : List (Name × ℤ)) → find (pos 0) v ((low, lo) ∷ (high, lo +ℤ pos n) ∷ u) ≡ find (pos 0) v u = λ u. rw (plain_apart v (108 ∷ []) t.0, plain_apart v (104 ∷ []) t.0) refl in
            ap (λ t. find (pos 0) v t) (append_assoc i0 ((x, i) ∷ []) l) ∙ find_in (pos 0) v i0 ((x, i) ∷ l) (ap (λ ks. is_among v ks) outer_is ∙ t.1)
            ∙ sym t.2 ∙ sym (find_in (pos 0) v cs ((x, i) ∷ l) e) ∙ sym (head (cs ++ (x, i) ∷ l))
            ∙ sym (ap (λ t. find (pos 0) v t) (append_assoc ((low, lo) ∷ (high, lo +ℤ pos n) ∷ cs) ((x, i) ∷ []) l))
        go false e = let is_x : v ≡ x = among_one v x (among_split v (keys cs) (x ∷ []) e h) in ap (λ y. find (pos 0) y (fo' ++ l)) is_x ∙ x_outer l
            ∙ sym (x_given l) ∙ ap (λ y. find (pos 0) y (go' ++ l)) (sym is_x)

    there : (a : Name) → is_among a over ≡ true → is_among a (keys frame.arrays) ≡ true
    there a o = ap (λ ks. is_among a ks) agrees.names ∙ known a o

    -- the slice of an array of the range
    slot_is : (fa ga : List (Name × List ℤ)) (slot : Slot' fa ga) (a : Name) → is_among a over ≡ true → find [] a fa ≡ with_slice (find [] a frame.arrays) (natural lo) (slot.slices a)
    slot_is fa ga slot a o = ap (λ t. find [] a t) slot.put'.arrays ∙ find_mapped over (λ a xs. with_slice xs (natural lo) (slot.slices a)) frame.arrays a distinct o (there a o)

    slice_is : (fa ga : List (Name × List ℤ)) (slot : Slot' fa ga) (a : Name) → is_among a over ≡ true → find [] a ga ≡ slot.slices a
    slice_is fa ga slot a o = ap (λ t. find [] a t) slot.is ∙ table_at over slot.slices a o

    inside_array : (a : Name) → is_among a over ≡ true → natural lo ≤ length (find [] a frame.arrays)
    inside_array a o = omega (arith, agrees.within a o (omega arith))

    put_in_slot : (fa ga : List (Name × List ℤ)) → Slot' fa ga → (a : Name) → is_among a over ≡ true → (v : ℤ) → fits v ≡ true →
        Slot' (put a (slice_set (find [] a fa) (natural lo + j) v) fa) (put a (slice_set (find [] a ga) j v) ga)
    put_in_slot fa ga slot a o v f =
        let xs : List ℤ = find [] a frame.arrays in
        let s : Name → List ℤ = slot.slices in
        let new : List ℤ = slice_set (s a) j v in
        let s' : Name → List ℤ = changed s a new in
        let y_is : slice_set (find [] a fa) (natural lo + j) v ≡ with_slice xs (natural lo) (s' a) =
        ap (λ t. slice_set t (natural lo + j) v) (slot_is fa ga slot a o)
        ∙ set_slice xs (s a) (natural lo) j v (inside_array a o) (omega (arith, slot.put'.lengths a o))
        ∙ ap (λ t. with_slice xs (natural lo) t) (sym (changed_here s a new)) in
        record {
          slices = s';
          is = ap (λ t. put a t ga) (ap (λ t. slice_set t j v) (slice_is fa ga slot a o)) ∙ ap (λ t. put a new t) slot.is ∙ table_put over s a new distinct o;
          put' = record {
            ints = slot.put'.ints;
            sliced = slot.put'.sliced;
            good = record {
              ints = slot.put'.good.ints;
              arrays = fine-put a (slice_set (find [] a fa) (natural lo + j) v) fa
                  (fine_set (find [] a fa) (natural lo + j) v f (find_fine a fa slot.put'.good.arrays)) slot.put'.good.arrays;
            };
            lengths = λ b ob. length_of b ob;
            arrays = ap (λ t. put a t fa) y_is ∙ ap (λ t. put a (with_slice xs (natural lo) (s' a)) t) slot.put'.arrays
                ∙ mapped_put over (λ a xs. with_slice xs (natural lo) (s a)) (λ a xs. with_slice xs (natural lo) (s' a)) frame.arrays a distinct o
                (λ b e ys. ap (λ t. with_slice ys (natural lo) t) (changed_other s a new b e));
          };
        }
      where
        length_of : (b : Name) → is_among b over ≡ true → length (changed slot.slices a (slice_set (slot.slices a) j v) b) ≡ n
        length_of b ob = go (same_name a b) refl
          where
            go : (y : Bool) → same_name a b ≡ y → length (changed slot.slices a (slice_set (slot.slices a) j v) b) ≡ n
            go true e = ap (λ c. length (changed slot.slices a (slice_set (slot.slices a) j v) c)) (sym (same_are a b e))
                ∙ ap length (changed_here slot.slices a (slice_set (slot.slices a) j v)) ∙ length-set (slot.slices a) j v ∙ slot.put'.lengths a o
            go false e = ap length (changed_other slot.slices a (slice_set (slot.slices a) j v) b e) ∙ slot.put'.lengths b ob

    pub turn_world : World scope fo' go' Slot'
    turn_world = record {
      outer_is = keys-append i0 ((x, i) ∷ []) ∙ ap (λ t. t ++ x ∷ []) outer_is;
      given_is = keys-append ((low, lo) ∷ (high, lo +ℤ pos n) ∷ cs) ((x, i) ∷ []);
      shared_same = shared;
      arrays_are = λ fa ga slot. ap keys slot.put'.arrays ∙ keys-mapped over (λ a xs. with_slice xs (natural lo) (slot.slices a)) frame.arrays ∙ agrees.names;
      over_are = λ fa ga slot. ap keys slot.is ∙ keys-table over slot.slices;
      over_sliced = λ a o. among_left a over sliced0 o;
      over_outside = known;
      place = natural lo + j;
      spot = j;
      lowest = lo;
      variable_is = λ a o l. x_outer l ∙ ap (λ z. z +ℤ pos j) (agrees.from a o (omega arith));
      variable_too = λ a o l. x_given l ∙ ap (λ z. z +ℤ pos j) (agrees.from a o (omega arith));
      low_is = λ a o l. refl;
      spot_is = λ a o. ap (λ z. pos (natural lo + j) -ℤ z) (agrees.from a o (omega arith)) ∙ omega (arith, ints);
      spot_fits = λ a o. tested j (omega arith);
      same_element = λ fa ga slot a o. ap (λ t. slice_get t (natural lo + j)) (slot_is fa ga slot a o)
          ∙ get_slice (find [] a frame.arrays) (slot.slices a) (natural lo) j (inside_array a o) (omega (arith, slot.put'.lengths a o))
          ∙ ap (λ t. slice_get t j) (sym (slice_is fa ga slot a o));
      put_element = put_in_slot;
      top = λ r. absurd cc;
    }

  module _ (line : ℕ) (b b' : Block) (fs fs' : List Function) (calls : Calls) (depth limit : ℕ)
      (body : BodyAlike (turn_scope functions0 outer0 arrays0 sliced0 x (keys cs) over) b b' fs fs' calls depth limit) where
    after_turn : (lo : ℤ) (n : ℕ) (small : n < 2 ^ 63) (start : Frame) (s0 : Name → List ℤ) (agrees : Agrees over i0 arrays0 sliced0 lo n start s0)
        (j : ℕ) (below : j < n) (frame : Frame) (arrays : List (Name × List ℤ)) →
        Reached over (Put over lo n start) frame arrays → (mi ma : List Name) {way way' : Completion} (from : Frame) →
        Out scope (fo' lo n small start s0 agrees j below) (go' lo n small start s0 agrees j below) (Slot' lo n small start s0 agrees j below) ([] ++ mi) ([] ++ ma) from way way' → (l : ℕ) →
        Alike (NextIteration (Reached over (Put over lo n start)) (λ arrays. at_turn lo (lo +ℤ pos n) cs arrays x (lo +ℤ pos j)) frame) l (Done way l quiet)
        (onward way' (λ g. going (leave (at_turn lo (lo +ℤ pos n) cs arrays x (lo +ℤ pos j)) g)) l)
    after_turn lo n small start s0 agrees j below frame arrays r mi ma from (returns never fit good kept) l = absurd cc
    after_turn lo n small start s0 agrees j below frame arrays r mi ma from (goes (related loc fa ga la slot ki ka good) kept) l =
        let fints : List (Name × ℤ) = i0 ++ (x, lo +ℤ pos j) ∷ [] in
        let gints : List (Name × ℤ) = ((low, lo) ∷ (high, lo +ℤ pos n) ∷ cs) ++ (x, lo +ℤ pos j) ∷ [] in
        let ints_is : frame.ints ≡ i0 = r.put.ints ∙ agrees.ints in
        let sliced_is : frame.sliced ≡ sliced0 = r.put.sliced ∙ agrees.sliced in
        let names_is : keys frame.arrays ≡ arrays0 = ap keys r.put.arrays ∙ keys-mapped over (λ a xs. with_slice xs (natural lo) (r.slices a)) start.arrays ∙ agrees.names in
        let names_are : keys fa ≡ arrays0 = ap keys slot.put'.arrays ∙ keys-mapped over (λ a xs. with_slice xs (natural lo) (slot.slices a)) start.arrays ∙ agrees.names in
        let fa_length : length frame.arrays ≡ length fa = sym (length-keys frame.arrays) ∙ ap length (names_is ∙ sym names_are) ∙ length-keys fa in
        let ga_length : length arrays ≡ length ga = ap length r.is ∙ length_of_table over r.slices ∙ sym (length_of_table over slot.slices) ∙ sym (ap length slot.is) in
        let p : take (length gints) (gints ++ loc) ≡ gints = take-append_seam gints loc in
        let q : take (length arrays) (ga ++ la) ≡ ga = ap (λ k. take k (ga ++ la)) ga_length ∙ take-append_seam ga la in
        let g_is : leave (at_turn lo (lo +ℤ pos n) cs arrays x (lo +ℤ pos j)) (target gints loc ga la) ≡ at_turn lo (lo +ℤ pos n) cs ga x (lo +ℤ pos j) = rw (p, q) refl in
        let u : take (length frame.ints) (fints ++ loc) ≡ i0 = ap (λ t. take (length t) (fints ++ loc)) ints_is
        ∙ ap (λ t. take (length i0) t) (append_assoc i0 ((x, lo +ℤ pos j) ∷ []) loc) ∙ take-append_seam i0 ((x, lo +ℤ pos j) ∷ loc) in
        let v : take (length frame.arrays) (fa ++ la) ≡ fa = ap (λ k. take k (fa ++ la)) fa_length ∙ take-append_seam fa la in
        let f_is : leave frame (source scope fints loc fa la) ≡ record { ints = i0; arrays = fa; sliced = sliced0 } =
        ap (λ t. record { ints = t; arrays = take (length frame.arrays) (fa ++ la); sliced = frame.sliced }) u
        ∙ ap (λ t. record { ints = i0; arrays = t; sliced = frame.sliced }) v ∙ ap (λ t. record { ints = i0; arrays = fa; sliced = t }) sliced_is in
        alike_done l (record { arrays = ga; goes_on = ap Normal g_is; near = record { slices = slot.slices; is = slot.is; put = subst (λ f. Put over lo n start f slot.slices) (sym f_is) slot.put' } })

    pub each_turn : (lo : ℤ) (n : ℕ) (lo_fits : fits lo ≡ true) (hi_fits : fits (lo +ℤ pos n) ≡ true) → n < 2 ^ 63
        → (start : Frame) (s0 : Name → List ℤ) → Agrees over i0 arrays0 sliced0 lo n start s0 →
        Turns line x over b b' fs fs' calls depth plain lo n cs away lo_fits hi_fits (Reached over (Put over lo n start)) (length over) (counted over (Put over lo n start)) limit
    each_turn lo n lo_fits hi_fits small start s0 agrees j below frame arrays given bound h1 h2 r =
        let i1 : ℤ = lo +ℤ pos j in
        let fints : List (Name × ℤ) = i0 ++ (x, lo +ℤ pos j) ∷ [] in
        let gints : List (Name × ℤ) = ((low, lo) ∷ (high, lo +ℤ pos n) ∷ cs) ++ (x, lo +ℤ pos j) ∷ [] in
        let ints_is : frame.ints ≡ i0 = r.put.ints ∙ agrees.ints in
        let sliced_is : frame.sliced ≡ sliced0 = r.put.sliced ∙ agrees.sliced in
        let frame_is : frame ≡ record { ints = i0; arrays = frame.arrays; sliced = sliced0 } =
        ap (λ t. record { ints = t; arrays = frame.arrays; sliced = frame.sliced }) ints_is ∙ ap (λ t. record { ints = i0; arrays = frame.arrays; sliced = t }) sliced_is in
        let slot : Slot' lo n small start s0 agrees j below frame.arrays arrays = record { slices = r.slices; is = r.is; put' = subst (λ f. Put over lo n start f r.slices) frame_is r.put } in
        let variable_fits : fits (lo +ℤ pos j) ≡ true = between lo n j lo_fits hi_fits (omega arith) in
        let fit : AllFit (i0 ++ (x, lo +ℤ pos j) ∷ []) = fit-append i0 ((x, lo +ℤ pos j) ∷ []) slot.put'.good.ints (variable_fits, tt) in
        let good : Good (source scope fints [] frame.arrays []) = record { ints = rw (append-nil fints) fit; arrays = rw (append-nil frame.arrays) r.put.good.arrays } in
        let f_is : source scope fints [] frame.arrays [] ≡ inside_loop over (new_int x (lo +ℤ pos j) frame) =
        ap (λ t. record { ints = t; arrays = frame.arrays ++ []; sliced = over ++ sliced0 }) (append-nil fints ∙ ap (λ t. t ++ (x, lo +ℤ pos j) ∷ []) (sym ints_is))
        ∙ ap (λ t. record { ints = frame.ints ++ (x, lo +ℤ pos j) ∷ []; arrays = t; sliced = over ++ sliced0 }) (append-nil frame.arrays)
        ∙ ap (λ t. record { ints = frame.ints ++ (x, lo +ℤ pos j) ∷ []; arrays = frame.arrays; sliced = over ++ t }) (sym sliced_is) in
        let g_is : target gints [] arrays [] ≡ at_turn lo (lo +ℤ pos n) cs arrays x (lo +ℤ pos j) =
        ap (λ t. record { ints = t; arrays = arrays ++ []; sliced = [] }) (append-nil gints) ∙ ap (λ t. record { ints = gints; arrays = t; sliced = [] }) (append-nil arrays) in
        let rel : Rel scope fints gints (Slot' lo n small start s0 agrees j below) [] [] (inside_loop over (new_int x (lo +ℤ pos j) frame)) (at_turn lo (lo +ℤ pos n) cs arrays x (lo +ℤ pos j)) =
        subst (λ f. Rel scope fints gints (Slot' lo n small start s0 agrees j below) [] [] f (at_turn lo (lo +ℤ pos n) cs arrays x (lo +ℤ pos j))) f_is
        (subst (λ g. Rel scope fints gints (Slot' lo n small start s0 agrees j below) [] [] (source scope fints [] frame.arrays []) g) g_is (related [] frame.arrays arrays [] slot refl refl good)) in
        alike_left (sym (then_gives (run_all b fs calls (inside_loop over (new_int x (lo +ℤ pos j) frame)) given)))
        (alike_then (body fints gints (Slot' lo n small start s0 agrees j below) (turn_world lo n small start s0 agrees j below)
        (inside_loop over (new_int x (lo +ℤ pos j) frame)) (at_turn lo (lo +ℤ pos n) cs arrays x (lo +ℤ pos j)) rel given bound h1 h2)
        (λ way way' l o le. after_turn lo n small start s0 agrees j below frame arrays r o.more_ints o.more_arrays (inside_loop over (new_int x (lo +ℤ pos j) frame)) o.out l))
