-- The new slot of each local of the source is the slot of its name in the function that executes it.
use Rattle.std.proofs.Common.{◌≡◌, ℕ, suc, ◌+◌, ◌-◌, ◌≤◌, nat_lt, Bool, true, false, List, [], ◌∷◌, ◌++◌, length, map, arith, refl, sym, ◌∙◌, ap, append_assoc, length-append}
use Rattle.std.specs.Prelude.{if◌then◌else◌, not, ◌&&◌, ◌||◌}
use Rattle.std.proofs.lemmas.Bool.{and_parts}
use Rattle.cw_facts.specs.Tests.{below, not_below, not_true, both_true, TrueOrFalse, yes_is, no_is, told, never, refuted}
use Rattle.cw_model.specs.Syntax.{Name, Function}
use Rattle.cw_model.specs.Names.{same_name, is_among, differ}
use Rattle.cw_model.specs.lemmas.Names.{same_itself, same_are}
use Rattle.cw_tree.specs.Resolved.{Use, slot_of, use_of, is_slot_in}
use Rattle.cw_tree.specs.lemmas.NamedSlots.{slot_in, slot_out, slot_stays}
use Rattle.cw_tree.specs.lemmas.Names.{front_among, later_among}
use Rattle.cw_loops.specs.Lowered.{is_plain, low, high}
use Rattle.cw_loops.specs.Lowerable.{Surroundings, can_write, can_read, is_local, nothing_around, inside}
use Rattle.cw_loops.specs.Moved.{slot, Moves, nothing_moved, moved_int, moved_array, is_over}
use Rattle.cw_loops.specs.lemmas.Apart.{plain_apart}
use Rattle.cw_loops.specs.lemmas.Naming.{Placed, at_front, after_it, placed, Side, in_first, in_second, side, among_right, neither_among}
use Rattle.cw_loops.proofs.Shifting.{small_slot, slot_past, int_moved, past_int, own_int_moved, array_moved, past_array, own_array_moved}
use Rattle.cw_loops.proofs.Taken.{slots_among}
use Rattle.cw_loops.proofs.Entering.{Entered}

-- a list of distinct names that are all in another list is not longer than the other list

abbrev without : Name → List Name → List Name
without x [] = []
without x (y ∷ ys) = if same_name x y then ys else y ∷ without x ys

one_less : (x : Name) (ys : List Name) → is_among x ys ≡ true → suc (length (without x ys)) ≡ length ys
one_less x [] h = absurd cc
one_less x (y ∷ ys) h = go (same_name x y) h (one_less x ys)
  where
    go : (b : Bool) → (if b then true else is_among x ys) ≡ true → (is_among x ys ≡ true → suc (length (without x ys)) ≡ length ys)
        → suc (length (if b then ys else y ∷ without x ys)) ≡ suc (length ys)
    go true g more = refl
    go false g more = ap suc (more g)

still_there : (v x : Name) (ys : List Name) → is_among v ys ≡ true → same_name v x ≡ false → is_among v (without x ys) ≡ true
still_there v x [] h other = absurd cc
still_there v x (y ∷ ys) h other = go (same_name x y) refl (placed v y ys h) (λ g. still_there v x ys g other)
  where
    go : (b : Bool) → same_name x y ≡ b → Placed v y ys → (is_among v ys ≡ true → is_among v (without x ys) ≡ true) → is_among v (if b then ys else y ∷ without x ys) ≡ true
    go true e (at_front same) more = never (same_name v x) (ap (same_name v) (same_are x y e ∙ sym same) ∙ same_itself v) other
    go true e (after_it apart p) more = p
    go false e (at_front same) more = ap (λ w. is_among w (y ∷ without x ys)) same ∙ front_among y (without x ys)
    go false e (after_it apart p) more = later_among v y (without x ys) (more p)

pub no_more : (xs ys : List Name) → differ xs ≡ true → ((v : Name) → is_among v xs ≡ true → is_among v ys ≡ true) → length xs ≤ length ys
no_more [] ys h all = omega arith
no_more (x ∷ xs) ys h all =
    let two = and_parts (not (is_among x xs)) (differ xs) h in
    let apart : (v : Name) → is_among v xs ≡ true → same_name v x ≡ false =
    λ v o. refuted (same_name v x) (λ e. never (is_among x xs) (ap (λ w. is_among w xs) (sym (same_are v x e)) ∙ o) (not_true (is_among x xs) two.0)) in
    let rest = no_more xs (without x ys) two.1 (λ v o. still_there v x ys (all v (later_among v x xs o)) (apart v o)) in
    let less = one_less x ys (all x (front_among x xs)) in
    omega (arith, rest, less)

pub slot_most : (x : Name) (names : List Name) → slot_of x names ≤ length names
slot_most x names = go (told (is_among x names))
  where
    go : TrueOrFalse (is_among x names) → slot_of x names ≤ length names
    go (yes_is e) = let p = slot_in x names e in omega (arith, p)
    go (no_is e) = let p = slot_out x names e in omega (arith, p)

pub slots_are : (names vs : List Name) → map (λ (u : Use). u.slot) (map (use_of names) vs) ≡ map (λ y. slot_of y names) vs
slots_are names [] = refl
slots_are names (v ∷ vs) = ap (λ r. slot_of v names ∷ r) (slots_are names vs)

-- the new slots of the locals of the source
pub record Tracks (m : Moves) (c : Surroundings) : Type 0 where
  pub int_read : (x : Name) (ints : List Name) → can_read c x ≡ true → length (c.outer ++ ints) ≤ 256 → moved_int m (slot_of x (c.outer ++ ints)) ≡ slot_of x (c.given ++ ints)
  pub int_next : (ints : List Name) → length (c.outer ++ ints) ≤ 256 → moved_int m (length (c.outer ++ ints)) ≡ length (c.given ++ ints)
  pub array_local : (a : Name) (arrays : List Name) → is_local c a ≡ true → length (c.arrays ++ arrays) ≤ 256 → moved_array m (slot_of a (c.arrays ++ arrays)) ≡ slot_of a (c.over ++ arrays)
  pub array_over : (a : Name) (arrays : List Name) → is_among a c.over ≡ true → moved_array m (slot_of a (c.arrays ++ arrays)) ≡ slot_of a (c.over ++ arrays)
  pub array_next : (arrays : List Name) → length (c.arrays ++ arrays) ≤ 256 → moved_array m (length (c.arrays ++ arrays)) ≡ length (c.over ++ arrays)
  pub local_not_over : (a : Name) (arrays : List Name) → is_local c a ≡ true → is_over m (slot_of a (c.arrays ++ arrays)) ≡ false
  pub over_is_over : (a : Name) (arrays : List Name) → is_among a c.over ≡ true → is_over m (slot_of a (c.arrays ++ arrays)) ≡ true
  pub low_first : (a : Name) → is_among a c.over ≡ true → (ints : List Name) → slot_of low (c.given ++ ints) ≡ 0
  pub variable_read : (a : Name) → is_among a c.over ≡ true → can_read c c.variable ≡ true

pub outside_not_arrays : (c : Surroundings) (a : Name) → is_local c a ≡ true → is_among a c.arrays ≡ false
outside_not_arrays c a h = not_true (is_among a c.arrays) (and_parts (not (is_among a c.arrays)) _ h).0

pub outside_not_over : (c : Surroundings) (a : Name) → is_local c a ≡ true → is_among a c.over ≡ false
outside_not_over c a h = not_true (is_among a c.over) (and_parts (not (is_among a c.over)) _ (and_parts (not (is_among a c.arrays)) _ h).1).0

-- outside of all loops each local keeps its slot
int_stays : (s : ℕ) → s ≤ 256 → moved_int nothing_moved s ≡ s
int_stays s h = ap (λ b. if b then 2 else slot (s - 0 + 0)) (not_below s 0 (omega arith)) ∙ small_slot (s - 0 + 0) (omega (arith, h)) ∙ omega arith

array_stays : (s : ℕ) → s ≤ 256 → moved_array nothing_moved s ≡ s
array_stays s h = ap (λ b. if b then 0 else slot (s - 0 + 0)) (not_below s 0 (omega arith)) ∙ small_slot (s - 0 + 0) (omega (arith, h)) ∙ omega arith

pub tracks_outside : (fs : List Function) → Tracks nothing_moved (nothing_around fs)
tracks_outside fs = record {
  int_read = λ x ints r room. let p = slot_most x ints in int_stays (slot_of x ints) (omega (arith, p, room));
  int_next = λ ints room. int_stays (length ints) room;
  array_local = λ a arrays here room. let p = slot_most a arrays in array_stays (slot_of a arrays) (omega (arith, p, room));
  array_over = λ a arrays o. absurd cc;
  array_next = λ arrays room. array_stays (length arrays) room;
  local_not_over = λ a arrays here. ap (λ b. b && false) (not_below (slot_of a arrays) 0 (omega arith));
  over_is_over = λ a arrays o. absurd cc;
  low_first = λ a o. absurd cc;
  variable_read = λ a o. absurd cc;
}

-- the mapping for the body of a loop
module _ (c : Surroundings) (ints0 arrays0 : List Name) (x : Name) (taken over : List Name) (entered : Entered c ints0 arrays0 x taken over)
    (few_ints : length (c.outer ++ ints0) ≤ 256) (few_arrays : length (c.arrays ++ arrays0) ≤ 256) (m : Moves)
    (ints_before : m.ints_before ≡ length (c.outer ++ ints0)) (captured_are : m.captured ≡ map (λ y. slot_of y (c.outer ++ ints0)) taken) (first_int : m.first_int ≡ 2 + length taken)
    (arrays_before : m.arrays_before ≡ length (c.arrays ++ arrays0)) (over_are : m.over ≡ map (λ y. slot_of y (c.arrays ++ arrays0)) over) (first_array : m.first_array ≡ length over) where
  abbrev turn : Surroundings
  turn = inside c ints0 arrays0 x taken over

  abbrev before : List Name
  before = c.outer ++ ints0

  abbrev arrays_there : List Name
  arrays_there = c.arrays ++ arrays0

  few_taken : length taken ≤ 256
  few_taken = let p = no_more taken before entered.taken_differ entered.taken_known in omega (arith, p, few_ints)

  over_there : (a : Name) → is_among a over ≡ true → is_among a arrays_there ≡ true
  over_there a o = among_right a c.arrays arrays0 (entered.over_known a o)

  few_over : length over ≤ 256
  few_over = let p = no_more over arrays_there entered.over_differ over_there in omega (arith, p, few_arrays)

  plain_free : (v : Name) → is_plain v ≡ true → is_among v taken ≡ false → is_among v (low ∷ high ∷ taken) ≡ false
  plain_free v plain free =
      ap (λ b. if b then true else (if same_name v high then true else is_among v taken)) (plain_apart v (108 ∷ []) plain)
      ∙ ap (λ b. if b then true else is_among v taken) (plain_apart v (104 ∷ []) plain) ∙ free

  -- a name that is read and not captured belongs to the iteration
  own_name : (v : Name) → can_read turn v ≡ true → is_among v taken ≡ false → (is_among v before ≡ false) × (is_among v (low ∷ high ∷ taken) ≡ false)
  own_name v r free = go (told (is_among v (taken ++ x ∷ [])))
    where
      alone : (same_name v x ≡ true) → (is_among v before ≡ false) × (is_among v (low ∷ high ∷ taken) ≡ false)
      alone e = (ap (λ w. is_among w before) (same_are v x e) ∙ entered.new, ap (λ w. is_among w (low ∷ high ∷ taken)) (same_are v x e) ∙ plain_free x entered.plain entered.not_taken)

      last : Placed v x [] → (is_among v before ≡ false) × (is_among v (low ∷ high ∷ taken) ≡ false)
      last (at_front same) = alone (ap (λ w. same_name v w) (sym same) ∙ same_itself v)
      last (after_it other p) = absurd cc

      by : Side v taken (x ∷ []) → (is_among v before ≡ false) × (is_among v (low ∷ high ∷ taken) ≡ false)
      by (in_first p) = never (is_among v taken) p free
      by (in_second p) = last (placed v x [] p)

      go : TrueOrFalse (is_among v (taken ++ x ∷ [])) → (is_among v before ≡ false) × (is_among v (low ∷ high ∷ taken) ≡ false)
      go (yes_is e) = by (side v taken (x ∷ []) e)
      go (no_is e) =
          let w = and_parts (not (is_among v (before ++ x ∷ []))) (not (is_among v ((low ∷ high ∷ taken) ++ x ∷ []))) (ap (λ b. b || can_write turn v) (sym e) ∙ r) in (
            (neither_among v before (x ∷ []) (not_true (is_among v (before ++ x ∷ [])) w.0)).0,
            (neither_among v (low ∷ high ∷ taken) (x ∷ []) (not_true (is_among v ((low ∷ high ∷ taken) ++ x ∷ [])) w.1)).0,
          )

  own_few : (ints : List Name) → length ((before ++ x ∷ []) ++ ints) ≤ 256 → length (x ∷ ints) ≤ 256
  own_few ints room =
      let p = length-append (before ++ x ∷ []) ints in
      let q = length-append before (x ∷ []) in
      omega (arith, p, q, room)

  tracked_int : (v : Name) (ints : List Name) → can_read turn v ≡ true → length ((before ++ x ∷ []) ++ ints) ≤ 256
      → moved_int m (slot_of v ((before ++ x ∷ []) ++ ints)) ≡ slot_of v (((low ∷ high ∷ taken) ++ x ∷ []) ++ ints)
  tracked_int v ints r room =
      ap (λ l. moved_int m (slot_of v l)) (append_assoc before (x ∷ []) ints) ∙ go (told (is_among v taken))
      ∙ ap (slot_of v) (sym (append_assoc (low ∷ high ∷ taken) (x ∷ []) ints))
    where
      go : TrueOrFalse (is_among v taken) → moved_int m (slot_of v (before ++ x ∷ ints)) ≡ slot_of v ((low ∷ high ∷ taken) ++ x ∷ ints)
      go (yes_is e) = int_moved m before taken ints_before captured_are first_int v (x ∷ ints) (entered.taken_plain v e) (entered.taken_known v e) e (omega (arith, few_taken))
      go (no_is e) =
          let own = own_name v r e in
          let p = slot_most v (x ∷ ints) in
          let q = own_few ints room in
          own_int_moved m before taken ints_before captured_are first_int v (x ∷ ints) own.0 own.1 (omega (arith, few_taken, p, q))

  tracked_next : (ints : List Name) → length ((before ++ x ∷ []) ++ ints) ≤ 256 → moved_int m (length ((before ++ x ∷ []) ++ ints)) ≡ length (((low ∷ high ∷ taken) ++ x ∷ []) ++ ints)
  tracked_next ints room =
      let q = own_few ints room in
      ap (λ l. moved_int m (length l)) (append_assoc before (x ∷ []) ints) ∙ ap (moved_int m) (length-append before (x ∷ ints))
      ∙ past_int m before taken ints_before captured_are first_int (length (x ∷ ints)) (omega (arith, few_taken, q))
      ∙ sym (ap length (append_assoc (low ∷ high ∷ taken) (x ∷ []) ints) ∙ length-append (low ∷ high ∷ taken) (x ∷ ints))

  arrays_few : (arrays : List Name) → length (arrays_there ++ arrays) ≤ 256 → length arrays ≤ 256
  arrays_few arrays room = let p = length-append arrays_there arrays in omega (arith, p, room)

  tracked_local : (a : Name) (arrays : List Name) → is_local turn a ≡ true → length (arrays_there ++ arrays) ≤ 256 → moved_array m (slot_of a (arrays_there ++ arrays)) ≡ slot_of a (over ++ arrays)
  tracked_local a arrays here room =
      let p = slot_most a arrays in
      let q = arrays_few arrays room in
      own_array_moved m arrays_there over arrays_before over_are first_array a arrays (outside_not_arrays turn a here) (outside_not_over turn a here) (omega (arith, few_over, p, q))

  tracked_after : (arrays : List Name) → length (arrays_there ++ arrays) ≤ 256 → moved_array m (length (arrays_there ++ arrays)) ≡ length (over ++ arrays)
  tracked_after arrays room =
      let q = arrays_few arrays room in
      ap (moved_array m) (length-append arrays_there arrays) ∙ past_array m arrays_there over arrays_before over_are first_array (length arrays) (omega (arith, few_over, q))
      ∙ sym (length-append over arrays)

  not_one : (a : Name) (arrays : List Name) → is_local turn a ≡ true → is_over m (slot_of a (arrays_there ++ arrays)) ≡ false
  not_one a arrays here =
      let p = slot_past a arrays_there arrays (outside_not_arrays turn a here) in
      ap (λ k. nat_lt (slot_of a (arrays_there ++ arrays)) k && is_slot_in (slot_of a (arrays_there ++ arrays)) m.over) arrays_before
      ∙ ap (λ b. b && is_slot_in (slot_of a (arrays_there ++ arrays)) m.over) (not_below (slot_of a (arrays_there ++ arrays)) (length arrays_there) (omega (arith, p)))

  one_of_them : (a : Name) (arrays : List Name) → is_among a over ≡ true → is_over m (slot_of a (arrays_there ++ arrays)) ≡ true
  one_of_them a arrays o =
      ap (is_over m) (slot_stays a arrays_there arrays (over_there a o))
      ∙ both_true (nat_lt (slot_of a arrays_there) m.arrays_before) (is_slot_in (slot_of a arrays_there) m.over)
      (ap (nat_lt (slot_of a arrays_there)) arrays_before ∙ below (slot_of a arrays_there) (length arrays_there) (slot_in a arrays_there (over_there a o)))
      (ap (is_slot_in (slot_of a arrays_there)) (over_are ∙ sym (slots_are arrays_there over)) ∙ slots_among arrays_there a over (over_there a o) ∙ o)

  pub tracks_inside : Tracks m (inside c ints0 arrays0 x taken over)
  tracks_inside = record {
    int_read = tracked_int;
    int_next = tracked_next;
    array_local = tracked_local;
    array_over = λ a arrays o. array_moved m arrays_there over arrays_before over_are first_array a arrays (over_there a o) o (omega (arith, few_over));
    array_next = tracked_after;
    local_not_over = not_one;
    over_is_over = one_of_them;
    low_first = λ a o ints. ap (λ b. if b then 0 else suc (slot_of low (((high ∷ taken) ++ x ∷ []) ++ ints))) (same_itself low);
    variable_read = λ a o. ap (λ b. b || can_write turn x) (among_right x taken (x ∷ []) (front_among x []));
  }
