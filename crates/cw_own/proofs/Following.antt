-- The names that are taken, with their holders, are the locals that the rows hold.
use Rattle.std.proofs.Common.{◌≡◌, ℕ, ◌+◌, ◌≤◌, ◌==◌, Bool, true, false, not, ◌&&◌, ◌||◌, ◌∷◌, ◌++◌, refl, sym, ap, ◌∙◌, arith}
use Rattle.std.proofs.lemmas.Bool.Decides.{nat_tests}
use Rattle.std.proofs.Math.Bool.{or-false, and-false, or_assoc, and-true}
use Rattle.cw_facts.specs.Tests.{equal}
use Rattle.cw_model.specs.Syntax.{Name}
use Rattle.cw_model.specs.Names.{same_name, is_among}
use Rattle.cw_model.specs.Ownership.{Holder, SpawnIn, ReaderIn, CutOf, Taken, freed, cut_ended}
use Rattle.cw_model.specs.lemmas.Names.{turned}
use Rattle.cw_tree.specs.Resolved.{Locals, slot_of}
use Rattle.cw_tree.specs.Resolved as spec
use Rattle.cw_tree.specs.lemmas.NamedSlots.{one_slot}
use Rattle.cw_own.specs.Sets.{Slots, with_slot, without_slot, either, Row, with_int, with_array, either_row}
use Rattle.cw_own.specs.Taken.{Restrictions, no_restrictions, taking_int, taking_array, freezing, either_restrictions}
use Rattle.cw_own.proofs.Words.{four_or}
use Rattle.cw_own.proofs.Keeping.{same_rows}
use Rattle.cw_own.proofs.Holding.{held, is_cut, but_spawn, but_cut, held_append, held_freed, uncut_test, held_uncut, held_same}
use Rattle.cw_own.proofs.Showing.{Shows, shows_as, shows_row, shows_either, shows_int, shows_array, shows_push_int, shows_push_array}

-- the arrays held by holders of a kind, among spawns of a sync block
abbrev pub spun : (Holder → Bool) → ℕ → Restrictions → Slots
spun p depth here = λ k. (p (SpawnIn depth) && here.arrays k) || (p (ReaderIn depth) && here.frozen k)

-- the locals that holders of a kind hold, among spawns of a sync block and cuts
abbrev pub part : (Holder → Bool) → ℕ → Restrictions → Slots → Row
part p depth here cuts = record {
  ints = λ k. p (SpawnIn depth) && here.ints k;
  arrays = λ k. spun p depth here k || (p CutOf && cuts k);
}

-- the locals that holders of a kind hold, including those from outside
abbrev pub all_of : (Holder → Bool) → ℕ → ((Holder → Bool) → Row) → Restrictions → Slots → Row
all_of p depth outside here cuts = either_row (outside p) (part p depth here cuts)

abbrev pub Holds : Locals → ℕ → ((Holder → Bool) → Row) → Taken → Restrictions → Slots → Type 0
Holds locals depth outside taken here cuts = (p : Holder → Bool) → Shows locals (held p taken) (all_of p depth outside here cuts)

-- no spawn from this depth on, and no cut, holds what is held from outside
pub record Steady (depth : ℕ) (outside : (Holder → Bool) → Row) : Type 0 where
  pub spawns : (d : ℕ) → depth ≤ d → (p : Holder → Bool) → outside (but_spawn d p) ≡ outside p
  pub cuts : (p : Holder → Bool) → outside (but_cut p) ≡ outside p

put_in : (q r a h : Bool) → q ≡ true → (a || (r || (q && h))) ≡ (r || (q && (a || h)))
put_in true true true h e = refl
put_in true true false h e = refl
put_in true false a h e = refl
put_in false r a h e = cc

put_among : (q r a h d c : Bool) → q ≡ true → (a || (r || (((q && h) || d) || c))) ≡ (r || (((q && (a || h)) || d) || c))
put_among true true true h d c e = refl
put_among true true false h d c e = refl
put_among true false true h d c e = refl
put_among true false false h d c e = refl
put_among false r a h d c e = cc

put_behind : (q r a h d c : Bool) → q ≡ true → (a || (r || ((d || (q && h)) || c))) ≡ (r || ((d || (q && (a || h))) || c))
put_behind true true true h d c e = refl
put_behind true true false h d c e = refl
put_behind true false true h true c e = refl
put_behind true false true h false c e = refl
put_behind true false false h d c e = refl
put_behind false r a h d c e = cc

put_off : (q r h g : Bool) → q ≡ false → (r || (q && h)) ≡ (r || (q && g))
put_off true r h g e = cc
put_off false r h g e = refl

put_off_among : (q r h g d c : Bool) → q ≡ false → (r || (((q && h) || d) || c)) ≡ (r || (((q && g) || d) || c))
put_off_among true r h g d c e = cc
put_off_among false r h g d c e = refl

put_off_behind : (q r h g d c : Bool) → q ≡ false → (r || ((d || (q && h)) || c)) ≡ (r || ((d || (q && g)) || c))
put_off_behind true r h g d c e = cc
put_off_behind false r h g d c e = refl

by_spawn : (s q r : Bool) → q ≡ true → ((s && q) || r) ≡ (s || r)
by_spawn true true r e = refl
by_spawn false true r e = refl
by_spawn s false r e = cc

by_none : (s q r : Bool) → q ≡ false → ((s && q) || r) ≡ r
by_none true false r e = refl
by_none false false r e = refl
by_none s true r e = cc

pub holds_int : (locals : Locals) (depth : ℕ) (outside : (Holder → Bool) → Row) (taken : Taken) (here : Restrictions) (cuts : Slots) (x : Name) →
    is_among x locals.ints ≡ true → Holds locals depth outside taken here cuts →
    Holds locals depth outside ((x, SpawnIn depth) ∷ taken) (taking_int (slot_of x locals.ints) here) cuts
holds_int locals depth outside taken here cuts x there h p = by (p (SpawnIn depth)) refl
  where
    by : (q : Bool) → p (SpawnIn depth) ≡ q → Shows locals (held p ((x, SpawnIn depth) ∷ taken)) (all_of p depth outside (taking_int (slot_of x locals.ints) here) cuts)
    by true e =
        shows_as locals (λ z. same_name z x || held p taken z) (held p ((x, SpawnIn depth) ∷ taken)) _
        (λ z. by_spawn (same_name z x) (p (SpawnIn depth)) (held p taken z) e)
        (shows_row locals (λ z. same_name z x || held p taken z) (with_int (slot_of x locals.ints) (all_of p depth outside here cuts))
        (all_of p depth outside (taking_int (slot_of x locals.ints) here) cuts)
        (same_rows (with_int (slot_of x locals.ints) (all_of p depth outside here cuts)) (all_of p depth outside (taking_int (slot_of x locals.ints) here) cuts)
        (λ k. put_in (p (SpawnIn depth)) ((outside p).ints k) (k == slot_of x locals.ints) (here.ints k) e) (λ k. refl))
        (shows_int locals x (held p taken) (all_of p depth outside here cuts) there (h p)))
    by false e =
        shows_as locals (held p taken) (held p ((x, SpawnIn depth) ∷ taken)) _
        (λ z. by_none (same_name z x) (p (SpawnIn depth)) (held p taken z) e)
        (shows_row locals (held p taken) (all_of p depth outside here cuts) (all_of p depth outside (taking_int (slot_of x locals.ints) here) cuts)
        (same_rows (all_of p depth outside here cuts) (all_of p depth outside (taking_int (slot_of x locals.ints) here) cuts)
        (λ k. put_off (p (SpawnIn depth)) ((outside p).ints k) (here.ints k) ((k == slot_of x locals.ints) || here.ints k) e) (λ k. refl))
        (h p))

pub holds_array : (locals : Locals) (depth : ℕ) (outside : (Holder → Bool) → Row) (taken : Taken) (here : Restrictions) (cuts : Slots) (x : Name) →
    is_among x locals.arrays ≡ true → Holds locals depth outside taken here cuts →
    Holds locals depth outside ((x, SpawnIn depth) ∷ taken) (taking_array (slot_of x locals.arrays) here) cuts
holds_array locals depth outside taken here cuts x there h p = by (p (SpawnIn depth)) refl
  where
    by : (q : Bool) → p (SpawnIn depth) ≡ q → Shows locals (held p ((x, SpawnIn depth) ∷ taken)) (all_of p depth outside (taking_array (slot_of x locals.arrays) here) cuts)
    by true e =
        shows_as locals (λ z. same_name z x || held p taken z) (held p ((x, SpawnIn depth) ∷ taken)) _
        (λ z. by_spawn (same_name z x) (p (SpawnIn depth)) (held p taken z) e)
        (shows_row locals (λ z. same_name z x || held p taken z) (with_array (slot_of x locals.arrays) (all_of p depth outside here cuts))
        (all_of p depth outside (taking_array (slot_of x locals.arrays) here) cuts)
        (same_rows (with_array (slot_of x locals.arrays) (all_of p depth outside here cuts)) (all_of p depth outside (taking_array (slot_of x locals.arrays) here) cuts)
        (λ k. refl) (λ k. put_among (p (SpawnIn depth)) ((outside p).arrays k) (k == slot_of x locals.arrays) (here.arrays k) (p (ReaderIn depth) && here.frozen k) (p CutOf && cuts k) e))
        (shows_array locals x (held p taken) (all_of p depth outside here cuts) there (h p)))
    by false e =
        shows_as locals (held p taken) (held p ((x, SpawnIn depth) ∷ taken)) _
        (λ z. by_none (same_name z x) (p (SpawnIn depth)) (held p taken z) e)
        (shows_row locals (held p taken) (all_of p depth outside here cuts) (all_of p depth outside (taking_array (slot_of x locals.arrays) here) cuts)
        (same_rows (all_of p depth outside here cuts) (all_of p depth outside (taking_array (slot_of x locals.arrays) here) cuts)
        (λ k. refl) (λ k. put_off_among (p (SpawnIn depth)) ((outside p).arrays k) (here.arrays k) ((k == slot_of x locals.arrays) || here.arrays k)
        (p (ReaderIn depth) && here.frozen k) (p CutOf && cuts k) e))
        (h p))

-- a spawn that only reads an array freezes it
pub holds_frozen : (locals : Locals) (depth : ℕ) (outside : (Holder → Bool) → Row) (taken : Taken) (here : Restrictions) (cuts : Slots) (x : Name) →
    is_among x locals.arrays ≡ true → Holds locals depth outside taken here cuts →
    Holds locals depth outside ((x, ReaderIn depth) ∷ taken) (freezing (slot_of x locals.arrays) here) cuts
holds_frozen locals depth outside taken here cuts x there h p = by (p (ReaderIn depth)) refl
  where
    by : (q : Bool) → p (ReaderIn depth) ≡ q → Shows locals (held p ((x, ReaderIn depth) ∷ taken)) (all_of p depth outside (freezing (slot_of x locals.arrays) here) cuts)
    by true e =
        shows_as locals (λ z. same_name z x || held p taken z) (held p ((x, ReaderIn depth) ∷ taken)) _
        (λ z. by_spawn (same_name z x) (p (ReaderIn depth)) (held p taken z) e)
        (shows_row locals (λ z. same_name z x || held p taken z) (with_array (slot_of x locals.arrays) (all_of p depth outside here cuts))
        (all_of p depth outside (freezing (slot_of x locals.arrays) here) cuts)
        (same_rows (with_array (slot_of x locals.arrays) (all_of p depth outside here cuts)) (all_of p depth outside (freezing (slot_of x locals.arrays) here) cuts)
        (λ k. refl) (λ k. put_behind (p (ReaderIn depth)) ((outside p).arrays k) (k == slot_of x locals.arrays) (here.frozen k) (p (SpawnIn depth) && here.arrays k) (p CutOf && cuts k) e))
        (shows_array locals x (held p taken) (all_of p depth outside here cuts) there (h p)))
    by false e =
        shows_as locals (held p taken) (held p ((x, ReaderIn depth) ∷ taken)) _
        (λ z. by_none (same_name z x) (p (ReaderIn depth)) (held p taken z) e)
        (shows_row locals (held p taken) (all_of p depth outside here cuts) (all_of p depth outside (freezing (slot_of x locals.arrays) here) cuts)
        (same_rows (all_of p depth outside here cuts) (all_of p depth outside (freezing (slot_of x locals.arrays) here) cuts)
        (λ k. refl) (λ k. put_off_behind (p (ReaderIn depth)) ((outside p).arrays k) (here.frozen k)
        ((k == slot_of x locals.arrays) || here.frozen k) (p (SpawnIn depth) && here.arrays k) (p CutOf && cuts k) e))
        (h p))

-- the integers held after two branches
two_ints : (r q a b : Bool) → ((r || (q && a)) || (r || (q && b))) ≡ (r || (q && (a || b)))
two_ints true q a b = refl
two_ints false false a b = refl
two_ints false true a b = refl

-- each kind of holder in both branches
two_parts : (x y z x' y' z' : Bool) → (((x || y) || z) || ((x' || y') || z')) ≡ (((x || x') || (y || y')) || (z || z'))
two_parts x y z x' y' z' = four_or (x || y) z (x' || y') z' ∙ ap (λ b. b || (z || z')) (four_or x y x' y')

shared : (q a b : Bool) → ((q && a) || (q && b)) ≡ (q && (a || b))
shared true a b = refl
shared false a b = refl

twice : (r x y : Bool) → ((r || x) || (r || y)) ≡ (r || (x || y))
twice true x y = refl
twice false x y = refl

two_arrays : (r q a b d m n c u v : Bool) → ((r || (((q && a) || (d && m)) || (c && u))) || (r || (((q && b) || (d && n)) || (c && v))))
    ≡ (r || (((q && (a || b)) || (d && (m || n))) || (c && (u || v))))
two_arrays r q a b d m n c u v =
    twice r (((q && a) || (d && m)) || (c && u)) (((q && b) || (d && n)) || (c && v))
    ∙ ap (λ x. r || x) (two_parts (q && a) (d && m) (c && u) (q && b) (d && n) (c && v))
    ∙ ap (λ x. r || ((x || ((d && m) || (d && n))) || ((c && u) || (c && v)))) (shared q a b)
    ∙ ap (λ x. r || (((q && (a || b)) || x) || ((c && u) || (c && v)))) (shared d m n)
    ∙ ap (λ x. r || (((q && (a || b)) || (d && (m || n))) || x)) (shared c u v)

pub holds_either : (locals : Locals) (depth : ℕ) (outside : (Holder → Bool) → Row) (s t : Taken) (a b : Restrictions) (u v : Slots) →
    Holds locals depth outside s a u → Holds locals depth outside t b v → Holds locals depth outside (s ++ t) (either_restrictions a b) (either u v)
holds_either locals depth outside s t a b u v f g p =
    shows_as locals (λ z. held p s z || held p t z) (held p (s ++ t)) _ (λ z. held_append p s t z)
    (shows_row locals (λ z. held p s z || held p t z) (either_row (all_of p depth outside a u) (all_of p depth outside b v)) (all_of p depth outside (either_restrictions a b) (either u v))
    (same_rows (either_row (all_of p depth outside a u) (all_of p depth outside b v)) (all_of p depth outside (either_restrictions a b) (either u v))
    (λ k. two_ints ((outside p).ints k) (p (SpawnIn depth)) (a.ints k) (b.ints k))
    (λ k. two_arrays ((outside p).arrays k) (p (SpawnIn depth)) (a.arrays k) (b.arrays k) (p (ReaderIn depth)) (a.frozen k) (b.frozen k) (p CutOf) (u k) (v k)))
    (shows_either locals (held p s) (held p t) (all_of p depth outside a u) (all_of p depth outside b v) (f p) (g p)))

other_depth : (d : ℕ) → (d == d + 1) ≡ false
other_depth d = grind (arith, nat_tests)

freed_ints : (r q a : Bool) (n : Bool) → n ≡ true → (r || ((q && not n) && a)) ≡ (r || (q && false))
freed_ints r q a n e = ap (λ m. r || ((q && not m) && a)) e ∙ by q
  where
    by : (q : Bool) → (r || ((q && false) && a)) ≡ (r || (q && false))
    by true = refl
    by false = refl

off : (q a : Bool) → ((q && false) && a) ≡ (q && false)
off true a = refl
off false a = refl

freed_arrays : (r q a d m c u : Bool) (n : Bool) → n ≡ true → (r || ((((q && not n) && a) || ((d && not n) && m)) || ((c && true) && u))) ≡ (r || (((q && false) || (d && false)) || (c && u)))
freed_arrays r q a d m c u n e =
    ap (λ n. r || ((((q && not n) && a) || ((d && not n) && m)) || ((c && true) && u))) e
    ∙ ap (λ x. r || ((x || ((d && false) && m)) || ((c && true) && u))) (off q a)
    ∙ ap (λ x. r || (((q && false) || x) || ((c && true) && u))) (off d m)
    ∙ ap (λ x. r || (((q && false) || (d && false)) || (x && u))) (and-true c)

-- a join frees what the spawns of its sync block hold
pub holds_freed : (locals : Locals) (depth : ℕ) (outside : (Holder → Bool) → Row) (taken : Taken) (here : Restrictions) (cuts : Slots) → Steady depth outside →
    Holds locals depth outside taken here cuts → Holds locals depth outside (freed depth taken) no_restrictions cuts
holds_freed locals depth outside taken here cuts steady h p =
    let left = but_spawn depth p in
    let same = steady.spawns depth (omega arith) p in
    shows_as locals (held left taken) (held p (freed depth taken)) _ (λ z. held_freed depth p taken z)
    (shows_row locals (held left taken) (all_of left depth outside here cuts) (all_of p depth outside no_restrictions cuts)
    (same_rows (all_of left depth outside here cuts) (all_of p depth outside no_restrictions cuts)
    (λ k. ap (λ (r : Row). r.ints k || ((p (SpawnIn depth) && not (depth == depth)) && here.ints k)) same
    ∙ freed_ints ((outside p).ints k) (p (SpawnIn depth)) (here.ints k) (depth == depth) (equal depth depth refl))
    (λ k. ap (λ (r : Row). r.arrays k || ((((p (SpawnIn depth) && not (depth == depth)) && here.arrays k)
    || ((p (ReaderIn depth) && not (depth == depth)) && here.frozen k)) || ((p CutOf && true) && cuts k))) same
    ∙ freed_arrays ((outside p).arrays k) (p (SpawnIn depth)) (here.arrays k) (p (ReaderIn depth)) (here.frozen k) (p CutOf) (cuts k) (depth == depth) (equal depth depth refl)))
    (h left))

-- the locals held from outside at the start of a sync block
abbrev pub entered : ((Holder → Bool) → Row) → ℕ → Restrictions → (Holder → Bool) → Row
entered outside depth here p = record {
  ints = λ k. (outside p).ints k || (p (SpawnIn depth) && here.ints k);
  arrays = λ k. (outside p).arrays k || spun p depth here k;
}

apart_depth : (d e : ℕ) → d + 1 ≤ e → (d == e) ≡ false
apart_depth d e le = grind (arith, nat_tests)

pub steady_inside : (depth : ℕ) (outside : (Holder → Bool) → Row) (here : Restrictions) → Steady depth outside → Steady (depth + 1) (entered outside depth here)
steady_inside depth outside here s = record {
  spawns = λ d le p.
      let same = s.spawns d (omega (arith, le)) p in
      let q : (p (SpawnIn depth) && not (depth == d)) ≡ p (SpawnIn depth) = ap (λ b. p (SpawnIn depth) && not b) (apart_depth depth d le) ∙ and-true (p (SpawnIn depth)) in
      let w : (p (ReaderIn depth) && not (depth == d)) ≡ p (ReaderIn depth) = ap (λ b. p (ReaderIn depth) && not b) (apart_depth depth d le) ∙ and-true (p (ReaderIn depth)) in
      same_rows (entered outside depth here (but_spawn d p)) (entered outside depth here p)
      (λ k. ap (λ (r : Row). r.ints k || ((p (SpawnIn depth) && not (depth == d)) && here.ints k)) same ∙ ap (λ b. (outside p).ints k || (b && here.ints k)) q)
      (λ k. ap (λ (r : Row). r.arrays k || (((p (SpawnIn depth) && not (depth == d)) && here.arrays k) || ((p (ReaderIn depth) && not (depth == d)) && here.frozen k))) same
      ∙ ap (λ b. (outside p).arrays k || ((b && here.arrays k) || ((p (ReaderIn depth) && not (depth == d)) && here.frozen k))) q
      ∙ ap (λ b. (outside p).arrays k || ((p (SpawnIn depth) && here.arrays k) || (b && here.frozen k))) w);
  cuts = λ p.
      let same = s.cuts p in
      same_rows (entered outside depth here (but_cut p)) (entered outside depth here p)
      (λ k. ap (λ (r : Row). r.ints k || ((p (SpawnIn depth) && true) && here.ints k)) same ∙ ap (λ b. (outside p).ints k || (b && here.ints k)) (and-true (p (SpawnIn depth))))
      (λ k. ap (λ (r : Row). r.arrays k || (((p (SpawnIn depth) && true) && here.arrays k) || ((p (ReaderIn depth) && true) && here.frozen k))) same
      ∙ ap (λ b. (outside p).arrays k || ((b && here.arrays k) || ((p (ReaderIn depth) && true) && here.frozen k))) (and-true (p (SpawnIn depth)))
      ∙ ap (λ b. (outside p).arrays k || ((p (SpawnIn depth) && here.arrays k) || (b && here.frozen k))) (and-true (p (ReaderIn depth))));
}

entered_ints : (r q a n : Bool) → (r || (q && a)) ≡ ((r || (q && a)) || (n && false))
entered_ints r q a n = sym (ap (λ b. (r || (q && a)) || b) (and-false n) ∙ or-false (r || (q && a)))

entered_arrays : (r x n m c : Bool) → (r || (x || c)) ≡ ((r || x) || (((n && false) || (m && false)) || c))
entered_arrays r x n m c =
    sym (or_assoc r x c) ∙ ap (λ b. (r || x) || (b || c)) (sym (ap (λ a. a || (m && false)) (and-false n) ∙ and-false m))

-- the start of a sync block
pub holds_inside : (locals : Locals) (depth : ℕ) (outside : (Holder → Bool) → Row) (taken : Taken) (here : Restrictions) (cuts : Slots) →
    Holds locals depth outside taken here cuts → Holds locals (depth + 1) (entered outside depth here) taken no_restrictions cuts
holds_inside locals depth outside taken here cuts h p =
    shows_row locals (held p taken) (all_of p depth outside here cuts) (all_of p (depth + 1) (entered outside depth here) no_restrictions cuts)
    (same_rows (all_of p depth outside here cuts) (all_of p (depth + 1) (entered outside depth here) no_restrictions cuts)
    (λ k. entered_ints ((outside p).ints k) (p (SpawnIn depth)) (here.ints k) (p (SpawnIn (depth + 1))))
    (λ k. entered_arrays ((outside p).arrays k) (spun p depth here k) (p (SpawnIn (depth + 1))) (p (ReaderIn (depth + 1))) (p CutOf && cuts k)))
    (h p)

-- the end of a sync block
left_ints : (r q a m b n : Bool) → n ≡ true → ((r || ((q && true) && a)) || ((m && not n) && b)) ≡ (r || (q && a))
left_ints r q a m b n e =
    ap (λ n. (r || ((q && true) && a)) || ((m && not n) && b)) e
    ∙ ap (λ x. (r || (x && a)) || ((m && false) && b)) (and-true q)
    ∙ ap (λ x. (r || (q && a)) || x) (off m b ∙ and-false m)
    ∙ or-false (r || (q && a))

left_arrays : (r x m b d f c u n : Bool) → n ≡ true → ((r || x) || ((((m && not n) && b) || ((d && not n) && f)) || ((c && true) && u))) ≡ (r || (x || (c && u)))
left_arrays r x m b d f c u n e =
    ap (λ n. (r || x) || ((((m && not n) && b) || ((d && not n) && f)) || ((c && true) && u))) e
    ∙ ap (λ y. (r || x) || ((y || ((d && false) && f)) || ((c && true) && u))) (off m b ∙ and-false m)
    ∙ ap (λ y. (r || x) || (y || ((c && true) && u))) (off d f ∙ and-false d)
    ∙ ap (λ y. (r || x) || (y && u)) (and-true c)
    ∙ or_assoc r x (c && u)

pub holds_left : (locals : Locals) (depth : ℕ) (outside : (Holder → Bool) → Row) (here : Restrictions) (taken : Taken) (inner : Restrictions) (cuts : Slots) → Steady depth outside →
    Holds locals (depth + 1) (entered outside depth here) taken inner cuts → Holds locals depth outside (freed (depth + 1) taken) here cuts
holds_left locals depth outside here taken inner cuts steady h p =
    let left = but_spawn (depth + 1) p in
    let same = steady.spawns (depth + 1) (omega arith) p in
    let other : (p (SpawnIn depth) && not (depth == depth + 1)) ≡ (p (SpawnIn depth) && true) = ap (λ b. p (SpawnIn depth) && not b) (other_depth depth) in
    let spawn : (p (SpawnIn depth) && not (depth == depth + 1)) ≡ p (SpawnIn depth) = other ∙ and-true (p (SpawnIn depth)) in
    let reader : (p (ReaderIn depth) && not (depth == depth + 1)) ≡ p (ReaderIn depth) = ap (λ b. p (ReaderIn depth) && not b) (other_depth depth) ∙ and-true (p (ReaderIn depth)) in
    shows_as locals (held left taken) (held p (freed (depth + 1) taken)) _ (λ z. held_freed (depth + 1) p taken z)
    (shows_row locals (held left taken) (all_of left (depth + 1) (entered outside depth here) inner cuts) (all_of p depth outside here cuts)
    (same_rows (all_of left (depth + 1) (entered outside depth here) inner cuts) (all_of p depth outside here cuts)
    (λ k.
    ap (λ (r : Row). (r.ints k || ((p (SpawnIn depth) && not (depth == depth + 1)) && here.ints k)) || ((p (SpawnIn (depth + 1)) && not (depth + 1 == depth + 1)) && inner.ints k)) same
    ∙ ap (λ b. ((outside p).ints k || (b && here.ints k)) || ((p (SpawnIn (depth + 1)) && not (depth + 1 == depth + 1)) && inner.ints k)) other
    ∙ left_ints ((outside p).ints k) (p (SpawnIn depth)) (here.ints k) (p (SpawnIn (depth + 1))) (inner.ints k) (depth + 1 == depth + 1) (equal (depth + 1) (depth + 1) refl))
    (λ k.
    let rest = (((p (SpawnIn (depth + 1)) && not (depth + 1 == depth + 1)) && inner.arrays k)
    || ((p (ReaderIn (depth + 1)) && not (depth + 1 == depth + 1)) && inner.frozen k)) || ((p CutOf && true) && cuts k) in
    ap (λ (r : Row). (r.arrays k || (((p (SpawnIn depth) && not (depth == depth + 1)) && here.arrays k) || ((p (ReaderIn depth) && not (depth == depth + 1)) && here.frozen k))) || rest) same
    ∙ ap (λ b. ((outside p).arrays k || ((b && here.arrays k) || ((p (ReaderIn depth) && not (depth == depth + 1)) && here.frozen k))) || rest) spawn
    ∙ ap (λ b. ((outside p).arrays k || ((p (SpawnIn depth) && here.arrays k) || (b && here.frozen k))) || rest) reader
    ∙ left_arrays ((outside p).arrays k) (spun p depth here k) (p (SpawnIn (depth + 1))) (inner.arrays k) (p (ReaderIn (depth + 1))) (inner.frozen k)
    (p CutOf) (cuts k) (depth + 1 == depth + 1) (equal (depth + 1) (depth + 1) refl)))
    (h left))

-- the agreement holds after a name is added to the known locals
pub holds_push_int : (locals : Locals) (depth : ℕ) (outside : (Holder → Bool) → Row) (taken : Taken) (here : Restrictions) (cuts : Slots) (y : Name) →
    Holds locals depth outside taken here cuts → Holds (spec.with_int y locals) depth outside taken here cuts
holds_push_int locals depth outside taken here cuts y h p = shows_push_int locals y (held p taken) (all_of p depth outside here cuts) (h p)

pub holds_push_array : (locals : Locals) (depth : ℕ) (outside : (Holder → Bool) → Row) (taken : Taken) (here : Restrictions) (cuts : Slots) (y : Name) →
    Holds locals depth outside taken here cuts → Holds (spec.with_array y locals) depth outside taken here cuts
holds_push_array locals depth outside taken here cuts y h p = shows_push_array locals y (held p taken) (all_of p depth outside here cuts) (h p)

put_last : (c r h a u : Bool) → c ≡ true → (a || (r || (h || (c && u)))) ≡ (r || (h || (c && (a || u))))
put_last true true h true u e = refl
put_last true true h false u e = refl
put_last true false true true u e = refl
put_last true false true false u e = refl
put_last true false false a u e = refl
put_last false r h a u e = cc

put_off_last : (c r h u v : Bool) → c ≡ false → (r || (h || (c && u))) ≡ (r || (h || (c && v)))
put_off_last true r h u v e = cc
put_off_last false r h u v e = refl

-- a cut takes its array
pub holds_cut : (locals : Locals) (depth : ℕ) (outside : (Holder → Bool) → Row) (taken : Taken) (here : Restrictions) (cuts : Slots) (a : Name) →
    is_among a locals.arrays ≡ true → Holds locals depth outside taken here cuts →
    Holds locals depth outside ((a, CutOf) ∷ taken) here (with_slot (slot_of a locals.arrays) cuts)
holds_cut locals depth outside taken here cuts a there h p = by (p CutOf) refl
  where
    by : (q : Bool) → p CutOf ≡ q → Shows locals (held p ((a, CutOf) ∷ taken)) (all_of p depth outside here (with_slot (slot_of a locals.arrays) cuts))
    by true e =
        shows_as locals (λ z. same_name z a || held p taken z) (held p ((a, CutOf) ∷ taken)) _
        (λ z. by_spawn (same_name z a) (p CutOf) (held p taken z) e)
        (shows_row locals (λ z. same_name z a || held p taken z) (with_array (slot_of a locals.arrays) (all_of p depth outside here cuts))
        (all_of p depth outside here (with_slot (slot_of a locals.arrays) cuts))
        (same_rows (with_array (slot_of a locals.arrays) (all_of p depth outside here cuts)) (all_of p depth outside here (with_slot (slot_of a locals.arrays) cuts))
        (λ k. refl) (λ k. put_last (p CutOf) ((outside p).arrays k) (spun p depth here k) (k == slot_of a locals.arrays) (cuts k) e))
        (shows_array locals a (held p taken) (all_of p depth outside here cuts) there (h p)))
    by false e =
        shows_as locals (held p taken) (held p ((a, CutOf) ∷ taken)) _
        (λ z. by_none (same_name z a) (p CutOf) (held p taken z) e)
        (shows_row locals (held p taken) (all_of p depth outside here cuts) (all_of p depth outside here (with_slot (slot_of a locals.arrays) cuts))
        (same_rows (all_of p depth outside here cuts) (all_of p depth outside here (with_slot (slot_of a locals.arrays) cuts))
        (λ k. refl) (λ k. put_off_last (p CutOf) ((outside p).arrays k) (spun p depth here k) (cuts k) ((k == slot_of a locals.arrays) || cuts k) e))
        (h p))

fewer : (r x c n u : Bool) → (r || (x || (c && u))) ≡ false → (r || (x || (c && (n && u)))) ≡ false
fewer true x c n u h = cc
fewer false true c n u h = cc
fewer false false true true u h = h
fewer false false true false u h = refl
fewer false false false n u h = refl

freed_cut : (r x c u : Bool) (n : Bool) → n ≡ true → (r || (x || ((c && false) && u))) ≡ (r || (x || (c && (not n && u))))
freed_cut r x c u n e = ap (λ y. r || (x || y)) (by c) ∙ sym (ap (λ n. r || (x || (c && (not n && u)))) e)
  where
    by : (c : Bool) → ((c && false) && u) ≡ (c && (false && u))
    by true = refl
    by false = refl

-- the end of a cut frees its array
pub holds_uncut : (locals : Locals) (depth : ℕ) (outside : (Holder → Bool) → Row) (taken : Taken) (here : Restrictions) (cuts : Slots) (a : Name) → Steady depth outside →
    is_among a locals.arrays ≡ true → Holds locals depth outside taken here cuts →
    Holds locals depth outside (cut_ended a taken) here (without_slot (slot_of a locals.arrays) cuts)
holds_uncut locals depth outside taken here cuts a steady there h p = record {
  same = λ x. held_uncut a p taken x ∙ by x (same_name a x) refl;
  ints_end = (h p).ints_end;
  arrays_end = λ k le. fewer ((outside p).arrays k) (spun p depth here k) (p CutOf) (not (k == slot_of a locals.arrays)) (cuts k) ((h p).arrays_end k le);
}
  where
    by : (x : Name) (b : Bool) → same_name a x ≡ b → held (uncut_test a p x) taken x
        ≡ ((all_of p depth outside here (without_slot (slot_of a locals.arrays) cuts)).ints (slot_of x locals.ints)
        || (all_of p depth outside here (without_slot (slot_of a locals.arrays) cuts)).arrays (slot_of x locals.arrays))
    by x true e =
        let one : (slot_of x locals.arrays == slot_of a locals.arrays) ≡ true = one_slot x a locals.arrays there ∙ turned x a ∙ e in
        let same = steady.cuts p in
        let i = slot_of x locals.ints in
        let k = slot_of x locals.arrays in
        held_same (uncut_test a p x) (but_cut p) taken x (λ g. ap (λ b. p g && not (b && is_cut g)) e)
        ∙ (h (but_cut p)).same x
        ∙ ap (λ (r : Row). (r.ints i || ((p (SpawnIn depth) && true) && here.ints i))
        || (r.arrays k || ((((p (SpawnIn depth) && true) && here.arrays k) || ((p (ReaderIn depth) && true) && here.frozen k)) || ((p CutOf && false) && cuts k)))) same
        ∙ ap (λ b. ((outside p).ints i || (b && here.ints i))
        || ((outside p).arrays k || (((b && here.arrays k) || ((p (ReaderIn depth) && true) && here.frozen k)) || ((p CutOf && false) && cuts k)))) (and-true (p (SpawnIn depth)))
        ∙ ap (λ b. ((outside p).ints i || (p (SpawnIn depth) && here.ints i))
        || ((outside p).arrays k || (((p (SpawnIn depth) && here.arrays k) || (b && here.frozen k)) || ((p CutOf && false) && cuts k)))) (and-true (p (ReaderIn depth)))
        ∙ ap (λ b. ((outside p).ints i || (p (SpawnIn depth) && here.ints i)) || b)
        (freed_cut ((outside p).arrays k) (spun p depth here k) (p CutOf) (cuts k) (k == slot_of a locals.arrays) one)
    by x false e =
        let one : (slot_of x locals.arrays == slot_of a locals.arrays) ≡ false = one_slot x a locals.arrays there ∙ turned x a ∙ e in
        held_same (uncut_test a p x) p taken x (λ g. ap (λ b. p g && not (b && is_cut g)) e ∙ and-true (p g))
        ∙ (h p).same x
        ∙ ap (λ b. ((outside p).ints (slot_of x locals.ints) || (p (SpawnIn depth) && here.ints (slot_of x locals.ints)))
        || ((outside p).arrays (slot_of x locals.arrays) || (spun p depth here (slot_of x locals.arrays) || (p CutOf && (not b && cuts (slot_of x locals.arrays)))))) (sym one)
