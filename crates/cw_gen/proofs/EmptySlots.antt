-- Rows: the slots that may be empty if certain names are held.
use Rattle.std.proofs.Common.{◌≡◌, ◌≢◌, ℕ, zero, suc, ◌+◌, ◌<◌, ◌≤◌, Option, Some, None, not, length-append, List, [], ◌∷◌, ◌++◌, length}
use Rattle.std.proofs.Common.{Bool, true, false, ◌&&◌, if◌then◌else◌, refl, sym, ap, ◌∙◌, subst, arith, true≢false}
use Rattle.std.specs.Prelude.{slice_get, slice_set, nat_eq}
use Rattle.std.proofs.lemmas.List.{append-nil}
use Rattle.std.proofs.lemmas.Slice.Eq.{bytes_eq-Decides}
use Rattle.cw_facts.specs.Tests.{both_true, not_equal}
use Rattle.cw_model.specs.Syntax.{Name}
use Rattle.cw_model.specs.Names.{same_name, is_among}
use Rattle.cw_model.specs.Ownership.{CutOf, Taken, is_taken, is_held}
use Rattle.cw_tree.specs.Resolved.{Locals, slot_of, with_int, with_array}
use Rattle.cw_tree.specs.lemmas.NamedSlots.{slot_stays, slot_in}
use Rattle.cw_tree.specs.lemmas.Names.{later_among}
use Rattle.cw_code.specs.declared.code.Halves.{Halves}
use Rattle.cw_code.specs.Fits.{Row, Outer, Shape, empty_rows, gone_rows, is_full_in, full_in_all, has_slot, has_array, frozen_rows, is_no_part, none_empty, Covers, CoversEach}
use Rattle.cw_loops.specs.lemmas.Naming.{among_left}
use Rattle.cw_code.specs.lemmas.Slots.{covers_itself, covers_after, covers_set, each_covers_itself, each_covers_after}
use Rattle.cw_gen.specs.Emit.{halves_of}
use Rattle.cw_gen.proofs.Takens.{holds, not_held}
use Rattle.cw_gen.proofs.Fine.{IsUsable, IsWritable, Room}
use Rattle.cw_gen.specs.Marks.{Marks, array_at}
use Rattle.cw_gen.proofs.Marked.{owned, IsOwn, get_owned, at_apart, own_behind}
use Rattle.cw_gen.proofs.MarkedCuts.{cut_numbers}
use Rattle.cw_gen.proofs.Frozen.{frozen_of, loose_thawed}
use Rattle.cw_gen.proofs.FreeMembers.{In, in_taken}
use Rattle.cw_gen.proofs.Names.{get-other, slots_apart}
use Rattle.cw_gen.proofs.Scopes.{extended, same_locals}

-- for each of `n` slots, whether a spawn of the sync block at this depth holds the name of the slot
abbrev pub row : ℕ → (depth : ℕ) → List Name → Taken → Row
row zero depth names taken = []
row (suc n) depth [] taken = false ∷ row n depth [] taken
row (suc n) depth (x ∷ names) taken = holds false depth x taken ∷ row n depth names taken

pub length-row : (n depth : ℕ) (names : List Name) (taken : Taken) → length (row n depth names taken) ≡ n
length-row zero depth names taken = refl
length-row (suc n) depth [] taken = ap suc (length-row n depth [] taken)
length-row (suc n) depth (x ∷ names) taken = ap suc (length-row n depth names taken)

-- the element of the row for a name
row_at : (n depth : ℕ) (names : List Name) (taken : Taken) (x : Name) → length names ≤ n → is_among x names ≡ true
    → slice_get (row n depth names taken) (slot_of x names) ≡ Some (holds false depth x taken)
row_at n depth [] taken x le h = cc
row_at zero depth (y ∷ names) taken x le h = absurd (omega (arith, le))
row_at (suc n) depth (y ∷ names) taken x le h = test (row_at n depth names taken x (omega (arith, le))) (same_name x y) refl h
  where
    test : (is_among x names ≡ true → slice_get (row n depth names taken) (slot_of x names) ≡ Some (holds false depth x taken)) → (b : Bool)
        → same_name x y ≡ b → (if b then true else is_among x names) ≡ true →
        slice_get (holds false depth y taken ∷ row n depth names taken) (if b then 0 else suc (slot_of x names)) ≡ Some (holds false depth x taken)
    test more true e h' = ap (λ z. Some (holds false depth z taken)) (sym ((bytes_eq-Decides x y).0 e))
    test more false e h' = more h'

-- no slot after the slots of the names is empty
row_past : (n depth : ℕ) (names : List Name) (taken : Taken) (a : ℕ) → length names ≤ a → a < n → slice_get (row n depth names taken) a ≡ Some false
row_past zero depth names taken a le below = absurd (omega (arith, below))
row_past (suc n) depth [] taken zero le below = refl
row_past (suc n) depth [] taken (suc a) le below = row_past n depth [] taken a (omega arith) (omega (arith, below))
row_past (suc n) depth (x ∷ names) taken zero le below = absurd (omega (arith, le))
row_past (suc n) depth (x ∷ names) taken (suc a) le below = row_past n depth names taken a (omega (arith, le)) (omega (arith, below))

-- the slot of a free name is full
pub row_free : (size depth : ℕ) (names : List Name) (taken : Taken) (x : Name) → length names ≤ size → IsUsable names taken x
    → is_full_in (slice_get (row size depth names taken) (slot_of x names)) ≡ true
row_free size depth names taken x le u =
    ap is_full_in (row_at size depth names taken x le u.declared)
    ∙ ap (λ b. is_full_in (Some b)) (not_held false depth x taken u.free)

-- a slot after the slots of the names is full
pub row_behind : (size depth : ℕ) (names : List Name) (taken : Taken) (a : ℕ) → length names ≤ a → a < size → is_full_in (slice_get (row size depth names taken) a) ≡ true
row_behind size depth names taken a le below = ap is_full_in (row_past size depth names taken a le below)

-- every row covers a row without empty slots
pub covers_none : (r : Row) (n : ℕ) → length r ≡ n → Covers r (none_empty n)
covers_none [] zero e = tt
covers_none [] (suc n) e = absurd (omega (arith, e))
covers_none (b ∷ r) zero e = absurd (omega (arith, e))
covers_none (b ∷ r) (suc n) e = (λ h. refl, covers_none r n (omega (arith, e)))

-- a row covers the row with more names, if more is held and none of the other names is held
pub covers_held : (n depth : ℕ) (names more : List Name) (taken taken' : Taken)
    → ((x : Name) → is_among x names ≡ true → holds false depth x taken ≡ true → holds false depth x taken' ≡ true)
    → ((x : Name) → is_among x more ≡ true → holds false depth x taken ≡ false) →
    Covers (row n depth names taken') (row n depth (names ++ more) taken)
covers_held zero depth names more taken taken' h k = tt
covers_held (suc n) depth [] [] taken taken' h k = (λ e. refl, covers_held n depth [] [] taken taken' h k)
covers_held (suc n) depth [] (y ∷ more) taken taken' h k = (
  λ e. k y (ap (λ b. if b then true else is_among y more) ((bytes_eq-Decides y y).1 refl)),
  covers_held n depth [] more taken taken' (λ x a. cc) (λ x a. k x (later_among x y more a)),
)
covers_held (suc n) depth (y ∷ names) more taken taken' h k = (λ e. back (holds false depth y taken) refl e, covers_held n depth names more taken taken' (λ x a. h x (later_among x y names a)) k)
  where
    back : (b : Bool) → holds false depth y taken ≡ b → holds false depth y taken' ≡ false → b ≡ false
    back true e e' = absurd (true≢false (sym (h y (ap (λ c. if c then true else is_among y names) ((bytes_eq-Decides y y).1 refl)) e) ∙ e'))
    back false e e' = refl

-- the row with a new name covers the row without it
pub covers_declared : (n depth : ℕ) (names : List Name) (x : Name) (taken : Taken) → Covers (row n depth (names ++ x ∷ []) taken) (row n depth names taken)
covers_declared zero depth names x taken = tt
covers_declared (suc n) depth [] x taken = (λ e. refl, covers_itself (row n depth [] taken))
covers_declared (suc n) depth (y ∷ names) x taken = (λ e. e, covers_declared n depth names x taken)

-- a row covers the row in which less is held
pub row_more : (n depth : ℕ) (names : List Name) (taken taken' : Taken)
    → ((x : Name) → holds false depth x taken ≡ true → holds false depth x taken' ≡ true) → Covers (row n depth names taken') (row n depth names taken)
row_more n depth names taken taken' h = subst (λ ns. Covers (row n depth names taken') (row n depth ns taken)) (append-nil names) (covers_held n depth names [] taken taken' (λ x a. h x) (λ x a. cc))

-- a row covers another one with a slot set that is empty in the first
covers_raise : (s r : Row) (i : ℕ) → slice_get s i ≡ Some true → Covers s r → Covers s (slice_set r i true)
covers_raise [] r i e h = cc
covers_raise (a ∷ s) [] i e h = absurd h
covers_raise (a ∷ s) (b ∷ r) zero e h = let is : a ≡ true = cc e in ((λ e'. absurd (true≢false (sym is ∙ e'))), h.1)
covers_raise (a ∷ s) (b ∷ r) (suc i) e h = (h.0, covers_raise s r i e h.1)

-- the slot of a held name may be empty
pub covers_name : (n depth : ℕ) (names : List Name) (x : Name) (r : Row) (taken : Taken) → length names ≤ n → Covers (row n depth names taken) r
    → holds false depth x taken ≡ true → is_among x names ≡ true → Covers (row n depth names taken) (slice_set r (slot_of x names) true)
covers_name n depth names x r taken le h held declared = covers_raise (row n depth names taken) r (slot_of x names) (row_at n depth names taken x le declared ∙ ap (λ b. Some b) held) h

-- the slot of a name that is not held is full
pub row_of : (n depth : ℕ) (names : List Name) (taken : Taken) (x : Name) → slot_of x names < n → is_among x names ≡ true
    → holds false depth x taken ≡ false → is_full_in (slice_get (row n depth names taken) (slot_of x names)) ≡ true
row_of n depth [] taken x below h free = cc
row_of zero depth (y ∷ names) taken x below h free = absurd (omega (arith, below))
row_of (suc n) depth (y ∷ names) taken x below h free = test (row_of n depth names taken x) (same_name x y) refl below h
  where
    test : (slot_of x names < n → is_among x names ≡ true → holds false depth x taken ≡ false
        → is_full_in (slice_get (row n depth names taken) (slot_of x names)) ≡ true) → (b : Bool) → same_name x y ≡ b
        → (if b then 0 else suc (slot_of x names)) < suc n → (if b then true else is_among x names) ≡ true →
        is_full_in (slice_get (holds false depth y taken ∷ row n depth names taken) (if b then 0 else suc (slot_of x names))) ≡ true
    test more true e below' h' = ap (λ z. is_full_in (Some (holds false depth z taken))) (sym ((bytes_eq-Decides x y).0 e)) ∙ ap (λ b. is_full_in (Some b)) free
    test more false e below' h' = more (omega (arith, below')) h' free

-- a row covers another one with a slot cleared
pub covers_lower : (r s : Row) (i : ℕ) → Covers r s → Covers r (slice_set s i false)
covers_lower [] [] zero h = tt
covers_lower [] [] (suc i) h = tt
covers_lower [] (b ∷ s) i h = absurd h
covers_lower (a ∷ r) [] i h = absurd h
covers_lower (a ∷ r) (b ∷ s) zero h = (λ e. refl, h.1)
covers_lower (a ∷ r) (b ∷ s) (suc i) h = (h.0, covers_lower r s i h.1)

-- the row around a cut
abbrev pub with_cut : Option Halves → Row → Row
with_cut None r = r
with_cut (Some h) r = slice_set r h.array true

pub covers_cut : (c : Option Halves) (r s : Row) → Covers r s → Covers (with_cut c r) (with_cut c s)
covers_cut None r s h = h
covers_cut (Some h') r s h = covers_set r s h'.array h

-- the open sync blocks of a call around the innermost one, each with the cut that began its inner block
abbrev pub Opened : Type 0
Opened = List (Option Halves)

abbrev pub depth_in : Opened → ℕ
depth_in opened = suc (length opened)

-- the row of arrays with the numbers of the code, without the slots that are only read
abbrev pub array_row : Room → (depth : ℕ) → List Name → Taken → Row
array_row size depth names taken = owned size.marks (row size.arrays depth names taken)

-- a cut with the numbers of the code
abbrev pub told_cut : Marks → Option Halves → Option Halves
told_cut marks None = None
told_cut marks (Some h) = Some (cut_numbers marks h)

-- the rows of these sync blocks
abbrev pub outers : Room → Opened → Locals → Taken → List Outer
outers size [] locals taken = []
outers size (c ∷ opened) locals taken =
    record {
      empty = row size.ints (depth_in opened) locals.ints taken;
      gone = with_cut (told_cut size.marks c) (array_row size (depth_in opened) locals.arrays taken);
      frozen = array_row size (depth_in opened) locals.arrays (frozen_of taken);
      cut = told_cut size.marks c;
    } ∷ outers size opened locals taken

-- the shape at a place in these sync blocks, if these names are known and held
abbrev pub shape_at : Room → Opened → Locals → Taken → (operands : ℕ) → Shape
shape_at size opened locals taken n = record {
  operands = n;
  empty = row size.ints (depth_in opened) locals.ints taken;
  gone = array_row size (depth_in opened) locals.arrays taken;
  frozen = array_row size (depth_in opened) locals.arrays (frozen_of taken);
  outer = outers size opened locals taken;
}

-- removing slots keeps the covering of rows
pub covers_owned : (marks : Marks) (r s : Row) → Covers r s → Covers (owned marks r) (owned marks s)
covers_owned [] r s h = h
covers_owned (m ∷ marks) [] [] h = tt
covers_owned (m ∷ marks) [] (b ∷ s) h = absurd h
covers_owned (m ∷ marks) (a ∷ r) [] h = absurd h
covers_owned (true ∷ marks) (a ∷ r) (b ∷ s) h = covers_owned marks r s h.1
covers_owned (false ∷ marks) (a ∷ r) (b ∷ s) h = (h.0, covers_owned marks r s h.1)

pub array_covers : (size : Room) (depth other : ℕ) (names names' : List Name) (taken taken' : Taken)
    → Covers (row size.arrays depth names taken) (row size.arrays other names' taken') → Covers (array_row size depth names taken) (array_row size other names' taken')
array_covers size depth other names names' taken taken' h = covers_owned size.marks (row size.arrays depth names taken) (row size.arrays other names' taken') h

-- removing slots keeps equal lengths
pub same_length_owned : (marks : Marks) (r s : Row) → length r ≡ length s → length (owned marks r) ≡ length (owned marks s)
same_length_owned [] r s h = h
same_length_owned (m ∷ marks) [] [] h = refl
same_length_owned (m ∷ marks) [] (b ∷ s) h = absurd (omega (arith, h))
same_length_owned (m ∷ marks) (a ∷ r) [] h = absurd (omega (arith, h))
same_length_owned (true ∷ marks) (a ∷ r) (b ∷ s) h = same_length_owned marks r s (omega (arith, h))
same_length_owned (false ∷ marks) (a ∷ r) (b ∷ s) h = ap suc (same_length_owned marks r s (omega (arith, h)))

pub length_array_row : (size : Room) (depth other : ℕ) (names names' : List Name) (taken taken' : Taken) → length (array_row size depth names taken) ≡ length (array_row size other names' taken')
length_array_row size depth other names names' taken taken' =
    same_length_owned size.marks (row size.arrays depth names taken) (row size.arrays other names' taken') (length-row size.arrays depth names taken ∙ sym (length-row size.arrays other names' taken'))

-- a shape that covers another one
abbrev pub Over : Shape → Shape → Type 0
Over many few = Covers many.empty few.empty × Covers many.gone few.gone × Covers many.frozen few.frozen × CoversEach many.outer few.outer

pub over_itself : (s : Shape) → Over s s
over_itself s = (covers_itself s.empty, covers_itself s.gone, covers_itself s.frozen, each_covers_itself s.outer)

pub over_after : (r s t : Shape) → Over r s → Over s t → Over r t
over_after r s t h k = (
  covers_after r.empty s.empty t.empty h.0 k.0,
  covers_after r.gone s.gone t.gone h.1 k.1,
  covers_after r.frozen s.frozen t.frozen h.2 k.2,
  each_covers_after r.outer s.outer t.outer h.3 k.3,
)

-- names held up to a depth stay held, and frozen arrays stay frozen
abbrev pub KeepsHeld : (taken taken' : Taken) → ℕ → Type 0
KeepsHeld taken taken' depth = (d : ℕ) (x : Name) → d ≤ depth → holds false d x taken ≡ true → holds false d x taken' ≡ true

-- none of these names is held up to a depth
abbrev pub NoneHeld : List Name → Taken → ℕ → Type 0
NoneHeld names taken depth = (d : ℕ) (x : Name) → d ≤ depth → is_among x names ≡ true → holds false d x taken ≡ false

-- the outer rows cover the outer rows with more names, if more is held and none of the other names is held
pub outers_held : (size : Room) (opened : Opened) (locals : Locals) (ints arrays : List Name) (taken taken' : Taken)
    → KeepsHeld taken taken' (length opened) → KeepsHeld (frozen_of taken) (frozen_of taken') (length opened) →
    NoneHeld ints taken (length opened) → NoneHeld arrays taken (length opened) → NoneHeld arrays (frozen_of taken) (length opened)
    → CoversEach (outers size opened locals taken') (outers size opened (extended locals ints arrays) taken)
outers_held size [] locals ints arrays taken taken' h f k m z = tt
outers_held size (c ∷ opened) locals ints arrays taken taken' h f k m z =
    let depth = depth_in opened in
    let all = locals.arrays ++ arrays in (
      covers_held size.ints depth locals.ints ints taken taken' (λ x a. h depth x (omega arith)) (λ x. k depth x (omega arith)),
      covers_cut (told_cut size.marks c) (array_row size depth locals.arrays taken') (array_row size depth all taken)
          (array_covers size depth depth locals.arrays all taken' taken (covers_held size.arrays depth locals.arrays arrays taken taken'
          (λ x a. h depth x (omega arith)) (λ x. m depth x (omega arith)))),
      array_covers size depth depth locals.arrays all (frozen_of taken') (frozen_of taken)
          (covers_held size.arrays depth locals.arrays arrays (frozen_of taken) (frozen_of taken') (λ x a. f depth x (omega arith)) (λ x. z depth x (omega arith))),
      refl,
      outers_held size opened locals ints arrays taken taken' (λ d x le. h d x (omega (arith, le))) (λ d x le. f d x (omega (arith, le)))
          (λ d x le. k d x (omega (arith, le))) (λ d x le. m d x (omega (arith, le))) (λ d x le. z d x (omega (arith, le))),
    )

pub outers_more : (size : Room) (opened : Opened) (locals : Locals) (taken taken' : Taken) → KeepsHeld taken taken' (length opened)
    → KeepsHeld (frozen_of taken) (frozen_of taken') (length opened) → CoversEach (outers size opened locals taken') (outers size opened locals taken)
outers_more size opened locals taken taken' h f =
    subst (λ ls. CoversEach (outers size opened locals taken') (outers size opened ls taken))
    (same_locals (locals.ints ++ []) locals.ints (locals.arrays ++ []) locals.arrays (append-nil locals.ints) (append-nil locals.arrays))
    (outers_held size opened locals [] [] taken taken' h f (λ d x le a. cc) (λ d x le a. cc) (λ d x le a. cc))

-- held names stay held, and frozen arrays stay frozen
abbrev pub Keeps : (taken taken' : Taken) → Type 0
Keeps taken taken' = (d : ℕ) (x : Name) → holds false d x taken ≡ true → holds false d x taken' ≡ true

pub over_more : (size : Room) (opened : Opened) (locals : Locals) (taken taken' : Taken) (n m : ℕ) → Keeps taken taken'
    → Keeps (frozen_of taken) (frozen_of taken') → Over (shape_at size opened locals taken' n) (shape_at size opened locals taken m)
over_more size opened locals taken taken' n m h f =
    let depth = depth_in opened in (
      row_more size.ints depth locals.ints taken taken' (h depth),
      array_covers size depth depth locals.arrays locals.arrays taken' taken (row_more size.arrays depth locals.arrays taken taken' (h depth)),
      array_covers size depth depth locals.arrays locals.arrays (frozen_of taken') (frozen_of taken) (row_more size.arrays depth locals.arrays (frozen_of taken) (frozen_of taken') (f depth)),
      outers_more size opened locals taken taken' (λ d x le. h d x) (λ d x le. f d x),
    )

-- the outer rows with a new name cover the outer rows without it
pub outers_int : (size : Room) (opened : Opened) (locals : Locals) (x : Name) (taken : Taken) → CoversEach (outers size opened (with_int x locals) taken) (outers size opened locals taken)
outers_int size [] locals x taken = tt
outers_int size (c ∷ opened) locals x taken = (
  covers_declared size.ints (depth_in opened) locals.ints x taken,
  covers_itself (with_cut (told_cut size.marks c) (array_row size (depth_in opened) locals.arrays taken)),
  covers_itself (array_row size (depth_in opened) locals.arrays (frozen_of taken)),
  refl,
  outers_int size opened locals x taken,
)

-- a row of arrays with a new array covers the row without it
pub array_declared : (size : Room) (depth : ℕ) (names : List Name) (x : Name) (taken : Taken) → Covers (array_row size depth (names ++ x ∷ []) taken) (array_row size depth names taken)
array_declared size depth names x taken = array_covers size depth depth (names ++ x ∷ []) names taken taken (covers_declared size.arrays depth names x taken)

pub outers_array : (size : Room) (opened : Opened) (locals : Locals) (x : Name) (taken : Taken) → CoversEach (outers size opened (with_array x locals) taken) (outers size opened locals taken)
outers_array size [] locals x taken = tt
outers_array size (c ∷ opened) locals x taken = (
  covers_itself (row size.ints (depth_in opened) locals.ints taken),
  covers_cut (told_cut size.marks c) (array_row size (depth_in opened) (locals.arrays ++ x ∷ []) taken)
      (array_row size (depth_in opened) locals.arrays taken) (array_declared size (depth_in opened) locals.arrays x taken),
  array_declared size (depth_in opened) locals.arrays x (frozen_of taken),
  refl,
  outers_array size opened locals x taken,
)

pub over_int : (size : Room) (opened : Opened) (locals : Locals) (x : Name) (taken : Taken) (n m : ℕ) → Over (shape_at size opened (with_int x locals) taken n) (shape_at size opened locals taken m)
over_int size opened locals x taken n m = (
  covers_declared size.ints (depth_in opened) locals.ints x taken,
  covers_itself (array_row size (depth_in opened) locals.arrays taken),
  covers_itself (array_row size (depth_in opened) locals.arrays (frozen_of taken)),
  outers_int size opened locals x taken,
)

pub over_array : (size : Room) (opened : Opened) (locals : Locals) (x : Name) (taken : Taken) (n m : ℕ)
    → Over (shape_at size opened (with_array x locals) taken n) (shape_at size opened locals taken m)
over_array size opened locals x taken n m = (
  covers_itself (row size.ints (depth_in opened) locals.ints taken),
  array_declared size (depth_in opened) locals.arrays x taken,
  array_declared size (depth_in opened) locals.arrays x (frozen_of taken),
  outers_array size opened locals x taken,
)

-- the slot of a held array may be empty, at its number
pub covers_array : (size : Room) (depth : ℕ) (names : List Name) (x : Name) (r : Row) (taken : Taken) → length names ≤ size.arrays
    → IsOwn size.marks (slot_of x names) → Covers (array_row size depth names taken) r → holds false depth x taken ≡ true → is_among x names ≡ true →
    Covers (array_row size depth names taken) (slice_set r (array_at size.marks (slot_of x names)) true)
covers_array size depth names x r taken le own h held declared =
    let s = slot_of x names in
    covers_raise (array_row size depth names taken) r (array_at size.marks s)
    (get_owned size.marks s (row size.arrays depth names taken) own ∙ row_at size.arrays depth names taken x le declared ∙ ap (λ b. Some b) held) h

-- the slots of a cut of an array, if these names are known
abbrev pub halves_at : Locals → (array : Name) → Halves
halves_at locals a = halves_of (slot_of a locals.arrays) (length locals.arrays) (suc (length locals.arrays))

-- an open cut: its array is a held name, its parts are known names, and none of them is only read
pub record CutAt (marks : Marks) (h : Halves) (locals : Locals) (taken : Taken) : Type 0 where
  pub name : Name
  pub declared : is_among name locals.arrays ≡ true
  pub slot : slot_of name locals.arrays ≡ h.array
  pub cut : In (name, CutOf) taken
  pub own : IsOwn marks h.array
  pub left : h.left < length locals.arrays
  pub right : h.right < length locals.arrays
  pub left_behind : length marks ≤ h.left
  pub right_behind : length marks ≤ h.right

abbrev pub CutsOpen : Marks → Opened → Locals → Taken → Type 0
CutsOpen marks [] locals taken = Unit {0}
CutsOpen marks (None ∷ opened) locals taken = CutsOpen marks opened locals taken
CutsOpen marks (Some h ∷ opened) locals taken = CutAt marks h locals taken × CutsOpen marks opened locals taken

pub cuts_kept : (marks : Marks) (opened : Opened) (locals locals' : Locals) (more : List Name) (taken taken' : Taken)
    → locals'.arrays ≡ locals.arrays ++ more → ((x : Name) → In (x, CutOf) taken → In (x, CutOf) taken') → CutsOpen marks opened locals taken
    → CutsOpen marks opened locals' taken'
cuts_kept marks [] locals locals' more taken taken' e keep h = tt
cuts_kept marks (None ∷ opened) locals locals' more taken taken' e keep h = cuts_kept marks opened locals locals' more taken taken' e keep h
cuts_kept marks (Some c ∷ opened) locals locals' more taken taken' e keep h =
    let n : length locals'.arrays ≡ length locals.arrays + length more = ap length e ∙ length-append locals.arrays more in (
      record {
        name = h.0.name;
        declared = ap (is_among h.0.name) e ∙ among_left h.0.name locals.arrays more h.0.declared;
        slot = ap (slot_of h.0.name) e ∙ slot_stays h.0.name locals.arrays more h.0.declared ∙ h.0.slot;
        cut = keep h.0.name h.0.cut;
        own = h.0.own;
        left = omega (arith, h.0.left, n);
        right = omega (arith, h.0.right, n);
        left_behind = h.0.left_behind;
        right_behind = h.0.right_behind;
      },
      cuts_kept marks opened locals locals' more taken taken' e keep h.1,
    )

-- the slot of a free name is full in all rows
pub slot_is_full : (size : Room) (opened : Opened) (locals : Locals) (taken : Taken) (x : Name) (n : ℕ) → length locals.ints ≤ size.ints
    → IsUsable locals.ints taken x → has_slot (shape_at size opened locals taken n) (slot_of x locals.ints) ≡ true
slot_is_full size opened locals taken x n le u = both_true (is_full_in
    (slice_get (row size.ints (depth_in opened) locals.ints taken) (slot_of x locals.ints)))
    (full_in_all (empty_rows (outers size opened locals taken)) (slot_of x locals.ints)) (row_free size.ints (depth_in opened) locals.ints taken x le u) (rest opened)
  where
    rest : (opened : Opened) → full_in_all (empty_rows (outers size opened locals taken)) (slot_of x locals.ints) ≡ true
    rest [] = refl
    rest (c ∷ opened) = both_true (is_full_in (slice_get (row size.ints (depth_in opened) locals.ints taken) (slot_of x locals.ints)))
        (full_in_all (empty_rows (outers size opened locals taken)) (slot_of x locals.ints))
        (row_free size.ints (depth_in opened) locals.ints taken x le u) (rest opened)

-- a slot after the slots of the names is full in all rows
pub next_is_full : (size : Room) (opened : Opened) (locals : Locals) (taken : Taken) (a n : ℕ) → length locals.ints ≤ a → a < size.ints → has_slot (shape_at size opened locals taken n) a ≡ true
next_is_full size opened locals taken a n le below = both_true (is_full_in (slice_get (row size.ints (depth_in opened) locals.ints taken) a))
    (full_in_all (empty_rows (outers size opened locals taken)) a) (row_behind size.ints (depth_in opened) locals.ints taken a le below) (rest opened)
  where
    rest : (opened : Opened) → full_in_all (empty_rows (outers size opened locals taken)) a ≡ true
    rest [] = refl
    rest (c ∷ opened) = both_true (is_full_in (slice_get (row size.ints (depth_in opened) locals.ints taken) a))
        (full_in_all (empty_rows (outers size opened locals taken)) a) (row_behind size.ints (depth_in opened) locals.ints taken a le below) (rest opened)

-- no open cut has this slot
abbrev pub NotCut : ℕ → Opened → Type 0
NotCut i [] = Unit {0}
NotCut i (None ∷ opened) = NotCut i opened
NotCut i (Some h ∷ opened) = (i ≢ h.array) × NotCut i opened

pub not_cut : (marks : Marks) (opened : Opened) (locals : Locals) (taken : Taken) (x : Name) → IsUsable locals.arrays taken x
    → CutsOpen marks opened locals taken → NotCut (slot_of x locals.arrays) opened
not_cut marks [] locals taken x u h = tt
not_cut marks (None ∷ opened) locals taken x u h = not_cut marks opened locals taken x u h
not_cut marks (Some c ∷ opened) locals taken x u h = (
  (λ e. slots_apart x h.0.name locals.arrays u.declared h.0.declared
      (other (same_name x h.0.name) refl) (e ∙ sym h.0.slot)),
  not_cut marks opened locals taken x u h.1,
)
  where
    other : (b : Bool) → same_name x h.0.name ≡ b → b ≡ false
    other true e = absurd (true≢false (sym (in_taken (h.0.name, CutOf) taken h.0.cut refl) ∙ ap (is_taken taken) (sym ((bytes_eq-Decides x h.0.name).0 e)) ∙ u.free))
    other false e = refl

pub not_cut_behind : (marks : Marks) (opened : Opened) (locals : Locals) (taken : Taken) (i : ℕ) → length locals.arrays ≤ i → CutsOpen marks opened locals taken → NotCut i opened
not_cut_behind marks [] locals taken i le h = tt
not_cut_behind marks (None ∷ opened) locals taken i le h = not_cut_behind marks opened locals taken i le h
not_cut_behind marks (Some c ∷ opened) locals taken i le h = ((λ e. omega (arith, le, e, slot_in h.0.name locals.arrays h.0.declared, h.0.slot)), not_cut_behind marks opened locals taken i le h.1)

-- no open cut is of an array that is only read
abbrev pub OwnCuts : Marks → Opened → Type 0
OwnCuts marks [] = Unit {0}
OwnCuts marks (None ∷ opened) = OwnCuts marks opened
OwnCuts marks (Some h ∷ opened) = IsOwn marks h.array × OwnCuts marks opened

pub own_cuts : (marks : Marks) (opened : Opened) (locals : Locals) (taken : Taken) → CutsOpen marks opened locals taken → OwnCuts marks opened
own_cuts marks [] locals taken h = tt
own_cuts marks (None ∷ opened) locals taken h = own_cuts marks opened locals taken h
own_cuts marks (Some c ∷ opened) locals taken h = (h.0.own, own_cuts marks opened locals taken h.1)

-- a slot that is not only read, at its number
full_at : (size : Room) (depth : ℕ) (names : List Name) (taken : Taken) (s : ℕ) → IsOwn size.marks s
    → is_full_in (slice_get (row size.arrays depth names taken) s) ≡ true → is_full_in (slice_get (array_row size depth names taken) (array_at size.marks s)) ≡ true
full_at size depth names taken s own h = ap is_full_in (get_owned size.marks s (row size.arrays depth names taken) own) ∙ h

-- a slot that is full in each row of arrays is full in the rows around the innermost sync block
pub outside_full : (size : Room) (opened : Opened) (locals : Locals) (taken : Taken) (i : ℕ) → IsOwn size.marks i → OwnCuts size.marks opened
    → NotCut i opened → ((d : ℕ) → d ≤ length opened → is_full_in (slice_get (row size.arrays d locals.arrays taken) i) ≡ true) →
    full_in_all (gone_rows (outers size opened locals taken)) (array_at size.marks i) ≡ true
outside_full size [] locals taken i own cuts apart h = refl
outside_full size (None ∷ opened) locals taken i own cuts apart h =
    both_true (is_full_in (slice_get (array_row size (depth_in opened) locals.arrays taken) (array_at size.marks i)))
    (full_in_all (gone_rows (outers size opened locals taken)) (array_at size.marks i))
    (full_at size (depth_in opened) locals.arrays taken i own (h (depth_in opened) (omega arith))) (outside_full size opened locals taken i own cuts apart (λ d le. h d (omega (arith, le))))
outside_full size (Some c ∷ opened) locals taken i own cuts apart h =
    let r = array_row size (depth_in opened) locals.arrays taken in
    let n = array_at size.marks i in
    both_true (is_full_in (slice_get (slice_set r (array_at size.marks c.array) true) n)) (full_in_all (gone_rows (outers size opened locals taken)) n)
    (ap is_full_in (get-other r n (array_at size.marks c.array) true (at_apart size.marks i c.array own cuts.0 apart.0))
    ∙ full_at size (depth_in opened) locals.arrays taken i own (h (depth_in opened) (omega arith)))
    (outside_full size opened locals taken i own cuts.1 apart.1 (λ d le. h d (omega (arith, le))))

-- a slot that is not frozen in each row is not frozen in the rows around the innermost sync block
pub outside_thawed : (size : Room) (opened : Opened) (locals : Locals) (taken : Taken) (i : ℕ) → IsOwn size.marks i
    → ((d : ℕ) → d ≤ length opened → is_full_in (slice_get (row size.arrays d locals.arrays (frozen_of taken)) i) ≡ true) →
    full_in_all (frozen_rows (outers size opened locals taken)) (array_at size.marks i) ≡ true
outside_thawed size [] locals taken i own h = refl
outside_thawed size (c ∷ opened) locals taken i own h =
    both_true (is_full_in (slice_get (array_row size (depth_in opened) locals.arrays (frozen_of taken)) (array_at size.marks i)))
    (full_in_all (frozen_rows (outers size opened locals taken)) (array_at size.marks i))
    (full_at size (depth_in opened) locals.arrays (frozen_of taken) i own (h (depth_in opened) (omega arith))) (outside_thawed size opened locals taken i own (λ d le. h d (omega (arith, le))))

pub array_is_full : (size : Room) (opened : Opened) (locals : Locals) (taken : Taken) (x : Name) (n : ℕ) → length locals.arrays ≤ size.arrays
    → IsUsable locals.arrays taken x → IsOwn size.marks (slot_of x locals.arrays) → CutsOpen size.marks opened locals taken →
    has_array (shape_at size opened locals taken n) (array_at size.marks (slot_of x locals.arrays)) ≡ true
array_is_full size opened locals taken x n le u own cuts =
    let s = slot_of x locals.arrays in
    let i = array_at size.marks s in
    both_true (is_full_in (slice_get (array_row size (depth_in opened) locals.arrays taken) i))
    (full_in_all (gone_rows (outers size opened locals taken)) i) (full_at size (depth_in opened) locals.arrays taken s own
    (row_free size.arrays (depth_in opened) locals.arrays taken x le u))
    (outside_full size opened locals taken s own (own_cuts size.marks opened locals taken cuts) (not_cut size.marks opened locals taken x u cuts)
    (λ d le'. row_free size.arrays d locals.arrays taken x le u))

pub next_array_is_full : (size : Room) (opened : Opened) (locals : Locals) (taken : Taken) (i n : ℕ) → length locals.arrays ≤ i → i < size.arrays
    → IsOwn size.marks i → CutsOpen size.marks opened locals taken → has_array (shape_at size opened locals taken n) (array_at size.marks i) ≡ true
next_array_is_full size opened locals taken i n le below own cuts =
    let k = array_at size.marks i in
    both_true (is_full_in (slice_get (array_row size (depth_in opened) locals.arrays taken) k))
    (full_in_all (gone_rows (outers size opened locals taken)) k) (full_at size (depth_in opened) locals.arrays taken i own
    (row_behind size.arrays (depth_in opened) locals.arrays taken i le below))
    (outside_full size opened locals taken i own (own_cuts size.marks opened locals taken cuts)
    (not_cut_behind size.marks opened locals taken i le cuts) (λ d le'. row_behind size.arrays d locals.arrays taken i le below))

-- an array that may be written is not frozen
pub frozen_usable : (names : List Name) (taken : Taken) (x : Name) → IsUsable names taken x → is_held taken x ≡ false → IsUsable names (frozen_of taken) x
frozen_usable names taken x u loose = record { declared = u.declared; free = loose_thawed x taken loose }

pub array_is_thawed : (size : Room) (opened : Opened) (locals : Locals) (taken : Taken) (x : Name) → length locals.arrays ≤ size.arrays → IsWritable size.marks locals.arrays taken x →
    full_in_all (array_row size (depth_in opened) locals.arrays (frozen_of taken) ∷ frozen_rows (outers size opened locals taken)) (array_at size.marks (slot_of x locals.arrays)) ≡ true
array_is_thawed size opened locals taken x le w =
    let s = slot_of x locals.arrays in
    let u = frozen_usable locals.arrays taken x w.usable w.loose in
    both_true (is_full_in (slice_get (array_row size (depth_in opened) locals.arrays (frozen_of taken)) (array_at size.marks s)))
    (full_in_all (frozen_rows (outers size opened locals taken)) (array_at size.marks s))
    (full_at size (depth_in opened) locals.arrays (frozen_of taken) s w.own (row_free size.arrays (depth_in opened) locals.arrays (frozen_of taken) x le u))
    (outside_thawed size opened locals taken s w.own (λ d le'. row_free size.arrays d locals.arrays (frozen_of taken) x le u))

pub next_array_is_thawed : (size : Room) (opened : Opened) (locals : Locals) (taken : Taken) (i : ℕ) → length locals.arrays ≤ i → i < size.arrays → IsOwn size.marks i →
    full_in_all (array_row size (depth_in opened) locals.arrays (frozen_of taken) ∷ frozen_rows (outers size opened locals taken)) (array_at size.marks i) ≡ true
next_array_is_thawed size opened locals taken i le below own =
    both_true (is_full_in (slice_get (array_row size (depth_in opened) locals.arrays (frozen_of taken)) (array_at size.marks i)))
    (full_in_all (frozen_rows (outers size opened locals taken)) (array_at size.marks i))
    (full_at size (depth_in opened) locals.arrays (frozen_of taken) i own (row_behind size.arrays (depth_in opened) locals.arrays (frozen_of taken) i le below))
    (outside_thawed size opened locals taken i own (λ d le'. row_behind size.arrays d locals.arrays (frozen_of taken) i le below))

-- a slot after the slots of the names is not a part of a cut
pub no_part : (size : Room) (opened : Opened) (locals now : Locals) (taken taken' : Taken) (i : ℕ) → length locals.arrays ≤ i → IsOwn size.marks i
    → CutsOpen size.marks opened locals taken → is_no_part (array_at size.marks i) (outers size opened now taken') ≡ true
no_part size [] locals now taken taken' i le own h = refl
no_part size (None ∷ opened) locals now taken taken' i le own h = no_part size opened locals now taken taken' i le own h
no_part size (Some c ∷ opened) locals now taken taken' i le own h =
    let n = array_at size.marks i in
    let l = array_at size.marks c.left in
    let r = array_at size.marks c.right in
    both_true (not (nat_eq n l) && not (nat_eq n r)) (is_no_part n (outers size opened now taken'))
    (both_true (not (nat_eq n l)) (not (nat_eq n r)) (ap not (not_equal n l (at_apart size.marks i c.left own (own_behind size.marks c.left h.0.left_behind) (λ e. omega (arith, le, e, h.0.left)))))
    (ap not (not_equal n r (at_apart size.marks i c.right own (own_behind size.marks c.right h.0.right_behind) (λ e. omega (arith, le, e, h.0.right))))))
    (no_part size opened locals now taken taken' i le own h.1)
