-- Cuts of arrays whose slots are not only read.
use Rattle.std.proofs.Common.{◌≡◌, ℕ, List, [], ◌++◌, ◌&&◌, Option, Some, None, sym, ap, ◌∙◌, ℤ}
use Rattle.std.specs.Prelude.{slice_get, slice_set, take, drop}
use Rattle.cw_code.specs.declared.code.Halves.{Halves}
use Rattle.cw_code.specs.Run.{Slots, is_full, cut_arrays, may_cut, uncut_arrays}
use Rattle.cw_gen.specs.Marks.{Marks, array_at}
use Rattle.cw_gen.proofs.Marked.{owned, read_in, IsOwn, get_owned, set_owned, set_read}

-- the slots of a cut are not only read
abbrev pub OwnHalves : Marks → Halves → Type 0
OwnHalves marks h = IsOwn marks h.array × IsOwn marks h.left × IsOwn marks h.right

-- the slots of a cut, with the numbers of the code
abbrev pub cut_numbers : Marks → Halves → Halves
cut_numbers marks h = record { array = array_at marks h.array; left = array_at marks h.left; right = array_at marks h.right }

-- three slots, set in sequence
three : (marks : Marks) (i j k : ℕ) (x y z : Option (List ℤ)) (slots : Slots (List ℤ)) → IsOwn marks i → IsOwn marks j → IsOwn marks k →
    owned marks (slice_set (slice_set (slice_set slots i x) j y) k z) ≡ slice_set (slice_set (slice_set (owned marks slots) (array_at marks i) x) (array_at marks j) y) (array_at marks k) z
three marks i j k x y z slots hi hj hk =
    set_owned marks k z (slice_set (slice_set slots i x) j y) hk
    ∙ ap (λ l. slice_set l (array_at marks k) z) (set_owned marks j y (slice_set slots i x) hj ∙ ap (λ l. slice_set l (array_at marks j) y) (set_owned marks i x slots hi))

three_read : (marks : Marks) (i j k : ℕ) (x y z : Option (List ℤ)) (slots : Slots (List ℤ)) → IsOwn marks i → IsOwn marks j → IsOwn marks k
    → read_in marks (slice_set (slice_set (slice_set slots i x) j y) k z) ≡ read_in marks slots
three_read marks i j k x y z slots hi hj hk = set_read marks k z (slice_set (slice_set slots i x) j y) hk ∙ set_read marks j y (slice_set slots i x) hj ∙ set_read marks i x slots hi

pub cut_owned : (marks : Marks) (h : Halves) (xs : List ℤ) (n : ℕ) (slots : Slots (List ℤ)) → OwnHalves marks h
    → owned marks (cut_arrays h xs n slots) ≡ cut_arrays (cut_numbers marks h) xs n (owned marks slots)
cut_owned marks h xs n slots own = three marks h.array h.left h.right None (Some (take n xs)) (Some (drop n xs)) slots own.0 own.1 own.2

pub cut_read : (marks : Marks) (h : Halves) (xs : List ℤ) (n : ℕ) (slots : Slots (List ℤ)) → OwnHalves marks h → read_in marks (cut_arrays h xs n slots) ≡ read_in marks slots
cut_read marks h xs n slots own = three_read marks h.array h.left h.right None (Some (take n xs)) (Some (drop n xs)) slots own.0 own.1 own.2

pub uncut_owned : (marks : Marks) (h : Halves) (left right : List ℤ) (slots : Slots (List ℤ)) → OwnHalves marks h
    → owned marks (uncut_arrays h left right slots) ≡ uncut_arrays (cut_numbers marks h) left right (owned marks slots)
uncut_owned marks h left right slots own = three marks h.left h.right h.array (Some []) (Some []) (Some (left ++ right)) slots own.1 own.2 own.0

pub uncut_read : (marks : Marks) (h : Halves) (left right : List ℤ) (slots : Slots (List ℤ)) → OwnHalves marks h → read_in marks (uncut_arrays h left right slots) ≡ read_in marks slots
uncut_read marks h left right slots own = three_read marks h.left h.right h.array (Some []) (Some []) (Some (left ++ right)) slots own.1 own.2 own.0

-- the slots of a cut are available
pub may_cut_owned : (marks : Marks) (h : Halves) (slots : Slots (List ℤ)) → OwnHalves marks h → may_cut (cut_numbers marks h) (owned marks slots) ≡ may_cut h slots
may_cut_owned marks h slots own =
    let a = array_at marks h.array in
    let l = array_at marks h.left in
    let r = array_at marks h.right in
    let s1 = slice_set slots h.array None in
    let s2 = slice_set s1 h.left None in
    let one : owned marks s1 ≡ slice_set (owned marks slots) a None = set_owned marks h.array None slots own.0 in
    let two : owned marks s2 ≡ slice_set (slice_set (owned marks slots) a None) l None = set_owned marks h.left None s1 own.1 ∙ ap (λ q. slice_set q l None) one in
    let first = get_owned marks h.array slots own.0 in
    let second = ap (λ q. slice_get q l) (sym one) ∙ get_owned marks h.left s1 own.1 in
    let third = ap (λ q. slice_get q r) (sym two) ∙ get_owned marks h.right s2 own.2 in
    ap (λ o. is_full o && (is_full (slice_get (slice_set (owned marks slots) a None) l) && is_full (slice_get (slice_set (slice_set (owned marks slots) a None) l None) r))) first
    ∙ ap (λ o. is_full (slice_get slots h.array) && (is_full o && is_full (slice_get (slice_set (slice_set (owned marks slots) a None) l None) r))) second
    ∙ ap (λ o. is_full (slice_get slots h.array) && (is_full (slice_get s1 h.left) && is_full o)) third
