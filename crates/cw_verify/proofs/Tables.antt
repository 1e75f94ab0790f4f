-- A table that is found step by step marks no more than any table of the function.
use Rattle.std.proofs.Common.{◌≡◌, ⊎_elim, ℕ, zero, suc, ◌+◌, ◌-◌, ◌<◌, ◌≤◌, Bool, true, false, ◌&&◌, nat_le, nat_eq}
use Rattle.std.proofs.Common.{if◌then◌else◌, Option, Some, None, List, [], ◌∷◌, length, refl, sym, ap, ◌∙◌, subst, arith}
use Rattle.std.specs.Prelude.{map, is_none, slice_get, slice_set, option_map}
use Rattle.std.proofs.lemmas.List.{length-set}
use Rattle.std.proofs.lemmas.Option.{slice_get_within, same_Some}
use Rattle.std.proofs.lemmas.Bool.{cases_eq, or_from}
use Rattle.cw_facts.specs.Lists.{missing, get_set, set_other}
use Rattle.cw_facts.specs.Tests.{taken, not_taken, both_true, first_true, second_true, first_false, second_false, at_most, equal, eq_of, le_of, neither_first, neither_second}
use Rattle.cw_model.specs.declared.syntax.CallKind.{CallKind}
use Rattle.cw_model.specs.declared.syntax.CallKind.TheVariants.{Plain, Spawned}
use Rattle.cw_code.specs.declared.code.Func.{Func}
use Rattle.cw_code.specs.declared.code.Halves.{Halves}
use Rattle.cw_code.specs.declared.code.Instr.{Instr}
use Rattle.cw_code.specs.declared.code.Instr.TheVariants as instr
use Rattle.cw_code.specs.Code.{Code}
use Rattle.cw_code.specs.declared.code.Loan.{Loan}
use Rattle.cw_code.specs.declared.code.Loan.TheVariants.{Array, Reader}
use Rattle.cw_code.specs.Run.{passed_by, lent_by}
use Rattle.cw_code.specs.Fits.{Row, Outer, empty_rows, gone_rows, frozen_rows, params_of, names_well, Shape, is_full_in, full_in_all, has_slot, has_array, has_arrays}
use Rattle.cw_code.specs.Fits.{has_loan, has_loans, has_target, has_arguments, none_open, can_close, has_parts, can_uncut, is_no_half, is_no_part, are_no_parts}
use Rattle.cw_code.specs.Fits.{none_frozen, slots_uncut, changes, changes_back, slots_lent, with_target, with_gone, with_passed, with_uncut, none_empty, closed_shape}
use Rattle.cw_code.specs.Fits.{uncut_shape, is_ready, is_thawed, leaves, nexts, Covers, CoversEach, Table, FlowsInto, FlowsIntoEach, IsTable}
use Rattle.cw_code.specs.lemmas.Slots.{covers_full, covers_length, covers_itself, covers_set, each_covers_itself, each_covers_after}
use Rattle.cw_verify.specs.Table.{Shapes, either_empty, either_each, same_cut, is_alike, are_alike, blocks_of, can_meet, met, may_act, joined, come_at, come}
use Rattle.cw_verify.specs.Table.{then_come, come_all, next_distances, visited_at, visited, shape_at, table_of, Below, Grows, IsDone}
use Rattle.cw_verify.proofs.Decided.{let_through, both_less}

-- a row that covers two rows covers the merged row
covers_either : (xs ys zs : Row) → Covers xs ys → Covers xs zs → Covers xs (either_empty ys zs)
covers_either [] [] zs c d = tt
covers_either [] (y ∷ ys) zs c d = absurd c
covers_either (x ∷ xs) [] zs c d = absurd c
covers_either (x ∷ xs) (y ∷ ys) [] c d = absurd d
covers_either (x ∷ xs) (y ∷ ys) (z ∷ zs) c d = (λ e. or_from y z (c.0 e) (d.0 e), covers_either xs ys zs c.1 d.1)

either_first : (ys zs : Row) → Covers (either_empty ys zs) ys
either_first [] zs = tt
either_first (y ∷ ys) [] = covers_itself (y ∷ ys)
either_first (y ∷ ys) (z ∷ zs) = (neither_first y z, either_first ys zs)

either_second : (ys zs : Row) → length ys ≡ length zs → Covers (either_empty ys zs) zs
either_second [] [] e = tt
either_second [] (z ∷ zs) e = absurd (omega (arith, e))
either_second (y ∷ ys) [] e = absurd (omega (arith, e))
either_second (y ∷ ys) (z ∷ zs) e = (neither_second y z, either_second ys zs (omega (arith, e)))

covers_unset : (xs ys : Row) (a : ℕ) → Covers xs ys → Covers (slice_set xs a false) (slice_set ys a false)
covers_unset [] [] a c = tt
covers_unset [] (y ∷ ys) a c = absurd c
covers_unset (x ∷ xs) [] a c = absurd c
covers_unset (x ∷ xs) (y ∷ ys) zero c = (λ e. refl, c.1)
covers_unset (x ∷ xs) (y ∷ ys) (suc a) c = (c.0, covers_unset xs ys a c.1)

covers_target : (kind : CallKind) (o : Option ℕ) (xs ys : Row) → Covers xs ys → Covers (with_target kind o xs) (with_target kind o ys)
covers_target Plain o xs ys c = c
covers_target Spawned None xs ys c = c
covers_target Spawned (Some a) xs ys c = covers_set xs ys a c

covers_gone : (slots : List ℕ) (xs ys : Row) → Covers xs ys → Covers (with_gone slots xs) (with_gone slots ys)
covers_gone [] xs ys c = c
covers_gone (a ∷ slots) xs ys c = covers_set (with_gone slots xs) (with_gone slots ys) a (covers_gone slots xs ys c)

covers_passed : (kind : CallKind) (slots : List ℕ) (xs ys : Row) → Covers xs ys → Covers (with_passed kind slots xs) (with_passed kind slots ys)
covers_passed Plain slots xs ys c = c
covers_passed Spawned slots xs ys c = covers_gone slots xs ys c

covers_uncut : (cut : Option Halves) (xs ys : Row) → Covers xs ys → Covers (with_uncut cut xs) (with_uncut cut ys)
covers_uncut None xs ys c = c
covers_uncut (Some h) xs ys c = covers_unset xs ys h.array c

-- cuts with the same array and the same parts are equal
halves_equal : (g h : Halves) → g.array ≡ h.array → g.left ≡ h.left → g.right ≡ h.right → g ≡ h
halves_equal g h a l r = λ i. record { array = a i; left = l i; right = r i }

cut_of : (c d : Option Halves) → same_cut c d ≡ true → c ≡ d
cut_of None None h = refl
cut_of None (Some d) h = cc
cut_of (Some c) None h = cc
cut_of (Some c) (Some d) h =
    let rest = second_true (nat_eq c.array d.array) (nat_eq c.left d.left && nat_eq c.right d.right) h in
    ap Some (halves_equal c d (eq_of c.array d.array (first_true (nat_eq c.array d.array) (nat_eq c.left d.left && nat_eq c.right d.right) h))
    (eq_of c.left d.left (first_true (nat_eq c.left d.left) (nat_eq c.right d.right) rest)) (eq_of c.right d.right (second_true (nat_eq c.left d.left) (nat_eq c.right d.right) rest)))

cut_same : (c : Option Halves) → same_cut c c ≡ true
cut_same None = refl
cut_same (Some h) =
    both_true (nat_eq h.array h.array) (nat_eq h.left h.left && nat_eq h.right h.right) (equal h.array h.array refl)
    (both_true (nat_eq h.left h.left) (nat_eq h.right h.right) (equal h.left h.left refl) (equal h.right h.right refl))

-- blocks that cover two lists of blocks cover the merged list
each_either : (xs ys zs : List Outer) → CoversEach xs ys → CoversEach xs zs → CoversEach xs (either_each ys zs)
each_either [] [] zs c d = tt
each_either [] (y ∷ ys) zs c d = absurd c
each_either (x ∷ xs) [] zs c d = absurd c
each_either (x ∷ xs) (y ∷ ys) [] c d = absurd d
each_either (x ∷ xs) (y ∷ ys) (z ∷ zs) c d = (
  covers_either x.empty y.empty z.empty c.0 d.0,
  covers_either x.gone y.gone z.gone c.1 d.1,
  covers_either x.frozen y.frozen z.frozen c.2 d.2,
  c.3,
  each_either xs ys zs c.4 d.4,
)

each_first : (ys zs : List Outer) → CoversEach (either_each ys zs) ys
each_first [] zs = tt
each_first (y ∷ ys) [] = each_covers_itself (y ∷ ys)
each_first (y ∷ ys) (z ∷ zs) = (either_first y.empty z.empty, either_first y.gone z.gone, either_first y.frozen z.frozen, refl, each_first ys zs)

-- two blocks are alike
pub record Alike (y z : Outer) : Type 0 where
  pub as_wide : length y.empty ≡ length z.empty
  pub as_wide_gone : length y.gone ≡ length z.gone
  pub as_wide_frozen : length y.frozen ≡ length z.frozen
  pub same : y.cut ≡ z.cut

pub alike : (y z : Outer) → is_alike y z ≡ true → Alike y z
alike y z h =
    let a = nat_eq (length y.empty) (length z.empty) in
    let b = nat_eq (length y.gone) (length z.gone) in
    let f = nat_eq (length y.frozen) (length z.frozen) in
    let rest = second_true a (b && (f && same_cut y.cut z.cut)) h in
    let last = second_true b (f && same_cut y.cut z.cut) rest in
    record {
      as_wide = eq_of (length y.empty) (length z.empty) (first_true a (b && (f && same_cut y.cut z.cut)) h);
      as_wide_gone = eq_of (length y.gone) (length z.gone) (first_true b (f && same_cut y.cut z.cut) rest);
      as_wide_frozen = eq_of (length y.frozen) (length z.frozen) (first_true f (same_cut y.cut z.cut) last);
      same = cut_of y.cut z.cut (second_true f (same_cut y.cut z.cut) last);
    }

pub is_alike_of : (y z : Outer) → length y.empty ≡ length z.empty → length y.gone ≡ length z.gone → length y.frozen ≡ length z.frozen → y.cut ≡ z.cut → is_alike y z ≡ true
is_alike_of y z a b f c =
    let cuts = subst (λ d. same_cut y.cut d ≡ true) c (cut_same y.cut) in
    let last = both_true (nat_eq (length y.frozen) (length z.frozen)) (same_cut y.cut z.cut) (equal (length y.frozen) (length z.frozen) f) cuts in
    let rest = both_true (nat_eq (length y.gone) (length z.gone)) (nat_eq (length y.frozen) (length z.frozen) && same_cut y.cut z.cut) (equal (length y.gone) (length z.gone) b) last in
    both_true (nat_eq (length y.empty) (length z.empty)) (nat_eq (length y.gone) (length z.gone)
    && (nat_eq (length y.frozen) (length z.frozen) && same_cut y.cut z.cut)) (equal (length y.empty) (length z.empty) a) rest

each_second : (ys zs : List Outer) → are_alike ys zs ≡ true → CoversEach (either_each ys zs) zs
each_second [] [] e = tt
each_second [] (z ∷ zs) e = cc
each_second (y ∷ ys) [] e = cc
each_second (y ∷ ys) (z ∷ zs) e =
    let a = alike y z (first_true (is_alike y z) (are_alike ys zs) e) in (
      either_second y.empty z.empty a.as_wide,
      either_second y.gone z.gone a.as_wide_gone,
      either_second y.frozen z.frozen a.as_wide_frozen,
      a.same,
      each_second ys zs (second_true (is_alike y z) (are_alike ys zs) e),
    )

-- lists of blocks that one list covers are alike
each_alike : (xs ys zs : List Outer) → CoversEach xs ys → CoversEach xs zs → are_alike ys zs ≡ true
each_alike [] [] [] c d = refl
each_alike [] [] (z ∷ zs) c d = absurd d
each_alike [] (y ∷ ys) zs c d = absurd c
each_alike (x ∷ xs) [] zs c d = absurd c
each_alike (x ∷ xs) (y ∷ ys) [] c d = absurd d
each_alike (x ∷ xs) (y ∷ ys) (z ∷ zs) c d =
    both_true (is_alike y z) (are_alike ys zs)
    (is_alike_of y z (sym (covers_length x.empty y.empty c.0) ∙ covers_length x.empty z.empty d.0)
    (sym (covers_length x.gone y.gone c.1) ∙ covers_length x.gone z.gone d.1)
    (sym (covers_length x.frozen y.frozen c.2) ∙ covers_length x.frozen z.frozen d.2) (sym c.3 ∙ d.3))
    (each_alike xs ys zs c.4 d.4)

each_full : (xs ys : List Outer) (a : ℕ) → CoversEach xs ys → full_in_all (empty_rows xs) a ≡ true → full_in_all (empty_rows ys) a ≡ true
each_full [] [] a c h = refl
each_full [] (y ∷ ys) a c h = absurd c
each_full (x ∷ xs) [] a c h = absurd c
each_full (x ∷ xs) (y ∷ ys) a c h =
    both_less (is_full_in (slice_get x.empty a)) (full_in_all (empty_rows xs) a) (is_full_in (slice_get y.empty a)) (full_in_all (empty_rows ys) a)
    (covers_full x.empty y.empty a c.0) (each_full xs ys a c.4) h

each_there : (xs ys : List Outer) (a : ℕ) → CoversEach xs ys → full_in_all (gone_rows xs) a ≡ true → full_in_all (gone_rows ys) a ≡ true
each_there [] [] a c h = refl
each_there [] (y ∷ ys) a c h = absurd c
each_there (x ∷ xs) [] a c h = absurd c
each_there (x ∷ xs) (y ∷ ys) a c h =
    both_less (is_full_in (slice_get x.gone a)) (full_in_all (gone_rows xs) a) (is_full_in (slice_get y.gone a)) (full_in_all (gone_rows ys) a)
    (covers_full x.gone y.gone a c.1) (each_there xs ys a c.4) h

each_thawed : (xs ys : List Outer) (a : ℕ) → CoversEach xs ys → full_in_all (frozen_rows xs) a ≡ true → full_in_all (frozen_rows ys) a ≡ true
each_thawed [] [] a c h = refl
each_thawed [] (y ∷ ys) a c h = absurd c
each_thawed (x ∷ xs) [] a c h = absurd c
each_thawed (x ∷ xs) (y ∷ ys) a c h =
    both_less (is_full_in (slice_get x.frozen a)) (full_in_all (frozen_rows xs) a) (is_full_in (slice_get y.frozen a))
    (full_in_all (frozen_rows ys) a) (covers_full x.frozen y.frozen a c.2) (each_thawed xs ys a c.4) h

all_thawed : (xs ys : List Outer) (slots : List ℕ) → CoversEach xs ys → none_frozen (frozen_rows xs) slots ≡ true → none_frozen (frozen_rows ys) slots ≡ true
all_thawed xs ys [] c h = refl
all_thawed xs ys (a ∷ slots) c h =
    both_less (full_in_all (frozen_rows xs) a) (none_frozen (frozen_rows xs) slots) (full_in_all (frozen_rows ys) a)
    (none_frozen (frozen_rows ys) slots) (each_thawed xs ys a c) (all_thawed xs ys slots c) h

back_thawed : (xs ys : List Outer) → CoversEach xs ys → none_frozen (frozen_rows xs) (changes_back xs) ≡ true → none_frozen (frozen_rows ys) (changes_back ys) ≡ true
back_thawed [] [] c h = refl
back_thawed [] (y ∷ ys) c h = absurd c
back_thawed (x ∷ xs) [] c h = absurd c
back_thawed (x ∷ xs) (y ∷ ys) c h =
    subst (λ d. none_frozen (frozen_rows (y ∷ ys)) (slots_uncut d) ≡ true) c.3 (all_thawed (x ∷ xs) (y ∷ ys) (slots_uncut x.cut) c h)

each_open : (xs ys : List Outer) → CoversEach xs ys → none_open xs ≡ none_open ys
each_open [] [] c = refl
each_open [] (y ∷ ys) c = absurd c
each_open (x ∷ xs) [] c = absurd c
each_open (x ∷ xs) (y ∷ ys) c = refl

each_close : (xs ys : List Outer) → CoversEach xs ys → can_close xs ≡ can_close ys
each_close [] [] c = refl
each_close [] (y ∷ ys) c = absurd c
each_close (x ∷ xs) [] c = absurd c
each_close (x ∷ xs) (y ∷ ys) c = ap is_none c.3

each_parts : (xs ys : List Outer) (cut : Option Halves) → CoversEach xs ys → has_parts (gone_rows xs) cut ≡ true → has_parts (gone_rows ys) cut ≡ true
each_parts xs ys None c h = cc
each_parts xs ys (Some d) c h =
    both_less (full_in_all (gone_rows xs) d.left) (full_in_all (gone_rows xs) d.right) (full_in_all (gone_rows ys) d.left)
    (full_in_all (gone_rows ys) d.right) (each_there xs ys d.left c) (each_there xs ys d.right c) h

each_uncut : (xs ys : List Outer) → CoversEach xs ys → can_uncut xs ≡ true → can_uncut ys ≡ true
each_uncut [] [] c h = cc
each_uncut [] (y ∷ ys) c h = absurd c
each_uncut (x ∷ xs) [] c h = absurd c
each_uncut (x ∷ xs) (y ∷ ys) c h = each_parts (x ∷ xs) (y ∷ ys) y.cut c (ap (has_parts (gone_rows (x ∷ xs))) (sym c.3) ∙ h)

each_no_part : (xs ys : List Outer) (a : ℕ) → CoversEach xs ys → is_no_part a xs ≡ is_no_part a ys
each_no_part [] [] a c = refl
each_no_part [] (y ∷ ys) a c = absurd c
each_no_part (x ∷ xs) [] a c = absurd c
each_no_part (x ∷ xs) (y ∷ ys) a c = ap (λ d. is_no_half a d && is_no_part a xs) c.3 ∙ ap (λ b. is_no_half a y.cut && b) (each_no_part xs ys a c.4)

each_no_parts : (xs ys : List Outer) (h : Halves) → CoversEach xs ys → are_no_parts h xs ≡ are_no_parts h ys
each_no_parts xs ys h c = ap (λ b. b && is_no_part h.right xs) (each_no_part xs ys h.left c) ∙ ap (λ b. is_no_part h.left ys && b) (each_no_part xs ys h.right c)

-- a table takes a state that its own state covers
pub leads_of : (t : Table) (place : ℕ) (there s : Shape) → t place ≡ Some there → there.operands ≡ s.operands → CoversEach (blocks_of there) (blocks_of s) → FlowsInto t place s
leads_of t place there s e n c = record { there = there; found = e; as_many = n; covers = c.0; covers_gone = c.1; covers_frozen = c.2; covers_outer = c.4 }

pub covers_all : {t : Table} {place : ℕ} {s : Shape} (l : FlowsInto t place s) → CoversEach (blocks_of l.there) (blocks_of s)
covers_all l = (l.covers, l.covers_gone, l.covers_frozen, refl, l.covers_outer)

-- a table that takes a state takes each state that it covers
pub leads_less : (t : Table) (place : ℕ) (big small : Shape) → big.operands ≡ small.operands → CoversEach (blocks_of big) (blocks_of small) → FlowsInto t place big → FlowsInto t place small
leads_less t place big small e c l = leads_of t place l.there small l.found (l.as_many ∙ e) (each_covers_after (blocks_of l.there) (blocks_of big) (blocks_of small) (covers_all l) c)

all_less : (t : Table) (places : List ℕ) (big small : Shape) → big.operands ≡ small.operands → CoversEach (blocks_of big) (blocks_of small) → FlowsIntoEach t big places → FlowsIntoEach t small places
all_less t [] big small e c l = tt
all_less t (p ∷ ps) big small e c l = (leads_less t p big small e c l.0, all_less t ps big small e c l.1)

-- the first state covers the second one, with equally many operands
pub record Less (big small : Shape) : Type 0 where
  pub as_many : big.operands ≡ small.operands
  pub covers : CoversEach (blocks_of big) (blocks_of small)

-- an instruction may act if it has what it requires and changes nothing that is frozen
pub may_both : (code : Code) (s : Shape) (i : Instr) → is_ready code s i ≡ true → is_thawed code s i ≡ true → may_act code s i ≡ true
unfolding may_act
may_both code s i h k = both_true (is_ready code s i) (is_thawed code s i) h k

pub may_ready : (code : Code) (s : Shape) (i : Instr) → may_act code s i ≡ true → is_ready code s i ≡ true
unfolding may_act
may_ready code s i h = first_true (is_ready code s i) (is_thawed code s i) h

pub may_thawed : (code : Code) (s : Shape) (i : Instr) → may_act code s i ≡ true → is_thawed code s i ≡ true
unfolding may_act
may_thawed code s i h = second_true (is_ready code s i) (is_thawed code s i) h

unready : (code : Code) (s : Shape) (i : Instr) → is_ready code s i ≡ false → may_act code s i ≡ false
unfolding may_act
unready code s i h = first_false (is_ready code s i) (is_thawed code s i) h

frozen : (code : Code) (s : Shape) (i : Instr) → is_thawed code s i ≡ false → may_act code s i ≡ false
unfolding may_act
frozen code s i h = second_false (is_ready code s i) (is_thawed code s i) h

-- an instruction has in a smaller state what it has in a larger one
module _ (code : Code) (big small : Shape) (e : big.operands ≡ small.operands) (c : CoversEach (blocks_of big) (blocks_of small)) where
  slot_less : (a : ℕ) → has_slot big a ≡ true → has_slot small a ≡ true
  slot_less a h = each_full (blocks_of big) (blocks_of small) a c h

  array_less : (a : ℕ) → has_array big a ≡ true → has_array small a ≡ true
  array_less a h = each_there (blocks_of big) (blocks_of small) a c h

  arrays_less : (slots : List ℕ) → has_arrays big slots ≡ true → has_arrays small slots ≡ true
  arrays_less [] h = refl
  arrays_less (a ∷ slots) h = both_less (has_array big a) (has_arrays big slots) (has_array small a) (has_arrays small slots) (array_less a) (arrays_less slots) h

  loan_less : (loan : Loan) → has_loan big loan ≡ true → has_loan small loan ≡ true
  loan_less (Array a) h = array_less a h
  loan_less (Reader r) h = refl

  loans_less : (loans : List Loan) → has_loans big loans ≡ true → has_loans small loans ≡ true
  loans_less [] h = refl
  loans_less (loan ∷ loans) h = both_less (has_loan big loan) (has_loans big loans) (has_loan small loan) (has_loans small loans) (loan_less loan) (loans_less loans) h

  target_less : (o : Option ℕ) → has_target big o ≡ true → has_target small o ≡ true
  target_less None h = refl
  target_less (Some a) h = slot_less a h

  some_less : (n : ℕ) → nat_le n big.operands ≡ true → nat_le n small.operands ≡ true
  some_less n h = ap (nat_le n) (sym e) ∙ h

  none_less : nat_eq 0 big.operands ≡ true → nat_eq 0 small.operands ≡ true
  none_less h = ap (nat_eq 0) (sym e) ∙ h

  arguments_less : (kind : CallKind) (n : ℕ) → has_arguments kind n big.operands ≡ true → has_arguments kind n small.operands ≡ true
  arguments_less kind n h = ap (has_arguments kind n) (sym e) ∙ h

  pub ready_less : (i : Instr) → is_ready code big i ≡ true → is_ready code small i ≡ true
  ready_less (instr.Load a) h = slot_less a h
  ready_less (instr.Store a) h = both_less (has_slot big a) (nat_le 1 big.operands) (has_slot small a) (nat_le 1 small.operands) (slot_less a) (some_less 1) h
  ready_less (instr.Unary operator line) h = some_less 1 h
  ready_less (instr.Binary operator line) h = some_less 2 h
  ready_less (instr.SkipIfZero n) h = some_less 1 h
  ready_less (instr.Call kind f) h =
      let n = params_of (slice_get code.funcs f.function) in
      let passed = passed_by code f.passed in
      let loans = lent_by code f.lent in
      both_less (has_arguments kind n big.operands && (has_target big f.target && has_arrays big passed)) (has_loans big loans)
      (has_arguments kind n small.operands && (has_target small f.target && has_arrays small passed)) (has_loans small loans)
      (both_less (has_arguments kind n big.operands) (has_target big f.target && has_arrays big passed) (has_arguments kind n small.operands)
      (has_target small f.target && has_arrays small passed) (arguments_less kind n)
      (both_less (has_target big f.target) (has_arrays big passed) (has_target small f.target) (has_arrays small passed) (target_less f.target) (arrays_less passed))) (loans_less loans) h
  ready_less (instr.Recur kind f) h =
      let n = params_of (slice_get code.funcs f.function) in
      let passed = passed_by code f.passed in
      both_less (has_arguments kind n big.operands) (has_arrays big passed) (has_arguments kind n small.operands) (has_arrays small passed) (arguments_less kind n) (arrays_less passed) h
  ready_less (instr.Start f line) h =
      let n = params_of (slice_get code.funcs f.function) in
      let passed = passed_by code f.passed in
      both_less (nat_le n big.operands) (has_arrays big passed) (nat_le n small.operands) (has_arrays small passed) (some_less n) (arrays_less passed) h
  ready_less (instr.NewArray a line) h =
      both_less (has_array big a && nat_le 1 big.operands) (is_no_part a big.outer) (has_array small a && nat_le 1 small.operands) (is_no_part a small.outer)
      (both_less (has_array big a) (nat_le 1 big.operands) (has_array small a) (nat_le 1 small.operands) (array_less a) (some_less 1)) (λ k. sym (each_no_part big.outer small.outer a c.4) ∙ k) h
  ready_less (instr.Length a) h = array_less a h
  ready_less (instr.Element a line) h = both_less (has_array big a) (nat_le 1 big.operands) (has_array small a) (nat_le 1 small.operands) (array_less a) (some_less 1) h
  ready_less (instr.SetElement a line) h = both_less (has_array big a) (nat_le 2 big.operands) (has_array small a) (nat_le 2 small.operands) (array_less a) (some_less 2) h
  ready_less (instr.ReadElement r line) h = some_less 1 h
  ready_less (instr.Cut d line) h =
      let slots = d.array ∷ d.left ∷ d.right ∷ [] in
      both_less (has_arrays big slots && nat_le 1 big.operands) (are_no_parts d big.outer) (has_arrays small slots && nat_le 1 small.operands) (are_no_parts d small.outer)
      (both_less (has_arrays big slots) (nat_le 1 big.operands) (has_arrays small slots) (nat_le 1 small.operands) (arrays_less slots) (some_less 1))
      (λ k. sym (each_no_parts big.outer small.outer d c.4) ∙ k) h
  ready_less instr.EndCut h = both_less (nat_eq 0 big.operands) (can_uncut big.outer) (nat_eq 0 small.operands) (can_uncut small.outer) none_less (each_uncut big.outer small.outer c.4) h
  ready_less instr.Sync h = none_less h
  ready_less instr.Close h = both_less (nat_eq 0 big.operands) (can_close big.outer) (nat_eq 0 small.operands) (can_close small.outer) none_less (λ k. sym (each_close big.outer small.outer c.4) ∙ k) h
  ready_less instr.Print h = some_less 1 h
  ready_less (instr.Reduce k) h = some_less 1 h
  ready_less instr.ReturnValue h = both_less (nat_le 1 big.operands) (none_open big.outer) (nat_le 1 small.operands) (none_open small.outer)
      (some_less 1) (λ k. sym (each_open big.outer small.outer c.4) ∙ k) h
  ready_less instr.Return h = sym (each_open big.outer small.outer c.4) ∙ h
  ready_less _ h = refl

  changes_less : (slots : List ℕ) → none_frozen (frozen_rows (blocks_of big)) slots ≡ true → none_frozen (frozen_rows (blocks_of small)) slots ≡ true
  changes_less slots h = all_thawed (blocks_of big) (blocks_of small) slots c h

  pub thawed_less : (i : Instr) → is_thawed code big i ≡ true → is_thawed code small i ≡ true
  thawed_less instr.EndCut h = back_thawed big.outer small.outer c.4 h
  thawed_less i h = changes_less (changes code i) h

  pub acts_less : (i : Instr) → may_act code big i ≡ true → may_act code small i ≡ true
  acts_less i h = may_both code small i (ready_less i (may_ready code big i h)) (thawed_less i (may_thawed code big i h))

  clear_less : Covers (none_empty (length big.empty)) (none_empty (length small.empty))
  clear_less = subst (λ n. Covers (none_empty (length big.empty)) (none_empty n)) (covers_length big.empty small.empty c.0) (covers_itself (none_empty (length big.empty)))

  clear_gone : Covers (none_empty (length big.gone)) (none_empty (length small.gone))
  clear_gone = subst (λ n. Covers (none_empty (length big.gone)) (none_empty n)) (covers_length big.gone small.gone c.1) (covers_itself (none_empty (length big.gone)))

  clear_frozen : Covers (none_empty (length big.frozen)) (none_empty (length small.frozen))
  clear_frozen = subst (λ n. Covers (none_empty (length big.frozen)) (none_empty n)) (covers_length big.frozen small.frozen c.2) (covers_itself (none_empty (length big.frozen)))

  close_less : (xs ys : List Outer) → CoversEach xs ys → Less (closed_shape big xs) (closed_shape small ys)
  close_less [] [] d = record { as_many = e; covers = c }
  close_less [] (y ∷ ys) d = absurd d
  close_less (x ∷ xs) [] d = absurd d
  close_less (x ∷ xs) (y ∷ ys) d = record { as_many = e; covers = (d.0, d.1, d.2, refl, d.4) }

  uncut_less : (xs ys : List Outer) → CoversEach xs ys → Less (uncut_shape big xs) (uncut_shape small ys)
  uncut_less [] [] d = record { as_many = e; covers = c }
  uncut_less [] (y ∷ ys) d = absurd d
  uncut_less (x ∷ xs) [] d = absurd d
  uncut_less (x ∷ xs) (y ∷ ys) d = record {
    as_many = e;
    covers = (d.0, subst (λ k. Covers (with_uncut x.cut x.gone) (with_uncut k y.gone)) d.3 (covers_uncut x.cut x.gone y.gone d.1), d.2, refl, d.4);
  }

  pub leaves_less : (i : Instr) → Less (leaves code big i) (leaves code small i)
  leaves_less (instr.Push v) = record { as_many = ap (λ n. n + 1) e; covers = c }
  leaves_less (instr.Load a) = record { as_many = ap (λ n. n + 1) e; covers = c }
  leaves_less (instr.Store a) = record { as_many = ap (λ n. n - 1) e; covers = c }
  leaves_less (instr.Binary operator line) = record { as_many = ap (λ n. n - 1) e; covers = c }
  leaves_less (instr.SkipIfZero n) = record { as_many = ap (λ n. n - 1) e; covers = c }
  leaves_less (instr.Call kind f) = record {
    as_many = ap (λ n. n - params_of (slice_get code.funcs f.function)) e;
    covers = (
      covers_target kind f.target big.empty small.empty c.0,
      covers_passed kind (passed_by code f.passed) big.gone small.gone c.1,
      covers_passed kind (slots_lent (lent_by code f.lent)) big.frozen small.frozen c.2,
      refl,
      c.4,
    );
  }
  leaves_less (instr.Recur kind f) = record {
    as_many = ap (λ n. n - params_of (slice_get code.funcs f.function)) e;
    covers = (c.0, covers_passed kind (passed_by code f.passed) big.gone small.gone c.1, c.2, refl, c.4);
  }
  leaves_less (instr.Start f line) = record { as_many = ap (λ n. n - params_of (slice_get code.funcs f.function)) e; covers = c }
  leaves_less (instr.NewArray a line) = record { as_many = ap (λ n. n - 1) e; covers = c }
  leaves_less (instr.Length a) = record { as_many = ap (λ n. n + 1) e; covers = c }
  leaves_less (instr.SetElement a line) = record { as_many = ap (λ n. n - 2) e; covers = c }
  leaves_less (instr.ReadLength r) = record { as_many = ap (λ n. n + 1) e; covers = c }
  leaves_less (instr.Cut d line) = record { as_many = ap (λ n. n - 1) e; covers = (clear_less, clear_gone, clear_frozen, refl, (c.0, covers_set big.gone small.gone d.array c.1, c.2, refl, c.4)) }
  leaves_less instr.EndCut = uncut_less big.outer small.outer c.4
  leaves_less instr.Sync = record { as_many = e; covers = (clear_less, clear_gone, clear_frozen, refl, c.4) }
  leaves_less (instr.Open kind) = record { as_many = e; covers = (clear_less, clear_gone, clear_frozen, refl, c) }
  leaves_less instr.Close = close_less big.outer small.outer c.4
  leaves_less instr.Print = record { as_many = ap (λ n. n - 1) e; covers = c }
  leaves_less (instr.Reduce k) = record { as_many = ap (λ n. n - 1) e; covers = c }
  leaves_less _ = record { as_many = e; covers = c }

pub table_at : (start : ℕ) (shapes : Shapes) (k : ℕ) → table_of start shapes (start + k) ≡ shape_at (slice_get shapes k)
table_at start shapes k =
    let same : start + k - start ≡ k = omega arith in
    taken (nat_le start (start + k)) (shape_at (slice_get shapes (start + k - start))) None (at_most start (start + k) (omega arith)) ∙ ap (λ j. shape_at (slice_get shapes j)) same

pub leads_at : (start : ℕ) (shapes : Shapes) (k : ℕ) (there s : Shape) → slice_get shapes k ≡ Some (Some there) → there.operands ≡ s.operands
    → CoversEach (blocks_of there) (blocks_of s) → FlowsInto (table_of start shapes) (start + k) s
leads_at start shapes k there s e n c = leads_of (table_of start shapes) (start + k) there s (table_at start shapes k ∙ ap shape_at e) n c

-- a shape flowed to a pc
pub record Came (shapes : Shapes) (k : ℕ) (s : Shape) (new : Shapes) : Type 0 where
  pub was : Option Shape
  pub is : Shape
  pub found : slice_get shapes k ≡ Some was
  pub by : joined was s ≡ Some is
  pub new_is : new ≡ slice_set shapes k (Some is)

pub came : (shapes : Shapes) (k : ℕ) (s : Shape) (new : Shapes) → come shapes k s ≡ Some new → Came shapes k s new
came shapes k s new e = at (slice_get shapes k) refl e
  where
    at : (o : Option (Option Shape)) → slice_get shapes k ≡ o → come_at shapes k s o ≡ Some new → Came shapes k s new
    at None f e = cc
    at (Some was) f e = by (joined was s) refl e
      where
        by : (j : Option Shape) → joined was s ≡ j → option_map (λ t. slice_set shapes k (Some t)) j ≡ Some new → Came shapes k s new
        by None j e = cc
        by (Some is) j e = record { was = was; is = is; found = f; by = j; new_is = sym (same_Some (slice_set shapes k (Some is)) new e) }

-- the facts about a merged shape
record Joins (was : Option Shape) (s is : Shape) : Type 0 where
  pub as_many : is.operands ≡ s.operands
  pub covers : CoversEach (blocks_of is) (blocks_of s)
  pub more : (t : Shape) → was ≡ Some t → Less is t
  pub least : (there : Shape) → ((t : Shape) → was ≡ Some t → CoversEach (blocks_of there) (blocks_of t)) → CoversEach (blocks_of there) (blocks_of s) → CoversEach (blocks_of there) (blocks_of is)

joins : (was : Option Shape) (s is : Shape) → joined was s ≡ Some is → Joins was s is
joins None s is e = subst (λ x. Joins None s x) (same_Some s is e) (record { as_many = refl; covers = each_covers_itself (blocks_of s); more = λ t q. cc; least = λ there h c. c })
joins (Some t) s is e = by (can_meet t s) refl e
  where
    by : (b : Bool) → can_meet t s ≡ b → (if b then Some (met t s) else None) ≡ Some is → Joins (Some t) s is
    by false b e = cc
    by true b e =
        let n = eq_of t.operands s.operands (first_true (nat_eq t.operands s.operands) (are_alike (blocks_of t) (blocks_of s)) b) in
        let m = second_true (nat_eq t.operands s.operands) (are_alike (blocks_of t) (blocks_of s)) b in
        subst (λ x. Joins (Some t) s x) (same_Some (met t s) is e) (record {
          as_many = n;
          covers = each_second (blocks_of t) (blocks_of s) m;
          more = λ u q.
              let same : t ≡ u = same_Some t u q in
              subst (λ (x : Shape). Less (met t s) x) same (record { as_many = refl; covers = each_first (blocks_of t) (blocks_of s) });
          least = λ there h c. each_either (blocks_of there) (blocks_of t) (blocks_of s) (h t refl) c;
        })

module _ (start : ℕ) (shapes : Shapes) (k : ℕ) (s : Shape) (new : Shapes) (e : come shapes k s ≡ Some new) where
  pub come_length : length new ≡ length shapes
  come_length = let c = came shapes k s new e in ap length c.new_is ∙ length-set shapes k (Some c.is)

  at_place : slice_get new k ≡ Some (Some (came shapes k s new e).is)
  at_place =
      let c = came shapes k s new e in
      ap (λ l. slice_get l k) c.new_is ∙ get_set shapes k (Some c.is) (slice_get_within shapes k c.was c.found)

  come_leads : FlowsInto (table_of start new) (start + k) s
  come_leads =
      let c = came shapes k s new e in
      let j = joins c.was s c.is c.by in
      leads_at start new k c.is s at_place j.as_many j.covers

  come_grows : Grows start shapes new
  come_grows = λ i x f.
      let c = came shapes k s new e in
      let j = joins c.was s c.is c.by in
      ⊎_elim (λ (q : i ≡ k).
      let was : c.was ≡ Some x = same_Some c.was (Some x) (sym c.found ∙ ap (slice_get shapes) (sym q) ∙ f) in
      let m = j.more x was in
      leads_at start new i c.is x (ap (slice_get new) q ∙ at_place) m.as_many m.covers)
      (λ (q : i ≡ k → ⊥). leads_at start new i x x (ap (λ l. slice_get l i) c.new_is ∙ set_other shapes k i (Some c.is) q ∙ f) refl (each_covers_itself (blocks_of x)))
      (cases_eq i k)

  come_below : (t : Table) → Below start shapes t → FlowsInto t (start + k) s → Below start new t
  come_below t below l = λ i x f.
      let c = came shapes k s new e in
      let j = joins c.was s c.is c.by in
      ⊎_elim (λ (q : i ≡ k).
      let is : c.is ≡ x = same_Some c.is x (same_Some (Some c.is) (Some x) (sym at_place ∙ ap (slice_get new) (sym q) ∙ f)) in
      let least : CoversEach (blocks_of l.there) (blocks_of c.is) = j.least l.there (λ u q.
      let old = below k u (c.found ∙ ap Some q) in
      let same : old.there ≡ l.there = same_Some old.there l.there (sym old.found ∙ l.found) in
      subst (λ (y : Shape). CoversEach (blocks_of y) (blocks_of u)) same (covers_all old)) (covers_all l) in
      let here : FlowsInto t (start + k) c.is = leads_of t (start + k) l.there c.is l.found (l.as_many ∙ sym j.as_many) least in
      subst (λ y. FlowsInto t (start + i) y) is (subst (λ n. FlowsInto t (start + n) c.is) (sym q) here))
      (λ (q : i ≡ k → ⊥). below i x (sym (set_other shapes k i (Some c.is) q) ∙ ap (λ l. slice_get l i) (sym c.new_is) ∙ f))
      (cases_eq i k)

-- a shape that a table takes can be merged
come_goes : (start : ℕ) (shapes : Shapes) (k : ℕ) (s : Shape) (t : Table) → Below start shapes t → FlowsInto t (start + k) s → k < length shapes → come shapes k s ≡ None → ⊥
come_goes start shapes k s t below l lt e = at (slice_get shapes k) refl e
  where
    at : (o : Option (Option Shape)) → slice_get shapes k ≡ o → come_at shapes k s o ≡ None → ⊥
    at None f e = missing shapes k lt f
    at (Some None) f e = cc
    at (Some (Some u)) f e =
        let old = below k u f in
        let same : old.there ≡ l.there = same_Some old.there l.there (sym old.found ∙ l.found) in
        let n : u.operands ≡ s.operands = sym old.as_many ∙ ap (λ (y : Shape). y.operands) same ∙ l.as_many in
        let covers : CoversEach (blocks_of l.there) (blocks_of u) = subst (λ (y : Shape). CoversEach (blocks_of y) (blocks_of u)) same (covers_all old) in
        never (can_meet u s) (both_true (nat_eq u.operands s.operands) (are_alike (blocks_of u) (blocks_of s)) (equal u.operands s.operands n)
        (each_alike (blocks_of l.there) (blocks_of u) (blocks_of s) covers (covers_all l))) (met u s) e
      where
        never : (b : Bool) → b ≡ true → (x : Shape) → option_map (λ t. slice_set shapes k (Some t)) (if b then Some x else None) ≡ None → ⊥
        never true h x e = cc
        never false h x e = cc

had : {x : Shape} (o : Option (Option Shape)) → shape_at o ≡ Some x → o ≡ Some (Some x)
had None e = cc
had (Some o) e = ap Some e

grows_trans : (start : ℕ) (a b c : Shapes) → Grows start a b → Grows start b c → Grows start a c
grows_trans start a b c g h = λ k s f.
    let l = g k s f in
    let was : slice_get b k ≡ Some (Some l.there) = had (slice_get b k) (sym (table_at start b k) ∙ l.found) in
    let m = h k l.there was in
    leads_less (table_of start c) (start + k) l.there s l.as_many (covers_all l) m

-- each of these pcs is at or after `start`
abbrev AllFrom : ℕ → List ℕ → Type 0
AllFrom start [] = Unit {0}
AllFrom start (p ∷ ps) = (start ≤ p) × AllFrom start ps

-- a state that flows into a table still flows into it after the table has grown
pub leads_grown : (start : ℕ) (old new : Shapes) (place : ℕ) (s : Shape) → start ≤ place → Grows start old new → FlowsInto (table_of start old) place s → FlowsInto (table_of start new) place s
leads_grown start old new place s le g l =
    let same : start + (place - start) ≡ place = omega (arith, le) in
    let found : shape_at (slice_get old (place - start)) ≡ Some l.there = sym (table_at start old (place - start)) ∙ ap (table_of start old) same ∙ l.found in
    let more = g (place - start) l.there (had (slice_get old (place - start)) found) in
    leads_less (table_of start new) place l.there s l.as_many (covers_all l) (subst (λ p. FlowsInto (table_of start new) p l.there) same more)

all_grown : (start : ℕ) (old new : Shapes) (s : Shape) (ps : List ℕ) → AllFrom start ps → Grows start old new → FlowsIntoEach (table_of start old) s ps → FlowsIntoEach (table_of start new) s ps
all_grown start old new s [] from g l = tt
all_grown start old new s (p ∷ ps) from g l = (leads_grown start old new p s from.0 g l.0, all_grown start old new s ps from.1 g l.1)

grows_refl : (start : ℕ) (shapes : Shapes) → Grows start shapes shapes
grows_refl start shapes = λ k s f. leads_at start shapes k s s f refl (each_covers_itself (blocks_of s))

-- the facts after a shape flowed to several pcs
record CameAll (start : ℕ) (shapes : Shapes) (ps : List ℕ) (s : Shape) (new : Shapes) : Type 0 where
  pub as_many : length new ≡ length shapes
  pub grows : Grows start shapes new
  pub lead : FlowsIntoEach (table_of start new) s ps
  pub below : (t : Table) → Below start shapes t → FlowsIntoEach t s ps → Below start new t

came_all : (start : ℕ) (ps : List ℕ) (shapes : Shapes) (s : Shape) (new : Shapes) → AllFrom start ps → come_all shapes (map (λ p. p - start) ps) s ≡ Some new → CameAll start shapes ps s new
came_all start [] shapes s new from e =
    let same : shapes ≡ new = same_Some shapes new e in
    subst (λ l. CameAll start shapes [] s l) same (record { as_many = refl; grows = grows_refl start shapes; lead = tt; below = λ t b l. b })
came_all start (p ∷ ps) shapes s new from e = by (λ mid e'. came_all start ps mid s new from.1 e') (come shapes (p - start) s) refl e
  where
    by : ((mid : Shapes) → come_all mid (map (λ q. q - start) ps) s ≡ Some new → CameAll start mid ps s new) → (o : Option Shapes)
        → come shapes (p - start) s ≡ o → then_come o (λ t. come_all t (map (λ q. q - start) ps) s) ≡ Some new → CameAll start shapes (p ∷ ps) s new
    by go None f e = cc
    by go (Some mid) f e =
        let rest = go mid e in
        let same : start + (p - start) ≡ p = omega (arith, from.0) in
        let grows = come_grows start shapes (p - start) s mid f in
        record {
          as_many = rest.as_many ∙ come_length start shapes (p - start) s mid f;
          grows = grows_trans start shapes mid new grows rest.grows;
          lead = (leads_grown start mid new p s from.0 rest.grows (subst (λ q. FlowsInto (table_of start mid) q s) same (come_leads start shapes (p - start) s mid f)), rest.lead);
          below = λ t b l. rest.below t (come_below start shapes (p - start) s mid f t b (subst (λ q. FlowsInto t q s) (sym same) l.0)) l.1;
        }

-- shapes that a table takes can be merged at several pcs
all_come : (start : ℕ) (ps : List ℕ) (shapes : Shapes) (s : Shape) (t : Table) → AllFrom start ps
    → ((p : ℕ) (x : Shape) → FlowsInto t p x → p < start + length shapes) → Below start shapes t → FlowsIntoEach t s ps
    → come_all shapes (map (λ p. p - start) ps) s ≡ None → ⊥
all_come start [] shapes s t from within below l e = cc
all_come start (p ∷ ps) shapes s t from within below l e = by (λ mid w b e'. all_come start ps mid s t from.1 w b l.1 e') (come shapes (p - start) s) refl e
  where
    by : ((mid : Shapes) → ((q : ℕ) (x : Shape) → FlowsInto t q x → q < start + length mid) → Below start mid t
        → come_all mid (map (λ q. q - start) ps) s ≡ None → ⊥) → (o : Option Shapes) → come shapes (p - start) s ≡ o
        → then_come o (λ t. come_all t (map (λ q. q - start) ps) s) ≡ None → ⊥
    by go None f e =
        let same : start + (p - start) ≡ p = omega (arith, from.0) in
        come_goes start shapes (p - start) s t below (subst (λ q. FlowsInto t q s) (sym same) l.0) (omega (arith, within p s l.0, from.0)) f
    by go (Some mid) f e =
        let same : start + (p - start) ≡ p = omega (arith, from.0) in
        let n = come_length start shapes (p - start) s mid f in
        go mid (λ q x m. omega (arith, within q x m, n)) (come_below start shapes (p - start) s mid f t below (subst (λ q. FlowsInto t q s) (sym same) l.0)) e

-- the successors of an instruction are in its function
nexts_from : (code : Code) (f : Func) (place : ℕ) (i : Instr) → f.start ≤ place → names_well code f place i ≡ true → AllFrom f.start (nexts place i)
nexts_from code f place (instr.SkipIfZero k) le n = (omega (arith, le), (omega (arith, le), tt))
nexts_from code f place (instr.GoBack k) le n = (omega (arith, le_of (f.start + k) place n), tt)
nexts_from code f place instr.ReturnValue le n = tt
nexts_from code f place instr.Return le n = tt
nexts_from code f place _ le n = (omega (arith, le), tt)

-- a visit of a reached pc
pub visited_ready : (code : Code) (start : ℕ) (shapes : Shapes) (k : ℕ) (i : Instr) (s : Shape) → slice_get shapes k ≡ Some (Some s)
    → may_act code s i ≡ true → visited code start shapes k i ≡ come_all shapes (next_distances start k i) (leaves code s i)
visited_ready code start shapes k i s e h = ap (visited_at code start shapes k i) e ∙ taken (may_act code s i) (come_all shapes (next_distances start k i) (leaves code s i)) None h

-- a visit of a pc whose instruction may not act
visited_none : (code : Code) (start : ℕ) (shapes : Shapes) (k : ℕ) (i : Instr) (s : Shape) → slice_get shapes k ≡ Some (Some s) → may_act code s i ≡ false → visited code start shapes k i ≡ None
visited_none code start shapes k i s e h = ap (visited_at code start shapes k i) e ∙ not_taken (may_act code s i) (come_all shapes (next_distances start k i) (leaves code s i)) None h

pub visited_unready : (code : Code) (start : ℕ) (shapes : Shapes) (k : ℕ) (i : Instr) (s : Shape) → slice_get shapes k ≡ Some (Some s)
    → is_ready code s i ≡ false → visited code start shapes k i ≡ None
visited_unready code start shapes k i s e h = visited_none code start shapes k i s e (unready code s i h)

pub visited_frozen : (code : Code) (start : ℕ) (shapes : Shapes) (k : ℕ) (i : Instr) (s : Shape) → slice_get shapes k ≡ Some (Some s)
    → is_thawed code s i ≡ false → visited code start shapes k i ≡ None
visited_frozen code start shapes k i s e h = visited_none code start shapes k i s e (frozen code s i h)

-- the facts after an instruction was visited
pub record Visited (code : Code) (f : Func) (shapes new : Shapes) : Type 0 where
  pub as_many : length new ≡ length shapes
  pub grows : Grows f.start shapes new
  pub below : (t : Table) → IsTable code f t → Below f.start shapes t → Below f.start new t

module _ (code : Code) (f : Func) (shapes : Shapes) (k : ℕ) (i : Instr) (is : slice_get code.instrs (f.start + k) ≡ Some i) (named : names_well code f (f.start + k) i ≡ true) where
  abbrev come_after : Bool → Shape → Option Shapes
  come_after b s = if b then come_all shapes (next_distances f.start k i) (leaves code s i) else None

  -- the facts that a table states about a state that flows into it
  taken_as : (t : Table) (s : Shape) → IsTable code f t → FlowsInto t (f.start + k) s → (may_act code s i ≡ true) × FlowsIntoEach t (leaves code s i) (nexts (f.start + k) i)
  taken_as t s table l =
      let ready = table.ready (f.start + k) l.there i l.found is in
      let thawed = table.thawed (f.start + k) l.there i l.found is in
      let goes = table.goes (f.start + k) l.there i l.found is in
      let less = leaves_less code l.there s l.as_many (covers_all l) i in (
        acts_less code l.there s l.as_many (covers_all l) i (may_both code l.there i ready thawed),
        all_less t (nexts (f.start + k) i) (leaves code l.there i) (leaves code s i) less.as_many less.covers goes,
      )

  from : AllFrom f.start (nexts (f.start + k) i)
  from = nexts_from code f (f.start + k) i (omega arith) named

  -- the facts after an instruction that may act was visited
  act_visits : (s : Shape) (new : Shapes) → slice_get shapes k ≡ Some (Some s) → come_all shapes (next_distances f.start k i) (leaves code s i) ≡ Some new → Visited code f shapes new
  act_visits s new found e =
      let c = came_all f.start (nexts (f.start + k) i) shapes (leaves code s i) new from e in
      record { as_many = c.as_many; grows = c.grows; below = λ t table b. c.below t b (taken_as t s table (b k s found)).1 }

  pub visits : (new : Shapes) → visited code f.start shapes k i ≡ Some new → Visited code f shapes new
  visits new e = at (slice_get shapes k) refl
    where
      none : Some shapes ≡ Some new → Visited code f shapes new
      none e = subst (λ l. Visited code f shapes l) (same_Some shapes new e) (record { as_many = refl; grows = grows_refl f.start shapes; below = λ t table b. b })

      at : (o : Option (Option Shape)) → slice_get shapes k ≡ o → Visited code f shapes new
      at None found = none (sym (ap (visited_at code f.start shapes k i) found) ∙ e)
      at (Some None) found = none (sym (ap (visited_at code f.start shapes k i) found) ∙ e)
      at (Some (Some s)) found =
          act_visits s new found (let_through (may_act code s i) (come_all shapes (next_distances f.start k i) (leaves code s i)) new (sym (ap (visited_at code f.start shapes k i) found) ∙ e)).1

  pub visit_goes : (t : Table) → IsTable code f t → Below f.start shapes t → f.start + length shapes ≡ f.end → visited code f.start shapes k i ≡ None → ⊥
  visit_goes t table below whole e = at (slice_get shapes k) refl e
    where
      at : (o : Option (Option Shape)) → slice_get shapes k ≡ o → visited_at code f.start shapes k i o ≡ None → ⊥
      at None found e = cc
      at (Some None) found e = cc
      at (Some (Some s)) found e =
          let h = taken_as t s table (below k s found) in
          all_come f.start (nexts (f.start + k) i) shapes (leaves code s i) t from (λ p x l. omega (arith, (table.within p l.there l.found).1, whole)) below h.1
          (sym (taken (may_act code s i) (come_all shapes (next_distances f.start k i) (leaves code s i)) None h.0) ∙ e)

  -- a visited instruction has what it requires, and its successors have the state after it
  pub visit_done : (s : Shape) (new : Shapes) → slice_get shapes k ≡ Some (Some s) → visited code f.start shapes k i ≡ Some new
      → (may_act code s i ≡ true) × FlowsIntoEach (table_of f.start new) (leaves code s i) (nexts (f.start + k) i)
  visit_done s new found e = by (may_act code s i) refl (sym (ap (visited_at code f.start shapes k i) found) ∙ e)
    where
      by : (b : Bool) → may_act code s i ≡ b → come_after b s ≡ Some new → (may_act code s i ≡ true) × FlowsIntoEach (table_of f.start new) (leaves code s i) (nexts (f.start + k) i)
      by false r e = cc
      by true r e = (r, (came_all f.start (nexts (f.start + k) i) shapes (leaves code s i) new from e).lead)

pub held : (start : ℕ) (shapes : Shapes) (place : ℕ) (s : Shape) → table_of start shapes place ≡ Some s → (start ≤ place) × (slice_get shapes (place - start) ≡ Some (Some s))
held start shapes place s e = by (nat_le start place) refl e
  where
    by : (b : Bool) → nat_le start place ≡ b → (if b then shape_at (slice_get shapes (place - start)) else None) ≡ Some s → (start ≤ place) × (slice_get shapes (place - start) ≡ Some (Some s))
    by false b e = cc
    by true b e = (le_of start place b, had (slice_get shapes (place - start)) e)

-- a pc that was done remains done when other pcs mark more
pub done_grown : (code : Code) (f : Func) (old new : Shapes) (k : ℕ)
    → ((i : Instr) → slice_get code.instrs (f.start + k) ≡ Some i → names_well code f (f.start + k) i ≡ true) → Grows f.start old new
    → slice_get new k ≡ slice_get old k → IsDone code f.start old k → IsDone code f.start new k
done_grown code f old new k named grows same h = λ s i e is.
    let d = h s i (sym same ∙ e) is in
    (d.0, all_grown f.start old new (leaves code s i) (nexts (f.start + k) i) (nexts_from code f (f.start + k) i (omega arith) (named i is)) grows d.1)
