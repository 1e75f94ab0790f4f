-- The end of a block, by names and by slots.
use Rattle.std.proofs.Common.{◌≡◌, ℕ, ◌≤◌, nat_lt, Bool, true, false, not, ◌&&◌, ◌||◌, if◌then◌else◌, [], ◌∷◌, ◌++◌, length, refl, sym, arith, length-append}
use Rattle.cw_facts.specs.Tests.{not_lt_of, second_true}
use Rattle.cw_model.specs.declared.syntax.NameKind.TheVariants as name_kind
use Rattle.cw_model.specs.Syntax.{Name, Program, Declare, DeclareArray, Assign, AssignElement, Reduce, Call, Start, Begin, Sync}
use Rattle.cw_model.specs.Syntax.{If, IfElse, While, For, Scope, Cut, Region, Print, Return, Block, End, Then}
use Rattle.cw_model.specs.Lines.{unless}
use Rattle.cw_model.specs.Names.{same_name, is_among}
use Rattle.cw_model.specs.Typing.{Known, Returns, is_new, is_fine, surely_returns, ends_block, faults_in, faults_in_block}
use Rattle.cw_model.specs.Ownership.{own_names}
use Rattle.cw_model.specs.lemmas.Kept.{left_none, right_none, kept}
use Rattle.cw_tree.specs.Resolved.{Locals}
use Rattle.cw_tree.specs.Resolved as spec
use Rattle.cw_own.specs.Sets.{Row, both_rows}
use Rattle.cw_own.proofs.Keeping.{same_rows}
use Rattle.cw_own.proofs.Showing.{Shows, shows_as, shows_row, known_row}
use Rattle.cw_own.proofs.Knowing.{Knows, fresh_name, knows_int, knows_array, shows_drop_int, shows_drop_array}
use Rattle.cw_own.proofs.Fitting.{less}

-- the known locals at the end of a block
abbrev pub all_locals : Locals → Block → Locals
all_locals locals End = locals
all_locals locals (Then line s b) = all_locals (spec.locals_after locals s) b

inside_mask : (k n : ℕ) (r : Bool) → (n ≤ k → r ≡ false) → (nat_lt k n && r) ≡ r
inside_mask k n r free = by (nat_lt k n) refl
  where
    by : (b : Bool) → nat_lt k n ≡ b → (b && r) ≡ r
    by true e = refl
    by false e = sym (free (not_lt_of k n e))

mask_twice : (k n m : ℕ) (r : Bool) → n ≤ m → (nat_lt k n && (nat_lt k m && r)) ≡ (nat_lt k n && r)
mask_twice k n m r le = by (nat_lt k n) (nat_lt k m) refl refl
  where
    by : (a b : Bool) → nat_lt k n ≡ a → nat_lt k m ≡ b → (a && (b && r)) ≡ (a && r)
    by false b e f = refl
    by true true e f = refl
    by true false e f = let g = less k n m le e in cc

pub known_mask : (locals : Locals) (P : Name → Bool) (row : Row) → Shows locals P row → both_rows (known_row locals) row ≡ row
known_mask locals P row s = same_rows (both_rows (known_row locals) row) row
    (λ k. inside_mask k (length locals.ints) (row.ints k) (s.ints_end k))
    (λ k. inside_mask k (length locals.arrays) (row.arrays k) (s.arrays_end k))

pub one_dropped : (a b p : Bool) → (not (if a then true else b) && p) ≡ (not a && (not b && p))
one_dropped true b p = refl
one_dropped false b p = refl

pub drop_block : (program : Program) (returns : Returns) (known : Known) (locals : Locals) (b : Block) (P : Name → Bool) (row : Row) →
    Knows known locals → faults_in_block program returns known b ≡ [] → Shows (all_locals locals b) P row →
    Shows locals (λ x. not (is_among x (own_names b)) && P x) (both_rows (known_row locals) row)
drop_block program returns known locals End P row k fine s =
    shows_row locals P row (both_rows (known_row locals) row) (sym (known_mask locals P row s)) s
drop_block program returns known locals (Then line (Declare y e) b) P row k fine s =
    let here = left_none (unless (is_fine known e && is_new program known y) line) _ fine in
    let rest = right_none (unless (not (surely_returns (Declare y e)) || ends_block b) line) _ (right_none (unless (is_fine known e && is_new program known y) line) _ fine) in
    let fresh = fresh_name program known locals y k (second_true (is_fine known e) (is_new program known y) (kept (is_fine known e && is_new program known y) line here)) in
    let count = length-append locals.ints (y ∷ []) in
    shows_as locals (λ x. not (same_name x y) && (not (is_among x (own_names b)) && P x)) _ _ (λ x. one_dropped (same_name x y) (is_among x (own_names b)) (P x))
    (shows_row locals (λ x. not (same_name x y) && (not (is_among x (own_names b)) && P x))
    (both_rows (known_row locals) (both_rows (known_row (spec.with_int y locals)) row)) (both_rows (known_row locals) row)
    (same_rows (both_rows (known_row locals) (both_rows (known_row (spec.with_int y locals)) row)) (both_rows (known_row locals) row)
    (λ k. mask_twice k (length locals.ints) (length (locals.ints ++ y ∷ [])) (row.ints k) (omega (arith, count)))
    (λ k. mask_twice k (length locals.arrays) (length locals.arrays) (row.arrays k) (omega arith)))
    (shows_drop_int locals y (λ x. not (is_among x (own_names b)) && P x) (both_rows (known_row (spec.with_int y locals)) row) fresh
    (drop_block program returns ((y, name_kind.Integer) ∷ known) (spec.with_int y locals) b P row (knows_int known locals y fresh k) rest s)))
drop_block program returns known locals (Then line (DeclareArray y e) b) P row k fine s =
    let here = left_none (unless (is_fine known e && is_new program known y) line) _ fine in
    let rest = right_none (unless (not (surely_returns (DeclareArray y e)) || ends_block b) line) _ (right_none (unless (is_fine known e && is_new program known y) line) _ fine) in
    let fresh = fresh_name program known locals y k (second_true (is_fine known e) (is_new program known y) (kept (is_fine known e && is_new program known y) line here)) in
    let count = length-append locals.arrays (y ∷ []) in
    shows_as locals (λ x. not (same_name x y) && (not (is_among x (own_names b)) && P x)) _ _ (λ x. one_dropped (same_name x y) (is_among x (own_names b)) (P x))
    (shows_row locals (λ x. not (same_name x y) && (not (is_among x (own_names b)) && P x))
    (both_rows (known_row locals) (both_rows (known_row (spec.with_array y locals)) row)) (both_rows (known_row locals) row)
    (same_rows (both_rows (known_row locals) (both_rows (known_row (spec.with_array y locals)) row)) (both_rows (known_row locals) row)
    (λ k. mask_twice k (length locals.ints) (length locals.ints) (row.ints k) (omega arith))
    (λ k. mask_twice k (length locals.arrays) (length (locals.arrays ++ y ∷ [])) (row.arrays k) (omega (arith, count))))
    (shows_drop_array locals y (λ x. not (is_among x (own_names b)) && P x) (both_rows (known_row (spec.with_array y locals)) row) fresh
    (drop_block program returns ((y, name_kind.Array) ∷ known) (spec.with_array y locals) b P row (knows_array known locals y fresh k) rest s)))
drop_block program returns known locals (Then line (Assign x e) b) P row k fine s =
    drop_block program returns known locals b P row k
    (right_none (unless (not (surely_returns (Assign x e)) || ends_block b) line) _ (right_none (faults_in program returns known line (Assign x e)) _ fine)) s
drop_block program returns known locals (Then line (AssignElement x i e) b) P row k fine s =
    drop_block program returns known locals b P row k
    (right_none (unless (not (surely_returns (AssignElement x i e)) || ends_block b) line) _ (right_none (faults_in program returns known line (AssignElement x i e)) _ fine)) s
drop_block program returns known locals (Then line (Reduce how x e) b) P row k fine s =
    drop_block program returns known locals b P row k
    (right_none (unless (not (surely_returns (Reduce how x e)) || ends_block b) line) _ (right_none (faults_in program returns known line (Reduce how x e)) _ fine)) s
drop_block program returns known locals (Then line (Call kind site target f es) b) P row k fine s =
    drop_block program returns known locals b P row k
    (right_none (unless (not (surely_returns (Call kind site target f es)) || ends_block b) line) _ (right_none (faults_in program returns known line (Call kind site target f es)) _ fine)) s
drop_block program returns known locals (Then line (Start kind f es) b) P row k fine s =
    drop_block program returns known locals b P row k
    (right_none (unless (not (surely_returns (Start kind f es)) || ends_block b) line) _ (right_none (faults_in program returns known line (Start kind f es)) _ fine)) s
drop_block program returns known locals (Then line (Begin f from to captured over) b) P row k fine s =
    drop_block program returns known locals b P row k
    (right_none (unless (not (surely_returns (Begin f from to captured over)) || ends_block b) line) _ (right_none (faults_in program returns known line (Begin f from to captured over)) _ fine)) s
drop_block program returns known locals (Then line Sync b) P row k fine s =
    drop_block program returns known locals b P row k
    (right_none (unless (not (surely_returns Sync) || ends_block b) line) _ (right_none (faults_in program returns known line Sync) _ fine)) s
drop_block program returns known locals (Then line (If e c) b) P row k fine s =
    drop_block program returns known locals b P row k
    (right_none (unless (not (surely_returns (If e c)) || ends_block b) line) _ (right_none (faults_in program returns known line (If e c)) _ fine)) s
drop_block program returns known locals (Then line (IfElse e c d) b) P row k fine s =
    drop_block program returns known locals b P row k
    (right_none (unless (not (surely_returns (IfElse e c d)) || ends_block b) line) _ (right_none (faults_in program returns known line (IfElse e c d)) _ fine)) s
drop_block program returns known locals (Then line (While e c) b) P row k fine s =
    drop_block program returns known locals b P row k
    (right_none (unless (not (surely_returns (While e c)) || ends_block b) line) _ (right_none (faults_in program returns known line (While e c)) _ fine)) s
drop_block program returns known locals (Then line (For x y z from to grain over c) b) P row k fine s =
    drop_block program returns known locals b P row k
    (right_none (unless (not (surely_returns (For x y z from to grain over c)) || ends_block b) line) _ (right_none (faults_in program returns known line (For x y z from to grain over c)) _ fine)) s
drop_block program returns known locals (Then line (Scope c) b) P row k fine s =
    drop_block program returns known locals b P row k
    (right_none (unless (not (surely_returns (Scope c)) || ends_block b) line) _ (right_none (faults_in program returns known line (Scope c)) _ fine)) s
drop_block program returns known locals (Then line (Cut a e l r c) b) P row k fine s =
    drop_block program returns known locals b P row k
    (right_none (unless (not (surely_returns (Cut a e l r c)) || ends_block b) line) _ (right_none (faults_in program returns known line (Cut a e l r c)) _ fine)) s
drop_block program returns known locals (Then line (Region tag c) b) P row k fine s =
    drop_block program returns known locals b P row k
    (right_none (unless (not (surely_returns (Region tag c)) || ends_block b) line) _ (right_none (faults_in program returns known line (Region tag c)) _ fine)) s
drop_block program returns known locals (Then line (Print e) b) P row k fine s =
    drop_block program returns known locals b P row k
    (right_none (unless (not (surely_returns (Print e)) || ends_block b) line) _ (right_none (faults_in program returns known line (Print e)) _ fine)) s
drop_block program returns known locals (Then line (Return e) b) P row k fine s =
    drop_block program returns known locals b P row k
    (right_none (unless (not (surely_returns (Return e)) || ends_block b) line) _ (right_none (faults_in program returns known line (Return e)) _ fine)) s
