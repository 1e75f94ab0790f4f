-- The lines that break a rule, by names and by slots.
use Rattle.std.proofs.Common.{◌≡◌, ℕ, suc, ◌+◌, nat_le, Bool, true, false, not, ◌&&◌, ◌||◌, if◌then◌else◌, List, [], ◌∷◌, ◌++◌, length, map, Option, Some, None, inl, subst, refl, sym, ap, ◌∙◌}
use Rattle.std.specs.List.{list_all}
use Rattle.std.proofs.Math.Bool.{or-false, or-true}
use Rattle.cw_facts.specs.Tests.{first_true, second_true}
use Rattle.cw_model.specs.declared.limits.TheConstants.{MOST_GRAIN}
use Rattle.cw_model.specs.declared.syntax.NameKind.TheVariants as name_kind
use Rattle.cw_model.specs.lemmas.Fits.{writable_array, writable_arrays}
use Rattle.cw_model.specs.Meaning.{function_named}
use Rattle.cw_model.specs.Syntax.{Name, Function, Program, Expr, Stmt, Declare, DeclareArray, Assign, AssignElement, Reduce, Call, Start}
use Rattle.cw_model.specs.Syntax.{Begin, Sync, If, IfElse, While, For, Scope, Cut, Region, Print, Return, Block, End, Then}
use Rattle.cw_model.specs.Lines.{unless, lowest}
use Rattle.cw_model.specs.lemmas.Lowest.{lowest-append, lowest-swap}
use Rattle.cw_model.specs.Names.{same_name, is_among, differ}
use Rattle.cw_model.specs.Typing.{Known, Returns, Nowhere, WithInt, Alone, is_int, is_array, is_writable, is_new, is_fine, may_return, is_reducer, called}
use Rattle.cw_model.specs.Typing.{is_call, declares, surely_returns, ends_block, is_head_of_loop, is_cut, faults_in, faults_in_block}
use Rattle.cw_model.specs.Ownership as own
use Rattle.cw_model.specs.Ownership.{CutOf, Taken, is_taken, is_held, are_loose, freed, Around, InLoop, for_head, may_read, may_write, may_index, left_taken}
use Rattle.cw_model.specs.Ownership.{Declared, declared_by, Closing, Joins, Leaves, taken_after, taken_after_all, owner_faults, owner_faults_in}
use Rattle.cw_model.specs.lemmas.Kept.{left_none, right_none, kept}
use Rattle.cw_model.specs.lemmas.Names.{same_itself}
use Rattle.cw_tree.specs.Resolved.{Locals, Lists, slot_of, use_of}
use Rattle.cw_tree.specs.Resolved as spec
use Rattle.cw_tree.specs.lemmas.NamedSlots.{among_push}
use Rattle.cw_tree.specs.lemmas.Names.{among_more}
use Rattle.cw_own.specs.Sets.{Slots, no_slot, with_slot, Row, with_int, with_array}
use Rattle.cw_own.specs.Taken as rows
use Rattle.cw_own.specs.Taken.{Restrictions, no_restrictions, either_restrictions, int_taken, array_held, known_after, after, after_all, cuts_after, cuts_after_all, gain}
use Rattle.cw_own.specs.Rules as rules
use Rattle.cw_own.specs.Rules.{Loop, with_uses, keeps, left_line, left_lines, left_at_end, seen_by, lines_within, lines_in}
use Rattle.cw_own.proofs.Words.{if_or, four_or}
use Rattle.cw_own.proofs.Keeping.{same_rows, no_more}
use Rattle.cw_own.proofs.Holding.{held, any_holder, no_reader, taken_is, held_is}
use Rattle.cw_own.proofs.Showing.{Shows, shows_as, shows_row, shows_none, shows_int, shows_array, shows_push_int, shows_push_array, int_shown, array_shown, known_row, slot_kept}
use Rattle.cw_own.proofs.Knowing.{Knows, Fresh, fresh_name, array_apart, knows_int, knows_array, known_int, known_array}
use Rattle.cw_own.proofs.Following.{all_of, Holds, Steady, entered, steady_inside, holds_freed, holds_inside, holds_push_int, holds_push_array, holds_cut}
use Rattle.cw_own.proofs.Ending.{all_locals}
use Rattle.cw_own.proofs.After.{Outside, AtTop, known_next, knows_next, top_stays, head_new, new_beside, Cuts, cut_keeps, knows_cut, after_stmt, after_block}
use Rattle.cw_own.proofs.Wording.{row_of_taken, row_of_held, Sees, Inner, Rounds, rounds_int, rounds_array, rounds_head, read_same, write_same, pass_same, loose_same, index_same}
use Rattle.cw_own.proofs.Passing.{slot_call, call_same, differ_named, over_same}

-- two lists have the same least line, also with any line before
pub record Same (xs ys : List ℕ) : Type 0 where
  pub at : (o : Option ℕ) → lowest o xs ≡ lowest o ys

pub same_append : (xs ys zs ws : List ℕ) → Same xs ys → Same zs ws → Same (xs ++ zs) (ys ++ ws)
same_append xs ys zs ws f g = record {
  at = λ o. lowest-append o xs zs ∙ ap (λ p. lowest p zs) (f.at o) ∙ g.at (lowest o ys) ∙ sym (lowest-append o ys ws);
}

-- a line may be moved before other lines
moved : (us bs ts : List ℕ) → Same (bs ++ (us ++ ts)) ((us ++ bs) ++ ts)
moved us bs ts = record {
  at = λ o.
      lowest-append o bs (us ++ ts) ∙ lowest-append (lowest o bs) us ts
      ∙ ap (λ p. lowest p ts) (lowest-swap o bs us ∙ sym (lowest-append o us bs))
      ∙ sym (lowest-append o (us ++ bs) ts);
}

none_after : (xs : List ℕ) → xs ++ [] ≡ xs
none_after [] = refl
none_after (x ∷ xs) = ap (λ r. x ∷ r) (none_after xs)

pub grouped : (xs ys zs : List ℕ) → (xs ++ ys) ++ zs ≡ xs ++ (ys ++ zs)
grouped [] ys zs = refl
grouped (x ∷ xs) ys zs = ap (λ r. x ∷ r) (grouped xs ys zs)

-- a new name has the next slot
pub slot_new : (x : Name) (names : List Name) → is_among x names ≡ false → same_name x x ≡ true → slot_of x (names ++ x ∷ []) ≡ length names
slot_new x [] h e = ap (λ b. if b then 0 else 1) e
slot_new x (y ∷ names) h e = by (same_name x y) h (λ g. slot_new x names g e)
  where
    by : (b : Bool) → (if b then true else is_among x names) ≡ false → (is_among x names ≡ false → slot_of x (names ++ x ∷ []) ≡ length names) →
        (if b then 0 else suc (slot_of x (names ++ x ∷ []))) ≡ suc (length names)
    by true h f = cc
    by false h f = ap suc (f h)

-- a known name keeps its slot
pub record Stays (x : Name) (before after : List Name) : Type 0 where
  pub there : is_among x after ≡ true
  pub slot : slot_of x after ≡ slot_of x before

stays_more : (x y : Name) (before after : List Name) → is_among x before ≡ true → Stays x (before ++ y ∷ []) after → Stays x before after
stays_more x y before after h s = record { there = s.there; slot = s.slot ∙ slot_kept x before y h }

int_stays : (x : Name) (locals : Locals) (b : Block) → is_among x locals.ints ≡ true → Stays x locals.ints (all_locals locals b).ints
int_stays x locals End h = record { there = h; slot = refl }
int_stays x locals (Then line (Declare y e) b) h = stays_more x y locals.ints (all_locals (spec.with_int y locals) b).ints h (int_stays x (spec.with_int y locals) b (among_more x y locals.ints h))
int_stays x locals (Then line (DeclareArray y e) b) h = int_stays x (spec.with_array y locals) b h
int_stays x locals (Then line (Assign v e) b) h = int_stays x locals b h
int_stays x locals (Then line (AssignElement v i e) b) h = int_stays x locals b h
int_stays x locals (Then line (Reduce how v e) b) h = int_stays x locals b h
int_stays x locals (Then line (Call kind site target f es) b) h = int_stays x locals b h
int_stays x locals (Then line (Start kind f es) b) h = int_stays x locals b h
int_stays x locals (Then line (Begin f from to captured over) b) h = int_stays x locals b h
int_stays x locals (Then line Sync b) h = int_stays x locals b h
int_stays x locals (Then line (If e c) b) h = int_stays x locals b h
int_stays x locals (Then line (IfElse e c d) b) h = int_stays x locals b h
int_stays x locals (Then line (While e c) b) h = int_stays x locals b h
int_stays x locals (Then line (For v y z from to grain over c) b) h = int_stays x locals b h
int_stays x locals (Then line (Scope c) b) h = int_stays x locals b h
int_stays x locals (Then line (Cut a e left right c) b) h = int_stays x locals b h
int_stays x locals (Then line (Region tag c) b) h = int_stays x locals b h
int_stays x locals (Then line (Print e) b) h = int_stays x locals b h
int_stays x locals (Then line (Return e) b) h = int_stays x locals b h

array_stays : (x : Name) (locals : Locals) (b : Block) → is_among x locals.arrays ≡ true → Stays x locals.arrays (all_locals locals b).arrays
array_stays x locals End h = record { there = h; slot = refl }
array_stays x locals (Then line (Declare y e) b) h = array_stays x (spec.with_int y locals) b h
array_stays x locals (Then line (DeclareArray y e) b) h = stays_more x y locals.arrays (all_locals (spec.with_array y locals) b).arrays h
    (array_stays x (spec.with_array y locals) b (among_more x y locals.arrays h))
array_stays x locals (Then line (Assign v e) b) h = array_stays x locals b h
array_stays x locals (Then line (AssignElement v i e) b) h = array_stays x locals b h
array_stays x locals (Then line (Reduce how v e) b) h = array_stays x locals b h
array_stays x locals (Then line (Call kind site target f es) b) h = array_stays x locals b h
array_stays x locals (Then line (Start kind f es) b) h = array_stays x locals b h
array_stays x locals (Then line (Begin f from to captured over) b) h = array_stays x locals b h
array_stays x locals (Then line Sync b) h = array_stays x locals b h
array_stays x locals (Then line (If e c) b) h = array_stays x locals b h
array_stays x locals (Then line (IfElse e c d) b) h = array_stays x locals b h
array_stays x locals (Then line (While e c) b) h = array_stays x locals b h
array_stays x locals (Then line (For v y z from to grain over c) b) h = array_stays x locals b h
array_stays x locals (Then line (Scope c) b) h = array_stays x locals b h
array_stays x locals (Then line (Cut a e left right c) b) h = array_stays x locals b h
array_stays x locals (Then line (Region tag c) b) h = array_stays x locals b h
array_stays x locals (Then line (Print e) b) h = array_stays x locals b h
array_stays x locals (Then line (Return e) b) h = array_stays x locals b h

-- at the end of a block, no name is both an integer and an array
pub record KnownEnd (locals : Locals) : Type 0 where
  pub known : Known
  pub knows : Knows known locals

known_end : (program : Program) (returns : Returns) (known : Known) (locals : Locals) (b : Block) → Knows known locals → faults_in_block program returns known b ≡ [] → KnownEnd (all_locals locals b)
known_end program returns known locals End k fine = record { known = known; knows = k }
known_end program returns known locals (Then line s b) k fine =
    known_end program returns (declares s known) (spec.locals_after locals s) b
    (knows_next program returns known locals line s k (left_none (faults_in program returns known line s) _ fine))
    (right_none (unless (not (surely_returns s) || ends_block b) line) (faults_in_block program returns (declares s known) b) (right_none (faults_in program returns known line s) _ fine))

-- a set of known names, by names and by slots
abbrev pub Names : Locals → List Name → Type 0
Names locals known = Shows locals (λ x. is_among x known) (known_row locals)

names_int : (locals : Locals) (x : Name) (known : List Name) → Fresh x locals → Names locals known
    → Shows (spec.with_int x locals) (λ y. is_among y (x ∷ known)) (with_int (length locals.ints) (known_row locals))
names_int locals x known f n =
    let there = among_push x locals.ints x ∙ ap (λ b. is_among x locals.ints || b) (same_itself x) ∙ or-true (is_among x locals.ints) in
    shows_as (spec.with_int x locals) (λ y. same_name y x || is_among y known) (λ y. is_among y (x ∷ known)) _ (λ y. if_or (same_name y x) (is_among y known))
    (shows_row (spec.with_int x locals) (λ y. same_name y x || is_among y known) (with_int (slot_of x (locals.ints ++ x ∷ [])) (known_row locals)) (with_int (length locals.ints) (known_row locals))
    (ap (λ k. with_int k (known_row locals)) (slot_new x locals.ints f.no_int (same_itself x)))
    (shows_int (spec.with_int x locals) x (λ y. is_among y known) (known_row locals) there (shows_push_int locals x (λ y. is_among y known) (known_row locals) n)))

names_array : (locals : Locals) (x : Name) (known : List Name) → Fresh x locals → Names locals known
    → Shows (spec.with_array x locals) (λ y. is_among y (x ∷ known)) (with_array (length locals.arrays) (known_row locals))
names_array locals x known f n =
    let there = among_push x locals.arrays x ∙ ap (λ b. is_among x locals.arrays || b) (same_itself x) ∙ or-true (is_among x locals.arrays) in
    shows_as (spec.with_array x locals) (λ y. same_name y x || is_among y known) (λ y. is_among y (x ∷ known)) _ (λ y. if_or (same_name y x) (is_among y known))
    (shows_row (spec.with_array x locals) (λ y. same_name y x || is_among y known)
    (with_array (slot_of x (locals.arrays ++ x ∷ [])) (known_row locals)) (with_array (length locals.arrays) (known_row locals))
    (ap (λ k. with_array k (known_row locals)) (slot_new x locals.arrays f.no_array (same_itself x)))
    (shows_array (spec.with_array x locals) x (λ y. is_among y known) (known_row locals) there (shows_push_array locals x (λ y. is_among y known) (known_row locals) n)))

pub names_with_int : (locals : Locals) (x : Name) (known : List Name) → Fresh x locals → Names locals known → Names (spec.with_int x locals) (x ∷ known)
names_with_int locals x known f n = shows_row (spec.with_int x locals) (λ y. is_among y (x ∷ known))
    (with_int (length locals.ints) (known_row locals)) (known_row (spec.with_int x locals)) (sym (known_int locals x)) (names_int locals x known f n)

pub names_with_array : (locals : Locals) (x : Name) (known : List Name) → Fresh x locals → Names locals known → Names (spec.with_array x locals) (x ∷ known)
names_with_array locals x known f n = shows_row (spec.with_array x locals) (λ y. is_among y (x ∷ known))
    (with_array (length locals.arrays) (known_row locals)) (known_row (spec.with_array x locals)) (sym (known_array locals x)) (names_array locals x known f n)

fresh_at : (program : Program) (known : Known) (locals : Locals) (x : Name) (e : Expr) (line : ℕ) → Knows known locals → unless (is_fine known e && is_new program known x) line ≡ [] → Fresh x locals
fresh_at program known locals x e line k fine = fresh_name program known locals x k
    (second_true (is_fine known e) (is_new program known x) (kept (is_fine known e && is_new program known x) line fine))

names_next : (program : Program) (returns : Returns) (known : Known) (locals : Locals) (line : ℕ) (s : Stmt) (names : List Name) → Knows known locals
    → faults_in program returns known line s ≡ [] → Names locals names → Names (spec.locals_after locals s) (own.known_after names s)
names_next program returns known locals line (Declare x e) names k fine n = names_with_int locals x names (fresh_at program known locals x e line k fine) n
names_next program returns known locals line (DeclareArray x e) names k fine n = names_with_array locals x names (fresh_at program known locals x e line k fine) n
names_next program returns known locals line (Assign v e) names k fine n = n
names_next program returns known locals line (AssignElement v i e) names k fine n = n
names_next program returns known locals line (Reduce how v e) names k fine n = n
names_next program returns known locals line (Call kind site target f es) names k fine n = n
names_next program returns known locals line (Start kind f es) names k fine n = n
names_next program returns known locals line (Begin f from to captured over) names k fine n = n
names_next program returns known locals line Sync names k fine n = n
names_next program returns known locals line (If e c) names k fine n = n
names_next program returns known locals line (IfElse e c d) names k fine n = n
names_next program returns known locals line (While e c) names k fine n = n
names_next program returns known locals line (For v y z from to grain over c) names k fine n = n
names_next program returns known locals line (Scope c) names k fine n = n
names_next program returns known locals line (Cut a e left right c) names k fine n = n
names_next program returns known locals line (Region tag c) names k fine n = n
names_next program returns known locals line (Print e) names k fine n = n
names_next program returns known locals line (Return e) names k fine n = n

rounds_next : (locals : Locals) (s : Stmt) (around : Around) (l : Option Loop) → Rounds locals around l → Rounds (spec.locals_after locals s) around l
rounds_next locals (Declare x e) around l r = rounds_int locals around l x r
rounds_next locals (DeclareArray x e) around l r = rounds_array locals around l x r
rounds_next locals (Assign v e) around l r = r
rounds_next locals (AssignElement v i e) around l r = r
rounds_next locals (Reduce how v e) around l r = r
rounds_next locals (Call kind site target f es) around l r = r
rounds_next locals (Start kind f es) around l r = r
rounds_next locals (Begin f from to captured over) around l r = r
rounds_next locals Sync around l r = r
rounds_next locals (If e c) around l r = r
rounds_next locals (IfElse e c d) around l r = r
rounds_next locals (While e c) around l r = r
rounds_next locals (For v y z from to grain over c) around l r = r
rounds_next locals (Scope c) around l r = r
rounds_next locals (Cut a e left right c) around l r = r
rounds_next locals (Region tag c) around l r = r
rounds_next locals (Print e) around l r = r
rounds_next locals (Return e) around l r = r

-- the arrays of a loop
over_words : (a b c : Bool) → (a || (b || c)) ≡ ((if b then true else a) || c)
over_words true true c = refl
over_words true false c = refl
over_words false true c = refl
over_words false false c = refl

abbrev arrays_of : Slots → Row
arrays_of set = record { ints = no_slot; arrays = set }

uses_shown : (known : Known) (locals : Locals) (xs : List Name) (P : Name → Bool) (set : Slots) → Knows known locals → list_all (λ a. is_array known a) xs ≡ true → Shows locals P (arrays_of set) →
    Shows locals (λ y. is_among y xs || P y) (arrays_of (with_uses (map (use_of locals.arrays) xs) set))
uses_shown known locals [] P set k h s = s
uses_shown known locals (x ∷ xs) P set k h s =
    let array = k.arrays x (first_true (is_array known x) (list_all (λ a. is_array known a) xs) h) in
    shows_as locals (λ y. is_among y xs || (same_name y x || P y)) (λ y. is_among y (x ∷ xs) || P y) _ (λ y. sym (over_words (is_among y xs) (same_name y x) (P y)))
    (uses_shown known locals xs (λ y. same_name y x || P y) (with_slot (slot_of x locals.arrays) set) k (second_true (is_array known x) (list_all (λ a. is_array known a) xs) h)
    (shows_array locals x P (arrays_of set) array s))

pub over_shown : (known : Known) (locals : Locals) (xs : List Name) → Knows known locals → list_all (λ a. is_array known a) xs ≡ true
    → Shows locals (λ y. is_among y xs) (arrays_of (with_uses (map (use_of locals.arrays) xs) no_slot))
over_shown known locals xs k h =
    shows_as locals (λ y. is_among y xs || false) (λ y. is_among y xs) _ (λ y. sym (or-false (is_among y xs))) (uses_shown known locals xs (λ y. false) no_slot k h (shows_none locals))

-- the locals held, in three parts
abbrev pub taken_rows : Restrictions → Restrictions → Slots → rows.Taken
taken_rows outer here cuts = record { outer = outer; here = here; cuts = cuts }

-- the locals held from outside, by holders and by slots
pub record Stands (depth : ℕ) (outside : Outside) (outer : Restrictions) : Type 0 where
  pub steady : Steady depth outside
  pub taken : outside no_reader ≡ record { ints = outer.ints; arrays = outer.arrays }
  pub held : outside any_holder ≡ record { ints = outer.ints; arrays = λ k. outer.arrays k || outer.frozen k }

pub stands_inside : (depth : ℕ) (outside : Outside) (outer here : Restrictions) → Stands depth outside outer → Stands (depth + 1) (entered outside depth here) (either_restrictions outer here)
stands_inside depth outside outer here s = record {
  steady = steady_inside depth outside here s.steady;
  taken = same_rows (entered outside depth here no_reader) (record { ints = (either_restrictions outer here).ints; arrays = (either_restrictions outer here).arrays })
      (λ k. ap (λ (r : Row). r.ints k || here.ints k) s.taken)
      (λ k. ap (λ (r : Row). r.arrays k || (here.arrays k || false)) s.taken ∙ ap (λ b. outer.arrays k || b) (or-false (here.arrays k)));
  held = same_rows (entered outside depth here any_holder) (record { ints = (either_restrictions outer here).ints; arrays = λ k. (either_restrictions outer here).arrays k || (either_restrictions outer here).frozen k })
      (λ k. ap (λ (r : Row). r.ints k || here.ints k) s.held)
      (λ k. ap (λ (r : Row). r.arrays k || (here.arrays k || here.frozen k)) s.held ∙ four_or (outer.arrays k) (outer.frozen k) (here.arrays k) (here.frozen k));
}

all_held : (a f h z c : Bool) → ((a || f) || ((h || z) || c)) ≡ ((a || (h || c)) || (f || z))
all_held true f h z c = refl
all_held false true true z c = refl
all_held false true false z true = refl
all_held false true false z false = refl
all_held false false true z c = refl
all_held false false false true true = refl
all_held false false false true false = refl
all_held false false false false true = refl
all_held false false false false false = refl

pub sees : (locals : Locals) (depth : ℕ) (outside : Outside) (outer : Restrictions) (taken : Taken) (here : Restrictions) (cuts : Slots) → Stands depth outside outer
    → Holds locals depth outside taken here cuts → Sees locals taken (taken_rows outer here cuts)
sees locals depth outside outer taken here cuts s h = record {
  taken_so =
      shows_as locals (held no_reader taken) (is_taken taken) (row_of_taken (taken_rows outer here cuts)) (taken_is taken)
      (shows_row locals (held no_reader taken) (all_of no_reader depth outside here cuts) (row_of_taken (taken_rows outer here cuts))
      (same_rows (all_of no_reader depth outside here cuts) (row_of_taken (taken_rows outer here cuts))
      (λ k. ap (λ (r : Row). r.ints k || here.ints k) s.taken)
      (λ k. ap (λ (r : Row). r.arrays k || ((here.arrays k || false) || cuts k)) s.taken ∙ ap (λ b. outer.arrays k || (b || cuts k)) (or-false (here.arrays k))))
      (h no_reader));
  held_so =
      shows_as locals (held any_holder taken) (is_held taken) (row_of_held (taken_rows outer here cuts)) (held_is taken)
      (shows_row locals (held any_holder taken) (all_of any_holder depth outside here cuts) (row_of_held (taken_rows outer here cuts))
      (same_rows (all_of any_holder depth outside here cuts) (row_of_held (taken_rows outer here cuts))
      (λ k. ap (λ (r : Row). r.ints k || here.ints k) s.held)
      (λ k. ap (λ (r : Row). r.arrays k || ((here.arrays k || here.frozen k) || cuts k)) s.held ∙ all_held (outer.arrays k) (outer.frozen k) (here.arrays k) (here.frozen k) (cuts k)))
      (h any_holder));
}

-- the locals held at the end of a block
ended : (locals : Locals) (depth : ℕ) (outside : Outside) (outer : Restrictions) (closing : Closing) (taken : Taken) (here : Restrictions) (cuts : Slots)
    → Stands depth outside outer → Holds locals depth outside taken here cuts →
    Sees locals (own.at_end closing depth taken) (rules.at_end closing (taken_rows outer here cuts))
ended locals depth outside outer Joins taken here cuts s h = sees locals depth outside outer (freed depth taken) no_restrictions cuts s (holds_freed locals depth outside taken here cuts s.steady h)
ended locals depth outside outer Leaves taken here cuts s h = sees locals depth outside outer taken here cuts s h

left_int : (x : Name) (slot : ℕ) (locals : Locals) (taken : Taken) (t : rows.Taken) (line : ℕ) → is_among x locals.arrays ≡ false → slot_of x locals.ints ≡ slot → Sees locals taken t →
    unless (not (is_held taken x)) line ≡ unless (not (int_taken t slot)) line
left_int x slot locals taken t line apart same s =
    ap (λ b. unless (not b) line) (int_shown locals (is_held taken) (row_of_held t) x apart s.held_so ∙ ap (int_taken t) same)

left_array : (x : Name) (slot : ℕ) (locals : Locals) (taken : Taken) (t : rows.Taken) (line : ℕ) → is_among x locals.ints ≡ false → slot_of x locals.arrays ≡ slot → Sees locals taken t →
    unless (not (is_held taken x)) line ≡ unless (not (array_held t slot)) line
left_array x slot locals taken t line apart same s =
    ap (λ b. unless (not b) line) (array_shown locals (is_held taken) (row_of_held t) x apart s.held_so ∙ ap (array_held t) same)

-- a declaration is tested at the end of its block
left_same : (program : Program) (lists : Lists) (returns : Returns) (known : Known) (locals : Locals) (line : ℕ) (s : Stmt) (b : Block)
    (taken : Taken) (t : rows.Taken) (declared : Declared) → Knows known locals → faults_in program returns known line s ≡ [] →
    KnownEnd (all_locals (spec.locals_after locals s) b) → Sees (all_locals (spec.locals_after locals s) b) taken t →
    left_taken (declared_by line s declared) taken ≡ left_line t line (spec.resolved_stmt lists locals s) ++ left_taken declared taken
left_same program lists returns known locals line (Declare x e) b taken t declared k fine e' s =
    let f = fresh_at program known locals x e line k fine in
    let there = among_push x locals.ints x ∙ ap (λ b. is_among x locals.ints || b) (same_itself x) ∙ or-true (is_among x locals.ints) in
    let stays = int_stays x (spec.with_int x locals) b there in
    ap (λ ls. ls ++ left_taken declared taken) (left_int x (length locals.ints) (all_locals (spec.with_int x locals) b) taken t line
    (e'.knows.apart x stays.there) (stays.slot ∙ slot_new x locals.ints f.no_int (same_itself x)) s)
left_same program lists returns known locals line (DeclareArray x e) b taken t declared k fine e' s =
    let f = fresh_at program known locals x e line k fine in
    let there = among_push x locals.arrays x ∙ ap (λ b. is_among x locals.arrays || b) (same_itself x) ∙ or-true (is_among x locals.arrays) in
    let stays = array_stays x (spec.with_array x locals) b there in
    ap (λ ls. ls ++ left_taken declared taken) (left_array x (length locals.arrays) (all_locals (spec.with_array x locals) b) taken t line
    (array_apart e'.known (all_locals (spec.with_array x locals) b) x e'.knows stays.there) (stays.slot ∙ slot_new x locals.arrays f.no_array (same_itself x)) s)
left_same program lists returns known locals line (Assign x v) b taken t declared k fine e' s = refl
left_same program lists returns known locals line (AssignElement x i v) b taken t declared k fine e' s = refl
left_same program lists returns known locals line (Reduce how x v) b taken t declared k fine e' s = refl
left_same program lists returns known locals line (Call kind site target f es) b taken t declared k fine e' s = refl
left_same program lists returns known locals line (Start kind f es) b taken t declared k fine e' s = refl
left_same program lists returns known locals line (Begin f from to captured over) b taken t declared k fine e' s = refl
left_same program lists returns known locals line Sync b taken t declared k fine e' s = refl
left_same program lists returns known locals line (If v c) b taken t declared k fine e' s = refl
left_same program lists returns known locals line (IfElse v c d) b taken t declared k fine e' s = refl
left_same program lists returns known locals line (While v c) b taken t declared k fine e' s = refl
left_same program lists returns known locals line (For x y z from to grain over c) b taken t declared k fine e' s = refl
left_same program lists returns known locals line (Scope c) b taken t declared k fine e' s = refl
left_same program lists returns known locals line (Cut a v l r c) b taken t declared k fine e' s = refl
left_same program lists returns known locals line (Region tag c) b taken t declared k fine e' s = refl
left_same program lists returns known locals line (Print v) b taken t declared k fine e' s = refl
left_same program lists returns known locals line (Return v) b taken t declared k fine e' s = refl

-- one rule, kept by names and by slots
one_rule : (a b : Bool) (line : ℕ) → a ≡ b → Same (unless a line) (unless b line ++ [])
one_rule a b line e = record { at = λ o. ap (λ c. lowest o (unless c line)) e ∙ ap (lowest o) (sym (none_after (unless b line))) }

return_fine : (returns : Returns) (known : Known) (e : Expr) → may_return returns known (Some e) ≡ true → is_fine known e ≡ true
return_fine WithInt known e h = h
return_fine Nowhere known e h = cc
return_fine Alone known e h = cc

both_rules : (a b c d : Bool) → a ≡ b → c ≡ d → (a && c) ≡ (b && d)
both_rules a b c d e f = ap (λ x. x && c) e ∙ ap (λ x. b && x) f

-- a block as a list of lines
pub whole_block : (xs ls es : List ℕ) → Same xs (ls ++ (es ++ [])) → Same xs (ls ++ es)
whole_block xs ls es f = record { at = λ o. f.at o ∙ ap (λ r. lowest o (ls ++ r)) (none_after es) }

-- a rule followed by other lines
rule_and : (a b : Bool) (line : ℕ) (xs ys : List ℕ) → a ≡ b → Same xs ys → Same (unless a line ++ xs) (unless b line ++ ys)
rule_and a b line xs ys e f = same_append (unless a line) (unless b line) xs ys (record { at = λ o. ap (λ c. lowest o (unless c line)) e }) f

-- a block without declarations before it
pub block_whole : (program : Program) (lists : Lists) (names : List Name) (locals : Locals) (depth : ℕ) (outer : Restrictions) (around : Around)
    (l : Option Loop) (closing : Closing) (b : Block) (taken : Taken) (here : Restrictions) (cuts : Slots) →
    Same (owner_faults_in program.functions around names depth closing taken [] b)
    (lines_in l (known_row locals) (taken_rows outer here cuts) (spec.resolved_block lists locals b)
    ++ (left_at_end closing (known_row locals) (taken_rows outer here cuts) (spec.resolved_block lists locals b)
    ++ left_taken [] (own.at_end closing depth (taken_after_all program.functions depth b taken)))) →
    Same (owner_faults_in program.functions around names depth closing taken [] b)
    (lines_in l (known_row locals) (taken_rows outer here cuts) (spec.resolved_block lists locals b) ++ left_at_end closing (known_row locals)
    (taken_rows outer here cuts) (spec.resolved_block lists locals b))
block_whole program lists names locals depth outer around l closing b taken here cuts f =
    whole_block (owner_faults_in program.functions around names depth closing taken [] b) (lines_in l (known_row locals) (taken_rows outer here cuts) (spec.resolved_block lists locals b))
    (left_at_end closing (known_row locals) (taken_rows outer here cuts) (spec.resolved_block lists locals b)) f

-- the parts of a block in another order
together : (here more xs : List ℕ) (ls es : List ℕ) (left' left declared : List ℕ) → Same here xs → Same more (ls ++ (es ++ left'))
    → left' ≡ left ++ declared → Same (here ++ more) ((xs ++ ls) ++ ((left ++ es) ++ declared))
together here more xs ls es left' left declared f g e = record {
  at = λ o.
      (same_append here xs more (ls ++ (es ++ left')) f g).at o
      ∙ ap (λ d. lowest o (xs ++ (ls ++ (es ++ d)))) e
      ∙ ap (lowest o) (sym (grouped xs ls (es ++ (left ++ declared))))
      ∙ lowest-append o (xs ++ ls) (es ++ (left ++ declared))
      ∙ (moved left es declared).at (lowest o (xs ++ ls))
      ∙ sym (lowest-append o (xs ++ ls) ((left ++ es) ++ declared));
}

cut_at : (program : Program) (known : Known) (a : Name) (e : Expr) (l r : Name) → is_cut program known a e l r ≡ true → is_fine known e ≡ true
cut_at program known a e l r h =
    second_true (is_writable known a) (is_fine known e) (first_true (is_writable known a && is_fine known e) (is_new program known l)
    (first_true (is_writable known a && is_fine known e && is_new program known l) (is_new program known r)
    (first_true (is_writable known a && is_fine known e && is_new program known l && is_new program known r) (not (same_name l r)) h)))

cut_fresh : (program : Program) (known : Known) (locals : Locals) (a l r : Name) → Knows known locals → Cuts program known a l r → Fresh r (spec.with_array l locals)
cut_fresh program known locals a l r k c =
    fresh_name program ((l, name_kind.Array) ∷ known) (spec.with_array l locals) r
    (knows_array known locals l (fresh_name program known locals l k c.left) k) (new_beside program known l r c.right c.apart)

-- the head of a loop that keeps the rules of names and types
record Heads (program : Program) (known : Known) (x : Name) (d e : Expr) (xs : List Name) : Type 0 where
  pub variable : is_new program known x ≡ true
  pub from : is_fine known d ≡ true
  pub to : is_fine known e ≡ true
  pub over : list_all (λ a. is_array known a) xs ≡ true

head_keeps : (program : Program) (known : Known) (x y z : Name) (from to : Expr) (grain : ℕ) (over : List Name)
    → is_head_of_loop program known x y z from to grain over ≡ true → Heads program known x from to over
head_keeps program known x y z from to grain over h =
    let seven = first_true (is_new program known x && same_name y x && same_name z x && is_fine known from && is_fine known to && nat_le 1 grain
    && nat_le grain MOST_GRAIN) (list_all (λ a. is_writable known a) over) h in
    let five = first_true (is_new program known x && same_name y x && same_name z x && is_fine known from && is_fine known to) (nat_le 1 grain)
    (first_true (is_new program known x && same_name y x && same_name z x && is_fine known from && is_fine known to && nat_le 1 grain)
    (nat_le grain MOST_GRAIN) seven) in
    let four = first_true (is_new program known x && same_name y x && same_name z x && is_fine known from) (is_fine known to) five in
    record {
      variable = head_new program known x y z from to grain over h;
      from = second_true (is_new program known x && same_name y x && same_name z x) (is_fine known from) four;
      to = second_true (is_new program known x && same_name y x && same_name z x && is_fine known from) (is_fine known to) five;
      over = writable_arrays known over (second_true (is_new program known x && same_name y x && same_name z x && is_fine known from
          && is_fine known to && nat_le 1 grain && nat_le grain MOST_GRAIN) (list_all (λ a. is_writable known a) over) h);
    }

mutual
  pub stmt_lines : (program : Program) (lists : Lists) → lists.callees ≡ program.functions
      → (returns : Returns) (known : Known) (names : List Name) (locals : Locals) (depth : ℕ) (outside : Outside) (outer : Restrictions) (around : Around)
      (l : Option Loop) (line : ℕ) (s : Stmt) (taken : Taken) (here : Restrictions) (cuts : Slots) →
      Knows known locals → Names locals names → Stands depth outside outer → AtTop returns outside cuts → Rounds locals around l
      → faults_in program returns known line s ≡ [] → Holds locals depth outside taken here cuts →
      Same (owner_faults program.functions around names depth taken line s)
      (unless (keeps l (seen_by (known_row locals) (taken_rows outer here cuts) (spec.resolved_stmt lists locals s)) (spec.resolved_stmt lists locals s)) line
      ++ lines_within l (known_row locals) (seen_by (known_row locals) (taken_rows outer here cuts) (spec.resolved_stmt lists locals s)) (spec.resolved_stmt lists locals s))
  stmt_lines program lists same returns known names locals depth outside outer around l line (Declare x e) taken here cuts k n steady top r fine h =
      one_rule _ _ line (read_same known locals around l taken (taken_rows outer here cuts) e k
      (first_true (is_fine known e) (is_new program known x) (kept (is_fine known e && is_new program known x) line fine)) r
      (sees locals depth outside outer taken here cuts steady h))
  stmt_lines program lists same returns known names locals depth outside outer around l line (DeclareArray x e) taken here cuts k n steady top r fine h =
      one_rule _ _ line (read_same known locals around l taken (taken_rows outer here cuts) e k
      (first_true (is_fine known e) (is_new program known x) (kept (is_fine known e && is_new program known x) line fine)) r
      (sees locals depth outside outer taken here cuts steady h))
  stmt_lines program lists same returns known names locals depth outside outer around l line (Assign x e) taken here cuts k n steady top r fine h =
      let both = kept (is_int known x && is_fine known e) line fine in
      let s = sees locals depth outside outer taken here cuts steady h in
      one_rule _ _ line (both_rules (may_read around taken e) _ (may_write around taken (x ∷ [])) _
      (read_same known locals around l taken (taken_rows outer here cuts) e k (second_true (is_int known x) (is_fine known e) both) r s)
      (write_same known locals around l taken (taken_rows outer here cuts) x k (first_true (is_int known x) (is_fine known e) both) r s))
  stmt_lines program lists same returns known names locals depth outside outer around l line (AssignElement a i e) taken here cuts k n steady top r fine h =
      let all = kept (is_writable known a && is_fine known i && is_fine known e) line fine in
      let two = first_true (is_writable known a && is_fine known i) (is_fine known e) all in
      let array = writable_array known a (first_true (is_writable known a) (is_fine known i) two) in
      let index = second_true (is_writable known a) (is_fine known i) two in
      let s = sees locals depth outside outer taken here cuts steady h in
      let t = taken_rows outer here cuts in
      one_rule _ _ line (both_rules (may_read around taken i && may_read around taken e && are_loose taken (a ∷ [])) _ (may_index around a i) _
      (both_rules (may_read around taken i && may_read around taken e) _ (are_loose taken (a ∷ [])) _
      (both_rules (may_read around taken i) _ (may_read around taken e) _ (read_same known locals around l taken t i k index r s)
      (read_same known locals around l taken t e k (second_true (is_writable known a && is_fine known i) (is_fine known e) all) r s))
      (loose_same known locals taken t a k array s))
      (index_same known locals around l a i k array index r))
  stmt_lines program lists same returns known names locals depth outside outer around l line (Reduce how a e) taken here cuts k n steady top r fine h =
      one_rule _ _ line (read_same known locals around l taken (taken_rows outer here cuts) e k
      (second_true (is_reducer program how a) (is_fine known e) (kept (is_reducer program how a && is_fine known e) line fine)) r
      (sees locals depth outside outer taken here cuts steady h))
  stmt_lines program lists same returns known names locals depth outside outer around l line (Call kind site target f es) taken here cuts k n steady top r fine h =
      subst (λ (fs : List Function). Same (owner_faults program.functions around names depth taken line (Call kind site target f es))
      (unless (slot_call locals l (taken_rows outer here cuts) (function_named f fs).params target es) line ++ []))
      (sym same)
      (one_rule _ _ line (call_same known locals around l taken (taken_rows outer here cuts) program.functions target f es k
      (kept (is_call known target (called f program.functions) es) line fine) r (sees locals depth outside outer taken here cuts steady h)))
  stmt_lines program lists same returns known names locals depth outside outer around l line (Start kind f es) taken here cuts k n steady top r fine h = cc
  stmt_lines program lists same returns known names locals depth outside outer around l line (Begin f from to captured over) taken here cuts k n steady top r fine h = cc
  stmt_lines program lists same returns known names locals depth outside outer around l line Sync taken here cuts k n steady top r fine h = record { at = λ o. refl }
  stmt_lines program lists same returns known names locals depth outside outer around l line (Print e) taken here cuts k n steady top r fine h =
      one_rule _ _ line (read_same known locals around l taken (taken_rows outer here cuts) e k (kept (is_fine known e) line fine) r (sees locals depth outside outer taken here cuts steady h))
  stmt_lines program lists same returns known names locals depth outside outer around l line (Return None) taken here cuts k n steady top r fine h = record { at = λ o. refl }
  stmt_lines program lists same returns known names locals depth outside outer around l line (Return (Some e)) taken here cuts k n steady top r fine h =
      one_rule _ _ line (read_same known locals around l taken (taken_rows outer here cuts) e k
      (return_fine returns known e (kept (may_return returns known (Some e)) line fine)) r (sees locals depth outside outer taken here cuts steady h))
  stmt_lines program lists same returns known names locals depth outside outer around l line (If e b) taken here cuts k n steady top r fine h =
      let rest = right_none (unless (is_fine known e) line) (faults_in_block program returns known b) fine in
      let test = kept (is_fine known e) line (left_none (unless (is_fine known e) line) (faults_in_block program returns known b) fine) in
      rule_and _ _ line _ _ (read_same known locals around l taken (taken_rows outer here cuts) e k test r (sees locals depth outside outer taken here cuts steady h))
      (block_whole program lists names locals depth outer around l Leaves b taken here cuts
      (block_lines program lists same returns known names locals depth outside outer around l Leaves b taken here cuts [] k n steady top r rest h))
  stmt_lines program lists same returns known names locals depth outside outer around l line (IfElse e b c) taken here cuts k n steady top r fine h =
      let rest = right_none (unless (is_fine known e) line) (faults_in_block program returns known b ++ faults_in_block program returns known c) fine in
      let test = kept (is_fine known e) line (left_none (unless (is_fine known e) line) (faults_in_block program returns known b ++ faults_in_block program returns known c) fine) in
      rule_and _ _ line _ _ (read_same known locals around l taken (taken_rows outer here cuts) e k test r (sees locals depth outside outer taken here cuts steady h))
      (same_append _ _ _ _
      (block_whole program lists names locals depth outer around l Leaves b taken here cuts
      (block_lines program lists same returns known names locals depth outside outer around l Leaves b taken here cuts [] k n steady top r
      (left_none (faults_in_block program returns known b) (faults_in_block program returns known c) rest) h))
      (block_whole program lists names locals depth outer around l Leaves c taken here cuts
      (block_lines program lists same returns known names locals depth outside outer around l Leaves c taken here cuts [] k n steady top r
      (right_none (faults_in_block program returns known b) (faults_in_block program returns known c) rest) h)))
  stmt_lines program lists same returns known names locals depth outside outer around l line (While e b) taken here cuts k n steady top r fine h =
      let rest = right_none (unless (is_fine known e) line) (faults_in_block program returns known b) fine in
      let test = kept (is_fine known e) line (left_none (unless (is_fine known e) line) (faults_in_block program returns known b) fine) in
      let more = either_restrictions here (gain (known_row locals) (spec.resolved_block lists locals b)) in
      let turns = after_stmt program lists same returns known locals depth outside line (While e b) taken here cuts k steady.steady top fine h in
      rule_and _ _ line _ _ (read_same known locals around l (taken_after program.functions depth (While e b) taken)
      (taken_rows outer more cuts) e k test r (sees locals depth outside outer (taken_after program.functions depth (While e b) taken) more cuts steady turns))
      (block_whole program lists names locals depth outer around l Leaves b (taken_after program.functions depth (While e b) taken) more cuts
      (block_lines program lists same returns known names locals depth outside outer around l Leaves b
      (taken_after program.functions depth (While e b) taken) more cuts [] k n steady top r rest turns))
  stmt_lines program lists same returns known names locals depth outside outer around l line (Scope b) taken here cuts k n steady top r fine h =
      block_whole program lists names locals (depth + 1) (either_restrictions outer here) around l Joins b taken no_restrictions cuts
      (block_lines program lists same Nowhere known names locals (depth + 1) (entered outside depth here)
      (either_restrictions outer here) around l Joins b taken no_restrictions cuts [] k n (stands_inside depth outside outer here steady) (inl refl) r fine
      (holds_inside locals depth outside taken here cuts h))
  stmt_lines program lists same returns known names locals depth outside outer around l line (Region tag b) taken here cuts k n steady top r fine h =
      block_whole program lists names locals (depth + 1) (either_restrictions outer here) around l Joins b taken no_restrictions cuts
      (block_lines program lists same Nowhere known names locals (depth + 1) (entered outside depth here)
      (either_restrictions outer here) around l Joins b taken no_restrictions cuts [] k n (stands_inside depth outside outer here steady) (inl refl) r fine
      (holds_inside locals depth outside taken here cuts h))
  stmt_lines program lists same returns known names locals depth outside outer around l line (Cut a e left right b) taken here cuts k n steady top r fine h =
      let c = is_cut program known a e left right in
      let whole = kept c line (left_none (unless c line) (faults_in_block program Nowhere ((right, name_kind.Array) ∷ (left, name_kind.Array) ∷ known) b) fine) in
      let keeps = cut_keeps program known a e left right whole in
      let rest = right_none (unless c line) (faults_in_block program Nowhere ((right, name_kind.Array) ∷ (left, name_kind.Array) ∷ known) b) fine in
      let s = sees locals depth outside outer taken here cuts steady h in
      let more = with_slot (slot_of a locals.arrays) cuts in
      let taken' = (a, CutOf) ∷ taken in
      let locals' = spec.with_array right (spec.with_array left locals) in
      let inner = holds_inside locals depth outside taken' here more (holds_cut locals depth outside taken here cuts a (k.arrays a keeps.array) h) in
      let one = fresh_name program known locals left k keeps.left in
      let knows = knows_array known locals left one k in
      let two = cut_fresh program known locals a left right k keeps in
      rule_and _ _ line _ _ (both_rules (may_read around taken e) _ (may_write around taken (a ∷ [])) _
      (read_same known locals around l taken (taken_rows outer here cuts) e k (cut_at program known a e left right whole) r s)
      (pass_same known locals around l taken (taken_rows outer here cuts) a k keeps.array r s))
      (subst (λ m. Same (owner_faults_in program.functions around (right ∷ left ∷ names) (depth + 1) Joins taken' [] b)
      (lines_in l m (taken_rows (either_restrictions outer here) no_restrictions more) (spec.resolved_block lists locals' b)
      ++ left_at_end Joins m (taken_rows (either_restrictions outer here) no_restrictions more) (spec.resolved_block lists locals' b)))
      (known_array (spec.with_array left locals) right ∙ ap (λ m. with_array (length (locals.arrays ++ left ∷ [])) m) (known_array locals left))
      (block_whole program lists (right ∷ left ∷ names) locals' (depth + 1) (either_restrictions outer here) around l Joins b taken' no_restrictions more
      (block_lines program lists same Nowhere ((right, name_kind.Array) ∷ (left, name_kind.Array) ∷ known) (right ∷ left ∷ names) locals'
      (depth + 1) (entered outside depth here) (either_restrictions outer here) around l Joins b taken' no_restrictions more []
      (knows_cut program known locals a left right k keeps) (names_with_array (spec.with_array left locals) right (left ∷ names) two
      (names_with_array locals left names one n)) (stands_inside depth outside outer here steady) (inl refl)
      (rounds_array (spec.with_array left locals) around l right (rounds_array locals around l left r)) rest
      (holds_push_array (spec.with_array left locals) (depth + 1) (entered outside depth here) taken' no_restrictions more right
      (holds_push_array locals (depth + 1) (entered outside depth here) taken' no_restrictions more left inner)))))
  stmt_lines program lists same returns known names locals depth outside outer around l line (For x y z from to grain over b) taken here cuts k n steady top r fine h =
      let c = is_head_of_loop program known x y z from to grain over in
      let whole = kept c line (left_none (unless c line) (faults_in_block program Nowhere ((x, name_kind.Integer) ∷ known) b) fine) in
      let rest = right_none (unless c line) (faults_in_block program Nowhere ((x, name_kind.Integer) ∷ known) b) fine in
      let head = head_keeps program known x y z from to grain over whole in
      let s = sees locals depth outside outer taken here cuts steady h in
      let t = taken_rows outer here cuts in
      let f = fresh_name program known locals x k head.variable in
      let there = among_push x locals.ints x ∙ ap (λ b. is_among x locals.ints || b) (same_itself x) ∙ or-true (is_among x locals.ints) in
      let inner = holds_inside locals depth outside taken here cuts h in
      let loop : Loop = record { outer = with_int (length locals.ints) (known_row locals); variable = length locals.ints; over = with_uses (map (use_of locals.arrays) over) no_slot } in
      let rounds : Inner (spec.with_int x locals) (x ∷ names) x over loop = record {
        outside = names_int locals x names f n;
        known = there;
        slot = sym (slot_new x locals.ints f.no_int (same_itself x));
        arrays = shows_push_int locals x (λ y. is_among y over) (arrays_of (with_uses (map (use_of locals.arrays) over) no_slot)) (over_shown known locals over k head.over);
      } in
      rule_and _ _ line _ _
      (both_rules (may_read (for_head around) taken from && may_read (for_head around) taken to && may_write around taken over) _ (differ over) _
      (both_rules (may_read (for_head around) taken from && may_read (for_head around) taken to) _ (may_write around taken over) _
      (both_rules (may_read (for_head around) taken from) _ (may_read (for_head around) taken to) _
      (read_same known locals (for_head around) (rules.for_head l) taken t from k head.from (rounds_head locals around l r) s)
      (read_same known locals (for_head around) (rules.for_head l) taken t to k head.to (rounds_head locals around l r) s))
      (over_same known locals around l taken t over k head.over r s))
      (differ_named known locals over k head.over))
      (subst (λ m. Same (owner_faults_in program.functions (InLoop (x ∷ names) x over) (x ∷ names) (depth + 1) Joins taken [] b)
      (lines_in (Some loop) m (taken_rows (either_restrictions outer here) no_restrictions cuts) (spec.resolved_block lists (spec.with_int x locals) b)
      ++ left_at_end Joins m (taken_rows (either_restrictions outer here) no_restrictions cuts) (spec.resolved_block lists (spec.with_int x locals) b)))
      (known_int locals x)
      (block_whole program lists (x ∷ names) (spec.with_int x locals) (depth + 1) (either_restrictions outer here) (InLoop (x ∷ names) x over)
      (Some loop) Joins b taken no_restrictions cuts (block_lines program lists same Nowhere ((x, name_kind.Integer) ∷ known) (x ∷ names)
      (spec.with_int x locals) (depth + 1) (entered outside depth here) (either_restrictions outer here) (InLoop (x ∷ names) x over)
      (Some loop) Joins b taken no_restrictions cuts []
      (knows_int known locals x f k) (names_with_int locals x names f n) (stands_inside depth outside outer here steady) (inl refl) rounds rest
      (holds_push_int locals (depth + 1) (entered outside depth here) taken no_restrictions cuts x inner))))

  pub block_lines : (program : Program) (lists : Lists) → lists.callees ≡ program.functions
      → (returns : Returns) (known : Known) (names : List Name) (locals : Locals) (depth : ℕ) (outside : Outside) (outer : Restrictions) (around : Around)
      (l : Option Loop) (closing : Closing) (b : Block) (taken : Taken) (here : Restrictions) (cuts : Slots) (declared : Declared) →
      Knows known locals → Names locals names → Stands depth outside outer → AtTop returns outside cuts → Rounds locals around l
      → faults_in_block program returns known b ≡ [] → Holds locals depth outside taken here cuts →
      Same (owner_faults_in program.functions around names depth closing taken declared b)
      (lines_in l (known_row locals) (taken_rows outer here cuts) (spec.resolved_block lists locals b)
      ++ (left_at_end closing (known_row locals) (taken_rows outer here cuts) (spec.resolved_block lists locals b)
      ++ left_taken declared (own.at_end closing depth (taken_after_all program.functions depth b taken))))
  block_lines program lists same returns known names locals depth outside outer around l closing End taken here cuts declared k n steady top r fine h = record { at = λ o. refl }
  block_lines program lists same returns known names locals depth outside outer around l closing (Then line s b) taken here cuts declared k n steady top r fine h =
      let s' = spec.resolved_stmt lists locals s in
      let b' = spec.resolved_block lists (spec.locals_after locals s) b in
      let first = left_none (faults_in program returns known line s) _ fine in
      let rest = right_none (unless (not (surely_returns s) || ends_block b) line) (faults_in_block program returns (declares s known) b)
      (right_none (faults_in program returns known line s) _ fine) in
      let last = own.at_end closing depth (taken_after_all program.functions depth b (taken_after program.functions depth s taken)) in
      let t = taken_rows outer (after (known_row locals) s' here) (cuts_after s' cuts) in
      let m = known_after (known_row locals) s' in
      let end = rules.at_end closing (rows.taken_after_all m b' t) in
      let whole = after_block program lists same returns known locals depth outside (Then line s b) taken here cuts k steady.steady top fine h in
      let knows = knows_next program returns known locals line s k first in
      let declared_is = left_same program lists returns known locals line s b last end declared k first (known_end program returns (declares s known) (spec.locals_after locals s) b knows rest)
      (ended (all_locals (spec.locals_after locals s) b) depth outside outer closing
      (taken_after_all program.functions depth b (taken_after program.functions depth s taken)) (after_all m b' (after (known_row locals) s' here))
      (cuts_after_all b' (cuts_after s' cuts)) steady whole) in
      let more = subst (λ m. Same (owner_faults_in program.functions around (own.known_after names s) depth closing (taken_after program.functions depth s taken) (declared_by line s declared) b)
      (lines_in l m t b' ++ (left_at_end closing m t b' ++ left_taken (declared_by line s declared) last)))
      (sym (known_next lists locals s))
      (block_lines program lists same returns (declares s known) (own.known_after names s)
      (spec.locals_after locals s) depth outside outer around l closing b (taken_after program.functions depth s taken)
      (after (known_row locals) s' here) (cuts_after s' cuts) (declared_by line s declared)
      knows (names_next program returns known locals line s names k first n) steady (top_stays returns outside cuts (cuts_after s' cuts) (no_more s' cuts) top) (rounds_next locals s around l r) rest
      (after_stmt program lists same returns known locals depth outside line s taken here cuts k steady.steady top first h)) in
      let one = stmt_lines program lists same returns known names locals depth outside outer around l line s taken here cuts k n steady top r first h in
      together _ _ _ (lines_in l m t b') (left_lines end b') _ (left_line end line s') (left_taken declared last) one more declared_is
