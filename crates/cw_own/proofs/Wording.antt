-- Names that may be read, written and passed, by names and by slots.
use Rattle.std.proofs.Common.{◌≡◌, ◌==◌, Bool, true, false, not, ◌&&◌, ◌||◌, List, [], ◌∷◌, ◌++◌, Option, Some, None, refl, sym, ap, ◌∙◌}
use Rattle.std.specs.List.{list_any}
use Rattle.std.proofs.Math.Bool.{or-false, or_assoc}
use Rattle.cw_facts.specs.Tests.{first_true, second_true}
use Rattle.cw_model.specs.Syntax.{Name, Expr, Number, Variable, Element, Length, Negative, Not, Binary}
use Rattle.cw_model.specs.Names.{same_name, is_among}
use Rattle.cw_model.specs.Typing.{Known, is_int, is_array, is_fine}
use Rattle.cw_model.specs.Ownership.{Taken, is_taken, is_held, are_loose, names_in, Around, NoLoop, InLoop, for_head, is_outer, may_index, keeps_loop, may_read, may_write}
use Rattle.cw_tree.specs.Resolved.{Locals, slot_of, resolved_expr}
use Rattle.cw_tree.specs.Resolved as spec
use Rattle.cw_tree.specs.lemmas.NamedSlots.{one_slot, among_push}
use Rattle.cw_own.specs.Sets.{no_slot, Row}
use Rattle.cw_own.specs.Taken as rows
use Rattle.cw_own.specs.Taken.{int_taken, array_taken, array_held}
use Rattle.cw_own.specs.Rules as rules
use Rattle.cw_own.specs.Rules.{Loop, is_outer_int, is_outer_array}
use Rattle.cw_own.proofs.Showing.{slot_kept, Shows, shows_none, shows_push_int, shows_push_array, int_shown, array_shown}
use Rattle.cw_own.proofs.Knowing.{Knows, array_apart}
use Rattle.cw_own.proofs.Holding.{held, any_holder, no_reader, held_is, taken_is}
use Rattle.cw_own.proofs.Words.{or_none_of}

-- the set of the taken locals
abbrev pub row_of_taken : rows.Taken → Row
row_of_taken t = record { ints = λ k. int_taken t k; arrays = λ k. array_taken t k }

-- the set of the held locals
abbrev pub row_of_held : rows.Taken → Row
row_of_held t = record { ints = λ k. int_taken t k; arrays = λ k. array_held t k }

-- names and slots agree on what is taken and on what is held
pub record Sees (locals : Locals) (taken : Taken) (t : rows.Taken) : Type 0 where
  pub taken_so : Shows locals (is_taken taken) (row_of_taken t)
  pub held_so : Shows locals (is_held taken) (row_of_held t)

-- a known integer, and a known array, is taken by names exactly if it is taken by slots
int_free : (known : Known) (locals : Locals) (taken : Taken) (t : rows.Taken) (x : Name) → Knows known locals → is_int known x ≡ true
    → Sees locals taken t → is_taken taken x ≡ int_taken t (slot_of x locals.ints)
int_free known locals taken t x k h s = int_shown locals (is_taken taken) (row_of_taken t) x (k.apart x (k.ints x h)) s.taken_so

int_loose : (known : Known) (locals : Locals) (taken : Taken) (t : rows.Taken) (x : Name) → Knows known locals → is_int known x ≡ true
    → Sees locals taken t → is_held taken x ≡ int_taken t (slot_of x locals.ints)
int_loose known locals taken t x k h s = int_shown locals (is_held taken) (row_of_held t) x (k.apart x (k.ints x h)) s.held_so

array_free : (known : Known) (locals : Locals) (taken : Taken) (t : rows.Taken) (x : Name) → Knows known locals → is_array known x ≡ true
    → Sees locals taken t → is_taken taken x ≡ array_taken t (slot_of x locals.arrays)
array_free known locals taken t x k h s = array_shown locals (is_taken taken) (row_of_taken t) x (array_apart known locals x k (k.arrays x h)) s.taken_so

array_loose : (known : Known) (locals : Locals) (taken : Taken) (t : rows.Taken) (x : Name) → Knows known locals → is_array known x ≡ true
    → Sees locals taken t → is_held taken x ≡ array_held t (slot_of x locals.arrays)
array_loose known locals taken t x k h s = array_shown locals (is_held taken) (row_of_held t) x (array_apart known locals x k (k.arrays x h)) s.held_so

-- a loop, by names and by slots
pub record Inner (locals : Locals) (outer : List Name) (variable : Name) (over : List Name) (l : Loop) : Type 0 where
  pub outside : Shows locals (λ x. is_among x outer) l.outer
  pub known : is_among variable locals.ints ≡ true
  pub slot : l.variable ≡ slot_of variable locals.ints
  pub arrays : Shows locals (λ x. is_among x over) (record { ints = no_slot; arrays = l.over })

abbrev pub Rounds : Locals → Around → Option Loop → Type 0
Rounds locals NoLoop None = Unit {0}
Rounds locals NoLoop (Some l) = ⊥
Rounds locals (InLoop outer i over) None = ⊥
Rounds locals (InLoop outer i over) (Some l) = Inner locals outer i over l

pub rounds_int : (locals : Locals) (around : Around) (l : Option Loop) (y : Name) → Rounds locals around l → Rounds (spec.with_int y locals) around l
rounds_int locals NoLoop None y r = r
rounds_int locals NoLoop (Some l) y r = r
rounds_int locals (InLoop outer i over) None y r = r
rounds_int locals (InLoop outer i over) (Some l) y r = record {
  outside = shows_push_int locals y (λ x. is_among x outer) l.outer r.outside;
  known = among_push i locals.ints y ∙ ap (λ b. b || same_name i y) r.known;
  slot = r.slot ∙ sym (slot_kept i locals.ints y r.known);
  arrays = shows_push_int locals y (λ x. is_among x over) (record { ints = no_slot; arrays = l.over }) r.arrays;
}

pub rounds_array : (locals : Locals) (around : Around) (l : Option Loop) (y : Name) → Rounds locals around l → Rounds (spec.with_array y locals) around l
rounds_array locals NoLoop None y r = r
rounds_array locals NoLoop (Some l) y r = r
rounds_array locals (InLoop outer i over) None y r = r
rounds_array locals (InLoop outer i over) (Some l) y r = record {
  outside = shows_push_array locals y (λ x. is_among x outer) l.outer r.outside;
  known = r.known;
  slot = r.slot;
  arrays = shows_push_array locals y (λ x. is_among x over) (record { ints = no_slot; arrays = l.over }) r.arrays;
}

pub rounds_head : (locals : Locals) (around : Around) (l : Option Loop) → Rounds locals around l → Rounds locals (for_head around) (rules.for_head l)
rounds_head locals NoLoop None r = r
rounds_head locals NoLoop (Some l) r = r
rounds_head locals (InLoop outer i over) None r = r
rounds_head locals (InLoop outer i over) (Some l) r = record { outside = r.outside; known = r.known; slot = r.slot; arrays = shows_none locals }

outer_int : (known : Known) (locals : Locals) (around : Around) (l : Option Loop) (x : Name) → Knows known locals → is_int known x ≡ true
    → Rounds locals around l → is_outer around x ≡ is_outer_int l (slot_of x locals.ints)
outer_int known locals NoLoop None x k h r = refl
outer_int known locals NoLoop (Some l) x k h r = absurd r
outer_int known locals (InLoop outer i over) None x k h r = absurd r
outer_int known locals (InLoop outer i over) (Some l) x k h r = int_shown locals (λ x. is_among x outer) l.outer x (k.apart x (k.ints x h)) r.outside

outer_array : (known : Known) (locals : Locals) (around : Around) (l : Option Loop) (x : Name) → Knows known locals → is_array known x ≡ true
    → Rounds locals around l → is_outer around x ≡ is_outer_array l (slot_of x locals.arrays)
outer_array known locals NoLoop None x k h r = refl
outer_array known locals NoLoop (Some l) x k h r = absurd r
outer_array known locals (InLoop outer i over) None x k h r = absurd r
outer_array known locals (InLoop outer i over) (Some l) x k h r = array_shown locals (λ x. is_among x outer) l.outer x (array_apart known locals x k (k.arrays x h)) r.outside

pub index_same : (known : Known) (locals : Locals) (around : Around) (l : Option Loop) (a : Name) (e : Expr) → Knows known locals
    → is_array known a ≡ true → is_fine known e ≡ true → Rounds locals around l →
    may_index around a e ≡ rules.may_index l (slot_of a locals.arrays) (resolved_expr locals e)
index_same known locals NoLoop None a e k h f r = refl
index_same known locals NoLoop (Some l) a e k h f r = absurd r
index_same known locals (InLoop outer i over) None a e k h f r = absurd r
index_same known locals (InLoop outer i over) (Some l) a e k h f r = by e f
  where
    out : not (is_among a outer) ≡ not (l.outer.arrays (slot_of a locals.arrays))
    out = ap not (array_shown locals (λ x. is_among x outer) l.outer a (array_apart known locals a k (k.arrays a h)) r.outside)

    plain_one : not (is_among a outer) ≡ (not (l.outer.arrays (slot_of a locals.arrays)) || (l.over (slot_of a locals.arrays) && false))
    plain_one = out ∙ or_none_of (not (l.outer.arrays (slot_of a locals.arrays))) (l.over (slot_of a locals.arrays))

    by : (e : Expr) → is_fine known e ≡ true → may_index (InLoop outer i over) a e
        ≡ (not (l.outer.arrays (slot_of a locals.arrays)) || (l.over (slot_of a locals.arrays) && rules.is_variable l.variable (resolved_expr locals e)))
    by (Variable j) f =
        ap (λ b. b || (is_among a over && same_name i j)) out
        ∙ ap (λ b. not (l.outer.arrays (slot_of a locals.arrays)) || (b && same_name i j))
        (array_shown locals (λ x. is_among x over) (record { ints = no_slot; arrays = l.over }) a (array_apart known locals a k (k.arrays a h)) r.arrays)
        ∙ ap (λ b. not (l.outer.arrays (slot_of a locals.arrays)) || (l.over (slot_of a locals.arrays) && b))
        (sym (one_slot i j locals.ints (k.ints j f)) ∙ ap (λ s. s == slot_of j locals.ints) (sym r.slot))
    by (Number n) f = plain_one
    by (Element b e) f = plain_one
    by (Length b) f = plain_one
    by (Negative e) f = plain_one
    by (Not e) f = plain_one
    by (Binary o d e) f = plain_one

one_word : (b : Bool) → (not (b || false) && true) ≡ not b
one_word true = refl
one_word false = refl

pub any_append : {A : Type 0} (p : A → Bool) (xs ys : List A) → list_any p (xs ++ ys) ≡ (list_any p xs || list_any p ys)
any_append p [] ys = refl
any_append p (x ∷ xs) ys = ap (λ b. p x || b) (any_append p xs ys) ∙ sym (or_assoc (p x) (list_any p xs) (list_any p ys))

element_words : (t n m l : Bool) → (not (t || n) && (m && l)) ≡ ((not t && m) && (not n && l))
element_words true n m l = refl
element_words false true true l = refl
element_words false true false l = refl
element_words false false true l = refl
element_words false false false l = refl

pub read_same : (known : Known) (locals : Locals) (around : Around) (l : Option Loop) (taken : Taken) (t : rows.Taken) (e : Expr)
    → Knows known locals → is_fine known e ≡ true → Rounds locals around l → Sees locals taken t →
    may_read around taken e ≡ rules.may_read l t (resolved_expr locals e)
read_same known locals around l taken t (Number n) k f r s = refl
read_same known locals around l taken t (Variable x) k f r s = one_word (is_taken taken x) ∙ ap not (int_free known locals taken t x k f s)
read_same known locals around l taken t (Element a e) k f r s =
    let array = first_true (is_array known a) (is_fine known e) f in
    let index = second_true (is_array known a) (is_fine known e) f in
    element_words (is_taken taken a) (list_any (λ x. is_taken taken x) (names_in e)) (may_index around a e) (keeps_loop around e)
    ∙ ap (λ b. (not b && may_index around a e) && (not (list_any (λ x. is_taken taken x) (names_in e)) && keeps_loop around e)) (array_free known locals taken t a k array s)
    ∙ ap (λ b. (not (array_taken t (slot_of a locals.arrays)) && b) && (not (list_any (λ x. is_taken taken x) (names_in e)) && keeps_loop around e))
    (index_same known locals around l a e k array index r)
    ∙ ap (λ b. (not (array_taken t (slot_of a locals.arrays)) && rules.may_index l (slot_of a locals.arrays) (resolved_expr locals e)) && b) (read_same known locals around l taken t e k index r s)
read_same known locals around l taken t (Length a) k f r s =
    ap (λ b. not b && not (is_outer around a)) (or-false (is_taken taken a) ∙ array_free known locals taken t a k f s)
    ∙ ap (λ b. not (array_taken t (slot_of a locals.arrays)) && not b) (outer_array known locals around l a k f r)
read_same known locals around l taken t (Negative e) k f r s = read_same known locals around l taken t e k f r s
read_same known locals around l taken t (Not e) k f r s = read_same known locals around l taken t e k f r s
read_same known locals around l taken t (Binary o d e) k f r s =
    ap (λ b. not b && (keeps_loop around d && keeps_loop around e)) (any_append (λ x. is_taken taken x) (names_in d) (names_in e))
    ∙ element_words (list_any (λ x. is_taken taken x) (names_in d)) (list_any (λ x. is_taken taken x) (names_in e)) (keeps_loop around d) (keeps_loop around e)
    ∙ ap (λ b. b && (not (list_any (λ x. is_taken taken x) (names_in e)) && keeps_loop around e)) (read_same known locals around l taken t d k (first_true (is_fine known d) (is_fine known e) f) r s)
    ∙ ap (λ b. rules.may_read l t (resolved_expr locals d) && b) (read_same known locals around l taken t e k (second_true (is_fine known d) (is_fine known e) f) r s)

one_written : (a b : Bool) → (not (a || false) && not (b || false)) ≡ (not a && not b)
one_written true b = refl
one_written false true = refl
one_written false false = refl

pub write_same : (known : Known) (locals : Locals) (around : Around) (l : Option Loop) (taken : Taken) (t : rows.Taken) (x : Name)
    → Knows known locals → is_int known x ≡ true → Rounds locals around l → Sees locals taken t →
    may_write around taken (x ∷ []) ≡ rules.may_write l t (slot_of x locals.ints)
write_same known locals around l taken t x k h r s =
    one_written (is_held taken x) (is_outer around x)
    ∙ ap (λ b. not b && not (is_outer around x)) (int_loose known locals taken t x k h s)
    ∙ ap (λ b. not (int_taken t (slot_of x locals.ints)) && not b) (outer_int known locals around l x k h r)

pub pass_same : (known : Known) (locals : Locals) (around : Around) (l : Option Loop) (taken : Taken) (t : rows.Taken) (x : Name)
    → Knows known locals → is_array known x ≡ true → Rounds locals around l → Sees locals taken t →
    may_write around taken (x ∷ []) ≡ rules.may_pass l t (slot_of x locals.arrays)
pass_same known locals around l taken t x k h r s =
    one_written (is_held taken x) (is_outer around x)
    ∙ ap (λ b. not b && not (is_outer around x)) (array_loose known locals taken t x k h s)
    ∙ ap (λ b. not (array_held t (slot_of x locals.arrays)) && not b) (outer_array known locals around l x k h r)

-- the rule for an array that a call only reads agrees by names and by slots
pub lend_same : (known : Known) (locals : Locals) (around : Around) (l : Option Loop) (taken : Taken) (t : rows.Taken) (x : Name)
    → Knows known locals → is_array known x ≡ true → Rounds locals around l → Sees locals taken t →
    (not (is_taken taken x) && not (is_outer around x)) ≡ rules.may_lend l t (slot_of x locals.arrays)
lend_same known locals around l taken t x k h r s =
    ap (λ b. not b && not (is_outer around x)) (array_free known locals taken t x k h s)
    ∙ ap (λ b. not (array_taken t (slot_of x locals.arrays)) && not b) (outer_array known locals around l x k h r)

pub loose_same : (known : Known) (locals : Locals) (taken : Taken) (t : rows.Taken) (x : Name) → Knows known locals → is_array known x ≡ true → Sees locals taken t →
    are_loose taken (x ∷ []) ≡ not (array_held t (slot_of x locals.arrays))
loose_same known locals taken t x k h s = ap not (or-false (is_held taken x) ∙ array_loose known locals taken t x k h s)

-- a name that is not held is not taken
pub held_too : (taken : Taken) (x : Name) → is_held taken x ≡ false → is_taken taken x ≡ false
held_too taken x h = taken_is taken x ∙ less taken (sym (held_is taken x) ∙ h)
  where
    less : (taken : Taken) → held any_holder taken x ≡ false → held no_reader taken x ≡ false
    less [] h = refl
    less (t ∷ taken) h = by (same_name x t.0) (no_reader t.1) h (less taken)
      where
        by : (a b : Bool) → ((a && true) || held any_holder taken x) ≡ false → (held any_holder taken x ≡ false → held no_reader taken x ≡ false) → ((a && b) || held no_reader taken x) ≡ false
        by true b h f = cc
        by false b h f = f h
