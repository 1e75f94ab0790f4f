-- Types and ownership agree with the test of lowerable programs on the names at a statement.
use Rattle.std.proofs.Common.{◌≡◌, Bool, true, false, List, [], ◌∷◌, ◌++◌, refl, sym, ◌∙◌, ap, append_assoc}
use Rattle.std.specs.Prelude.{if◌then◌else◌, not, ◌&&◌, ◌||◌, Option}
use Rattle.std.proofs.lemmas.Bool.{and_parts, or_parts}
use Rattle.cw_facts.specs.Tests.{not_true, both_true, never, refuted}
use Rattle.cw_model.specs.declared.syntax.NameKind.TheVariants as name_kind
use Rattle.cw_model.specs.Syntax.{Name, Expr, Number, Variable, Element, Length, Negative, Not, Binary}
use Rattle.cw_model.specs.Names.{same_name, is_among}
use Rattle.cw_model.specs.Captured.{read_by}
use Rattle.cw_model.specs.Typing.{Known, is_int, is_array, Returns, may_return}
use Rattle.cw_model.specs.Ownership.{Around, NoLoop, InLoop, for_head, is_outer, may_index, keeps_loop}
use Rattle.cw_model.specs.lemmas.Names.{same_itself}
use Rattle.cw_loops.specs.Lowered.{is_plain}
use Rattle.cw_loops.specs.Lowerable.{Surroundings, can_write, can_read, is_local, is_variable, can_evaluate}
use Rattle.cw_loops.specs.SourceLike.{is_source_expr}
use Rattle.cw_loops.specs.lemmas.Naming.{among_left, among_right, neither_among, pushed, passed}
use Rattle.cw_loops.specs.lemmas.Knowing.{Unknown, not_both, known_more, known_array_more}

-- both agree for each name: on its kind, on the names outside of the loop, and on the allowed uses of the name
pub record Agree (c : Surroundings) (ints arrays : List Name) (known : Known) (owners : List Name) (around : Around) (returns : Returns) : Type 0 where
  pub ints_are : (x : Name) → is_int known x ≡ is_among x (c.outer ++ ints)
  pub arrays_are : (x : Name) → is_array known x ≡ is_among x (c.arrays ++ arrays)
  pub owners_are : (x : Name) → is_among x owners ≡ (is_int known x || is_array known x)
  pub outer_is : (x : Name) → is_outer around x ≡ (is_among x c.outer || is_among x c.arrays)
  pub sliced_known : (x : Name) → is_among x c.sliced ≡ true → is_among x c.arrays ≡ true
  pub over_known : (x : Name) → is_among x c.over ≡ true → is_among x c.arrays ≡ true
  pub given_known : (x : Name) → is_plain x ≡ true → is_among x c.given ≡ true → is_among x c.outer ≡ true
  pub indexed : (a : Name) (e : Expr) → may_index around a e ≡ true → is_among a c.over ≡ true → is_variable c e ≡ true
  pub not_indexed : (a : Name) (e : Expr) → may_index around a e ≡ true → is_among a c.over ≡ false → is_outer around a ≡ false
  pub may : (known' : Known) (e : Option Expr) → may_return returns known' e ≡ true → c.returns ≡ true

-- a name that is read in a loop's function has the value that it has in the source
abbrev pub reads_well : Surroundings → Name → Bool
reads_well c x = is_among x c.shared || not (is_among x c.outer)

abbrev pub AllReadWell : Surroundings → List Name → Type 0
AllReadWell c xs = (x : Name) → is_among x xs ≡ true → reads_well c x ≡ true

pub first_well : (c : Surroundings) (xs ys : List Name) → AllReadWell c (xs ++ ys) → AllReadWell c xs
first_well c xs ys h x o = h x (among_left x xs ys o)

pub second_well : (c : Surroundings) (xs ys : List Name) → AllReadWell c (xs ++ ys) → AllReadWell c ys
second_well c xs ys h x o = h x (among_right x xs ys o)

module _ {c : Surroundings} {ints arrays : List Name} {known : Known} {owners : List Name} {around : Around} {returns : Returns} (agree : Agree c ints arrays known owners around returns) where
  pub outside : (x : Name) → is_outer around x ≡ false → (is_among x c.outer ≡ false) × (is_among x c.arrays ≡ false)
  outside x h = or_parts (is_among x c.outer) (is_among x c.arrays) (sym (agree.outer_is x) ∙ h)

  pub local_from : (x : Name) → is_among x c.arrays ≡ false → is_local c x ≡ true
  local_from x h =
      let over : is_among x c.over ≡ false = refuted (is_among x c.over) (λ o. never (is_among x c.arrays) (agree.over_known x o) h) in
      let sliced : is_among x c.sliced ≡ false = refuted (is_among x c.sliced) (λ o. never (is_among x c.arrays) (agree.sliced_known x o) h) in
      both_true (not (is_among x c.arrays)) _ (ap not h) (both_true (not (is_among x c.over)) _ (ap not over) (ap not sliced))

  pub write_from : (x : Name) → is_plain x ≡ true → is_among x c.outer ≡ false → can_write c x ≡ true
  write_from x plain h =
      let given : is_among x c.given ≡ false = refuted (is_among x c.given) (λ o. never (is_among x c.outer) (agree.given_known x plain o) h) in
      both_true (not (is_among x c.outer)) _ (ap not h) (ap not given)

  pub read_from : (x : Name) → is_plain x ≡ true → reads_well c x ≡ true → can_read c x ≡ true
  read_from x plain h = go (is_among x c.shared) h
    where
      go : (b : Bool) → (b || not (is_among x c.outer)) ≡ true → (b || can_write c x) ≡ true
      go true g = refl
      go false g = write_from x plain (not_true _ g)

  pub int_local : (x : Name) → is_int known x ≡ true → is_local c x ≡ true
  int_local x h = local_from x (neither_among x c.arrays arrays (sym (agree.arrays_are x) ∙ not_both known x h)).0

  pub expr_can : (e : Expr) → is_source_expr e ≡ true → keeps_loop around e ≡ true → AllReadWell c (read_by e) → can_evaluate c e ≡ true
  expr_can (Number n) source keeps well = source
  expr_can (Variable x) source keeps well = read_from x source (well x (ap (λ b. if b then true else false) (same_itself x)))
  expr_can (Element a e) source keeps well =
      let s = and_parts (is_plain a) (is_source_expr e) source in
      let k = and_parts (may_index around a e) (keeps_loop around e) keeps in
      go (is_among a c.over) refl k.0 (expr_can e s.1 k.1 well)
    where
      go : (b : Bool) → is_among a c.over ≡ b → may_index around a e ≡ true → can_evaluate c e ≡ true → (if b then is_variable c e else (is_local c a && can_evaluate c e)) ≡ true
      go true o may more = agree.indexed a e may o
      go false o may more = both_true (is_local c a) (can_evaluate c e) (local_from a (outside a (agree.not_indexed a e may o)).1) more
  expr_can (Length a) source keeps well = local_from a (outside a (not_true (is_outer around a) keeps)).1
  expr_can (Negative e) source keeps well = expr_can e source keeps well
  expr_can (Not e) source keeps well = expr_can e source keeps well
  expr_can (Binary operator d e) source keeps well =
      let s = and_parts (is_source_expr d) (is_source_expr e) source in
      let k = and_parts (keeps_loop around d) (keeps_loop around e) keeps in
      both_true (can_evaluate c d) (can_evaluate c e) (expr_can d s.0 k.0 (first_well c (read_by d) (read_by e) well)) (expr_can e s.1 k.1 (second_well c (read_by d) (read_by e) well))

-- the rule for the head of a loop is stricter than the rule for the other statements
pub head_keeps : (around : Around) (e : Expr) → keeps_loop (for_head around) e ≡ true → keeps_loop around e ≡ true
head_keeps NoLoop e h = h
head_keeps (InLoop outer i over) (Number n) h = refl
head_keeps (InLoop outer i over) (Variable x) h = refl
head_keeps (InLoop outer i over) (Element a e) h =
    let k = and_parts (may_index (InLoop outer i []) a e) (keeps_loop (InLoop outer i []) e) h in
    both_true (may_index (InLoop outer i over) a e) (keeps_loop (InLoop outer i over) e) (index e k.0) (head_keeps (InLoop outer i over) e k.1)
  where
    by : (b : Bool) (j : Name) → (not b || false) ≡ true → (not b || (is_among a over && same_name i j)) ≡ true
    by true j g = absurd cc
    by false j g = refl

    index : (e : Expr) → may_index (InLoop outer i []) a e ≡ true → may_index (InLoop outer i over) a e ≡ true
    index (Number n) g = g
    index (Variable j) g = by (is_among a outer) j g
    index (Element b e) g = g
    index (Length b) g = g
    index (Negative e) g = g
    index (Not e) g = g
    index (Binary operator d e) g = g
head_keeps (InLoop outer i over) (Length a) h = h
head_keeps (InLoop outer i over) (Negative e) h = head_keeps (InLoop outer i over) e h
head_keeps (InLoop outer i over) (Not e) h = head_keeps (InLoop outer i over) e h
head_keeps (InLoop outer i over) (Binary operator d e) h =
    let k = and_parts (keeps_loop (InLoop outer i []) d) (keeps_loop (InLoop outer i []) e) h in
    both_true (keeps_loop (InLoop outer i over) d) (keeps_loop (InLoop outer i over) e) (head_keeps (InLoop outer i over) d k.0) (head_keeps (InLoop outer i over) e k.1)

module _ {c : Surroundings} {ints arrays : List Name} {known : Known} {owners : List Name} {around : Around} {returns : Returns} (agree : Agree c ints arrays known owners around returns) where
  pub with_int : (y : Name) → Unknown known y → Agree c (ints ++ y ∷ []) arrays ((y, name_kind.Integer) ∷ known) (y ∷ owners) around returns
  with_int y fresh = record {
    ints_are = λ x. pushed x y (c.outer ++ ints) (is_int known x) (agree.ints_are x) ∙ ap (is_among x) (append_assoc c.outer ints (y ∷ []));
    arrays_are = λ x. passed x y (c.arrays ++ arrays) (is_array known x) (agree.arrays_are x) (sym (agree.arrays_are y) ∙ fresh.no_array);
    owners_are = λ x. known_more x y owners (is_int known x) (is_array known x) (agree.owners_are x);
    outer_is = agree.outer_is;
    sliced_known = agree.sliced_known;
    over_known = agree.over_known;
    given_known = agree.given_known;
    indexed = agree.indexed;
    not_indexed = agree.not_indexed;
    may = agree.may;
  }

  pub with_array : (y : Name) → Unknown known y → Agree c ints (arrays ++ y ∷ []) ((y, name_kind.Array) ∷ known) (y ∷ owners) around returns
  with_array y fresh = record {
    ints_are = λ x. passed x y (c.outer ++ ints) (is_int known x) (agree.ints_are x) (sym (agree.ints_are y) ∙ fresh.no_int);
    arrays_are = λ x. pushed x y (c.arrays ++ arrays) (is_array known x) (agree.arrays_are x) ∙ ap (is_among x) (append_assoc c.arrays arrays (y ∷ []));
    owners_are = λ x. known_array_more x y owners (is_int known x) (is_array known x) (agree.owners_are x);
    outer_is = agree.outer_is;
    sliced_known = agree.sliced_known;
    over_known = agree.over_known;
    given_known = agree.given_known;
    indexed = agree.indexed;
    not_indexed = agree.not_indexed;
    may = agree.may;
  }

  pub with_returns : (returns' : Returns) → ((known' : Known) (e : Option Expr) → may_return returns' known' e ≡ true → c.returns ≡ true) → Agree c ints arrays known owners around returns'
  with_returns returns' h = record {
    ints_are = agree.ints_are;
    arrays_are = agree.arrays_are;
    owners_are = agree.owners_are;
    outer_is = agree.outer_is;
    sliced_known = agree.sliced_known;
    over_known = agree.over_known;
    given_known = agree.given_known;
    indexed = agree.indexed;
    not_indexed = agree.not_indexed;
    may = h;
  }
