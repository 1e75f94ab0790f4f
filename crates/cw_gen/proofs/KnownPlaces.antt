-- The names at a statement of a source, as the types, the test of lowerable programs, and the lowered text know them.
use Rattle.cw_facts.specs.Tests.{not_true}
use Rattle.cw_model.specs.declared.syntax.NameKind.TheVariants as name_kind
use Rattle.std.proofs.Common.{◌≡◌, ℕ, Bool, true, false, List, [], ◌∷◌, ◌++◌, refl, sym, ◌∙◌, ap, subst, append_assoc, append-nil}
use Rattle.std.specs.Prelude.{if◌then◌else◌, not, ◌&&◌, ◌||◌, map, Option, Some, None}
use Rattle.std.proofs.lemmas.Bool.{and_parts}
use Rattle.cw_model.specs.Syntax.{is_array_kind, is_array_param, Name, Expr, Number, Variable, Element, Length, Negative, Not, Binary, Stmt, Declare, DeclareArray, Param, Function, Program}
use Rattle.cw_model.specs.Names.{is_among, differ}
use Rattle.cw_model.specs.Typing.{Known, is_int, is_array, is_new, is_fine, is_target, globals, declares, known_of, faults_in, Returns, Nowhere, WithInt, Alone, may_return}
use Rattle.cw_model.specs.lemmas.Kept.{kept}
use Rattle.cw_model.specs.lemmas.Fits.{fits_kind, fit_kinds}
use Rattle.cw_model.specs.lemmas.Names.{same_are, names_of}
use Rattle.cw_tree.specs.Resolved.{Locals, with_int, with_array, locals_after, locals_of}
use Rattle.cw_tree.specs.lemmas.Names.{front_among, later_among}
use Rattle.cw_loops.specs.Lowered.{is_plain, low, high, lower_index, lower_expr, lower_exprs, lower_option}
use Rattle.cw_loops.specs.Lowerable.{Surroundings, nothing_around, can_write, can_read, is_local, is_variable, can_evaluate, can_pass, can_pass_all}
use Rattle.cw_loops.specs.Lowerable.{can_target, new_integers, new_arrays, can_capture, can_slice, inside, integers_of, arrays_of}
use Rattle.cw_loops.specs.lemmas.Naming.{among_left, among_right, neither_among, none_among, pushed, passed}
use Rattle.cw_loops.specs.lemmas.Knowing.{not_there, not_both}
use Rattle.cw_loops.specs.lemmas.Heads.{int_kind, array_kind}
use Rattle.cw_gen.proofs.Kept.{ExprKnown, ArgKnown, ArgsKnown, TargetKnown, ReturnKnown, AllKnown}
use Rattle.cw_gen.proofs.KnownNames.{in_second}
use Rattle.cw_gen.proofs.KnownParams.{local_ints, local_arrays}

-- all three agree: the types, the test of lowerable programs, and the locals of the lowered function
pub record Agree (c : Surroundings) (ints arrays : List Name) (known : Known) (locals : Locals) : Type 0 where
  pub ints_are : locals.ints ≡ c.given ++ ints
  pub arrays_are : locals.arrays ≡ c.over ++ arrays
  pub known_ints : (x : Name) → is_int known x ≡ is_among x (c.outer ++ ints)
  pub known_arrays : (x : Name) → is_array known x ≡ is_among x (c.arrays ++ arrays)
  pub shared_given : (x : Name) → is_among x c.shared ≡ true → is_among x c.given ≡ true
  pub low_given : (a : Name) → is_among a c.over ≡ true → is_among low c.given ≡ true
  pub variable_given : (a : Name) → is_among a c.over ≡ true → is_among c.variable c.given ≡ true

-- a new name is neither an integer nor an array
pub new_name : (program : Program) (known : Known) (x : Name) → is_new program known x ≡ true → (is_int known x ≡ false) × (is_array known x ≡ false)
new_name program known x h = (not_there (λ kind. not (is_array_kind kind)) known x unknown, not_there is_array_kind known x unknown)
  where
    test : (b : Bool) → not (b || is_among x (globals program)) ≡ true → b ≡ false
    test true g = absurd cc
    test false g = refl

    unknown : is_among x (map (λ k. k.0) known) ≡ false
    unknown = test (is_among x (map (λ k. k.0) known)) h

module _ {c : Surroundings} {ints arrays : List Name} {known : Known} {locals : Locals} (agree : Agree c ints arrays known locals) where
  -- an integer that may be written belongs to the iteration itself
  pub write_there : (x : Name) → is_int known x ≡ true → can_write c x ≡ true → is_among x locals.ints ≡ true
  write_there x h w =
      let two = and_parts (not (is_among x c.outer)) (not (is_among x c.given)) w in
      ap (is_among x) agree.ints_are ∙ among_right x c.given ints (in_second x c.outer ints (sym (agree.known_ints x) ∙ h) (not_true (is_among x c.outer) two.0))

  -- an integer that may be read is known
  pub int_there : (x : Name) → is_int known x ≡ true → can_read c x ≡ true → is_among x locals.ints ≡ true
  int_there x h r = go (is_among x c.shared) refl r
    where
      go : (b : Bool) → is_among x c.shared ≡ b → (b || can_write c x) ≡ true → is_among x locals.ints ≡ true
      go true e g = ap (is_among x) agree.ints_are ∙ among_left x c.given ints (agree.shared_given x e)
      go false e g = write_there x h g

  given_there : (x : Name) → is_among x c.given ≡ true → is_among x locals.ints ≡ true
  given_there x h = ap (is_among x) agree.ints_are ∙ among_left x c.given ints h

  over_there : (a : Name) → is_among a c.over ≡ true → is_among a locals.arrays ≡ true
  over_there a h = ap (is_among a) agree.arrays_are ∙ among_left a c.over arrays h

  own_there : (a : Name) → is_among a arrays ≡ true → is_among a locals.arrays ≡ true
  own_there a h = ap (is_among a) agree.arrays_are ∙ among_right a c.over arrays h

  -- an array of the iteration itself is known
  pub local_there : (a : Name) → is_array known a ≡ true → is_local c a ≡ true → is_among a locals.arrays ≡ true
  local_there a h l =
      own_there a (in_second a c.arrays arrays (sym (agree.known_arrays a) ∙ h) (not_true (is_among a c.arrays) (and_parts (not (is_among a c.arrays)) _ l).0))

  -- a name that is not an array of the iteration, and that may be used as an argument, is not an array
  pub not_there_alone : (a : Name) → is_among a arrays ≡ false → is_local c a ≡ true → is_among a locals.arrays ≡ false
  not_there_alone a h l =
      let two = and_parts (not (is_among a c.arrays)) (not (is_among a c.over) && not (is_among a c.sliced)) l in
      let over = not_true (is_among a c.over) (and_parts (not (is_among a c.over)) (not (is_among a c.sliced)) two.1).0 in
      ap (is_among a) agree.arrays_are ∙ none_among a c.over arrays over h

  -- an integer is not an array
  pub no_array : (x : Name) → is_int known x ≡ true → is_local c x ≡ true → is_among x locals.arrays ≡ false
  no_array x h l = not_there_alone x (neither_among x c.arrays arrays (sym (agree.known_arrays x) ∙ not_both known x h)).1 l

  -- the variable of the enclosing loop is known
  variable_known : (a : Name) → is_among a c.over ≡ true → (i : Expr) → is_variable c i ≡ true → ExprKnown locals (lower_expr c.over i)
  variable_known a o (Variable y) h = given_there y (ap (λ z. is_among z c.given) (same_are y c.variable h) ∙ agree.variable_given a o)
  variable_known a o (Number n) h = absurd cc
  variable_known a o (Element b e) h = absurd cc
  variable_known a o (Length b) h = absurd cc
  variable_known a o (Negative e) h = absurd cc
  variable_known a o (Not e) h = absurd cc
  variable_known a o (Binary operator d e) h = absurd cc

  -- an element of an array uses known names
  pub spot_known : (a : Name) (i : Expr) → is_array known a ≡ true → (if is_among a c.over then is_variable c i else (is_local c a && can_evaluate c i)) ≡ true →
      (can_evaluate c i ≡ true → ExprKnown locals (lower_expr c.over i)) → (is_among a locals.arrays ≡ true) × ExprKnown locals (lower_index (is_among a c.over) (lower_expr c.over i))
  spot_known a i array can more = go (is_among a c.over) refl can
    where
      go : (b : Bool) → is_among a c.over ≡ b → (if b then is_variable c i else (is_local c a && can_evaluate c i)) ≡ true
          → (is_among a locals.arrays ≡ true) × ExprKnown locals (lower_index b (lower_expr c.over i))
      go true o h = (over_there a o, (variable_known a o i h, given_there low (agree.low_given a o)))
      go false o h = let two = and_parts (is_local c a) (can_evaluate c i) h in (local_there a array two.0, more two.1)

  -- a lowered expression and a lowered argument use known names
  pub expr_known : (e : Expr) → is_fine known e ≡ true → can_evaluate c e ≡ true → ExprKnown locals (lower_expr c.over e)
  expr_known (Number n) fine can = tt
  expr_known (Variable x) fine can = int_there x fine can
  expr_known (Element a e) fine can =
      let two = and_parts (is_array known a) (is_fine known e) fine in
      spot_known a e two.0 can (λ g. expr_known e two.1 g)
  expr_known (Length a) fine can = local_there a fine can
  expr_known (Negative e) fine can = expr_known e fine can
  expr_known (Not e) fine can = expr_known e fine can
  expr_known (Binary operator d e) fine can =
      let f = and_parts (is_fine known d) (is_fine known e) fine in
      let g = and_parts (can_evaluate c d) (can_evaluate c e) can in
      (expr_known d f.0 g.0, expr_known e f.1 g.1)

  arg_known : (b : Bool) (e : Expr) → fits_kind known b e ≡ true → can_pass c e ≡ true → ArgKnown b locals (lower_expr c.over e)
  arg_known false (Variable x) fine can = let two = and_parts (can_read c x) (is_local c x) can in (int_there x fine two.0, no_array x fine two.1)
  arg_known false (Number n) fine can = (tt, tt)
  arg_known false (Element a e) fine can = (expr_known (Element a e) fine can, tt)
  arg_known false (Length a) fine can = (expr_known (Length a) fine can, tt)
  arg_known false (Negative e) fine can = (expr_known (Negative e) fine can, tt)
  arg_known false (Not e) fine can = (expr_known (Not e) fine can, tt)
  arg_known false (Binary operator d e) fine can = (expr_known (Binary operator d e) fine can, tt)
  arg_known true (Variable a) fine can = local_there a fine (and_parts (can_read c a) (is_local c a) can).1
  arg_known true (Number n) fine can = absurd cc
  arg_known true (Element a e) fine can = absurd cc
  arg_known true (Length a) fine can = absurd cc
  arg_known true (Negative e) fine can = absurd cc
  arg_known true (Not e) fine can = absurd cc
  arg_known true (Binary operator d e) fine can = absurd cc

  pub args_known : (ps : List Param) (es : List Expr) → fit_kinds known ps es ≡ true → can_pass_all c es ≡ true → ArgsKnown locals ps (lower_exprs c.over es)
  args_known [] [] fine can = tt
  args_known [] (e ∷ es) fine can = absurd cc
  args_known (p ∷ ps) [] fine can = absurd cc
  args_known (p ∷ ps) (e ∷ es) fine can =
      let f = and_parts (fits_kind known (is_array_param p) e) (fit_kinds known ps es) fine in
      let g = and_parts (can_pass c e) (can_pass_all c es) can in
      (arg_known (is_array_param p) e f.0 g.0, args_known ps es f.1 g.1)

  -- the target of a result is known
  pub target_known : (f : Function) (target : Option Name) → is_target known f target ≡ true → can_target c target ≡ true → TargetKnown locals f target
  target_known f None fine can = tt
  target_known f (Some x) fine can = let two = and_parts (is_int known x) f.gives_int fine in (write_there x two.0 can, two.1)

  -- the lowered expression of a return uses known names
  pub return_known : (returns : Returns) (e : Option Expr) → may_return returns known e ≡ true → ((d : Expr) → e ≡ Some d → can_evaluate c d ≡ true)
      → ReturnKnown returns locals (lower_option c.over e)
  return_known Nowhere None fine can = absurd cc
  return_known Nowhere (Some e) fine can = absurd cc
  return_known WithInt None fine can = absurd cc
  return_known WithInt (Some e) fine can = expr_known e fine (can e refl)
  return_known Alone None fine can = tt
  return_known Alone (Some e) fine can = absurd cc

  -- the captured integers of a loop are known
  pub captured_known : (xs : List Name) → can_capture c ints xs ≡ true → AllKnown locals.ints xs
  captured_known [] can = tt
  captured_known (x ∷ xs) can =
      let one = and_parts (is_plain x) (can_read c x && (is_among x (c.outer ++ ints) && can_capture c ints xs)) can in
      let two = and_parts (can_read c x) (is_among x (c.outer ++ ints) && can_capture c ints xs) one.1 in
      let three = and_parts (is_among x (c.outer ++ ints)) (can_capture c ints xs) two.1 in
      (int_there x (agree.known_ints x ∙ three.0) two.0, captured_known xs three.1)

  pub sliced_known : (xs : List Name) → can_slice c arrays xs ≡ true → AllKnown locals.arrays xs
  sliced_known [] can = tt
  sliced_known (a ∷ xs) can =
      let one = and_parts (is_plain a) (is_local c a && (is_among a arrays && can_slice c arrays xs)) can in
      let two = and_parts (is_local c a) (is_among a arrays && can_slice c arrays xs) one.1 in
      let three = and_parts (is_among a arrays) (can_slice c arrays xs) two.1 in
      (own_there a three.0, sliced_known xs three.1)

  -- all three agree after one more declaration

  pub agree_int : (y : Name) → is_array known y ≡ false → Agree c (ints ++ y ∷ []) arrays ((y, name_kind.Integer) ∷ known) (with_int y locals)
  agree_int y fresh = record {
    ints_are = ap (λ l. l ++ y ∷ []) agree.ints_are ∙ append_assoc c.given ints (y ∷ []);
    arrays_are = agree.arrays_are;
    known_ints = λ x. pushed x y (c.outer ++ ints) (is_int known x) (agree.known_ints x) ∙ ap (is_among x) (append_assoc c.outer ints (y ∷ []));
    known_arrays = λ x. passed x y (c.arrays ++ arrays) (is_array known x) (agree.known_arrays x) (sym (agree.known_arrays y) ∙ fresh);
    shared_given = agree.shared_given;
    low_given = agree.low_given;
    variable_given = agree.variable_given;
  }

  pub agree_array : (y : Name) → is_int known y ≡ false → Agree c ints (arrays ++ y ∷ []) ((y, name_kind.Array) ∷ known) (with_array y locals)
  agree_array y fresh = record {
    ints_are = agree.ints_are;
    arrays_are = ap (λ l. l ++ y ∷ []) agree.arrays_are ∙ append_assoc c.over arrays (y ∷ []);
    known_ints = λ x. passed x y (c.outer ++ ints) (is_int known x) (agree.known_ints x) (sym (agree.known_ints y) ∙ fresh);
    known_arrays = λ x. pushed x y (c.arrays ++ arrays) (is_array known x) (agree.known_arrays x) ∙ ap (is_among x) (append_assoc c.arrays arrays (y ∷ []));
    shared_given = agree.shared_given;
    low_given = agree.low_given;
    variable_given = agree.variable_given;
  }

  -- all three agree if nothing is declared
  agree_none : Agree c (ints ++ []) (arrays ++ []) known locals
  agree_none = record {
    ints_are = agree.ints_are ∙ ap (λ l. c.given ++ l) (sym (append-nil ints));
    arrays_are = agree.arrays_are ∙ ap (λ l. c.over ++ l) (sym (append-nil arrays));
    known_ints = λ x. agree.known_ints x ∙ ap (λ l. is_among x (c.outer ++ l)) (sym (append-nil ints));
    known_arrays = λ x. agree.known_arrays x ∙ ap (λ l. is_among x (c.arrays ++ l)) (sym (append-nil arrays));
    shared_given = agree.shared_given;
    low_given = agree.low_given;
    variable_given = agree.variable_given;
  }

  only_ints : Agree c ints (arrays ++ []) known locals
  only_ints = subst (λ l. Agree c l (arrays ++ []) known locals) (append-nil ints) agree_none

  only_arrays : Agree c (ints ++ []) arrays known locals
  only_arrays = subst (λ l. Agree c (ints ++ []) l known locals) (append-nil arrays) agree_none

  -- all three agree in the body of a loop, in the frame of its function
  pub agree_inside : (x : Name) (taken over : List Name) → is_array known x ≡ false →
      Agree (inside c ints arrays x taken over) [] [] ((x, name_kind.Integer) ∷ known) (record { ints = (low ∷ high ∷ taken) ++ x ∷ []; arrays = over })
  agree_inside x taken over fresh = record {
    ints_are = sym (append-nil ((low ∷ high ∷ taken) ++ x ∷ []));
    arrays_are = sym (append-nil over);
    known_ints = λ y. pushed y x (c.outer ++ ints) (is_int known y) (agree.known_ints y) ∙ ap (is_among y) (sym (append-nil ((c.outer ++ ints) ++ x ∷ [])));
    known_arrays = λ y. passed y x (c.arrays ++ arrays) (is_array known y) (agree.known_arrays y) (sym (agree.known_arrays x) ∙ fresh) ∙ ap (is_among y) (sym (append-nil (c.arrays ++ arrays)));
    shared_given = λ y h. later_among y low (high ∷ taken ++ x ∷ []) (later_among y high (taken ++ x ∷ []) h);
    low_given = λ a o. front_among low (high ∷ taken ++ x ∷ []);
    variable_given = λ a o. among_right x (low ∷ high ∷ taken) (x ∷ []) (front_among x []);
  }

-- all three agree at the head of a function
pub agree_head : (fs : List Function) (ps : List Param) → differ (names_of ps) ≡ true → Agree (nothing_around fs) (integers_of ps) (arrays_of ps) (known_of ps) (locals_of ps)
agree_head fs ps h = record {
  ints_are = local_ints ps;
  arrays_are = local_arrays ps;
  known_ints = int_kind ps h;
  known_arrays = array_kind ps h;
  shared_given = λ x o. absurd cc;
  low_given = λ a o. absurd cc;
  variable_given = λ a o. absurd cc;
}

-- all three agree after a statement
pub agree_after : (program : Program) (returns : Returns) (line : ℕ) (c : Surroundings) (ints arrays : List Name) (known : Known) (locals : Locals)
    (s : Stmt) → faults_in program returns known line s ≡ [] → Agree c ints arrays known locals →
    Agree c (ints ++ new_integers s) (arrays ++ new_arrays s) (declares s known) (locals_after locals s)
agree_after program returns line c ints arrays known locals (Declare x e) typed agree =
    let new = new_name program known x (and_parts (is_fine known e) (is_new program known x) (kept (is_fine known e && is_new program known x) line typed)).1 in
    only_ints (agree_int agree x new.1)
agree_after program returns line c ints arrays known locals (DeclareArray x e) typed agree =
    let new = new_name program known x (and_parts (is_fine known e) (is_new program known x) (kept (is_fine known e && is_new program known x) line typed)).1 in
    only_arrays (agree_array agree x new.0)
agree_after program returns line c ints arrays known locals _ typed agree = agree_none agree
