-- Every well-typed and owned program of a source can be lowered.
use Rattle.std.proofs.Common.{◌≡◌, ℕ, suc, ◌+◌, ◌==◌, Bool, true, false, List, [], ◌∷◌, ◌++◌, length, refl, sym, ◌∙◌, ap, subst, append-nil}
use Rattle.std.specs.Prelude.{if◌then◌else◌, not, ◌&&◌, ◌||◌, nat_le, Option, Some, None}
use Rattle.std.specs.List.{list_all}
use Rattle.std.proofs.lemmas.Bool.{and_parts}
use Rattle.cw_facts.specs.Tests.{equal, not_true, both_true, never, refuted, either_left}
use Rattle.cw_model.specs.lemmas.Fits.{fits_kind, fit_kinds, arguments_fit}
use Rattle.cw_model.specs.declared.syntax.CallKind.{CallKind}
use Rattle.cw_model.specs.Lines.{unless}
use Rattle.cw_model.specs.declared.syntax.NameKind.TheVariants as name_kind
use Rattle.cw_model.specs.Syntax.{Name, Expr, Number, Variable, Element, Length, Negative, Not, Binary, Stmt, Declare, DeclareArray, Assign, AssignElement, Reduce, Call, Start}
use Rattle.cw_model.specs.Syntax.{Begin, Sync, If, IfElse, While, For, Scope, Cut, Region, Print, Return, Block, End, Then, Param, Function, Program, is_array_param}
use Rattle.cw_model.specs.Names.{same_name, is_among, differ}
use Rattle.cw_model.specs.Meaning.{function_named}
use Rattle.cw_model.specs.Captured.{captured, read_by, read_by_all, read_in, read_in_block, declared_in_block}
use Rattle.cw_model.specs.Typing.{Known, is_int, is_array, is_fine, is_new, is_argument, are_arguments, is_call, is_head_of_loop, called}
use Rattle.cw_model.specs.Typing.{may_return, ends_block, surely_returns, faults_in, faults_in_block, declares, Returns, Nowhere}
use Rattle.cw_model.specs.Ownership.{Around, InLoop, for_head, is_outer, may_index, keeps_loop, may_read, may_write, are_free, are_inner, names_in, target_names, known_after}
use Rattle.cw_model.specs.Ownership.{Taken, Declared, Closing, Leaves, Joins, CutOf, taken_after, declared_by, owner_faults, owner_faults_in, are_loose}
use Rattle.cw_model.specs.lemmas.Kept.{left_none, right_none, kept}
use Rattle.cw_model.specs.lemmas.Names.{turned}
use Rattle.cw_tree.specs.lemmas.Names.{front_among, later_among}
use Rattle.cw_loops.specs.Lowered.{is_plain, low, high}
use Rattle.cw_loops.specs.Lowerable.{Surroundings, can_write, can_read, is_local, is_variable, can_evaluate, can_pass, can_pass_all, can_target}
use Rattle.cw_loops.specs.Lowerable.{new_integers, new_arrays, can_capture, can_slice, can_loop, inside, can_lower, can_lower_all}
use Rattle.cw_loops.specs.SourceLike.{is_source_expr, is_source_stmt, is_source_block, is_source_target}
use Rattle.cw_loops.specs.lemmas.Naming.{Placed, at_front, after_it, placed, Side, in_first, in_second, side, each_of, among_left}
use Rattle.cw_loops.specs.lemmas.Naming.{among_right, neither_among, new_are_there, new_are_all, new_differ, pushed, passed}
use Rattle.cw_loops.specs.lemmas.Knowing.{Unknown, new_unknown, Adds, an_int, an_array, nothing, adds, known_more}
use Rattle.cw_loops.specs.lemmas.Declaring.{HeadKept, head_kept, CutKept, cut_kept, block_new}
use Rattle.cw_loops.specs.lemmas.Seeing.{CallKept, call_kept, GivenKept, given_kept, AllInner, inner_names, Seen, Home, declared_there, known_before, home, block_seen, arrays_passed, passed_kept}
use Rattle.cw_loops.proofs.Agreeing.{Agree, reads_well, AllReadWell, first_well, second_well, outside, local_from, write_from}
use Rattle.cw_loops.proofs.Agreeing.{read_from, int_local, expr_can, head_keeps, with_int, with_array, with_returns}

-- tests of lists, name by name

capture_all : (c : Surroundings) (ints xs : List Name) → ((y : Name) → is_among y xs ≡ true
    → (is_plain y ≡ true) × (can_read c y ≡ true) × (is_among y (c.outer ++ ints) ≡ true)) → can_capture c ints xs ≡ true
capture_all c ints [] h = refl
capture_all c ints (x ∷ xs) h =
    let here = h x (front_among x xs) in
    both_true (is_plain x) _ here.0 (both_true (can_read c x) _ here.1 (both_true (is_among x (c.outer ++ ints)) _ here.2 (capture_all c ints xs (λ y o. h y (later_among y x xs o)))))

slice_all : (c : Surroundings) (arrays xs : List Name) → ((y : Name) → is_among y xs ≡ true → (is_plain y ≡ true) × (is_local c y ≡ true) × (is_among y arrays ≡ true)) → can_slice c arrays xs ≡ true
slice_all c arrays [] h = refl
slice_all c arrays (x ∷ xs) h =
    let here = h x (front_among x xs) in
    both_true (is_plain x) _ here.0 (both_true (is_local c x) _ here.1 (both_true (is_among x arrays) _ here.2 (slice_all c arrays xs (λ y o. h y (later_among y x xs o)))))

one_each : (known : Known) (ps : List Param) (es : List Expr) → are_arguments known ps es ≡ true → length es ≡ length ps
one_each known [] [] h = refl
one_each known [] (e ∷ es) h = absurd cc
one_each known (p ∷ ps) [] h = absurd cc
one_each known (p ∷ ps) (e ∷ es) h = ap suc (one_each known ps es (and_parts (is_argument known p.kind e) (are_arguments known ps es) h).1)

-- an expression that may be read keeps the rule of the loop
read_keeps : (around : Around) (taken : Taken) (e : Expr) → may_read around taken e ≡ true → keeps_loop around e ≡ true
read_keeps around taken e h = (and_parts (are_free taken (names_in e)) (keeps_loop around e) h).1

write_inner : (around : Around) (taken : Taken) (xs : List Name) → may_write around taken xs ≡ true → AllInner around xs
write_inner around taken xs h = inner_names around xs (and_parts (are_loose taken xs) (are_inner around xs) h).1

module _ {c : Surroundings} {ints arrays : List Name} {known : Known} {owners : List Name} {around : Around} {returns : Returns} (agree : Agree c ints arrays known owners around returns) where
  -- an array of the iteration itself
  array_there : (a : Name) → is_array known a ≡ true → is_outer around a ≡ false → is_among a arrays ≡ true
  array_there a h out = go (side a c.arrays arrays (sym (agree.arrays_are a) ∙ h))
    where
      go : Side a c.arrays arrays → is_among a arrays ≡ true
      go (in_first o) = never (is_among a c.arrays) o (outside agree a out).1
      go (in_second o) = o

  -- a new name belongs to the iteration itself
  new_local : (a : Name) → Unknown known a → (is_local c a ≡ true) × (is_among a arrays ≡ false)
  new_local a u =
      let n = neither_among a c.arrays arrays (sym (agree.arrays_are a) ∙ u.no_array) in
      (local_from agree a n.0, n.1)

  variable_pass : (array : Bool) (x : Name) → is_plain x ≡ true → fits_kind known array (Variable x) ≡ true
      → AllInner around (if array then x ∷ [] else []) → reads_well c x ≡ true → can_pass c (Variable x) ≡ true
  variable_pass false x plain fine inner well = both_true (can_read c x) (is_local c x) (read_from agree x plain well) (int_local agree x fine)
  variable_pass true x plain fine inner well = both_true (can_read c x) (is_local c x) (read_from agree x plain well) (local_from agree x (outside agree x (inner x (front_among x []))).1)

  argument_can : (array : Bool) (e : Expr) → is_source_expr e ≡ true → fits_kind known array e ≡ true → keeps_loop around e ≡ true
      → AllInner around (if array then names_in e else []) → AllReadWell c (read_by e) → can_pass c e ≡ true
  argument_can array (Variable x) source fine keeps inner well = variable_pass array x source fine inner (well x (front_among x []))
  argument_can array (Number n) source fine keeps inner well = expr_can agree (Number n) source keeps well
  argument_can array (Element a e) source fine keeps inner well = expr_can agree (Element a e) source keeps well
  argument_can array (Length a) source fine keeps inner well = expr_can agree (Length a) source keeps well
  argument_can array (Negative e) source fine keeps inner well = expr_can agree (Negative e) source keeps well
  argument_can array (Not e) source fine keeps inner well = expr_can agree (Not e) source keeps well
  argument_can array (Binary operator d e) source fine keeps inner well = expr_can agree (Binary operator d e) source keeps well

  arguments_can : (taken : Taken) (ps : List Param) (es : List Expr) → list_all is_source_expr es ≡ true → fit_kinds known ps es ≡ true
      → list_all (λ e. may_read around taken e) es ≡ true → AllInner around (arrays_passed ps es) → AllReadWell c (read_by_all es) → can_pass_all c es ≡ true
  arguments_can taken [] [] source fine reads inner well = refl
  arguments_can taken [] (e ∷ es) source fine reads inner well = absurd cc
  arguments_can taken (p ∷ ps) [] source fine reads inner well = refl
  arguments_can taken (p ∷ ps) (e ∷ es) source fine reads inner well =
      let s = and_parts (is_source_expr e) (list_all is_source_expr es) source in
      let f = and_parts (fits_kind known (is_array_param p) e) (fit_kinds known ps es) fine in
      let r = and_parts (may_read around taken e) (list_all (λ e. may_read around taken e) es) reads in
      both_true (can_pass c e) (can_pass_all c es)
      (argument_can (is_array_param p) e s.0 f.0 (read_keeps around taken e r.0)
      (λ v q. inner v (among_left v (if is_array_param p then names_in e else []) (arrays_passed ps es) q)) (first_well c (read_by e) (read_by_all es) well))
      (arguments_can taken ps es s.1 f.1 r.1 (λ v q. inner v (among_right v (if is_array_param p then names_in e else []) (arrays_passed ps es) q)) (second_well c (read_by e) (read_by_all es) well))

  target_can : (target : Option Name) → is_source_target target ≡ true → AllInner around (target_names target) → can_target c target ≡ true
  target_can None source inner = refl
  target_can (Some x) source inner = write_from agree x source (outside agree x (inner x (front_among x []))).0

  -- an element that is written
  spot_can : (a : Name) (i : Expr) → is_source_expr i ≡ true → may_index around a i ≡ true → keeps_loop around i ≡ true → AllReadWell c (read_by i)
      → (if is_among a c.over then is_variable c i else (is_local c a && can_evaluate c i)) ≡ true
  spot_can a i source may keeps well = go (is_among a c.over) refl
    where
      go : (b : Bool) → is_among a c.over ≡ b → (if b then is_variable c i else (is_local c a && can_evaluate c i)) ≡ true
      go true o = agree.indexed a i may o
      go false o = both_true (is_local c a) (can_evaluate c i) (local_from agree a (outside agree a (agree.not_indexed a i may o)).1) (expr_can agree i source keeps well)

  -- the invariant in the body of a loop
  inside_agrees : (x : Name) (taken over : List Name) → Unknown known x → ((a : Name) → is_among a over ≡ true → is_array known a ≡ true)
      → ((y : Name) → is_among y taken ≡ true → is_among y (c.outer ++ ints) ≡ true) →
      Agree (inside c ints arrays x taken over) [] [] ((x, name_kind.Integer) ∷ known) (x ∷ owners) (InLoop (x ∷ owners) x over) Nowhere
  inside_agrees x taken over fresh over_arrays taken_known = record {
    ints_are = λ y. int_is y ∙ ap (is_among y) (sym (append-nil ((c.outer ++ ints) ++ x ∷ [])));
    arrays_are = λ y. array_is y ∙ ap (is_among y) (sym (append-nil (c.arrays ++ arrays)));
    owners_are = λ y. known_more y x owners (is_int known y) (is_array known y) (agree.owners_are y);
    outer_is = λ y. known_more y x owners (is_int known y) (is_array known y) (agree.owners_are y)
        ∙ ap (λ b. b || (if same_name y x then false else is_array known y)) (int_is y) ∙ ap (λ b. is_among y ((c.outer ++ ints) ++ x ∷ []) || b) (array_is y);
    sliced_known = λ y o. by_slice y (side y over c.sliced o);
    over_known = λ y o. over_there y o;
    given_known = λ y plain o. by_given y plain (side y (low ∷ high ∷ taken) (x ∷ []) o);
    indexed = λ a e may o. index a e may o (outer_over a o);
    not_indexed = λ a e may o. no_index a e may o;
    may = λ known' e h. nowhere known' e h;
  }
    where
      int_is : (y : Name) → (if same_name y x then true else is_int known y) ≡ is_among y ((c.outer ++ ints) ++ x ∷ [])
      int_is y = pushed y x (c.outer ++ ints) (is_int known y) (agree.ints_are y)

      array_is : (y : Name) → (if same_name y x then false else is_array known y) ≡ is_among y (c.arrays ++ arrays)
      array_is y = passed y x (c.arrays ++ arrays) (is_array known y) (agree.arrays_are y) (sym (agree.arrays_are x) ∙ fresh.no_array)

      over_there : (y : Name) → is_among y over ≡ true → is_among y (c.arrays ++ arrays) ≡ true
      over_there y o = sym (agree.arrays_are y) ∙ over_arrays y o

      by_slice : (y : Name) → Side y over c.sliced → is_among y (c.arrays ++ arrays) ≡ true
      by_slice y (in_first o) = over_there y o
      by_slice y (in_second o) = among_left y c.arrays arrays (agree.sliced_known y o)

      by_high : (y : Name) → is_plain y ≡ true → Placed y high taken → is_among y (c.outer ++ ints) ≡ true
      by_high y plain (at_front same) = let n : is_plain high ≡ true = ap is_plain (sym same) ∙ plain in absurd cc
      by_high y plain (after_it other o) = taken_known y o

      by_low : (y : Name) → is_plain y ≡ true → Placed y low (high ∷ taken) → is_among y (c.outer ++ ints) ≡ true
      by_low y plain (at_front same) = let n : is_plain low ≡ true = ap is_plain (sym same) ∙ plain in absurd cc
      by_low y plain (after_it other o) = by_high y plain (placed y high taken o)

      by_given : (y : Name) → is_plain y ≡ true → Side y (low ∷ high ∷ taken) (x ∷ []) → is_among y ((c.outer ++ ints) ++ x ∷ []) ≡ true
      by_given y plain (in_first o) = among_left y (c.outer ++ ints) (x ∷ []) (by_low y plain (placed y low (high ∷ taken) o))
      by_given y plain (in_second o) = among_right y (c.outer ++ ints) (x ∷ []) o

      outer_over : (a : Name) → is_among a over ≡ true → is_among a (x ∷ owners) ≡ true
      outer_over a o = later_among a x owners (agree.owners_are a ∙ go (is_int known a) (over_arrays a o))
        where
          go : (i : Bool) → is_array known a ≡ true → (i || is_array known a) ≡ true
          go true h = refl
          go false h = h

      indexes : (outer there : Bool) (i j : Name) → outer ≡ true → (not outer || (there && same_name i j)) ≡ true → same_name j i ≡ true
      indexes true true i j e h = turned j i ∙ h
      indexes true false i j e h = absurd cc
      indexes false there i j e h = absurd cc

      index : (a : Name) (e : Expr) → may_index (InLoop (x ∷ owners) x over) a e ≡ true → is_among a over ≡ true → is_among a (x ∷ owners) ≡ true
          → is_variable (inside c ints arrays x taken over) e ≡ true
      index a (Variable j) may o out = indexes (is_among a (x ∷ owners)) (is_among a over) x j out may
      index a (Number n) may o out = never (is_among a (x ∷ owners)) out (not_true _ may)
      index a (Element b e) may o out = never (is_among a (x ∷ owners)) out (not_true _ may)
      index a (Length b) may o out = never (is_among a (x ∷ owners)) out (not_true _ may)
      index a (Negative e) may o out = never (is_among a (x ∷ owners)) out (not_true _ may)
      index a (Not e) may o out = never (is_among a (x ∷ owners)) out (not_true _ may)
      index a (Binary operator d e) may o out = never (is_among a (x ∷ owners)) out (not_true _ may)

      unindexed : (outer there : Bool) (i j : Name) → there ≡ false → (not outer || (there && same_name i j)) ≡ true → outer ≡ false
      unindexed true true i j e h = absurd cc
      unindexed true false i j e h = absurd cc
      unindexed false there i j e h = refl

      no_index : (a : Name) (e : Expr) → may_index (InLoop (x ∷ owners) x over) a e ≡ true → is_among a over ≡ false → is_among a (x ∷ owners) ≡ false
      no_index a (Variable j) may o = unindexed (is_among a (x ∷ owners)) (is_among a over) x j o may
      no_index a (Number n) may o = not_true _ may
      no_index a (Element b e) may o = not_true _ may
      no_index a (Length b) may o = not_true _ may
      no_index a (Negative e) may o = not_true _ may
      no_index a (Not e) may o = not_true _ may
      no_index a (Binary operator d e) may o = not_true _ may

      nowhere : (known' : Known) (e : Option Expr) → may_return Nowhere known' e ≡ true → false ≡ true
      nowhere known' None h = h
      nowhere known' (Some e) h = h

no_returns : (c : Surroundings) (known : Known) (e : Option Expr) → may_return Nowhere known e ≡ true → c.returns ≡ true
no_returns c known None h = absurd cc
no_returns c known (Some e) h = absurd cc

module _ (program : Program) (fs : List Function) (fs_is : program.functions ≡ fs) where
  abbrev StmtCan : Stmt → Type 0
  StmtCan s = (c : Surroundings) (ints arrays : List Name) (known : Known) (owners : List Name) (around : Around) (returns : Returns)
      → c.functions ≡ fs → Agree c ints arrays known owners around returns → (depth line : ℕ) (taken : Taken) →
      is_source_stmt s ≡ true → faults_in program returns known line s ≡ [] → owner_faults fs around owners depth taken line s ≡ [] → AllReadWell c (read_in s) → can_lower c ints arrays s ≡ true

  abbrev BlockCan : Block → Type 0
  BlockCan b = (c : Surroundings) (ints arrays : List Name) (known : Known) (owners : List Name) (around : Around) (returns : Returns)
      → c.functions ≡ fs → Agree c ints arrays known owners around returns → (depth : ℕ) (closing : Closing) (taken : Taken) (declared : Declared) →
      is_source_block b ≡ true → faults_in_block program returns known b ≡ [] → owner_faults_in fs around owners depth closing taken declared b ≡ []
      → AllReadWell c (read_in_block b) → can_lower_all c ints arrays b ≡ true

  call_can : (kind : CallKind) (site : ℕ) (target : Option Name) (f : Name) (es : List Expr) → StmtCan (Call kind site target f es)
  call_can kind site target f es c ints arrays known owners around returns here agree depth line taken source types owns well =
      let s = and_parts (is_source_target target) _ source in
      let t = and_parts (is_plain f) (list_all is_source_expr es) s.1 in
      let k : CallKept fs known target f es = call_kept fs known target f es (ap (λ w. is_call known target (called f w) es) (sym fs_is) ∙ kept _ line types) in
      let g : GivenKept around taken fs target f es = given_kept around taken fs target f es (kept _ line owns) in
      let count : (length es == length (function_named f c.functions).params) ≡ true =
      equal _ _ (one_each known (function_named f fs).params es k.arguments ∙ ap (λ w. length (function_named f w).params) (sym here)) in
      both_true (is_plain f) _ t.0 (both_true (length es == length (function_named f c.functions).params) _ count
      (both_true (can_target c target) _ (target_can agree target s.0 g.targets)
      (arguments_can agree taken (function_named f fs).params es t.1 (arguments_fit known (function_named f fs).params es k.arguments) g.reads
      (passed_kept around taken fs target f es g) well)))

  for_can : (x y z : Name) (from to : Expr) (grain : ℕ) (over : List Name) (b : Block) → BlockCan b → StmtCan (For x y z from to grain over b)
  for_can x y z from to grain over b more c ints arrays known owners around returns here agree depth line taken source types owns well =
      both_true (can_evaluate c from) _ (expr_can agree from s2.0 (head_keeps around from (read_keeps (for_head around) taken from o3.0)) (first_well c (read_by from) _ well))
      (both_true (can_evaluate c to) _ (expr_can agree to s3.0 (head_keeps around to (read_keeps (for_head around) taken to o3.1)) (first_well c (read_by to) _ rest_well))
      (both_true (nat_le 1 grain) _ head.some
      (both_true (can_loop c ints arrays x (captured x b) over) _ loop_can
      (more (inside c ints arrays x (captured x b) over) [] [] ((x, name_kind.Integer) ∷ known) (x ∷ owners)
      (InLoop (x ∷ owners) x over) Nowhere here within (depth + 1) Joins taken [] s4.1 types' owns' body_well))))
    where
      head : HeadKept program known x from to grain over
      head = head_kept program known x y z from to grain over (kept _ line (left_none (unless (is_head_of_loop program known x y z from to grain over) line) _ types))

      types' : faults_in_block program Nowhere ((x, name_kind.Integer) ∷ known) b ≡ []
      types' = right_none (unless (is_head_of_loop program known x y z from to grain over) line) _ types

      owner_rule : Bool
      owner_rule = may_read (for_head around) taken from && may_read (for_head around) taken to && may_write around taken over && differ over

      owns' : owner_faults_in fs (InLoop (x ∷ owners) x over) (x ∷ owners) (depth + 1) Joins taken [] b ≡ []
      owns' = right_none (unless owner_rule line) _ owns

      o1 : ((may_read (for_head around) taken from && may_read (for_head around) taken to && may_write around taken over) ≡ true) × (differ over ≡ true)
      o1 = and_parts _ (differ over) (kept owner_rule line (left_none (unless owner_rule line) (owner_faults_in fs (InLoop (x ∷ owners) x over) (x ∷ owners) (depth + 1) Joins taken [] b) owns))

      o2 : ((may_read (for_head around) taken from && may_read (for_head around) taken to) ≡ true) × (may_write around taken over ≡ true)
      o2 = and_parts _ (may_write around taken over) o1.0

      o3 : (may_read (for_head around) taken from ≡ true) × (may_read (for_head around) taken to ≡ true)
      o3 = and_parts (may_read (for_head around) taken from) (may_read (for_head around) taken to) o2.0

      s1 : (is_plain x ≡ true) × ((is_source_expr from && (is_source_expr to && (list_all is_plain over && is_source_block b))) ≡ true)
      s1 = and_parts (is_plain x) _ source

      s2 : (is_source_expr from ≡ true) × ((is_source_expr to && (list_all is_plain over && is_source_block b)) ≡ true)
      s2 = and_parts (is_source_expr from) _ s1.1

      s3 : (is_source_expr to ≡ true) × ((list_all is_plain over && is_source_block b) ≡ true)
      s3 = and_parts (is_source_expr to) _ s2.1

      s4 : (list_all is_plain over ≡ true) × (is_source_block b ≡ true)
      s4 = and_parts (list_all is_plain over) (is_source_block b) s3.1

      rest_well : AllReadWell c (read_by to ++ read_in_block b)
      rest_well = second_well c (read_by from) (read_by to ++ read_in_block b) well

      block_well : AllReadWell c (read_in_block b)
      block_well = second_well c (read_by to) (read_in_block b) rest_well

      fresh : Unknown known x
      fresh = new_unknown program known x head.new

      there : (v : Name) → is_among v (captured x b) ≡ true → (is_among v (read_in_block b) ≡ true) × (is_among v (x ∷ declared_in_block b) ≡ false)
      there v o = new_are_there v (read_in_block b) (x ∷ declared_in_block b) o

      seen : (v : Name) → is_among v (captured x b) ≡ true → Seen (InLoop (x ∷ owners) x over) ((x, name_kind.Integer) ∷ known) (declared_in_block b) v
      seen v o = block_seen program fs fs_is b Nowhere ((x, name_kind.Integer) ∷ known) (x ∷ owners) (InLoop (x ∷ owners) x over)
          (λ w. known_more w x owners (is_int known w) (is_array known w) (agree.owners_are w)) (depth + 1) Joins taken [] s4.1 types' owns' v (there v o).0

      captured_known : (v : Name) → is_among v (captured x b) ≡ true → is_among v (c.outer ++ ints) ≡ true
      captured_known v o = go (home x known owners agree.owners_are over (declared_in_block b) v (seen v o).place)
        where
          go : Home x known (declared_in_block b) v → is_among v (c.outer ++ ints) ≡ true
          go (declared_there p) = never (is_among v (x ∷ declared_in_block b)) p (there v o).1
          go (known_before p) = sym (agree.ints_are v) ∙ p

      over_arrays : (a : Name) → is_among a over ≡ true → is_array known a ≡ true
      over_arrays = each_of (is_array known) over head.arrays

      over_inner : AllInner around over
      over_inner = write_inner around taken over o2.1

      within : Agree (inside c ints arrays x (captured x b) over) [] [] ((x, name_kind.Integer) ∷ known) (x ∷ owners) (InLoop (x ∷ owners) x over) Nowhere
      within = inside_agrees agree x (captured x b) over fresh over_arrays captured_known

      not_taken : is_among x (captured x b) ≡ false
      not_taken = refuted (is_among x (captured x b)) (λ o. never (is_among x (x ∷ declared_in_block b)) (front_among x (declared_in_block b)) (there x o).1)

      loop_can : can_loop c ints arrays x (captured x b) over ≡ true
      loop_can =
          both_true (is_plain x) _ s1.0 (both_true (not (is_among x (c.outer ++ ints))) _ (ap not (sym (agree.ints_are x) ∙ fresh.no_int))
          (both_true (not (is_among x (captured x b))) _ (ap not not_taken)
          (both_true (differ (captured x b)) _ (new_differ (read_in_block b) (x ∷ declared_in_block b)) (both_true (differ over) _ o1.1
          (both_true (can_capture c ints (captured x b)) _
          (capture_all c ints (captured x b) (λ v o. ((seen v o).plain, read_from agree v (seen v o).plain (block_well v (there v o).0), captured_known v o)))
          (slice_all c arrays over (λ a o. (each_of is_plain over s4.0 a o, local_from agree a (outside agree a (over_inner a o)).1, array_there agree a (over_arrays a o) (over_inner a o)))))))))

      -- each name that the body reads is captured or declared in the body
      own : (v : Name) → is_among v (declared_in_block b) ≡ true → is_among v ((c.outer ++ ints) ++ x ∷ []) ≡ false
      own v o = ap (is_among v) (sym (append-nil ((c.outer ++ ints) ++ x ∷ []))) ∙ sym (within.ints_are v) ∙ (block_new program b Nowhere ((x, name_kind.Integer) ∷ known) types' v o).no_int

      body_well : AllReadWell (inside c ints arrays x (captured x b) over) (read_in_block b)
      body_well v o = go (is_among v (x ∷ declared_in_block b)) refl
        where
          kept_out : (s t : Bool) → t ≡ false → (s || not t) ≡ true
          kept_out true t h = refl
          kept_out false t h = ap not h

          by : Placed v x (declared_in_block b) → reads_well (inside c ints arrays x (captured x b) over) v ≡ true
          by (at_front same) = either_left (is_among v (captured x b ++ x ∷ [])) _ (among_right v (captured x b) (x ∷ []) (ap (λ w. is_among w (x ∷ [])) same ∙ front_among x []))
          by (after_it other p) = kept_out (is_among v (captured x b ++ x ∷ [])) _ (own v p)

          go : (r : Bool) → is_among v (x ∷ declared_in_block b) ≡ r → reads_well (inside c ints arrays x (captured x b) over) v ≡ true
          go true p = by (placed v x (declared_in_block b) p)
          go false p = either_left (is_among v (captured x b ++ x ∷ [])) _ (among_left v (captured x b) (x ∷ []) (new_are_all v (read_in_block b) (x ∷ declared_in_block b) o p))

  cut_can : (a : Name) (e : Expr) (l r : Name) (b : Block) → BlockCan b → StmtCan (Cut a e l r b)
  cut_can a e l r b more c ints arrays known owners around returns here agree depth line taken source types owns well =
      let k : CutKept program known a e l r = cut_kept program known a e l r (kept _ line (left_none _ _ types)) in
      let o = and_parts (may_read around taken e) (may_write around taken (a ∷ [])) (kept _ line (left_none _ _ owns)) in
      let s1 = and_parts (is_plain a) _ source in
      let s2 = and_parts (is_source_expr e) _ s1.1 in
      let s3 = and_parts (is_plain r) (is_source_block b) (and_parts (is_plain l) _ s2.1).1 in
      let left = new_unknown program known l k.left in
      let right = new_unknown program known r k.right in
      let apart : same_name r l ≡ false = turned r l ∙ k.two in
      let right' : Unknown ((l, name_kind.Array) ∷ known) r = record {
        no_int = ap (λ w. if w then false else is_int known r) apart
            ∙ right.no_int;
        no_array = ap (λ w. if w then true else is_array known r) apart ∙ right.no_array;
      } in
      let inner = with_returns (with_array (with_array agree l left) r right') Nowhere (no_returns c) in
      both_true (can_evaluate c e) _ (expr_can agree e s2.0 (read_keeps around taken e o.0) (first_well c (read_by e) (read_in_block b) well))
      (both_true (is_local c a) _ (local_from agree a (outside agree a (write_inner around taken (a ∷ []) o.1 a (front_among a []))).1)
      (both_true (is_local c l) _ (new_local agree l left).0 (both_true (is_local c r) _ (new_local agree r right).0
      (both_true (not (is_among l arrays)) _ (ap not (new_local agree l left).1)
      (both_true (not (is_among r arrays)) _ (ap not (new_local agree r right).1) (both_true (not (same_name r l)) _ (ap not apart)
      (more c ints ((arrays ++ l ∷ []) ++ r ∷ []) ((r, name_kind.Array) ∷ (l, name_kind.Array) ∷ known) (r ∷ l ∷ owners) around Nowhere here inner
      (depth + 1) Joins ((a, CutOf) ∷ taken) [] s3.1 (right_none _ _ types) (right_none _ _ owns) (second_well c (read_by e) (read_in_block b) well))))))))

  -- the invariant after a statement
  after_agrees : (s : Stmt) (c : Surroundings) (ints arrays : List Name) (known : Known) (owners : List Name) (around : Around) (returns : Returns)
      (line : ℕ) → Agree c ints arrays known owners around returns → faults_in program returns known line s ≡ [] →
      Agree c (ints ++ new_integers s) (arrays ++ new_arrays s) (declares s known) (known_after owners s) around returns
  after_agrees s c ints arrays known owners around returns line agree types = go (adds s)
    where
      After : Stmt → Type 0
      After t = Agree c (ints ++ new_integers t) (arrays ++ new_arrays t) (declares t known) (known_after owners t) around returns

      int_types : (x : Name) (e : Expr) → s ≡ Declare x e → is_new program known x ≡ true
      int_types x e same = (and_parts (is_fine known e) (is_new program known x) (kept _ line (subst (λ t. faults_in program returns known line t ≡ []) same types))).1

      array_types : (x : Name) (e : Expr) → s ≡ DeclareArray x e → is_new program known x ≡ true
      array_types x e same = (and_parts (is_fine known e) (is_new program known x) (kept _ line (subst (λ t. faults_in program returns known line t ≡ []) same types))).1

      go : Adds s → Agree c (ints ++ new_integers s) (arrays ++ new_arrays s) (declares s known) (known_after owners s) around returns
      go (an_int x e same) = subst After (sym same) (subst (λ w. Agree c (ints ++ x ∷ []) w ((x, name_kind.Integer) ∷ known)
          (x ∷ owners) around returns) (sym (append-nil arrays)) (with_int agree x (new_unknown program known x (int_types x e same))))
      go (an_array x e same) = subst After (sym same) (subst (λ w. Agree c w (arrays ++ x ∷ []) ((x, name_kind.Array) ∷ known)
          (x ∷ owners) around returns) (sym (append-nil ints)) (with_array agree x (new_unknown program known x (array_types x e same))))
      go (nothing same no_ints no_arrays owners_same) =
          rw (no_ints, no_arrays, append-nil ints, append-nil arrays, same known, owners_same owners) agree

  then_can : (line : ℕ) (s : Stmt) (b : Block) → StmtCan s → BlockCan b → BlockCan (Then line s b)
  then_can line s b first more c ints arrays known owners around returns here agree depth closing taken declared source types owns well =
      let p = and_parts (is_source_stmt s) (is_source_block b) source in
      let t = left_none (faults_in program returns known line s) _ types in
      both_true (can_lower c ints arrays s) _ (first c ints arrays known owners around returns here agree depth line taken p.0 t (left_none _ _ owns) (first_well c (read_in s) (read_in_block b) well))
      (more c (ints ++ new_integers s) (arrays ++ new_arrays s) (declares s known) (known_after owners s) around returns here
      (after_agrees s c ints arrays known owners around returns line agree t) depth closing (taken_after fs depth s taken) (declared_by line s declared) p.1
      (right_none (unless (not (surely_returns s) || ends_block b) line) _ (right_none (faults_in program returns known line s) _ types))
      (right_none _ _ owns) (second_well c (read_in s) (read_in_block b) well))

  mutual
    pub stmt_can : (s : Stmt) → StmtCan s
    stmt_can (Declare y e) c ints arrays known owners around returns here agree depth line taken source types owns well =
        expr_can agree e (and_parts (is_plain y) (is_source_expr e) source).1 (read_keeps around taken e (kept _ line owns)) well
    stmt_can (DeclareArray y e) c ints arrays known owners around returns here agree depth line taken source types owns well =
        expr_can agree e (and_parts (is_plain y) (is_source_expr e) source).1 (read_keeps around taken e (kept _ line owns)) well
    stmt_can (Assign y e) c ints arrays known owners around returns here agree depth line taken source types owns well =
        let s = and_parts (is_plain y) (is_source_expr e) source in
        let o = and_parts (may_read around taken e) (may_write around taken (y ∷ [])) (kept _ line owns) in
        both_true (can_write c y) _ (write_from agree y s.0 (outside agree y (write_inner around taken (y ∷ []) o.1 y (front_among y []))).0)
        (expr_can agree e s.1 (read_keeps around taken e o.0) well)
    stmt_can (AssignElement a i e) c ints arrays known owners around returns here agree depth line taken source types owns well =
        let s = and_parts (is_source_expr i) (is_source_expr e) (and_parts (is_plain a) _ source).1 in
        let o1 = and_parts _ (may_index around a i) (kept _ line owns) in
        let o2 = and_parts _ (are_loose taken (a ∷ [])) o1.0 in
        let o3 = and_parts (may_read around taken i) (may_read around taken e) o2.0 in
        both_true (if is_among a c.over then is_variable c i else (is_local c a && can_evaluate c i)) _
        (spot_can agree a i s.0 o1.1 (read_keeps around taken i o3.0) (first_well c (read_by i) (read_by e) well))
        (expr_can agree e s.1 (read_keeps around taken e o3.1) (second_well c (read_by i) (read_by e) well))
    stmt_can (Reduce how r e) c ints arrays known owners around returns here agree depth line taken source types owns well =
        expr_can agree e (and_parts (is_plain r) (is_source_expr e) source).1 (read_keeps around taken e (kept _ line owns)) well
    stmt_can (Call kind site target f es) c ints arrays known owners around returns here agree depth line taken source types owns well =
        call_can kind site target f es c ints arrays known owners around returns here agree depth line taken source types owns well
    stmt_can (Start kind f es) c ints arrays known owners around returns here agree depth line taken source types owns well = absurd cc
    stmt_can (Begin f from to captured' over) c ints arrays known owners around returns here agree depth line taken source types owns well = absurd cc
    stmt_can Sync c ints arrays known owners around returns here agree depth line taken source types owns well = refl
    stmt_can (If e b) c ints arrays known owners around returns here agree depth line taken source types owns well =
        let s = and_parts (is_source_expr e) (is_source_block b) source in
        both_true (can_evaluate c e) _ (expr_can agree e s.0 (read_keeps around taken e (kept _ line (left_none _ _ owns))) (first_well c (read_by e) (read_in_block b) well))
        (block_can b c ints arrays known owners around returns here agree depth Leaves taken [] s.1 (right_none _ _ types) (right_none _ _ owns) (second_well c (read_by e) (read_in_block b) well))
    stmt_can (IfElse e b d) c ints arrays known owners around returns here agree depth line taken source types owns well =
        let s = and_parts (is_source_expr e) _ source in
        let s' = and_parts (is_source_block b) (is_source_block d) s.1 in
        let t = right_none (unless (is_fine known e) line) (faults_in_block program returns known b ++ faults_in_block program returns known d) types in
        let o = right_none (unless (may_read around taken e) line) (owner_faults_in fs around owners depth Leaves taken [] b ++ owner_faults_in fs around owners depth Leaves taken [] d) owns in
        let w = second_well c (read_by e) (read_in_block b ++ read_in_block d) well in
        both_true (can_evaluate c e) _ (expr_can agree e s.0 (read_keeps around taken e (kept _ line (left_none _ _ owns))) (first_well c (read_by e) (read_in_block b ++ read_in_block d) well))
        (both_true (can_lower_all c ints arrays b) _ (block_can b c ints arrays known owners around returns here agree depth Leaves taken [] s'.0
        (left_none _ _ t) (left_none _ _ o) (first_well c (read_in_block b) (read_in_block d) w))
        (block_can d c ints arrays known owners around returns here agree depth Leaves taken [] s'.1 (right_none _ _ t) (right_none _ _ o) (second_well c (read_in_block b) (read_in_block d) w)))
    stmt_can (While e b) c ints arrays known owners around returns here agree depth line taken source types owns well =
        let s = and_parts (is_source_expr e) (is_source_block b) source in
        both_true (can_evaluate c e) _ (expr_can agree e s.0 (read_keeps around (taken_after fs depth (While e b) taken) e
        (kept _ line (left_none _ _ owns))) (first_well c (read_by e) (read_in_block b) well))
        (block_can b c ints arrays known owners around returns here agree depth Leaves (taken_after fs depth (While e b) taken) [] s.1
        (right_none _ _ types) (right_none _ _ owns) (second_well c (read_by e) (read_in_block b) well))
    stmt_can (For x y z from to grain over b) c ints arrays known owners around returns here agree depth line taken source types owns well =
        for_can x y z from to grain over b (block_can b) c ints arrays known owners around returns here agree depth line taken source types owns well
    stmt_can (Scope b) c ints arrays known owners around returns here agree depth line taken source types owns well =
        block_can b c ints arrays known owners around Nowhere here (with_returns agree Nowhere (no_returns c)) (depth + 1) Joins taken [] source types owns well
    stmt_can (Cut a e l r b) c ints arrays known owners around returns here agree depth line taken source types owns well =
        cut_can a e l r b (block_can b) c ints arrays known owners around returns here agree depth line taken source types owns well
    stmt_can (Region tag b) c ints arrays known owners around returns here agree depth line taken source types owns well =
        block_can b c ints arrays known owners around Nowhere here (with_returns agree Nowhere (no_returns c)) (depth + 1) Joins taken [] source types owns well
    stmt_can (Print e) c ints arrays known owners around returns here agree depth line taken source types owns well =
        expr_can agree e source (read_keeps around taken e (kept _ line owns)) well
    stmt_can (Return None) c ints arrays known owners around returns here agree depth line taken source types owns well = agree.may known None (kept _ line types)
    stmt_can (Return (Some e)) c ints arrays known owners around returns here agree depth line taken source types owns well =
        both_true c.returns _ (agree.may known (Some e) (kept _ line types)) (expr_can agree e source (read_keeps around taken e (kept _ line owns)) well)

    pub block_can : (b : Block) → BlockCan b
    block_can End c ints arrays known owners around returns here agree depth closing taken declared source types owns well = refl
    block_can (Then line s b) c ints arrays known owners around returns here agree depth closing taken declared source types owns well =
        then_can line s b (stmt_can s) (block_can b) c ints arrays known owners around returns here agree depth closing taken declared source types owns well
