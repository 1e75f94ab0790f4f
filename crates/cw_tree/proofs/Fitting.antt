-- If a program keeps the limits and the rules of names and types, each slot and each index of its resolved tree is
-- below its count.
use Rattle.std.proofs.Common.{◌≡◌, ℕ, suc, ◌<◌, ◌≤◌, max, nat_lt, nat_le, Bool, true, false, not, ◌&&◌, ◌||◌, if◌then◌else◌, List, [], ◌∷◌, ◌++◌, length}
use Rattle.std.proofs.Common.{drop, map, filter, flat_map, Option, Some, None, option_map, refl, sym, ap, ◌∙◌, arith, true≢false}
use Rattle.std.specs.List.{list_all}
use Rattle.std.proofs.lemmas.List.{length-map, length_push}
use Rattle.std.proofs.lemmas.List.Folds.{list_all-append}
use Rattle.std.proofs.lemmas.Slice.Eq.{bytes_eq-Decides}
use Rattle.cw_facts.specs.Tests.{below, lt_of, at_most, first_true, second_true}
use Rattle.cw_model.specs.declared.limits.TheConstants.{MOST_GRAIN, MOST_DECLARED}
use Rattle.cw_model.specs.Lines.{unless}
use Rattle.cw_model.specs.Names.{same_name, is_among}
use Rattle.cw_model.specs.Syntax as model
use Rattle.cw_model.specs.Syntax.{Name, Param, Reducer, Program}
use Rattle.cw_model.specs.Answers.{main_name}
use Rattle.cw_model.specs.Sizes.{first_places, regions_in, regions_in_block, regions_of, function_limits, limit_faults}
use Rattle.cw_model.specs.Typing.{Known, is_known, is_int, is_array, is_writable, is_new, is_fine, are_arguments, called, is_target, is_call, is_reducer, Returns, Nowhere, WithInt, Alone}
use Rattle.cw_model.specs.Typing.{may_return, declares, surely_returns, ends_block, is_head_of_loop, is_cut, faults_in, faults_in_block, known_of, is_head, faults_of, type_faults}
use Rattle.cw_model.specs.lemmas.Kept.{left_none, right_none, kept}
use Rattle.cw_tree.specs.Resolved as spec
use Rattle.cw_tree.specs.Bounds.{Counts, is_below, fits_expr, fits_argument, fits_target, fits_return, fits_head, fits_parts, fits_stmt, fits_block, counts_of, fits_function, is_fitting}
use Rattle.cw_tree.proofs.Plain.{function_faults}
use Rattle.cw_tree.proofs.Right.{both}
use Rattle.cw_tree.specs.lemmas.Slotted.{few_ints_in, few_arrays_in, params_count}
use Rattle.cw_tree.specs.lemmas.Few.{heads_small, small_head}
use Rattle.cw_tree.specs.lemmas.Reducers.{is_named}
use Rattle.cw_tree.specs.lemmas.Names.{among_more, front_among}
use Rattle.cw_model.specs.declared.syntax.NameKind.TheVariants as name_kind
use Rattle.cw_model.specs.Syntax.{is_array_param}
use Rattle.cw_model.specs.declared.syntax.NameKind.{NameKind}
use Rattle.cw_model.specs.Syntax.{is_array_kind}
use Rattle.cw_model.specs.lemmas.Fits.{fits_kind, fit_kinds, writable_array, writable_arrays, arguments_fit}

-- the slot of a name among names is below their number
placed : (x : Name) (names : List Name) → is_among x names ≡ true → spec.slot_of x names < length names
placed x [] h = cc
placed x (y ∷ names) h = first (same_name x y) h (placed x names)
  where
    first : (b : Bool) → (if b then true else is_among x names) ≡ true → (is_among x names ≡ true → spec.slot_of x names < length names) →
        (if b then 0 else suc (spec.slot_of x names)) < suc (length names)
    first true h' more = omega arith
    first false h' more = let p = more h' in omega (arith, p)

slot_below : (x : Name) (names : List Name) (n : ℕ) → is_among x names ≡ true → length names ≤ n → nat_lt (spec.slot_of x names) n ≡ true
slot_below x names n h few = let p = placed x names h in below (spec.slot_of x names) n (omega (arith, p, few))

-- a name among names remains among them after one is appended
among_last : (x y : Name) (names : List Name) → same_name x y ≡ true → is_among x (names ++ y ∷ []) ≡ true
among_last x y [] h = ap (λ b. if b then true else false) h
among_last x y (z ∷ names) h = first (same_name x z) (among_last x y names h)
  where
    first : (b : Bool) → is_among x (names ++ y ∷ []) ≡ true → (if b then true else is_among x (names ++ y ∷ [])) ≡ true
    first true more = refl
    first false more = more

-- every known integer is among the integers, and every known array is among the arrays
record Agree (known : Known) (l : spec.Locals) : Type 0 where
  pub ints : (x : Name) → is_int known x ≡ true → is_among x l.ints ≡ true
  pub arrays : (x : Name) → is_array known x ≡ true → is_among x l.arrays ≡ true

agree_int : (known : Known) (l : spec.Locals) (y : Name) → Agree known l → Agree ((y, name_kind.Integer) ∷ known) (spec.with_int y l)
agree_int known l y a = record { ints = λ x h. int x (same_name x y) refl h; arrays = λ x h. array x (same_name x y) h }
  where
    int : (x : Name) (b : Bool) → same_name x y ≡ b → (if b then true else is_int known x) ≡ true → is_among x (l.ints ++ y ∷ []) ≡ true
    int x true e h = among_last x y l.ints e
    int x false e h = among_more x y l.ints (a.ints x h)

    array : (x : Name) (b : Bool) → (if b then false else is_array known x) ≡ true → is_among x l.arrays ≡ true
    array x true h = cc
    array x false h = a.arrays x h

agree_array : (known : Known) (l : spec.Locals) (y : Name) → Agree known l → Agree ((y, name_kind.Array) ∷ known) (spec.with_array y l)
agree_array known l y a = record { ints = λ x h. int x (same_name x y) h; arrays = λ x h. array x (same_name x y) refl h }
  where
    int : (x : Name) (b : Bool) → (if b then false else is_int known x) ≡ true → is_among x l.ints ≡ true
    int x true h = cc
    int x false h = a.ints x h

    array : (x : Name) (b : Bool) → same_name x y ≡ b → (if b then true else is_array known x) ≡ true → is_among x (l.arrays ++ y ∷ []) ≡ true
    array x true e h = among_last x y l.arrays e
    array x false e h = among_more x y l.arrays (a.arrays x h)

agree_after : (known : Known) (l : spec.Locals) (s : model.Stmt) → Agree known l → Agree (declares s known) (spec.locals_after l s)
agree_after known l (model.Declare x e) a = agree_int known l x a
agree_after known l (model.DeclareArray x e) a = agree_array known l x a
agree_after known l (model.Assign x e) a = a
agree_after known l (model.AssignElement x i e) a = a
agree_after known l (model.Reduce how s e) a = a
agree_after known l (model.Call kind site target f es) a = a
agree_after known l (model.Start kind f es) a = a
agree_after known l (model.Begin f from to captured over) a = a
agree_after known l model.Sync a = a
agree_after known l (model.If e b) a = a
agree_after known l (model.IfElse e b c) a = a
agree_after known l (model.While e b) a = a
agree_after known l (model.For x y z from to grain over b) a = a
agree_after known l (model.Scope b) a = a
agree_after known l (model.Cut x e left right b) a = a
agree_after known l (model.Region tag b) a = a
agree_after known l (model.Print e) a = a
agree_after known l (model.Return e) a = a

-- if only the last entry makes a name known, that entry has this name and this kind
last_known : (x : Name) (such : NameKind → Bool) (ks : Known) (y : Name) (c : NameKind) → is_known x such (ks ++ (y, c) ∷ []) ≡ true → is_known x such ks ≡ false →
    (same_name x y ≡ true) × (such c ≡ true)
last_known x such [] y c h none = first (same_name x y) refl h
  where
    first : (d : Bool) → same_name x y ≡ d → (if d then such c else false) ≡ true → (same_name x y ≡ true) × (such c ≡ true)
    first true e h' = (e, h')
    first false e h' = cc
last_known x such (k ∷ ks) y c h none = first (same_name x k.0) h none (last_known x such ks y c)
  where
    first : (d : Bool) → (if d then such k.1 else is_known x such (ks ++ (y, c) ∷ [])) ≡ true →
        (if d then such k.1 else is_known x such ks) ≡ false →
        (is_known x such (ks ++ (y, c) ∷ []) ≡ true → is_known x such ks ≡ false → (same_name x y ≡ true) × (such c ≡ true)) →
        (same_name x y ≡ true) × (such c ≡ true)
    first true h' none' more = absurd (true≢false (sym h' ∙ none'))
    first false h' none' more = more h' none'

int_param : (x : Name) (ps : List Param) → is_int (known_of ps) x ≡ true → is_among x (spec.locals_of ps).ints ≡ true
int_param x [] h = cc
int_param x (p ∷ ps) h = first (is_int (known_of ps) x) refl (int_param x ps)
  where
    more : is_among x (map (λ (q : Param). q.name) (filter (λ (q : Param). not (is_array_param q)) ps)) ≡ true → (s : Bool)
        → (if s then true else is_among x (map (λ (q : Param). q.name) (filter (λ (q : Param). not (is_array_param q)) ps))) ≡ true
    more e true = refl
    more e false = e

    old : is_among x (map (λ (q : Param). q.name) (filter (λ (q : Param). not (is_array_param q)) ps)) ≡ true → (c : Bool) →
        is_among x (map (λ (q : Param). q.name) (if not c then p ∷ filter (λ (q : Param). not (is_array_param q)) ps else filter (λ (q : Param). not (is_array_param q)) ps)) ≡ true
    old e true = e
    old e false = more e (same_name x p.name)

    new : same_name x p.name ≡ true → (c : Bool) → not c ≡ true →
        is_among x (map (λ (q : Param). q.name) (if not c then p ∷ filter (λ (q : Param). not (is_array_param q)) ps else filter (λ (q : Param). not (is_array_param q)) ps)) ≡ true
    new e true k = cc
    new e false k = ap (λ s. if s then true else is_among x (map (λ (q : Param). q.name) (filter (λ (q : Param). not (is_array_param q)) ps))) e

    first : (b : Bool) → is_int (known_of ps) x ≡ b → (is_int (known_of ps) x ≡ true → is_among x (spec.locals_of ps).ints ≡ true) →
        is_among x (spec.locals_of (p ∷ ps)).ints ≡ true
    first true e before = old (before e) (is_array_param p)
    first false e before = let last = last_known x (λ k. not (is_array_kind k)) (known_of ps) p.name p.kind h e in new last.0 (is_array_param p) last.1

array_param : (x : Name) (ps : List Param) → is_array (known_of ps) x ≡ true → is_among x (spec.locals_of ps).arrays ≡ true
array_param x [] h = cc
array_param x (p ∷ ps) h = first (is_array (known_of ps) x) refl (array_param x ps)
  where
    more : is_among x (map (λ (q : Param). q.name) (filter (λ (q : Param). is_array_param q) ps)) ≡ true → (s : Bool)
        → (if s then true else is_among x (map (λ (q : Param). q.name) (filter (λ (q : Param). is_array_param q) ps))) ≡ true
    more e true = refl
    more e false = e

    old : is_among x (map (λ (q : Param). q.name) (filter (λ (q : Param). is_array_param q) ps)) ≡ true → (c : Bool) →
        is_among x (map (λ (q : Param). q.name) (if c then p ∷ filter (λ (q : Param). is_array_param q) ps else filter (λ (q : Param). is_array_param q) ps)) ≡ true
    old e true = more e (same_name x p.name)
    old e false = e

    new : same_name x p.name ≡ true → (c : Bool) → c ≡ true →
        is_among x (map (λ (q : Param). q.name) (if c then p ∷ filter (λ (q : Param). is_array_param q) ps else filter (λ (q : Param). is_array_param q) ps)) ≡ true
    new e true k = ap (λ s. if s then true else is_among x (map (λ (q : Param). q.name) (filter (λ (q : Param). is_array_param q) ps))) e
    new e false k = cc

    first : (b : Bool) → is_array (known_of ps) x ≡ b → (is_array (known_of ps) x ≡ true → is_among x (spec.locals_of ps).arrays ≡ true) →
        is_among x (spec.locals_of (p ∷ ps)).arrays ≡ true
    first true e before = old (before e) (is_array_param p)
    first false e before = let last = last_known x is_array_kind (known_of ps) p.name p.kind h e in new last.0 (is_array_param p) last.1

agree_params : (ps : List Param) → Agree (known_of ps) (spec.locals_of ps)
agree_params ps = record { ints = λ x h. int_param x ps h; arrays = λ x h. array_param x ps h }

-- there is a slot for each known local
record Room (n : Counts) (l : spec.Locals) : Type 0 where
  pub ints : length l.ints ≤ n.ints
  pub arrays : length l.arrays ≤ n.arrays

fit_expr : (n : Counts) (known : Known) (l : spec.Locals) → Agree known l → Room n l → (e : model.Expr) → is_fine known e ≡ true →
    fits_expr n (spec.resolved_expr l e) ≡ true
fit_expr n known l a r (model.Number v) h = refl
fit_expr n known l a r (model.Variable x) h = slot_below x l.ints n.ints (a.ints x h) r.ints
fit_expr n known l a r (model.Element x e) h =
    both (slot_below x l.arrays n.arrays (a.arrays x (first_true (is_array known x) (is_fine known e) h)) r.arrays)
    (fit_expr n known l a r e (second_true (is_array known x) (is_fine known e) h))
fit_expr n known l a r (model.Length x) h = slot_below x l.arrays n.arrays (a.arrays x h) r.arrays
fit_expr n known l a r (model.Negative e) h = fit_expr n known l a r e h
fit_expr n known l a r (model.Not e) h = fit_expr n known l a r e h
fit_expr n known l a r (model.Binary o d e) h =
    both (fit_expr n known l a r d (first_true (is_fine known d) (is_fine known e) h))
    (fit_expr n known l a r e (second_true (is_fine known d) (is_fine known e) h))

fit_passed : (n : Counts) (ps : List Param) (u : spec.Use) → is_below n.arrays u ≡ true → fits_argument n (spec.passed_to ps u) ≡ true
fit_passed n ps u h = first (spec.is_reader ps)
  where
    first : (b : Bool) → fits_argument n (if b then spec.Shared u else spec.Array u) ≡ true
    first true = h
    first false = h

fit_name : (n : Counts) (known : Known) (l : spec.Locals) → Agree known l → Room n l → (qs : List Param) (array : Bool) (x : Name) →
    fits_kind known array (model.Variable x) ≡ true → fits_argument n (spec.resolved_name l qs x) ≡ true
fit_name n known l a r qs array x h = first (is_among x l.arrays) refl array h
  where
    first : (b : Bool) → is_among x l.arrays ≡ b → (array : Bool) → fits_kind known array (model.Variable x) ≡ true →
        fits_argument n (if b then spec.passed_to qs (spec.use_of l.arrays x) else spec.Int (spec.Variable (spec.use_of l.ints x))) ≡ true
    first true e array h' = fit_passed n qs (spec.use_of l.arrays x) (slot_below x l.arrays n.arrays e r.arrays)
    first false e true h' = absurd (true≢false (sym (a.arrays x h') ∙ e))
    first false e false h' = slot_below x l.ints n.ints (a.ints x h') r.ints

fit_argument : (n : Counts) (known : Known) (l : spec.Locals) → Agree known l → Room n l → (qs : List Param) (array : Bool) (e : model.Expr) →
    fits_kind known array e ≡ true → fits_argument n (spec.resolved_argument l qs e) ≡ true
fit_argument n known l a r qs array (model.Variable x) h = fit_name n known l a r qs array x h
fit_argument n known l a r qs false (model.Number v) h = refl
fit_argument n known l a r qs false (model.Element x e) h = fit_expr n known l a r (model.Element x e) h
fit_argument n known l a r qs false (model.Length x) h = fit_expr n known l a r (model.Length x) h
fit_argument n known l a r qs false (model.Negative e) h = fit_expr n known l a r e h
fit_argument n known l a r qs false (model.Not e) h = fit_expr n known l a r e h
fit_argument n known l a r qs false (model.Binary o d e) h = fit_expr n known l a r (model.Binary o d e) h
fit_argument n known l a r qs true (model.Number v) h = cc
fit_argument n known l a r qs true (model.Element x e) h = cc
fit_argument n known l a r qs true (model.Length x) h = cc
fit_argument n known l a r qs true (model.Negative e) h = cc
fit_argument n known l a r qs true (model.Not e) h = cc
fit_argument n known l a r qs true (model.Binary o d e) h = cc

fit_arguments : (n : Counts) (known : Known) (l : spec.Locals) → Agree known l → Room n l → (qs ps : List Param) (es : List model.Expr) →
    fit_kinds known ps es ≡ true → list_all (fits_argument n) (spec.resolved_arguments l qs es) ≡ true
fit_arguments n known l a r qs ps [] h = refl
fit_arguments n known l a r qs [] (e ∷ es) h = cc
fit_arguments n known l a r qs (p ∷ ps) (e ∷ es) h =
    both (fit_argument n known l a r qs (is_array_param p) e (first_true (fits_kind known (is_array_param p) e) (fit_kinds known ps es) h))
    (fit_arguments n known l a r (drop 1 qs) ps es (second_true (fits_kind known (is_array_param p) e) (fit_kinds known ps es) h))

fit_target : (n : Counts) (known : Known) (l : spec.Locals) → Agree known l → Room n l → (g : model.Function) (target : Option Name) →
    is_target known g target ≡ true → fits_target n (option_map (spec.use_of l.ints) target) ≡ true
fit_target n known l a r g None h = refl
fit_target n known l a r g (Some x) h = slot_below x l.ints n.ints (a.ints x (first_true (is_int known x) g.gives_int h)) r.ints

fit_return : (n : Counts) (known : Known) (l : spec.Locals) → Agree known l → Room n l → (returns : Returns) (e : Option model.Expr) →
    may_return returns known e ≡ true → fits_return n (option_map (spec.resolved_expr l) e) ≡ true
fit_return n known l a r returns None h = refl
fit_return n known l a r WithInt (Some e) h = fit_expr n known l a r e h
fit_return n known l a r Alone (Some e) h = cc
fit_return n known l a r Nowhere (Some e) h = cc

-- the function that a call names exists
record IsCalled (known : Known) (target : Option Name) (f : Name) (es : List model.Expr) (fs : List model.Function) : Type 0 where
  pub callee : model.Function
  pub there : is_among f (spec.function_names fs) ≡ true
  pub gives : is_target known callee target ≡ true
  pub given : are_arguments known callee.params es ≡ true

is_called : (known : Known) (target : Option Name) (f : Name) (es : List model.Expr) (fs : List model.Function) →
    is_call known target (called f fs) es ≡ true → IsCalled known target f es fs
is_called known target f es [] h = cc
is_called known target f es (g ∷ gs) h = first (same_name f g.name) refl h (is_called known target f es gs)
  where
    first : (b : Bool) → same_name f g.name ≡ b → is_call known target (if b then Some g else called f gs) es ≡ true →
        (is_call known target (called f gs) es ≡ true → IsCalled known target f es gs) → IsCalled known target f es (g ∷ gs)
    first true e h' more =
        let two = first_true (is_target known g target && are_arguments known g.params es) (not (same_name g.name main_name)) h' in
        record {
          callee = g;
          there = ap (λ b. if b then true else is_among f (spec.function_names gs)) e;
          gives = first_true (is_target known g target) (are_arguments known g.params es) two;
          given = second_true (is_target known g target) (are_arguments known g.params es) two;
        }
    first false e h' more =
        let rest = more h' in
        record {
          callee = rest.callee;
          there = ap (λ b. if b then true else is_among f (spec.function_names gs)) e ∙ rest.there;
          gives = rest.gives;
          given = rest.given;
        }

-- the integers that a loop captures have slots that are known before the loop
fit_first : (k n : ℕ) → k ≤ n → (found us : List spec.Use) → list_all (is_below n) found ≡ true → list_all (is_below n) (spec.first_uses k found us) ≡ true
fit_first k n few found [] h = h
fit_first k n few found (u ∷ us) h = fit_first k n few (spec.with_first k found u) us (first (nat_lt u.slot k) refl (not (spec.is_slot_in u.slot (map (λ (w : spec.Use). w.slot) found))))
  where
    first : (b : Bool) → nat_lt u.slot k ≡ b → (c : Bool) → list_all (is_below n) (if b && c then found ++ u ∷ [] else found) ≡ true
    first true e true =
        let p = lt_of u.slot k e in
        list_all-append (is_below n) found (u ∷ []) ∙ both h (both (below u.slot n (omega (arith, p, few))) refl)
    first true e false = h
    first false e c = h

fit_over : (n : Counts) (known : Known) (l : spec.Locals) → Agree known l → Room n l → (over : List Name) →
    list_all (λ x. is_array known x) over ≡ true → list_all (is_below n.arrays) (map (spec.use_of l.arrays) over) ≡ true
fit_over n known l a r [] h = refl
fit_over n known l a r (x ∷ xs) h =
    both (slot_below x l.arrays n.arrays (a.arrays x (first_true (is_array known x) (list_all (λ y. is_array known y) xs) h)) r.arrays)
    (fit_over n known l a r xs (second_true (is_array known x) (list_all (λ y. is_array known y) xs) h))

fit_head : (program : Program) (n : Counts) (known : Known) (l : spec.Locals) → Agree known l → Room n l →
    (x y z : Name) (from to : model.Expr) (grain : ℕ) (over : List Name) (b : spec.Block) → length l.ints < n.ints →
    is_head_of_loop program known x y z from to grain over ≡ true → fits_head n (spec.head_with l x from to grain over b) ≡ true
fit_head program n known l a r x y z from to grain over body new h =
    let b = same_name y x in
    let c = same_name z x in
    let d = is_fine known from in
    let e = is_fine known to in
    let f = nat_le 1 grain in
    let g = nat_le grain MOST_GRAIN in
    let i = is_new program known x in
    let arrays = list_all (λ w. is_writable known w) over in
    let most = first_true ((((i && b) && c) && d) && e) f (first_true (((((i && b) && c) && d) && e) && f) g (first_true ((((((i && b) && c) && d) && e) && f) && g) arrays h)) in
    let start = second_true ((i && b) && c) d (first_true (((i && b) && c) && d) e most) in
    let end = second_true (((i && b) && c) && d) e most in
    both (both (both (both (below (length l.ints) n.ints new) (fit_expr n known l a r from start)) (fit_expr n known l a r to end))
    (fit_first (length l.ints) n.ints r.ints [] (spec.reads_in_block body) refl))
    (fit_over n known l a r over (writable_arrays known over (second_true ((((((i && b) && c) && d) && e) && f) && g) arrays h)))

fit_parts : (program : Program) (n : Counts) (known : Known) (l : spec.Locals) → Agree known l → Room n l →
    (x : Name) (e : model.Expr) (left right : Name) → length (l.arrays ++ left ∷ []) < n.arrays →
    is_cut program known x e left right ≡ true → fits_parts n (spec.parts_of l x e left right) ≡ true
fit_parts program n known l a r x e left right new h =
    let i = is_writable known x in
    let f = is_fine known e in
    let two = first_true (i && f) (is_new program known left) (first_true ((i && f) && is_new program known left) (is_new program known right)
    (first_true (((i && f) && is_new program known left) && is_new program known right) (not (same_name left right)) h)) in
    let one = length_push l.arrays left in
    both (both (both (slot_below x l.arrays n.arrays (a.arrays x (writable_array known x (first_true i f two))) r.arrays) (fit_expr n known l a r e (second_true i f two)))
    (below (length l.arrays) n.arrays (omega (arith, new, one)))) (below (length (l.arrays ++ left ∷ [])) n.arrays new)

-- a statement does not decrease the number of slots
mutual
  more_ints : (n : ℕ) (s : spec.Stmt) → n ≤ spec.ints_in n s
  more_ints n (spec.Declare u e) = omega arith
  more_ints n (spec.DeclareArray u e) = omega arith
  more_ints n (spec.Assign u e) = omega arith
  more_ints n (spec.AssignElement u i e) = omega arith
  more_ints n (spec.Reduce how s e) = omega arith
  more_ints n (spec.Call kind site target f es) = omega arith
  more_ints n spec.Sync = omega arith
  more_ints n (spec.If e b) = more_ints_in n b
  more_ints n (spec.IfElse e b c) =
      let p = more_ints_in n b in
      let q = more_ints_in (spec.ints_in_block n b) c in omega (arith, p, q)
  more_ints n (spec.While e b) = more_ints_in n b
  more_ints n (spec.For head b) = let p = more_ints_in (max n (suc head.variable.slot)) b in omega (arith, p)
  more_ints n (spec.Scope b) = more_ints_in n b
  more_ints n (spec.Cut parts b) = more_ints_in n b
  more_ints n (spec.Region tag b) = more_ints_in n b
  more_ints n (spec.Print e) = omega arith
  more_ints n (spec.Return e) = omega arith

  more_ints_in : (n : ℕ) (b : spec.Block) → n ≤ spec.ints_in_block n b
  more_ints_in n spec.End = omega arith
  more_ints_in n (spec.Then line s b) =
      let p = more_ints n s in
      let q = more_ints_in (spec.ints_in n s) b in omega (arith, p, q)

mutual
  more_arrays : (n : ℕ) (s : spec.Stmt) → n ≤ spec.arrays_in n s
  more_arrays n (spec.Declare u e) = omega arith
  more_arrays n (spec.DeclareArray u e) = omega arith
  more_arrays n (spec.Assign u e) = omega arith
  more_arrays n (spec.AssignElement u i e) = omega arith
  more_arrays n (spec.Reduce how s e) = omega arith
  more_arrays n (spec.Call kind site target f es) = omega arith
  more_arrays n spec.Sync = omega arith
  more_arrays n (spec.If e b) = more_arrays_in n b
  more_arrays n (spec.IfElse e b c) =
      let p = more_arrays_in n b in
      let q = more_arrays_in (spec.arrays_in_block n b) c in omega (arith, p, q)
  more_arrays n (spec.While e b) = more_arrays_in n b
  more_arrays n (spec.For head b) = more_arrays_in n b
  more_arrays n (spec.Scope b) = more_arrays_in n b
  more_arrays n (spec.Cut parts b) = let p = more_arrays_in (max n (suc parts.right.slot)) b in omega (arith, p)
  more_arrays n (spec.Region tag b) = more_arrays_in n b
  more_arrays n (spec.Print e) = omega arith
  more_arrays n (spec.Return e) = omega arith

  more_arrays_in : (n : ℕ) (b : spec.Block) → n ≤ spec.arrays_in_block n b
  more_arrays_in n spec.End = omega arith
  more_arrays_in n (spec.Then line s b) =
      let p = more_arrays n s in
      let q = more_arrays_in (spec.arrays_in n s) b in omega (arith, p, q)

-- the locals after a statement fit in the slots that it needs
ints_grown : (lists : spec.Lists) (l : spec.Locals) (n : ℕ) (s : model.Stmt) → length l.ints ≤ n → length (spec.locals_after l s).ints ≤ spec.ints_in n (spec.resolved_stmt lists l s)
ints_grown lists l n (model.Declare x e) h = let one = length_push l.ints x in omega (arith, one)
ints_grown lists l n (model.DeclareArray x e) h = h
ints_grown lists l n (model.Assign x e) h = h
ints_grown lists l n (model.AssignElement x i e) h = h
ints_grown lists l n (model.Reduce how s e) h = h
ints_grown lists l n (model.Call kind site target f es) h = h
ints_grown lists l n (model.Start kind f es) h = h
ints_grown lists l n (model.Begin f from to captured over) h = h
ints_grown lists l n model.Sync h = h
ints_grown lists l n (model.If e b) h = let p = more_ints n (spec.resolved_stmt lists l (model.If e b)) in omega (arith, p, h)
ints_grown lists l n (model.IfElse e b c) h = let p = more_ints n (spec.resolved_stmt lists l (model.IfElse e b c)) in omega (arith, p, h)
ints_grown lists l n (model.While e b) h = let p = more_ints n (spec.resolved_stmt lists l (model.While e b)) in omega (arith, p, h)
ints_grown lists l n (model.For x y z from to grain over b) h = let p = more_ints n (spec.resolved_stmt lists l (model.For x y z from to grain over b)) in omega (arith, p, h)
ints_grown lists l n (model.Scope b) h = let p = more_ints n (spec.resolved_stmt lists l (model.Scope b)) in omega (arith, p, h)
ints_grown lists l n (model.Cut x e left right b) h = let p = more_ints n (spec.resolved_stmt lists l (model.Cut x e left right b)) in omega (arith, p, h)
ints_grown lists l n (model.Region tag b) h = let p = more_ints n (spec.resolved_stmt lists l (model.Region tag b)) in omega (arith, p, h)
ints_grown lists l n (model.Print e) h = h
ints_grown lists l n (model.Return e) h = h

arrays_grown : (lists : spec.Lists) (l : spec.Locals) (n : ℕ) (s : model.Stmt) → length l.arrays ≤ n → length (spec.locals_after l s).arrays ≤ spec.arrays_in n (spec.resolved_stmt lists l s)
arrays_grown lists l n (model.Declare x e) h = h
arrays_grown lists l n (model.DeclareArray x e) h = let one = length_push l.arrays x in omega (arith, one)
arrays_grown lists l n (model.Assign x e) h = h
arrays_grown lists l n (model.AssignElement x i e) h = h
arrays_grown lists l n (model.Reduce how s e) h = h
arrays_grown lists l n (model.Call kind site target f es) h = h
arrays_grown lists l n (model.Start kind f es) h = h
arrays_grown lists l n (model.Begin f from to captured over) h = h
arrays_grown lists l n model.Sync h = h
arrays_grown lists l n (model.If e b) h = let p = more_arrays n (spec.resolved_stmt lists l (model.If e b)) in omega (arith, p, h)
arrays_grown lists l n (model.IfElse e b c) h = let p = more_arrays n (spec.resolved_stmt lists l (model.IfElse e b c)) in omega (arith, p, h)
arrays_grown lists l n (model.While e b) h = let p = more_arrays n (spec.resolved_stmt lists l (model.While e b)) in omega (arith, p, h)
arrays_grown lists l n (model.For x y z from to grain over b) h = let p = more_arrays n (spec.resolved_stmt lists l (model.For x y z from to grain over b)) in omega (arith, p, h)
arrays_grown lists l n (model.Scope b) h = let p = more_arrays n (spec.resolved_stmt lists l (model.Scope b)) in omega (arith, p, h)
arrays_grown lists l n (model.Cut x e left right b) h = let p = more_arrays n (spec.resolved_stmt lists l (model.Cut x e left right b)) in omega (arith, p, h)
arrays_grown lists l n (model.Region tag b) h = let p = more_arrays n (spec.resolved_stmt lists l (model.Region tag b)) in omega (arith, p, h)
arrays_grown lists l n (model.Print e) h = h
arrays_grown lists l n (model.Return e) h = h

-- the tags of these regions are listed
abbrev IsTagged : List Name → List (Name × ℕ) → Type 0
IsTagged tags ds = (x : Name) → is_among x (map (λ (d : Name × ℕ). d.0) ds) ≡ true → is_among x tags ≡ true

among_front : (x : Name) (ds rest : List (Name × ℕ)) → is_among x (map (λ (d : Name × ℕ). d.0) ds) ≡ true → is_among x (map (λ (d : Name × ℕ). d.0) (ds ++ rest)) ≡ true
among_front x [] rest h = cc
among_front x (d ∷ ds) rest h = first (same_name x d.0) h (among_front x ds rest)
  where
    first : (b : Bool) → (if b then true else is_among x (map (λ (q : Name × ℕ). q.0) ds)) ≡ true →
        (is_among x (map (λ (q : Name × ℕ). q.0) ds) ≡ true → is_among x (map (λ (q : Name × ℕ). q.0) (ds ++ rest)) ≡ true) →
        (if b then true else is_among x (map (λ (q : Name × ℕ). q.0) (ds ++ rest))) ≡ true
    first true h' more = refl
    first false h' more = more h'

among_rear : (x : Name) (ds rest : List (Name × ℕ)) → is_among x (map (λ (d : Name × ℕ). d.0) rest) ≡ true → is_among x (map (λ (d : Name × ℕ). d.0) (ds ++ rest)) ≡ true
among_rear x [] rest h = h
among_rear x (d ∷ ds) rest h = first (same_name x d.0) (among_rear x ds rest h)
  where
    first : (b : Bool) → is_among x (map (λ (q : Name × ℕ). q.0) (ds ++ rest)) ≡ true → (if b then true else is_among x (map (λ (q : Name × ℕ). q.0) (ds ++ rest))) ≡ true
    first true more = refl
    first false more = more

tags_front : (tags : List Name) (ds rest : List (Name × ℕ)) → IsTagged tags (ds ++ rest) → IsTagged tags ds
tags_front tags ds rest h = λ x e. h x (among_front x ds rest e)

tags_rear : (tags : List Name) (ds rest : List (Name × ℕ)) → IsTagged tags (ds ++ rest) → IsTagged tags rest
tags_rear tags ds rest h = λ x e. h x (among_rear x ds rest e)

same_among : (x y : Name) (names : List Name) → same_name x y ≡ true → is_among y names ≡ is_among x names
same_among x y names h = ap (λ z. is_among z names) (sym ((bytes_eq-Decides x y).0 h))

-- the first occurrences contain each tag
first_placed : (ds : List (Name × ℕ)) (known : List Name) (x : Name) → is_among x (map (λ (d : Name × ℕ). d.0) ds) ≡ true → is_among x known ≡ false →
    is_among x (map (λ (d : Name × ℕ). d.0) (first_places ds known)) ≡ true
first_placed [] known x h new = cc
first_placed (d ∷ ds) known x h new = first (same_name x d.0) refl h (is_among d.0 known) refl (λ names h'. first_placed ds names x h')
  where
    first : (b : Bool) → same_name x d.0 ≡ b → (if b then true else is_among x (map (λ (q : Name × ℕ). q.0) ds)) ≡ true → (c : Bool) → is_among d.0 known ≡ c →
        ((names : List Name) → is_among x (map (λ (q : Name × ℕ). q.0) ds) ≡ true → is_among x names ≡ false → is_among x (map (λ (q : Name × ℕ). q.0) (first_places ds names)) ≡ true) →
        is_among x (map (λ (q : Name × ℕ). q.0) (if c then first_places ds known else d ∷ first_places ds (d.0 ∷ known))) ≡ true
    first true e h' true k more = absurd (true≢false (sym k ∙ same_among x d.0 known e ∙ new))
    first true e h' false k more = ap (λ b. if b then true else is_among x (map (λ (q : Name × ℕ). q.0) (first_places ds (d.0 ∷ known)))) e
    first false e h' true k more = more known h' new
    first false e h' false k more =
        ap (λ b. if b then true else is_among x (map (λ (q : Name × ℕ). q.0) (first_places ds (d.0 ∷ known)))) e
        ∙ more (d.0 ∷ known) h' (ap (λ b. if b then true else is_among x known) e ∙ new)

all_tagged : (program : Program) → IsTagged (spec.tags_of program) (regions_of program)
all_tagged program = λ x h. first_placed (regions_of program) [] x h refl

-- there is an index for each function, reducer and tag of a program
record Tables (program : Program) (n : Counts) : Type 0 where
  pub functions : length (spec.function_names program.functions) ≤ n.functions
  pub reducers : length (spec.reducer_names program.reducers) ≤ n.reducers
  pub tags : length (spec.tags_of program) ≤ n.tags

-- at this point of the traversal there are at least this many slots
record Stands (l : spec.Locals) (i j : ℕ) : Type 0 where
  pub ints : length l.ints ≤ i
  pub arrays : length l.arrays ≤ j

-- a statement needs no more slots than the counts
abbrev Needs : Counts → (i j : ℕ) → spec.Stmt → Type 0
Needs n i j s = (spec.ints_in i s ≤ n.ints) × (spec.arrays_in j s ≤ n.arrays)

abbrev NeedsIn : Counts → (i j : ℕ) → spec.Block → Type 0
NeedsIn n i j b = (spec.ints_in_block i b ≤ n.ints) × (spec.arrays_in_block j b ≤ n.arrays)

has_room : (n : Counts) (l : spec.Locals) (i j : ℕ) (s : spec.Stmt) → Stands l i j → Needs n i j s → Room n l
has_room n l i j s stands needs =
    let p = stands.ints in
    let q = stands.arrays in
    let p' = more_ints i s in
    let q' = more_arrays j s in
    let u = needs.0 in
    let v = needs.1 in
    record { ints = omega (arith, p, p', u); arrays = omega (arith, q, q', v) }

module _ (program : Program) (n : Counts) (tables : Tables program n) where
  mutual
    fit_stmt : (returns : Returns) (known : Known) (l : spec.Locals) (i j : ℕ) → Agree known l → Stands l i j → (line : ℕ) (s : model.Stmt) →
        Needs n i j (spec.resolved_stmt (spec.lists_of program) l s) → IsTagged (spec.tags_of program) (regions_in line s) → faults_in program returns known line s ≡ [] →
        fits_stmt n (spec.resolved_stmt (spec.lists_of program) l s) ≡ true
    fit_stmt returns known l i j a stands line (model.Declare x e) needs tagged h =
        let r = has_room n l i j (spec.resolved_stmt (spec.lists_of program) l (model.Declare x e)) stands needs in
        let k = kept (is_fine known e && is_new program known x) line h in
        let u = needs.0 in
        both (below (length l.ints) n.ints (omega (arith, u))) (fit_expr n known l a r e (first_true (is_fine known e) (is_new program known x) k))
    fit_stmt returns known l i j a stands line (model.DeclareArray x e) needs tagged h =
        let r = has_room n l i j (spec.resolved_stmt (spec.lists_of program) l (model.DeclareArray x e)) stands needs in
        let k = kept (is_fine known e && is_new program known x) line h in
        let u = needs.1 in
        both (below (length l.arrays) n.arrays (omega (arith, u))) (fit_expr n known l a r e (first_true (is_fine known e) (is_new program known x) k))
    fit_stmt returns known l i j a stands line (model.Assign x e) needs tagged h =
        let r = has_room n l i j (spec.resolved_stmt (spec.lists_of program) l (model.Assign x e)) stands needs in
        let k = kept (is_int known x && is_fine known e) line h in
        both (slot_below x l.ints n.ints (a.ints x (first_true (is_int known x) (is_fine known e) k)) r.ints) (fit_expr n known l a r e (second_true (is_int known x) (is_fine known e) k))
    fit_stmt returns known l i j a stands line (model.AssignElement x d e) needs tagged h =
        let r = has_room n l i j (spec.resolved_stmt (spec.lists_of program) l (model.AssignElement x d e)) stands needs in
        let k = kept ((is_writable known x && is_fine known d) && is_fine known e) line h in
        let two = first_true (is_writable known x && is_fine known d) (is_fine known e) k in
        both (both (slot_below x l.arrays n.arrays (a.arrays x (writable_array known x (first_true (is_writable known x) (is_fine known d) two)))
        r.arrays) (fit_expr n known l a r d (second_true (is_writable known x) (is_fine known d) two)))
        (fit_expr n known l a r e (second_true (is_writable known x && is_fine known d) (is_fine known e) k))
    fit_stmt returns known l i j a stands line (model.Reduce how s e) needs tagged h =
        let r = has_room n l i j (spec.resolved_stmt (spec.lists_of program) l (model.Reduce how s e)) stands needs in
        let k = kept (is_reducer program how s && is_fine known e) line h in
        let named = is_named how s program.reducers (first_true (is_reducer program how s) (is_fine known e) k) in
        both (slot_below s (spec.reducer_names program.reducers) n.reducers named tables.reducers) (fit_expr n known l a r e (second_true (is_reducer program how s) (is_fine known e) k))
    fit_stmt returns known l i j a stands line (model.Call kind site target f es) needs tagged h =
        let r = has_room n l i j (spec.resolved_stmt (spec.lists_of program) l (model.Call kind site target f es)) stands needs in
        let c = is_called known target f es program.functions (kept (is_call known target (called f program.functions) es) line h) in
        both (both (fit_target n known l a r c.callee target c.gives) (slot_below f (spec.function_names program.functions) n.functions c.there tables.functions))
        (fit_arguments n known l a r (spec.params_of (spec.lists_of program) f) c.callee.params es (arguments_fit known c.callee.params es c.given))
    fit_stmt returns known l i j a stands line (model.Start kind f es) needs tagged h = refl
    fit_stmt returns known l i j a stands line (model.Begin f from to captured over) needs tagged h = refl
    fit_stmt returns known l i j a stands line model.Sync needs tagged h = refl
    fit_stmt returns known l i j a stands line (model.If e b) needs tagged h =
        let r = has_room n l i j (spec.resolved_stmt (spec.lists_of program) l (model.If e b)) stands needs in
        let test = unless (is_fine known e) line in
        let inner = faults_in_block program returns known b in
        both (fit_expr n known l a r e (kept (is_fine known e) line (left_none test inner h))) (fit_block returns known l i j a stands b needs tagged (right_none test inner h))
    fit_stmt returns known l i j a stands line (model.IfElse e b c) needs tagged h =
        let r = has_room n l i j (spec.resolved_stmt (spec.lists_of program) l (model.IfElse e b c)) stands needs in
        let test = unless (is_fine known e) line in
        let first = faults_in_block program returns known b in
        let second = faults_in_block program returns known c in
        let block = spec.resolved_block (spec.lists_of program) l b in
        let other = spec.resolved_block (spec.lists_of program) l c in
        let p = more_ints_in i block in
        let q = more_arrays_in j block in
        let p' = more_ints_in (spec.ints_in_block i block) other in
        let q' = more_arrays_in (spec.arrays_in_block j block) other in
        let u = needs.0 in
        let v = needs.1 in
        let w = stands.ints in
        let z = stands.arrays in
        both (both (fit_expr n known l a r e (kept (is_fine known e) line (left_none test (first ++ second) h)))
        (fit_block returns known l i j a stands b (omega (arith, p', u), omega (arith, q', v))
        (tags_front (spec.tags_of program) (regions_in_block b) (regions_in_block c) tagged) (left_none first second (right_none test (first ++ second) h))))
        (fit_block returns known l (spec.ints_in_block i block) (spec.arrays_in_block j block) a
        (record { ints = omega (arith, p, w); arrays = omega (arith, q, z) }) c needs
        (tags_rear (spec.tags_of program) (regions_in_block b) (regions_in_block c) tagged) (right_none first second (right_none test (first ++ second) h)))
    fit_stmt returns known l i j a stands line (model.While e b) needs tagged h =
        let r = has_room n l i j (spec.resolved_stmt (spec.lists_of program) l (model.While e b)) stands needs in
        let test = unless (is_fine known e) line in
        let inner = faults_in_block program returns known b in
        both (fit_expr n known l a r e (kept (is_fine known e) line (left_none test inner h))) (fit_block returns known l i j a stands b needs tagged (right_none test inner h))
    fit_stmt returns known l i j a stands line (model.For x y z from to grain over b) needs tagged h =
        let r = has_room n l i j (spec.resolved_stmt (spec.lists_of program) l (model.For x y z from to grain over b)) stands needs in
        let test = unless (is_head_of_loop program known x y z from to grain over) line in
        let inner = faults_in_block program Nowhere ((x, name_kind.Integer) ∷ known) b in
        let block = spec.resolved_block (spec.lists_of program) (spec.with_int x l) b in
        let p = more_ints_in (max i (suc (length l.ints))) block in
        let u = needs.0 in
        let w = stands.arrays in
        let one = length_push l.ints x in
        both (fit_head program n known l a r x y z from to grain over block (omega (arith, p, u)) (kept (is_head_of_loop program known x y z from to grain over) line (left_none test inner h)))
        (fit_block Nowhere ((x, name_kind.Integer) ∷ known) (spec.with_int x l) (max i (suc (length l.ints))) j (agree_int known l x a)
        (record { ints = omega (arith, one); arrays = w }) b needs tagged (right_none test inner h))
    fit_stmt returns known l i j a stands line (model.Scope b) needs tagged h = fit_block Nowhere known l i j a stands b needs tagged h
    fit_stmt returns known l i j a stands line (model.Cut x e left right b) needs tagged h =
        let r = has_room n l i j (spec.resolved_stmt (spec.lists_of program) l (model.Cut x e left right b)) stands needs in
        let test = unless (is_cut program known x e left right) line in
        let inner = faults_in_block program Nowhere ((right, name_kind.Array) ∷ (left, name_kind.Array) ∷ known) b in
        let l' = spec.with_array right (spec.with_array left l) in
        let k = max j (suc (length (l.arrays ++ left ∷ []))) in
        let block = spec.resolved_block (spec.lists_of program) l' b in
        let p = more_arrays_in k block in
        let u = needs.1 in
        let w = stands.ints in
        let two = length_push (l.arrays ++ left ∷ []) right in
        both (fit_parts program n known l a r x e left right (omega (arith, p, u)) (kept (is_cut program known x e left right) line (left_none test inner h)))
        (fit_block Nowhere ((right, name_kind.Array) ∷ (left, name_kind.Array) ∷ known) l' i k
        (agree_array ((left, name_kind.Array) ∷ known) (spec.with_array left l) right (agree_array known l left a))
        (record { ints = w; arrays = omega (arith, two) }) b needs tagged (right_none test inner h))
    fit_stmt returns known l i j a stands line (model.Region tag b) needs tagged h =
        let there = tagged tag (front_among tag (map (λ (d : Name × ℕ). d.0) (regions_in_block b))) in
        both (slot_below tag (spec.tags_of program) n.tags there tables.tags)
        (fit_block Nowhere known l i j a stands b needs (tags_rear (spec.tags_of program) ((tag, line) ∷ []) (regions_in_block b) tagged) h)
    fit_stmt returns known l i j a stands line (model.Print e) needs tagged h =
        fit_expr n known l a (has_room n l i j (spec.resolved_stmt (spec.lists_of program) l (model.Print e)) stands needs) e (kept (is_fine known e) line h)
    fit_stmt returns known l i j a stands line (model.Return e) needs tagged h =
        fit_return n known l a (has_room n l i j (spec.resolved_stmt (spec.lists_of program) l (model.Return e)) stands needs) returns e (kept (may_return returns known e) line h)

    fit_block : (returns : Returns) (known : Known) (l : spec.Locals) (i j : ℕ) → Agree known l → Stands l i j → (b : model.Block) →
        NeedsIn n i j (spec.resolved_block (spec.lists_of program) l b) → IsTagged (spec.tags_of program) (regions_in_block b) → faults_in_block program returns known b ≡ [] →
        fits_block n (spec.resolved_block (spec.lists_of program) l b) ≡ true
    fit_block returns known l i j a stands model.End needs tagged h = refl
    fit_block returns known l i j a stands (model.Then line s b) needs tagged h =
        let here = faults_in program returns known line s in
        let last = unless (not (surely_returns s) || ends_block b) line in
        let after = faults_in_block program returns (declares s known) b in
        let stmt = spec.resolved_stmt (spec.lists_of program) l s in
        let block = spec.resolved_block (spec.lists_of program) (spec.locals_after l s) b in
        let p = more_ints_in (spec.ints_in i stmt) block in
        let q = more_arrays_in (spec.arrays_in j stmt) block in
        let u = needs.0 in
        let v = needs.1 in
        both (fit_stmt returns known l i j a stands line s (omega (arith, p, u), omega (arith, q, v))
        (tags_front (spec.tags_of program) (regions_in line s) (regions_in_block b) tagged) (left_none here (last ++ after) h))
        (fit_block returns (declares s known) (spec.locals_after l s) (spec.ints_in i stmt) (spec.arrays_in j stmt) (agree_after known l s a)
        (record { ints = ints_grown (spec.lists_of program) l i s stands.ints; arrays = arrays_grown (spec.lists_of program) l j s stands.arrays }) b needs
        (tags_rear (spec.tags_of program) (regions_in line s) (regions_in_block b) tagged) (right_none last after (right_none here (last ++ after) h)))

-- the counts for a function of a resolved program
abbrev counts_in : Program → model.Function → Counts
counts_in program f = counts_of (spec.resolved program) (spec.resolved_function (spec.lists_of program) f)

tables_of : (program : Program) (f : model.Function) → Tables program (counts_in program f)
tables_of program f =
    let names : length (spec.function_names program.functions) ≡ length program.functions = length-map program.functions (λ (g : model.Function). g.name) in
    let tree : length (map (spec.resolved_function (spec.lists_of program)) program.functions) ≡ length program.functions =
    length-map program.functions (spec.resolved_function (spec.lists_of program)) in
    let reducers : length (spec.reducer_names program.reducers) ≡ length program.reducers = length-map program.reducers (λ (r : Reducer). r.name) in
    record { functions = omega (arith, names, tree); reducers = omega (arith, reducers); tags = omega arith }

fit_function : (program : Program) (f : model.Function) → function_limits f ≡ [] → IsTagged (spec.tags_of program) (regions_in_block f.body) → faults_of program f ≡ [] →
    fits_function (spec.resolved program) (spec.resolved_function (spec.lists_of program) f) ≡ true
fit_function program f few tagged h =
    let lists = spec.lists_of program in
    let l = spec.locals_of f.params in
    let i = spec.ints_in_block (length l.ints) (spec.resolved_block lists l f.body) in
    let j = spec.arrays_in_block (length l.arrays) (spec.resolved_block lists l f.body) in
    let returns = if f.gives_int then WithInt else Alone in
    let small = small_head f few in
    let params = params_count f.params in
    let p = few_ints_in lists l (length l.ints) f.body in
    let q = few_arrays_in lists l (length l.arrays) f.body in
    both (both (at_most i MOST_DECLARED (omega (arith, small, params, p))) (at_most j MOST_DECLARED (omega (arith, small, params, q))))
    (fit_block program (counts_in program f) (tables_of program f) returns (known_of f.params) l (length l.ints) (length l.arrays) (agree_params f.params)
    (record { ints = omega arith; arrays = omega arith }) f.body (omega arith, omega arith) tagged
    (right_none (unless (is_head program f) f.line) (faults_in_block program returns (known_of f.params) f.body) h))

fit_functions : (program : Program) (fs : List model.Function) → flat_map function_limits fs ≡ [] → IsTagged (spec.tags_of program) (flat_map (λ (f : model.Function). regions_in_block f.body) fs) →
    flat_map (faults_of program) fs ≡ [] → list_all (fits_function (spec.resolved program)) (map (spec.resolved_function (spec.lists_of program)) fs) ≡ true
fit_functions program [] few tagged h = refl
fit_functions program (f ∷ fs) few tagged h =
    let here = regions_in_block f.body in
    let rest = flat_map (λ (g : model.Function). regions_in_block g.body) fs in
    both (fit_function program f (left_none (function_limits f) (flat_map function_limits fs) few)
    (tags_front (spec.tags_of program) here rest tagged) (left_none (faults_of program f) (flat_map (faults_of program) fs) h))
    (fit_functions program fs (right_none (function_limits f) (flat_map function_limits fs) few) (tags_rear (spec.tags_of program) here rest tagged)
    (right_none (faults_of program f) (flat_map (faults_of program) fs) h))

-- each slot and each index of a resolved program is below its count
pub resolved_fits : (program : Program) → limit_faults program ≡ [] → type_faults program ≡ [] → is_fitting (spec.resolved program) ≡ true
resolved_fits program few h =
    let main = is_among main_name (spec.function_names program.functions) in
    let tree : length (map (spec.resolved_function (spec.lists_of program)) program.functions) ≡ length program.functions =
    length-map program.functions (spec.resolved_function (spec.lists_of program)) in
    let names : length (spec.function_names program.functions) ≡ length program.functions = length-map program.functions (λ (g : model.Function). g.name) in
    both (fit_functions program program.functions (heads_small program few) (all_tagged program) (function_faults program h))
    (slot_below main_name (spec.function_names program.functions) (length (map (spec.resolved_function (spec.lists_of program)) program.functions))
    (kept main 1 (left_none (unless main 1) _ h)) (omega (arith, tree, names)))
