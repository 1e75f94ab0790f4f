-- The resolved tree of a program passes the test of slots.
use Rattle.std.proofs.Common.{◌≡◌, ℕ, ◌==◌, Bool, true, false, not, ◌&&◌, if◌then◌else◌, bytes_eq, List, [], ◌∷◌, ◌++◌, length, drop, map, Option, Some, None, option_map, refl, ap, ◌∙◌}
use Rattle.std.specs.List.{list_all}
use Rattle.std.specs.Cmp.{unsigned_Decides}
use Rattle.std.proofs.lemmas.Slice.Eq.{bytes_eq-Decides}
use Rattle.cw_model.specs.Answers.{main_name}
use Rattle.cw_model.specs.Names.{is_among}
use Rattle.cw_model.specs.Syntax as model
use Rattle.cw_model.specs.Syntax.{Name, Program}
use Rattle.cw_model.specs.Typing.{type_faults}
use Rattle.cw_tree.specs.Resolved as spec
use Rattle.cw_tree.specs.Slots.{is_use, same_uses, same_names, is_right_expr, is_right_argument, are_right_arguments, is_right_target}
use Rattle.cw_tree.specs.Slots.{is_right_return, is_right_head, is_right_cut, is_right_stmt, is_right_block, is_right_function, is_resolved}
use Rattle.cw_tree.proofs.Plain.{plain_of_resolved}

pub both : {a b : Bool} → a ≡ true → b ≡ true → (a && b) ≡ true
both {a} {b} h k = ap (λ z. z && b) h ∙ k

equal : (n : ℕ) → (n == n) ≡ true
equal n = (unsigned_Decides n n).1 refl

pub same : (x : Name) → bytes_eq x x ≡ true
same x = (bytes_eq-Decides x x).1 refl

same_list : (us : List spec.Use) → same_uses us us ≡ true
same_list [] = refl
same_list (u ∷ us) = both (both (same u.name) (equal u.slot)) (same_list us)

same_all : (xs : List Name) → same_names xs xs ≡ true
same_all [] = refl
same_all (x ∷ xs) = both (same x) (same_all xs)

right_expr : (l : spec.Locals) (e : model.Expr) → is_right_expr l (spec.resolved_expr l e) ≡ true
right_expr l (model.Number n) = refl
right_expr l (model.Variable x) = equal (spec.slot_of x l.ints)
right_expr l (model.Element a e) = both (equal (spec.slot_of a l.arrays)) (right_expr l e)
right_expr l (model.Length a) = equal (spec.slot_of a l.arrays)
right_expr l (model.Negative e) = right_expr l e
right_expr l (model.Not e) = right_expr l e
right_expr l (model.Binary o d e) = both (right_expr l d) (right_expr l e)

right_passed : (l : spec.Locals) (ps : List model.Param) (u : spec.Use) → (is_among u.name l.arrays && is_use l.arrays u) ≡ true → is_right_argument l ps (spec.passed_to ps u) ≡ true
right_passed l ps u h = first (spec.is_reader ps) refl
  where
    first : (b : Bool) → spec.is_reader ps ≡ b → is_right_argument l ps (if b then spec.Shared u else spec.Array u) ≡ true
    first true e = both h e
    first false e = both h (ap not e)

right_name : (l : spec.Locals) (ps : List model.Param) (x : Name) → is_right_argument l ps (spec.resolved_name l ps x) ≡ true
right_name l ps x = first (is_among x l.arrays) refl
  where
    first : (b : Bool) → is_among x l.arrays ≡ b →
        is_right_argument l ps (if b then spec.passed_to ps (spec.use_of l.arrays x) else spec.Int (spec.Variable (spec.use_of l.ints x))) ≡ true
    first true h = right_passed l ps (spec.use_of l.arrays x) (both h (equal (spec.slot_of x l.arrays)))
    first false h = both (ap not h) (equal (spec.slot_of x l.ints))

right_argument : (l : spec.Locals) (ps : List model.Param) (e : model.Expr) → is_right_argument l ps (spec.resolved_argument l ps e) ≡ true
right_argument l ps (model.Number n) = refl
right_argument l ps (model.Variable x) = right_name l ps x
right_argument l ps (model.Element a e) = right_expr l (model.Element a e)
right_argument l ps (model.Length a) = right_expr l (model.Length a)
right_argument l ps (model.Negative e) = right_expr l e
right_argument l ps (model.Not e) = right_expr l e
right_argument l ps (model.Binary o d e) = right_expr l (model.Binary o d e)

right_arguments : (l : spec.Locals) (ps : List model.Param) (es : List model.Expr) → are_right_arguments l ps (spec.resolved_arguments l ps es) ≡ true
right_arguments l ps [] = refl
right_arguments l ps (e ∷ es) = both (right_argument l ps e) (right_arguments l (drop 1 ps) es)

right_target : (l : spec.Locals) (t : Option Name) → is_right_target l (option_map (spec.use_of l.ints) t) ≡ true
right_target l None = refl
right_target l (Some x) = equal (spec.slot_of x l.ints)

right_return : (l : spec.Locals) (e : Option model.Expr) → is_right_return l (option_map (spec.resolved_expr l) e) ≡ true
right_return l None = refl
right_return l (Some e) = right_expr l e

right_uses : (names xs : List Name) → list_all (is_use names) (map (spec.use_of names) xs) ≡ true
right_uses names [] = refl
right_uses names (x ∷ xs) = both (equal (spec.slot_of x names)) (right_uses names xs)

right_head : (l : spec.Locals) (x : Name) (from to : model.Expr) (grain : ℕ) (over : List Name) (b : spec.Block) →
    is_right_head l (spec.head_with l x from to grain over b) b ≡ true
right_head l x from to grain over b =
    both (both (both (both (equal (length l.ints)) (right_expr l from)) (right_expr l to)) (same_list (spec.captured_in (length l.ints) b))) (right_uses l.arrays over)

right_parts : (l : spec.Locals) (a : Name) (e : model.Expr) (left right : Name) → is_right_cut l (spec.parts_of l a e left right) ≡ true
right_parts l a e left right =
    both (both (both (equal (spec.slot_of a l.arrays)) (right_expr l e)) (equal (length l.arrays))) (equal (length (l.arrays ++ left ∷ [])))

after_plain : (lists : spec.Lists) (l : spec.Locals) (s : model.Stmt) → spec.locals_after l (spec.plain_stmt (spec.resolved_stmt lists l s)) ≡ spec.locals_after l s
after_plain lists l (model.Declare x e) = refl
after_plain lists l (model.DeclareArray a e) = refl
after_plain lists l (model.Assign x e) = refl
after_plain lists l (model.AssignElement a i e) = refl
after_plain lists l (model.Reduce how s e) = refl
after_plain lists l (model.Call kind site target f es) = refl
after_plain lists l (model.Start kind f es) = refl
after_plain lists l (model.Begin f from to captured over) = refl
after_plain lists l model.Sync = refl
after_plain lists l (model.If e b) = refl
after_plain lists l (model.IfElse e b c) = refl
after_plain lists l (model.While e b) = refl
after_plain lists l (model.For x y z from to grain over b) = refl
after_plain lists l (model.Scope b) = refl
after_plain lists l (model.Cut a e left right b) = refl
after_plain lists l (model.Region tag b) = refl
after_plain lists l (model.Print e) = refl
after_plain lists l (model.Return e) = refl

mutual
  pub right_stmt : (lists : spec.Lists) (l : spec.Locals) (s : model.Stmt) → is_right_stmt lists l (spec.resolved_stmt lists l s) ≡ true
  right_stmt lists l (model.Declare x e) = both (equal (length l.ints)) (right_expr l e)
  right_stmt lists l (model.DeclareArray a e) = both (equal (length l.arrays)) (right_expr l e)
  right_stmt lists l (model.Assign x e) = both (equal (spec.slot_of x l.ints)) (right_expr l e)
  right_stmt lists l (model.AssignElement a i e) = both (both (equal (spec.slot_of a l.arrays)) (right_expr l i)) (right_expr l e)
  right_stmt lists l (model.Reduce how s e) = both (equal (spec.slot_of s lists.reducers)) (right_expr l e)
  right_stmt lists l (model.Call kind site target f es) = both (both (right_target l target) (equal (spec.slot_of f lists.functions))) (right_arguments l (spec.params_of lists f) es)
  right_stmt lists l (model.Start kind f es) = refl
  right_stmt lists l (model.Begin f from to captured over) = refl
  right_stmt lists l model.Sync = refl
  right_stmt lists l (model.If e b) = both (right_expr l e) (right_block lists l b)
  right_stmt lists l (model.IfElse e b c) = both (both (right_expr l e) (right_block lists l b)) (right_block lists l c)
  right_stmt lists l (model.While e b) = both (right_expr l e) (right_block lists l b)
  right_stmt lists l (model.For x y z from to grain over b) =
      both (right_head l x from to grain over (spec.resolved_block lists (spec.with_int x l) b)) (right_block lists (spec.with_int x l) b)
  right_stmt lists l (model.Scope b) = right_block lists l b
  right_stmt lists l (model.Cut a e left right b) = both (right_parts l a e left right) (right_block lists (spec.with_array right (spec.with_array left l)) b)
  right_stmt lists l (model.Region tag b) = both (equal (spec.slot_of tag lists.tags)) (right_block lists l b)
  right_stmt lists l (model.Print e) = right_expr l e
  right_stmt lists l (model.Return e) = right_return l e

  pub right_block : (lists : spec.Lists) (l : spec.Locals) (b : model.Block) → is_right_block lists l (spec.resolved_block lists l b) ≡ true
  right_block lists l model.End = refl
  right_block lists l (model.Then line s b) =
      both (right_stmt lists l s)
      (ap (λ k. is_right_block lists k (spec.resolved_block lists (spec.locals_after l s) b)) (after_plain lists l s) ∙ right_block lists (spec.locals_after l s) b)

right_functions : (lists : spec.Lists) (fs : List model.Function) → list_all (is_right_function lists) (map (spec.resolved_function lists) fs) ≡ true
right_functions lists [] = refl
right_functions lists (f ∷ fs) =
    let l = spec.locals_of f.params in
    let body = spec.resolved_block lists l f.body in
    both (both (both (equal (spec.ints_in_block (length l.ints) body)) (equal (spec.arrays_in_block (length l.arrays) body))) (right_block lists l f.body)) (right_functions lists fs)

-- the test of slots with the lists of this program
abbrev right_for : Program → spec.Resolved → Bool
right_for program tree =
    let lists = spec.lists_of program in
    same_names tree.tags (spec.tags_of program) && (tree.main == spec.slot_of main_name lists.functions)
    && list_all (is_right_function lists) tree.functions

pub resolved_is_right : (program : Program) → type_faults program ≡ [] → is_resolved (spec.resolved program) ≡ true
resolved_is_right program h =
    ap (λ p. right_for p (spec.resolved program)) (plain_of_resolved program h)
    ∙ both (both (same_all (spec.tags_of program)) (equal (spec.slot_of main_name (spec.function_names program.functions)))) (right_functions (spec.lists_of program) program.functions)
