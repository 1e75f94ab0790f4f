-- A tree with correct slots, indices and counts is the resolved tree of its program.
use Rattle.std.proofs.Common.{◌≡◌, ℕ, ◌==◌, List, [], ◌∷◌, ◌++◌, length, drop, true, not, ◌&&◌, if◌then◌else◌}
use Rattle.std.proofs.Common.{Option, Some, None, refl, sym, ap, ◌∙◌, bytes_eq}
use Rattle.std.specs.Prelude.{map, option_map}
use Rattle.std.specs.List.{list_all}
use Rattle.std.proofs.lemmas.Bool.{eqb-true}
use Rattle.std.proofs.lemmas.Slice.Eq.{bytes_eq-Decides}
use Rattle.cw_facts.specs.Tests.{not_true, first_true, second_true}
use Rattle.cw_model.specs.Syntax.{Name, Param, Reducer}
use Rattle.cw_model.specs.Names.{is_among}
use Rattle.cw_model.specs.Answers.{main_name}
use Rattle.cw_tree.specs.Resolved.{Use, Listed, Expr, Number, Variable, Element, Length, Negative, Not, Binary}
use Rattle.cw_tree.specs.Resolved.{Argument, Int, Array, Shared, Head, Parts, Stmt, Declare, DeclareArray, Assign}
use Rattle.cw_tree.specs.Resolved.{AssignElement, Reduce, Call, Sync, If, IfElse, While, For, Scope, Cut, Region}
use Rattle.cw_tree.specs.Resolved.{Print, Return, Block, End, Then, Function, Resolved, Lists, Locals, slot_of}
use Rattle.cw_tree.specs.Resolved.{use_of, next_use, listed_in, with_int, with_array, locals_after, captured_in}
use Rattle.cw_tree.specs.Resolved.{ints_in_block, arrays_in_block, locals_of, lists_of, tags_of, resolved_expr}
use Rattle.cw_tree.specs.Resolved.{is_reader, passed_to, params_of, resolved_argument, resolved_arguments, resolved_stmt, resolved_block, resolved_function, resolved}
use Rattle.cw_tree.specs.Resolved.{plain_expr, plain_argument, plain_stmt, plain_block, plain_function, plain}
use Rattle.cw_tree.specs.Slots.{is_use, is_next, is_listed, same_uses, same_names, is_right_expr, is_right_argument, are_right_arguments}
use Rattle.cw_tree.specs.Slots.{is_right_target, is_right_return, is_right_head, is_right_cut, is_right_stmt}
use Rattle.cw_tree.specs.Slots.{is_right_block, is_right_function, is_resolved}

abbrev use_with : Name → ℕ → Use
use_with x k = record { name = x; slot = k }

use_is : (names : List Name) (u : Use) → is_use names u ≡ true → u ≡ use_of names u.name
use_is names u h = ap (use_with u.name) (eqb-true u.slot (slot_of u.name names) h)

next_is : (names : List Name) (u : Use) → is_next names u ≡ true → u ≡ next_use names u.name
next_is names u h = ap (use_with u.name) (eqb-true u.slot (length names) h)

abbrev listed_with : Name → ℕ → Listed
listed_with x k = record { name = x; index = k }

listed_is : (names : List Name) (l : Listed) → is_listed names l ≡ true → l ≡ listed_in names l.name
listed_is names l h = ap (listed_with l.name) (eqb-true l.index (slot_of l.name names) h)

expr_is : (l : Locals) (e : Expr) → is_right_expr l e ≡ true → e ≡ resolved_expr l (plain_expr e)
expr_is l (Number n) h = refl
expr_is l (Variable u) h = ap Variable (use_is l.ints u h)
expr_is l (Element u e) h =
    ap (λ w. Element w e) (use_is l.arrays u (first_true (is_use l.arrays u) (is_right_expr l e) h)) ∙ ap
    (Element (use_of l.arrays u.name)) (expr_is l e (second_true (is_use l.arrays u) (is_right_expr l e) h))
expr_is l (Length u) h = ap Length (use_is l.arrays u h)
expr_is l (Negative e) h = ap Negative (expr_is l e h)
expr_is l (Not e) h = ap Not (expr_is l e h)
expr_is l (Binary o d e) h =
    ap (λ q. Binary o q e) (expr_is l d (first_true (is_right_expr l d) (is_right_expr l e) h)) ∙ ap
    (Binary o (resolved_expr l (plain_expr d))) (expr_is l e (second_true (is_right_expr l d) (is_right_expr l e) h))

argument_is : (l : Locals) (ps : List Param) (a : Argument) → is_right_argument l ps a ≡ true
    → a ≡ resolved_argument l ps (plain_argument a)
argument_is l ps (Int (Variable u)) h =
    let none = not_true (is_among u.name l.arrays) (first_true (not (is_among u.name l.arrays)) (is_use l.ints u) h) in
    ap (λ w. Int (Variable w)) (use_is l.ints u (second_true (not (is_among u.name l.arrays)) (is_use l.ints u) h))
    ∙ sym (ap (λ b. if b then passed_to ps (use_of l.arrays u.name) else Int (Variable (use_of l.ints u.name))) none)
argument_is l ps (Int (Number n)) h = refl
argument_is l ps (Int (Element u e)) h = ap Int (expr_is l (Element u e) h)
argument_is l ps (Int (Length u)) h = ap Int (expr_is l (Length u) h)
argument_is l ps (Int (Negative e)) h = ap Int (expr_is l (Negative e) h)
argument_is l ps (Int (Not e)) h = ap Int (expr_is l (Not e) h)
argument_is l ps (Int (Binary o d e)) h = ap Int (expr_is l (Binary o d e) h)
argument_is l ps (Array u) h =
    let two = first_true (is_among u.name l.arrays && is_use l.arrays u) (not (is_reader ps)) h in
    let takes =
    not_true (is_reader ps) (second_true (is_among u.name l.arrays && is_use l.arrays u) (not (is_reader ps)) h) in
    ap Array (use_is l.arrays u (second_true (is_among u.name l.arrays) (is_use l.arrays u) two))
    ∙ sym (ap (λ b. if b then Shared (use_of l.arrays u.name) else Array (use_of l.arrays u.name)) takes)
    ∙ sym (ap (λ b. if b then passed_to ps (use_of l.arrays u.name) else Int (Variable (use_of l.ints u.name)))
    (first_true (is_among u.name l.arrays) (is_use l.arrays u) two))
argument_is l ps (Shared u) h =
    let two = first_true (is_among u.name l.arrays && is_use l.arrays u) (is_reader ps) h in
    let reads = second_true (is_among u.name l.arrays && is_use l.arrays u) (is_reader ps) h in
    ap Shared (use_is l.arrays u (second_true (is_among u.name l.arrays) (is_use l.arrays u) two))
    ∙ sym (ap (λ b. if b then Shared (use_of l.arrays u.name) else Array (use_of l.arrays u.name)) reads)
    ∙ sym (ap (λ b. if b then passed_to ps (use_of l.arrays u.name) else Int (Variable (use_of l.ints u.name)))
    (first_true (is_among u.name l.arrays) (is_use l.arrays u) two))

arguments_are : (l : Locals) (ps : List Param) (rest : List Argument) → are_right_arguments l ps rest ≡ true
    → rest ≡ resolved_arguments l ps (map plain_argument rest)
arguments_are l ps [] h = refl
arguments_are l ps (a ∷ rest) h =
    ap (λ q. q ∷ rest)
    (argument_is l ps a (first_true (is_right_argument l ps a) (are_right_arguments l (drop 1 ps) rest) h))
    ∙ ap (λ q. resolved_argument l ps (plain_argument a) ∷ q)
    (arguments_are l (drop 1 ps) rest
    (second_true (is_right_argument l ps a) (are_right_arguments l (drop 1 ps) rest) h))

target_is : (l : Locals) (t : Option Use) → is_right_target l t ≡ true
    → t ≡ option_map (use_of l.ints) (option_map (λ u. u.name) t)
target_is l None h = refl
target_is l (Some u) h = ap (λ w. Some w) (use_is l.ints u h)

return_is : (l : Locals) (e : Option Expr) → is_right_return l e ≡ true
    → e ≡ option_map (resolved_expr l) (option_map plain_expr e)
return_is l None h = refl
return_is l (Some e) h = ap (λ w. Some w) (expr_is l e h)

uses_are : (names : List Name) (us : List Use) → list_all (is_use names) us ≡ true
    → us ≡ map (use_of names) (map (λ u. u.name) us)
uses_are names [] h = refl
uses_are names (u ∷ us) h =
    ap (λ q. q ∷ us) (use_is names u (first_true (is_use names u) (list_all (is_use names) us) h))
    ∙ ap (λ q. use_of names u.name ∷ q) (uses_are names us (second_true (is_use names u) (list_all (is_use names) us) h))

same_uses_are : (us ws : List Use) → same_uses us ws ≡ true → us ≡ ws
same_uses_are [] [] h = refl
same_uses_are [] (w ∷ ws) h = cc
same_uses_are (u ∷ us) [] h = cc
same_uses_are (u ∷ us) (w ∷ ws) h =
    let both = first_true (bytes_eq u.name w.name && (u.slot == w.slot)) (same_uses us ws) h in
    let name = (bytes_eq-Decides u.name w.name).0 (first_true (bytes_eq u.name w.name) (u.slot == w.slot) both) in
    let slot = eqb-true u.slot w.slot (second_true (bytes_eq u.name w.name) (u.slot == w.slot) both) in
    ap (λ x. use_with x u.slot ∷ us) name ∙ ap (λ k. use_with w.name k ∷ us) slot ∙ ap (λ q. w ∷ q)
    (same_uses_are us ws (second_true (bytes_eq u.name w.name && (u.slot == w.slot)) (same_uses us ws) h))

same_names_are : (xs ys : List Name) → same_names xs ys ≡ true → xs ≡ ys
same_names_are [] [] h = refl
same_names_are [] (y ∷ ys) h = cc
same_names_are (x ∷ xs) [] h = cc
same_names_are (x ∷ xs) (y ∷ ys) h =
    ap (λ z. z ∷ xs) ((bytes_eq-Decides x y).0 (first_true (bytes_eq x y) (same_names xs ys) h)) ∙ ap (λ q. y ∷ q)
    (same_names_are xs ys (second_true (bytes_eq x y) (same_names xs ys) h))

abbrev head_with : ℕ → Use → Expr → Expr → List Use → List Use → Head
head_with grain u from to captured over =
    record { variable = u; from = from; to = to; grain = grain; captured = captured; over = over }

head_is : (l : Locals) (h : Head) (b : Block) → is_right_head l h b ≡ true
    → h
    ≡ head_with h.grain (next_use l.ints h.variable.name) (resolved_expr l (plain_expr h.from))
    (resolved_expr l (plain_expr h.to)) (captured_in (length l.ints) b)
    (map (use_of l.arrays) (map (λ u. u.name) h.over))
head_is l h b r =
    let four =
    first_true (((is_next l.ints h.variable && is_right_expr l h.from) && is_right_expr l h.to)
    && same_uses h.captured (captured_in (length l.ints) b)) (list_all (is_use l.arrays) h.over) r in
    let three =
    first_true ((is_next l.ints h.variable && is_right_expr l h.from) && is_right_expr l h.to)
    (same_uses h.captured (captured_in (length l.ints) b)) four in
    let two = first_true (is_next l.ints h.variable && is_right_expr l h.from) (is_right_expr l h.to) three in
    let u = next_is l.ints h.variable (first_true (is_next l.ints h.variable) (is_right_expr l h.from) two) in
    let from = expr_is l h.from (second_true (is_next l.ints h.variable) (is_right_expr l h.from) two) in
    let to =
    expr_is l h.to (second_true (is_next l.ints h.variable && is_right_expr l h.from) (is_right_expr l h.to) three)
    in
    let captured =
    same_uses_are h.captured (captured_in (length l.ints) b)
    (second_true ((is_next l.ints h.variable && is_right_expr l h.from) && is_right_expr l h.to)
    (same_uses h.captured (captured_in (length l.ints) b)) four) in
    let over =
    uses_are l.arrays h.over (second_true (((is_next l.ints h.variable && is_right_expr l h.from)
    && is_right_expr l h.to) && same_uses h.captured (captured_in (length l.ints) b))
    (list_all (is_use l.arrays) h.over) r) in
    let f = resolved_expr l (plain_expr h.from) in
    let g = resolved_expr l (plain_expr h.to) in
    let x = next_use l.ints h.variable.name in
    ap (λ q. head_with h.grain q h.from h.to h.captured h.over) u
    ∙ ap (λ q. head_with h.grain x q h.to h.captured h.over) from
    ∙ ap (λ q. head_with h.grain x f q h.captured h.over) to
    ∙ ap (λ q. head_with h.grain x f g q h.over) captured
    ∙ ap (λ q. head_with h.grain x f g (captured_in (length l.ints) b) q) over

abbrev parts_with : Use → Expr → Use → Use → Parts
parts_with a e l r = record { array = a; at = e; left = l; right = r }

parts_are : (l : Locals) (c : Parts) → is_right_cut l c ≡ true
    → c
    ≡ parts_with (use_of l.arrays c.array.name) (resolved_expr l (plain_expr c.at)) (next_use l.arrays c.left.name)
    (next_use (l.arrays ++ c.left.name ∷ []) c.right.name)
parts_are l c h =
    let three =
    first_true ((is_use l.arrays c.array && is_right_expr l c.at) && is_next l.arrays c.left)
    (is_next (l.arrays ++ c.left.name ∷ []) c.right) h in
    let two = first_true (is_use l.arrays c.array && is_right_expr l c.at) (is_next l.arrays c.left) three in
    ap (λ q. parts_with q c.at c.left c.right)
    (use_is l.arrays c.array (first_true (is_use l.arrays c.array) (is_right_expr l c.at) two))
    ∙ ap (λ q. parts_with (use_of l.arrays c.array.name) q c.left c.right)
    (expr_is l c.at (second_true (is_use l.arrays c.array) (is_right_expr l c.at) two))
    ∙ ap (λ q. parts_with (use_of l.arrays c.array.name) (resolved_expr l (plain_expr c.at)) q c.right)
    (next_is l.arrays c.left
    (second_true (is_use l.arrays c.array && is_right_expr l c.at) (is_next l.arrays c.left) three))
    ∙ ap (λ q. parts_with (use_of l.arrays c.array.name) (resolved_expr l (plain_expr c.at))
    (next_use l.arrays c.left.name) q)
    (next_is (l.arrays ++ c.left.name ∷ []) c.right
    (second_true ((is_use l.arrays c.array && is_right_expr l c.at) && is_next l.arrays c.left)
    (is_next (l.arrays ++ c.left.name ∷ []) c.right) h))

module _ (lists : Lists) where
  mutual
    stmt_is : (l : Locals) (s : Stmt) → is_right_stmt lists l s ≡ true → s ≡ resolved_stmt lists l (plain_stmt s)
    stmt_is l (Declare u e) h =
        ap (λ q. Declare q e) (next_is l.ints u (first_true (is_next l.ints u) (is_right_expr l e) h)) ∙ ap
        (Declare (next_use l.ints u.name)) (expr_is l e (second_true (is_next l.ints u) (is_right_expr l e) h))
    stmt_is l (DeclareArray u e) h =
        ap (λ q. DeclareArray q e) (next_is l.arrays u (first_true (is_next l.arrays u) (is_right_expr l e) h)) ∙ ap
        (DeclareArray (next_use l.arrays u.name))
        (expr_is l e (second_true (is_next l.arrays u) (is_right_expr l e) h))
    stmt_is l (Assign u e) h =
        ap (λ q. Assign q e) (use_is l.ints u (first_true (is_use l.ints u) (is_right_expr l e) h)) ∙ ap
        (Assign (use_of l.ints u.name)) (expr_is l e (second_true (is_use l.ints u) (is_right_expr l e) h))
    stmt_is l (AssignElement u i e) h =
        let two = first_true (is_use l.arrays u && is_right_expr l i) (is_right_expr l e) h in
        ap (λ q. AssignElement q i e) (use_is l.arrays u (first_true (is_use l.arrays u) (is_right_expr l i) two))
        ∙ ap (λ q. AssignElement (use_of l.arrays u.name) q e)
        (expr_is l i (second_true (is_use l.arrays u) (is_right_expr l i) two))
        ∙ ap (AssignElement (use_of l.arrays u.name) (resolved_expr l (plain_expr i)))
        (expr_is l e (second_true (is_use l.arrays u && is_right_expr l i) (is_right_expr l e) h))
    stmt_is l (Reduce how s e) h =
        ap (λ q. Reduce how q e) (listed_is lists.reducers s (first_true (is_listed lists.reducers s)
        (is_right_expr l e) h))
        ∙ ap (Reduce how (listed_in lists.reducers s.name))
        (expr_is l e (second_true (is_listed lists.reducers s) (is_right_expr l e) h))
    stmt_is l (Call kind site target f es) h =
        let two =
        first_true (is_right_target l target && is_listed lists.functions f)
        (are_right_arguments l (params_of lists f.name) es) h in
        ap (λ q. Call kind site q f es)
        (target_is l target (first_true (is_right_target l target) (is_listed lists.functions f) two))
        ∙ ap (λ q. Call kind site (option_map (use_of l.ints) (option_map (λ u. u.name) target)) q es)
        (listed_is lists.functions f (second_true (is_right_target l target) (is_listed lists.functions f) two))
        ∙ ap (Call kind site (option_map (use_of l.ints) (option_map (λ u. u.name) target))
        (listed_in lists.functions f.name))
        (arguments_are l (params_of lists f.name) es (second_true (is_right_target l target && is_listed lists.functions f)
        (are_right_arguments l (params_of lists f.name) es) h))
    stmt_is l Sync h = refl
    stmt_is l (If e b) h =
        ap (λ q. If q b) (expr_is l e (first_true (is_right_expr l e) (is_right_block lists l b) h)) ∙ ap
        (If (resolved_expr l (plain_expr e)))
        (block_is l b (second_true (is_right_expr l e) (is_right_block lists l b) h))
    stmt_is l (IfElse e b c) h =
        let two = first_true (is_right_expr l e && is_right_block lists l b) (is_right_block lists l c) h in
        ap (λ q. IfElse q b c) (expr_is l e (first_true (is_right_expr l e) (is_right_block lists l b) two))
        ∙ ap (λ q. IfElse (resolved_expr l (plain_expr e)) q c)
        (block_is l b (second_true (is_right_expr l e) (is_right_block lists l b) two))
        ∙ ap (IfElse (resolved_expr l (plain_expr e)) (resolved_block lists l (plain_block b)))
        (block_is l c (second_true (is_right_expr l e && is_right_block lists l b) (is_right_block lists l c) h))
    stmt_is l (While e b) h =
        ap (λ q. While q b) (expr_is l e (first_true (is_right_expr l e) (is_right_block lists l b) h)) ∙ ap
        (While (resolved_expr l (plain_expr e)))
        (block_is l b (second_true (is_right_expr l e) (is_right_block lists l b) h))
    stmt_is l (For head b) h =
        let body =
        block_is (with_int head.variable.name l) b
        (second_true (is_right_head l head b) (is_right_block lists (with_int head.variable.name l) b) h) in
        ap (λ q. For q b) (head_is l head b
        (first_true (is_right_head l head b) (is_right_block lists (with_int head.variable.name l) b) h))
        ∙ ap (λ q. For (head_with head.grain (next_use l.ints head.variable.name)
        (resolved_expr l (plain_expr head.from)) (resolved_expr l (plain_expr head.to))
        (captured_in (length l.ints) q) (map (use_of l.arrays) (map (λ u. u.name) head.over))) q) body
    stmt_is l (Scope b) h = ap Scope (block_is l b h)
    stmt_is l (Cut parts b) h =
        let inner = with_array parts.right.name (with_array parts.left.name l) in
        ap (λ q. Cut q b) (parts_are l parts (first_true (is_right_cut l parts) (is_right_block lists inner b) h))
        ∙ ap (Cut (parts_with (use_of l.arrays parts.array.name) (resolved_expr l (plain_expr parts.at))
        (next_use l.arrays parts.left.name) (next_use (l.arrays ++ parts.left.name ∷ []) parts.right.name)))
        (block_is inner b (second_true (is_right_cut l parts) (is_right_block lists inner b) h))
    stmt_is l (Region tag b) h =
        ap (λ q. Region q b)
        (listed_is lists.tags tag (first_true (is_listed lists.tags tag) (is_right_block lists l b) h)) ∙ ap
        (Region (listed_in lists.tags tag.name))
        (block_is l b (second_true (is_listed lists.tags tag) (is_right_block lists l b) h))
    stmt_is l (Print e) h = ap Print (expr_is l e h)
    stmt_is l (Return e) h = ap Return (return_is l e h)

    block_is : (l : Locals) (b : Block) → is_right_block lists l b ≡ true → b ≡ resolved_block lists l (plain_block b)
    block_is l End h = refl
    block_is l (Then line s b) h =
        let here = is_right_stmt lists l s in
        let there = is_right_block lists (locals_after l (plain_stmt s)) b in
        ap (λ q. Then line q b) (stmt_is l s (first_true here there h)) ∙ ap
        (Then line (resolved_stmt lists l (plain_stmt s)))
        (block_is (locals_after l (plain_stmt s)) b (second_true here there h))

  abbrev function_with_parts : Function → ℕ → ℕ → Block → Function
  function_with_parts f ints arrays body =
      record {
        name = f.name;
        line = f.line;
        gives_int = f.gives_int;
        params = f.params;
        ints = ints;
        arrays = arrays;
        body = body;
      }

  pub body_is : (f : Function) → is_right_function lists f ≡ true
      → f.body ≡ resolved_block lists (locals_of f.params) (plain_block f.body)
  body_is f h =
      let l = locals_of f.params in
      let ints = f.ints == ints_in_block (length l.ints) f.body in
      let arrays = f.arrays == arrays_in_block (length l.arrays) f.body in
      block_is l f.body (second_true (ints && arrays) (is_right_block lists l f.body) h)

  function_is : (f : Function) → is_right_function lists f ≡ true → f ≡ resolved_function lists (plain_function f)
  function_is f h =
      let l = locals_of f.params in
      let ints = f.ints == ints_in_block (length l.ints) f.body in
      let arrays = f.arrays == arrays_in_block (length l.arrays) f.body in
      let two = first_true (ints && arrays) (is_right_block lists l f.body) h in
      ap (λ q. function_with_parts f q f.arrays f.body)
      (eqb-true f.ints (ints_in_block (length l.ints) f.body) (first_true ints arrays two))
      ∙ ap (λ q. function_with_parts f (ints_in_block (length l.ints) f.body) q f.body)
      (eqb-true f.arrays (arrays_in_block (length l.arrays) f.body) (second_true ints arrays two))
      ∙ ap (λ q. function_with_parts f (ints_in_block (length l.ints) q) (arrays_in_block (length l.arrays) q) q)
      (body_is f h)

  functions_are : (fs : List Function) → list_all (is_right_function lists) fs ≡ true
      → fs ≡ map (resolved_function lists) (map (λ f. plain_function f) fs)
  functions_are [] h = refl
  functions_are (f ∷ fs) h =
      ap (λ q. q ∷ fs) (function_is f (first_true (is_right_function lists f) (list_all (is_right_function lists) fs) h))
      ∙ ap (λ q. resolved_function lists (plain_function f) ∷ q)
      (functions_are fs (second_true (is_right_function lists f) (list_all (is_right_function lists) fs) h))

abbrev tree_with : List Reducer → List Function → List Name → ℕ → Resolved
tree_with reducers functions tags main = record { reducers = reducers; functions = functions; tags = tags; main = main }

pub all_right : (tree : Resolved) → is_resolved tree ≡ true
    → list_all (is_right_function (lists_of (plain tree))) tree.functions ≡ true
all_right tree h =
    let lists = lists_of (plain tree) in
    second_true (same_names tree.tags (tags_of (plain tree)) && (tree.main == slot_of main_name lists.functions))
    (list_all (is_right_function lists) tree.functions) h

pub slots_are_right : (tree : Resolved) → is_resolved tree ≡ true → tree ≡ resolved (plain tree)
slots_are_right tree h =
    let lists = lists_of (plain tree) in
    let same = same_names tree.tags (tags_of (plain tree)) in
    let main = tree.main == slot_of main_name lists.functions in
    let two = first_true (same && main) (list_all (is_right_function lists) tree.functions) h in
    let fs = map (resolved_function lists) (map (λ f. plain_function f) tree.functions) in
    ap (λ q. tree_with tree.reducers q tree.tags tree.main) (functions_are lists tree.functions (all_right tree h))
    ∙ ap (λ q. tree_with tree.reducers fs q tree.main)
    (same_names_are tree.tags (tags_of (plain tree)) (first_true same main two))
    ∙ ap (λ q. tree_with tree.reducers fs (tags_of (plain tree)) q)
    (eqb-true tree.main (slot_of main_name lists.functions) (second_true same main two))
