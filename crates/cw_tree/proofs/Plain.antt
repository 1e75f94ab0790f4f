-- A program that keeps the rules of names and types is its resolved tree without the slots.
use Rattle.std.proofs.Common.{◌≡◌, ℕ, Bool, true, false, not, ◌&&◌, ◌||◌, nat_le, if◌then◌else◌, List, [], ◌∷◌, ◌++◌, drop, map, flat_map, Option, Some, None, option_map, refl, sym, ap, ◌∙◌}
use Rattle.std.specs.List.{list_all}
use Rattle.std.proofs.lemmas.Slice.Eq.{bytes_eq-Decides}
use Rattle.cw_facts.specs.Tests.{first_true, second_true}
use Rattle.cw_model.specs.declared.limits.TheConstants.{MOST_GRAIN}
use Rattle.cw_model.specs.Lines.{unless}
use Rattle.cw_model.specs.Names.{same_name, is_among}
use Rattle.cw_model.specs.Syntax as model
use Rattle.cw_model.specs.Syntax.{Name, Program}
use Rattle.cw_model.specs.Answers.{main_name}
use Rattle.cw_model.specs.Typing.{Known, Returns, Nowhere, is_fine, is_new, is_writable, is_head_of_loop, is_cut, is_head, repeated_names, type_faults}
use Rattle.cw_model.specs.Typing.{faults_in, faults_in_block, faults_of, declares, surely_returns, ends_block, known_of, WithInt, Alone}
use Rattle.cw_model.specs.lemmas.Kept.{left_none, right_none, kept}
use Rattle.cw_tree.specs.Resolved as Resolved
use Rattle.cw_model.specs.declared.syntax.NameKind.TheVariants as name_kind

pub plain_of_expr : (l : Resolved.Locals) (e : model.Expr) → Resolved.plain_expr (Resolved.resolved_expr l e) ≡ e
plain_of_expr l (model.Number n) = refl
plain_of_expr l (model.Variable x) = refl
plain_of_expr l (model.Element a e) = ap (model.Element a) (plain_of_expr l e)
plain_of_expr l (model.Length a) = refl
plain_of_expr l (model.Negative e) = ap model.Negative (plain_of_expr l e)
plain_of_expr l (model.Not e) = ap model.Not (plain_of_expr l e)
plain_of_expr l (model.Binary o d e) = ap (λ z. model.Binary o z (Resolved.plain_expr (Resolved.resolved_expr l e))) (plain_of_expr l d) ∙ ap (model.Binary o d) (plain_of_expr l e)

plain_of_passed : (ps : List model.Param) (u : Resolved.Use) → Resolved.plain_argument (Resolved.passed_to ps u) ≡ model.Variable u.name
plain_of_passed ps u = first (Resolved.is_reader ps)
  where
    first : (b : Bool) → Resolved.plain_argument (if b then Resolved.Shared u else Resolved.Array u) ≡ model.Variable u.name
    first true = refl
    first false = refl

plain_of_name : (l : Resolved.Locals) (ps : List model.Param) (x : Name) → Resolved.plain_argument (Resolved.resolved_name l ps x) ≡ model.Variable x
plain_of_name l ps x = first (is_among x l.arrays)
  where
    first : (b : Bool) → Resolved.plain_argument (if b then Resolved.passed_to ps (Resolved.use_of l.arrays x) else Resolved.Int (Resolved.Variable (Resolved.use_of l.ints x))) ≡ model.Variable x
    first true = plain_of_passed ps (Resolved.use_of l.arrays x)
    first false = refl

pub plain_of_argument : (l : Resolved.Locals) (ps : List model.Param) (e : model.Expr) → Resolved.plain_argument (Resolved.resolved_argument l ps e) ≡ e
plain_of_argument l ps (model.Number n) = refl
plain_of_argument l ps (model.Variable x) = plain_of_name l ps x
plain_of_argument l ps (model.Element a e) = plain_of_expr l (model.Element a e)
plain_of_argument l ps (model.Length a) = refl
plain_of_argument l ps (model.Negative e) = plain_of_expr l (model.Negative e)
plain_of_argument l ps (model.Not e) = plain_of_expr l (model.Not e)
plain_of_argument l ps (model.Binary o d e) = plain_of_expr l (model.Binary o d e)

plain_of_arguments : (l : Resolved.Locals) (ps : List model.Param) (es : List model.Expr) → map Resolved.plain_argument (Resolved.resolved_arguments l ps es) ≡ es
plain_of_arguments l ps [] = refl
plain_of_arguments l ps (e ∷ es) = ap (λ z. z ∷ map Resolved.plain_argument (Resolved.resolved_arguments l (drop 1 ps) es))
    (plain_of_argument l ps e) ∙ ap (λ zs. e ∷ zs) (plain_of_arguments l (drop 1 ps) es)

plain_of_target : (names : List Name) (t : Option Name) → option_map (λ u. u.name) (option_map (Resolved.use_of names) t) ≡ t
plain_of_target names None = refl
plain_of_target names (Some x) = refl

plain_of_return : (l : Resolved.Locals) (e : Option model.Expr) → option_map Resolved.plain_expr (option_map (Resolved.resolved_expr l) e) ≡ e
plain_of_return l None = refl
plain_of_return l (Some e) = ap Some (plain_of_expr l e)

plain_of_uses : (names xs : List Name) → map (λ u. u.name) (map (Resolved.use_of names) xs) ≡ xs
plain_of_uses names [] = refl
plain_of_uses names (x ∷ xs) = ap (λ zs. x ∷ zs) (plain_of_uses names xs)

head_names : (program : Program) (known : Known) (x y z : Name) (from to : model.Expr) (grain : ℕ) (over : List Name) →
    is_head_of_loop program known x y z from to grain over ≡ true → (x ≡ y) × (x ≡ z)
head_names program known x y z from to grain over h =
    let a = is_new program known x in
    let b = same_name y x in
    let c = same_name z x in
    let d = is_fine known from in
    let e = is_fine known to in
    let f = nat_le 1 grain in
    let g = nat_le grain MOST_GRAIN in
    let most = first_true ((((a && b) && c) && d) && e) f (first_true (((((a && b) && c) && d) && e) && f) g
    (first_true ((((((a && b) && c) && d) && e) && f) && g) (list_all (λ n. is_writable known n) over) h)) in
    let three = first_true ((a && b) && c) d (first_true (((a && b) && c) && d) e most) in
    (sym ((bytes_eq-Decides y x).0 (second_true a b (first_true (a && b) c three))), sym ((bytes_eq-Decides z x).0 (second_true (a && b) c three)))

mutual
  pub plain_of_stmt : (program : Program) (returns : Returns) (known : Known) (lists : Resolved.Lists) (l : Resolved.Locals) (line : ℕ) (s : model.Stmt) →
      faults_in program returns known line s ≡ [] → Resolved.plain_stmt (Resolved.resolved_stmt lists l s) ≡ s
  plain_of_stmt program returns known lists l line (model.Declare x e) h = ap (model.Declare x) (plain_of_expr l e)
  plain_of_stmt program returns known lists l line (model.DeclareArray a e) h = ap (model.DeclareArray a) (plain_of_expr l e)
  plain_of_stmt program returns known lists l line (model.Assign x e) h = ap (model.Assign x) (plain_of_expr l e)
  plain_of_stmt program returns known lists l line (model.AssignElement a i e) h = let p = plain_of_expr l i in let q = plain_of_expr l e in cc
  plain_of_stmt program returns known lists l line (model.Reduce how s e) h = ap (model.Reduce how s) (plain_of_expr l e)
  plain_of_stmt program returns known lists l line (model.Call kind site target f es) h = let p = plain_of_target l.ints target in let q = plain_of_arguments l (Resolved.params_of lists f) es in cc
  plain_of_stmt program returns known lists l line (model.Start kind f es) h = cc
  plain_of_stmt program returns known lists l line (model.Begin f from to captured over) h = cc
  plain_of_stmt program returns known lists l line model.Sync h = refl
  plain_of_stmt program returns known lists l line (model.If e b) h =
      let p = plain_of_expr l e in
      let q = plain_of_block program returns known lists l b (right_none (unless (is_fine known e) line) (faults_in_block program returns known b) h) in cc
  plain_of_stmt program returns known lists l line (model.IfElse e b c) h =
      let both = right_none (unless (is_fine known e) line) (faults_in_block program returns known b ++ faults_in_block program returns known c) h in
      let p = plain_of_expr l e in
      let q = plain_of_block program returns known lists l b (left_none (faults_in_block program returns known b) (faults_in_block program returns known c) both) in
      let r = plain_of_block program returns known lists l c (right_none (faults_in_block program returns known b) (faults_in_block program returns known c) both) in cc
  plain_of_stmt program returns known lists l line (model.While e b) h =
      let p = plain_of_expr l e in
      let q = plain_of_block program returns known lists l b (right_none (unless (is_fine known e) line) (faults_in_block program returns known b) h) in cc
  plain_of_stmt program returns known lists l line (model.For x y z from to grain over b) h =
      let inner = faults_in_block program Nowhere ((x, name_kind.Integer) ∷ known) b in
      let same = head_names program known x y z from to grain over (kept (is_head_of_loop program known x y z from to grain over) line
      (left_none (unless (is_head_of_loop program known x y z from to grain over) line) inner h)) in
      let is_y : x ≡ y = same.0 in
      let is_z : x ≡ z = same.1 in
      let p = plain_of_expr l from in
      let q = plain_of_expr l to in
      let o = plain_of_uses l.arrays over in
      let r = plain_of_block program Nowhere ((x, name_kind.Integer) ∷ known) lists (Resolved.with_int x l) b
      (right_none (unless (is_head_of_loop program known x y z from to grain over) line) inner h) in cc
  plain_of_stmt program returns known lists l line (model.Scope b) h = ap model.Scope (plain_of_block program Nowhere known lists l b h)
  plain_of_stmt program returns known lists l line (model.Cut a e left right b) h =
      let p = plain_of_expr l e in
      let r = plain_of_block program Nowhere ((right, name_kind.Array) ∷ (left, name_kind.Array) ∷ known) lists (Resolved.with_array right (Resolved.with_array left l)) b
      (right_none (unless (is_cut program known a e left right) line) (faults_in_block program Nowhere ((right, name_kind.Array) ∷ (left, name_kind.Array) ∷ known) b) h) in cc
  plain_of_stmt program returns known lists l line (model.Region tag b) h = ap (model.Region tag) (plain_of_block program Nowhere known lists l b h)
  plain_of_stmt program returns known lists l line (model.Print e) h = ap model.Print (plain_of_expr l e)
  plain_of_stmt program returns known lists l line (model.Return e) h = ap model.Return (plain_of_return l e)

  pub plain_of_block : (program : Program) (returns : Returns) (known : Known) (lists : Resolved.Lists) (l : Resolved.Locals) (b : model.Block) →
      faults_in_block program returns known b ≡ [] → Resolved.plain_block (Resolved.resolved_block lists l b) ≡ b
  plain_of_block program returns known lists l model.End h = refl
  plain_of_block program returns known lists l (model.Then line s b) h =
      let here = faults_in program returns known line s in
      let last = unless (not (surely_returns s) || ends_block b) line in
      let after = faults_in_block program returns (declares s known) b in
      let p = plain_of_stmt program returns known lists l line s (left_none here (last ++ after) h) in
      let q = plain_of_block program returns (declares s known) lists (Resolved.locals_after l s) b (right_none last after (right_none here (last ++ after) h)) in cc

plain_of_functions : (program : Program) (lists : Resolved.Lists) (fs : List model.Function) → flat_map (faults_of program) fs ≡ [] →
    map Resolved.plain_function (map (Resolved.resolved_function lists) fs) ≡ fs
plain_of_functions program lists [] h = refl
plain_of_functions program lists (f ∷ fs) h =
    let here = right_none (unless (is_head program f) f.line) (faults_in_block program (if f.gives_int then WithInt else Alone) (known_of f.params) f.body)
    (left_none (faults_of program f) (flat_map (faults_of program) fs) h) in
    let body = plain_of_block program (if f.gives_int then WithInt else Alone) (known_of f.params) lists (Resolved.locals_of f.params) f.body here in
    let rest = plain_of_functions program lists fs (right_none (faults_of program f) (flat_map (faults_of program) fs) h) in
    ap (λ b. (let g : model.Function = record { name = f.name; line = f.line; gives_int = f.gives_int; params = f.params; body = b } in g)
    ∷ map Resolved.plain_function (map (Resolved.resolved_function lists) fs)) body
    ∙ ap (λ gs. f ∷ gs) rest

pub function_faults : (program : Program) → type_faults program ≡ [] → flat_map (faults_of program) program.functions ≡ []
function_faults program h =
    right_none (repeated_names program) (flat_map (faults_of program) program.functions)
    (right_none (unless (is_among main_name (map (λ (f : model.Function). f.name) program.functions)) 1) _ h)

-- the program without slots of a resolved tree is the program itself
pub plain_of_resolved : (program : Program) → type_faults program ≡ [] → Resolved.plain (Resolved.resolved program) ≡ program
plain_of_resolved program h =
    ap (λ fs. let p : Program = record { reducers = program.reducers; functions = fs } in p)
    (plain_of_functions program (Resolved.lists_of program) program.functions (function_faults program h))
