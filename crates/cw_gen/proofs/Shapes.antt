-- The shapes of the places of generated code.
use Rattle.std.proofs.Common.{◌≡◌, ℕ, suc, ◌+◌, List, [], ◌∷◌, ◌++◌, length, Bool, true, false, if◌then◌else◌, Option, Some, None, refl, sym, ap, ◌∙◌, subst, arith, length-append}
use Rattle.std.specs.Prelude.{map}
use Rattle.cw_model.specs.Syntax.{is_array_param, Name, Expr, Number, Variable, Element, Length, Negative, Not, Binary, Stmt, Declare, DeclareArray, Assign, AssignElement}
use Rattle.cw_model.specs.Syntax.{Reduce, Call, Start, Begin, Sync, If, IfElse, While, Scope, Cut, Region, Print, Return, Block, End, Then, Param, Function}
use Rattle.cw_model.specs.Meaning.{function_named}
use Rattle.cw_model.specs.Typing.{Returns, Nowhere, block_returns}
use Rattle.cw_model.specs.Ownership.{CutOf, Taken}
use Rattle.cw_tree.specs.Resolved.{Lists, Locals, params_of, slot_of, with_array, locals_after}
use Rattle.cw_loops.specs.Slotted.{slotted_argument, slotted_block}
use Rattle.cw_code.specs.declared.code.Instr.TheVariants as instr
use Rattle.cw_code.specs.Fits.{Shape}
use Rattle.cw_gen.specs.Emit as emit
use Rattle.cw_gen.specs.Emit.{Tables, first_list, past, emitted_over, emitted_arg, emitted_loads}
use Rattle.cw_gen.proofs.HeldNames.{held_after, held_after_all}
use Rattle.cw_gen.specs.Marks.{Marks}
use Rattle.cw_gen.proofs.Fine.{Room, ArgKept, arg_kept, ArgsFine, StmtFine, BlockFine}
use Rattle.cw_gen.proofs.Scopes.{locals_after_all}
use Rattle.cw_gen.proofs.Texts.{expr_code, args_code, stmt_code, block_code}
use Rattle.cw_gen.proofs.Codes.{arg_code, array_code}
use Rattle.cw_gen.proofs.EmptySlots.{halves_at}
pub use Rattle.cw_gen.proofs.EmptySlots.{Opened, depth_in, shape_at}

abbrev pub Shapes : Type 0
Shapes = List (Option Shape)

abbrev pub expr_shapes : (ℕ → Shape) → ℕ → Expr → Shapes
expr_shapes made n (Number v) = Some (made n) ∷ []
expr_shapes made n (Variable x) = Some (made n) ∷ []
expr_shapes made n (Element a e) = expr_shapes made n e ++ Some (made (n + 1)) ∷ []
expr_shapes made n (Length a) = Some (made n) ∷ []
expr_shapes made n (Negative e) = expr_shapes made n e ++ Some (made (n + 1)) ∷ []
expr_shapes made n (Not e) = expr_shapes made n e ++ Some (made (n + 1)) ∷ []
expr_shapes made n (Binary operator d e) = expr_shapes made n d ++ (expr_shapes made (n + 1) e ++ Some (made (n + 1 + 1)) ∷ [])

-- an array as an argument has no instruction
abbrev pub arg_shapes : Bool → (ℕ → Shape) → ℕ → Expr → Shapes
arg_shapes true made n e = []
arg_shapes false made n e = expr_shapes made n e

abbrev pub after_arg : Bool → ℕ → ℕ
after_arg true n = n
after_arg false n = n + 1

abbrev pub args_shapes : (ℕ → Shape) → ℕ → List Param → List Expr → Shapes
args_shapes made n [] es = []
args_shapes made n (p ∷ ps) [] = []
args_shapes made n (p ∷ ps) (e ∷ es) = arg_shapes (is_array_param p) made n e ++ args_shapes made (after_arg (is_array_param p) n) ps es

-- the number of operands after the arguments
abbrev pub args_after : ℕ → List Param → List Expr → ℕ
args_after n [] es = n
args_after n (p ∷ ps) [] = n
args_after n (p ∷ ps) (e ∷ es) = args_after (after_arg (is_array_param p) n) ps es

-- a place after a block that surely returns is not reached
abbrev pub reached : Bool → Shape → Option Shape
reached returns s = if returns then None else Some s

-- the shape at the end of a block
abbrev pub end_shape : List Function → (size : Room) (opened : Opened) → Locals → Taken → Block → Shape
end_shape fs size opened locals taken b = shape_at size opened (locals_after_all locals b) (held_after_all fs (depth_in opened) b taken) 0

abbrev pub valued_shapes : (ℕ → Shape) → Expr → Shapes
valued_shapes made e = expr_shapes made 0 e ++ Some (made 1) ∷ []

-- the shapes of the loads of captured integers
abbrev pub loads_shapes : (ℕ → Shape) → ℕ → List Name → Shapes
loads_shapes made n [] = []
loads_shapes made n (x ∷ xs) = Some (made n) ∷ loads_shapes made (n + 1) xs

-- the number of operands after these loads
abbrev pub loads_after : ℕ → List Name → ℕ
loads_after n [] = n
loads_after n (x ∷ xs) = loads_after (n + 1) xs

-- the first call of a loop's function
abbrev pub range_shapes : (ℕ → Shape) → (from to : Expr) → List Name → Shapes
range_shapes made from to captured = expr_shapes made 0 from ++ (expr_shapes made 1 to ++ (loads_shapes made 2 captured ++ Some (made (loads_after 2 captured)) ∷ []))

abbrev mutual
  pub stmt_shapes : List Function → (size : Room) (opened : Opened) → Locals → Taken → Stmt → Shapes
  stmt_shapes fs size opened locals taken (Declare x e) = valued_shapes (shape_at size opened locals taken) e
  stmt_shapes fs size opened locals taken (DeclareArray x e) = valued_shapes (shape_at size opened locals taken) e
  stmt_shapes fs size opened locals taken (AssignElement x i e) =
      expr_shapes (shape_at size opened locals taken) 0 i ++ (expr_shapes (shape_at size opened locals taken) 1 e ++ Some (shape_at size opened locals taken 2) ∷ [])
  stmt_shapes fs size opened locals taken (Assign x e) = valued_shapes (shape_at size opened locals taken) e
  stmt_shapes fs size opened locals taken (Reduce how s e) = valued_shapes (shape_at size opened locals taken) e
  stmt_shapes fs size opened locals taken (Print e) = valued_shapes (shape_at size opened locals taken) e
  stmt_shapes fs size opened locals taken (Call kind site target f es) =
      args_shapes (shape_at size opened locals taken) 0 (function_named f fs).params es
      ++ Some (shape_at size opened locals taken (args_after 0 (function_named f fs).params es)) ∷ []
  stmt_shapes fs size opened locals taken (Start kind f es) = args_shapes (shape_at size opened locals taken) 0 (function_named f fs).params es
      ++ Some (shape_at size opened locals taken (args_after 0 (function_named f fs).params es)) ∷ []
  stmt_shapes fs size opened locals taken (Begin f from to captured over) = range_shapes (shape_at size opened locals taken) from to captured
  stmt_shapes fs size opened locals taken Sync = Some (shape_at size opened locals taken 0) ∷ []
  stmt_shapes fs size opened locals taken (If e b) = expr_shapes (shape_at size opened locals taken) 0 e ++ Some (shape_at size opened locals taken 1) ∷ block_shapes fs size opened locals taken b
  stmt_shapes fs size opened locals taken (IfElse e b c) =
      expr_shapes (shape_at size opened locals taken) 0 e
      ++ (Some (shape_at size opened locals taken 1) ∷ (block_shapes fs size opened locals taken b
      ++ reached (block_returns b) (end_shape fs size opened locals taken b) ∷ []) ++ block_shapes fs size opened locals taken c)
  stmt_shapes fs size opened locals taken (While e b) =
      let all = held_after fs (depth_in opened) (While e b) taken in
      expr_shapes (shape_at size opened locals all) 0 e
      ++ Some (shape_at size opened locals all 1) ∷ (block_shapes fs size opened locals all b ++ reached (block_returns b) (end_shape fs size opened locals all b) ∷ [])
  stmt_shapes fs size opened locals taken (Scope b) =
      Some (shape_at size opened locals taken 0) ∷ (block_shapes fs size (None ∷ opened) locals taken b ++ reached (block_returns b) (end_shape fs size (None ∷ opened) locals taken b) ∷ [])
  stmt_shapes fs size opened locals taken (Cut a e l r b) =
      let inner = with_array r (with_array l locals) in
      let inside = Some (halves_at locals a) ∷ opened in
      expr_shapes (shape_at size opened locals taken) 0 e
      ++ Some (shape_at size opened locals taken 1) ∷ (block_shapes fs size inside inner ((a, CutOf) ∷ taken) b
      ++ reached (block_returns b) (end_shape fs size inside inner ((a, CutOf) ∷ taken) b) ∷ [])
  stmt_shapes fs size opened locals taken (Region tag b) =
      Some (shape_at size opened locals taken 0) ∷ (block_shapes fs size (None ∷ opened) locals taken b ++ reached (block_returns b) (end_shape fs size (None ∷ opened) locals taken b) ∷ [])
  stmt_shapes fs size opened locals taken (Return None) = Some (shape_at size opened locals taken 0) ∷ []
  stmt_shapes fs size opened locals taken (Return (Some e)) = valued_shapes (shape_at size opened locals taken) e
  stmt_shapes fs size opened locals taken _ = []

  pub block_shapes : List Function → (size : Room) (opened : Opened) → Locals → Taken → Block → Shapes
  block_shapes fs size opened locals taken End = []
  block_shapes fs size opened locals taken (Then line s b) = stmt_shapes fs size opened locals taken s
      ++ block_shapes fs size opened (locals_after locals s) (held_after fs (depth_in opened) s taken) b

last_one : {X Y : Type 0} (a : List X) (x : X) (b : List Y) (y : Y) → length a ≡ length b → length (a ++ x ∷ []) ≡ length (b ++ y ∷ [])
last_one a x b y e = length-append a (x ∷ []) ∙ ap (λ k. k + 1) e ∙ sym (length-append b (y ∷ []))

-- the number of shapes is the number of instructions
pub expr_as_many : (made : ℕ → Shape) (n : ℕ) (marks : Marks) (locals : Locals) (line : ℕ) (e : Expr) → length (expr_shapes made n e) ≡ length (expr_code marks locals line e)
expr_as_many made n marks locals line (Number v) = refl
expr_as_many made n marks locals line (Variable x) = refl
expr_as_many made n marks locals line (Element a e) = last_one (expr_shapes made n e) _ (expr_code marks locals line e) _ (expr_as_many made n marks locals line e)
expr_as_many made n marks locals line (Length a) = refl
expr_as_many made n marks locals line (Negative e) = last_one (expr_shapes made n e) _ (expr_code marks locals line e) _ (expr_as_many made n marks locals line e)
expr_as_many made n marks locals line (Not e) = last_one (expr_shapes made n e) _ (expr_code marks locals line e) _ (expr_as_many made n marks locals line e)
expr_as_many made n marks locals line (Binary operator d e) =
    let sd = expr_shapes made n d in
    let se = expr_shapes made (n + 1) e in
    let cd = expr_code marks locals line d in
    let ce = expr_code marks locals line e in
    length-append sd (se ++ Some (made (n + 1 + 1)) ∷ [])
    ∙ ap (λ k. k + length (se ++ Some (made (n + 1 + 1)) ∷ [])) (expr_as_many made n marks locals line d)
    ∙ ap (λ k. length cd + k) (last_one se (Some (made (n + 1 + 1))) ce (instr.Binary operator line) (expr_as_many made (n + 1) marks locals line e))
    ∙ sym (length-append cd (ce ++ instr.Binary operator line ∷ []))

both_as_many : {X Y : Type 0} (a b : List X) (c d : List Y) → length a ≡ length c → length b ≡ length d → length (a ++ b) ≡ length (c ++ d)
both_as_many a b c d e e' = length-append a b ∙ ap (λ k. k + length b) e ∙ ap (λ k. length c + k) e' ∙ sym (length-append c d)

pub arg_as_many : (made : ℕ → Shape) (n : ℕ) (marks : Marks) (locals : Locals) (taken : Taken) (line : ℕ) (ps : List Param) (b : Bool) (e : Expr)
    → ArgKept b locals taken e → length (arg_shapes b made n e) ≡ length (emitted_arg marks line (slotted_argument locals ps e))
arg_as_many made n marks locals taken line ps true e fine = sym (ap length (array_code marks locals line ps e fine))
arg_as_many made n marks locals taken line ps false e fine = expr_as_many made n marks locals line e ∙ sym (ap length (arg_code marks locals line ps e fine.1))

pub args_as_many : (made : ℕ → Shape) (n : ℕ) (marks : Marks) (locals : Locals) (taken : Taken) (line : ℕ) (ps : List Param) (es : List Expr)
    → ArgsFine marks locals taken ps es → length (args_shapes made n ps es) ≡ length (args_code marks locals line ps es)
args_as_many made n marks locals taken line [] [] fine = refl
args_as_many made n marks locals taken line [] (e ∷ es) fine = absurd fine
args_as_many made n marks locals taken line (p ∷ ps) [] fine = absurd fine
args_as_many made n marks locals taken line (p ∷ ps) (e ∷ es) fine =
    both_as_many (arg_shapes (is_array_param p) made n e) (args_shapes made (after_arg (is_array_param p) n) ps es)
    (emitted_arg marks line (slotted_argument locals (p ∷ ps) e)) (args_code marks locals line ps es)
    (arg_as_many made n marks locals taken line (p ∷ ps) (is_array_param p) e (arg_kept p.kind marks locals taken e fine.0))
    (args_as_many made (after_arg (is_array_param p) n) marks locals taken line ps es fine.1)

-- the number of shapes of the loads is the number of their instructions
pub loads_as_many : (made : ℕ → Shape) (n : ℕ) (locals : Locals) (xs : List Name) → length (loads_shapes made n xs) ≡ length (emitted_loads (map (λ x. slot_of x locals.ints) xs))
loads_as_many made n locals [] = refl
loads_as_many made n locals (x ∷ xs) = ap suc (loads_as_many made (n + 1) locals xs)

module _ (fs : List Function) (lists : Lists) (tables : Tables) (size : Room) where
  abbrev first : ℕ
  first = first_list tables.sites

  mutual
    pub stmt_as_many : (returns : Returns) (level : ℕ) (opened : Opened) (locals : Locals) (taken : Taken) (line : ℕ) (s : Stmt)
        → level ≡ depth_in opened → StmtFine fs lists tables size.marks size returns level locals taken s
        → length (stmt_shapes fs size opened locals taken s) ≡ length (stmt_code first size.marks lists locals line s)
    stmt_as_many returns level opened locals taken line (Declare x e) at fine = last_one (expr_shapes _ 0 e) _ (expr_code size.marks locals line e) _ (expr_as_many _ 0 size.marks locals line e)
    stmt_as_many returns level opened locals taken line (DeclareArray x e) at fine = last_one (expr_shapes _ 0 e) _ (expr_code size.marks locals line e) _ (expr_as_many _ 0 size.marks locals line e)
    stmt_as_many returns level opened locals taken line (AssignElement x i e) at fine =
        both_as_many (expr_shapes _ 0 i) _ (expr_code size.marks locals line i) _ (expr_as_many _ 0 size.marks locals line i)
        (last_one (expr_shapes _ 1 e) _ (expr_code size.marks locals line e) _ (expr_as_many _ 1 size.marks locals line e))
    stmt_as_many returns level opened locals taken line (Assign x e) at fine = last_one (expr_shapes _ 0 e) _ (expr_code size.marks locals line e) _ (expr_as_many _ 0 size.marks locals line e)
    stmt_as_many returns level opened locals taken line (Reduce how s e) at fine = last_one (expr_shapes _ 0 e) _ (expr_code size.marks locals line e) _ (expr_as_many _ 0 size.marks locals line e)
    stmt_as_many returns level opened locals taken line (Print e) at fine = last_one (expr_shapes _ 0 e) _ (expr_code size.marks locals line e) _ (expr_as_many _ 0 size.marks locals line e)
    stmt_as_many returns level opened locals taken line (Call kind site target f es) at fine =
        last_one (args_shapes _ 0 (function_named f fs).params es) _ (args_code size.marks locals line (params_of lists f) es) _
        (args_as_many _ 0 size.marks locals taken line (function_named f fs).params es fine.2 ∙ ap (λ ps. length (args_code size.marks locals line ps es)) (sym fine.8))
    stmt_as_many returns level opened locals taken line (Start kind f es) at fine =
        last_one (args_shapes _ 0 (function_named f fs).params es) _ (args_code size.marks locals line (params_of lists f) es) _
        (args_as_many _ 0 size.marks locals taken line (function_named f fs).params es fine.2 ∙ ap (λ ps. length (args_code size.marks locals line ps es)) (sym fine.6))
    stmt_as_many returns level opened locals taken line (Begin f from to captured over) at fine =
        let slots = map (λ x. slot_of x locals.ints) captured in
        both_as_many (expr_shapes _ 0 from) _ (expr_code size.marks locals line from) _ (expr_as_many _ 0 size.marks locals line from)
        (both_as_many (expr_shapes _ 1 to) _ (expr_code size.marks locals line to) _ (expr_as_many _ 1 size.marks locals line to)
        (last_one (loads_shapes _ 2 captured) _ (emitted_loads slots) _ (loads_as_many _ 2 locals captured)))
    stmt_as_many returns level opened locals taken line Sync at fine = refl
    stmt_as_many returns level opened locals taken line (If e b) at fine =
        both_as_many (expr_shapes _ 0 e) _ (expr_code size.marks locals line e) _ (expr_as_many _ 0 size.marks locals line e) (ap suc (block_as_many returns level opened locals taken b at fine.1))
    stmt_as_many returns level opened locals taken line (IfElse e b c) at fine =
        let r = emit.returns (slotted_block lists locals b) in
        let other = block_code first size.marks lists locals c in
        both_as_many (expr_shapes _ 0 e) _ (expr_code size.marks locals line e) _ (expr_as_many _ 0 size.marks locals line e)
        (both_as_many (Some (shape_at size opened locals taken 1) ∷ (block_shapes fs size opened locals taken b
        ++ reached (block_returns b) (end_shape fs size opened locals taken b) ∷ [])) (block_shapes fs size opened locals taken c)
        (emitted_over (block_code first size.marks lists locals b ++ instr.Skip (past r (length other)) ∷ [])) other
        (ap suc (last_one (block_shapes fs size opened locals taken b) _ (block_code first size.marks lists locals b) _
        (block_as_many returns level opened locals taken b at fine.1.0))) (block_as_many returns level opened locals taken c at fine.2.0))
    stmt_as_many returns level opened locals taken line (While e b) at fine =
        let all = held_after fs (depth_in opened) (While e b) taken in
        let fine' : BlockFine fs lists tables size.marks size returns level locals all b =
        subst (λ n. BlockFine fs lists tables size.marks size returns level locals (held_after fs n (While e b) taken) b) at fine.1 in
        both_as_many (expr_shapes _ 0 e) _ (expr_code size.marks locals line e) _ (expr_as_many _ 0 size.marks locals line e)
        (ap suc (last_one (block_shapes fs size opened locals all b) _ (block_code first size.marks lists locals b) _ (block_as_many returns level opened locals all b at fine')))
    stmt_as_many returns level opened locals taken line (Scope b) at fine =
        ap suc (last_one (block_shapes fs size (None ∷ opened) locals taken b) _ (block_code first size.marks lists locals b) _
        (block_as_many Nowhere (level + 1) (None ∷ opened) locals taken b (omega (arith, at)) fine.0))
    stmt_as_many returns level opened locals taken line (Cut a e l r b) at fine =
        let inner = with_array r (with_array l locals) in
        let inside = Some (halves_at locals a) ∷ opened in
        both_as_many (expr_shapes _ 0 e) _ (expr_code size.marks locals line e) _ (expr_as_many _ 0 size.marks locals line e)
        (ap suc (last_one (block_shapes fs size inside inner ((a, CutOf) ∷ taken) b) _ (block_code first size.marks lists inner b) _
        (block_as_many Nowhere (level + 1) inside inner ((a, CutOf) ∷ taken) b (omega (arith, at)) fine.3)))
    stmt_as_many returns level opened locals taken line (Region tag b) at fine =
        ap suc (last_one (block_shapes fs size (None ∷ opened) locals taken b) _ (block_code first size.marks lists locals b) _
        (block_as_many Nowhere (level + 1) (None ∷ opened) locals taken b (omega (arith, at)) fine.1))
    stmt_as_many returns level opened locals taken line (Return None) at fine = refl
    stmt_as_many returns level opened locals taken line (Return (Some e)) at fine = last_one (expr_shapes _ 0 e) _ (expr_code size.marks locals line e) _ (expr_as_many _ 0 size.marks locals line e)
    stmt_as_many returns level opened locals taken line _ at fine = absurd fine

    pub block_as_many : (returns : Returns) (level : ℕ) (opened : Opened) (locals : Locals) (taken : Taken) (b : Block) → level ≡ depth_in opened
        → BlockFine fs lists tables size.marks size returns level locals taken b
        → length (block_shapes fs size opened locals taken b) ≡ length (block_code first size.marks lists locals b)
    block_as_many returns level opened locals taken End at fine = refl
    block_as_many returns level opened locals taken (Then line s b) at fine =
        both_as_many (stmt_shapes fs size opened locals taken s) _ (stmt_code first size.marks lists locals line s) _ (stmt_as_many returns level opened locals taken line s at fine.0)
        (block_as_many returns level opened (locals_after locals s) (held_after fs (depth_in opened) s taken) b at
        (subst (λ n. BlockFine fs lists tables size.marks size returns level (locals_after locals s) (held_after fs n s taken) b) at fine.1))
