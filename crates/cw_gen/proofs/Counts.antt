-- The number of instructions of the code is the static size of its program.
use Rattle.std.proofs.Common.{◌≡◌, ℕ, suc, ◌+◌, List, [], ◌∷◌, ◌++◌, length, Bool, true, false, if◌then◌else◌, Some, None, refl, sym, ap, ◌∙◌, arith, length-append}
use Rattle.std.specs.Prelude.{sum_by, map}
use Rattle.std.proofs.lemmas.List.Sums.{sum_by-cons}
use Rattle.std.proofs.lemmas.List.{length_push}
use Rattle.cw_model.specs.Syntax.{is_array_param, Name, Expr, Number, Variable, Element, Length, Negative, Not, Binary, Stmt, Declare, DeclareArray, Assign, AssignElement, Reduce}
use Rattle.cw_model.specs.Syntax.{Call, Start, Begin, Sync, If, IfElse, While, Scope, Cut, Region, Print, Return, Block, End, Then, Param, Function, Program}
use Rattle.cw_model.specs.Meaning.{function_named}
use Rattle.cw_model.specs.Typing.{Returns, Nowhere, WithInt, Alone}
use Rattle.cw_model.specs.Ownership.{CutOf, Taken}
use Rattle.cw_model.specs.Sizes.{size_of, arguments_size, stmt_size, block_size, function_size, static_size}
use Rattle.cw_tree.specs.Resolved.{Lists, Locals, params_of, slot_of, with_array, locals_after, locals_of}
use Rattle.cw_loops.specs.Lowered.{lowered}
use Rattle.cw_loops.specs.Slotted.{slotted_argument, slotted_block, slotted_function, lowered_lists}
use Rattle.cw_code.specs.declared.code.Instr.TheVariants as instr
use Rattle.cw_gen.specs.Emit as emit
use Rattle.cw_gen.specs.Emit.{element_at, Tables, first_list, distance, past, whole_of, emitted_arg, emitted_loads, emitted_end, emitted_instrs, emitted_over}
use Rattle.cw_gen.proofs.HeldNames.{held_after}
use Rattle.cw_gen.specs.Marks.{Marks, place_of, array_at}
use Rattle.cw_gen.proofs.Fine.{Room, room_of, marks_for, ExprFine, ArgKept, arg_kept, ArgsFine, ReturnFine, StmtFine, BlockFine, FunctionFine, FunctionsFine, ProgramFine}
use Rattle.cw_gen.proofs.Codes.{arg_code, array_code}
use Rattle.cw_gen.proofs.Texts.{expr_code, args_code, stmt_code, block_code, function_code, tables_in, code_of}

expr_count : (marks : Marks) (locals : Locals) (taken : Taken) (line : ℕ) (e : Expr) → ExprFine locals taken e → length (expr_code marks locals line e) ≡ size_of [] e
expr_count marks locals taken line (Number n) fine = refl
expr_count marks locals taken line (Variable x) fine = refl
expr_count marks locals taken line (Element a e) fine = omega (
  arith,
  length_push (expr_code marks locals line e) (element_at (place_of marks (slot_of a locals.arrays)) line),
  expr_count marks locals taken line e fine.1,
)
expr_count marks locals taken line (Length a) fine = refl
expr_count marks locals taken line (Negative e) fine = length_push (expr_code marks locals line e) _ ∙ ap (λ k. k + 1) (expr_count marks locals taken line e fine)
expr_count marks locals taken line (Not e) fine = length_push (expr_code marks locals line e) _ ∙ ap (λ k. k + 1) (expr_count marks locals taken line e fine)
expr_count marks locals taken line (Binary operator d e) fine =
    let cd = expr_code marks locals line d in
    let ce = expr_code marks locals line e in
    let i = instr.Binary operator line in
    omega (arith, length-append cd (ce ++ i ∷ []), length_push ce i, expr_count marks locals taken line d fine.0, expr_count marks locals taken line e fine.1)

args_count : (marks : Marks) (locals : Locals) (taken : Taken) (line : ℕ) (ps : List Param) (es : List Expr) → ArgsFine marks locals taken ps es
    → length (args_code marks locals line ps es) ≡ arguments_size [] ps es
args_count marks locals taken line [] [] fine = refl
args_count marks locals taken line [] (e ∷ es) fine = absurd fine
args_count marks locals taken line (p ∷ ps) [] fine = absurd fine
args_count marks locals taken line (p ∷ ps) (e ∷ es) fine = one (is_array_param p) e (arg_kept p.kind marks locals taken e fine.0) (args_count marks locals taken line ps es fine.1)
  where
    one : (b : Bool) (e : Expr) → ArgKept b locals taken e → length (args_code marks locals line ps es) ≡ arguments_size [] ps es
        → length (emitted_arg marks line (slotted_argument locals (p ∷ ps) e) ++ args_code marks locals line ps es)
        ≡ (if b then 0 else size_of [] e) + arguments_size [] ps es
    one true e h more = let z : arguments_size [] ps es ≡ 0 + arguments_size [] ps es = omega arith in
        ap (λ is. length (is ++ args_code marks locals line ps es)) (array_code marks locals line (p ∷ ps) e h) ∙ more ∙ z
    one false e h more =
        length-append (emitted_arg marks line (slotted_argument locals (p ∷ ps) e)) (args_code marks locals line ps es)
        ∙ ap (λ k. k + length (args_code marks locals line ps es)) (ap length (arg_code marks locals line (p ∷ ps) e h.1) ∙ expr_count marks locals taken line e h.0)
        ∙ ap (λ k. size_of [] e + k) more

loads_count : (locals : Locals) (xs : List Name) → length (emitted_loads (map (λ x. slot_of x locals.ints) xs)) ≡ length xs
loads_count locals [] = refl
loads_count locals (x ∷ xs) = ap suc (loads_count locals xs)

end_count : (b : Bool) → length (emitted_end b) ≡ (if b then 0 else 1)
end_count true = refl
end_count false = refl

module _ (fs : List Function) (lists : Lists) (tables : Tables) where
  abbrev first : ℕ
  first = first_list tables.sites

  returned_count : (returns : Returns) (locals : Locals) (taken : Taken) (e : Expr) → ReturnFine returns locals taken (Some e) → ExprFine locals taken e
  returned_count Nowhere locals taken e fine = absurd fine
  returned_count WithInt locals taken e fine = fine
  returned_count Alone locals taken e fine = absurd fine

  mutual
    stmt_count : (size : Room) (returns : Returns) (level : ℕ) (locals : Locals) (taken : Taken) (line : ℕ) (s : Stmt)
        → StmtFine fs lists tables size.marks size returns level locals taken s → length (stmt_code first size.marks lists locals line s) ≡ stmt_size fs [] s
    stmt_count size returns level locals taken line (Declare x e) fine = length_push (expr_code size.marks locals line e) _ ∙ ap (λ k. k + 1) (expr_count size.marks locals taken line e fine.1)
    stmt_count size returns level locals taken line (DeclareArray x e) fine = length_push (expr_code size.marks locals line e) _ ∙ ap (λ k. k + 1) (expr_count size.marks locals taken line e fine.1)
    stmt_count size returns level locals taken line (AssignElement a i e) fine =
        let ci = expr_code size.marks locals line i in
        let ce = expr_code size.marks locals line e in
        omega (
          arith,
          length-append ci (ce ++ instr.SetElement (array_at size.marks (slot_of a locals.arrays)) line ∷ []),
          length_push ce (instr.SetElement (array_at size.marks (slot_of a locals.arrays)) line),
          expr_count size.marks locals taken line i fine.1,
          expr_count size.marks locals taken line e fine.2,
        )
    stmt_count size returns level locals taken line (Assign x e) fine = length_push (expr_code size.marks locals line e) _ ∙ ap (λ k. k + 1) (expr_count size.marks locals taken line e fine.1)
    stmt_count size returns level locals taken line (Reduce how s e) fine = length_push (expr_code size.marks locals line e) _ ∙ ap (λ k. k + 1) (expr_count size.marks locals taken line e fine.1)
    stmt_count size returns level locals taken line (Print e) fine = length_push (expr_code size.marks locals line e) _ ∙ ap (λ k. k + 1) (expr_count size.marks locals taken line e fine)
    stmt_count size returns level locals taken line (Call kind site target f es) fine =
        length_push (args_code size.marks locals line (params_of lists f) es) _
        ∙ ap (λ k. k + 1) (ap (λ ps. length (args_code size.marks locals line ps es)) fine.8 ∙ args_count size.marks locals taken line (function_named f fs).params es fine.2)
    stmt_count size returns level locals taken line (Start kind f es) fine =
        length_push (args_code size.marks locals line (params_of lists f) es) _
        ∙ ap (λ k. k + 1) (ap (λ ps. length (args_code size.marks locals line ps es)) fine.6 ∙ args_count size.marks locals taken line (function_named f fs).params es fine.2)
    stmt_count size returns level locals taken line (Begin f from to captured over) fine =
        let cf = expr_code size.marks locals line from in
        let ct = expr_code size.marks locals line to in
        let loads = emitted_loads (map (λ x. slot_of x locals.ints) captured) in
        let i = instr.Start (whole_of first (slot_of f lists.functions)) line in
        omega (
          arith,
          length-append cf (ct ++ (loads ++ i ∷ [])),
          length-append ct (loads ++ i ∷ []),
          length_push loads i,
          expr_count size.marks locals taken line from fine.2,
          expr_count size.marks locals taken line to fine.3,
          loads_count locals captured,
        )
    stmt_count size returns level locals taken line Sync fine = refl
    stmt_count size returns level locals taken line (If e b) fine =
        let ce = expr_code size.marks locals line e in
        let cb = block_code first size.marks lists locals b in
        omega (arith, length-append ce (emitted_over cb), expr_count size.marks locals taken line e fine.0, block_count size returns level locals taken b fine.1)
    stmt_count size returns level locals taken line (IfElse e b c) fine =
        let ce = expr_code size.marks locals line e in
        let cb = block_code first size.marks lists locals b in
        let other = block_code first size.marks lists locals c in
        let j = instr.Skip (past (emit.returns (slotted_block lists locals b)) (length other)) in
        omega (
          arith,
          length-append ce (emitted_over (cb ++ j ∷ []) ++ other),
          length-append (emitted_over (cb ++ j ∷ [])) other,
          length_push cb j,
          expr_count size.marks locals taken line e fine.0,
          block_count size returns level locals taken b fine.1.0,
          block_count size returns level locals taken c fine.2.0,
        )
    stmt_count size returns level locals taken line (While e b) fine =
        let all = held_after fs level (While e b) taken in
        let ce = expr_code size.marks locals line e in
        let cb = block_code first size.marks lists locals b in
        let j = instr.GoBack (distance (length ce + 1 + length cb)) in
        omega (arith, length-append ce (emitted_over (cb ++ j ∷ [])), length_push cb j, expr_count size.marks locals all line e fine.0, block_count size returns level locals all b fine.1)
    stmt_count size returns level locals taken line (Scope b) fine =
        let cb = block_code first size.marks lists locals b in
        omega (arith, length_push cb instr.Close, block_count size Nowhere (level + 1) locals taken b fine.0)
    stmt_count size returns level locals taken line (Cut a e l r b) fine =
        let ce = expr_code size.marks locals line e in
        let inner = with_array r (with_array l locals) in
        let cb = block_code first size.marks lists inner b in
        let h = emit.halves_at size.marks (slot_of a locals.arrays) (length locals.arrays) (suc (length locals.arrays)) in
        omega (
          arith,
          length-append ce (instr.Cut h line ∷ (cb ++ instr.EndCut ∷ [])),
          length_push cb instr.EndCut,
          expr_count size.marks locals taken line e fine.1,
          block_count size Nowhere (level + 1) inner ((a, CutOf) ∷ taken) b fine.3,
        )
    stmt_count size returns level locals taken line (Region tag b) fine =
        let cb = block_code first size.marks lists locals b in
        omega (arith, length_push cb instr.Close, block_count size Nowhere (level + 1) locals taken b fine.1)
    stmt_count size returns level locals taken line (Return None) fine = refl
    stmt_count size returns level locals taken line (Return (Some e)) fine = length_push (expr_code size.marks locals line e) _
        ∙ ap (λ k. k + 1) (expr_count size.marks locals taken line e (returned_count returns locals taken e fine.0))
    stmt_count size returns level locals taken line _ fine = absurd fine

    block_count : (size : Room) (returns : Returns) (level : ℕ) (locals : Locals) (taken : Taken) (b : Block)
        → BlockFine fs lists tables size.marks size returns level locals taken b → length (block_code first size.marks lists locals b) ≡ block_size fs [] b
    block_count size returns level locals taken End fine = refl
    block_count size returns level locals taken (Then line s b) fine =
        omega (
          arith,
          length-append (stmt_code first size.marks lists locals line s) (block_code first size.marks lists (locals_after locals s) b),
          stmt_count size returns level locals taken line s fine.0,
          block_count size returns level (locals_after locals s) (held_after fs level s taken) b fine.1,
        )

  function_count : (f : Function) → FunctionFine fs lists tables f → length (function_code first lists f) ≡ function_size fs f
  function_count f fine =
      omega (
        arith,
        length-append (block_code first (marks_for f.params) lists (locals_of f.params) f.body) (emitted_end f.gives_int),
        end_count f.gives_int,
        block_count (room_of lists f) (if f.gives_int then WithInt else Alone) 1 (locals_of f.params) [] f.body fine.body,
      )

  functions_count : (gs : List Function) → FunctionsFine fs lists tables gs → length (emitted_instrs first (map (slotted_function lists) gs)) ≡ sum_by (function_size fs) gs
  functions_count [] fine = refl
  functions_count (g ∷ gs) fine =
      length-append (function_code first lists g) (emitted_instrs first (map (slotted_function lists) gs))
      ∙ ap (λ k. k + length (emitted_instrs first (map (slotted_function lists) gs))) (function_count g fine.0)
      ∙ ap (λ k. function_size fs g + k) (functions_count gs fine.1)
      ∙ sym (sum_by-cons (function_size fs) g gs)

pub code_count : (program : Program) → ProgramFine (lowered program) (lowered_lists program) (tables_in (code_of program)) → length (code_of program).instrs ≡ static_size (lowered program)
code_count program fine = functions_count (lowered program).functions (lowered_lists program) (tables_in (code_of program)) (lowered program).functions fine.functions
