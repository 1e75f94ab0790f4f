-- The code of a function has few array slots: each array that is not a parameter has an instruction of its own, and so
-- does each array of a loop.
use Rattle.std.proofs.Common.{ℕ, suc, ◌+◌, ◌≤◌, Bool, true, false, cond, filter, List, [], ◌∷◌, ◌++◌, length, map, max, pos, ap, ◌≡◌, arith, length-append}
use Rattle.std.specs.Prelude.{flat_map}
use Rattle.std.proofs.lemmas.List.{length_push}
use Rattle.cw_model.specs.declared.limits.TheConstants.{MOST_DECLARED}
use Rattle.cw_model.specs.declared.syntax.Operator.TheVariants.{AtMost, Plus, Divide}
use Rattle.cw_model.specs.Syntax.{is_array_param, Name, Param, Number, Variable, Binary, Stmt, Declare, DeclareArray, Assign, AssignElement, Reduce, Call, Start}
use Rattle.cw_model.specs.Syntax.{Begin, Sync, If, IfElse, While, For, Scope, Cut, Region, Print, Return, Block, End, Then, Function, Program}
use Rattle.cw_model.specs.Captured.{captured}
use Rattle.cw_model.specs.Sizes.{function_limits}
use Rattle.cw_model.specs.lemmas.Kept.{left_none, right_none}
use Rattle.cw_tree.specs.Resolved.{Lists, Locals, slot_of, with_array, locals_after, locals_of}
use Rattle.cw_tree.specs.lemmas.Few.{heads_small, small_head}
use Rattle.cw_loops.specs.Lowered.{low, middle, range, left_part, right_part, leaf_block, node_block, both_halves, left_arguments, right_arguments, in_cuts}
use Rattle.cw_loops.specs.Lowered.{loop_name, loop_function, loop_count, loop_count_in, lower_block, lower_functions, made_by, made_in, made_of, lowered}
use Rattle.cw_loops.specs.SlotLaws.{IsWithinLimits}
use Rattle.cw_loops.specs.Slotted.{slotted_stmt, slotted_block}
use Rattle.cw_code.specs.declared.code.Instr.TheVariants as instr
use Rattle.cw_gen.specs.Emit as emit
use Rattle.cw_gen.specs.Emit.{distance, past, halves_at, emitted_over, emitted_end, arrays_in, arrays_in_block}
use Rattle.cw_gen.specs.Marks.{Marks, array_at}
use Rattle.cw_gen.proofs.Fine.{marks_for}
use Rattle.cw_gen.proofs.KnownParams.{loop_arrays}
use Rattle.cw_gen.proofs.Texts.{expr_code, stmt_code, block_code, function_code}

module _ (first : ℕ) (marks : Marks) (lists : Lists) where
  -- a statement declares at most one array for each of its instructions
  few_after : (locals : Locals) (line : ℕ) (s : Stmt) → length (locals_after locals s).arrays ≤ length locals.arrays + length (stmt_code first marks lists locals line s)
  few_after locals line (DeclareArray a e) = omega (
    arith,
    length-append locals.arrays (a ∷ []),
    length_push (expr_code marks locals line e) (instr.NewArray (array_at marks (length locals.arrays)) line),
  )
  few_after locals line _ = omega arith

  mutual
    -- a statement needs no slot beyond these
    few_here : (n most : ℕ) (locals : Locals) (line : ℕ) (s : Stmt) → n ≤ most
        → length locals.arrays + length (stmt_code first marks lists locals line s) ≤ most → arrays_in n (slotted_stmt lists locals s) ≤ most
    few_here n most locals line (DeclareArray a e) h k = omega (arith, h, k, length_push (expr_code marks locals line e) (instr.NewArray (array_at marks (length locals.arrays)) line))
    few_here n most locals line (If e b) h k =
        let ce = expr_code marks locals line e in
        few_in n most locals b h (omega (arith, k, length-append ce (emitted_over (block_code first marks lists locals b))))
    few_here n most locals line (IfElse e b c) h k =
        let ce = expr_code marks locals line e in
        let cb = block_code first marks lists locals b in
        let other = block_code first marks lists locals c in
        let j = instr.Skip (past (emit.returns (slotted_block lists locals b)) (length other)) in
        let all = length-append ce (emitted_over (cb ++ j ∷ []) ++ other) in
        let both = length-append (emitted_over (cb ++ j ∷ [])) other in
        let one = few_in n most locals b h (omega (arith, k, all, both, length_push cb j)) in
        few_in (arrays_in_block n (slotted_block lists locals b)) most locals c one (omega (arith, k, all, both))
    few_here n most locals line (While e b) h k =
        let ce = expr_code marks locals line e in
        let cb = block_code first marks lists locals b in
        let j = instr.GoBack (distance (length ce + 1 + length cb)) in
        few_in n most locals b h (omega (arith, k, length-append ce (emitted_over (cb ++ j ∷ [])), length_push cb j))
    few_here n most locals line (Scope b) h k = few_in n most locals b h (omega (arith, k, length_push (block_code first marks lists locals b) instr.Close))
    few_here n most locals line (Cut a e l r b) h k =
        let ce = expr_code marks locals line e in
        let inner = with_array r (with_array l locals) in
        let cb = block_code first marks lists inner b in
        let cut = instr.Cut (halves_at marks (slot_of a locals.arrays) (length locals.arrays) (suc (length locals.arrays))) line in
        let all = length-append ce (cut ∷ (cb ++ instr.EndCut ∷ [])) in
        let parts : length inner.arrays ≡ length locals.arrays + 2 = omega (arith, length-append (locals.arrays ++ l ∷ []) (r ∷ []), length-append locals.arrays (l ∷ [])) in
        few_in (max n (suc (suc (length locals.arrays)))) most inner b (omega (arith, h, k, all, length_push cb instr.EndCut)) (omega (arith, k, all, length_push cb instr.EndCut, parts))
    few_here n most locals line (Region tag b) h k = few_in n most locals b h (omega (arith, k, length_push (block_code first marks lists locals b) instr.Close))
    few_here n most locals line _ h k = h

    -- a block needs no slot beyond these
    pub few_in : (n most : ℕ) (locals : Locals) (b : Block) → n ≤ most → length locals.arrays + length (block_code first marks lists locals b) ≤ most
        → arrays_in_block n (slotted_block lists locals b) ≤ most
    few_in n most locals End h k = h
    few_in n most locals (Then line s b) h k =
        let after = locals_after locals s in
        let all = length-append (stmt_code first marks lists locals line s) (block_code first marks lists after b) in
        few_in (arrays_in n (slotted_stmt lists locals s)) most after b (few_here n most locals line s h (omega (arith, k, all))) (omega (arith, k, all, few_after locals line s))

  -- each array of a loop is cut
  cuts_long : (locals : Locals) (line : ℕ) (over : List Name) (inside : Block) → length over ≤ length (block_code first marks lists locals (in_cuts line over inside))
  cuts_long locals line [] inside = omega arith
  cuts_long locals line (a ∷ rest) inside =
      let inner = with_array (right_part a) (with_array (left_part a) locals) in
      let cb = block_code first marks lists inner (in_cuts line rest inside) in
      omega (arith, length-append cb (instr.EndCut ∷ []), length-append (cb ++ instr.EndCut ∷ []) [], cuts_long inner line rest inside)

  -- the code of its function has at least one instruction for each array
  loop_long : (locals : Locals) (name : Name) (line : ℕ) (x : Name) (grain : ℕ) (ints over : List Name) (body : Block)
      → length over ≤ length (block_code first marks lists locals (loop_function name line x grain ints over body).body)
  loop_long locals name line x grain ints over body =
      let leaf = leaf_block line x body in
      let node = node_block line name ints over in
      let inside = both_halves line name (left_arguments ints over) (right_arguments ints over) in
      let ce = expr_code marks locals line (Binary AtMost range (Number (pos grain))) in
      let cl = block_code first marks lists locals leaf in
      let cn = block_code first marks lists locals node in
      let j = instr.Skip (past (emit.returns (slotted_block lists locals leaf)) (length cn)) in
      let over_leaf = emitted_over (cl ++ j ∷ []) in
      let declared = Declare middle (Binary Plus (Variable low) (Binary Divide range (Number (pos 2)))) in
      let cd = stmt_code first marks lists locals line declared in
      let after = locals_after locals declared in
      omega (
        arith,
        length-append (ce ++ (over_leaf ++ cn)) [],
        length-append ce (over_leaf ++ cn),
        length-append over_leaf cn,
        length-append cd (block_code first marks lists after (in_cuts line over inside)),
        cuts_long after line over inside,
      )

-- the number of array parameters keeps the limit, or is at most the number of instructions
abbrev pub FewGiven : (first : ℕ) → Lists → List Function → Type 0
FewGiven first lists [] = Unit {0}
FewGiven first lists (g ∷ gs) = (length (locals_of g.params).arrays ≤ MOST_DECLARED + length (function_code first lists g)) × FewGiven first lists gs

both_few : (first : ℕ) (lists : Lists) (fs gs : List Function) → FewGiven first lists fs → FewGiven first lists gs → FewGiven first lists (fs ++ gs)
both_few first lists [] gs h k = k
both_few first lists (f ∷ fs) gs h k = (h.0, both_few first lists fs gs h.1 k)

few_params : (ps : List Param) → length (locals_of ps).arrays ≤ length ps
few_params [] = omega arith
few_params (p ∷ ps) = go (is_array_param p) (few_params ps)
  where
    go : (b : Bool) → length (locals_of ps).arrays ≤ length ps → length (map (λ (q : Param). q.name) (cond b (p ∷ filter (λ q. is_array_param q) ps) (filter (λ q. is_array_param q) ps))) ≤ length (p ∷ ps)
    go true h = omega (arith, h)
    go false h = omega (arith, h)

-- a function of the source keeps the limit
sources_few : (first : ℕ) (lists : Lists) (k : ℕ) (fs : List Function) → flat_map function_limits fs ≡ [] → FewGiven first lists (lower_functions k fs)
sources_few first lists k [] h = tt
sources_few first lists k (f ∷ fs) h =
    let here = small_head f (left_none (function_limits f) (flat_map function_limits fs) h) in
    (omega (arith, here, few_params f.params), sources_few first lists (k + loop_count_in f.body) fs (right_none (function_limits f) (flat_map function_limits fs) h))

module _ (first : ℕ) (lists : Lists) where
  -- the function of a loop cuts each of its arrays
  loop_few : (name : Name) (line : ℕ) (x : Name) (grain : ℕ) (ints over : List Name) (body : Block) → FewGiven first lists (loop_function name line x grain ints over body ∷ [])
  loop_few name line x grain ints over body =
      let g = loop_function name line x grain ints over body in
      let code = block_code first (marks_for g.params) lists (locals_of g.params) g.body in
      (omega (arith, ap length (loop_arrays ints over), loop_long first (marks_for g.params) lists (locals_of g.params) name line x grain ints over body, length-append code (emitted_end false)), tt)

  mutual
    loops_few : (line k : ℕ) (s : Stmt) → FewGiven first lists (made_by line k s)
    loops_few line k (If e b) = loops_few_in k b
    loops_few line k (IfElse e b c) = both_few first lists (made_in k b) (made_in (k + loop_count_in b) c) (loops_few_in k b) (loops_few_in (k + loop_count_in b) c)
    loops_few line k (While e b) = loops_few_in k b
    loops_few line k (For x y z from to grain over b) =
        let name = loop_name (k + loop_count_in b) in
        let body = lower_block over k b in
        both_few first lists (made_in k b) (loop_function name line x grain (captured x b) over body ∷ []) (loops_few_in k b) (loop_few name line x grain (captured x b) over body)
    loops_few line k (Scope b) = loops_few_in k b
    loops_few line k (Cut a e l r b) = loops_few_in k b
    loops_few line k (Region tag b) = loops_few_in k b
    loops_few line k (Declare x e) = tt
    loops_few line k (DeclareArray a e) = tt
    loops_few line k (Assign x e) = tt
    loops_few line k (AssignElement a i e) = tt
    loops_few line k (Reduce how s e) = tt
    loops_few line k (Call kind site target f es) = tt
    loops_few line k (Start kind f es) = tt
    loops_few line k (Begin f from to ints over) = tt
    loops_few line k Sync = tt
    loops_few line k (Print e) = tt
    loops_few line k (Return e) = tt

    loops_few_in : (k : ℕ) (b : Block) → FewGiven first lists (made_in k b)
    loops_few_in k End = tt
    loops_few_in k (Then line s b) = both_few first lists (made_by line k s) (made_in (k + loop_count s) b) (loops_few line k s) (loops_few_in (k + loop_count s) b)

  loops_few_of : (k : ℕ) (fs : List Function) → FewGiven first lists (made_of k fs)
  loops_few_of k [] = tt
  loops_few_of k (f ∷ fs) = both_few first lists (made_in k f.body) (made_of (k + loop_count_in f.body) fs) (loops_few_in k f.body) (loops_few_of (k + loop_count_in f.body) fs)

  -- each function of a program that keeps the limits
  pub few_given : (program : Program) → IsWithinLimits program → FewGiven first lists (lowered program).functions
  few_given program within =
      let fs = program.functions in
      both_few first lists (lower_functions 0 fs) (made_of 0 fs) (sources_few first lists 0 fs (heads_small program within.limits)) (loops_few_of 0 fs)
