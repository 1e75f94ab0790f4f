-- Generated code is well formed: the shape at each place fits its instruction, and flows into the places after it.
use Rattle.std.proofs.Common.{◌≡◌, ℕ, ◌+◌, ◌-◌, ◌≤◌, [], ◌∷◌, ◌++◌, length, true, false, ◌&&◌, not, nat_lt, Some, None, refl, sym, ap, ◌∙◌, subst, arith, append_assoc, length-append}
use Rattle.std.specs.Prelude.{nat_le, option_map}
use Rattle.std.proofs.lemmas.List.{append-nil}
use Rattle.cw_facts.specs.Tests.{both_true, first_false, second_false, at_most, below}
use Rattle.cw_model.specs.Syntax.{Stmt, Declare, DeclareArray, Assign, AssignElement, Reduce, Call, Start, Begin, Sync, If, IfElse, While, Scope, Cut, Region, Print, Return, Block, End, Then}
use Rattle.cw_model.specs.Meaning.{function_named}
use Rattle.cw_model.specs.Typing.{Returns, Nowhere, surely_returns, block_returns}
use Rattle.cw_model.specs.Ownership.{CutOf, Taken, freed, without, own_names, where_it_goes_on, Leaves}
use Rattle.cw_tree.specs.Resolved.{Locals, slot_of, with_array, locals_after}
use Rattle.cw_loops.specs.Slotted.{slotted_block}
use Rattle.cw_code.specs.declared.code.BlockKind.TheVariants as block
use Rattle.cw_code.specs.declared.code.Instr.TheVariants as instr
use Rattle.cw_code.specs.Fits.{has_array, is_no_part, full_in_all, frozen_rows, leaves, FlowsInto}
use Rattle.cw_gen.specs.Marks.{array_at}
use Rattle.cw_gen.proofs.Marked.{own_behind}
use Rattle.cw_gen.proofs.MarkedCuts.{cut_numbers}
use Rattle.cw_gen.proofs.Frozen.{frozen_of, frozen_both, frozen_freed, frozen_by_turns}
use Rattle.cw_gen.specs.Emit as emit
use Rattle.cw_gen.specs.Emit.{most_jump, distance, callee_of, half_of, past}
use Rattle.cw_gen.proofs.HeldNames.{held_after, held_after_all, held_turn}
use Rattle.cw_gen.proofs.Fine.{ExprFine, StmtFine, BlockFine, EndsFree}
use Rattle.cw_gen.proofs.Takens.{holds, holds_behind, holds_before, held_past, held_by_turns}
use Rattle.cw_gen.proofs.Scopes.{returns_same}
use Rattle.cw_gen.proofs.Texts.{expr_code, args_code, stmt_code, block_code}
use Rattle.cw_gen.proofs.Codes.{distance_is, both_go_on}
use Rattle.cw_gen.proofs.EmptySlots.{row, array_row, length-row, length_array_row, covers_none, outers, Over, over_itself, over_more, over_int, over_array, outers_more, CutsOpen}
use Rattle.cw_gen.proofs.EmptySlots.{halves_at, slot_is_full, next_is_full, array_is_full, next_array_is_full, array_is_thawed, next_array_is_thawed, no_part}
use Rattle.cw_gen.proofs.CutsKept.{cuts_more}
use Rattle.cw_gen.proofs.Shapes.{Opened, depth_in, expr_shapes, reached, end_shape, stmt_shapes, block_shapes, expr_as_many, stmt_as_many, block_as_many}
use Rattle.cw_gen.proofs.Settings.{Setting, HasShapesFrom, stands_front, stands_back, exact, takes_less, Returning, tables, first, table, size, HasRoom, FitsAt, AllFit, both_fit, lies, made}
use Rattle.cw_gen.proofs.FittingHalves.{half_fits}
use Rattle.cw_gen.proofs.FittingRanges.{range_fits}
use Rattle.cw_gen.proofs.FittingExprs.{own_below, given_fits, slot_is_there, array_is_there, expr_enters, expr_fits, valued_fits}
use Rattle.cw_gen.proofs.FittingCalls.{call_fits}
use Rattle.cw_gen.proofs.FittingEnds.{branch_covers}
use Rattle.cw_gen.proofs.FittingFirsts.{room_after, block_enters, cuts_behind}
use Rattle.cw_gen.proofs.FittingParts.{jump_fits, back_fits, inside_fits, return_place, value_place, none_round, store_fits, tell_fits, index_there, reducer_there}
use Rattle.cw_gen.proofs.FittingCuts.{behind_params, cut_fits}

-- sums of places, regrouped
three : (p a b : ℕ) → p + (a + 1 + b) ≡ p + a + 1 + b
three p a b = omega arith

four : (p a b m : ℕ) → m ≡ b + 1 → p + (a + 1 + b + 1) ≡ p + a + 1 + m
four p a b m e = omega (arith, e)

five : (p a b c : ℕ) → p + (a + 1 + b + 1 + c) ≡ p + a + 1 + b + 1 + c
five p a b c = omega arith

six : (p a b m : ℕ) → m ≡ b + 1 → p + a + 1 + b + 1 ≡ p + a + 1 + m
six p a b m e = omega (arith, e)

module _ (setting : Setting) where
  mutual
    -- the places of a statement fit if the place after it accepts the shape that the statement leaves
    pub stmt_fits : (returns : Returns) (level : ℕ) (opened : Opened) (locals : Locals) (taken : Taken) (line : ℕ) (s : Stmt) (place : ℕ)
        → level ≡ depth_in opened → HasRoom setting locals → CutsOpen setting.marks opened locals taken → Returning returns opened setting.f.gives_int
        → StmtFine setting.fs setting.lists (tables setting) setting.marks (size setting) returns level locals taken s →
        length (stmt_code (first setting) setting.marks setting.lists locals line s) ≤ most_jump → HasShapesFrom setting.tab place (stmt_shapes setting.fs (size setting) opened locals taken s) →
        (surely_returns s ≡ false → FlowsInto (table setting) (place + length (stmt_code (first setting) setting.marks setting.lists locals line s))
        (made setting opened (locals_after locals s) (held_after setting.fs (depth_in opened) s taken) 0)) →
        AllFit setting place (stmt_shapes setting.fs (size setting) opened locals taken s) (stmt_code (first setting) setting.marks setting.lists locals line s)
    stmt_fits returns level opened locals taken line (Declare x e) place at room cuts returning fine short stands leads =
        store_fits setting opened locals (locals_after locals (Declare x e)) taken room cuts e line place (length locals.ints)
        (below (length locals.ints) (size setting).ints fine.0) (next_is_full (size setting) opened locals taken (length locals.ints) 1
        (omega arith) fine.0) fine.1 stands
        (over_int (size setting) opened locals x taken 0 0) (leads refl)
    stmt_fits returns level opened locals taken line (Assign x e) place at room cuts returning fine short stands leads =
        store_fits setting opened locals locals taken room cuts e line place (slot_of x locals.ints)
        (slot_is_there setting opened locals taken room cuts x fine.0) (slot_is_full (size setting) opened locals taken x 1 room.0 fine.0) fine.1 stands
        (over_itself (made setting opened locals taken 0)) (leads refl)
    stmt_fits returns level opened locals taken line (DeclareArray x e) place at room cuts returning fine short stands leads =
        let ce = expr_code setting.marks locals line e in
        let i = length locals.arrays in
        let n = array_at setting.marks i in
        let owned_i = own_behind setting.marks i fine.3 in
        let behind : place + length (ce ++ instr.NewArray n line ∷ []) ≡ place + length ce + 1 = omega (arith, length-append ce (instr.NewArray n line ∷ [])) in
        let own : nat_le setting.f.array_params n ≡ true = behind_params setting locals i fine.2 (omega arith) fine.3 in
        let shape = made setting opened locals taken 1 in
        let cold = array_row (size setting) (depth_in opened) locals.arrays (frozen_of taken) ∷ frozen_rows (outers (size setting) opened locals taken) in
        valued_fits setting opened locals taken room cuts e line place (instr.NewArray n line) fine.1 stands (
          both_true (nat_lt n setting.f.arrays) (nat_le setting.f.array_params n) (below n setting.f.arrays (own_below setting i owned_i fine.0)) own,
          both_true (has_array shape n && nat_le 1 1) (is_no_part n (outers (size setting) opened locals taken))
              (both_true (has_array shape n) (nat_le 1 1) (next_array_is_full (size setting) opened locals taken i 1 (omega arith) fine.0 owned_i cuts)
              refl) (no_part (size setting) opened locals locals taken taken i (omega arith) owned_i cuts),
          (
            takes_less (table setting) (place + length ce + 1) (made setting opened locals taken 0)
                (made setting opened (with_array x locals) taken 0) (subst (λ p. FlowsInto (table setting) p
                (made setting opened (with_array x locals) taken 0)) behind (leads refl)) refl (over_array (size setting) opened locals x taken 0 0),
            tt,
          ),
          both_true (full_in_all cold n) true (next_array_is_thawed (size setting) opened locals taken i (omega arith) fine.0 owned_i) refl,
        )
    stmt_fits returns level opened locals taken line (AssignElement x d e) place at room cuts returning fine short stands leads =
        let cd = expr_code setting.marks locals line d in
        let ce = expr_code setting.marks locals line e in
        let n = array_at setting.marks (slot_of x locals.arrays) in
        let cold = array_row (size setting) (depth_in opened) locals.arrays (frozen_of taken) ∷ frozen_rows (outers (size setting) opened locals taken) in
        let i = instr.SetElement n line in
        let sd = expr_shapes (made setting opened locals taken) 0 d in
        let se = expr_shapes (made setting opened locals taken) 1 e in
        let shape = made setting opened locals taken 2 in
        let last = Some shape ∷ [] in
        let second = stands_back setting.tab place (length cd) sd (se ++ last) (expr_as_many (made setting opened locals taken) 0 setting.marks locals line d) stands in
        let top = stands_back setting.tab (place + length cd) (length ce) se last (expr_as_many (made setting opened locals taken) 1 setting.marks locals line e) second in
        let behind : place + length (cd ++ (ce ++ i ∷ [])) ≡ place + length cd + length ce + 1 = omega (arith, length-append cd (ce ++ i ∷ []), length-append ce (i ∷ [])) in
        both_fit setting place sd (se ++ last) cd (ce ++ i ∷ []) (expr_fits setting opened locals taken room cuts d line place 0 fine.1
        (stands_front setting.tab place sd (se ++ last) stands) (expr_enters setting opened locals taken room cuts e (place + length cd) 1 last fine.2 second))
        (both_fit setting (place + length cd) se last ce (i ∷ []) (expr_fits setting opened locals taken room cuts e line
        (place + length cd) 1 fine.2 (stands_front setting.tab (place + length cd) se last second)
        (exact setting.tab (place + length cd + length ce) shape top.0)) (
          (
            array_is_there setting opened locals taken room cuts x fine.0.usable fine.0.own,
            both_true (has_array shape n) (nat_le 2 2) (array_is_full (size setting) opened locals taken x 2 room.1 fine.0.usable fine.0.own cuts) refl,
            (subst (λ p. FlowsInto (table setting) p (made setting opened locals taken 0)) behind (leads refl), tt),
            both_true (full_in_all cold n) true (array_is_thawed (size setting) opened locals taken x room.1 fine.0) refl,
          ),
          tt,
        ))
    stmt_fits returns level opened locals taken line (Cut a e l r b) place at room cuts returning fine short stands leads =
        cut_fits setting level opened locals taken a l r e b line place at room cuts fine.0 fine.1 fine.2 fine.3 fine.4 stands (leads refl)
        (λ cuts' room' closes.
        let ce = expr_code setting.marks locals line e in
        let inner = with_array r (with_array l locals) in
        let cb = block_code (first setting) setting.marks setting.lists inner b in
        let h = halves_at locals a in
        let told = cut_numbers setting.marks h in
        let n_all : length (ce ++ instr.Cut told line ∷ (cb ++ instr.EndCut ∷ [])) ≡ length ce + 1 + length cb + 1 =
        omega (arith, length-append ce (instr.Cut told line ∷ (cb ++ instr.EndCut ∷ [])), length-append cb (instr.EndCut ∷ [])) in
        let inside = Some h ∷ opened in
        let ss = block_shapes setting.fs (size setting) inside inner ((a, CutOf) ∷ taken) b in
        let se = expr_shapes (made setting opened locals taken) 0 e in
        let last = reached (block_returns b) (end_shape setting.fs (size setting) inside inner ((a, CutOf) ∷ taken) b) in
        let second = stands_back setting.tab place (length ce) se (Some (made setting opened locals taken 1) ∷ (ss ++ last ∷ []))
        (expr_as_many (made setting opened locals taken) 0 setting.marks locals line e) stands in
        block_fits Nowhere (level + 1) inside inner ((a, CutOf) ∷ taken) b (place + length ce + 1) (omega (arith, at)) room' cuts' tt fine.3
        (omega (arith, short, n_all)) (stands_front setting.tab (place + length ce + 1) ss (last ∷ []) second.1) closes)
    stmt_fits returns level opened locals taken line (Reduce how s e) place at room cuts returning fine short stands leads =
        tell_fits setting opened locals taken room cuts e line place (instr.Reduce (slot_of s setting.lists.reducers)) fine.1 stands
        (λ h. (reducer_there setting.code.reducers setting.lists.reducers s setting.reducers_are fine.0, refl, (h, tt), refl)) (leads refl)
    stmt_fits returns level opened locals taken line (Print e) place at room cuts returning fine short stands leads =
        tell_fits setting opened locals taken room cuts e line place instr.Print fine stands (λ h. (refl, refl, (h, tt), refl)) (leads refl)
    stmt_fits returns level opened locals taken line (Call kind site target name es) place at room cuts returning fine short stands leads =
        let ps = (function_named name setting.fs).params in
        let i = instr.Call kind (callee_of line site (option_map (λ x. slot_of x locals.ints) target) (slot_of name setting.lists.functions)) in
        let next = made setting opened locals (held_after setting.fs (depth_in opened) (Call kind site target name es) taken) 0 in
        let leads' : FlowsInto (table setting) (place + length (args_code setting.marks locals line ps es ++ i ∷ [])) next =
        subst (λ qs. FlowsInto (table setting) (place + length (args_code setting.marks locals line qs es ++ i ∷ [])) next) fine.8 (leads refl) in
        let fits = given_fits setting opened locals taken room cuts ps es line place i next fine.2 stands
        (λ h. call_fits setting opened locals taken room cuts kind site target name es line
        (place + length (args_code setting.marks locals line ps es)) fine h) leads' in
        subst (λ qs. AllFit setting place (stmt_shapes setting.fs (size setting) opened locals taken (Call kind site target name es))
        (args_code setting.marks locals line qs es ++ i ∷ [])) (sym fine.8) fits
    stmt_fits returns level opened locals taken line (Start kind name es) place at room cuts returning fine short stands leads =
        let ps = (function_named name setting.fs).params in
        let i = instr.Recur kind (half_of (first setting) kind (slot_of name setting.lists.functions)) in
        let next = made setting opened locals (held_after setting.fs (depth_in opened) (Start kind name es) taken) 0 in
        let leads' : FlowsInto (table setting) (place + length (args_code setting.marks locals line ps es ++ i ∷ [])) next =
        subst (λ qs. FlowsInto (table setting) (place + length (args_code setting.marks locals line qs es ++ i ∷ [])) next) fine.6 (leads refl) in
        let fits = given_fits setting opened locals taken room cuts ps es line place i next fine.2 stands
        (λ h. half_fits setting opened locals taken room cuts kind name es (place + length (args_code setting.marks locals line ps es)) fine h) leads' in
        subst (λ qs. AllFit setting place (stmt_shapes setting.fs (size setting) opened locals taken (Start kind name es)) (args_code setting.marks locals line qs es ++ i ∷ [])) (sym fine.6) fits
    stmt_fits returns level opened locals taken line (Begin name from to captured over) place at room cuts returning fine short stands leads =
        range_fits setting opened locals taken room cuts name from to captured over line place fine stands (leads refl)
    stmt_fits returns level opened locals taken line Sync place at room cuts returning fine short stands leads =
        let after_it = freed (depth_in opened) taken in
        let less : Over (made setting opened locals after_it 0) (leaves setting.code (made setting opened locals taken 0) instr.Sync) = (
          covers_none (row (size setting).ints (depth_in opened) locals.ints after_it)
              (length (row (size setting).ints (depth_in opened) locals.ints taken))
              (length-row (size setting).ints (depth_in opened) locals.ints after_it ∙ sym (length-row (size setting).ints (depth_in opened) locals.ints taken)),
          covers_none (array_row (size setting) (depth_in opened) locals.arrays after_it)
              (length (array_row (size setting) (depth_in opened) locals.arrays taken))
              (length_array_row (size setting) (depth_in opened) (depth_in opened) locals.arrays locals.arrays after_it taken),
          covers_none (array_row (size setting) (depth_in opened) locals.arrays (frozen_of after_it))
              (length (array_row (size setting) (depth_in opened) locals.arrays (frozen_of taken)))
              (length_array_row (size setting) (depth_in opened) (depth_in opened) locals.arrays locals.arrays (frozen_of after_it) (frozen_of taken)),
          outers_more (size setting) opened locals taken after_it (λ d x le h. held_past false (depth_in opened) d x taken (λ e. omega (arith, le, e)) h)
              (λ d x le h. ap (holds false d x) (frozen_freed (depth_in opened) taken) ∙ held_past false (depth_in opened) d x (frozen_of taken) (λ e. omega (arith, le, e)) h),
        ) in (
          (
            refl,
            refl,
            (
              takes_less (table setting) (place + 1) (leaves setting.code (made setting opened locals taken 0) instr.Sync)
                  (made setting opened locals after_it 0) (leads refl) refl less,
              tt,
            ),
            refl,
          ),
          tt,
        )
    stmt_fits returns level opened locals taken line (If e b) place at room cuts returning fine short stands leads =
        let ce = expr_code setting.marks locals line e in
        let cb = block_code (first setting) setting.marks setting.lists locals b in
        let i = instr.SkipIfZero (distance (length cb)) in
        let se = expr_shapes (made setting opened locals taken) 0 e in
        let sb = block_shapes setting.fs (size setting) opened locals taken b in
        let after_b = without (own_names b) (held_after_all setting.fs (depth_in opened) b taken) in
        let turned = where_it_goes_on (block_returns b) after_b in
        let after_it = turned ++ taken in
        let free : EndsFree setting.fs (depth_in opened) Leaves taken b = subst (λ m. EndsFree setting.fs m Leaves taken b) at fine.2 in
        let n_all : length (ce ++ i ∷ cb) ≡ length ce + 1 + length cb = omega (arith, length-append ce (i ∷ cb)) in
        let reach : distance (length cb) ≡ length cb = distance_is (length cb) (omega (arith, short, n_all)) in
        let second = stands_back setting.tab place (length ce) se (Some (made setting opened locals taken 1) ∷ sb)
        (expr_as_many (made setting opened locals taken) 0 setting.marks locals line e) stands in
        let exit : FlowsInto (table setting) (place + length ce + 1 + length cb) (made setting opened locals after_it 0) =
        subst (λ p. FlowsInto (table setting) p (made setting opened locals after_it 0))
        (ap (λ m. place + m) n_all ∙ three place (length ce) (length cb)) (leads refl) in
        let far : FlowsInto (table setting) (place + length ce + 1 + distance (length cb)) (made setting opened locals taken 0) =
        subst (λ m. FlowsInto (table setting) (place + length ce + 1 + m) (made setting opened locals taken 0)) (sym reach)
        (takes_less (table setting) (place + length ce + 1 + length cb) (made setting opened locals taken 0)
        (made setting opened locals after_it 0) exit refl (over_more (size setting) opened locals taken after_it 0 0
        (λ d x h. holds_behind false d x turned taken h) (λ d x h. ap (holds false d x) (frozen_both turned taken)
        ∙ holds_behind false d x (frozen_of turned) (frozen_of taken) h))) in
        let ends : block_returns b ≡ false → FlowsInto (table setting) (place + length ce + 1 + length cb) (end_shape setting.fs (size setting) opened locals taken b) = λ goes.
        takes_less (table setting) (place + length ce + 1 + length cb) (end_shape setting.fs (size setting) opened locals taken b) (made setting opened locals after_it 0) exit refl
        (branch_covers setting opened locals taken after_it b free (λ d x h. holds_before false d x turned taken (ap (λ r. holds false d x (where_it_goes_on r after_b)) goes ∙ h))
        (λ d x h. ap (holds false d x) (frozen_both turned taken) ∙ holds_before false d x (frozen_of turned) (frozen_of taken)
        (ap (λ r. holds false d x (frozen_of (where_it_goes_on r after_b))) goes ∙ h))) in
        let near = block_enters setting returns level opened locals taken b (place + length ce + 1) at room cuts fine.1 second.1 ends in
        both_fit setting place se (Some (made setting opened locals taken 1) ∷ sb) ce (i ∷ cb)
        (expr_fits setting opened locals taken room cuts e line place 0 fine.0
        (stands_front setting.tab place se (Some (made setting opened locals taken 1) ∷ sb) stands)
        (exact setting.tab (place + length ce) (made setting opened locals taken 1) second.0)) (
          (lies setting (place + length ce + 1 + distance (length cb)) (made setting opened locals taken 0) far, refl, (near, (far, tt)), refl),
          block_fits returns level opened locals taken b (place + length ce + 1) at room cuts returning fine.1 (omega (arith, short, n_all)) second.1 ends,
        )
    stmt_fits returns level opened locals taken line (IfElse e b c) place at room cuts returning fine short stands leads =
        let ce = expr_code setting.marks locals line e in
        let cb = block_code (first setting) setting.marks setting.lists locals b in
        let other = block_code (first setting) setting.marks setting.lists locals c in
        let r = emit.returns (slotted_block setting.lists locals b) in
        let j = instr.Skip (past r (length other)) in
        let i = instr.SkipIfZero (distance (length (cb ++ j ∷ []))) in
        let se = expr_shapes (made setting opened locals taken) 0 e in
        let sb = block_shapes setting.fs (size setting) opened locals taken b in
        let sc = block_shapes setting.fs (size setting) opened locals taken c in
        let last = reached (block_returns b) (end_shape setting.fs (size setting) opened locals taken b) in
        let after_b = without (own_names b) (held_after_all setting.fs (depth_in opened) b taken) in
        let after_c = without (own_names c) (held_after_all setting.fs (depth_in opened) c taken) in
        let left = where_it_goes_on (block_returns b) after_b in
        let right = where_it_goes_on (block_returns c) after_c in
        let both = left ++ right in
        let free_b : EndsFree setting.fs (depth_in opened) Leaves taken b = subst (λ m. EndsFree setting.fs m Leaves taken b) at fine.1.1 in
        let free_c : EndsFree setting.fs (depth_in opened) Leaves taken c = subst (λ m. EndsFree setting.fs m Leaves taken c) at fine.2.1 in
        let n_b : length (cb ++ j ∷ []) ≡ length cb + 1 = length-append cb (j ∷ []) in
        let n_all : length (ce ++ (i ∷ (cb ++ j ∷ []) ++ other)) ≡ length ce + 1 + length cb + 1 + length other =
        omega (arith, length-append ce (i ∷ (cb ++ j ∷ []) ++ other), length-append (i ∷ (cb ++ j ∷ [])) other, n_b) in
        let reach : distance (length (cb ++ j ∷ [])) ≡ length cb + 1 = distance_is (length (cb ++ j ∷ [])) (omega (arith, short, n_all, n_b)) ∙ n_b in
        let reach_c : distance (length other) ≡ length other = distance_is (length other) (omega (arith, short, n_all)) in
        let pb = place + length ce + 1 in
        let pj = place + length ce + 1 + length cb in
        let pc = place + length ce + 1 + length cb + 1 in
        let count_b : length sb ≡ length cb = block_as_many setting.fs setting.lists (tables setting) (size setting) returns level opened locals taken b at fine.1.0 in
        let one_part = Some (made setting opened locals taken 1) ∷ (sb ++ last ∷ []) in
        let second = stands_back setting.tab place (length ce) se (one_part ++ sc) (expr_as_many (made setting opened locals taken) 0 setting.marks locals line e) stands in
        let in_b : HasShapesFrom setting.tab pb (sb ++ (last ∷ [] ++ sc)) = subst (λ ss. HasShapesFrom setting.tab pb ss) (append_assoc sb (last ∷ []) sc) second.1 in
        let at_j = stands_back setting.tab pb (length cb) sb (last ∷ [] ++ sc) count_b in_b in
        let exit : surely_returns (IfElse e b c) ≡ false → FlowsInto (table setting) (pc + length other) (made setting opened locals both 0) =
        λ goes. subst (λ p. FlowsInto (table setting) p (made setting opened locals both 0))
        (ap (λ m. place + m) n_all ∙ five place (length ce) (length cb) (length other)) (leads goes) in
        let ends_c : block_returns c ≡ false → FlowsInto (table setting) (pc + length other) (end_shape setting.fs (size setting) opened locals taken c) = λ goes.
        takes_less (table setting) (pc + length other) (end_shape setting.fs (size setting) opened locals taken c)
        (made setting opened locals both 0) (exit (second_false (block_returns b) (block_returns c) goes)) refl
        (branch_covers setting opened locals taken both c free_c (λ d x h. holds_behind false d x left right (ap (λ q. holds false d x (where_it_goes_on q after_c)) goes ∙ h))
        (λ d x h. ap (holds false d x) (frozen_both left right) ∙ holds_behind false d x (frozen_of left) (frozen_of right)
        (ap (λ q. holds false d x (frozen_of (where_it_goes_on q after_c))) goes ∙ h))) in
        let enters_c = block_enters setting returns level opened locals taken c pc at room cuts fine.2.0 at_j.1 ends_c in
        let far : FlowsInto (table setting) (pb + distance (length (cb ++ j ∷ []))) (made setting opened locals taken 0) =
        subst (λ p. FlowsInto (table setting) p (made setting opened locals taken 0))
        (six place (length ce) (length cb) (distance (length (cb ++ j ∷ []))) reach) enters_c in
        let closes : block_returns b ≡ false → FlowsInto (table setting) pj (end_shape setting.fs (size setting) opened locals taken b) = λ goes.
        exact setting.tab pj (end_shape setting.fs (size setting) opened locals taken b) (at_j.0 ∙ ap (λ q. Some (reached q (end_shape setting.fs (size setting) opened locals taken b))) goes) in
        let near = block_enters setting returns level opened locals taken b pb at room cuts fine.1.0 (stands_front setting.tab pb sb (last ∷ [] ++ sc) in_b) closes in
        let jump : FitsAt setting pj last j =
        jump_fits setting (block_returns b) pj (length other) (end_shape setting.fs (size setting) opened locals taken b) (made setting opened locals taken 0) enters_c
        (λ goes. takes_less (table setting) (pc + length other) (end_shape setting.fs (size setting) opened locals taken b)
        (made setting opened locals both 0) (exit (first_false (block_returns b) (block_returns c) goes)) refl
        (branch_covers setting opened locals taken both b free_b (λ d x h. holds_before false d x left right (ap (λ q. holds false d x (where_it_goes_on q after_b)) goes ∙ h))
        (λ d x h. ap (holds false d x) (frozen_both left right) ∙ holds_before false d x (frozen_of left) (frozen_of right)
        (ap (λ q. holds false d x (frozen_of (where_it_goes_on q after_b))) goes ∙ h)))) reach_c r (returns_same setting.lists locals b) in
        both_fit setting place se (one_part ++ sc) ce (i ∷ (cb ++ j ∷ []) ++ other)
        (expr_fits setting opened locals taken room cuts e line place 0 fine.0 (stands_front setting.tab place se (one_part ++ sc) stands)
        (exact setting.tab (place + length ce) (made setting opened locals taken 1) second.0)) (
          (lies setting (pb + distance (length (cb ++ j ∷ []))) (made setting opened locals taken 0) far, refl, (near, (far, tt)), refl),
          both_fit setting pb (sb ++ last ∷ []) sc (cb ++ j ∷ []) other
              (both_fit setting pb sb (last ∷ []) cb (j ∷ []) (block_fits returns level opened locals taken b pb at room cuts returning fine.1.0
              (omega (arith, short, n_all)) (stands_front setting.tab pb sb (last ∷ [] ++ sc) in_b) closes) (jump, tt))
              (subst (λ p. AllFit setting p sc other) (six place (length ce) (length cb) (length (cb ++ j ∷ [])) n_b)
              (block_fits returns level opened locals taken c pc at room cuts returning fine.2.0 (omega (arith, short, n_all)) at_j.1 ends_c)),
        )
    stmt_fits returns level opened locals taken line (While e b) place at room cuts returning fine short stands leads =
        let all = held_after setting.fs (depth_in opened) (While e b) taken in
        let cuts_all : CutsOpen setting.marks opened locals all = cuts_more setting.marks opened level locals taken
        (where_it_goes_on (block_returns b) (without (own_names b) (held_after_all setting.fs (depth_in opened) b taken))) cuts in
        let ce = expr_code setting.marks locals line e in
        let cb = block_code (first setting) setting.marks setting.lists locals b in
        let j = instr.GoBack (distance (length ce + 1 + length cb)) in
        let i = instr.SkipIfZero (distance (length (cb ++ j ∷ []))) in
        let se = expr_shapes (made setting opened locals all) 0 e in
        let sb = block_shapes setting.fs (size setting) opened locals all b in
        let last = reached (block_returns b) (end_shape setting.fs (size setting) opened locals all b) in
        let fine_e : ExprFine locals all e = subst (λ m. ExprFine locals (held_after setting.fs m (While e b) taken) e) at fine.0 in
        let fine_b : BlockFine setting.fs setting.lists (tables setting) setting.marks (size setting) returns level locals all b =
        subst (λ m. BlockFine setting.fs setting.lists (tables setting) setting.marks (size setting) returns level locals
        (held_after setting.fs m (While e b) taken) b) at fine.1 in
        let free : EndsFree setting.fs (depth_in opened) Leaves all b = subst (λ m. EndsFree setting.fs m Leaves (held_after setting.fs m (While e b) taken) b) at fine.2 in
        let after_b = without (own_names b) (held_after_all setting.fs (depth_in opened) b all) in
        let n_b : length (cb ++ j ∷ []) ≡ length cb + 1 = length-append cb (j ∷ []) in
        let n_all : length (ce ++ i ∷ (cb ++ j ∷ [])) ≡ length ce + 1 + length cb + 1 = omega (arith, length-append ce (i ∷ (cb ++ j ∷ [])), n_b) in
        let reach : distance (length (cb ++ j ∷ [])) ≡ length cb + 1 = distance_is (length (cb ++ j ∷ [])) (omega (arith, short, n_all, n_b)) ∙ n_b in
        let reach_back : distance (length ce + 1 + length cb) ≡ length ce + 1 + length cb = distance_is (length ce + 1 + length cb) (omega (arith, short, n_all)) in
        let pb = place + length ce + 1 in
        let pj = place + length ce + 1 + length cb in
        let count_b : length sb ≡ length cb = block_as_many setting.fs setting.lists (tables setting) (size setting) returns level opened locals all b at fine_b in
        let second = stands_back setting.tab place (length ce) se (Some (made setting opened locals all 1) ∷ (sb ++ last ∷ []))
        (expr_as_many (made setting opened locals all) 0 setting.marks locals line e) stands in
        let front = stands_front setting.tab pb sb (last ∷ []) second.1 in
        let top = (stands_back setting.tab pb (length cb) sb (last ∷ []) count_b second.1).0 in
        let closes : block_returns b ≡ false → FlowsInto (table setting) pj (end_shape setting.fs (size setting) opened locals all b) =
        λ goes. exact setting.tab pj (end_shape setting.fs (size setting) opened locals all b)
        (top ∙ ap (λ q. Some (reached q (end_shape setting.fs (size setting) opened locals all b))) goes) in
        let home : FlowsInto (table setting) place (made setting opened locals all 0) =
        expr_enters setting opened locals all room cuts_all e place 0 (Some (made setting opened locals all 1) ∷ (sb ++ last ∷ [])) fine_e stands in
        let far : FlowsInto (table setting) (pb + distance (length (cb ++ j ∷ []))) (made setting opened locals all 0) =
        subst (λ p. FlowsInto (table setting) p (made setting opened locals all 0))
        (ap (λ m. place + m) n_all ∙ four place (length ce) (length cb) (distance (length (cb ++ j ∷ []))) reach) (leads refl) in
        let near = block_enters setting returns level opened locals all b pb at room cuts_all fine_b front closes in
        let goes_back : pj - distance (length ce + 1 + length cb) ≡ place = omega (arith, reach_back) in
        let starts = (setting.within place home.there home.found).0 in
        let named : nat_le (setting.f.start + distance (length ce + 1 + length cb)) pj ≡ true =
        at_most (setting.f.start + distance (length ce + 1 + length cb)) pj (omega (arith, starts, reach_back)) in
        let jump : FitsAt setting pj last j =
        back_fits setting (block_returns b) pj (distance (length ce + 1 + length cb)) (end_shape setting.fs (size setting) opened locals all b) named
        (λ goes. subst (λ p. FlowsInto (table setting) p (end_shape setting.fs (size setting) opened locals all b)) (sym goes_back)
        (takes_less (table setting) place (end_shape setting.fs (size setting) opened locals all b) (made setting opened locals all 0) home refl
        (branch_covers setting opened locals all all b free (λ d x h. held_by_turns false (held_turn setting.fs (depth_in opened) b) taken all
        (setting.least (depth_in opened) e b taken fine.3) d x (ap (λ q. holds false d x (where_it_goes_on q after_b)) goes ∙ h))
        (λ d x h. frozen_by_turns (held_turn setting.fs (depth_in opened) b) taken all (setting.least (depth_in opened) e b taken fine.3) d x
        (ap (λ q. holds false d x (frozen_of (where_it_goes_on q after_b))) goes ∙ h))))) in
        both_fit setting place se (Some (made setting opened locals all 1) ∷ (sb ++ last ∷ [])) ce (i ∷ (cb ++ j ∷ []))
        (expr_fits setting opened locals all room cuts_all e line place 0 fine_e
        (stands_front setting.tab place se (Some (made setting opened locals all 1) ∷ (sb ++ last ∷ [])) stands)
        (exact setting.tab (place + length ce) (made setting opened locals all 1) second.0)) (
          (lies setting (pb + distance (length (cb ++ j ∷ []))) (made setting opened locals all 0) far, refl, (near, (far, tt)), refl),
          both_fit setting pb sb (last ∷ []) cb (j ∷ []) (block_fits returns level opened locals all b pb at room cuts_all returning fine_b (omega (arith, short, n_all)) front closes) (jump, tt),
        )
    stmt_fits returns level opened locals taken line (Scope b) place at room cuts returning fine short stands leads =
        let cb = block_code (first setting) setting.marks setting.lists locals b in
        let n_all : length (instr.Open block.Scope ∷ (cb ++ instr.Close ∷ [])) ≡ 1 + length cb + 1 = omega (arith, length-append cb (instr.Close ∷ [])) in
        let ss = block_shapes setting.fs (size setting) (None ∷ opened) locals taken b in
        let exit = subst (λ m. FlowsInto (table setting) (place + length (instr.Open block.Scope ∷ (cb ++ instr.Close ∷ [])))
        (made setting opened locals (freed (m + 1) (without (own_names b) (held_after_all setting.fs (m + 1) b taken))) 0)) (sym at) (leads refl) in
        inside_fits setting level opened locals taken b block.Scope place at room cuts refl fine.0 fine.1 stands exit
        (λ closes. block_fits Nowhere (level + 1) (None ∷ opened) locals taken b (place + 1) (omega (arith, at)) room cuts tt fine.0
        (omega (arith, short, n_all)) (stands_front setting.tab (place + 1) ss
        (reached (block_returns b) (end_shape setting.fs (size setting) (None ∷ opened) locals taken b) ∷ []) stands.1) closes)
    stmt_fits returns level opened locals taken line (Region tag b) place at room cuts returning fine short stands leads =
        let cb = block_code (first setting) setting.marks setting.lists locals b in
        let kind = block.Region (slot_of tag setting.lists.tags) in
        let n_all : length (instr.Open kind ∷ (cb ++ instr.Close ∷ [])) ≡ 1 + length cb + 1 = omega (arith, length-append cb (instr.Close ∷ [])) in
        let ss = block_shapes setting.fs (size setting) (None ∷ opened) locals taken b in
        let exit = subst (λ m. FlowsInto (table setting) (place + length (instr.Open kind ∷ (cb ++ instr.Close ∷ [])))
        (made setting opened locals (freed (m + 1) (without (own_names b) (held_after_all setting.fs (m + 1) b taken))) 0)) (sym at) (leads refl) in
        inside_fits setting level opened locals taken b kind place at room cuts (index_there setting.code.tags setting.lists.tags tag setting.tags_are fine.0) fine.1 fine.2 stands exit
        (λ closes. block_fits Nowhere (level + 1) (None ∷ opened) locals taken b (place + 1) (omega (arith, at)) room cuts tt fine.1
        (omega (arith, short, n_all)) (stands_front setting.tab (place + 1) ss
        (reached (block_returns b) (end_shape setting.fs (size setting) (None ∷ opened) locals taken b) ∷ []) stands.1) closes)
    stmt_fits returns level opened locals taken line (Return None) place at room cuts returning fine short stands leads =
        let is = return_place setting returns opened locals taken returning fine.0 in
        ((ap not is.1, none_round setting opened locals taken is.0, tt, refl), tt)
    stmt_fits returns level opened locals taken line (Return (Some e)) place at room cuts returning fine short stands leads =
        let is = value_place setting returns opened locals taken e returning fine.0 in
        valued_fits setting opened locals taken room cuts e line place instr.ReturnValue is.2 stands (is.1, none_round setting opened locals taken is.0, tt, refl)
    stmt_fits returns level opened locals taken line _ place at room cuts returning fine short stands leads = absurd fine

    -- the places of a block fit if the place after it accepts the shape that the block leaves
    pub block_fits : (returns : Returns) (level : ℕ) (opened : Opened) (locals : Locals) (taken : Taken) (b : Block) (place : ℕ)
        → level ≡ depth_in opened → HasRoom setting locals → CutsOpen setting.marks opened locals taken → Returning returns opened setting.f.gives_int
        → BlockFine setting.fs setting.lists (tables setting) setting.marks (size setting) returns level locals taken b →
        length (block_code (first setting) setting.marks setting.lists locals b) ≤ most_jump → HasShapesFrom setting.tab place (block_shapes setting.fs (size setting) opened locals taken b) →
        (block_returns b ≡ false → FlowsInto (table setting) (place + length (block_code (first setting) setting.marks setting.lists locals b))
        (end_shape setting.fs (size setting) opened locals taken b)) →
        AllFit setting place (block_shapes setting.fs (size setting) opened locals taken b) (block_code (first setting) setting.marks setting.lists locals b)
    block_fits returns level opened locals taken End place at room cuts returning fine short stands leads = tt
    block_fits returns level opened locals taken (Then line s End) place at room cuts returning fine short stands leads =
        let cs = stmt_code (first setting) setting.marks setting.lists locals line s in
        let ss = stmt_shapes setting.fs (size setting) opened locals taken s in
        let n_all : length (cs ++ []) ≡ length cs = ap length (append-nil cs) in
        both_fit setting place ss [] cs []
        (stmt_fits returns level opened locals taken line s place at room cuts returning fine.0 (omega (arith, short, n_all)) (stands_front setting.tab place ss [] stands)
        (λ goes. subst (λ m. FlowsInto (table setting) (place + m) (made setting opened (locals_after locals s) (held_after setting.fs (depth_in opened) s taken) 0)) n_all (leads goes)))
        tt
    block_fits returns level opened locals taken (Then line s (Then line' s' b')) place at room cuts returning fine short stands leads =
        let b = Then line' s' b' in
        let cs = stmt_code (first setting) setting.marks setting.lists locals line s in
        let cb = block_code (first setting) setting.marks setting.lists (locals_after locals s) b in
        let ss = stmt_shapes setting.fs (size setting) opened locals taken s in
        let taken' = held_after setting.fs (depth_in opened) s taken in
        let sb = block_shapes setting.fs (size setting) opened (locals_after locals s) taken' b in
        let fine' : BlockFine setting.fs setting.lists (tables setting) setting.marks (size setting) returns level (locals_after locals s) taken' b =
        subst (λ m. BlockFine setting.fs setting.lists (tables setting) setting.marks (size setting) returns level (locals_after locals s)
        (held_after setting.fs m s taken) b) at fine.1 in
        let room' = room_after setting returns level locals taken s fine.0 room in
        let cuts' : CutsOpen setting.marks opened (locals_after locals s) taken' = cuts_behind setting returns level opened locals taken s at returning fine.0 cuts in
        let second = stands_back setting.tab place (length cs) ss sb (stmt_as_many setting.fs setting.lists (tables setting)
        (size setting) returns level opened locals taken line s at fine.0) stands in
        let n_all : length (cs ++ cb) ≡ length cs + length cb = length-append cs cb in
        let two : place + length (cs ++ cb) ≡ place + length cs + length cb = omega (arith, n_all) in
        let ends : surely_returns s ≡ false → block_returns b ≡ false → FlowsInto (table setting) (place + length cs + length cb)
        (end_shape setting.fs (size setting) opened (locals_after locals s) taken' b) = λ goes more.
        subst (λ p. FlowsInto (table setting) p (end_shape setting.fs (size setting) opened (locals_after locals s) taken' b)) two (leads (both_go_on line s b goes more)) in
        both_fit setting place ss sb cs cb
        (stmt_fits returns level opened locals taken line s place at room cuts returning fine.0 (omega (arith, short, n_all)) (stands_front setting.tab place ss sb stands)
        (λ goes. block_enters setting returns level opened (locals_after locals s) taken' b (place + length cs) at room' cuts' fine' second (ends goes)))
        (block_fits returns level opened (locals_after locals s) taken' (Then line' s' b') (place + length cs) at room' cuts' returning fine' (omega (arith, short, n_all)) second
        (λ more. subst (λ p. FlowsInto (table setting) p (end_shape setting.fs (size setting) opened (locals_after locals s) taken' b)) two (leads more)))
