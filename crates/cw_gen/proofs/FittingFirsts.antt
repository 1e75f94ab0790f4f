-- The first place of a statement accepts the shape before it.
use Rattle.std.proofs.Common.{◌≡◌, ℕ, ◌+◌, List, [], ◌∷◌, ◌++◌, length, false, Some, None, refl, sym, ap, ◌∙◌, subst, arith, append_assoc, length-append}
use Rattle.cw_model.specs.Syntax.{Expr, Stmt, Declare, DeclareArray, Assign, AssignElement, Reduce, Call, Start, Begin, Sync, If}
use Rattle.cw_model.specs.Syntax.{IfElse, While, Scope, Cut, Region, Print, Return, Block, End, Then, Param}
use Rattle.cw_model.specs.Meaning.{function_named}
use Rattle.cw_model.specs.Typing.{Returns, Nowhere, WithInt, Alone, block_returns}
use Rattle.cw_model.specs.Ownership.{Taken, without, own_names, where_it_goes_on}
use Rattle.cw_tree.specs.Resolved.{Locals, locals_after}
use Rattle.cw_code.specs.Fits.{FlowsInto}
use Rattle.cw_gen.proofs.HeldNames.{held_after, held_after_all}
use Rattle.cw_gen.proofs.Fine.{ExprFine, ArgsFine, ReturnFine, StmtFine, BlockFine}
use Rattle.cw_gen.proofs.Takens.{holds, holds_before}
use Rattle.cw_gen.proofs.Frozen.{frozen_of, frozen_both}
use Rattle.cw_gen.proofs.Texts.{args_code, block_code}
use Rattle.cw_gen.proofs.EmptySlots.{over_more, CutsOpen}
use Rattle.cw_gen.proofs.CutsKept.{cuts_next, cuts_more}
use Rattle.cw_gen.proofs.Shapes.{Opened, depth_in, Shapes, args_after, expr_shapes, args_shapes, end_shape, stmt_shapes, block_shapes, args_as_many}
use Rattle.cw_gen.proofs.Settings.{Setting, HasShapesFrom, stands_back, exact, takes_less, Returning, tables, first, table, size, HasRoom, made}
use Rattle.cw_gen.proofs.FittingExprs.{expr_enters, valued_enters, args_enters}

module _ (setting : Setting) where
  -- there is a slot for each name that a statement declares
  pub room_after : (returns : Returns) (level : ℕ) (locals : Locals) (taken : Taken) (s : Stmt)
      → StmtFine setting.fs setting.lists (tables setting) setting.marks (size setting) returns level locals taken s → HasRoom setting locals
      → HasRoom setting (locals_after locals s)
  room_after returns level locals taken (Declare x e) fine room = (omega (arith, fine.0, length-append locals.ints (x ∷ [])), room.1)
  room_after returns level locals taken (DeclareArray x e) fine room = (room.0, omega (arith, fine.0, length-append locals.arrays (x ∷ [])))
  room_after returns level locals taken _ fine room = room

  -- arguments and the call instruction
  args_enter_call : (opened : Opened) (locals : Locals) (taken : Taken) (ps : List Param) (es : List Expr) (place : ℕ) (more : Shapes)
      → HasRoom setting locals → CutsOpen setting.marks opened locals taken → ArgsFine setting.marks locals taken ps es →
      HasShapesFrom setting.tab place ((args_shapes (made setting opened locals taken) 0 ps es
      ++ Some (made setting opened locals taken (args_after 0 ps es)) ∷ []) ++ more) → FlowsInto (table setting) place (made setting opened locals taken 0)
  args_enter_call opened locals taken ps es place more room cuts fine h =
      let shape = made setting opened locals taken (args_after 0 ps es) in
      let last = Some shape ∷ [] in
      let ss = args_shapes (made setting opened locals taken) 0 ps es in
      let n = length (args_code setting.marks locals 1 ps es) in
      let h' = subst (λ q. HasShapesFrom setting.tab place q) (append_assoc ss last more) h in
      let count : length ss ≡ n = args_as_many (made setting opened locals taken) 0 setting.marks locals taken 1 ps es fine in
      let end = (stands_back setting.tab place n ss (last ++ more) count h').0 in
      args_enters setting opened locals taken room cuts ps es 1 place 0 (last ++ more) fine h' (exact setting.tab (place + n) shape end)

  -- the first place of a statement accepts the shape before it
  pub stmt_enters : (returns : Returns) (level : ℕ) (opened : Opened) (locals : Locals) (taken : Taken) (s : Stmt) (place : ℕ) (more : Shapes)
      → level ≡ depth_in opened → HasRoom setting locals → CutsOpen setting.marks opened locals taken
      → StmtFine setting.fs setting.lists (tables setting) setting.marks (size setting) returns level locals taken s
      → HasShapesFrom setting.tab place (stmt_shapes setting.fs (size setting) opened locals taken s ++ more)
      → FlowsInto (table setting) place (made setting opened locals taken 0)
  stmt_enters returns level opened locals taken (Declare x e) place more at room cuts fine h = valued_enters setting opened locals taken room cuts e place more fine.1 h
  stmt_enters returns level opened locals taken (DeclareArray x e) place more at room cuts fine h = valued_enters setting opened locals taken room cuts e place more fine.1 h
  stmt_enters returns level opened locals taken (AssignElement x i e) place more at room cuts fine h =
      expr_enters setting opened locals taken room cuts i place 0 _ fine.1 (subst (λ ss. HasShapesFrom setting.tab place ss) (append_assoc (expr_shapes (made setting opened locals taken) 0 i) _ more) h)
  stmt_enters returns level opened locals taken (Cut a e l r b) place more at room cuts fine h =
      expr_enters setting opened locals taken room cuts e place 0 _ fine.1 (subst (λ ss. HasShapesFrom setting.tab place ss) (append_assoc (expr_shapes (made setting opened locals taken) 0 e) _ more) h)
  stmt_enters returns level opened locals taken (Assign x e) place more at room cuts fine h = valued_enters setting opened locals taken room cuts e place more fine.1 h
  stmt_enters returns level opened locals taken (Reduce how s e) place more at room cuts fine h = valued_enters setting opened locals taken room cuts e place more fine.1 h
  stmt_enters returns level opened locals taken (Print e) place more at room cuts fine h = valued_enters setting opened locals taken room cuts e place more fine h
  stmt_enters returns level opened locals taken (Call kind site target name es) place more at room cuts fine h =
      args_enter_call opened locals taken (function_named name setting.fs).params es place more room cuts fine.2 h
  stmt_enters returns level opened locals taken (Start kind name es) place more at room cuts fine h =
      args_enter_call opened locals taken (function_named name setting.fs).params es place more room cuts fine.2 h
  stmt_enters returns level opened locals taken (Begin name from to captured over) place more at room cuts fine h =
      expr_enters setting opened locals taken room cuts from place 0 _ fine.2
      (subst (λ ss. HasShapesFrom setting.tab place ss) (append_assoc (expr_shapes (made setting opened locals taken) 0 from) _ more) h)
  stmt_enters returns level opened locals taken Sync place more at room cuts fine h = exact setting.tab place (made setting opened locals taken 0) h.0
  stmt_enters returns level opened locals taken (If e b) place more at room cuts fine h =
      expr_enters setting opened locals taken room cuts e place 0 _ fine.0 (subst (λ ss. HasShapesFrom setting.tab place ss) (append_assoc (expr_shapes (made setting opened locals taken) 0 e) _ more) h)
  stmt_enters returns level opened locals taken (IfElse e b c) place more at room cuts fine h =
      expr_enters setting opened locals taken room cuts e place 0 _ fine.0 (subst (λ ss. HasShapesFrom setting.tab place ss) (append_assoc (expr_shapes (made setting opened locals taken) 0 e) _ more) h)
  stmt_enters returns level opened locals taken (While e b) place more at room cuts fine h =
      let all = held_after setting.fs (depth_in opened) (While e b) taken in
      let turn = where_it_goes_on (block_returns b) (without (own_names b) (held_after_all setting.fs (depth_in opened) b taken)) in
      let fine' : ExprFine locals all e = subst (λ n. ExprFine locals (held_after setting.fs n (While e b) taken) e) at fine.0 in
      let cuts_all : CutsOpen setting.marks opened locals all = cuts_more setting.marks opened level locals taken
      (where_it_goes_on (block_returns b) (without (own_names b) (held_after_all setting.fs (depth_in opened) b taken))) cuts in
      takes_less (table setting) place (made setting opened locals taken 0) (made setting opened locals all 0)
      (expr_enters setting opened locals all room cuts_all e place 0 _ fine'
      (subst (λ ss. HasShapesFrom setting.tab place ss) (append_assoc (expr_shapes (made setting opened locals all) 0 e) _ more) h)) refl
      (over_more (size setting) opened locals taken all 0 0 (λ d x q. holds_before false d x taken turn q)
      (λ d x q. ap (holds false d x) (frozen_both taken turn) ∙ holds_before false d x (frozen_of taken) (frozen_of turn) q))
  stmt_enters returns level opened locals taken (Scope b) place more at room cuts fine h = exact setting.tab place (made setting opened locals taken 0) h.0
  stmt_enters returns level opened locals taken (Region tag b) place more at room cuts fine h = exact setting.tab place (made setting opened locals taken 0) h.0
  stmt_enters returns level opened locals taken (Return None) place more at room cuts fine h = exact setting.tab place (made setting opened locals taken 0) h.0
  stmt_enters returns level opened locals taken (Return (Some e)) place more at room cuts fine h = valued_enters setting opened locals taken room cuts e place more (returned returns fine.0) h
    where
      returned : (returns : Returns) → ReturnFine returns locals taken (Some e) → ExprFine locals taken e
      returned Nowhere fine' = absurd fine'
      returned WithInt fine' = fine'
      returned Alone fine' = absurd fine'
  stmt_enters returns level opened locals taken _ place more at room cuts fine h = absurd fine

  -- the first place of a block, or the place after an empty block, accepts the shape before it
  pub block_enters : (returns : Returns) (level : ℕ) (opened : Opened) (locals : Locals) (taken : Taken) (b : Block) (place : ℕ)
      → level ≡ depth_in opened → HasRoom setting locals → CutsOpen setting.marks opened locals taken
      → BlockFine setting.fs setting.lists (tables setting) setting.marks (size setting) returns level locals taken b
      → HasShapesFrom setting.tab place (block_shapes setting.fs (size setting) opened locals taken b) →
      (block_returns b ≡ false → FlowsInto (table setting) (place + length (block_code (first setting) setting.marks setting.lists locals b))
      (end_shape setting.fs (size setting) opened locals taken b)) → FlowsInto (table setting) place (made setting opened locals taken 0)
  block_enters returns level opened locals taken End place at room cuts fine h leads = let e : place + 0 ≡ place = omega arith in
      subst (λ p. FlowsInto (table setting) p (made setting opened locals taken 0)) e (leads refl)
  block_enters returns level opened locals taken (Then line s b) place at room cuts fine h leads =
      stmt_enters returns level opened locals taken s place (block_shapes setting.fs (size setting) opened (locals_after locals s)
      (held_after setting.fs (depth_in opened) s taken) b) at room cuts fine.0 h

  -- cuts stay open after a statement that does not return
  pub cuts_behind : (returns : Returns) (level : ℕ) (opened : Opened) (locals : Locals) (taken : Taken) (s : Stmt) → level ≡ depth_in opened
      → Returning returns opened setting.f.gives_int → StmtFine setting.fs setting.lists (tables setting) setting.marks
      (size setting) returns level locals taken s → CutsOpen setting.marks opened locals taken
      → CutsOpen setting.marks opened (locals_after locals s) (held_after setting.fs (depth_in opened) s taken)
  cuts_behind Nowhere level opened locals taken s at returning fine cuts =
      subst (λ m. CutsOpen setting.marks opened (locals_after locals s) (held_after setting.fs m s taken)) at
      (cuts_next setting.fs setting.lists (tables setting) (size setting) opened level locals taken s fine cuts)
  cuts_behind WithInt level opened locals taken s at returning fine cuts =
      subst (λ o. CutsOpen setting.marks o (locals_after locals s) (held_after setting.fs (depth_in opened) s taken)) (sym returning.0) tt
  cuts_behind Alone level opened locals taken s at returning fine cuts =
      subst (λ o. CutsOpen setting.marks o (locals_after locals s) (held_after setting.fs (depth_in opened) s taken)) (sym returning.0) tt
