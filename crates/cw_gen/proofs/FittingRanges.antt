-- The first call of a loop's function is well formed: the ends of its range, the captured integers, and its
-- instruction.
use Rattle.std.proofs.Common.{◌≡◌, ℕ, ◌+◌, ◌-◌, List, [], ◌∷◌, ◌++◌, length, true, ◌&&◌, Some, refl, sym, ap, ◌∙◌, subst, arith, length-append}
use Rattle.std.specs.Prelude.{slice_get, map, nat_le}
use Rattle.cw_facts.specs.Tests.{both_true, at_most}
use Rattle.cw_model.specs.Syntax.{Name, Expr, Begin}
use Rattle.std.proofs.lemmas.List.{append-nil}
use Rattle.cw_model.specs.Meaning.{function_named}
use Rattle.cw_model.specs.Typing.{Nowhere}
use Rattle.cw_model.specs.Ownership.{Taken}
use Rattle.cw_tree.specs.Resolved.{Locals, slot_of, locals_of}
use Rattle.cw_code.specs.declared.code.Instr.{Instr}
use Rattle.cw_code.specs.declared.code.Instr.TheVariants as instr
use Rattle.cw_code.specs.Run.{slots_named, passed_by}
use Rattle.cw_code.specs.Fits.{params_of, names_passed, names_lent, Shape, has_arrays, frozen_rows, none_frozen, leaves, FlowsInto}
use Rattle.cw_gen.specs.Emit.{emitted_loads, whole_of}
use Rattle.cw_gen.proofs.Fine.{AllUsable, StmtFine}
use Rattle.cw_gen.proofs.Marked.{owned, numbers_at}
use Rattle.cw_gen.proofs.MarkedParams.{params_owned}
use Rattle.cw_gen.proofs.Frozen.{frozen_of}
use Rattle.cw_gen.proofs.Texts.{expr_code, stmt_code, taken_params}
use Rattle.cw_gen.proofs.EmptySlots.{array_row, outers, over_itself, CutsOpen, slot_is_full}
use Rattle.cw_gen.proofs.Passing.{slots_for}
use Rattle.cw_gen.proofs.Shapes.{range_shapes, loads_shapes, loads_after, loads_as_many, Opened, depth_in, Shapes, expr_shapes, expr_as_many}
use Rattle.cw_gen.proofs.Settings.{Setting, HasShapesFrom, stands_front, stands_back, exact, takes_less, tables, first, table, size, HasRoom, FitsAt, AllFit, both_fit, made}
use Rattle.cw_gen.proofs.FittingExprs.{slot_is_there, expr_enters, expr_fits}
use Rattle.cw_gen.proofs.FittingCalls.{slots_full, slots_thawed, passed_named, none_lent}

-- the number of operands after the captured integers are loaded
loads_many : (n : ℕ) (xs : List Name) → loads_after n xs ≡ n + length xs
loads_many n [] = omega arith
loads_many n (x ∷ xs) = loads_many (n + 1) xs ∙ one
  where
    one : n + 1 + length xs ≡ n + length (x ∷ xs)
    one = omega arith

module _ (setting : Setting) (opened : Opened) (locals : Locals) (taken : Taken) (room : HasRoom setting locals) (cuts : CutsOpen setting.marks opened locals taken) where
  -- the shape in this statement with `n` operands
  abbrev here : ℕ → Shape
  here n = made setting opened locals taken n

  -- the code that loads integers
  abbrev loads_code : List Name → List Instr
  loads_code xs = emitted_loads (map (λ x. slot_of x locals.ints) xs)

  -- the first place of the loads accepts the shape before it
  loads_enter : (xs : List Name) (place n : ℕ) (more : Shapes) → HasShapesFrom setting.tab place (loads_shapes here n xs ++ more)
      → FlowsInto (table setting) (place + length (loads_code xs)) (here (loads_after n xs)) → FlowsInto (table setting) place (here n)
  loads_enter [] place n more stands leads = let e : place + 0 ≡ place = omega arith in subst (λ p. FlowsInto (table setting) p (here n)) e leads
  loads_enter (x ∷ xs) place n more stands leads = exact setting.tab place (here n) stands.0

  -- the loads of captured integers are well formed
  loads_fit : (xs : List Name) (place n : ℕ) → AllUsable locals.ints taken xs → HasShapesFrom setting.tab place (loads_shapes here n xs)
      → FlowsInto (table setting) (place + length (loads_code xs)) (here (loads_after n xs)) → AllFit setting place (loads_shapes here n xs) (loads_code xs)
  loads_fit [] place n us stands leads = tt
  loads_fit (x ∷ xs) place n us stands leads =
      let e : place + length (loads_code (x ∷ xs)) ≡ place + 1 + length (loads_code xs) = omega arith in
      let leads' : FlowsInto (table setting) (place + 1 + length (loads_code xs)) (here (loads_after (n + 1) xs)) = subst (λ p. FlowsInto (table setting) p (here (loads_after (n + 1) xs))) e leads in
      let more = stands.1 in
      let next = loads_enter xs (place + 1) (n + 1) [] (subst (λ ss. HasShapesFrom setting.tab (place + 1) ss) (sym (append-nil (loads_shapes here (n + 1) xs))) more) leads' in (
        (
          slot_is_there setting opened locals taken room cuts x us.0,
          slot_is_full (size setting) opened locals taken x n room.0 us.0,
          (next, tt),
          refl,
        ),
        loads_fit xs (place + 1) (n + 1) us.1 more leads',
      )

  -- the instruction of a first call is well formed
  begin_fits : (name : Name) (from to : Expr) (captured over : List Name) (line place : ℕ)
      → StmtFine setting.fs setting.lists (tables setting) setting.marks (size setting) Nowhere (depth_in opened) locals taken
      (Begin name from to captured over) → FlowsInto (table setting) (place + 1) (here 0) →
      FitsAt setting place (Some (here (loads_after 2 captured))) (instr.Start (whole_of (first setting) (slot_of name setting.lists.functions)) line)
  begin_fits name from to captured over line place fine leads =
      let g = function_named name setting.fs in
      let c = whole_of (first setting) (slot_of name setting.lists.functions) in
      let entry = setting.functions.entry name fine.0 in
      let slots = passed_by setting.code c.passed in
      let passed : slots ≡ numbers_at setting.marks (slots_for locals.arrays over) = ap slots_named fine.7 in
      let us = fine.5 in
      let many = loads_after 2 captured in
      let callee_params = params_of (slice_get setting.code.funcs c.function) in
      let count : many ≡ 2 + length captured = loads_many 2 captured in
      let params : callee_params ≡ many = ap params_of entry.1 ∙ omega (arith, count, entry.2.params, fine.1.ints) in
      let as_many : length over ≡ length (taken_params g.params) = sym (ap length (sym (params_owned g.params) ∙ ap (λ ms. owned ms (locals_of g.params).arrays) fine.1.unread ∙ fine.1.arrays)) in
      let named : names_passed setting.code setting.f c.function slots ≡ true = passed_named setting opened locals taken room cuts name slots over fine.0 us fine.6 passed as_many in
      let inner : (names_passed setting.code setting.f c.function slots && names_lent setting.code setting.f c.function slots []) ≡ true =
      both_true (names_passed setting.code setting.f c.function slots) (names_lent setting.code setting.f c.function slots []) named (none_lent setting name slots fine.0 fine.1.unread) in
      let none_left : 0 ≡ many - callee_params = omega (arith, params) in
      let rows = array_row (size setting) (depth_in opened) locals.arrays (frozen_of taken) ∷ frozen_rows (outers (size setting) opened locals taken) in
      let shape = here many in (
        both_true (names_passed setting.code setting.f c.function slots && names_lent setting.code setting.f c.function slots [])
            (nat_le 2 callee_params) inner (at_most 2 callee_params (omega (arith, params, count))),
        both_true (nat_le callee_params many) (has_arrays shape slots) (at_most callee_params many (omega (arith, params)))
            (ap (has_arrays shape) passed ∙ slots_full setting opened locals taken room cuts over many us),
        (takes_less (table setting) (place + 1) (leaves setting.code shape (instr.Start c line)) (here 0) leads none_left (over_itself (here 0)), tt),
        ap (none_frozen rows) passed ∙ slots_thawed setting opened locals taken room cuts over us,
      )

  -- a first call with its arguments is well formed
  pub range_fits : (name : Name) (from to : Expr) (captured over : List Name) (line place : ℕ)
      → StmtFine setting.fs setting.lists (tables setting) setting.marks (size setting) Nowhere (depth_in opened) locals taken
      (Begin name from to captured over) → HasShapesFrom setting.tab place (range_shapes here from to captured) →
      FlowsInto (table setting) (place + length (stmt_code (first setting) setting.marks setting.lists locals line (Begin name from to captured over))) (here 0) →
      AllFit setting place (range_shapes here from to captured) (stmt_code (first setting) setting.marks setting.lists locals line (Begin name from to captured over))
  range_fits name from to captured over line place fine stands leads =
      let cf = expr_code setting.marks locals line from in
      let ct = expr_code setting.marks locals line to in
      let cl = loads_code captured in
      let i = instr.Start (whole_of (first setting) (slot_of name setting.lists.functions)) line in
      let sf = expr_shapes here 0 from in
      let st = expr_shapes here 1 to in
      let sl = loads_shapes here 2 captured in
      let shape = here (loads_after 2 captured) in
      let last = Some shape ∷ [] in
      let pt = place + length cf in
      let pl = place + length cf + length ct in
      let pi = place + length cf + length ct + length cl in
      let second = stands_back setting.tab place (length cf) sf (st ++ (sl ++ last)) (expr_as_many here 0 setting.marks locals line from) stands in
      let third = stands_back setting.tab pt (length ct) st (sl ++ last) (expr_as_many here 1 setting.marks locals line to) second in
      let top = stands_back setting.tab pl (length cl) sl last (loads_as_many here 2 locals captured) third in
      let ends : FlowsInto (table setting) pi shape = exact setting.tab pi shape top.0 in
      let behind : place + length (cf ++ (ct ++ (cl ++ i ∷ []))) ≡ pi + 1 = omega (arith, length-append cf (ct ++ (cl ++ i ∷ [])), length-append ct (cl ++ i ∷ []), length-append cl (i ∷ [])) in
      let leads' : FlowsInto (table setting) (pi + 1) (here 0) = subst (λ p. FlowsInto (table setting) p (here 0)) behind leads in
      both_fit setting place sf (st ++ (sl ++ last)) cf (ct ++ (cl ++ i ∷ []))
      (expr_fits setting opened locals taken room cuts from line place 0 fine.2 (stands_front setting.tab place sf (st ++ (sl ++ last)) stands)
      (expr_enters setting opened locals taken room cuts to pt 1 (sl ++ last) fine.3 second))
      (both_fit setting pt st (sl ++ last) ct (cl ++ i ∷ [])
      (expr_fits setting opened locals taken room cuts to line pt 1 fine.3 (stands_front setting.tab pt st (sl ++ last) second) (loads_enter captured pl 2 last third ends))
      (both_fit setting pl sl last cl (i ∷ []) (loads_fit captured pl 2 fine.4 (stands_front setting.tab pl sl last third) ends) (begin_fits name from to captured over line pi fine leads', tt)))
