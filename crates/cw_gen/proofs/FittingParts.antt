-- The parts of statements are well formed: jumps, blocks, returns, and an expression with the instruction that uses its
-- value.
use Rattle.std.proofs.Common.{◌≡◌, ℕ, suc, ◌+◌, ◌-◌, List, [], ◌∷◌, ◌++◌, length, Bool, true, false, nat_lt, Some, None, refl, sym, ap, ◌∙◌, subst, arith, length-append}
use Rattle.std.specs.Prelude.{nat_le}
use Rattle.std.proofs.lemmas.List.{length-map}
use Rattle.std.proofs.lemmas.Option.{slice_get_within}
use Rattle.cw_facts.specs.Tests.{both_true, below}
use Rattle.cw_model.specs.Syntax.{Name, Expr, Block}
use Rattle.cw_model.specs.Typing.{Returns, Nowhere, WithInt, Alone, block_returns}
use Rattle.cw_model.specs.Ownership.{Taken, freed, without, own_names, Joins}
use Rattle.cw_tree.specs.Resolved.{Locals, slot_of}
use Rattle.cw_code.specs.declared.code.BlockKind.{BlockKind}
use Rattle.cw_code.specs.declared.code.Instr.{Instr}
use Rattle.cw_code.specs.declared.code.Instr.TheVariants as instr
use Rattle.cw_code.specs.declared.code.Reducer.{Reducer}
use Rattle.cw_code.specs.Code.{reducer_names}
use Rattle.cw_code.specs.Fits.{names_tag, Shape, has_slot, none_open, leaves, FlowsInto}
use Rattle.cw_code.specs.lemmas.Slots.{covers_itself, each_covers_itself}
use Rattle.cw_gen.specs.Emit.{distance, past}
use Rattle.cw_gen.proofs.HeldNames.{held_after_all}
use Rattle.cw_gen.proofs.Fine.{ExprFine, ReturnFine, IsListed, BlockFine, EndsFree}
use Rattle.cw_gen.proofs.Texts.{expr_code, block_code}
use Rattle.cw_gen.proofs.Frozen.{frozen_of}
use Rattle.cw_gen.proofs.EmptySlots.{row, array_row, length-row, length_array_row, covers_none, outers, Over, CutsOpen}
use Rattle.cw_gen.proofs.Shapes.{Opened, depth_in, expr_shapes, reached, end_shape, block_shapes, block_as_many}
use Rattle.cw_gen.proofs.Settings.{Setting, HasShapesFrom, stands_front, stands_back, exact, takes_less, Returning, tables, first, table, size, HasRoom, FitsAt, AllFit, both_fit, lies, made}
use Rattle.cw_gen.proofs.FittingExprs.{valued_fits}
use Rattle.cw_gen.proofs.FittingEnds.{inside_covers}
use Rattle.cw_gen.proofs.FittingFirsts.{block_enters}

-- a listed name has an index
pub index_there : (ks names : List Name) (x : Name) → ks ≡ names → IsListed names x → nat_lt (slot_of x names) (length ks) ≡ true
index_there ks names x e h = below (slot_of x names) (length ks) (omega (arith, slice_get_within names (slot_of x names) x h, ap length e))

-- a listed reducer has an index
pub reducer_there : (ks : List Reducer) (names : List Name) (x : Name) → reducer_names ks ≡ names → IsListed names x → nat_lt (slot_of x names) (length ks) ≡ true
reducer_there ks names x e h = below (slot_of x names) (length ks) (omega (arith, slice_get_within names (slot_of x names) x h, ap length e, length-map ks (λ r. r.name)))

module _ (setting : Setting) where
  -- the jump over the second branch is well formed
  pub jump_fits : (returns : Bool) (place n : ℕ) (shape next : Shape) → FlowsInto (table setting) (place + 1) next
      → (returns ≡ false → FlowsInto (table setting) (place + 1 + n) shape) → distance n ≡ n → (r : Bool) → r ≡ returns
      → FitsAt setting place (reached returns shape) (instr.Skip (past r n))
  jump_fits true place n shape next enters leads reach r e =
      let zero_more : place + 1 ≡ place + 1 + past r n = omega (arith, ap (λ q. past q n) e) in
      lies setting (place + 1 + past r n) next (subst (λ p. FlowsInto (table setting) p next) zero_more enters)
  jump_fits false place n shape next enters leads reach r e =
      let at : place + 1 + n ≡ place + 1 + past r n = omega (arith, ap (λ q. past q n) e, reach) in
      let there = subst (λ p. FlowsInto (table setting) p shape) at (leads refl) in
      (lies setting (place + 1 + past r n) shape there, refl, (there, tt), refl)

  -- the jump back to a test is well formed
  pub back_fits : (returns : Bool) (place n : ℕ) (shape : Shape) → nat_le (setting.f.start + n) place ≡ true
      → (returns ≡ false → FlowsInto (table setting) (place - n) shape) → FitsAt setting place (reached returns shape) (instr.GoBack n)
  back_fits true place n shape named leads = named
  back_fits false place n shape named leads = (named, refl, (leads refl, tt), refl)

  -- a block is well formed with the instruction that opens it and the instruction that closes it
  pub inside_fits : (level : ℕ) (opened : Opened) (locals : Locals) (taken : Taken) (b : Block) (kind : BlockKind) (place : ℕ)
      → level ≡ depth_in opened → HasRoom setting locals → CutsOpen setting.marks opened locals taken → names_tag setting.code kind ≡ true
      → BlockFine setting.fs setting.lists (tables setting) setting.marks (size setting) Nowhere (level + 1) locals taken b
      → EndsFree setting.fs (level + 1) Joins taken b →
      HasShapesFrom setting.tab place (Some (made setting opened locals taken 0)
      ∷ (block_shapes setting.fs (size setting) (None ∷ opened) locals taken b
      ++ reached (block_returns b) (end_shape setting.fs (size setting) (None ∷ opened) locals taken b) ∷ [])) →
      FlowsInto (table setting) (place + length (instr.Open kind ∷ (block_code (first setting) setting.marks setting.lists locals b ++ instr.Close
      ∷ []))) (made setting opened locals (freed (level + 1) (without (own_names b) (held_after_all setting.fs (level + 1) b taken))) 0) →
      ((block_returns b ≡ false → FlowsInto (table setting) (place + 1 + length (block_code (first setting) setting.marks setting.lists locals b))
      (end_shape setting.fs (size setting) (None ∷ opened) locals taken b))
      → AllFit setting (place + 1) (block_shapes setting.fs (size setting) (None ∷ opened) locals taken b)
      (block_code (first setting) setting.marks setting.lists locals b)) →
      AllFit setting place (Some (made setting opened locals taken 0) ∷ (block_shapes setting.fs (size setting) (None ∷ opened) locals taken b
      ++ reached (block_returns b) (end_shape setting.fs (size setting) (None ∷ opened) locals taken b) ∷ []))
      (instr.Open kind ∷ (block_code (first setting) setting.marks setting.lists locals b ++ instr.Close ∷ []))
  inside_fits level opened locals taken b kind place at room cuts tag fine free stands leads inner =
      let cb = block_code (first setting) setting.marks setting.lists locals b in
      let ss = block_shapes setting.fs (size setting) (None ∷ opened) locals taken b in
      let last = reached (block_returns b) (end_shape setting.fs (size setting) (None ∷ opened) locals taken b) in
      let deeper : level + 1 ≡ suc (depth_in opened) = omega (arith, at) in
      let count : length ss ≡ length cb = block_as_many setting.fs setting.lists (tables setting) (size setting) Nowhere (level + 1) (None ∷ opened) locals taken b deeper fine in
      let top = (stands_back setting.tab (place + 1) (length cb) ss (last ∷ []) count stands.1).0 in
      let front = stands_front setting.tab (place + 1) ss (last ∷ []) stands.1 in
      let closes : block_returns b ≡ false → FlowsInto (table setting) (place + 1 + length cb) (end_shape setting.fs (size setting) (None ∷ opened) locals taken b) = λ goes.
      exact setting.tab (place + 1 + length cb) (end_shape setting.fs (size setting) (None ∷ opened) locals taken b)
      (top ∙ ap (λ r. Some (reached r (end_shape setting.fs (size setting) (None ∷ opened) locals taken b))) goes) in
      let enters = block_enters setting Nowhere (level + 1) (None ∷ opened) locals taken b (place + 1) deeper room cuts fine front closes in
      let begins : FlowsInto (table setting) (place + 1) (leaves setting.code (made setting opened locals taken 0) (instr.Open kind)) =
      takes_less (table setting) (place + 1) (leaves setting.code (made setting opened locals taken 0) (instr.Open kind)) (made setting (None ∷ opened) locals taken 0) enters refl (
        covers_none (row (size setting).ints (suc (depth_in opened)) locals.ints taken)
            (length (row (size setting).ints (depth_in opened) locals.ints taken))
            (length-row (size setting).ints (suc (depth_in opened)) locals.ints taken ∙ sym (length-row (size setting).ints (depth_in opened) locals.ints taken)),
        covers_none (array_row (size setting) (suc (depth_in opened)) locals.arrays taken)
            (length (array_row (size setting) (depth_in opened) locals.arrays taken))
            (length_array_row (size setting) (suc (depth_in opened)) (depth_in opened) locals.arrays locals.arrays taken taken),
        covers_none (array_row (size setting) (suc (depth_in opened)) locals.arrays (frozen_of taken))
            (length (array_row (size setting) (depth_in opened) locals.arrays (frozen_of taken)))
            (length_array_row (size setting) (suc (depth_in opened)) (depth_in opened) locals.arrays locals.arrays (frozen_of taken) (frozen_of taken)),
        (
          covers_itself (row (size setting).ints (depth_in opened) locals.ints taken),
          covers_itself (array_row (size setting) (depth_in opened) locals.arrays taken),
          covers_itself (array_row (size setting) (depth_in opened) locals.arrays (frozen_of taken)),
          refl,
          each_covers_itself (outers (size setting) opened locals taken),
        ),
      ) in
      let behind : place + length (instr.Open kind ∷ (cb ++ instr.Close ∷ [])) ≡ place + 1 + length cb + 1 = omega (arith, length-append cb (instr.Close ∷ [])) in
      let leads' = subst (λ p. FlowsInto (table setting) p (made setting opened locals (freed (level + 1) (without (own_names b) (held_after_all setting.fs (level + 1) b taken))) 0)) behind leads in
      ((tag, refl, (begins, tt), refl), both_fit setting (place + 1) ss (last ∷ []) cb (instr.Close ∷ []) (inner closes) (closing (block_returns b) leads', tt))
    where
      closing : (r : Bool) → FlowsInto (table setting) (place + 1 + length (block_code (first setting) setting.marks setting.lists locals b) + 1)
          (made setting opened locals (freed (level + 1) (without (own_names b) (held_after_all setting.fs (level + 1) b taken))) 0)
          → FitsAt setting (place + 1 + length (block_code (first setting) setting.marks setting.lists locals b))
          (reached r (end_shape setting.fs (size setting) (None ∷ opened) locals taken b)) instr.Close
      closing true h = refl
      closing false h = (
        refl,
        refl,
        (
          takes_less (table setting) (place + 1
              + length (block_code (first setting) setting.marks setting.lists locals b) + 1)
              (leaves setting.code (end_shape setting.fs (size setting) (None ∷ opened) locals taken b) instr.Close)
              (made setting opened locals (freed (level + 1) (without (own_names b) (held_after_all setting.fs (level + 1) b taken))) 0) h refl
              (inside_covers setting opened locals taken b level (omega (arith, at)) free),
          tt,
        ),
        refl,
      )

  -- a return without a value is outside of all blocks, and its function returns no integer
  pub return_place : (returns : Returns) (opened : Opened) (locals : Locals) (taken : Taken) → Returning returns opened setting.f.gives_int
      → ReturnFine returns locals taken None → (opened ≡ []) × (setting.f.gives_int ≡ false)
  return_place Nowhere opened locals taken r fine = absurd fine
  return_place WithInt opened locals taken r fine = absurd fine
  return_place Alone opened locals taken r fine = r

  -- a return with a value is outside of all blocks, and its function returns an integer
  pub value_place : (returns : Returns) (opened : Opened) (locals : Locals) (taken : Taken) (e : Expr) → Returning returns opened setting.f.gives_int
      → ReturnFine returns locals taken (Some e) → (opened ≡ []) × (setting.f.gives_int ≡ true) × ExprFine locals taken e
  value_place Nowhere opened locals taken e r fine = absurd fine
  value_place WithInt opened locals taken e r fine = (r.0, r.1, fine)
  value_place Alone opened locals taken e r fine = absurd fine

  -- outside of all blocks no block is open
  pub none_round : (opened : Opened) (locals : Locals) (taken : Taken) → opened ≡ [] → none_open (outers (size setting) opened locals taken) ≡ true
  none_round [] locals taken e = refl
  none_round (c ∷ opened) locals taken e = cc

  -- an expression and the store of its value are well formed
  pub store_fits : (opened : Opened) (locals locals' : Locals) (taken : Taken) → HasRoom setting locals → CutsOpen setting.marks opened locals taken
      → (e : Expr) (line place a : ℕ) → nat_lt a (size setting).ints ≡ true → has_slot (made setting opened locals taken 1) a ≡ true
      → ExprFine locals taken e → HasShapesFrom setting.tab place (expr_shapes (made setting opened locals taken) 0 e ++ Some (made setting opened locals taken 1) ∷ []) →
      Over (made setting opened locals' taken 0) (made setting opened locals taken 0)
      → FlowsInto (table setting) (place + length (expr_code setting.marks locals line e ++ instr.Store a ∷ [])) (made setting opened locals' taken 0) →
      AllFit setting place (expr_shapes (made setting opened locals taken) 0 e ++ Some (made setting opened locals taken 1) ∷ []) (expr_code setting.marks locals line e ++ instr.Store a ∷ [])
  store_fits opened locals locals' taken room cuts e line place a there slot fine stands covers leads =
      let ce = expr_code setting.marks locals line e in
      let behind : place + length (ce ++ instr.Store a ∷ []) ≡ place + length ce + 1 = omega (arith, length-append ce (instr.Store a ∷ [])) in
      valued_fits setting opened locals taken room cuts e line place (instr.Store a) fine stands (
        there,
        both_true (has_slot (made setting opened locals taken 1) a) true slot refl,
        (
          takes_less (table setting) (place + length ce + 1) (made setting opened locals taken 0) (made setting opened locals' taken 0)
              (subst (λ p. FlowsInto (table setting) p (made setting opened locals' taken 0)) behind leads) refl covers,
          tt,
        ),
        refl,
      )

  -- an expression and the instruction that takes its value are well formed
  pub tell_fits : (opened : Opened) (locals : Locals) (taken : Taken) → HasRoom setting locals → CutsOpen setting.marks opened locals taken
      → (e : Expr) (line place : ℕ) (i : Instr) → ExprFine locals taken e
      → HasShapesFrom setting.tab place (expr_shapes (made setting opened locals taken) 0 e ++ Some (made setting opened locals taken 1) ∷ []) →
      (FlowsInto (table setting) (place + length (expr_code setting.marks locals line e) + 1) (made setting opened locals taken 0)
      → FitsAt setting (place + length (expr_code setting.marks locals line e)) (Some (made setting opened locals taken 1)) i)
      → FlowsInto (table setting) (place + length (expr_code setting.marks locals line e ++ i ∷ [])) (made setting opened locals taken 0) →
      AllFit setting place (expr_shapes (made setting opened locals taken) 0 e ++ Some (made setting opened locals taken 1) ∷ []) (expr_code setting.marks locals line e ++ i ∷ [])
  tell_fits opened locals taken room cuts e line place i fine stands last leads =
      let ce = expr_code setting.marks locals line e in
      let behind : place + length (ce ++ i ∷ []) ≡ place + length ce + 1 = omega (arith, length-append ce (i ∷ [])) in
      valued_fits setting opened locals taken room cuts e line place i fine stands (last (subst (λ p. FlowsInto (table setting) p (made setting opened locals taken 0)) behind leads))
