-- The call of a loop's function on one half of its range is well formed.
use Rattle.std.proofs.Common.{◌≡◌, ℕ, ◌+◌, ◌-◌, List, [], ◌∷◌, length, true, ◌&&◌, Some, sym, ap, ◌∙◌, subst, arith}
use Rattle.std.specs.Prelude.{slice_get}
use Rattle.cw_facts.specs.Tests.{both_true}
use Rattle.cw_model.specs.declared.syntax.CallKind.{CallKind}
use Rattle.cw_model.specs.declared.syntax.CallKind.TheVariants.{Plain, Spawned}
use Rattle.cw_model.specs.Syntax.{Name, Expr, Start}
use Rattle.cw_model.specs.Meaning.{function_named}
use Rattle.cw_model.specs.Typing.{Nowhere}
use Rattle.cw_model.specs.Ownership.{Taken}
use Rattle.cw_model.specs.Ownership as ownership
use Rattle.cw_tree.specs.Resolved.{Locals, slot_of, locals_of}
use Rattle.cw_code.specs.declared.code.Instr.TheVariants as instr
use Rattle.cw_code.specs.Run.{slots_named, passed_by}
use Rattle.cw_code.specs.Fits.{params_of, names_passed, names_lent, has_arrays, has_arguments, frozen_rows, none_frozen, with_passed, leaves, Covers, CoversEach, FlowsInto}
use Rattle.cw_code.specs.lemmas.Slots.{covers_itself, each_covers_itself}
use Rattle.cw_gen.specs.Emit.{half_of}
use Rattle.cw_gen.proofs.HeldNames.{held_after}
use Rattle.cw_gen.proofs.Marked.{numbers_at}
use Rattle.cw_gen.proofs.Frozen.{frozen_of}
use Rattle.cw_gen.proofs.Fine.{AllWritable, StmtFine}
use Rattle.cw_gen.proofs.EmptySlots.{row, array_row, row_more, outers, CutsOpen}
use Rattle.cw_gen.proofs.Passing.{slots_for, writable_args, passed_slots, as_many_arrays}
use Rattle.cw_gen.proofs.Shapes.{Opened, depth_in, args_after}
use Rattle.cw_gen.proofs.Settings.{Setting, takes_less, tables, first, table, size, HasRoom, FitsAt, made}
use Rattle.cw_gen.proofs.FittingCalls.{as_many_args, slots_full, slots_thawed, passed_named, none_lent, arguments_there, spawned, spawn_keeps, spawn_covers, spawn_covers_frozen, spawn_covers_outside}

module _ (setting : Setting) where
  -- the instruction of a call on a half is well formed
  pub half_fits : (opened : Opened) (locals : Locals) (taken : Taken) → HasRoom setting locals → CutsOpen setting.marks opened locals taken
      → (kind : CallKind) (name : Name) (es : List Expr) (place : ℕ) →
      StmtFine setting.fs setting.lists (tables setting) setting.marks (size setting) Nowhere (depth_in opened) locals taken (Start kind name es) →
      FlowsInto (table setting) (place + 1) (made setting opened locals (held_after setting.fs (depth_in opened) (Start kind name es) taken) 0) →
      FitsAt setting place (Some (made setting opened locals taken (args_after 0 (function_named name setting.fs).params es)))
      (instr.Recur kind (half_of (first setting) kind (slot_of name setting.lists.functions)))
  half_fits opened locals taken room cuts kind name es place fine leads =
      let g = function_named name setting.fs in
      let c = half_of (first setting) kind (slot_of name setting.lists.functions) in
      let entry = setting.functions.entry name fine.0 in
      let xs = ownership.given setting.fs name es in
      let us = writable_args setting.marks locals taken g.params es fine.2 in
      let many = args_after 0 g.params es in
      let slots = passed_by setting.code c.passed in
      let passed : slots ≡ numbers_at setting.marks (slots_for locals.arrays xs) = ap slots_named fine.4 ∙ passed_slots setting.marks locals taken g.params es fine.2 in
      let count : many ≡ 0 + length (locals_of g.params).ints = as_many_args setting.marks locals taken 0 g.params es fine.2 in
      let callee_params = params_of (slice_get setting.code.funcs c.function) in
      let params : callee_params ≡ many = ap params_of entry.1 ∙ omega (arith, count, entry.2.params) in
      let shape = made setting opened locals taken many in
      let ready : (has_arguments kind callee_params many && has_arrays shape slots) ≡ true =
      both_true (has_arguments kind callee_params many) (has_arrays shape slots) (arguments_there kind callee_params many params)
      (ap (has_arrays shape) passed ∙ slots_full setting opened locals taken room cuts xs many us) in
      let none_left : 0 ≡ many - callee_params = omega (arith, params) in
      let after_it = held_after setting.fs (depth_in opened) (Start kind name es) taken in
      let gone : Covers (array_row (size setting) (depth_in opened) locals.arrays after_it) (with_passed kind slots (array_row (size setting) (depth_in opened) locals.arrays taken)) =
      subst (λ p. Covers (array_row (size setting) (depth_in opened) locals.arrays after_it)
      (with_passed kind p (array_row (size setting) (depth_in opened) locals.arrays taken))) (sym passed) (arrays_covered kind us) in
      let named = passed_named setting opened locals taken room cuts name slots xs fine.0 us fine.3 passed (as_many_arrays setting.marks locals taken g.params es fine.2) in
      let rows = array_row (size setting) (depth_in opened) locals.arrays (frozen_of taken) ∷ frozen_rows (outers (size setting) opened locals taken) in (
        both_true (names_passed setting.code setting.f c.function slots) (names_lent setting.code setting.f c.function slots []) named (none_lent setting name slots fine.0 fine.5),
        ready,
        (
          takes_less (table setting) (place + 1) (leaves setting.code shape (instr.Recur kind c))
              (made setting opened locals after_it 0) leads none_left (ints_covered kind, gone, frozen_covered kind, outside_covered kind),
          tt,
        ),
        ap (none_frozen rows) passed ∙ slots_thawed setting opened locals taken room cuts xs us,
      )
    where
      xs : List Name
      xs = ownership.given setting.fs name es

      after_it : CallKind → Taken
      after_it kind = held_after setting.fs (depth_in opened) (Start kind name es) taken

      ints_covered : (kind : CallKind) → Covers (row (size setting).ints (depth_in opened) locals.ints (after_it kind)) (row (size setting).ints (depth_in opened) locals.ints taken)
      ints_covered Plain = covers_itself (row (size setting).ints (depth_in opened) locals.ints taken)
      ints_covered Spawned = row_more (size setting).ints (depth_in opened) locals.ints taken (spawned (depth_in opened) xs [] taken) (spawn_keeps (depth_in opened) xs [] taken (depth_in opened))

      arrays_covered : (kind : CallKind) → AllWritable setting.marks locals.arrays taken xs →
          Covers (array_row (size setting) (depth_in opened) locals.arrays (after_it kind))
          (with_passed kind (numbers_at setting.marks (slots_for locals.arrays xs)) (array_row (size setting) (depth_in opened) locals.arrays taken))
      arrays_covered Plain us = covers_itself (array_row (size setting) (depth_in opened) locals.arrays taken)
      arrays_covered Spawned us = spawn_covers setting opened locals taken room cuts xs xs [] us (λ y h. h)

      frozen_covered : (kind : CallKind) → Covers (array_row (size setting) (depth_in opened) locals.arrays (frozen_of (after_it kind)))
          (array_row (size setting) (depth_in opened) locals.arrays (frozen_of taken))
      frozen_covered Plain = covers_itself (array_row (size setting) (depth_in opened) locals.arrays (frozen_of taken))
      frozen_covered Spawned = spawn_covers_frozen setting opened locals taken room cuts xs [] tt

      outside_covered : (kind : CallKind) → CoversEach (outers (size setting) opened locals (after_it kind)) (outers (size setting) opened locals taken)
      outside_covered Plain = each_covers_itself (outers (size setting) opened locals taken)
      outside_covered Spawned = spawn_covers_outside setting opened locals taken room cuts xs []
