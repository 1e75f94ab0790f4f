-- The unruly codes are not well-formed.
use Rattle.std.proofs.Common.{◌&&◌, pos, true, None, ◌∷◌, refl, arith}
use Rattle.std.specs.Prelude.{nat_eq, slice_get}
use Rattle.std.proofs.lemmas.Bool.{false≢true}
use Rattle.cw_facts.specs.Tests.{first_true, eq_of}
use Rattle.cw_model.specs.declared.syntax.CallKind.TheVariants.{Plain, Spawned}
use Rattle.cw_code.specs.declared.code.Instr.TheVariants.{Push, Call, SetElement, Sync}
use Rattle.cw_code.specs.Fits.{has_target, frozen_rows, full_in_all, is_full_in, Fits}
use Rattle.cw_code.specs.Unruly.{nameless, call_it, falling, crowded, littered, mistaken, overwritten, overlent}
use Rattle.cw_code.proofs.Slots.{row_apart}
use Rattle.cw_code.specs.lemmas.Slots.{covers_full}

pub falling_unfit : Fits falling → ⊥
falling_unfit fits =
    let h = fits.each 0 (nameless 0 1) refl in
    let first = h.is_table.starts in
    let next = (h.is_table.goes 0 first.there Sync first.found refl).0 in
    omega (arith, (h.is_table.within 1 next.there next.found).1)

pub crowded_unfit : Fits crowded → ⊥
crowded_unfit fits =
    let h = fits.each 0 (nameless 0 5) refl in
    let first = h.is_table.starts in
    let next = (h.is_table.goes 0 first.there (Push (pos 7)) first.found refl).0 in
    let none = eq_of 0 next.there.operands (first_true (nat_eq 0 next.there.operands) (has_target next.there None)
    (first_true (nat_eq 0 next.there.operands && has_target next.there None) true (h.is_table.ready 1 next.there (Call Spawned call_it) next.found refl))) in
    omega (arith, none, next.as_many, first.as_many)

pub littered_unfit : Fits littered → ⊥
littered_unfit fits =
    let h = fits.each 0 (nameless 0 3) refl in
    let first = h.is_table.starts in
    let next = (h.is_table.goes 0 first.there (Push (pos 7)) first.found refl).0 in
    let none = eq_of 0 next.there.operands (h.is_table.ready 1 next.there Sync next.found refl) in
    omega (arith, none, next.as_many, first.as_many)

pub mistaken_unfit : Fits mistaken → ⊥
mistaken_unfit fits =
    let h = fits.each 0 (nameless 0 4) refl in
    false≢true (h.names 0 (Call Spawned call_it) (omega arith) (omega arith) refl)

pub overwritten_unfit : Fits overwritten → ⊥
overwritten_unfit fits =
    let h = fits.each 0 (record (nameless 0 7) { arrays = 1 }) refl in
    let first = h.is_table.starts in
    let one = (h.is_table.goes 0 first.there (Call Spawned call_it) first.found refl).0 in
    let two = (h.is_table.goes 1 one.there (Push (pos 0)) one.found refl).0 in
    let three = (h.is_table.goes 2 two.there (Push (pos 1)) two.found refl).0 in
    let rows = three.there.frozen ∷ frozen_rows three.there.outer in
    let thawed = first_true (full_in_all rows 0) true (h.is_table.thawed 3 three.there (SetElement 0 1) three.found refl) in
    let own = first_true (is_full_in (slice_get three.there.frozen 0)) (full_in_all (frozen_rows three.there.outer) 0) thawed in
    let before = covers_full two.there.frozen one.there.frozen 0 two.covers_frozen (covers_full three.there.frozen two.there.frozen 0 three.covers_frozen own) in
    (row_apart first.there.frozen 0 0 (covers_full one.there.frozen _ 0 one.covers_frozen before)).0 refl

pub overlent_unfit : Fits overlent → ⊥
overlent_unfit fits =
    let h = fits.each 0 (record (nameless 0 2) { arrays = 1 }) refl in
    false≢true (h.names 0 (Call Plain call_it) (omega arith) (omega arith) refl)
