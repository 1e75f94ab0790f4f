use Rattle.std.proofs.Common.{get_or, refl, sym, ◌∙◌}
use Rattle.std.proofs.lemmas.Option.{slice_get-get_or}
use Rattle.cw_verify.specs.Table.{shape_view, is_thawed_slot, are_thawed}
use Rattle.cw_verify.proofs.SlotMarks.{all_not, all_on}
use Rattle.cw_verify.proofs.found.are_thawed.Goals as goal

pub returns-then-not-is_thawed_slot : goal.returns-then-not-is_thawed_slot
returns-then-not-is_thawed_slot c =
    let s = shape_view c.args.found.now in
    let slots = c.args.slots.now in
    let k = c.loop-a.a-index in
    let a = get_or slots k 0 in
    sym (c.loop-a.invariant ∙ all_not (is_thawed_slot s) (are_thawed s) (λ x xs. refl) slots k a (slice_get-get_or slots k 0 c.loop-a-test.true) (sym c.is_thawed_slot.ensures ∙ c.if-not-is_thawed_slot.true))

pub loop-a-preserved : goal.loop-a-preserved
loop-a-preserved c =
    let s = shape_view c.args.found.now in
    let slots = c.args.slots.now in
    let k = c.loop-a.a-index in
    let a = get_or slots k 0 in
    c.loop-a.invariant ∙ all_on (is_thawed_slot s) (are_thawed s) (λ x xs. refl) slots k a (slice_get-get_or slots k 0 c.loop-a-test.true) (sym c.is_thawed_slot.ensures ∙ c.if-not-is_thawed_slot.false)
