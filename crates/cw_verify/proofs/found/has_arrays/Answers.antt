use Rattle.std.proofs.Common.{get_or, sym, ◌∙◌}
use Rattle.std.proofs.lemmas.Option.{slice_get-get_or}
use Rattle.cw_verify.specs.Table.{shape_view}
use Rattle.cw_verify.proofs.SlotMarks.{arrays_not, arrays_on}
use Rattle.cw_verify.proofs.found.has_arrays.Goals as goal

pub returns-then-not-has_array : goal.returns-then-not-has_array
returns-then-not-has_array c =
    let passed = c.args.passed.now in
    let k = c.loop-a.a-index in
    let a = get_or passed k 0 in
    sym (c.loop-a.invariant ∙ arrays_not (shape_view c.args.found.now) passed k a (slice_get-get_or passed k 0 c.loop-a-test.true) (sym c.has_array.ensures ∙ c.if-not-has_array.true))

pub loop-a-preserved : goal.loop-a-preserved
loop-a-preserved c =
    let passed = c.args.passed.now in
    let k = c.loop-a.a-index in
    let a = get_or passed k 0 in
    c.loop-a.invariant ∙ arrays_on (shape_view c.args.found.now) passed k a (slice_get-get_or passed k 0 c.loop-a-test.true) (sym c.has_array.ensures ∙ c.if-not-has_array.false)
