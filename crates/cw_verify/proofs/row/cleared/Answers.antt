use Rattle.std.proofs.Common.{◌≡◌, sym, ap, ◌∙◌}
use Rattle.cw_verify.specs.Table.{any_empty}
use Rattle.cw_verify.proofs.SlotMarks.{none_marked}
use Rattle.cw_verify.proofs.row.cleared.Goals as goal

pub returns-then-not-has_empty : goal.returns-then-not-has_empty
returns-then-not-has_empty c =
    let row = c.args.row.value.items in
    let is : c.deref-2.result.now ≡ row = c.deref-2.ensures.value ∙ ap (λ v. v.items) c.deref.ensures in
    none_marked row (ap any_empty (sym is) ∙ sym c.has_empty.ensures ∙ c.if-not-has_empty.true)
