use Rattle.std.proofs.Common.{◌+◌, sym, ap, ◌∙◌}
use Rattle.std.specs.Prelude.{drop}
use Rattle.std.proofs.lemmas.Option.{slice_get-get_or}
use Rattle.cw_verify.specs.Views.{with_loans}
use Rattle.cw_verify.proofs.SlotMarks.{lent_on}
use Rattle.cw_verify.proofs.row.freeze_all.Goals as goal

pub loop-loan-preserved : goal.loop-loan-preserved
loop-loan-preserved c =
    let loans = c.args.loans.now in
    let k = c.loop-loan.loan-index in
    ap (with_loans (drop (k + 1) loans)) c.freeze.ensures ∙ sym (lent_on loans k _ c.loop-loan.row.items (slice_get-get_or loans k _ c.loop-loan-test.true)) ∙ c.loop-loan.invariant
