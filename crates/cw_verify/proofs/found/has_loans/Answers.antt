use Rattle.std.proofs.Common.{refl, sym, ◌∙◌}
use Rattle.std.proofs.lemmas.Option.{slice_get-get_or}
use Rattle.cw_code.specs.Fits.{has_loan, has_loans}
use Rattle.cw_verify.specs.Table.{shape_view}
use Rattle.cw_verify.proofs.SlotMarks.{all_not, all_on}
use Rattle.cw_verify.proofs.found.has_loans.Goals as goal

pub returns-then-not-has_loan : goal.returns-then-not-has_loan
returns-then-not-has_loan c =
    let s = shape_view c.args.found.now in
    let loans = c.args.loans.now in
    let k = c.loop-loan.loan-index in
    sym (c.loop-loan.invariant ∙ all_not (has_loan s) (has_loans s) (λ x xs. refl) loans k _ (slice_get-get_or loans k _ c.loop-loan-test.true) (sym c.has_loan.ensures ∙ c.if-not-has_loan.true))

pub loop-loan-preserved : goal.loop-loan-preserved
loop-loan-preserved c =
    let s = shape_view c.args.found.now in
    let loans = c.args.loans.now in
    let k = c.loop-loan.loan-index in
    c.loop-loan.invariant ∙ all_on (has_loan s) (has_loans s) (λ x xs. refl) loans k _ (slice_get-get_or loans k _ c.loop-loan-test.true) (sym c.has_loan.ensures ∙ c.if-not-has_loan.false)
