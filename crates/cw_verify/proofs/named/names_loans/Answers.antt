use Rattle.std.proofs.Common.{refl, sym, ◌∙◌}
use Rattle.std.proofs.lemmas.Option.{slice_get-get_or}
use Rattle.cw_code.specs.Fits.{names_loan, names_loans}
use Rattle.cw_verify.proofs.SlotMarks.{all_not, all_on}
use Rattle.cw_verify.proofs.named.names_loans.Goals as goal

pub returns-then-not-names_loan : goal.returns-then-not-names_loan
returns-then-not-names_loan c =
    let f = c.args.f.now in
    let passed = c.args.passed.now in
    let loans = c.args.loans.now in
    let k = c.loop-loan.loan-index in
    sym (c.loop-loan.invariant ∙ all_not (names_loan f passed) (names_loans f passed) (λ x xs. refl) loans k _ (slice_get-get_or loans k _ c.loop-loan-test.true) (sym c.names_loan.ensures ∙ c.if-not-names_loan.true))

pub loop-loan-preserved : goal.loop-loan-preserved
loop-loan-preserved c =
    let f = c.args.f.now in
    let passed = c.args.passed.now in
    let loans = c.args.loans.now in
    let k = c.loop-loan.loan-index in
    c.loop-loan.invariant ∙ all_on (names_loan f passed) (names_loans f passed) (λ x xs. refl) loans k _ (slice_get-get_or loans k _ c.loop-loan-test.true) (sym c.names_loan.ensures ∙ c.if-not-names_loan.false)
