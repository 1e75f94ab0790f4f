use Rattle.std.proofs.Common.{◌≡◌}
use Rattle.std.specs.Prelude.{drop}
use Rattle.cw_code.specs.Fits.{names_loans}
use Rattle.cw_verify.proofs.named.names_loans.Given as goal

abbrev pub invariant-loop-loan : goal.invariant-loop-loan
invariant-loop-loan l = names_loans l.f l.passed l.loans ≡ names_loans l.f l.passed (drop l.loan-index l.loans)
