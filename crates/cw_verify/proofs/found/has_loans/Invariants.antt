use Rattle.std.proofs.Common.{◌≡◌}
use Rattle.std.specs.Prelude.{drop}
use Rattle.cw_code.specs.Fits.{has_loans}
use Rattle.cw_verify.specs.Table.{shape_view}
use Rattle.cw_verify.proofs.found.has_loans.Given as goal

abbrev pub invariant-loop-loan : goal.invariant-loop-loan
invariant-loop-loan l = has_loans (shape_view l.found) l.loans ≡ has_loans (shape_view l.found) (drop l.loan-index l.loans)
