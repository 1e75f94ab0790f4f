use Rattle.std.proofs.Common.{◌≡◌}
use Rattle.std.specs.Prelude.{drop}
use Rattle.cw_verify.specs.Views.{with_loans}
use Rattle.cw_verify.proofs.row.freeze_all.Given as goal

abbrev pub invariant-loop-loan : goal.invariant-loop-loan
invariant-loop-loan l = with_loans (drop l.loan-index l.loans) l.row.items ≡ with_loans l.loans l.initial.row.items
