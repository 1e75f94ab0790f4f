use Rattle.std.proofs.Common.{◌≡◌, drop}
use Rattle.cw_code.specs.Fits.{slots_lent}
use Rattle.cw_machine.specs.Arrays.{is_among}
use Rattle.cw_machine.proofs.hands.is_lent.Given as goal

abbrev pub invariant-loop-loan : goal.invariant-loop-loan
invariant-loop-loan l = is_among l.a (slots_lent (drop l.loan-index l.lent)) ≡ is_among l.a (slots_lent l.lent)
