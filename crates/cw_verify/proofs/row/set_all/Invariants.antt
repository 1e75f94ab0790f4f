use Rattle.std.proofs.Common.{◌≡◌}
use Rattle.std.specs.Prelude.{drop}
use Rattle.cw_code.specs.Fits.{with_gone}
use Rattle.cw_verify.proofs.row.set_all.Given as goal

abbrev pub invariant-loop-a : goal.invariant-loop-a
invariant-loop-a l = with_gone (drop l.a-index l.slots) l.row.items ≡ with_gone l.slots l.initial.row.items
