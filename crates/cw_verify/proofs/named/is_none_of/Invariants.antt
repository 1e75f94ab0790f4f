use Rattle.std.proofs.Common.{◌≡◌}
use Rattle.std.specs.Prelude.{drop}
use Rattle.cw_code.specs.Fits.{is_none_of}
use Rattle.cw_verify.proofs.named.is_none_of.Given as goal

abbrev pub invariant-loop-b : goal.invariant-loop-b
invariant-loop-b l = is_none_of l.a l.slots ≡ is_none_of l.a (drop l.b-index l.slots)
