use Rattle.std.proofs.Common.{◌≡◌, replicate}
use Rattle.cw_verify.proofs.numbers.Numbers.new.Given as goal

abbrev pub invariant-loop-i : goal.invariant-loop-i
invariant-loop-i l = l.places.items ≡ replicate l._i 0
