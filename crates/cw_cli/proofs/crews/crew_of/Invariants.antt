use Rattle.std.proofs.Common.{◌≡◌, length}
use Rattle.cw_cli.proofs.crews.crew_of.Given as goal

abbrev pub invariant-loop-k : goal.invariant-loop-k
invariant-loop-k g l = length l.crew.items ≡ l._k
