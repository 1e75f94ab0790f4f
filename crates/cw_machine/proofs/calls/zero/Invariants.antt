use Rattle.std.proofs.Common.{◌≡◌, length}
use Rattle.cw_machine.specs.RepresentsState.{Agrees, AreZero}
use Rattle.cw_machine.proofs.calls.zero.Given as goal

abbrev pub invariant-loop-k : goal.invariant-loop-k
invariant-loop-k l = record {
  others : Agrees l.initial.cells l.cells 0 l.from;
  zeros : AreZero l.cells l.from l.k;
  as_many : length l.cells ≡ length l.initial.cells;
}
