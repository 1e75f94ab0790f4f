use Rattle.cw_sched.specs.Worlds.{IsSound}
use Rattle.cw_worker_tests.proofs.moments.passes.Given as goal

abbrev pub invariant-loop-possible : goal.invariant-loop-possible
invariant-loop-possible l = IsSound l.world
