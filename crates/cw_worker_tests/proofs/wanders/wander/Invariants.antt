use Rattle.cw_sched.specs.Worlds.{IsSound}
use Rattle.cw_worker_tests.proofs.wanders.wander.Given as goal

abbrev pub invariant-loop : goal.invariant-loop
invariant-loop l = IsSound l.world
