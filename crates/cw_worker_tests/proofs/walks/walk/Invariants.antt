use Rattle.cw_sched.specs.Worlds.{IsSound}
use Rattle.cw_worker_tests.proofs.walks.walk.Given as goal

abbrev pub invariant-loop-event : goal.invariant-loop-event
invariant-loop-event l = IsSound l.world
