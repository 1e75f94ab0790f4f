use Rattle.std.proofs.Common.{◌≡◌, ◌+◌, ◌≤◌, [], ◌∷◌}
use Rattle.std.specs.Vec.{vec_len, vec_capacity}
use Rattle.cw_sched.specs.Scenes.{Goes, posted, stacks}
use Rattle.cw_sched.specs.Worlds.{idle}
use Rattle.cw_sched.proofs.world.first_begun.Given as goal

abbrev pub invariant-loop : goal.invariant-loop
invariant-loop l = record {
  are : stacks l.begun ≡ (Goes (posted l.fn.post) ∷ []) ∷ idle l.counter;
  many : vec_len l.begun ≡ l.counter + 1;
  room : l.fn.workers ≤ vec_capacity l.begun;
}
