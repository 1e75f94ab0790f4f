use Rattle.std.proofs.Common.{◌≡◌, []}
use Rattle.std.specs.Prelude.{map}
use Rattle.std.proofs.Common.{◌≤◌}
use Rattle.std.specs.Prelude.{replicate}
use Rattle.std.specs.Vec.{vec_len, vec_capacity}
use Rattle.cw_sched.proofs.board.Board.open.Given as goal

abbrev pub invariant-loop : goal.invariant-loop
invariant-loop l = record {
  lists_are : map (λ q. q.items) l.lists.items ≡ replicate l.counter [];
  many : vec_len l.lists ≡ l.counter;
  room : l.fn.workers ≤ vec_capacity l.lists;
}
