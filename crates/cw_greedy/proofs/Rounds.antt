-- The invariant of the algorithm's loop.
use Rattle.std.proofs.Common.{ℕ, ◌≤◌, arith, ap, ◌∙◌}
use Rattle.cw_greedy.specs.Greedy.{greedy_length}
use Rattle.cw_greedy.specs.Jumping.{Going, to_do, run, Released}
use Rattle.cw_greedy.specs.Slots.{slots, EachLeft, RoomFor}
use Rattle.cw_greedy.specs.Blocks.{block_of}
use Rattle.cw_greedy.specs.Rounds.{IsAfter, RoundsPreserveLength}
use Rattle.cw_greedy.proofs.Jumps.{jump}
use Rattle.cw_greedy.proofs.Like.{like_length}
use Rattle.cw_greedy.proofs.Jumping.{some_left, run_advances, room_advances, released_is_like, nothing_takes_nothing, over_is_done, start_to_do}
use Rattle.cw_greedy.proofs.Blocks.{like_block}
use Rattle.cw_greedy.proofs.Slots.{shows_board}

as_long : (p : ℕ) (g g' : Going) → Released g g' → IsAfter p 0 g g'
as_long p g g' h = let e = like_length p (released_is_like h) in omega (arith, e)

jumps_on : (p : ℕ) → 1 ≤ p → (g : Going) (k : ℕ) → EachLeft (slots g) → RoomFor p k (slots g) → IsAfter p k g (run p k g)
jumps_on p hp g k h r =
    let left = (shows_board g).left h in
    let all = jump p k (to_do g) hp (some_left g left) (room_advances p k g left ((shows_board g).room p k r)) in
    let e = ap (greedy_length p) (run_advances p k g left) in
    omega (arith, all, e)

pub rounds_keep : (p : ℕ) → 1 ≤ p → RoundsPreserveLength p
rounds_keep p hp = record {
  begins = λ t. like_length p (like_block t) ∙ like_length p (start_to_do (block_of t));
  takes = as_long p;
  jumps = jumps_on p hp;
  ends = λ g h. nothing_takes_nothing p (to_do g) (over_is_done g h);
}
