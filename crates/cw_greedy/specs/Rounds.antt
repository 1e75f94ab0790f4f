-- The invariant of the algorithm's loop, on flat lists.
use Rattle.std.specs.Prelude.{ℕ, ◌≡◌, ◌+◌}
use Rattle.cw_model.specs.Trees.{Tree}
use Rattle.cw_greedy.specs.Greedy.{greedy_length}
use Rattle.cw_greedy.specs.Jumping.{Going, start, to_do, run, IsOver, Released}
use Rattle.cw_greedy.specs.Slots.{slots, EachLeft, RoomFor}
use Rattle.cw_greedy.specs.Blocks.{block_of}

-- the schedule from `after` on is shorter by this number of steps than from `before` on
abbrev pub IsAfter : (processors steps : ℕ) → (before after : Going) → Type 0
IsAfter p k g g' = greedy_length p (to_do g) ≡ k + greedy_length p (to_do g')

-- the algorithm's loop preserves the length of the schedule
pub record RoundsPreserveLength (p : ℕ) : Type 0 where
  -- the first state has the length of the tree's schedule
  pub begins : (t : Tree) → greedy_length p t ≡ greedy_length p (to_do (start (block_of t)))
  -- a strand without instructions leaves the board in 0 steps
  pub takes : (g g' : Going) → Released g g' → IsAfter p 0 g g'
  -- a jump takes its number of steps
  pub jumps : (g : Going) (k : ℕ) → EachLeft (slots g) → RoomFor p k (slots g) → IsAfter p k g (run p k g)
  -- if the last strand has no instruction left, 0 steps are left
  pub ends : (g : Going) → IsOver g → greedy_length p (to_do g) ≡ 0
