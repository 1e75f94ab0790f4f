-- The number of strands of a run: one, two more for each call of a call statement, two more for each spawn, and one
-- more for each join that follows a spawn.
use Rattle.std.specs.Prelude.{ℕ, ◌≡◌, ◌+◌, ◌*◌, Bool, true, false, if◌then◌else◌}
use Rattle.cw_model.specs.Trees.{Tree, Leaf, Seq, Par, Marked, Mark, Invocation, Execution}
use Rattle.cw_greedy.specs.Blocks.{strand_count}

-- the number of executed spawns, including those of loops
abbrev pub spawns_in : Tree → ℕ
spawns_in (Leaf k) = 0
spawns_in (Seq t u) = spawns_in t + spawns_in u
spawns_in (Par child rest) = 1 + (spawns_in child + spawns_in rest)
spawns_in (Marked mark t) = spawns_in t

-- 1 for a call, 0 for a region
abbrev pub call_of : Mark → ℕ
call_of (Invocation site) = 1
call_of (Execution tag) = 0

-- the number of executed calls of call statements; a spawned child and the run itself are not counted
abbrev pub calls_in : (is_spawned : Bool) → Tree → ℕ
calls_in is_spawned (Leaf k) = 0
calls_in is_spawned (Seq t u) = calls_in false t + calls_in false u
calls_in is_spawned (Par child rest) = calls_in true child + calls_in false rest
calls_in is_spawned (Marked mark t) = (if is_spawned then 0 else call_of mark) + calls_in false t

-- the number of joins that follow a spawn; all spawns of a sync block up to its join share one, so a fork at the end
-- of a continuation adds none
abbrev pub joins_in : (is_rest : Bool) → Tree → ℕ
joins_in is_rest (Leaf k) = 0
joins_in is_rest (Seq t u) = joins_in false t + joins_in is_rest u
joins_in is_rest (Par child rest) = (if is_rest then 0 else 1) + (joins_in false child + joins_in true rest)
joins_in is_rest (Marked mark t) = joins_in false t

-- the number of strands in the record is this number
abbrev pub StrandsAreCounted : Type 0
StrandsAreCounted =
    (t : Tree) → strand_count t ≡ 1 + (2 * calls_in true t + (2 * spawns_in t + joins_in false t))
