-- The rows so far.
use Rattle.std.proofs.Common.{◌≡◌, map, take}
use Rattle.cw_model.specs.Trees.{Tree}
use Rattle.cw_greedy.specs.Recording.{IsKept}
use Rattle.cw_greedy_schedule.specs.Speedups.{row_on}
use Rattle.cw_greedy_schedule.proofs.speedups.rows_of.Given as goal

abbrev pub invariant-loop-processors : goal.invariant-loop-processors
invariant-loop-processors l = (t : Tree) → IsKept t l.kept → l.rows.items ≡ map (row_on t) (take l.processors-index l.counts)
