-- The depth of rows is at most their length: each row above has fewer numbers.
use Rattle.std.specs.Prelude.{◌≤◌, max, length}
use Rattle.std.proofs.Common.{arith}
use Rattle.cw_greedy_schedule.specs.declared.rows.Row.{Row}
use Rattle.cw_greedy_schedule.specs.declared.rows.Row.TheVariants.{Few, Many}
use Rattle.cw_greedy_schedule.specs.declared.rows.MinTree.TheDeep.{deep-Row}
use Rattle.cw_greedy_schedule.specs.MinTrees.{numbers_of, IsRows}

pub depth_le-length-numbers : (r : Row) → IsRows r → max (deep-Row r) 0 ≤ length (numbers_of r)
depth_le-length-numbers (Few row) h = omega arith
depth_le-length-numbers (Many row above) h = omega (arith, h.fewer)
