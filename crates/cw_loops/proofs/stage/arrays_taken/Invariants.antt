use Rattle.std.proofs.Common.{◌≡◌, map, drop}
use Rattle.cw_tree.specs.ResolvedView.{param_of}
use Rattle.cw_loops.specs.Lowers.{arrays_from}
use Rattle.cw_loops.proofs.stage.arrays_taken.Given as goal

abbrev pub invariant-loop-param : goal.invariant-loop-param
invariant-loop-param l = arrays_from l.arrays (map param_of (drop l.param-index l.params)) ≡ arrays_from 0 (map param_of l.params)
