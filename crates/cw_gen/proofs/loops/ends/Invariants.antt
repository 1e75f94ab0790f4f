use Rattle.std.proofs.Common.{◌≡◌, ◌++◌, ◌-◌}
use Rattle.cw_loops.specs.Expanded.{numbers}
use Rattle.cw_gen.specs.Written.{written_ends}
use Rattle.cw_gen.proofs.loops.ends.Given as goal

abbrev pub invariant-loop-array : goal.invariant-loop-array
invariant-loop-array l = l.instrs.items ++ written_ends (numbers l._array (l.over - l._array)) ≡ l.initial.instrs.items ++ written_ends (numbers 0 l.over)
