use Rattle.std.proofs.Common.{◌≡◌, ◌++◌, ◌-◌}
use Rattle.cw_loops.specs.Expanded.{numbers}
use Rattle.cw_loops.specs.View.{loop_of}
use Rattle.cw_gen.specs.Written.{written_cuts}
use Rattle.cw_gen.proofs.loops.cuts.Given as goal

abbrev pub invariant-loop-array : goal.invariant-loop-array
invariant-loop-array l = l.instrs.items ++ written_cuts (loop_of l.l) (numbers l.array (l.l.over - l.array)) ≡ l.initial.instrs.items ++ written_cuts (loop_of l.l) (numbers 0 l.l.over)
