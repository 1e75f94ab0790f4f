use Rattle.std.proofs.Common.{◌≡◌, ◌+◌, ◌++◌, ◌-◌}
use Rattle.cw_loops.specs.Expanded.{numbers}
use Rattle.cw_gen.specs.Emit.{emitted_loads}
use Rattle.cw_gen.proofs.loops.captured.Given as goal

abbrev pub invariant-loop-number : goal.invariant-loop-number
invariant-loop-number l = l.instrs.items ++ emitted_loads (numbers (l.number + 2) (l.l.captured - l.number)) ≡ l.initial.instrs.items ++ emitted_loads (numbers 2 l.l.captured)
