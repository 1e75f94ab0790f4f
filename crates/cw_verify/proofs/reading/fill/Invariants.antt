use Rattle.std.specs.Prelude.{◌≡◌, ◌++◌, replicate}
use Rattle.cw_verify.proofs.reading.fill.Given as goal

abbrev pub invariant-loop-k : goal.invariant-loop-k
invariant-loop-k l = l.counts.items ≡ l.initial.counts.items ++ replicate l._k l.readers
