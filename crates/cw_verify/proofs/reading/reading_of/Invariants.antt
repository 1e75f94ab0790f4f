use Rattle.std.specs.Prelude.{◌≡◌, [], drop}
use Rattle.cw_runnable.specs.Reading.{reading_in}
use Rattle.cw_verify.proofs.reading.reading_of.Given as goal

abbrev pub invariant-loop-k : goal.invariant-loop-k
invariant-loop-k l = reading_in l.all.items (drop l.k l.funcs) ≡ reading_in [] l.funcs
