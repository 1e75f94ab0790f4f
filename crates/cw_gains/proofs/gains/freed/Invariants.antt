use Rattle.std.proofs.Common.{take}
use Rattle.cw_gains.specs.Free.{AreFreeOf}
use Rattle.cw_gains.proofs.gains.freed.Given as goal

-- the functions so far
abbrev pub invariant-loop-counted : goal.invariant-loop-counted
invariant-loop-counted l =
    AreFreeOf l.fn.code.value l.args l.n l.burden (take l.counted-index l.all) l.gains
