use Rattle.std.proofs.Common.{arith}
use Rattle.cw_machine.proofs.JobSlots.{same_list}
use Rattle.cw_machine.proofs.job.written.Goals as goal

pub returns-clause-items : goal.returns-clause-items
returns-clause-items c =
    let l = c.loop-i.invariant.len in
    let n = c.requires.as_long in
    same_list c.loop-i.written.items c.args.array.now.items (omega (arith, l, n)) (λ k lt. c.loop-i.invariant.are k (omega (arith, lt, l, n, c.loop-i-test.false, c.len-i-end.ensures.value)))
