use Rattle.std.proofs.Common.{arith, ◌∙◌, sym, subst}
use Rattle.cw_machine.specs.Arrays.{block}
use Rattle.cw_machine.specs.JobRuns.{IsAllHere}
use Rattle.cw_machine.proofs.JobSlots.{all_in_is, gives_up}
use Rattle.cw_machine.proofs.machine.Machine.give_up.Goals as goal

pub take-requires-clause-index : goal.take-requires-clause-index
take-requires-clause-index c =
    let k = c.loop-k.invariant.blocks in
    let lt = c.requires.can.there in
    omega (arith, k, lt, c.loop-k-test.true, c.len-k-end.ensures)

pub take-requires-clause-there : goal.take-requires-clause-there
take-requires-clause-there c =
    let inv = c.loop-k.invariant in
    all_in_is (block c.loop-k.self.blocks.items c.loop-k.k)
    (subst IsAllHere (sym (inv.still c.loop-k.k (omega arith))) (c.requires.can.all_here c.loop-k.k (omega (arith, c.loop-k-test.true, c.len-k-end.ensures))))

pub returns : goal.returns
returns c = λ given many kept.
    let inv = c.loop-k.invariant in
    let n = inv.count in
    let past = c.loop-k-test.false in
    let end = c.len-k-end.ensures in
    gives_up given c.loop-k.rest.slices.items c.args.self.now (n ∙ sym many) kept (λ a lt. inv.back a (omega (arith, lt, many, past, end)))
