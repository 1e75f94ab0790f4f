use Rattle.std.proofs.Common.{arith, ◌+◌, ◌≡◌, length, sym, ap, subst}
use Rattle.cw_machine.specs.Arrays.{block}
use Rattle.cw_machine.specs.JobRuns.{IsAllHere}
use Rattle.cw_machine.proofs.JobSlots.{all_in_is}
use Rattle.cw_machine.proofs.machine.Machine.move_out.Goals as goal

pub take-own-requires-clause-index : goal.take-own-requires-clause-index
take-own-requires-clause-index c = let lt = c.requires.blocks in omega (arith, lt, c.requires.slot)

pub take-own-requires-clause-there : goal.take-own-requires-clause-there
take-own-requires-clause-there c = all_in_is (block c.args.self.now.blocks.items c.args.a) c.requires.own

pub take-array-requires-clause-index : goal.take-array-requires-clause-index
take-array-requires-clause-index c =
    let lt = c.requires.blocks in
    let n = c.take-own.ensures.as_many in
    omega (arith, lt, c.requires.slot, n)

pub take-array-requires-clause-there : goal.take-array-requires-clause-there
take-array-requires-clause-there c =
    let other = c.take-own.ensures.others (c.args.count + c.args.a) (λ e. omega (arith, e, c.requires.slot)) in
    all_in_is (block c.take-own.new.self.items (c.args.count + c.args.a)) (subst IsAllHere (sym other) c.requires.made)
