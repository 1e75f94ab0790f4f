use Rattle.std.proofs.Common.{rules, arith, ◌≡◌, slice_set, ◌≤◌, ◌+◌, length}
use Rattle.cw_machine.proofs.JobSlots.{is_in, copy_more, same_list}
use Rattle.cw_machine.proofs.job.copied.Goals as goal

pub get-requires : goal.get-requires
get-requires c =
    let within : c.args.from + c.args.len ≤ length c.args.block.now.cells = c.requires.within (omega (arith, c.loop-i-test.true)) in
    record { there = is_in c.args.block.now.cells (c.args.from + c.loop-i.i) c.requires.all_in (omega (arith, within, c.loop-i-test.true)) }

pub loop-i-preserved : goal.loop-i-preserved
loop-i-preserved c =
    let l = c.loop-i.invariant.len in
    let set : c.set.new.self.items ≡ slice_set c.loop-i.slice.items c.loop-i.i c.get.result = search rules in
    record {
      own = search rules;
      len = search rules;
      are = λ xs n have. copy_more c.args.block.now.cells c.args.from c.loop-i.i c.loop-i.slice.items c.set.new.self.items xs c.get.result set (omega (arith, l, c.loop-i-test.true)) (omega (arith, n, c.loop-i-test.true)) have c.get.ensures (c.loop-i.invariant.are xs n have);
    }

pub returns : goal.returns
returns c =
    let l = c.loop-i.invariant.len in
    record {
      own = c.loop-i.invariant.own;
      are = λ xs n have. same_list c.loop-i.slice.items xs (omega (arith, l, n)) (λ k lt. c.loop-i.invariant.are xs n have k (omega (arith, lt, l, c.loop-i-test.false)));
    }
