use Rattle.std.proofs.Common.{arith, ◌<◌, ◌∙◌, sym, subst, length}
use Rattle.cw_machine.specs.JobRuns.{MayMove, IsMoved, LeavesOthers}
use Rattle.cw_machine.proofs.Home.{get_here}
use Rattle.cw_machine.proofs.JobSlots.{may_move, move_more}
use Rattle.cw_machine.proofs.machine.Machine.move_all.Goals as goal

pub move_out-slice-requires : goal.move_out-slice-requires
move_out-slice-requires c =
    let to = c.loop-a.invariant in
    let has = c.requires.copies in
    let lt : c.loop-a.a < length c.args.slices.now.items = omega (arith, c.loop-a-test.true, c.len-count.ensures) in
    let p = to.places in
    let k = has.as_many in
    subst (λ n. MayMove c.loop-a.self n c.loop-a.a c.replace-copy.result) (sym (c.len-count.ensures ∙ c.args.slices.now.ok.0))
    (may_move c.args.self.now c.args.slices.now.items c.args.replaced.now.items c.loop-a.a c.loop-a.self c.loop-a.slices.items c.loop-a.replaced.items c.requires.see has lt to c.replace-copy.result
    (get_here c.loop-a.replaced.items c.loop-a.a c.index_mut.result.now c.replace-copy.result c.replace-copy.ensures.value c.index_mut.ensures.value (omega (arith, lt, p, k))))

pub loop-a-preserved : goal.loop-a-preserved
loop-a-preserved c =
    let to = c.loop-a.invariant in
    let has = c.requires.copies in
    let lt : c.loop-a.a < length c.args.slices.now.items = omega (arith, c.loop-a-test.true, c.len-count.ensures) in
    let p = to.places in
    let k = has.as_many in
    move_more c.args.self.now c.args.slices.now.items c.args.replaced.now.items c.loop-a.a c.loop-a.self c.loop-a.slices.items c.loop-a.replaced.items c.requires.see has lt to c.replace-copy.result
    (get_here c.loop-a.replaced.items c.loop-a.a c.index_mut.result.now c.replace-copy.result c.replace-copy.ensures.value c.index_mut.ensures.value (omega (arith, lt, p, k)))
    c.move_out-slice.result.0 c.move_out-slice.result.1 c.move_out-slice.new.self c.replace-copy.new.dest
    (subst (λ n. IsMoved c.loop-a.self n c.loop-a.a c.replace-copy.result c.move_out-slice.result.0 c.move_out-slice.result.1) (c.len-count.ensures ∙ c.args.slices.now.ok.0) c.move_out-slice.ensures.moved)
    (subst (λ n. LeavesOthers c.loop-a.self n c.loop-a.a c.move_out-slice.new.self) (c.len-count.ensures ∙ c.args.slices.now.ok.0) c.move_out-slice.ensures.others)
