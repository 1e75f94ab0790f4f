use Rattle.std.proofs.Common.{[], ◌∷◌, ◌+◌, map, refl}
use Rattle.cw_loops.specs.Expanded.{left_slot, numbers}
use Rattle.cw_gen.proofs.LoopCode.{step_next}
use Rattle.cw_gen.proofs.lists.lefts.Goals as goal

pub loop-array-preserved : goal.loop-array-preserved
loop-array-preserved c =
    let over = c.args.l.now.over in
    let made = map (left_slot over) in
    step_next made c.loop-array.slots.items c.push.new.self.items (made (numbers 0 over)) (left_slot over c.loop-array.array ∷ []) c.loop-array.array (c.loop-array.array + 1) c.loop-array.array over c.loop-array-test.true refl c.in_ok-push.ensures.items (λ ns. refl) c.loop-array.invariant
