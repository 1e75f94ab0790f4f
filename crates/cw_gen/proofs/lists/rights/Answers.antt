use Rattle.std.proofs.Common.{[], ◌∷◌, ◌++◌, ◌+◌, ◌∙◌, ap, map, refl, arith}
use Rattle.cw_loops.specs.Expanded.{right_slot, numbers}
use Rattle.cw_gen.proofs.LoopCode.{step_next}
use Rattle.cw_gen.proofs.lists.rights.Goals as goal

pub loop-array-preserved : goal.loop-array-preserved
loop-array-preserved c =
    let over = c.args.l.now.over in
    let made = map (right_slot over) in
    step_next made c.loop-array.slots.items c.push.new.self.items (made (numbers 0 over)) (right_slot over c.loop-array.array ∷ []) c.loop-array.array (c.loop-array.array + 1) c.loop-array.array over c.loop-array-test.true refl (c.in_ok-push.ensures.items ∙ ap (λ s. c.loop-array.slots.items ++ s ∷ []) (omega arith)) (λ ns. refl) c.loop-array.invariant
