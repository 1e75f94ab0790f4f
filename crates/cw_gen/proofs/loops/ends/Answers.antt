use Rattle.std.proofs.Common.{[], ◌∷◌, ◌+◌, refl}
use Rattle.cw_code.specs.declared.code.Instr.TheVariants as instr
use Rattle.cw_gen.specs.Written.{written_ends}
use Rattle.cw_gen.proofs.LoopCode.{step_next}
use Rattle.cw_gen.proofs.loops.ends.Goals as goal

pub loop-array-preserved : goal.loop-array-preserved
loop-array-preserved c =
    let i = c.loop-array._array in
    step_next written_ends c.loop-array.instrs.items c.put.new.instrs.items _ (instr.EndCut ∷ []) i (i + 1) i c.args.over c.loop-array-test.true refl c.in_ok-put.ensures (λ ns. refl) c.loop-array.invariant
