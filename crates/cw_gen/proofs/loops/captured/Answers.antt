use Rattle.std.proofs.Common.{[], ◌∷◌, ◌+◌, refl, arith}
use Rattle.cw_code.specs.declared.code.Instr.TheVariants as instr
use Rattle.cw_gen.specs.Emit.{emitted_loads}
use Rattle.cw_gen.proofs.LoopCode.{step_next}
use Rattle.cw_gen.proofs.loops.captured.Goals as goal

pub loop-number-preserved : goal.loop-number-preserved
loop-number-preserved c =
    let i = c.loop-number.number in
    let n = c.args.l.now.captured in
    step_next emitted_loads c.loop-number.instrs.items c.put.new.instrs.items _ (instr.Load (i + 2) ∷ []) (i + 2) (i + 1 + 2) i n c.loop-number-test.true (omega arith) c.in_ok-put.ensures (λ ns. refl) c.loop-number.invariant
