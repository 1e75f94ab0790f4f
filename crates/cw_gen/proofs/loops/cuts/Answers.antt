use Rattle.std.proofs.Common.{[], ◌∷◌, ◌+◌, ◌++◌, ◌∙◌, ap, refl}
use Rattle.cw_loops.specs.View.{loop_of}
use Rattle.cw_gen.specs.Written.{written_cuts}
use Rattle.cw_gen.proofs.LoopCode.{step_next, cut_row}
use Rattle.cw_gen.proofs.loops.cuts.Goals as goal

pub loop-array-preserved : goal.loop-array-preserved
loop-array-preserved c =
    let i = c.loop-array.array in
    let l = loop_of c.args.l.now in
    step_next (written_cuts l) c.loop-array.instrs.items c.row.new.instrs.items _ (written_cuts l (i ∷ [])) i (i + 1) i l.over c.loop-array-test.true refl (c.in_ok-row.ensures ∙ ap (λ row. c.loop-array.instrs.items ++ row) (cut_row l i)) (λ ns. refl) c.loop-array.invariant
