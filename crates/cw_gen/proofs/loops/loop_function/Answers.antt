use Rattle.std.proofs.Common.{false, [], ◌∷◌, ◌++◌, refl, ap, sym, ◌∙◌, append_assoc}
use Rattle.std.proofs.lemmas.List.{append-nil}
use Rattle.cw_loops.specs.Expanded.{leaf, node}
use Rattle.cw_loops.specs.View.{loop_of}
use Rattle.cw_code.specs.declared.code.Instr.TheVariants as instr
use Rattle.cw_gen.specs.Emit.{emitted_block, emitted_branches}
use Rattle.cw_gen.specs.Written.{written_test}
use Rattle.cw_gen.proofs.Emitting.{if_else_emitted}
use Rattle.cw_gen.proofs.LoopCode.{text_emitted}
use Rattle.cw_gen.proofs.loops.loop_function.Goals as goal

pub returns : goal.returns
returns c =
    let l = loop_of c.args.l.now in
    let old = c.args.instrs.now.items in
    let one = emitted_block c.args.first [] (leaf l) in
    let other = emitted_block c.args.first [] (node c.args.index l) in
    let code = written_test l ++ emitted_branches false one other in
    let last = instr.Return ∷ [] in
    let both =
    if_else_emitted old (written_test l) c.test.new.instrs.items c.hole.new.instrs.items c.leaf.new.instrs.items c.hole-2.new.instrs.items c.land.new.instrs.items c.node.new.instrs.items c.land_past.new.instrs.items
    one other c.in_ok-fits.fits c.in_ok-end.end false false c.in_ok-test.ensures c.in_ok-fits.ensures.instrs c.in_ok-fits.ensures.place c.in_ok-leaf.ensures refl
    c.in_ok-end.ensures.instrs c.in_ok-end.ensures.place c.land.ensures c.in_ok-node.ensures c.land_past.ensures in
    c.in_ok-put.ensures
    ∙ ap (λ is. is ++ last) both
    ∙ append_assoc old code last
    ∙ ap (λ is. old ++ (is ++ last)) (sym (append-nil code))
    ∙ ap (λ is. old ++ is) (sym (text_emitted c.args.first c.args.index l))
