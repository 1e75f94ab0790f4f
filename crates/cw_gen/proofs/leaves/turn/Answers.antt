use Rattle.std.proofs.Common.{[], ◌++◌, ◌-◌, length, refl, ap, ◌∙◌, append_assoc, rules}
use Rattle.std.specs.Prelude.{slice_set}
use Rattle.cw_loops.specs.View.{block_of, loop_of}
use Rattle.cw_code.specs.declared.code.BlockKind.TheVariants as kind
use Rattle.cw_code.specs.declared.code.Instr.TheVariants as instr
use Rattle.cw_gen.specs.Emit.{distance, emitted_block, emitted_inside}
use Rattle.cw_gen.specs.Written.{turn_text, written_step}
use Rattle.cw_gen.proofs.Emitting.{turn_filled}
use Rattle.cw_gen.proofs.leaves.turn.Goals as goal

pub returns : goal.returns
returns c =
    let l = loop_of c.args.l.now in
    let old = c.args.instrs.now.items in
    let hole = c.hole.new.instrs.items in
    let mid = c.step.new.instrs.items in
    let all = c.put.new.instrs.items in
    let body = emitted_inside kind.Scope (emitted_block c.args.first [] l.body) in
    let turn = emitted_block c.args.first [] (turn_text l) in
    let inside =
    c.in_ok-inside.ensures
    ∙ ap (λ ms. hole ++ emitted_inside kind.Scope (emitted_block c.args.first ms (block_of c.deref.result.now))) c.requires.places
    ∙ ap (λ items. hole ++ emitted_inside kind.Scope (emitted_block c.args.first [] (block_of items))) c.deref.ensures.value
    ∙ ap (λ is. is ++ body) c.in_ok-test.ensures.instrs in
    let stepped = c.in_ok-step.ensures ∙ ap (λ is. is ++ written_step l) inside ∙ append_assoc _ body (written_step l) in
    c.land.ensures
    ∙ ap (λ p. slice_set all p (instr.SkipIfZero (distance (length all - p - 1)))) c.in_ok-test.ensures.place
    ∙ turn_filled old turn mid all c.args.start (instr.Skip 0) c.distance-n.result (distance (length all - length old - 1)) c.requires.start stepped (search (rules, c.distance-n.ensures, c.len.ensures)) c.in_ok-put.ensures refl
