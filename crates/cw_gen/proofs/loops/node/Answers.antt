use Rattle.std.proofs.Common.{◌≡◌, ◌+◌, ◌++◌, ap, sym, ◌∙◌, arith}
use Rattle.cw_model.specs.declared.syntax.CallKind.TheVariants.{Plain, Spawned}
use Rattle.cw_loops.specs.Expanded.{low, high, turn_slot, numbers}
use Rattle.cw_loops.specs.View.{loop_of}
use Rattle.cw_gen.specs.Emit.{half_of}
use Rattle.cw_gen.specs.Written.{written_cuts, written_ends, written_half, written_middle}
use Rattle.cw_gen.proofs.LoopCode.{five_joined, node_emitted}
use Rattle.cw_gen.proofs.loops.node.Goals as goal

pub returns : goal.returns
returns c =
    let l = loop_of c.args.l.now in
    let first = c.args.first in
    let index = c.args.index in
    let k = l.captured in
    let m = turn_slot k in
    let old = c.args.instrs.now.items in
    let arrays = numbers 0 l.over in
    let middle : k + 2 ≡ m = omega arith in
    let cuts = written_cuts l arrays in
    let one = written_half Spawned (half_of first Spawned index) low m k in
    let other = written_half Plain (half_of first Plain index) m high k in
    let cut = c.in_ok-cuts.ensures ∙ ap (λ is. is ++ cuts) c.in_ok-split.ensures in
    let left =
    c.in_ok-half.ensures
    ∙ ap (λ f. c.cuts.new.instrs.items ++ written_half Spawned f low (k + 2) k) c.half_of-left.ensures
    ∙ ap (λ u. c.cuts.new.instrs.items ++ written_half Spawned (half_of first Spawned index) low u k) middle
    ∙ ap (λ is. is ++ one) cut in
    let right =
    c.in_ok-half-2.ensures
    ∙ ap (λ f. c.half.new.instrs.items ++ written_half Plain f (k + 2) high k) c.half_of-right.ensures
    ∙ ap (λ u. c.half.new.instrs.items ++ written_half Plain (half_of first Plain index) u high k) middle
    ∙ ap (λ is. is ++ other) left in
    five_joined old (written_middle l) cuts one other (written_ends arrays) _ (c.in_ok-ends.ensures ∙ ap (λ is. is ++ written_ends arrays) right)
    ∙ ap (λ is. old ++ is) (sym (node_emitted first index l))
