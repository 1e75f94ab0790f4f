use Rattle.std.proofs.Common.{ap, arith}
use Rattle.std.specs.Prelude.{length}
use Rattle.cw_machine.specs.Padded.{ArrayList}
use Rattle.cw_machine.proofs.Padding.{padded_length, longer}
use Rattle.cw_machine.proofs.array_blocks.ArrayBlocks.lengthen.Goals as goal

pub invariant_of-self : goal.invariant_of-self
invariant_of-self c =
    let n = padded_length c.self.inside.none c.self.inside.made.items c.self.inside.len in
    let same = ap (λ (l : ArrayList). length l.items) c.self.view_is in
    let le = c.self.invariant.0 in
    let h = c.requires in
    (omega (arith, n, same, le, h), c.self.invariant.1)

pub returns : goal.returns
returns c =
    longer c.self.inside.none c.self.inside.made.items c.self.inside.len c.args.len c.args.self.now.items (ap (λ (l : ArrayList). l.items) c.self.view_is)
    c.self.invariant.0 c.requires c.self.invariant.1
