use Rattle.std.proofs.Common.{ap, arith, sym, subst}
use Rattle.cw_machine.specs.Arrays.{block, IsBare}
use Rattle.cw_machine.specs.Padded.{ArrayList}
use Rattle.cw_machine.proofs.Padding.{made_is, padded_bare}
use Rattle.cw_machine.proofs.array_blocks.ArrayBlocks.at.Goals as goal

pub returns-then-index-len : goal.returns-then-index-len
returns-then-index-len c =
    sym (made_is c.self.inside.none c.self.inside.made.items c.self.inside.len c.args.index c.args.self.now.items c.index.result.now
    (ap (λ (l : ArrayList). l.items) c.self.view_is) c.self.invariant.0 (omega (arith, c.if-index-len.true, c.len.ensures, c.self.inside.made.ok.0)) c.index.ensures)

pub returns-else-index-len : goal.returns-else-index-len
returns-else-index-len c =
    subst (λ l. IsBare (block l c.args.index)) (ap (λ (l : ArrayList). l.items) c.self.view_is)
    (padded_bare c.self.inside.none c.self.inside.made.items c.self.inside.len c.args.index c.self.invariant.1
    (omega (arith, c.if-index-len.false, c.len.ensures, c.self.inside.made.ok.0)))
