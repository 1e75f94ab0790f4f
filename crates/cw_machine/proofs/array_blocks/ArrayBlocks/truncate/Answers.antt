use Rattle.std.proofs.Common.{◌≤◌, length, sym, ap, arith, ◌∙◌}
use Rattle.std.specs.Prelude.{take}
use Rattle.cw_machine.specs.Padded.{ArrayList, padded}
use Rattle.cw_machine.proofs.Blocks.{take_all}
use Rattle.cw_machine.proofs.Padding.{padded_length, padded_take}
use Rattle.cw_machine.proofs.array_blocks.ArrayBlocks.truncate.Goals as goal

pub returns-then-len-self : goal.returns-then-len-self
returns-then-len-self c =
    ap (λ l. padded c.self.inside.none l c.args.len) c.truncate.ensures.items
    ∙ padded_take c.self.inside.none c.self.inside.made.items c.self.inside.len c.args.len (omega (arith, c.if-len-self.true))
    ∙ ap (λ (l : ArrayList). take c.args.len l.items) c.self.view_is

pub returns-else-len-self : goal.returns-else-len-self
returns-else-len-self c =
    let le : c.self.inside.len ≤ c.args.len = omega (arith, c.if-len-self.false) in
    let few = c.self.invariant.0 in
    let n = padded_length c.self.inside.none c.self.inside.made.items c.self.inside.len in
    ap (λ l. padded c.self.inside.none l c.self.inside.len) (c.truncate.ensures.items ∙ sym (take_all c.args.len c.self.inside.made.items (omega (arith, few, le))))
    ∙ take_all c.args.len (padded c.self.inside.none c.self.inside.made.items c.self.inside.len) (omega (arith, n, le))
    ∙ ap (λ (l : ArrayList). take c.args.len l.items) c.self.view_is
