use Rattle.std.proofs.Common.{◌+◌, ◌≤◌, length, sym, ap, ◌∙◌, arith}
use Rattle.cw_slices.proofs.Missing.{counts_shared}
use Rattle.cw_slices.proofs.block.ArrayBlock.share.Goals as goal

pub invariant_of-self : goal.invariant_of-self
invariant_of-self c =
    let k = c.self.inside.kept in let new = c.halve-ptr.new.self in let shared = c.halve-ptr.ensures.rights in
    let fits : c.args.from + c.args.count ≤ length k.cells = omega (arith, c.requires.within, ap (λ s. length s.cells) c.self.view_is) in (
      counts_shared k.cells new.cells k.rights new.rights k.base new.base c.self.inside.out c.self.invariant.0 c.halve-ptr.ensures.words.2 c.args.from c.args.count shared.0 c.with_shared-self-inside.result c.halve-ptr.ensures.words.3 shared.3 fits shared.2 c.with_shared-self-inside.ensures,
      (
        c.self.invariant.1.0,
        c.self.invariant.1.1,
        λ some. ((c.self.invariant.1.2 some).0, (c.self.invariant.1.2 some).1 ∙ sym c.halve-ptr.ensures.words.0),
      ),
      λ some. c.halve-ptr.ensures.words.2 ∙ c.self.invariant.2 some,
    )
