use Rattle.std.proofs.Common.{◌≡◌, ◌+◌, ◌≤◌, length, sym, ap, ◌∙◌, arith}
use Rattle.cw_slices.proofs.Missing.{lent_fits, counts_lent}
use Rattle.cw_slices.proofs.block.ArrayBlock.lend.Goals as goal

pub overflow_add-self : goal.overflow_add-self
overflow_add-self c =
    let k = c.self.inside.kept in
    record { fits = lent_fits k.base c.args.count c.self.inside.out k.cells k.rights c.self.invariant.0 (omega (arith, c.self.invariant.0.few, c.requires.within, ap (λ s. length s.cells) c.self.view_is)) }

pub invariant_of-self : goal.invariant_of-self
invariant_of-self c =
    let k = c.self.inside.kept in let new = c.part-ptr.new.self in let xs = c.part-ptr.result.1.items in
    let many : c.args.count ≡ length xs = c.part-ptr.ensures.run.1.1 in
    let fits : c.args.from + length xs ≤ length k.cells = omega (arith, many, c.requires.within, ap (λ s. length s.cells) c.self.view_is) in (
      counts_lent k.cells new.cells k.rights new.rights k.base new.base c.self.inside.out c.self.invariant.0 c.part-ptr.ensures.words.2 c.args.from c.args.count xs c.part-ptr.ensures.cells.1 c.part-ptr.ensures.words.3 many fits c.part-ptr.ensures.cells.0,
      (
        c.self.invariant.1.0,
        c.self.invariant.1.1,
        λ some. ((c.self.invariant.1.2 some).0, (c.self.invariant.1.2 some).1 ∙ sym c.part-ptr.ensures.words.0),
      ),
      λ some. c.part-ptr.ensures.words.2 ∙ c.self.invariant.2 some,
    )
