use Rattle.std.proofs.Common.{◌≡◌, ◌+◌, ◌≤◌, length, slice_get, sym, ap, ◌∙◌, arith}
use Rattle.cw_slices.specs.Blocks.{AreOut}
use Rattle.cw_slices.proofs.Missing.{missing_back, counts_back}
use Rattle.cw_slices.proofs.block.ArrayBlock.give_back.Goals as goal

pub overflow_sub-self : goal.overflow_sub-self
overflow_sub-self c =
    let cells = c.self.inside.kept.cells in let xs = c.loosen-len.result.span.items in
    let is = ap (λ s. s.cells) c.self.view_is in
    let many : length c.args.slice.items ≡ length xs = ap length c.loosen-len.ensures.items in
    let fits : c.args.from + length xs ≤ length cells = omega (arith, many, c.requires.within, ap length is) in
    let out : AreOut cells c.args.from (length xs) = λ k lt. ap (λ l. slice_get l (c.args.from + k)) is ∙ c.requires.out k (omega (arith, lt, many)) in
    let more = missing_back cells c.args.from xs out fits in
    omega (arith, more, c.self.invariant.0.is, c.loosen-len.ensures.run.1)

pub invariant_of-self : goal.invariant_of-self
invariant_of-self c =
    let k = c.self.inside.kept in let new = c.meet.new.self in let xs = c.loosen-len.result.span.items in
    let is = ap (λ s. s.cells) c.self.view_is in
    let many : length c.args.slice.items ≡ length xs = ap length c.loosen-len.ensures.items in
    let fits : c.args.from + length xs ≤ length k.cells = omega (arith, many, c.requires.within, ap length is) in
    let out : AreOut k.cells c.args.from (length xs) = λ j lt. ap (λ l. slice_get l (c.args.from + j)) is ∙ c.requires.out j (omega (arith, lt, many)) in (
      counts_back k.cells new.cells k.rights new.rights k.base new.base c.self.inside.out c.self.invariant.0 c.meet.ensures.words.2 c.args.from c.loosen-len.result.len xs c.meet.ensures.cells c.meet.ensures.words.3 c.loosen-len.ensures.run.1 fits out,
      (
        c.self.invariant.1.0,
        c.self.invariant.1.1,
        λ some. ((c.self.invariant.1.2 some).0, (c.self.invariant.1.2 some).1 ∙ sym c.meet.ensures.words.0),
      ),
      λ some. c.meet.ensures.words.2 ∙ c.self.invariant.2 some,
    )
