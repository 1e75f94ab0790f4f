use Rattle.std.proofs.Common.{sym, ◌∙◌}
use Rattle.cw_slices.proofs.Missing.{counts_of}
use Rattle.cw_slices.proofs.block.ArrayBlock.of.Goals as goal

pub invariant_of-result : goal.invariant_of-result
invariant_of-result c =
    let k = c.keep.result in (
      counts_of c.loosen-ptr.result.span.items c.loosen-ptr.result.len c.loosen-ptr.result.span.halved k.cells k.rights k.base c.loosen-ptr.ensures.run.1 c.loosen-ptr.ensures.small c.keep.ensures.cells c.keep.ensures.rights c.keep.ensures.words.2,
      (
        c.loosen-ptr.ensures.right.0,
        c.loosen-ptr.ensures.right.1,
        λ some. ((c.loosen-ptr.ensures.right.2 some).0, (c.loosen-ptr.ensures.right.2 some).1 ∙ sym c.keep.ensures.words.0),
      ),
      λ some. c.keep.ensures.words.2 ∙ c.loosen-ptr.ensures.frees some,
    )
