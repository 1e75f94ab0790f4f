use Rattle.std.proofs.Common.{◌++◌, length, replicate, true, sym, ap, ap₂, ◌∙◌, arith}
use lib.ListN.{length-append}
use Rattle.cw_slices.proofs.Marks.{join_same}
use Rattle.cw_slices.proofs.slice.Slice.join.Goals as goal

pub invariant_of-result : goal.invariant_of-result
invariant_of-result c =
    let items = c.own.ensures.2 ∙ c.meet.ensures.1 ∙ ap₂ (λ xs ys. xs ++ ys) c.disown-ptr.ensures.2 c.disown-next.ensures.2 in
    let long = ap length items ∙ length-append c.left.inside.cells.items c.right.inside.cells.items in (
      c.own.ensures.3 ∙ c.meet.ensures.2 ∙ ap₂ (λ xs ys. xs ++ ys) (c.disown-ptr.ensures.3 ∙ c.left.invariant.0) (c.disown-next.ensures.3 ∙ c.right.invariant.0) ∙ join_same true _ _ ∙ ap (λ n. replicate n true) (sym long),
      omega (arith, long, c.requires.fits, ap (λ s. length s.items) c.left.view_is, ap (λ s. length s.items) c.right.view_is),
      (
        c.left.invariant.2.0,
        c.left.invariant.2.1,
        λ some. ((c.left.invariant.2.2 some).0, (c.left.invariant.2.2 some).1 ∙ sym (c.own.ensures.0 ∙ c.disown-ptr.ensures.0)),
      ),
      λ some. c.own.ensures.4 ∙ c.meet.ensures.3,
    )
