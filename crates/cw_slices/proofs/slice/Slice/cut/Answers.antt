use Rattle.std.proofs.Common.{◌≤◌, length, replicate, take, drop, true, sym, ap, ◌∙◌, arith}
use lib.ListN.{length-drop}
use lib.Seq.{length-take-le}
use Rattle.cw_slices.proofs.Marks.{take_same, drop_same}
use Rattle.cw_slices.proofs.slice.Slice.cut.Goals as goal

pub invariant_of-left : goal.invariant_of-left
invariant_of-left c =
    let xs = c.self.inside.cells.items in
    let le : c.args.at ≤ length xs = omega (arith, c.requires.within, ap (λ s. length s.items) c.self.view_is) in
    let long = ap length (c.own.ensures.2 ∙ c.part-first.ensures.1 ∙ ap (λ l. take c.args.at l) c.disown-ptr.ensures.2) ∙ length-take-le c.args.at xs le in (
      c.own.ensures.3 ∙ c.part-first.ensures.2 ∙ ap (λ l. take c.args.at l) (c.disown-ptr.ensures.3 ∙ c.self.invariant.0) ∙ take_same true c.args.at (length xs) le ∙ ap (λ n. replicate n true) (sym long),
      omega (arith, long, le, c.self.invariant.1),
      (
        c.self.invariant.2.0,
        c.self.invariant.2.1,
        λ some. ((c.self.invariant.2.2 some).0, (c.self.invariant.2.2 some).1 ∙ sym (c.own.ensures.0 ∙ c.disown-ptr.ensures.0)),
      ),
      λ some. c.own.ensures.4 ∙ c.part-first.ensures.3,
    )

pub invariant_of-right : goal.invariant_of-right
invariant_of-right c =
    let xs = c.self.inside.cells.items in
    let long = ap length (c.own-2.ensures.2 ∙ c.part-first.ensures.5 ∙ ap (λ l. drop c.args.at l) c.disown-ptr.ensures.2) ∙ length-drop c.args.at xs in (
      c.own-2.ensures.3 ∙ c.part-first.ensures.6 ∙ ap (λ l. drop c.args.at l) (c.disown-ptr.ensures.3 ∙ c.self.invariant.0) ∙ drop_same true c.args.at (length xs) ∙ ap (λ n. replicate n true) (sym long),
      omega (arith, long, c.self.invariant.1),
      (omega arith, c.none.ensures, λ none. absurd (omega (arith, none))),
      λ none. absurd (omega (arith, none)),
    )
