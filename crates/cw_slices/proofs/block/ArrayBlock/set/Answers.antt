use Rattle.std.proofs.Common.{slice_get, w64, to_z, of_z, sym, ap, ◌∙◌}
use Rattle.cw_slices.specs.Blocks.{IsIn}
use Rattle.cw_slices.proofs.Missing.{counts_set}
use Rattle.cw_slices.proofs.block.ArrayBlock.set.Goals as goal

pub invariant_of-self : goal.invariant_of-self
invariant_of-self c =
    let k = c.self.inside.kept in let new = c.put.new.self in
    let there : IsIn k.cells c.args.i = (c.requires.there.0, ap (λ l. slice_get l c.args.i) (ap (λ s. s.cells) c.self.view_is) ∙ c.requires.there.1) in (
      counts_set k.cells new.cells k.rights new.rights k.base new.base c.self.inside.out c.self.invariant.0 c.put.ensures.words.2 c.args.i (to_z w64 (of_z w64 c.args.x)) c.put.ensures.cells c.put.ensures.words.3 there,
      (
        c.self.invariant.1.0,
        c.self.invariant.1.1,
        λ some. ((c.self.invariant.1.2 some).0, (c.self.invariant.1.2 some).1 ∙ sym c.put.ensures.words.0),
      ),
      λ some. c.put.ensures.words.2 ∙ c.self.invariant.2 some,
    )
