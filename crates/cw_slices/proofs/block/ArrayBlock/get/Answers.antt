use Rattle.std.proofs.Common.{slice_get, ap, ◌∙◌}
use Rattle.cw_slices.specs.Blocks.{IsIn}
use Rattle.cw_slices.proofs.Missing.{reads}
use Rattle.cw_slices.proofs.block.ArrayBlock.get.Goals as goal

pub get-requires : goal.get-requires
get-requires c =
    let there : IsIn c.self.inside.kept.cells c.args.i = (c.requires.there.0, ap (λ l. slice_get l c.args.i) (ap (λ s. s.cells) c.self.view_is) ∙ c.requires.there.1) in
    reads c.self.inside.kept.cells c.args.i _ _ there c.row.ensures.len c.row.ensures.marks
