use Rattle.std.proofs.Common.{◌≡◌, ◌∙◌, ◌+◌, sym, subst, replicate, None}
use Rattle.atomic_table.specs.Table.{opening}
use Rattle.cw_yard.specs.declared.view.CellView.TheVariants.{Rest}
use Rattle.cw_yard.specs.Cells.{Kept}
use Rattle.cw_yard.proofs.Keeps.{starts}
use Rattle.cw_yard.proofs.cells.new.Goals as goal

pub vacant-requires : goal.vacant-requires
vacant-requires c =
    let words : c.as_slice.result.now ≡ replicate (c.args.cells + 1) 0 = c.as_slice.ensures.value ∙ c.in_ok-words.ensures.items_if_clones_equal (λ y e. e) in
    subst (λ ws. Kept (opening ws (replicate c.args.cells None) (Rest 0))) (sym words) (starts c.args.cells)
