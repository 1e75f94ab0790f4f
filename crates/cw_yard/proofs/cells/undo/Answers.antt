use Rattle.std.proofs.Common.{◌≡◌, ◌∙◌, [], ap, arith}
use Rattle.cw_yard.specs.declared.view.Stage.TheVariants.{Back}
use Rattle.cw_yard.specs.declared.view.CellView.TheVariants.{Owner}
use Rattle.cw_yard.specs.Cells.{back}
use Rattle.cw_yard.proofs.Keeps.{backs, frees_back}
use Rattle.cw_yard.proofs.cells.undo.Goals as goal

pub join_seat-requires : goal.join_seat-requires
join_seat-requires c = (c.requires.table.0.0, c.requires.table.1, ap (λ m. m.1) c.requires.duty.2, omega (arith, c.requires.table.0), rw (c.requires.out.2, c.requires.duty.2) (backs _ _ _ _ _ _ _))

pub load-requires : goal.load-requires
load-requires c =
    let out = c.requires.out in
    let duty = c.requires.duty in
    let e : c.join_seat.new.seat.me ≡ (Owner c.args.cell (Back out.0 out.1 duty.0 duty.1), []) = c.join_seat.ensures.2 ∙ (λ i. (back (out.2 i).0 (duty.2 i).0, (out.2 i).1)) in
    (c.join_seat.ensures.0 ∙ c.requires.table.0.0, omega (arith, c.requires.table.0), rw e (frees_back _ _ _ _ _ _ _ c.requires.table.0.1))
