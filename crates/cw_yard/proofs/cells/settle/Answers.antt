use Rattle.std.proofs.Common.{◌≡◌, refl, ◌∙◌, [], ◌∷◌, true, None, Some, ap, sym, subst, arith}
use Rattle.cw_yard.specs.declared.view.CellView.TheVariants.{Duty}
use Rattle.atomic_table.specs.Table.{rest}
use Rattle.cw_yard.proofs.Keeps.{puts, marks}
use Rattle.cw_yard.proofs.cells.settle.Goals as goal

pub load-requires : goal.load-requires
load-requires c = (c.requires.table.0, omega (arith, c.requires.table), rw c.requires.means.2 (puts _ _ _ _ _ c.requires.table.1))

pub exchange-none-requires : goal.exchange-none-requires
exchange-none-requires c =
    let m = c.requires.means in
    let e = c.load.ensures.2 m.0 m.1 (ap (λ x. x.0) m.2) in
    (c.load.ensures.0 ∙ c.requires.table.0, (None, subst (λ l. l ≡ (c.args.cell, None) ∷ rest l) (sym (ap (λ x. x.1) e)) refl))

pub store-requires : goal.store-requires
store-requires c =
    let m = c.requires.means in
    let e = c.load.ensures.2 m.0 m.1 (ap (λ x. x.0) m.2) in
    let f : c.exchange-none.new.seat.me ≡ (Duty c.args.cell true m.0 m.1, (c.args.cell, Some c.args.left) ∷ []) = c.exchange-none.ensures.3 ∙ ap (λ x. (x.0, (c.args.cell, Some c.args.left) ∷ rest x.1)) e in
    (c.exchange-none.ensures.0 ∙ (c.load.ensures.0 ∙ c.requires.table.0), omega (arith, c.requires.table), rw f (marks _ _ _ _ _ _ c.requires.table.1 m.3))
