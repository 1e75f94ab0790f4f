use Rattle.std.proofs.Common.{◌≡◌, refl, ◌∙◌, [], ◌∷◌, None, Some, ap, sym, subst, arith}
use Rattle.cw_yard.specs.declared.view.Stage.TheVariants.{Taken}
use Rattle.cw_yard.specs.declared.view.CellView.TheVariants.{Owner}
use Rattle.atomic_table.specs.Table.{rest}
use Rattle.cw_yard.specs.Steps.{Reads}
use Rattle.cw_yard.proofs.Keeps.{reads, frees_taken}
use Rattle.cw_yard.proofs.cells.collect.Goals as goal

pub load-requires : goal.load-requires
load-requires c = (c.requires.table.0, omega (arith, c.requires.table), rw c.requires.out.2 (reads _ _ _ _ _ c.requires.table.1))

pub exchange-left-requires : goal.exchange-left-requires
exchange-left-requires c =
    let t = subst (λ x. Reads c.args.cell x.0 c.load.result c.load.new.seat.me) c.requires.out.2 c.load.ensures.2 in
    let e = t.0 c.if-load-ne2.false in
    (c.load.ensures.0 ∙ c.requires.table.0, (Some e.0, subst (λ l. l ≡ (c.args.cell, Some e.0) ∷ rest l) (sym (ap (λ x. x.1) e.1)) refl))

pub store-requires : goal.store-requires
store-requires c =
    let t = subst (λ x. Reads c.args.cell x.0 c.load.result c.load.new.seat.me) c.requires.out.2 c.load.ensures.2 in
    let e = t.0 c.if-load-ne2.false in
    let f : c.exchange-left.new.seat.me ≡ (Owner c.args.cell (Taken c.requires.out.0 c.requires.out.1), (c.args.cell, None) ∷ []) = c.exchange-left.ensures.3 ∙ ap (λ x. (x.0, (c.args.cell, None) ∷ rest x.1)) e.1 in
    (c.exchange-left.ensures.0 ∙ (c.load.ensures.0 ∙ c.requires.table.0), omega (arith, c.requires.table), rw f (frees_taken _ _ _ _ _ c.requires.table.1))
