use Rattle.std.proofs.Common.{sym, subst}
use Rattle.cw_sites.specs.declared.table.SiteTable.{SiteTable}
use Rattle.cw_sites.specs.Tables.{IsBoundedTable}
use Rattle.cw_sites.proofs.table.SiteTable.flush.Goals as goal

pub returns-then-flush_within-clause-bounded : goal.returns-then-flush_within-clause-bounded
returns-then-flush_within-clause-bounded c = c.flush_within.ensures.bounded c.if-flush_within.true

pub returns-clause-bounded : goal.returns-clause-bounded
returns-clause-bounded c = λ most b.
    let P : SiteTable → Type 0 = IsBoundedTable most in
    c.in_ok-flush_apart.ensures.bounded most (subst P (sym (c.flush_within.ensures.same c.if-flush_within.false)) b)
