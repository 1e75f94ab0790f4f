use Rattle.std.proofs.Common.{refl}
use Rattle.cw_sites.specs.declared.table.SiteTable.{SiteTable}
use Rattle.cw_sites.proofs.TableLaws.{table_joined}
use Rattle.cw_sites.proofs.table.SiteTable.join_recorded.Goals as goal

pub returns-clause-told : goal.returns-clause-told
returns-clause-told c = λ base busy os es n small h.
    let old = c.args.self.now in
    let new : SiteTable = record { rows = old.rows; paths = c.join.new.self; noted = old.noted; here = old.here } in
    table_joined base busy os es old new n small h c.join.ensures.laid c.join.ensures.strand_path (λ q. refl) refl refl

pub returns-clause-bounded : goal.returns-clause-bounded
returns-clause-bounded c = λ most b. record { paths = c.join.ensures.bounded most b.paths; here = b.here }
