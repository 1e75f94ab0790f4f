use Rattle.std.proofs.Common.{refl, ◌∙◌, ◌++◌}
use Rattle.cw_sites.specs.declared.table.SiteTable.{SiteTable}
use Rattle.cw_sites.proofs.TableLaws.{table_flushed, table_joined}
use Rattle.cw_measure.specs.lemmas.OpenParts.{has_spawned_since}
use Rattle.cw_sites.proofs.table.SiteTable.join.Goals as goal

pub returns-clause-told : goal.returns-clause-told
returns-clause-told c = λ base busy os es fs le n small h.
    let mid = c.flush.new.self in
    let new : SiteTable = record { rows = mid.rows; paths = c.join.new.self; noted = mid.noted; here = mid.here } in
    let m = table_flushed base busy os es fs c.args.self.now mid c.args.count le small h c.in_ok-flush.ensures.flushed in
    table_joined base busy os (es ++ fs) mid new (has_spawned_since es fs _ le.instructions ∙ n) small m c.join.ensures.laid c.join.ensures.strand_path (λ q. refl) refl refl

pub returns-clause-bounded : goal.returns-clause-bounded
returns-clause-bounded c = λ most h b.
    let f = c.in_ok-flush.ensures.bounded most b in
    record { paths = c.join.ensures.bounded most f.paths; here = f.here }
