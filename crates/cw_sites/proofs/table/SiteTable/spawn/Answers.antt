use Rattle.std.proofs.Common.{refl}
use Rattle.cw_sites.specs.declared.table.SiteTable.{SiteTable}
use Rattle.cw_sites.proofs.TableLaws.{bounded_by, tight_bounded}
use Rattle.cw_sites.proofs.TableLaws.{spawn_begins}
use Rattle.cw_sites.proofs.table.SiteTable.spawn.Goals as goal

pub returns-clause-told : goal.returns-clause-told
returns-clause-told c = λ base busy os es fs le n small h.
    let mid = c.flush.new.self in
    let forked : SiteTable = record { rows = mid.rows; paths = c.spawn.new.self; noted = mid.noted; here = mid.here } in
    spawn_begins base busy os es fs c.args.self.now mid forked c.begin_row.new.self c.args.count c.args.site c.args.first le n small h c.in_ok-flush.ensures.flushed c.in_ok-spawn.ensures.laid c.in_ok-spawn.ensures.strand_path (λ q. refl) refl c.in_ok-begin_row.ensures.begun

pub returns-clause-bounded : goal.returns-clause-bounded
returns-clause-bounded c = λ most h b.
    let f = c.in_ok-flush.ensures.bounded most b in
    let g = c.in_ok-begin_row.ensures.begun in
    let mid = c.flush.new.self in
    let forked : SiteTable = record { rows = mid.rows; paths = c.spawn.new.self; noted = mid.noted; here = mid.here } in
    tight_bounded most _ (bounded_by most forked c.begin_row.new.self c.args.site g.paths g.here_is h (record { paths = c.in_ok-spawn.ensures.bounded most f.paths; here = f.here }))
