use Rattle.std.proofs.Common.{refl, true}
use Rattle.cw_sites.specs.declared.table.SiteTable.{SiteTable}
use Rattle.cw_sites.proofs.TableLaws.{bounded_by, spawn_begins, tight_bounded}
use Rattle.cw_sites.proofs.table.SiteTable.spawn_ready.Goals as goal

pub returns-then-flush_within-clause-told : goal.returns-then-flush_within-clause-told
returns-then-flush_within-clause-told c = λ done base busy os es fs le n small h.
    let mid = c.flush_within.new.self in
    let forked : SiteTable = record { rows = mid.rows; paths = c.begin_within.new.self; noted = mid.noted; here = mid.here } in
    spawn_begins base busy os es fs c.args.self.now mid forked c.begin_row_ready.new.self c.args.count c.args.site true le n small h (c.flush_within.ensures.flushed c.if-flush_within.true) c.begin_within.ensures.laid c.begin_within.ensures.strand_path (λ q. refl) refl c.begin_row_ready.ensures

pub returns-then-flush_within-clause-bounded : goal.returns-then-flush_within-clause-bounded
returns-then-flush_within-clause-bounded c = λ done most h b.
    let mid = c.flush_within.new.self in
    let f = c.flush_within.ensures.bounded c.if-flush_within.true most b in
    let forked : SiteTable = record { rows = mid.rows; paths = c.begin_within.new.self; noted = mid.noted; here = mid.here } in
    let g = c.begin_row_ready.ensures in
    tight_bounded most _ (bounded_by most forked c.begin_row_ready.new.self c.args.site g.paths g.here_is h (record { paths = c.begin_within.ensures.bounded most f.paths; here = f.here }))
