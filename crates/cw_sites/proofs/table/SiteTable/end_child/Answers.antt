use Rattle.std.proofs.Common.{refl}
use Rattle.cw_sites.specs.declared.table.SiteTable.{SiteTable}
use Rattle.cw_sites.proofs.TableLaws.{bounded_by, tight_bounded}
use Rattle.cw_sites.proofs.TableLaws.{spawn_ends}
use Rattle.cw_sites.proofs.table.SiteTable.end_child.Goals as goal

pub returns-clause-told : goal.returns-clause-told
returns-clause-told c = λ base busy os before es fs site le n at small h.
    let closing = c.end_row.new.self in
    let new : SiteTable = record { rows = closing.rows; paths = c.end.new.self; noted = closing.noted; here = closing.here } in
    spawn_ends base busy os before es fs c.args.self.now c.flush.new.self closing new c.args.count site c.args.outer le n at small h c.in_ok-flush.ensures.flushed c.in_ok-end_row.ensures.left c.in_ok-end.ensures.laid c.in_ok-end.ensures.strand_path (λ q. refl) refl refl

pub returns-clause-bounded : goal.returns-clause-bounded
returns-clause-bounded c = λ most h b.
    let f = c.in_ok-flush.ensures.bounded most b in
    let g = c.in_ok-end_row.ensures.left in
    let k = bounded_by most c.flush.new.self c.end_row.new.self c.args.outer g.paths g.here_is h f in
    tight_bounded most _ (record { paths = c.in_ok-end.ensures.bounded most k.paths; here = k.here })
