use Rattle.cw_sites.proofs.TableLaws.{call_begins, moved_within}
use Rattle.cw_sites.proofs.table.SiteTable.enter_ready.Goals as goal

pub returns-then-flush_there-clause-told : goal.returns-then-flush_there-clause-told
returns-then-flush_there-clause-told c = λ done base busy os es fs le small h. call_begins base busy os es fs c.args.self.now c.flush_there.new.self c.begin_row_ready.new.self c.args.count c.args.site le small h (c.flush_there.ensures.flushed c.if-flush_there.true) c.begin_row_ready.ensures

pub returns-then-flush_there-clause-bounded : goal.returns-then-flush_there-clause-bounded
returns-then-flush_there-clause-bounded c = λ done most h b.
    let g = c.begin_row_ready.ensures in
    moved_within most c.args.self.now c.flush_there.new.self c.begin_row_ready.new.self c.args.site (c.flush_there.ensures.bounded c.if-flush_there.true) g.paths g.here_is h b
