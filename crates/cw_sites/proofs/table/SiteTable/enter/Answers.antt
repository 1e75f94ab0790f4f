use Rattle.cw_sites.proofs.TableLaws.{bounded_by, tight_bounded}
use Rattle.cw_sites.proofs.TableLaws.{call_begins}
use Rattle.cw_sites.proofs.table.SiteTable.enter.Goals as goal

pub returns-clause-told : goal.returns-clause-told
returns-clause-told c = λ base busy os es fs le small h. call_begins base busy os es fs c.args.self.now c.flush.new.self c.begin_row.new.self c.args.count c.args.site le small h c.in_ok-flush.ensures.flushed c.in_ok-begin_row.ensures.begun

pub returns-clause-bounded : goal.returns-clause-bounded
returns-clause-bounded c = λ most h b.
    let f = c.in_ok-flush.ensures.bounded most b in
    let g = c.in_ok-begin_row.ensures.begun in
    tight_bounded most _ (bounded_by most c.flush.new.self c.begin_row.new.self c.args.site g.paths g.here_is h f)
