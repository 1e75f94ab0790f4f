use Rattle.cw_sites.proofs.TableLaws.{bounded_by, tight_bounded}
use Rattle.cw_sites.proofs.TableLaws.{call_ends}
use Rattle.cw_sites.proofs.table.SiteTable.leave.Goals as goal

pub returns-clause-told : goal.returns-clause-told
returns-clause-told c = λ base busy os before es fs site le n at small h. call_ends base busy os before es fs c.args.self.now c.flush.new.self c.end_row.new.self c.args.count site c.args.outer le n at small h c.in_ok-flush.ensures.flushed c.in_ok-end_row.ensures.left

pub returns-clause-bounded : goal.returns-clause-bounded
returns-clause-bounded c = λ most h b.
    let f = c.in_ok-flush.ensures.bounded most b in
    let g = c.in_ok-end_row.ensures.left in
    tight_bounded most _ (bounded_by most c.flush.new.self c.end_row.new.self c.args.outer g.paths g.here_is h f)
