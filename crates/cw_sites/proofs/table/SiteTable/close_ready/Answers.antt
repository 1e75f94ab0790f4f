use Rattle.cw_sites.proofs.TableLaws.{call_ends, moved_within}
use Rattle.cw_sites.proofs.table.SiteTable.close_ready.Goals as goal

pub returns-then-flush_ready-clause-told : goal.returns-then-flush_ready-clause-told
returns-then-flush_ready-clause-told c = λ done base busy os before es fs site le n at small h. call_ends base busy os before es fs c.args.self.now c.flush_ready.new.self c.end_row_ready.new.self c.args.count site c.args.outer le n at small h (c.flush_ready.ensures.flushed c.if-flush_ready.true) c.end_row_ready.ensures

pub returns-then-flush_ready-clause-bounded : goal.returns-then-flush_ready-clause-bounded
returns-then-flush_ready-clause-bounded c = λ done most h b.
    let g = c.end_row_ready.ensures in
    moved_within most c.args.self.now c.flush_ready.new.self c.end_row_ready.new.self c.args.outer (c.flush_ready.ensures.bounded c.if-flush_ready.true) g.paths g.here_is h b
