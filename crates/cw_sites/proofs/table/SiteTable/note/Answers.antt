use Rattle.cw_sites.proofs.TableLaws.{table_flushed, tight_bounded}
use Rattle.cw_sites.proofs.table.SiteTable.note.Goals as goal

pub returns-clause-told : goal.returns-clause-told
returns-clause-told c = λ base busy os es fs since small h. table_flushed base busy os es fs c.args.self.now c.flush.new.self c.args.count since small h c.in_ok-flush.ensures.flushed

pub returns-clause-bounded : goal.returns-clause-bounded
returns-clause-bounded c = λ most h b. tight_bounded most _ (c.in_ok-flush.ensures.bounded most b)
