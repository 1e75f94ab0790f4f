use Rattle.cw_sites.proofs.TableLaws.{flushed_within}
use Rattle.cw_sites.proofs.table.SiteTable.flush_within.Goals as goal

pub returns-then-is_within_limit-clause-bounded : goal.returns-then-is_within_limit-clause-bounded
returns-then-is_within_limit-clause-bounded c = λ done most b. flushed_within most c.args.self.now c.flush_ready.new.self (c.is_within_limit.ensures c.if-is_within_limit.true) (c.flush_ready.ensures.bounded done) (c.flush_ready.ensures.flushed done).here_is b
