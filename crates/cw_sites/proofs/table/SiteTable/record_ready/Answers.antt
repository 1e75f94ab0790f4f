use Rattle.cw_sites.proofs.TableLaws.{flushed_none, table_flushed}
use Rattle.cw_sites.proofs.PathBoundLaws.{tight_within}
use Rattle.cw_sites.proofs.table.SiteTable.record_ready.Goals as goal

pub returns-then-self-count-clause-told : goal.returns-then-self-count-clause-told
returns-then-self-count-clause-told c = λ done base busy os es fs le small h.
    let old = c.args.self.now in
    table_flushed base busy os es fs old old c.args.count le small h (flushed_none old c.args.count c.if-self-count.true)

pub returns-then-self-count-clause-bounded : goal.returns-then-self-count-clause-bounded
returns-then-self-count-clause-bounded c = λ done most b. record { paths = tight_within _ most c.args.self.now.paths (c.is_within_limit.ensures done) b.paths; here = b.here }

pub returns-clause-told : goal.returns-clause-told
returns-clause-told c = λ done base busy os es fs le small h.
    table_flushed base busy os es fs c.args.self.now c.flush_within.new.self c.args.count le small h (c.flush_within.ensures.flushed done)
