use Rattle.cw_sites.proofs.table.SiteTable.flush_to.Goals as goal

pub returns-clause-bounded : goal.returns-clause-bounded
returns-clause-bounded c = c.grow.ensures.bounded c.args.self.now.here
