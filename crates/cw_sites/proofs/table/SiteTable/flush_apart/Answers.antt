use Rattle.std.proofs.Common.{◌+◌, ◌*◌}
use Rattle.cw_sites.specs.PathBounds.{most_steps}
use Rattle.cw_sites.proofs.table.SiteTable.flush_apart.Goals as goal

pub returns-clause-bounded : goal.returns-clause-bounded
returns-clause-bounded c = λ most b. record { paths = c.in_ok-at.ensures.bounded (2 * (most_steps most + 1)) most b.here b.paths; here = b.here }
