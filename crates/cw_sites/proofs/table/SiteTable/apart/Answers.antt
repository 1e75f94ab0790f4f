use Rattle.std.proofs.Common.{◌+◌, ◌*◌, arith}
use Rattle.cw_sites.specs.PathBounds.{most_steps}
use Rattle.cw_sites.proofs.PathBoundLaws.{looser}
use Rattle.cw_sites.proofs.table.SiteTable.apart.Goals as goal

pub returns-clause-bounded : goal.returns-clause-bounded
returns-clause-bounded c = λ most h. record { paths = looser (most_steps most + 1) (2 * (most_steps most + 1)) most c.new.result (omega arith) (c.new.ensures.bounded most); here = h }
