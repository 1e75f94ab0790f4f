use Rattle.std.proofs.Common.{ap}
use Rattle.cw_sites.specs.ChosenPaths.{Path}
use Rattle.cw_sites.proofs.table.SiteTable.path.Goals as goal

pub returns : goal.returns
returns c = λ site base busy os es h. ap (λ (x : Path). x.weight) (h.paths site).now_is
