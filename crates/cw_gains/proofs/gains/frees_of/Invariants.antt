use Rattle.std.proofs.Common.{◌≡◌, ◌++◌, map, drop}
use Rattle.cw_code.specs.Code.{site_view}
use Rattle.cw_gains.specs.Free.{callees_are, frees_from}
use Rattle.cw_gains.proofs.gains.frees_of.Given as goal

-- the entries so far, and those of the sites that are left
abbrev pub invariant-loop-site : goal.invariant-loop-site
invariant-loop-site l =
    l.frees.items ++ callees_are l.name (map site_view (drop l.site-index l.code.sites.items))
    ≡ frees_from l.name (map site_view l.code.sites.items)
