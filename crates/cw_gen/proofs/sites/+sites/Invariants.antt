use Rattle.std.proofs.Common.{◌≡◌, ◌++◌}
use Rattle.std.specs.Prelude.{drop, map}
use Rattle.cw_code.specs.Code as code
use Rattle.cw_gen.specs.Emit as spec
use Rattle.cw_tree.specs.ResolvedView as view
use Rattle.cw_gen.proofs.sites.+sites.Given as goal

abbrev pub invariant-sites_in-loop-line : goal.invariant-sites_in-loop-line
invariant-sites_in-loop-line l = map code.site_view l.sites.items ++ spec.emitted_sites_in (view.block_of (drop l.line-index l.lines))
    ≡ map code.site_view l.initial.sites.items ++ spec.emitted_sites_in (view.block_of l.lines)
