use Rattle.std.proofs.Common.{◌≡◌, ◌++◌}
use Rattle.std.specs.Prelude.{drop, map}
use Rattle.cw_code.specs.Code as code
use Rattle.cw_gen.specs.Emit as spec
use Rattle.cw_tree.specs.ResolvedView as view
use Rattle.cw_gen.proofs.sites.sites_of.Given as goal

abbrev pub invariant-loop-f : goal.invariant-loop-f
invariant-loop-f l = map code.site_view l.sites.items ++ spec.emitted_sites_of (map view.function_of (drop l.f-index l.functions)) ≡ spec.emitted_sites_of (map view.function_of l.functions)
