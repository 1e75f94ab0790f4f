use Rattle.std.proofs.Common.{◌≡◌, ◌++◌, drop, []}
use Rattle.cw_model.specs.Sizes.{first_places}
use Rattle.cw_types.specs.Regions.{regions_of}
use Rattle.cw_types.specs.Names.{known_names}
use Rattle.cw_types.specs.Scope.{kinds}
use Rattle.cw_types.proofs.tags.different.Given as goal

abbrev pub invariant-loop-region : goal.invariant-loop-region
invariant-loop-region l =
    regions_of l.found.items ++ first_places (regions_of (drop l.region-index l.regions)) (known_names (kinds l.seen)) ≡ first_places (regions_of l.regions) []
