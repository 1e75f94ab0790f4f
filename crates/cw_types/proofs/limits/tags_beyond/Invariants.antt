use Rattle.std.proofs.Common.{◌≡◌, None, drop, map, []}
use Rattle.cw_model.specs.Lines.{lowest}
use Rattle.cw_model.specs.Sizes.{first_places}
use Rattle.cw_types.specs.Regions.{regions_of}
use Rattle.cw_types.specs.Names.{known_names}
use Rattle.cw_types.specs.Scope.{kinds}
use Rattle.cw_types.proofs.limits.tags_beyond.Given as goal

abbrev pub invariant-loop-region : goal.invariant-loop-region
invariant-loop-region l =
    lowest l.least.line (drop l.room (map (λ d. d.1) (first_places (regions_of (drop l.region-index l.regions)) (known_names (kinds l.seen)))))
    ≡ lowest None (drop 64 (map (λ d. d.1) (first_places (regions_of l.regions) [])))
