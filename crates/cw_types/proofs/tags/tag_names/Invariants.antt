use Rattle.std.proofs.Common.{◌≡◌, ◌++◌, drop}
use Rattle.cw_types.specs.Regions.{tags_of}
use Rattle.cw_types.proofs.tags.tag_names.Given as goal

abbrev pub invariant-loop-region : goal.invariant-loop-region
invariant-loop-region l = l.names.items ++ tags_of (drop l.region-index l.regions) ≡ tags_of l.regions
