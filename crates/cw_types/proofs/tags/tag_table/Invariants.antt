use Rattle.std.proofs.Common.{◌≡◌, ◌++◌, drop, length}
use Rattle.cw_types.specs.Regions.{tags_of}
use Rattle.cw_types.proofs.tags.tag_table.Given as goal

abbrev pub invariant-loop-region : goal.invariant-loop-region
invariant-loop-region l = record {
  as_many : length l.names ≡ l.region-index;
  all : l.names ++ tags_of (drop l.region-index l.regions) ≡ tags_of l.regions;
}
