use Rattle.std.proofs.Common.{◌≡◌, drop, flat_map, nat_le, length}
use Rattle.cw_model.specs.Lines.{lowest, unless}
use Rattle.cw_types.specs.Limits.{IsPassedByRegions}
use Rattle.cw_types.specs.Regions.{regions_of}
use Rattle.cw_types.specs.RecordingLines.{AddsOnly, recorded_line}
use Rattle.cw_types.proofs.limits.long_tags.Given as goal

abbrev pub invariant-loop-region : goal.invariant-loop-region
invariant-loop-region l = record {
  same : lowest (recorded_line l.told) (flat_map (λ d. unless (nat_le (length d.0) 32) d.1) (regions_of (drop l.region-index l.regions)))
      ≡ lowest (recorded_line l.fn.told) (flat_map (λ d. unless (nat_le (length d.0) 32) d.1) (regions_of l.regions));
  told : AddsOnly (IsPassedByRegions (regions_of l.regions)) l.fn.told l.told;
}
