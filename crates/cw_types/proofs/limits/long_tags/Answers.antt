use Rattle.std.proofs.Common.{◌≡◌, ℕ, [], ◌∷◌, ◌+◌, List, Contains, Option, Some, None, IfSome, is_some, nat_le, length, drop, get_or, flat_map, ap, sym, ◌∙◌, arith}
use Rattle.std.proofs.lemmas.Grind.{common_steps}
use Rattle.cw_model.specs.declared.limits.TheConstants.{MOST_TAG_BYTES}
use Rattle.cw_model.specs.Lines.{lowest, unless}
use Rattle.cw_model.specs.Syntax.{Name}
use Rattle.cw_model.specs.lemmas.Lowest.{lowest-append}
use Rattle.cw_types.specs.Limits.{IsLongTag, IsPassedByRegions}
use Rattle.cw_types.specs.AreRecorded.{long_tag}
use Rattle.cw_types.specs.Regions.{region_of, regions_of}
use Rattle.cw_types.specs.RecordingLines.{recorded_line}
use Rattle.cw_types.specs.declared.reason.TooLarge.{TooLarge}
use Rattle.cw_types.specs.declared.regions.Marked.{Marked}
use Rattle.cw_types.proofs.Among.{denied}
use Rattle.cw_types.proofs.Repeating.{in_map, same_get}
use Rattle.cw_types.proofs.RecordingLines.{and_then, found_true}
use Rattle.cw_types.proofs.limits.long_tags.Goals as goal

abbrev nowhere : Marked
nowhere = record { tag = record { ref_ptr = (0, 0); now = [] }; line = 0 }

pub loop-region-preserved : goal.loop-region-preserved
loop-region-preserved c =
    let i = c.loop-region.region-index in
    let ms = c.args.regions.now in
    let m = get_or ms i nowhere in
    let here : Name × ℕ = region_of m in
    let rest = regions_of (drop (i + 1) ms) in
    let split : regions_of (drop i ms) ≡ here ∷ rest = grind (arith, common_steps) in
    let p = recorded_line c.loop-region.told in
    let short = nat_le (length m.tag.now) MOST_TAG_BYTES in
    let Such = IsPassedByRegions (regions_of ms) in
    let there = in_map region_of ms i m c.loop-region-test.true (same_get ms i nowhere m c.loop-region-test.true) in
    record {
      same =
          ap (λ o. lowest o (flat_map long_tag rest)) (c.note.ensures.lines ∙ ap (λ b. lowest p (unless b m.line)) (denied (is_some c.long_tag.result) short c.long_tag.ensures.decides))
          ∙ sym (lowest-append p (long_tag here) (flat_map long_tag rest))
          ∙ ap (λ (ds : List (Name × ℕ)). lowest p (flat_map long_tag ds)) (sym split)
          ∙ c.loop-region.invariant.same;
      told =
          and_then Such c.args.told.now c.loop-region.told c.note.new.self c.loop-region.invariant.told
          (found_true Such c.loop-region.told c.note.new.self m.line c.long_tag.result (here_true m c.long_tag.result there c.long_tag.ensures.holds) c.note.ensures.told);
    }
  where
    here_true : (m : Marked) (found : Option TooLarge) → Contains (regions_of c.args.regions.now) (region_of m) →
        IfSome found (IsLongTag m.tag.now) → IfSome found (IsPassedByRegions (regions_of c.args.regions.now) m.line)
    here_true m None there h = h
    here_true m (Some r) there h = h (regions_of c.args.regions.now) m.line there
