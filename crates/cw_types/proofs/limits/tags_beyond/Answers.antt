use Rattle.std.proofs.Common.{◌≡◌, ◌∷◌, ◌+◌, List, [], ℕ, drop, get_or, ap, sym, ◌∙◌, arith}
use Rattle.std.proofs.lemmas.Grind.{common_steps}
use Rattle.cw_model.specs.Lines.{lowest}
use Rattle.cw_model.specs.Syntax.{Name}
use Rattle.cw_types.specs.declared.regions.Marked.{Marked}
use Rattle.cw_types.specs.AreRecorded.{places_behind}
use Rattle.cw_types.specs.Regions.{region_of, regions_of}
use Rattle.cw_types.proofs.limits.tags_beyond.Goals as goal

abbrev nowhere : Marked
nowhere = record { tag = record { ref_ptr = (0, 0); now = [] }; line = 0 }

pub loop-region-preserved : goal.loop-region-preserved
loop-region-preserved c =
    let i = c.loop-region.region-index in
    let here = region_of (get_or c.args.regions.now i nowhere) in
    let rest = regions_of (drop (i + 1) c.args.regions.now) in
    let split : regions_of (drop i c.args.regions.now) ≡ here ∷ rest = grind (arith, common_steps) in
    c.in_ok-room.ensures rest
    ∙ ap (λ (ds : List (Name × ℕ)). lowest c.loop-region.least.line (drop c.loop-region.room (places_behind c.loop-region.seen ds))) (sym split)
    ∙ c.loop-region.invariant
