use Rattle.std.proofs.Common.{◌≡◌, ◌∷◌, ◌+◌, map, drop, ap, sym, ◌∙◌, arith}
use Rattle.std.specs.Option.{option_or}
use Rattle.std.proofs.lemmas.Grind.{common_steps}
use Rattle.cw_tree.specs.ResolvedView.{use_of}
use Rattle.cw_own.specs.declared.reason.Touch.TheVariants as touch
use Rattle.cw_own.specs.Taken.{taken_of}
use Rattle.cw_own.specs.Reasons.{why_over, why_whole}
use Rattle.cw_own.specs.Views.{around_of, view_of_reason}
use Rattle.cw_own.proofs.Small.{found_grouped}
use Rattle.cw_own.proofs.reading.of_over.Goals as goal

pub loop-used-preserved : goal.loop-used-preserved
loop-used-preserved c =
    let around = around_of c.args.around.now in
    let taken = taken_of c.args.taken.now in
    let u = use_of c.used-item.result in
    let rest = map use_of (drop (c.loop-used.used-index + 1) c.args.uses.now) in
    let split : map use_of (drop c.loop-used.used-index c.args.uses.now) ≡ u ∷ rest = grind (arith, common_steps) in
    ap (λ o. option_or o (why_over around taken rest)) c.of_whole.ensures
    ∙ found_grouped (view_of_reason c.loop-used.first) (why_whole around taken touch.NamedInOver u) (why_over around taken rest)
    ∙ ap (λ us. option_or (view_of_reason c.loop-used.first) (why_over around taken us)) (sym split)
    ∙ c.loop-used.invariant
