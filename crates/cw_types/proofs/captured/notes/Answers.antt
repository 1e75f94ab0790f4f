use Rattle.std.proofs.Common.{◌≡◌, ◌∷◌, ◌+◌, List, drop, map, ap, sym, ◌∙◌, arith}
use Rattle.std.proofs.lemmas.Grind.{common_steps}
use Rattle.cw_tree.specs.Resolved.{Use, first_uses}
use Rattle.cw_tree.specs.ResolvedView.{use_of}
use Rattle.cw_types.proofs.captured.notes.Goals as goal

pub loop-used-preserved : goal.loop-used-preserved
loop-used-preserved c =
    let count = c.args.count in
    let found : List Use = map use_of c.loop-used.found.items in
    let rest : List Use = map use_of (drop (c.loop-used.used-index + 1) c.args.uses.now) in
    let split : map use_of (drop c.loop-used.used-index c.args.uses.now) ≡ use_of c.used-item.result ∷ rest = grind (arith, common_steps) in
    ap (λ us. first_uses count us rest) c.in_ok-note.ensures
    ∙ ap (λ us. first_uses count found us) (sym split)
    ∙ c.loop-used.invariant
