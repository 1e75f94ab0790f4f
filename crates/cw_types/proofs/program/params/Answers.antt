use Rattle.std.proofs.Common.{◌≡◌, ◌∷◌, ◌++◌, ◌+◌, ℕ, List, drop, map, ap, sym, ◌∙◌, arith}
use Rattle.std.proofs.lemmas.Grind.{common_steps}
use Rattle.cw_model.specs.Syntax.{Param}
use Rattle.cw_tree.specs.SyntaxView as parsed
use Rattle.cw_tree.specs.ResolvedView.{param_of}
use Rattle.cw_types.proofs.Pushed.{map_pushed}
use Rattle.cw_types.proofs.program.params.Goals as goal

pub loop-param-preserved : goal.loop-param-preserved
loop-param-preserved c =
    let found : List Param = map param_of c.loop-param.found.items in
    let rest : List Param = map parsed.param_of (drop (c.loop-param.param-index + 1) c.args.params.now) in
    let item : Param = parsed.param_of c.param-item.result in
    let split : map parsed.param_of (drop c.loop-param.param-index c.args.params.now) ≡ item ∷ rest = grind (arith, common_steps) in
    ap (λ ps. map param_of ps ++ rest) c.in_ok-push.ensures.items
    ∙ map_pushed param_of c.loop-param.found.items (record { name = c.in_ok-name.name; kind = c.param-item.result.kind }) rest
    ∙ ap (λ (x : List ℕ). found ++ (record { name = x; kind = c.param-item.result.kind }) ∷ rest) c.in_ok-name.ensures
    ∙ ap (λ (ps : List Param). found ++ ps) (sym split)
    ∙ c.loop-param.invariant
