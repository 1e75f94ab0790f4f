use Rattle.std.proofs.Common.{◌≡◌, ℕ, List, [], ◌∷◌, ◌++◌, map, drop, ◌+◌, ap, sym, ◌∙◌, arith}
use Rattle.std.proofs.lemmas.Grind.{common_steps}
use Rattle.cw_model.specs.Lines.{lowest}
use Rattle.cw_types.proofs.limits.params_beyond.Goals as goal

pub loop-param-preserved : goal.loop-param-preserved
loop-param-preserved c = λ more.
    let line : ℕ = c.args.line in
    let rest : List ℕ = map (λ _. line) (drop (c.loop-param._param-index + 1) c.args.params.now) in
    let split : map (λ _. line) (drop c.loop-param._param-index c.args.params.now) ≡ line ∷ rest = grind (arith, common_steps) in
    c.record_past-left.ensures (rest ++ more)
    ∙ ap (λ ls. lowest c.loop-param.least.line (drop c.loop-param.left (ls ++ more))) (sym split)
    ∙ c.loop-param.invariant more

pub returns : goal.returns
returns c = λ more.
    let line : ℕ = c.args.line in
    let empty : map (λ _. line) (drop c.loop-param._param-index c.args.params.now) ≡ [] = grind (arith, common_steps) in
    ap (λ ls. lowest c.loop-param.least.line (drop c.loop-param.left (ls ++ more))) (sym empty)
    ∙ c.loop-param.invariant more
