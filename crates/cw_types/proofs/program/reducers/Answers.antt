use Rattle.std.proofs.Common.{◌≡◌, ◌∷◌, ◌++◌, ◌+◌, ℕ, List, drop, map, ap, sym, ◌∙◌, arith}
use Rattle.std.proofs.lemmas.Grind.{common_steps}
use Rattle.cw_model.specs.Syntax.{Reducer}
use Rattle.cw_tree.specs.SyntaxView as parsed
use Rattle.cw_tree.specs.ResolvedView.{reducer_of}
use Rattle.cw_types.proofs.Pushed.{map_pushed}
use Rattle.cw_types.proofs.program.reducers.Goals as goal

pub loop-reducer-preserved : goal.loop-reducer-preserved
loop-reducer-preserved c =
    let found : List Reducer = map reducer_of c.loop-reducer.found.items in
    let rest : List Reducer = map parsed.reducer_of (drop (c.loop-reducer.reducer-index + 1) c.args.reducers.now) in
    let item : Reducer = parsed.reducer_of c.reducer-item.result in
    let split : map parsed.reducer_of (drop c.loop-reducer.reducer-index c.args.reducers.now) ≡ item ∷ rest = grind (arith, common_steps) in
    ap (λ ps. map reducer_of ps ++ rest) c.in_ok-push.ensures.items
    ∙ map_pushed reducer_of c.loop-reducer.found.items (record { name = c.in_ok-name.name; how = c.reducer-item.result.how; line = c.reducer-item.result.line }) rest
    ∙ ap (λ (x : List ℕ). found ++ (record { name = x; how = c.reducer-item.result.how; line = c.reducer-item.result.line }) ∷ rest) c.in_ok-name.ensures
    ∙ ap (λ (rs : List Reducer). found ++ rs) (sym split)
    ∙ c.loop-reducer.invariant
