use Rattle.std.proofs.Common.{◌≡◌, ℕ, zero, suc, List, [], ◌∷◌, ◌++◌, map, drop, ap, sym, refl, ◌∙◌}
use Rattle.std.proofs.lemmas.List.{append-nil}
use Rattle.cw_model.specs.declared.limits.TheConstants.{MOST_DECLARED}
use Rattle.cw_model.specs.Sizes.{declaring_lines_in}
use Rattle.cw_tree.specs.SyntaxView.{param_of, block_of}
use Rattle.cw_tree.specs.declared.syntax.Param.{Param}
use Rattle.cw_model.specs.Lines.{lowest}
use Rattle.cw_types.proofs.limits.declared_beyond.Goals as goal

heads : (line : ℕ) (ps : List Param) → map (λ _. line) ps ≡ map (λ _. line) (map param_of ps)
heads line [] = refl
heads line (p ∷ ps) = ap (λ ls. line ∷ ls) (heads line ps)

dropped : (n : ℕ) → drop {A = ℕ} n [] ≡ []
dropped zero = refl
dropped (suc n) = refl

pub returns : goal.returns
returns c =
    let ps = c.args.function.now.params.items in
    let line = c.args.function.now.line in
    let lines = declaring_lines_in (block_of c.args.function.now.body.items) in
    let nothing : drop c.block_beyond.result [] ≡ [] = dropped c.block_beyond.result in
    let new = c.new-least.result.line in
    sym (ap (lowest c.block_beyond.new.least.line) nothing)
    ∙ c.block_beyond.ensures []
    ∙ ap (λ ls. lowest c.params_beyond-room.new.least.line (drop c.params_beyond-room.result ls)) (append-nil (declaring_lines_in (block_of c.deref-2.result.now)))
    ∙ ap (λ b. lowest c.params_beyond-room.new.least.line (drop c.params_beyond-room.result (declaring_lines_in (block_of b)))) c.deref-2.ensures.value
    ∙ c.params_beyond-room.ensures lines
    ∙ ap (λ l. lowest new (drop MOST_DECLARED (map (λ _. line) l ++ lines))) c.deref.ensures.value
    ∙ ap (λ l. lowest new (drop MOST_DECLARED (l ++ lines))) (heads line ps)
    ∙ ap (λ o. lowest o (drop MOST_DECLARED (map (λ _. line) (map param_of ps) ++ lines))) c.new-least.ensures
