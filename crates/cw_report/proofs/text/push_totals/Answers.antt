use Rattle.std.proofs.Common.{◌≡◌, ◌⊎◌, inl, inr, ◌++◌, List, [], ◌∷◌, length, refl, sym, ap, ◌∙◌}
use Rattle.std.proofs.lemmas.List.{append-nil}
use Rattle.cw_facts.specs.Options.{which_ends}
use Rattle.cw_model.specs.declared.total.Total.{Total}
use Rattle.cw_code.specs.declared.code.Reducer.{Reducer}
use Rattle.cw_report.specs.Texts.{totals_text}
use Rattle.cw_report.proofs.text.push_totals.Goals as goal

-- if either list is at its end, no line is left
no_more : (reducers : List Reducer) (totals : List Total) → (length reducers ≡ 0) ⊎ (length totals ≡ 0) → totals_text reducers totals ≡ []
no_more [] totals h = refl
no_more (r ∷ reducers) [] h = refl
no_more (r ∷ reducers) (v ∷ totals) (inl h) = cc
no_more (r ∷ reducers) (v ∷ totals) (inr h) = cc

pub returns-clause-ok : goal.returns-clause-ok
returns-clause-ok c =
    let reducers = c.loop-reducer.reducer-iterator.a.rest.now in
    let totals = c.loop-reducer.reducer-iterator.b.rest.now in
    let none = no_more reducers totals (which_ends (length reducers) (length totals) c.in-None.ensures.steps) in
    sym (append-nil c.loop-reducer.text.items) ∙ ap (λ l. c.loop-reducer.text.items ++ l) (sym none) ∙ c.loop-reducer.invariant
