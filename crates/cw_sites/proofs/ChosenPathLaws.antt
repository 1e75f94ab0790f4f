-- The leaves of a chosen path have its instructions of each site.
use Rattle.std.specs.Prelude.{◌≡◌, ℕ, ◌==◌, ◌≤◌, ◌<◌, List, [], ◌∷◌, ◌++◌, filter}
use Rattle.std.proofs.Common.{sym, ◌∙◌, ap, inl, inr, arith}
use Rattle.std.proofs.lemmas.Bool.{cases_lt}
use Rattle.std.proofs.lemmas.Bool.Decides.{nat_tests}
use Rattle.std.proofs.lemmas.List.Sums.{sum_by-append}
use Rattle.std.proofs.lemmas.List.Elements.{filter-append}
use Rattle.cw_model.specs.Trees.{Tree, Leaf, Seq, Par, Marked, span}
use Rattle.cw_model.specs.Rows.{site_inside, chosen_leaves}
use Rattle.cw_sites.specs.ChosenPaths.{Path, plus, path_of, steps_of, chosen}
use Rattle.cw_sites.specs.lemmas.ChosenPaths.{takes_second, takes_first, chosen-weight}

-- a concatenation of leaves
pub path_of-append : (site : ℕ) (a b : List (ℕ × ℕ)) → path_of site (a ++ b) ≡ plus (path_of site a) (path_of site b)
path_of-append site a b =
    let w = sum_by-append (λ (leaf : ℕ × ℕ). leaf.1) a b in
    let e = filter-append (λ (leaf : ℕ × ℕ). leaf.0 == site) a b in
    let f = sum_by-append (λ (leaf : ℕ × ℕ). leaf.1) (filter (λ (leaf : ℕ × ℕ). leaf.0 == site) a) (filter (λ (leaf : ℕ × ℕ). leaf.0 == site) b) in
    cc

pub path_of_one : (site here k : ℕ) → path_of site ((here, k) ∷ []) ≡ steps_of site here k
path_of_one site here k = grind arith

path_of_choice : (site here : ℕ) (child rest : Tree) → path_of site (chosen_leaves here child) ≡ chosen site here child
    → path_of site (chosen_leaves here rest) ≡ chosen site here rest → path_of site (chosen_leaves here (Par child rest)) ≡ chosen site here (Par child rest)
path_of_choice site here child rest e f =
    let c = chosen-weight site here child in let r = chosen-weight site here rest in
    elim (cases_lt (chosen site here child).weight (chosen site here rest).weight) [
      | inl h ↦ ap (path_of site) (rest_first here child rest (omega arith)) ∙ f ∙ sym (takes_second (chosen site here child) (chosen site here rest) h)
      | inr h ↦ ap (path_of site) (child_first here child rest (omega arith)) ∙ e ∙ sym (takes_first (chosen site here child) (chosen site here rest) h)
    ]
  where
    rest_first : (here : ℕ) (child rest : Tree) → span child < span rest → chosen_leaves here (Par child rest) ≡ chosen_leaves here rest
    rest_first here child rest h = grind (arith, nat_tests)

    child_first : (here : ℕ) (child rest : Tree) → span rest ≤ span child → chosen_leaves here (Par child rest) ≡ chosen_leaves here child
    child_first here child rest h = grind (arith, nat_tests)

-- the leaves of the chosen path have its instructions of each site
pub path_of-chosen_leaves : (site here : ℕ) (t : Tree) → path_of site (chosen_leaves here t) ≡ chosen site here t
path_of-chosen_leaves site here (Leaf k) = path_of_one site here k
path_of-chosen_leaves site here (Seq a b) =
    path_of-append site (chosen_leaves here a) (chosen_leaves here b)
    ∙ ap (λ (x : Path). plus x (path_of site (chosen_leaves here b))) (path_of-chosen_leaves site here a)
    ∙ ap (plus (chosen site here a)) (path_of-chosen_leaves site here b)
path_of-chosen_leaves site here (Par child rest) = path_of_choice site here child rest (path_of-chosen_leaves site here child) (path_of-chosen_leaves site here rest)
path_of-chosen_leaves site here (Marked mark t) = path_of-chosen_leaves site (site_inside mark here) t
