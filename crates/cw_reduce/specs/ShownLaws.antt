-- The results of pieces of a run form a monoid.
use Rattle.std.specs.Prelude.{◌≡◌, ℤ, List, [], ◌∷◌, refl}
use Rattle.std.proofs.Common.{◌∙◌, ap}
use Rattle.cw_reduce.specs.ListLaws.{append-last, append-regroup}
use Rattle.cw_reduce.specs.ReducerState.{ReducerState, held_joined}
use Rattle.cw_reduce.specs.HeldLaws.{held-assoc, held-comm}
use Rattle.cw_reduce.specs.PieceResults.{PieceResults, totals_joined, nothing_shown, shown_joined}

abbrev shown_with : List ReducerState → List ℤ → PieceResults
shown_with s l = record { totals = s; lines = l }

pub same_shown : {s s' : List ReducerState} {l l' : List ℤ} → s ≡ s' → l ≡ l' → shown_with s l ≡ shown_with s' l'
same_shown e f = cc

totals-last : (a : List ReducerState) → totals_joined a [] ≡ a
totals-last [] = refl
totals-last (x ∷ a) = refl

totals-assoc : (a b c : List ReducerState) → totals_joined (totals_joined a b) c ≡ totals_joined a (totals_joined b c)
totals-assoc [] b c = refl
totals-assoc (x ∷ a) [] c = refl
totals-assoc (x ∷ a) (y ∷ b) [] = refl
totals-assoc (x ∷ a) (y ∷ b) (z ∷ c) =
    ap (λ (h : ReducerState). h ∷ totals_joined (totals_joined a b) c) (held-assoc x y z)
    ∙ ap (λ (l : List ReducerState). held_joined x (held_joined y z) ∷ l) (totals-assoc a b c)

pub totals-comm : (a b : List ReducerState) → totals_joined a b ≡ totals_joined b a
totals-comm [] [] = refl
totals-comm [] (y ∷ b) = refl
totals-comm (x ∷ a) [] = refl
totals-comm (x ∷ a) (y ∷ b) =
    ap (λ (h : ReducerState). h ∷ totals_joined a b) (held-comm x y)
    ∙ ap (λ (l : List ReducerState). held_joined y x ∷ l) (totals-comm a b)

pub shown-first : (a : PieceResults) → shown_joined nothing_shown a ≡ a
shown-first a = refl

pub shown-last : (a : PieceResults) → shown_joined a nothing_shown ≡ a
shown-last a = same_shown (totals-last a.totals) (append-last a.lines)

pub shown-assoc : (a b c : PieceResults) → shown_joined (shown_joined a b) c ≡ shown_joined a (shown_joined b c)
shown-assoc a b c = same_shown (totals-assoc a.totals b.totals c.totals) (append-regroup a.lines b.lines c.lines)
