-- The results of a piece of a run, without its value.
use Rattle.std.specs.Prelude.{◌≡◌, ℕ, ℤ, ◌==◌, List, [], ◌∷◌, ◌++◌, None, map, slice_index_or, if◌then◌else◌}
use Rattle.cw_model.specs.declared.total.Total.{Total}
use Rattle.cw_model.specs.declared.total.Total.TheVariants as total
use Rattle.cw_model.specs.declared.syntax.Reduction.{Reduction}
use Rattle.cw_reduce.specs.ReducerState.{ReducerState, held, none_held, held_joined, one_held}

-- the states of the reducers, by their number in source order, and the printed values; a reducer after the end has no
-- updates
pub record PieceResults : Type 0 where
  pub totals : List ReducerState
  pub lines : List ℤ

-- the state of a reducer among states
abbrev pub held_of : List ReducerState → ℕ → ReducerState
held_of totals reducer = slice_index_or totals reducer none_held

-- the total of a reducer among stored totals
abbrev pub total_of : List Total → ℕ → Total
total_of totals reducer = slice_index_or totals reducer (total.Max None)

-- the states of reducers over two pieces
abbrev pub totals_joined : List ReducerState → List ReducerState → List ReducerState
totals_joined [] b = b
totals_joined (x ∷ a) [] = x ∷ a
totals_joined (x ∷ a) (y ∷ b) = held_joined x y ∷ totals_joined a b

-- no updates and no lines
abbrev pub nothing_shown : PieceResults
nothing_shown = record { totals = []; lines = [] }

-- the results of two consecutive pieces
abbrev pub shown_joined : PieceResults → PieceResults → PieceResults
shown_joined a b = record { totals = totals_joined a.totals b.totals; lines = a.lines ++ b.lines }

-- one reducer receives the state `more`
abbrev pub Tells : (old new : List ReducerState) → (reducer : ℕ) → (more : ReducerState) → Type 0
Tells old new reducer more =
    (q : ℕ)
    → held_of new q ≡ (if reducer == q then held_joined (held_of old q) more else held_of old q)

-- a reducer with this reduction is updated with a value
abbrev pub TellsValue : (old new : PieceResults) → (reducer : ℕ) → Reduction → ℤ → Type 0
TellsValue old new reducer how value = Tells old.totals new.totals reducer (one_held how value)

-- one stored total receives the total `more`
abbrev pub TellsTotals : (old new : List Total) → (reducer : ℕ) → (more : Total) → Type 0
TellsTotals old new reducer more =
    (q : ℕ)
    → held (total_of new q)
    ≡ (if reducer == q then held_joined (held (total_of old q)) (held more) else held (total_of old q))

-- the total at each place is unchanged
abbrev pub SameTotals : List Total → List Total → Type 0
SameTotals old new = (q : ℕ) → total_of new q ≡ total_of old q

-- the stored totals are those of two pieces, joined
abbrev pub AreJoined : (first second joined : List Total) → Type 0
AreJoined first second joined = map held joined ≡ totals_joined (map held first) (map held second)
