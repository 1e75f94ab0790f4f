-- The state of a reducer over a piece of a run.
use Rattle.std.specs.Prelude.{ℤ, Option, Some, None, pos}
use Rattle.std.specs.Int.{cast_signed, w128}
use Rattle.cw_model.specs.declared.syntax.Reduction.{Reduction}
use Rattle.cw_model.specs.declared.syntax.Reduction.TheVariants.{Sum, Max}
use Rattle.cw_model.specs.declared.total.Total.{Total}
use Rattle.cw_model.specs.declared.total.Total.TheVariants as total
use Rattle.cw_reduce.specs.Words.{Word, word_of, plus}
use Rattle.cw_reduce.specs.Maximum.{greater}

-- a sum within 128 bits, or the maximum of integers
pub data ReducerState : Type 0 where
  Summed : Word → ReducerState
  Raised : Option ℤ → ReducerState

-- the state that represents a total
abbrev pub held : Total → ReducerState
held (total.Sum v) = Summed (word_of v)
held (total.Max v) = Raised v

-- the state of a reducer without updates, for every reduction
abbrev pub none_held : ReducerState
none_held = Raised None

-- the state of a reducer with this reduction after one update
abbrev pub one_held : Reduction → ℤ → ReducerState
one_held Sum v = Summed (word_of v)
one_held Max v = Raised (Some v)

-- the state of a reducer over two pieces; if it is a sum in one of them, it is a sum in both
abbrev pub held_joined : ReducerState → ReducerState → ReducerState
held_joined (Summed a) (Summed b) = Summed (plus a b)
held_joined (Summed a) (Raised v) = Summed a
held_joined (Raised v) (Summed b) = Summed b
held_joined (Raised v) (Raised w) = Raised (greater v w)

-- the total of a reducer with this reduction in this state
abbrev pub as_total : Reduction → ReducerState → Total
as_total Sum (Summed a) = total.Sum (cast_signed w128 a.bits)
as_total Sum (Raised v) = total.Sum (pos 0)
as_total Max (Summed a) = total.Max None
as_total Max (Raised v) = total.Max v
