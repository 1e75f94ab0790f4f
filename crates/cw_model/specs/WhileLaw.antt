-- The law of the names that a `while` leaves held.
use Rattle.std.specs.Prelude.{ℕ, List}
use Rattle.cw_model.specs.Syntax.{Expr, While, Block, Function}
use Rattle.cw_model.specs.Typing.{block_returns}
use Rattle.cw_model.specs.Ownership.{Taken, where_it_goes_on, without, own_names, taken_after, taken_after_all}
use Rattle.cw_model.specs.Ownership.{IsLeastClosed}

-- the names that one iteration leaves held, without the body's own names; a body that surely returns leaves none
abbrev pub one_turn : List Function → ℕ → Block → Taken → Taken
one_turn fs depth b set = where_it_goes_on (block_returns b) (without (own_names b) (taken_after_all fs depth b set))

-- the names held after a `while` are the least set that contains those held before it and is closed under an
-- iteration
abbrev pub WhilesAreLeast : Type 0
WhilesAreLeast = (fs : List Function) (depth : ℕ) (e : Expr) (b : Block) (before : Taken) →
    IsLeastClosed (one_turn fs depth b) before (taken_after fs depth (While e b) before)
