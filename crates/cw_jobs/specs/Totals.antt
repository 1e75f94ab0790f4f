-- The totals of reducers, as runs keep them.
use Rattle.std.specs.Prelude.{◌≡◌, ℕ, ℤ, pos, ◌+ℤ◌, List, [], ◌∷◌, length, map, Option, Some, None, slice_get}
use Rattle.std.specs.Int.{w64, w128, int_wrap}
use Rattle.std.specs.Int.RustNames.{FitsSigned}
use Rattle.cw_model.specs.declared.syntax.Reduction.{Reduction}
use Rattle.cw_model.specs.declared.syntax.Reduction.TheVariants.{Sum, Max}
use Rattle.cw_model.specs.declared.total.Total.{Total}
use Rattle.cw_model.specs.declared.total.Total.TheVariants as total
use Rattle.cw_model.specs.Syntax.{Name}
use Rattle.cw_model.specs.Answers.{or_max, total_to}
use Rattle.cw_code.specs.declared.code.Reducer.{Reducer}
use Rattle.cw_code.specs.Code.{Code}

-- the number in the range of 128 bits that differs from `z` by a multiple of 2^128
abbrev pub wrapped : ℤ → ℤ
wrapped z = int_wrap w128 z

-- a total as it is kept: a sum within 128 bits
abbrev pub kept : Total → Total
kept (total.Sum v) = total.Sum (wrapped v)
kept (total.Max v) = total.Max v

-- the total of a reducer before its first value
abbrev pub empty_total : Reduction → Total
empty_total Sum = total.Sum (pos 0)
empty_total Max = total.Max None

-- the maximum of two values, of which either may be absent
abbrev pub greater : Option ℤ → Option ℤ → Option ℤ
greater None more = more
greater (Some v) more = Some (or_max v more)

-- two totals of one reducer combined
abbrev pub joined_total : Total → Total → Total
joined_total (total.Sum v) (total.Sum w) = total.Sum (wrapped (v +ℤ w))
joined_total (total.Max v) (total.Max w) = total.Max (greater v w)
joined_total t _ = t

-- the total after one more value
abbrev pub told : Total → ℤ → Total
told (total.Sum v) w = total.Sum (wrapped (v +ℤ w))
told (total.Max v) w = total.Max (Some (or_max w v))

-- the totals of reducers before their first values
abbrev pub empty_totals : List Reducer → List Total
empty_totals reducers = map (λ r. empty_total r.how) reducers

-- each value of an update has 64 bits
abbrev pub AllFit : List (Name × ℤ) → Type 0
AllFit [] = Unit {0}
AllFit (a ∷ updates) = FitsSigned w64 a.1 × AllFit updates

-- each reducer has its total
pub record HoldsTotals (code : Code) (totals : List Total) (updates : List (Name × ℤ)) : Type 0 where
  pub fit : AllFit updates
  pub as_many : length totals ≡ length code.reducers
  pub are : (k : ℕ) (r : Reducer) → slice_get code.reducers k ≡ Some r
      → slice_get totals k ≡ Some (kept (total_to r.how r.name updates))
