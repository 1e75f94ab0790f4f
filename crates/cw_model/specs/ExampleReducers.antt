-- Worked examples of reducers of both kinds: their totals, and the rules for the values that update them.
use Rattle.std.specs.Prelude.{◌≡◌, ℕ, List, [], ◌∷◌, ◌++◌, replicate, codes}
use Rattle.cw_model.specs.declared.limits.TheConstants.{USUAL_LIMIT}
use Rattle.cw_model.specs.declared.syntax.Reduction.{Reduction}
use Rattle.cw_model.specs.declared.syntax.Reduction.TheVariants.{Sum, Max}
use Rattle.cw_model.specs.Syntax.{Expr, Variable, Negative, Not, Stmt, Declare, DeclareArray, Reduce, Sync, Block}
use Rattle.cw_model.specs.Syntax.{End, Then, Reducer, Program}
use Rattle.cw_model.specs.Captured.{captured}
use Rattle.cw_model.specs.Sizes.{limit_faults, static_size}
use Rattle.cw_model.specs.Examples.{IsAccepted, BreaksTypes, BreaksOwnership, Writes, Costs}
use Rattle.cw_model.specs.ExamplePrograms.{a, f, i, p, s, v, x, y, number, int_param, void_function, block, give, spawn}
use Rattle.cw_model.specs.ExamplePrograms.{spawn_into, int_function, main, main_of, same_function, with_sum}
use Rattle.cw_model.specs.ExamplePrograms.{with_maximum, least}

-- these values update one reducer, and 0 is returned
abbrev pub telling : Reduction → List Expr → List Stmt
telling how [] = give (number 0) ∷ []
telling how (e ∷ es) = Reduce how s e ∷ telling how es

-- a program that sums these values
abbrev pub adding : List Expr → Program
adding es = with_sum (main_of (telling Sum es) ∷ [])

-- a program with the maximum of these values
abbrev pub keeping : List Expr → Program
keeping es = with_maximum (main_of (telling Max es) ∷ [])

-- the totals of reducers: sums are exact beyond 64 bits in both directions, and each 64-bit value can be a maximum
pub record TotalExamples : Type 0 where
  pub sum_below_0 : Costs (adding (Negative (number 3) ∷ [])) [] 5 (codes "sum s = -3" ∷ codes "return 0" ∷ [])
  pub less_added :
      Costs (adding (number 5 ∷ Negative (number 3) ∷ [])) [] 7 (codes "sum s = 2" ∷ codes "return 0" ∷ [])
  pub sum_below_the_least :
      Costs (adding (least ∷ Negative (number 1) ∷ [])) [] 10
      (codes "sum s = -9223372036854775809" ∷ codes "return 0" ∷ [])
  pub greatest_is_the_least :
      Costs (keeping (least ∷ [])) [] 7 (codes "max s = -9223372036854775808" ∷ codes "return 0" ∷ [])
  pub greatest_is_0 : Costs (keeping (number 0 ∷ [])) [] 4 (codes "max s = 0" ∷ codes "return 0" ∷ [])
  pub greatest_0_before_less :
      Costs (keeping (number 0 ∷ Negative (number 1) ∷ [])) [] 7 (codes "max s = 0" ∷ codes "return 0" ∷ [])
  pub greatest_0_behind_less :
      Costs (keeping (Negative (number 1) ∷ number 0 ∷ [])) [] 7 (codes "max s = 0" ∷ codes "return 0" ∷ [])
  pub greatest_is_the_greatest_number :
      Writes (keeping (number 9223372036854775807 ∷ number 1 ∷ [])) [] USUAL_LIMIT
      (codes "max s = 9223372036854775807" ∷ codes "return 0" ∷ [])
  -- a spawned call updates the reducer with -7, and the continuation of its block with -9
  pub greatest_of_a_spawned_call :
      Writes (with_maximum (
      void_function p (int_param v ∷ []) (block (Reduce Max s (Variable v) ∷ []))
      ∷ main_of
      (spawn 1 p (Negative (number 7) ∷ []) ∷ Reduce Max s (Negative (number 9)) ∷ Sync ∷ give (number 0) ∷ [])
      ∷ []))
      [] USUAL_LIMIT (codes "max s = -7" ∷ codes "return 0" ∷ [])

-- a statement on line 2 of a main with an integer x and an array a; s is a reducer for the maximum
abbrev pub amid : Stmt → Program
amid st = with_maximum (
    int_function main 1 [] (Then 1 (Declare x (number 0)) (Then 1 (DeclareArray a (number 1))
    (Then 2 st (Then 3 (give (number 0)) End))))
    ∷ [])

-- a spawn into x on line 1, and then these statements; s is a reducer for the maximum
abbrev pub behind_spawn : Block → Program
behind_spawn body = with_maximum (
    same_function
    ∷ int_function main 1 [] (Then 1 (Declare x (number 0)) (Then 1 (spawn_into x 1 f (number 1 ∷ [])) body)) ∷ [])

-- x updates the reducer, and 0 is returned
abbrev pub tells_x : ℕ → Block
tells_x line = Then line (Reduce Max s (Variable x)) (Then 9 (give (number 0)) End)

-- a reducer of a line
abbrev pub reducer_of : Reduction → ℕ → Reducer
reducer_of how line = record { name = s; how = how; line = line }

-- the values that may update a reducer with the reduction max, the size of an update, and the number of reducers
pub record ToldExamples : Type 0 where
  pub integer : IsAccepted (amid (Reduce Max s (Variable x)))
  pub unknown_name : BreaksTypes (amid (Reduce Max s (Variable y))) (2 ∷ [])
  pub array : BreaksTypes (amid (Reduce Max s (Variable a))) (2 ∷ [])
  pub taken : BreaksOwnership (behind_spawn (tells_x 2)) (2 ∷ [])
  pub not_taken_any_more : IsAccepted (behind_spawn (Then 2 Sync (tells_x 3)))
  pub captured_from_outside : captured i (block (Reduce Max s (Variable x) ∷ [])) ≡ x ∷ []
  pub size : static_size (keeping (Not (number 1) ∷ [])) ≡ 5
  pub most_of_both_kinds :
      limit_faults (record { reducers = replicate 31 (reducer_of Max 7) ++ reducer_of Sum 8 ∷ []; functions = [] }) ≡ []
  pub a_sum_too_many :
      limit_faults (record { reducers = replicate 32 (reducer_of Max 7) ++ reducer_of Sum 8 ∷ []; functions = [] })
      ≡ 8 ∷ []
  pub a_greatest_too_many :
      limit_faults (record { reducers = replicate 32 (reducer_of Sum 7) ++ reducer_of Max 8 ∷ []; functions = [] })
      ≡ 8 ∷ []
