-- Worked examples: a lowered program has the answers of its source.
use Rattle.std.specs.Prelude.{◌≡◌, ℕ, zero, suc, ◌+◌, ◌-◌, ◌*◌, ◌==◌, ◌&&◌, ℤ, pos, Bool, false, true, List, [], ◌∷◌}
use Rattle.std.specs.Prelude.{map, Option, Some, None}
use Rattle.cw_model.specs.declared.trap.Trap.{Trap}
use Rattle.cw_model.specs.declared.trap.Trap.TheVariants as trap
use Rattle.cw_model.specs.Loops.{loop_cost}
use Rattle.cw_model.specs.Answers.{Answer, Ended, TrappedAt, OverLimit}
use Rattle.cw_model.specs.declared.syntax.NameKind.TheVariants as kind
use Rattle.cw_model.specs.declared.syntax.Operator.TheVariants.{Plus, Minus, Times}
use Rattle.cw_model.specs.declared.syntax.Reduction.TheVariants.{Sum, Max}
use Rattle.cw_model.specs.declared.total.Total.{Total}
use Rattle.cw_model.specs.declared.total.Total.TheVariants as total
use Rattle.cw_model.specs.declared.syntax.CallKind.TheVariants.{Spawned}
use Rattle.cw_model.specs.Syntax.{Number, Variable, Element, Length, Binary, Declare, DeclareArray, AssignElement}
use Rattle.cw_model.specs.Syntax.{Reduce, Call, For, Print, Return, Sync, End, Then, Program}
use Rattle.cw_model.specs.ExamplePrograms as example
use Rattle.cw_model.specs.Examples.{serial}
use Rattle.cw_loops.specs.Lowered.{lowered}
use Rattle.cw_loops.specs.Lowerable.{is_lowerable}

-- the lowered program has the answers of its source within each of these limits
abbrev pub Same : Program → (limits : List ℕ) → Type 0
Same program limits = map (serial (lowered program) []) limits ≡ map (serial program []) limits

-- nested loops over a new array of each iteration, with prints, a result of a spawn and a trap at the end
abbrev pub nested : ℕ → Program
nested trap_at = record {
  reducers = record { name = example.s; how = Sum; line = 1 } ∷ [];
  functions =
      record {
        name = example.f;
        line = 2;
        gives_int = true;
        params = record { name = example.n; kind = kind.Integer } ∷ [];
        body = example.block (Return (Some (Binary Times (Variable example.n) (Variable example.n))) ∷ []);
      }
      ∷ record {
        name = example.main;
        line = 3;
        gives_int = true;
        params = [];
        body =
            Then 4 (Declare example.t (Number (pos 5)))
            (Then 5 (DeclareArray example.a (Number (pos 7)))
            (Then 6 (For example.i example.i example.i (Number (pos 1)) (Number (pos 6)) 2 (example.a ∷ [])
            (Then 7 (DeclareArray example.b (Binary Plus (Variable example.i) (Number (pos 2))))
            (Then 8 (For example.p example.p example.p (Number (pos 0)) (Length example.b) 1 (example.b ∷ [])
            (Then 9 (AssignElement example.b (Variable example.p) (Binary Plus (Variable example.t)
            (Binary Times (Variable example.p) (Variable example.i))))
            (Then 10 (Reduce Sum example.s (Element example.b (Variable example.p))) End)))
            (Then 11 (Declare example.x (Number (pos 0)))
            (Then 12 (Call Spawned 1 (Some example.x) example.f (Variable example.i ∷ []))
            (Then 13 (Print (Element example.b (Number (pos trap_at))))
            (Then 14 Sync
            (Then 15 (AssignElement example.a (Variable example.i) (Binary Plus (Variable example.x)
            (Element example.b (Variable example.i)))) End))))))))
            (Then 16 (Print (Element example.a (Number (pos 4))))
            (Then 17 (Return (Some (Element example.a (Number (pos 5))))) End))));
      }
      ∷ [];
}

-- a loop whose iterations have two arrays each: a call takes one and reads the other, which a spawned call then reads
-- in parallel with the iteration
abbrev pub readers : Program
readers =
    example.of_functions (
    example.void_function example.h (example.array_param example.a ∷ example.const_param example.b ∷ [])
    (example.block (AssignElement example.a (Number (pos 0)) (Element example.b (Number (pos 1))) ∷ []))
    ∷ example.int_function example.g 1 (example.const_param example.a ∷ example.int_param example.v ∷ [])
    (example.block (Return (Some (Element example.a (Variable example.v))) ∷ []))
    ∷ example.main_of (
    DeclareArray example.a (Number (pos 4))
    ∷ For example.i example.i example.i (Number (pos 0)) (Number (pos 4)) 1 (example.a ∷ []) (
    example.block (
    DeclareArray example.y (Number (pos 2)) ∷ DeclareArray example.z (Number (pos 1))
    ∷ Declare example.x (Number (pos 0)) ∷ AssignElement example.y (Number (pos 1)) (Variable example.i)
    ∷ example.call 1 example.h (Variable example.z ∷ Variable example.y ∷ [])
    ∷ example.spawn_into example.x 2 example.g (Variable example.y ∷ Number (pos 1) ∷ [])
    ∷ Print (Element example.y (Number (pos 1))) ∷ Sync
    ∷ AssignElement example.a (Variable example.i)
    (Binary Plus (Variable example.x) (Element example.z (Number (pos 0)))) ∷ []))
    ∷ Return (Some (Element example.a (Number (pos 3)))) ∷ [])
    ∷ [])

-- a loop with this number of iterations and this grain that adds its variable to a sum
abbrev pub turns_program : (turns grain : ℕ) → Program
turns_program turns grain =
    example.with_sum (
    example.main_of (
    For example.i example.i example.i (Number (pos 0)) (Number (pos turns)) grain []
    (example.block (Reduce Sum example.s (Variable example.i) ∷ []))
    ∷ Return (Some (Number (pos 0))) ∷ [])
    ∷ [])

-- a loop with grain 2 that computes the maximum of i * (3 - i)
abbrev pub maximum_program : (from to : ℕ) → Program
maximum_program from to = record {
  reducers = record { name = example.s; how = Max; line = 1 } ∷ [];
  functions =
      example.main_of (
      For example.i example.i example.i (Number (pos from)) (Number (pos to)) 2 []
      (example.block (Reduce Max example.s
      (Binary Times (Variable example.i) (Binary Minus (Number (pos 3)) (Variable example.i))) ∷ []))
      ∷ Return (Some (Number (pos 0))) ∷ [])
      ∷ [];
}

-- the cost of the loop: the two ends and the start, the halves with two more for each iteration, and the return
abbrev pub turns_cost : (turns grain : ℕ) → ℕ
turns_cost turns grain = 5 + loop_cost grain 0 0 turns + 2 * turns

-- the sum 0 + 1 + .. of this number of terms
abbrev pub sum_below : ℕ → ℕ
sum_below zero = 0
sum_below (suc n) = sum_below n + n

-- the run ends with this sum
abbrev pub ends_with : ℕ → Answer → Bool
ends_with sum (Ended v lines (total.Sum (pos n) ∷ []) t) = n == sum
ends_with sum _ = false

abbrev pub is_over : Answer → Bool
is_over OverLimit = true
is_over _ = false

-- the lowered loop has the sum of the plain loop within its cost, and it exceeds its limit within one less
abbrev pub has_cost : (grain turns : ℕ) → Bool
has_cost grain turns =
    ends_with (sum_below turns) (serial (lowered (turns_program turns grain)) [] (turns_cost turns grain))
    && is_over (serial (lowered (turns_program turns grain)) [] (turns_cost turns grain - 1))

-- each length below this one has its cost
abbrev pub all_have_cost : (grain lengths : ℕ) → Bool
all_have_cost grain zero = true
all_have_cost grain (suc n) = all_have_cost grain n && has_cost grain n

-- the lowered program ends with this value within this number of instructions, and exceeds its limit with one less
abbrev pub value_answered : Answer → Option ℤ
value_answered (Ended v lines totals t) = Some v
value_answered _ = None

-- the totals of the reducers of a lowered program
abbrev pub totals_answered : Answer → List Total
totals_answered (Ended v lines totals t) = totals
totals_answered _ = []

abbrev pub CostsLowered : Program → ℕ → ℤ → Type 0
CostsLowered program cost v =
    (value_answered (serial (lowered program) [] cost) ≡ Some v) × (serial (lowered program) [] (cost - 1) ≡ OverLimit)

abbrev pub TrapsLowered : Program → (limit : ℕ) → Trap → Type 0
TrapsLowered program limit trap = serial (lowered program) [] limit ≡ TrappedAt trap 1 []

pub record LoweredExamples : Type 0 where
  pub four_squares_cost : CostsLowered (example.square_program 4 0 4 3) 134 (pos 9)
  pub past_the_end : TrapsLowered (example.square_program 4 0 5 3) 1000 trap.OutOfBounds
  pub five_squares_cost : CostsLowered (example.square_program 5 0 5 4) 192 (pos 16)
  pub from_9_cost : CostsLowered (example.square_program 4 9 4 3) 22 (pos 0)
  pub too_many : TrapsLowered (example.idle_loop (Number (pos 0)) 2147483648) 1000 trap.TooManyIterations
  pub too_many_at_3 : TrapsLowered (example.idle_loop (Number (pos 0)) 2147483648) 3 trap.TooManyIterations
  pub most_at_3 : serial (lowered (example.idle_loop (Number (pos 0)) 2147483647)) [] 3 ≡ OverLimit
  -- lengths from 0 to 7, odd and even, with each of these grains
  pub grain_1 : all_have_cost 1 8 ≡ true
  pub grain_2 : all_have_cost 2 8 ≡ true
  pub grain_3 : all_have_cost 3 8 ≡ true
  pub sums : Same (example.sum_program 0 4) (1000 ∷ 106 ∷ 105 ∷ 20 ∷ 5 ∷ [])
  pub no_turn : Same (example.sum_program 5 3) (1000 ∷ 19 ∷ 18 ∷ [])
  -- a reducer for the maximum: 2 for the values 0, 2, 2 and 0, and no value without an iteration
  pub greatest : Same (maximum_program 0 4) (1000 ∷ 122 ∷ 121 ∷ 20 ∷ 5 ∷ [])
  pub greatest_cost : CostsLowered (maximum_program 0 4) 122 (pos 0)
  pub greatest_told : totals_answered (serial (lowered (maximum_program 0 4)) [] 122) ≡ total.Max (Some (pos 2)) ∷ []
  pub none_told : totals_answered (serial (lowered (maximum_program 5 3)) [] 122) ≡ total.Max None ∷ []
  pub squares_printed : Same (example.square_print_program 4) (1000 ∷ 136 ∷ 135 ∷ 60 ∷ [])
  pub squares_past : Same (example.square_print_program 5) (1000 ∷ 5 ∷ 4 ∷ [])
  pub squares : Same (example.square_program 4 0 4 3) (1000 ∷ [])
  pub five_squares : Same (example.square_program 5 0 5 4) (1000 ∷ 192 ∷ 191 ∷ [])
  pub squares_from_9 : Same (example.square_program 4 9 4 3) (1000 ∷ [])
  pub widest : Same (example.idle_loop (Number (pos 9223372036854775806)) 9223372036854775807) (1000 ∷ [])
  pub most : Same (example.idle_loop (Number (pos 0)) 2147483647) (3 ∷ 300 ∷ [])
  pub twice : Same (nested 2) (5000 ∷ 900 ∷ 700 ∷ 500 ∷ 300 ∷ 100 ∷ [])
  pub twice_traps : Same (nested 4) (5000 ∷ 700 ∷ [])
  -- an iteration and its spawn read arrays in parallel: the value of the last iteration is 3 + 3
  pub together : Same readers (5000 ∷ 300 ∷ 200 ∷ 100 ∷ [])
  pub together_comes_to : value_answered (serial (lowered readers) [] 5000) ≡ Some (pos 6)
  -- the test says that these programs can be lowered
  pub sums_can : is_lowerable (example.sum_program 0 4) ≡ true
  pub greatest_can : is_lowerable (maximum_program 0 4) ≡ true
  pub squares_can : is_lowerable (example.square_program 5 0 5 4) ≡ true
  pub fill_can : is_lowerable example.fill_program ≡ true
  pub cut_can : is_lowerable (example.cut_program 3) ≡ true
  pub fib_can : is_lowerable example.fib_program ≡ true
  pub twice_can : is_lowerable (nested 2) ≡ true
  pub together_can : is_lowerable readers ≡ true
  -- a program that writes an outer integer in an iteration cannot be lowered
  pub outer_cannot : is_lowerable example.outer_program ≡ false
