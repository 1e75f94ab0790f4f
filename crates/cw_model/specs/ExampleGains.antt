-- Worked examples of what functions would bring if they were free. Each line was worked out by hand.
use Rattle.std.specs.Prelude.{◌≡◌, ℕ, Bool, false, ◌==◌, List, [], ◌∷◌, ◌++◌, codes}
use Rattle.cw_model.specs.declared.limits.TheConstants.{USUAL_LIMIT}
use Rattle.cw_model.specs.declared.syntax.Operator.TheVariants.{Less}
use Rattle.cw_model.specs.declared.trap.Trap.TheVariants as trap
use Rattle.cw_model.specs.Burdens.{no_burden, on_spawns, on_both}
use Rattle.cw_model.specs.Syntax.{Variable, Binary, If, Region, Print, For, End, Program}
use Rattle.cw_model.specs.Answers.{Answer, Ended, TrappedAt, OverLimit}
use Rattle.cw_model.specs.Sites.{sites_of}
use Rattle.cw_model.specs.Freed.{span_if_free, is_site_of}
use Rattle.cw_model.specs.Report.{Gain, report_text, gain_header}
use Rattle.cw_model.specs.Examples.{serial, lines, ScalesBoth}
use Rattle.cw_model.specs.ExamplePrograms.{f, g, h, i, n, p, t, main, number, minus, int_param, int_function}
use Rattle.cw_model.specs.ExamplePrograms.{void_function, of_functions, on_line, block, give, call, spawn, main_of, alone}

-- at a burden the gain report of at most so many functions has these rows
abbrev pub Gains : (top : ℕ) → Program → (args : List ℕ) → (burden : ℕ) → List (List ℕ) → Type 0
Gains top program args burden rows =
    report_text (Gain top) program (on_spawns burden) (serial program args USUAL_LIMIT) ≡ gain_header ++ lines rows

-- with the burden on both kinds of edges the gain report has these rows
abbrev pub GainsBoth : (top : ℕ) → Program → (args : List ℕ) → (burden : ℕ) → List (List ℕ) → Type 0
GainsBoth top program args burden rows =
    report_text (Gain top) program (on_both burden) (serial program args USUAL_LIMIT) ≡ gain_header ++ lines rows

-- if these sites were free, the span would be this
abbrev pub SpansIfFree : (ℕ → Bool) → Program → (args : List ℕ) → ℕ → Type 0
SpansIfFree frees program args k = in_answer (serial program args USUAL_LIMIT) ≡ k
  where
    in_answer : Answer → ℕ
    in_answer (Ended v printed totals tree) = span_if_free frees tree
    in_answer _ = 0

-- a call of nine instructions beside one of five
abbrev pub near_tie_program : Program
near_tie_program = of_functions (
    void_function f []
    (block (Print (number 1) ∷ Print (number 2) ∷ Print (number 3) ∷ Print (number 4) ∷ []))
    ∷ void_function g [] (block (Print (number 1) ∷ Print (number 2) ∷ []))
    ∷ main_of (spawn 1 f [] ∷ call 2 g [] ∷ give (number 0) ∷ [])
    ∷ [])

-- a recursion by halves, in the second line: void h(int n) { if (0 < n) { cilk_spawn h(n - 1); h(n - 1); } }
abbrev pub halves_program : Program
halves_program = of_functions (
    record {
      name = h;
      line = 2;
      gives_int = false;
      params = int_param n ∷ [];
      body = on_line 2 (
          If (Binary Less (number 0) (Variable n))
          (on_line 2 (spawn 1 h (minus (Variable n) (number 1) ∷ []) ∷ call 2 h (minus (Variable n) (number 1) ∷ []) ∷ []))
          ∷ []);
    }
    ∷ int_function main 3 (int_param n ∷ []) (on_line 3 (call 3 h (Variable n ∷ []) ∷ give (number 0) ∷ []))
    ∷ [])

-- a loop in a region, of two turns, each a call and each a leaf
abbrev pub loop_in_region_program : Program
loop_in_region_program = of_functions (
    void_function p [] End
    ∷ main_of (Region t (block (For i i i (number 0) (number 2) 1 [] (block (call 1 p [] ∷ [])) ∷ [])) ∷ give (number 0) ∷ [])
    ∷ [])

-- a loop in a region, of two iterations, each a leaf, of which the first one calls a function
abbrev pub first_iteration_program : Program
first_iteration_program = of_functions (
    void_function p [] (block (Print (number 1) ∷ []))
    ∷ main_of (
    Region t (block (
    For i i i (number 0) (number 2) 1 []
    (block (If (Binary Less (Variable i) (number 1)) (block (call 1 p [] ∷ [])) ∷ []))
    ∷ []))
    ∷ give (number 0) ∷ [])
    ∷ [])

-- two functions of the same instructions, called one after another, the second one first
abbrev pub same_own_span_program : Program
same_own_span_program = of_functions (
    void_function f [] (block (Print (number 1) ∷ []))
    ∷ void_function g [] (block (Print (number 2) ∷ []))
    ∷ main_of (call 1 g [] ∷ call 2 f [] ∷ give (number 0) ∷ [])
    ∷ [])

-- what functions would bring
pub record GainExamples : Type 0 where
  -- the child costs 9, the rest 1 + 5 + 1: the span is 1 + 9 + 1, and 1 + 7 + 1 if f were free
  pub near_tie : Gains 10 near_tie_program [] 10
      (codes ",0,0,18,11,11,1.636,19" ∷ codes "f,1,1,9,9,9,2.000,19" ∷ codes "main,1,1,4,2,9,2.000,15" ∷ [])
  pub not_on_the_path : SpansIfFree (is_site_of (sites_of near_tie_program) g) near_tie_program [] 11
  -- h(0) costs 5, h(1) has span 8 + (4 + 5) + 1, h(2) has 8 + (4 + 18) + 1
  pub halves : Gains 10 halves_program (2 ∷ []) 10
      (codes ",0,0,63,35,35,1.800,55" ∷ codes "h,2,7,59,31,4,15.750,24" ∷ codes "main,3,1,4,4,31,2.032,51" ∷ [])
  -- the path goes through the second call, whose own span is 18; if that were free, 2 + 8 + (8 + 5 + 1) + 1 + 2
  pub one_site_of_two : SpansIfFree (λ site. site == 2) halves_program (2 ∷ []) 27
  pub other_site_of_two : SpansIfFree (λ site. site == 1) halves_program (2 ∷ []) 35
  -- a leaf costs 26 beside its call: 1 + 3 + 17 + (3 + 27) + 1 + 1 + 2
  pub loop_in_region : Gains 10 loop_in_region_program [] 10
      (codes ",0,0,82,55,55,1.490,65" ∷ codes "main,1,1,80,54,1,82.000,11" ∷ codes "p,1,2,2,1,54,1.518,64" ∷ [])
  -- the child is charged, too: 1 + max (10 + 9) (10 + 1 + 5 + 1) + 1; without f it is 1 + max 10 17 + 1, and without
  -- main max (10 + 9) (10 + 5)
  pub both_edges : GainsBoth 10 near_tie_program [] 10
      (codes ",0,0,18,11,11,1.636,21" ∷ codes "f,1,1,9,9,9,2.000,19" ∷ codes "main,1,1,4,2,9,2.000,19" ∷ [])
  -- the first leaf costs 25 + 4 + 1 + 3, the second one 25 + 4 after the 3 of its call: 1 + 3 + 17 + max (10 + 33) (10 + 32)
  -- + 1 + 1 + 2, of which the tag has all but 1 + 1 + 2
  pub loop_of_both_edges : ScalesBoth first_iteration_program [] 10
      (codes ",90,58,1.551,68,1.323" ∷ codes "t,86,54,1.592,64,1.343" ∷ [])
  -- without p it is 25 + max (10 + 30) (10 + 32), without main max (10 + 3) 10
  pub loop_gain_of_both_edges : GainsBoth 10 first_iteration_program [] 10
      (codes ",0,0,90,58,58,1.551,68" ∷ codes "main,1,1,87,55,3,30.000,13" ∷ codes "p,1,1,3,3,57,1.578,67" ∷ [])
  -- of equal own spans the first one by place
  pub same_own_span : Gains 10 same_own_span_program [] 0
      (codes ",0,0,10,10,10,1.000,10" ∷ codes "main,1,1,4,4,6,1.666,6" ∷ codes "f,1,1,3,3,7,1.428,7"
      ∷ codes "g,1,1,3,3,7,1.428,7" ∷ [])
  pub only_two : Gains 2 same_own_span_program [] 0
      (codes ",0,0,10,10,10,1.000,10" ∷ codes "main,1,1,4,4,6,1.666,6" ∷ codes "f,1,1,3,3,7,1.428,7" ∷ [])
  pub all_is_free : Gains 10 (alone (give (number 0) ∷ [])) [] 10
      (codes ",0,0,2,2,2,1.000,2" ∷ codes "main,1,1,2,2,0,0.000,0" ∷ [])
  pub text : report_text (Gain 1) (alone (give (number 0) ∷ [])) no_burden (serial (alone (give (number 0) ∷ [])) [] USUAL_LIMIT)
      ≡ codes "function,line,calls,own_work,own_span,span_if_free,parallelism_if_free,burdened_span_if_free"
      ++ 10 ∷ (codes ",0,0,2,2,2,1.000,2" ++ 10 ∷ (codes "main,1,1,2,2,0,0.000,0" ++ 10 ∷ []))
  pub trapped : report_text (Gain 1) near_tie_program no_burden (TrappedAt trap.Overflow 1 []) ≡ []
  pub over : report_text (Gain 1) near_tie_program no_burden OverLimit ≡ []
