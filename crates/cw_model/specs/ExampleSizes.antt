-- Worked examples of limits and sizes: tokens, declared names, and instructions counted once.
use Rattle.std.specs.Prelude.{◌≡◌, ℕ, zero, suc, List, [], ◌∷◌, ◌++◌, None, map, replicate}
use Rattle.cw_model.specs.declared.token.Kind.TheVariants as kind
use Rattle.cw_model.specs.declared.syntax.CallKind.TheVariants.{Spawned}
use Rattle.cw_model.specs.declared.syntax.Operator.TheVariants.{Times}
use Rattle.cw_model.specs.declared.syntax.Reduction.TheVariants.{Sum}
use Rattle.cw_model.specs.Syntax.{Expr, Variable, Element, Length, Negative, Not, Binary, Stmt, Declare, DeclareArray}
use Rattle.cw_model.specs.Syntax.{Assign, AssignElement, Reduce, Start, Begin, Sync, If, IfElse, While, For, Scope}
use Rattle.cw_model.specs.Syntax.{Cut, Region, Print, Return, Block, End, Then, Program}
use Rattle.cw_model.specs.Captured.{captured}
use Rattle.cw_model.specs.Sites.{sites_in_block}
use Rattle.cw_model.specs.Sizes.{token_faults, declaring_lines_in, regions_in_block, loops_in_block, limit_faults}
use Rattle.cw_model.specs.Sizes.{static_size, block_size, program_faults}
use Rattle.cw_model.specs.Examples.{token}
use Rattle.cw_model.specs.ExamplePrograms.{a, b, f, g, i, j, l, p, r, s, t, v, x, y, number, plus, int_param}
use Rattle.cw_model.specs.ExamplePrograms.{array_param, int_function, void_function, of_functions, on_line, block}
use Rattle.cw_model.specs.ExamplePrograms.{give, call, main_of, same_function, each_on_its_line, once_in_every_block}

-- limits on tokens
pub record TokenSizeExamples : Type 0 where
  pub braces_open : token_faults 0 0 (replicate 65 (token kind.LeftBrace)) ≡ 1 ∷ []
  pub brackets_open : token_faults 0 0 (replicate 65 (token kind.LeftBracket)) ≡ 1 ∷ []
  pub parenthesis_closes :
      token_faults 0 0 (replicate 64 (token kind.LeftParen) ++ token kind.RightParen ∷ token kind.LeftParen ∷ []) ≡ []
  pub bracket_closes :
      token_faults 0 0 (replicate 64 (token kind.LeftParen) ++ token kind.RightBracket ∷ token kind.LeftParen ∷ []) ≡ []
  pub brace_closes :
      token_faults 0 0 (replicate 64 (token kind.LeftParen) ++ token kind.RightBrace ∷ token kind.LeftParen ∷ []) ≡ []
  pub other_tokens_close_nothing :
      token_faults 0 0 (replicate 64 (token kind.LeftParen) ++ token kind.Comma ∷ token kind.LeftParen ∷ []) ≡ 1 ∷ []
  pub opening_brace_ends_a_row :
      token_faults 0 0 (replicate 256 (token kind.Minus) ++ token kind.LeftBrace ∷ replicate 256 (token kind.Minus))
      ≡ []
  pub closing_brace_ends_a_row :
      token_faults 0 0 (replicate 256 (token kind.Minus) ++ token kind.RightBrace ∷ replicate 256 (token kind.Minus))
      ≡ []
  pub comma_ends_no_row :
      token_faults 0 0 (replicate 200 (token kind.Minus) ++ token kind.Comma ∷ replicate 56 (token kind.Minus)) ≡ 1 ∷ []

-- regions with this number of different tags, each on its own line
abbrev pub tagged : ℕ → ℕ → Block → Block
tagged zero line rest = rest
tagged (suc k) line rest = Then line (Region (line ∷ []) End) (tagged k (suc line) rest)

-- a function with sixteen parameters on line 7, with this number of declarations on the lines from 1 on
abbrev pub wide_function : ℕ → Program
wide_function declared =
    of_functions
    (int_function f 7 (replicate 16 (int_param x)) (each_on_its_line declared 1 (Declare x (number 0))) ∷ [])

-- limits on names, functions, reducers and tags, which also count those in inner blocks
pub record DeclarationSizeExamples : Type 0 where
  pub integers :
      declaring_lines_in (once_in_every_block (λ line. Declare x (number 0)) End)
      ≡ 3 ∷ 5 ∷ 6 ∷ 8 ∷ 9 ∷ 10 ∷ 12 ∷ 13 ∷ 13 ∷ 14 ∷ 16 ∷ []
  pub arrays :
      declaring_lines_in (once_in_every_block (λ line. DeclareArray x (number 0)) End)
      ≡ 3 ∷ 5 ∷ 6 ∷ 8 ∷ 9 ∷ 10 ∷ 12 ∷ 13 ∷ 13 ∷ 14 ∷ 16 ∷ []
  pub no_other_statement_declares :
      declaring_lines_in (once_in_every_block (λ line. Print (number 0)) End) ≡ 9 ∷ 13 ∷ 13 ∷ []
  pub loops :
      loops_in_block (once_in_every_block (λ line. For j j j (number 0) (number 1) 64 [] End) End)
      ≡ 3 ∷ 5 ∷ 6 ∷ 8 ∷ 9 ∷ 10 ∷ 12 ∷ 14 ∷ 16 ∷ []
  pub regions : regions_in_block (once_in_every_block (λ line. Region (line ∷ []) End) End)
      ≡ (3 ∷ [], 3) ∷ (5 ∷ [], 5) ∷ (6 ∷ [], 6) ∷ (8 ∷ [], 8) ∷ (10 ∷ [], 10) ∷ (12 ∷ [], 12) ∷ (14 ∷ [], 14) ∷ (t, 15)
      ∷ (16 ∷ [], 16) ∷ []
  pub call_statements :
      map (λ site. site.line) (sites_in_block (once_in_every_block (λ line. call line f []) End))
      ≡ 3 ∷ 5 ∷ 6 ∷ 8 ∷ 10 ∷ 12 ∷ 14 ∷ 16 ∷ []
  pub captured_names : captured j (once_in_every_block (λ line. Print (Variable (line ∷ []))) End)
      ≡ (3 ∷ []) ∷ (5 ∷ []) ∷ (6 ∷ []) ∷ (8 ∷ []) ∷ (10 ∷ []) ∷ (12 ∷ []) ∷ (14 ∷ []) ∷ (16 ∷ []) ∷ []
  pub captured_once :
      captured j (once_in_every_block (λ line. Print (plus (Variable x) (plus (Variable i) (Variable j)))) End) ≡ x ∷ []
  pub most_parameters : limit_faults (wide_function 0) ≡ []
  pub parameters : limit_faults (of_functions (int_function f 7 (replicate 17 (int_param x)) End ∷ [])) ≡ 7 ∷ []
  pub names_with_parameters : limit_faults (wide_function 241) ≡ 241 ∷ []
  pub most_names_with_parameters : limit_faults (wide_function 240) ≡ []
  pub most_functions : limit_faults (of_functions (replicate 1024 (int_function f 7 [] End))) ≡ []
  pub functions : limit_faults (of_functions (replicate 1025 (int_function f 7 [] End))) ≡ 7 ∷ []
  pub most_reducers :
      limit_faults (record { reducers = replicate 32 (record { name = s; how = Sum; line = 7 }); functions = [] }) ≡ []
  pub reducers :
      limit_faults (record { reducers = replicate 33 (record { name = s; how = Sum; line = 7 }); functions = [] }) ≡ 7
      ∷ []
  pub most_tags : limit_faults (of_functions (int_function f 1 [] (tagged 64 1 End) ∷ [])) ≡ []
  pub tags : limit_faults (of_functions (int_function f 1 [] (tagged 65 1 End) ∷ [])) ≡ 65 ∷ []
  -- tags of all functions are counted together
  pub tags_of_two_functions :
      limit_faults (of_functions (int_function f 1 [] (tagged 64 1 End) ∷ int_function g 1 [] (tagged 1 65 End) ∷ []))
      ≡ 65 ∷ []
  -- a tag counts at its first region
  pub first_tag_again :
      limit_faults (of_functions (int_function f 1 [] (tagged 65 1 (Then 70 (Region (1 ∷ []) End) End)) ∷ [])) ≡ 65 ∷ []
  -- a tag is counted once
  pub tags_again : limit_faults (of_functions (int_function f 1 [] (tagged 64 1 (tagged 64 1 End)) ∷ [])) ≡ []

-- a statement has this number of instructions, each construct, branch, jump and end counted once
abbrev pub Takes : Stmt → ℕ → Type 0
Takes st k =
    block_size (same_function ∷ void_function g (array_param a ∷ int_param v ∷ []) End ∷ []) (a ∷ [])
    (on_line 1 (st ∷ [])) ≡ k

-- an element of an array of the loop around
abbrev pub shifted : Expr
shifted = Element a (Variable i)

-- loops of 5,038 instructions each, and then this number of syncs
abbrev pub large_program : ℕ → Program
large_program syncs = of_functions (
    int_function f 1 [] (each_on_its_line 208 1 (For i i i (number 0) (number 1) 64 (replicate 1000 a) End))
    ∷ main_of (replicate syncs Sync) ∷ [])

-- this number of functions with 257 calls each, and a main with these statements
abbrev pub calling_program : (functions : ℕ) → List Stmt → Program
calling_program functions more =
    of_functions (main_of more ∷ replicate functions (void_function f [] (each_on_its_line 257 1 (call 1 f []))))

-- static sizes: in a loop over a, an element of a takes two more
pub record InstructionSizeExamples : Type 0 where
  pub print : Takes (Print (number 0)) 2
  pub declaration : Takes (Declare x (Variable y)) 2
  pub new_array : Takes (DeclareArray x (Length b)) 2
  pub assignment : Takes (Assign x (Negative (number 1))) 3
  pub addition : Takes (Reduce Sum s (Not (number 1))) 3
  pub operator : Takes (Print (Binary Times (number 1) (number 2))) 4
  pub element : Takes (Print (Element b (number 0))) 3
  pub element_written : Takes (AssignElement b (number 0) (number 1)) 3
  pub sync : Takes Sync 1
  pub result : Takes (give (number 0)) 2
  pub no_result : Takes (Return None) 1
  pub scope : Takes (Scope (block (Print (number 0) ∷ []))) 4
  pub region : Takes (Region t (block (Print (number 0) ∷ []))) 4
  pub cut : Takes (Cut b (number 0) l r (block (Print (number 0) ∷ []))) 5
  pub if : Takes (If (number 0) (block (Print (number 0) ∷ []))) 4
  pub if_else : Takes (IfElse (number 0) (block (Print (number 0) ∷ [])) (block (Print (number 0) ∷ Sync ∷ []))) 8
  pub while : Takes (While (number 0) (block (Print (number 0) ∷ []))) 5
  pub call_of_an_integer : Takes (call 1 f (plus (number 1) (number 2) ∷ [])) 4
  pub call_of_an_array_and_an_integer : Takes (call 1 g (Variable a ∷ number 2 ∷ [])) 2
  pub loop : Takes (For i i i (number 0) (number 1) 64 [] (block (Print (number 0) ∷ []))) 40
  pub loop_over_two :
      Takes (For i i i (number 0) (number 1) 64 (a ∷ b ∷ []) (block (AssignElement b (Variable i) (Variable i) ∷ [])))
      53
  pub loop_of_two_captured :
      Takes (For i i i (number 0) (number 1) 64 []
      (block (Reduce Sum s (plus (Variable x) (plus (Variable i) (Variable y))) ∷ []))) 50
  pub shifted_print : Takes (Print shifted) 5
  pub shifted_declaration : Takes (Declare x shifted) 5
  pub shifted_new_array : Takes (DeclareArray x shifted) 5
  pub shifted_assignment : Takes (Assign x (Negative shifted)) 6
  pub shifted_addition : Takes (Reduce Sum s (Not shifted)) 6
  pub shifted_operands : Takes (Print (plus shifted shifted)) 10
  pub shifted_index : Takes (Print (Element b shifted)) 6
  pub shifted_target : Takes (AssignElement a (Variable i) (number 1)) 5
  pub shifted_sides : Takes (AssignElement b shifted shifted) 9
  pub shifted_result : Takes (give shifted) 5
  pub shifted_argument : Takes (call 1 g (Variable a ∷ shifted ∷ [])) 5
  pub shifted_tests : Takes (If shifted (block (While shifted End ∷ IfElse shifted End End ∷ []))) 17
  pub shifted_cut : Takes (Cut b shifted l r End) 6
  pub shifted_in_each_block : block_size [] (a ∷ []) (once_in_every_block (λ line. Print shifted) End) ≡ 93
  pub lowered_loop : Takes (Begin f (number 0) (number 1) (x ∷ y ∷ []) (a ∷ [])) 5
  pub lowered_call : Takes (Start Spawned f (plus (number 1) (number 2) ∷ [])) 4
  -- the end of a void function counts also where it cannot be reached
  pub void_function : static_size (of_functions (void_function p [] (block (Return None ∷ [])) ∷ [])) ≡ 2
  pub int_function : static_size (of_functions (int_function f 1 [] (block (give (number 0) ∷ [])) ∷ [])) ≡ 2
  pub most_instructions : program_faults (large_program 672) ≡ []
  pub instructions : program_faults (large_program 673) ≡ 1 ∷ []
  pub most_call_statements : program_faults (calling_program 255 []) ≡ []
  pub call_statements_past_the_limit : program_faults (calling_program 255 (call 1 f [] ∷ [])) ≡ 1 ∷ []
