-- Worked examples: reports, traps and costs of programs, and the lines at which programs are rejected. Each line was
-- worked out by hand.
use Rattle.std.specs.Prelude.{◌≡◌, ℕ, zero, suc, ◌*◌, ◌^◌, ℤ, pos, List, [], ◌∷◌, ◌++◌, Some, None, flat_map}
use Rattle.std.specs.Prelude.{replicate, codes}
use Rattle.cw_model.specs.declared.limits.TheConstants.{MOST_SOURCE_BYTES, MOST_NAME_BYTES, MOST_NUMBER, MOST_LIMIT}
use Rattle.cw_model.specs.declared.limits.TheConstants.{MOST_BURDEN, MOST_TOP, USUAL_LIMIT, USUAL_BURDEN, USUAL_TOP}
use Rattle.cw_model.specs.declared.trap.Trap.{Trap}
use Rattle.cw_model.specs.declared.trap.Trap.TheVariants as trap
use Rattle.cw_model.specs.declared.token.Token.{Token}
use Rattle.cw_model.specs.declared.token.Kind.{Kind}
use Rattle.cw_model.specs.declared.token.Kind.TheVariants as kind
use Rattle.cw_model.specs.declared.syntax.Operator.TheVariants.{Divide, Modulo}
use Rattle.cw_model.specs.declared.total.Total.{Total}
use Rattle.cw_model.specs.Burdens.{no_burden, on_spawns, on_both}
use Rattle.cw_model.specs.Syntax.{Negative, Declare, Sync, Scope, If, Region, For, End, Program}
use Rattle.cw_model.specs.Lines.{lowest}
use Rattle.cw_model.specs.Trees.{Leaf, Seq, Par, Marked, Invocation, work}
use Rattle.cw_model.specs.Answers.{Answer, Ended, TrappedAt, OverLimit, serial_answer}
use Rattle.cw_model.specs.Report.{Check, Run, Scale, Sites, report_text, end_of_line, scale_header, sites_header}
use Rattle.cw_model.specs.Typing.{type_faults}
use Rattle.cw_model.specs.Ownership.{ownership_faults}
use Rattle.cw_model.specs.Sizes.{token_faults, limit_faults, loop_faults, program_faults, static_size, call_count}
use Rattle.cw_model.specs.ExamplePrograms as example

-- each text with the end of its line
abbrev pub lines : List (List ℕ) → List ℕ
lines texts = flat_map (λ text. text ++ end_of_line) texts

-- the serial answer on arguments that are not below 0
abbrev pub serial : Program → List ℕ → ℕ → Answer
serial program args limit = serial_answer program (naturals args) limit
  where
    naturals : List ℕ → List ℤ
    naturals [] = []
    naturals (n ∷ ns) = pos n ∷ naturals ns

-- a run writes these lines
abbrev pub Writes : Program → (args : List ℕ) → (limit : ℕ) → List (List ℕ) → Type 0
Writes program args limit texts =
    report_text Run program (on_spawns USUAL_BURDEN) (serial program args limit) ≡ lines texts

-- the scale report has these rows
abbrev pub Scales : Program → (args : List ℕ) → (burden : ℕ) → List (List ℕ) → Type 0
Scales program args burden rows =
    report_text Scale program (on_spawns burden) (serial program args USUAL_LIMIT) ≡ scale_header ++ lines rows

-- the scale report has these rows, if return edges are also charged
abbrev pub ScalesBoth : Program → (args : List ℕ) → (burden : ℕ) → List (List ℕ) → Type 0
ScalesBoth program args burden rows =
    report_text Scale program (on_both burden) (serial program args USUAL_LIMIT) ≡ scale_header ++ lines rows

-- the sites report has these rows
abbrev pub Attributes : Program → (args : List ℕ) → List (List ℕ) → Type 0
Attributes program args rows =
    report_text Sites program (on_spawns USUAL_BURDEN) (serial program args USUAL_LIMIT) ≡ sites_header ++ lines rows

-- the program traps, having printed nothing
abbrev pub TrapsAt : Program → (args : List ℕ) → (limit : ℕ) → Trap → (line : ℕ) → Type 0
TrapsAt program args limit trap line = serial program args limit ≡ TrappedAt trap line []

-- the program exceeds the limit
abbrev pub IsOver : Program → (args : List ℕ) → (limit : ℕ) → Type 0
IsOver program args limit = serial program args limit ≡ OverLimit

-- the work of its tree
abbrev pub HasWork : Program → (args : List ℕ) → ℕ → Type 0
HasWork program args k = work_in (serial program args USUAL_LIMIT) ≡ k
  where
    work_in : Answer → ℕ
    work_in (Ended v printed sums t) = work t
    work_in _ = 0

-- every stage accepts the program
abbrev pub IsAccepted : Program → Type 0
IsAccepted program =
    (limit_faults program ≡ []) × (type_faults program ≡ []) × (ownership_faults program ≡ [])
    × (loop_faults program ≡ []) × (program_faults program ≡ [])

-- the program exceeds no limit, and its types are rejected in these lines
abbrev pub BreaksTypes : Program → List ℕ → Type 0
BreaksTypes program faults = (limit_faults program ≡ []) × (type_faults program ≡ faults)

-- the program is well typed, and its ownership is rejected in these lines
abbrev pub BreaksOwnership : Program → List ℕ → Type 0
BreaksOwnership program faults =
    (limit_faults program ≡ []) × (type_faults program ≡ []) × (ownership_faults program ≡ faults)

-- within this limit it ends, and one below it is over
abbrev pub Costs : Program → (args : List ℕ) → (cost : ℕ) → List (List ℕ) → Type 0
Costs program args zero texts = ⊥
Costs program args (suc cost) texts = Writes program args (suc cost) texts × IsOver program args cost

-- a token of line 1
abbrev pub token : Kind → Token
token k = record { kind = k; start = 0; end = 1; line = 1 }

-- calls, spawns, prints, sums and operators
pub record CallExamples : Type 0 where
  pub first : Costs example.first_program [] 9 (codes "return 1" ∷ [])
  pub greatest_argument : Writes example.echo_program (9223372036854775807 ∷ []) USUAL_LIMIT
      (codes "return 9223372036854775807" ∷ [])
  pub fib_0 : Writes example.fib_program (0 ∷ []) USUAL_LIMIT (codes "return 0" ∷ [])
  pub fib_0_scale : Scales example.fib_program (0 ∷ []) USUAL_BURDEN (codes ",12,12,1.000,12,1.000" ∷ [])
  pub fib_4 : Costs example.fib_program (4 ∷ []) 120 (codes "return 3" ∷ [])
  pub fib_4_scale : Scales example.fib_program (4 ∷ []) 100 (codes ",120,67,1.791,254,0.472" ∷ [])
  pub fib_4_sites : Attributes example.fib_program (4 ∷ [])
      (codes "0,root,10,main,1,6,6,120,67" ∷ codes "1,spawn,5,fib,4,54,38,66,50" ∷ codes "2,call,6,fib,4,39,6,45,39"
      ∷ codes "3,call,12,fib,1,21,17,114,61" ∷ [])
  pub division : Writes example.division_program (1 ∷ []) USUAL_LIMIT (codes "7" ∷ codes "return 0" ∷ [])
  pub division_scale : Scales example.division_program (1 ∷ []) USUAL_BURDEN (codes ",15,13,1.153,15007,0.000" ∷ [])
  -- the lines that the continuation prints after a child's trap are not shown
  pub division_by_0 : TrapsAt example.division_program (0 ∷ []) USUAL_LIMIT trap.DivisionByZero 1
  pub division_by_0_shows_nothing : Writes example.division_program (0 ∷ []) USUAL_LIMIT []
  pub division_by_0_at_7 : TrapsAt example.division_program (0 ∷ []) 7 trap.DivisionByZero 1
  pub division_by_0_at_6 : IsOver example.division_program (0 ∷ []) 6
  pub division_by_0_beside_forever : TrapsAt example.division_beside_forever (0 ∷ []) 1000000 trap.DivisionByZero 1
  -- the lines printed before the trap are shown
  pub division_by_0_after_print : serial example.division_after_print (0 ∷ []) USUAL_LIMIT
      ≡ TrappedAt trap.DivisionByZero 1 (pos 1 ∷ [])
  pub division_by_0_after_print_shows : Writes example.division_after_print (0 ∷ []) USUAL_LIMIT (codes "1" ∷ [])
  pub over_shows_no_line : report_text Run example.fib_program no_burden (serial example.fib_program (4 ∷ []) 119) ≡ []
  pub over_shows_no_scale : report_text Scale example.fib_program no_burden
      (serial example.fib_program (4 ∷ []) 119) ≡ []
  pub over_shows_no_site : report_text Sites example.fib_program no_burden
      (serial example.fib_program (4 ∷ []) 119) ≡ []
  pub prints : Writes example.print_program [] USUAL_LIMIT (codes "1" ∷ codes "2" ∷ codes "3" ∷ codes "return 0" ∷ [])
  pub prints_scale : Scales example.print_program [] 0 (codes ",15,10,1.500,10,1.500" ∷ [])
  pub large_sum : Writes example.large_sum_program [] USUAL_LIMIT
      (codes "sum s = 18446744073709551614" ∷ codes "return 0" ∷ [])
  pub large_sum_scale : Scales example.large_sum_program [] 0 (codes ",11,8,1.375,8,1.375" ∷ [])
  pub late_print : Writes example.late_print [] USUAL_LIMIT (codes "1" ∷ codes "return 0" ∷ [])
  pub late_print_scale : Scales example.late_print [] 0 (codes ",12,12,1.000,12,1.000" ∷ [])
  pub overflow : TrapsAt example.overflow_program [] USUAL_LIMIT trap.Overflow 1
  pub overflow_at_2 : IsOver example.overflow_program [] 2
  -- the quotient is rounded toward zero, and the remainder has the dividend's sign
  pub quotient : Writes (example.operation Divide (Negative (example.number 7)) (example.number 2)) [] USUAL_LIMIT
      (codes "return -3" ∷ [])
  pub quotient_by_negative : Writes (example.operation Divide (example.number 7) (Negative (example.number 2))) []
      USUAL_LIMIT (codes "return -3" ∷ [])
  pub remainder : Writes (example.operation Modulo (Negative (example.number 7)) (example.number 2)) [] USUAL_LIMIT
      (codes "return -1" ∷ [])
  pub remainder_by_negative : Writes (example.operation Modulo (example.number 7) (Negative (example.number 2))) []
      USUAL_LIMIT (codes "return 1" ∷ [])
  pub remainder_by_0 : TrapsAt (example.operation Modulo (example.number 7) (example.number 0)) [] USUAL_LIMIT
      trap.DivisionByZero 1
  pub least_number : Writes (example.alone (example.give example.least ∷ [])) [] USUAL_LIMIT
      (codes "return -9223372036854775808" ∷ [])
  pub least_quotient : TrapsAt (example.operation Divide example.least (Negative (example.number 1))) [] USUAL_LIMIT
      trap.Overflow 1
  pub least_remainder : TrapsAt (example.operation Modulo example.least (Negative (example.number 1))) [] USUAL_LIMIT
      trap.Overflow 1
  pub least_negated : TrapsAt (example.alone (example.give (Negative example.least) ∷ [])) [] USUAL_LIMIT trap.Overflow
      1
  pub region : Writes example.region_program [] USUAL_LIMIT (codes "1" ∷ codes "2" ∷ codes "return 0" ∷ [])
  pub region_scale : Scales example.region_program [] 10
      (codes ",11,9,1.222,18,0.611" ∷ codes "r,7,5,1.400,14,0.500" ∷ [])
  -- of a child and a rest of one span the child is chosen
  pub tie : Attributes example.tie_program [] (codes "0,root,1,main,1,6,4,8,6" ∷ codes "1,spawn,1,f,1,2,2,2,2" ∷ [])
  pub accepted : report_text Check example.first_program no_burden OverLimit ≡ lines (codes "ok" ∷ [])
  -- an accepted report of the scale or the sites shows nothing of a trap
  pub trap_scale : report_text Scale example.division_program no_burden (serial example.division_program (0
      ∷ []) USUAL_LIMIT)
      ≡ []
  pub trap_sites : report_text Sites example.division_program no_burden (serial example.division_program (0
      ∷ []) USUAL_LIMIT)
      ≡ []

-- arrays, cuts and loops
pub record ArrayExamples : Type 0 where
  pub cut_outside : TrapsAt (example.cut_program 4) [] USUAL_LIMIT trap.OutOfBounds 1
  pub cut_at_end : Costs (example.cut_program 3) [] 9 (codes "0" ∷ codes "return 0" ∷ [])
  pub empty_cut_outside : TrapsAt (example.empty_cut_program 4) [] USUAL_LIMIT trap.OutOfBounds 1
  pub empty_cut : Costs (example.empty_cut_program 3) [] 7 (codes "return 0" ∷ [])
  pub fill : Costs example.fill_program [] 31 (codes "return 57" ∷ [])
  pub fill_scale : Scales example.fill_program [] 0 (codes ",31,26,1.192,26,1.192" ∷ [])
  pub length_below_0 : TrapsAt (example.length_program (example.minus (example.number 0) (example.number 1))) []
      USUAL_LIMIT trap.BadLength 1
  pub length_too_great : TrapsAt (example.length_program (example.number 16777217)) [] USUAL_LIMIT trap.BadLength 1
  pub length_0 : Costs (example.length_program (example.number 0)) [] 4 (codes "return 0" ∷ [])
  pub sum_loop : Costs (example.sum_program 0 4) [] 106 (codes "sum s = 6" ∷ codes "return 0" ∷ [])
  pub sum_loop_scale : Scales (example.sum_program 0 4) [] USUAL_BURDEN (codes ",106,66,1.606,15066,0.007" ∷ [])
  pub no_turn : Writes (example.sum_program 5 3) [] USUAL_LIMIT (codes "sum s = 0" ∷ codes "return 0" ∷ [])
  pub no_turn_scale : Scales (example.sum_program 5 3) [] USUAL_BURDEN (codes ",19,19,1.000,19,1.000" ∷ [])
  pub squares_printed : Writes (example.square_print_program 4) [] USUAL_LIMIT (codes "9" ∷ codes "return 0" ∷ [])
  pub squares_printed_scale : Scales (example.square_print_program 4) [] USUAL_BURDEN
      (codes ",136,86,1.581,15086,0.009" ∷ [])
  pub squares_past_the_end : TrapsAt (example.square_print_program 5) [] USUAL_LIMIT trap.OutOfBounds 1
  -- the instruction that starts the loop traps, before any iteration
  pub squares_past_the_end_at_5 : TrapsAt (example.square_print_program 5) [] 5 trap.OutOfBounds 1
  pub squares_past_the_end_at_4 : IsOver (example.square_print_program 5) [] 4
  pub squares : Costs (example.square_program 4 0 4 3) [] 134 (codes "return 9" ∷ [])
  pub squares_work : HasWork (example.square_program 4 0 4 3) [] 134
  pub cut_work : HasWork (example.cut_program 3) [] 9
  pub fifth_square : TrapsAt (example.square_program 4 0 5 3) [] USUAL_LIMIT trap.OutOfBounds 1
  -- an odd range: leaves of 2, 1 and 2 iterations
  pub five_squares : Costs (example.square_program 5 0 5 4) [] 192 (codes "return 16" ∷ [])
  pub squares_from_9 : Costs (example.square_program 4 9 4 3) [] 22 (codes "return 0" ∷ [])
  pub too_many_turns : TrapsAt (example.idle_loop (example.number 0) 2147483648) [] USUAL_LIMIT trap.TooManyIterations 1
  pub too_many_turns_at_3 : TrapsAt (example.idle_loop (example.number 0) 2147483648) [] 3 trap.TooManyIterations 1
  pub most_turns : IsOver (example.idle_loop (example.number 0) 2147483647) [] 3
  pub widest_range : TrapsAt (example.idle_loop
      (example.minus (Negative (example.number 9223372036854775807)) (example.number 1)) 9223372036854775807) []
      USUAL_LIMIT trap.TooManyIterations 1
  pub highest_turn : Costs (example.idle_loop (example.number 9223372036854775806) 9223372036854775807) [] 30
      (codes "return 0" ∷ [])

-- calls and signs far inside one another
pub record DeepExamples : Type 0 where
  pub too_deep : TrapsAt example.deep_program [] USUAL_LIMIT trap.TooDeep 1
  pub too_deep_at_59998 : TrapsAt example.deep_program [] 59998 trap.TooDeep 1
  pub over_at_59997 : IsOver example.deep_program [] 59997
  -- the cheapest way to the maximum depth: each call costs 1, and the next call traps
  pub too_deep_at_once : TrapsAt example.deepest_program [] 10000 trap.TooDeep 1
  pub too_deep_at_once_at_9999 : IsOver example.deepest_program [] 9999
  pub chain_too_deep : TrapsAt example.spawn_chain (9999 ∷ []) USUAL_LIMIT trap.TooDeep 1
  pub many_signs : Costs (example.alone (example.give (example.signs 254) ∷ [])) [] 256 (codes "return 1" ∷ [])

-- a chain of calls, each spawned by the one before
pub record ChainExamples : Type 0 where
  pub chain : Writes example.spawn_chain (300 ∷ []) USUAL_LIMIT (codes "return 300" ∷ [])
  pub chain_scale : Scales example.spawn_chain (300 ∷ []) USUAL_BURDEN (codes ",4512,4512,1.000,19506,0.231" ∷ [])
  pub chain_scale_without_burden : Scales example.spawn_chain (300 ∷ []) 0 (codes ",4512,4512,1.000,4512,1.000" ∷ [])
  pub longest_chain : Costs example.spawn_chain (9998 ∷ []) 149982 (codes "return 9998" ∷ [])

-- accepted programs, and the lines at which other programs are rejected
pub record FaultExamples : Type 0 where
  pub first : IsAccepted example.first_program
  pub echo : IsAccepted example.echo_program
  pub fib : IsAccepted example.fib_program
  pub division : IsAccepted example.division_program
  pub division_beside_forever : IsAccepted example.division_beside_forever
  pub prints : IsAccepted example.print_program
  pub sum : IsAccepted (example.sum_program 0 4)
  pub large_sum : IsAccepted example.large_sum_program
  pub late_print : IsAccepted example.late_print
  pub cut : IsAccepted (example.cut_program 4)
  pub empty_cut : IsAccepted (example.empty_cut_program 3)
  pub deep : IsAccepted example.deep_program
  pub squares_printed : IsAccepted (example.square_print_program 4)
  pub squares : IsAccepted (example.square_program 4 0 4 3)
  pub region : IsAccepted example.region_program
  pub overflow : IsAccepted example.overflow_program
  pub idle : IsAccepted (example.idle_loop example.least 2147483647)
  pub fill : IsAccepted example.fill_program
  pub length : IsAccepted (example.length_program (example.minus (example.number 0) (example.number 1)))
  pub tie : IsAccepted example.tie_program
  pub spawn_chain : IsAccepted example.spawn_chain
  pub signs : IsAccepted (example.alone (example.give (example.signs 254) ∷ []))
  -- a scope joins at its end, so nothing is taken in the second iteration
  pub sync_in_while :
      IsAccepted (example.while_program (Declare example.y (example.number 0) ∷ [])
      (example.spawn_into example.y 1 example.f (example.number 1 ∷ []) ∷ Sync ∷ []))
  pub spawn_in_scope : IsAccepted (example.spawn_into_own (λ body. Scope body))
  pub spawn_in_if : BreaksOwnership (example.spawn_into_own (λ body. If (example.number 1) body)) (3 ∷ [])
  pub unknown_callee : BreaksTypes example.unknown_callee (1 ∷ [])
  pub early_read : BreaksOwnership example.early_read (1 ∷ [])
  pub early_print : BreaksOwnership example.early_print (1 ∷ [])
  pub outer_assigned : BreaksOwnership example.outer_program (1 ∷ [])
  -- the second iteration reads, or writes, a name that the first iteration took
  pub spawn_in_while : BreaksOwnership
      (example.while_program [] (example.spawn_into example.x 1 example.f (example.number 1 ∷ []) ∷ [])) (1 ∷ 1 ∷ [])
  pub spawn_of_another_in_while :
      BreaksOwnership (example.while_program (Declare example.y (example.number 0) ∷ [])
      (example.spawn_into example.y 1 example.f (example.number 1 ∷ []) ∷ [])) (1 ∷ [])
  pub same_array_twice : BreaksOwnership example.same_array_twice (1 ∷ [])
  pub sync_in_cut : BreaksOwnership example.sync_in_cut (1 ∷ [])
  -- the reported line is the least line
  pub least_line : lowest None (3 ∷ 1 ∷ 2 ∷ []) ≡ Some 1
  pub no_line : lowest None [] ≡ None

-- the lines at which programs exceed limits
pub record LimitExamples : Type 0 where
  pub most_brackets : token_faults 0 0 (replicate 64 (token kind.LeftParen)) ≡ []
  pub brackets : token_faults 0 0 (replicate 65 (token kind.LeftParen)) ≡ 1 ∷ []
  pub closed_first : token_faults 0 0 (token kind.RightBrace ∷ replicate 65 (token kind.LeftBracket)) ≡ 1 ∷ []
  pub longest_row : token_faults 0 0 (replicate 256 (token kind.Minus)) ≡ []
  pub row : token_faults 0 0 (replicate 257 (token kind.Minus)) ≡ 1 ∷ []
  pub two_rows : token_faults 0 0
      (replicate 256 (token kind.Minus) ++ token kind.Semicolon ∷ replicate 256 (token kind.Not)) ≡ []
  pub most_names : limit_faults (example.many 256 (Declare example.x (example.number 0))) ≡ []
  pub names : limit_faults (example.many 257 (Declare example.x (example.number 0))) ≡ 257 ∷ []
  pub longest_tag : limit_faults (example.many 1 (Region (replicate 32 120) End)) ≡ []
  pub tag : limit_faults (example.many 1 (Region (replicate 33 120) End)) ≡ 1 ∷ []
  pub most_loops : loop_faults
      (example.many 4096 (For example.i example.i example.i (example.number 0) (example.number 1) 64 [] End)) ≡ []
  pub loops : loop_faults
      (example.many 4097 (For example.i example.i example.i (example.number 0) (example.number 1) 64 [] End))
      ≡ 4097 ∷ []
  -- loops of all functions are counted together
  pub loops_of_two_functions : loop_faults (example.of_functions (
      example.int_function example.f 9 []
      (example.each_on_its_line 1 9
      (For example.i example.i example.i (example.number 0) (example.number 1) 64 [] End))
      ∷ example.int_function example.main 1 [] (example.each_on_its_line 4096 1 (For example.i example.i example.i
      (example.number 0) (example.number 1) 64 [] End)) ∷ [])) ≡ 4096 ∷ []
  -- limits that no program here comes near
  pub longest_source : MOST_SOURCE_BYTES ≡ 1024 * 1024
  pub longest_name : MOST_NAME_BYTES ≡ 2 ^ 6
  pub greatest_number : suc MOST_NUMBER ≡ 2 ^ 63
  pub greatest_limit : MOST_LIMIT ≡ 2 ^ 62
  pub greatest_burden : MOST_BURDEN ≡ 10 ^ 9
  pub limit_that_is_usual : USUAL_LIMIT ≡ 10 ^ 9
  pub most_functions_told : MOST_TOP ≡ 2 ^ 6
  pub functions_told_as_usual : USUAL_TOP ≡ 5 * 2

-- strand trees
pub record TreeExamples : Type 0 where
  -- three prints, of which two are spawned
  pub prints : (value : ℤ) × (printed : List ℤ) × (totals : List Total)
      × (serial example.print_program [] USUAL_LIMIT ≡ Ended value printed totals
      (Marked (Invocation 0) (Seq (Leaf 2) (Seq (Par (Marked (Invocation 1) (Leaf 3))
      (Seq (Leaf 2) (Par (Marked (Invocation 2) (Leaf 3)) (Leaf 2)))) (Leaf 3)))))
  -- a plain call is in series with the instructions around it
  pub call_between : serial
      (example.with_same (example.call 1 example.f (example.number 1 ∷ []) ∷ example.give (example.number 0) ∷ [])) []
      USUAL_LIMIT
      ≡ Ended (pos 0) [] [] (Marked (Invocation 0) (Seq (Leaf 2) (Seq (Marked (Invocation 1) (Leaf 2)) (Leaf 2))))
  -- one sync block after another
  pub two_sync_blocks : serial (example.idle_and
      (example.spawn 1 example.p [] ∷ Sync ∷ example.spawn 2 example.p [] ∷ example.give (example.number 0) ∷ []))
      [] USUAL_LIMIT
      ≡ Ended (pos 0) [] [] (Marked (Invocation 0)
      (Seq (Leaf 1) (Seq (Par (Marked (Invocation 1) (Leaf 1)) (Leaf 0))
      (Seq (Leaf 2) (Seq (Par (Marked (Invocation 2) (Leaf 1)) (Leaf 1)) (Leaf 1))))))

-- static sizes and counts of call statements
pub record SizeExamples : Type 0 where
  pub first : static_size example.first_program ≡ 9
  pub first_calls : call_count example.first_program ≡ 1
  pub fib : static_size example.fib_program ≡ 29
  pub loop : static_size (example.sum_program 0 4) ≡ 42
