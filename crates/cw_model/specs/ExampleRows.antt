-- Worked examples of reports: rows of tags and sites, and whole texts byte by byte.
-- `a || b` is a child of weight a in parallel with a continuation of weight b.
use Rattle.std.specs.Prelude.{◌≡◌, [], ◌∷◌, ◌++◌, codes}
use Rattle.cw_model.specs.declared.limits.TheConstants.{USUAL_LIMIT, USUAL_BURDEN}
use Rattle.cw_model.specs.declared.syntax.Operator.TheVariants.{Less}
use Rattle.cw_model.specs.Burdens.{no_burden}
use Rattle.cw_model.specs.Syntax.{Variable, Binary, Declare, If, Region, Print, For, Sync, End, Program}
use Rattle.cw_model.specs.Answers.{OverLimit}
use Rattle.cw_model.specs.Report.{Check, Run, Scale, Sites, report_text, csv_field, csv_line, tags_of, parallelism}
use Rattle.cw_model.specs.Examples.{serial, Scales, ScalesBoth, Attributes}
use Rattle.cw_model.specs.ExamplePrograms.{f, i, n, p, r, t, v, main, number, minus, int_param, int_function}
use Rattle.cw_model.specs.ExamplePrograms.{void_function, of_functions, block, give, call, call_into, spawn, main_of}
use Rattle.cw_model.specs.ExamplePrograms.{alone, first_program, fib_program, maximum_program, idle_and}
use Rattle.cw_model.specs.ExamplePrograms.{once_in_every_block}

-- a region in a recursion
abbrev pub nested_region_program : Program
nested_region_program = of_functions (
    int_function f 1 (int_param n ∷ []) (block (
    If (Binary Less (Variable n) (number 1)) (block (give (number 0) ∷ []))
    ∷ Declare r (number 0) ∷ Region t (block (call_into r 1 f (minus (Variable n) (number 1) ∷ []) ∷ []))
    ∷ give (Variable r) ∷ []))
    ∷ int_function main 1 (int_param n ∷ [])
    (block (Declare r (number 0) ∷ call_into r 2 f (Variable n ∷ []) ∷ give (Variable r) ∷ []))
    ∷ [])

-- one tag, executed twice, each time with a spawn
abbrev pub two_executions_program : Program
two_executions_program =
    idle_and (Region t (block (spawn 1 p [] ∷ Print (number 1) ∷ []))
    ∷ Region t (block (spawn 2 p [] ∷ Print (number 1) ∷ [])) ∷ give (number 0) ∷ [])

-- a child that spawns in two sync blocks, in parallel with a short continuation
abbrev pub spawning_child_program : Program
spawning_child_program = of_functions (
    void_function p [] End
    ∷ void_function f [] (block (spawn 1 p [] ∷ Sync ∷ spawn 2 p [] ∷ []))
    ∷ main_of (spawn 3 f [] ∷ give (number 0) ∷ [])
    ∷ [])

-- one tag inside another
abbrev pub two_tags_program : Program
two_tags_program =
    alone (Region t (block (Region r (block (Print (number 1) ∷ [])) ∷ Print (number 2) ∷ [])) ∷ give (number 0) ∷ [])

-- a short child in parallel with a longer continuation
abbrev pub longer_rest_program : Program
longer_rest_program = of_functions (
    int_function f 1 [] (block (give (number 0) ∷ []))
    ∷ main_of (spawn 1 f [] ∷ Print (number 1) ∷ Print (number 2) ∷ Sync ∷ give (number 0) ∷ [])
    ∷ [])

-- a child with more work, most of it spawned, in parallel with a continuation with a larger span
abbrev pub wide_child_program : Program
wide_child_program = of_functions (
    void_function p [] End
    ∷ void_function f [] (block (spawn 1 p [] ∷ spawn 2 p [] ∷ spawn 3 p [] ∷ []))
    ∷ main_of (spawn 4 f [] ∷ Print (number 1) ∷ Print (number 2) ∷ Print (number 3) ∷ Sync ∷ give (number 0) ∷ [])
    ∷ [])

-- a child of seven instructions in parallel with a continuation with more work, most of it spawned, and a smaller span
abbrev pub wide_rest_program : Program
wide_rest_program = of_functions (
    void_function p [] End
    ∷ void_function f [] (block (Print (number 1) ∷ Print (number 2) ∷ Print (number 3) ∷ []))
    ∷ main_of (
    spawn 1 f [] ∷ spawn 2 p [] ∷ spawn 3 p [] ∷ spawn 4 p [] ∷ Print (number 1) ∷ Sync ∷ give (number 0) ∷ [])
    ∷ [])

-- rows of tags and sites
pub record RowExamples : Type 0 where
  -- the inner execution is not counted a second time
  pub nested_region :
      Scales nested_region_program (2 ∷ []) USUAL_BURDEN
      (codes ",40,40,1.000,40,1.000" ∷ codes "t,24,24,1.000,24,1.000" ∷ [])
  -- the instructions in a region belong to the call around the region
  pub nested_region_sites : Attributes nested_region_program (2 ∷ [])
      (codes "0,root,1,main,1,6,6,40,40" ∷ codes "1,call,1,f,2,20,20,20,20" ∷ codes "2,call,1,f,1,14,14,34,34" ∷ [])
  pub two_executions :
      Scales two_executions_program [] 10 (codes ",14,12,1.166,32,0.437" ∷ codes "t,8,6,1.333,26,0.307" ∷ [])
  -- the longer side is the child, with a burden for each of its continuations: 1 + (1 + 10 + 2 + 10 + 1 || 10 + 1) + 1
  pub burdens_of_a_child : Scales spawning_child_program [] 10 (codes ",9,8,1.125,26,0.346" ∷ [])
  -- each child is charged, too, so that a path runs through each: 1 + (10 + 1 + 11 + 2 + 11 + 1 || 10 + 1) + 1
  pub burdens_of_both_edges : ScalesBoth spawning_child_program [] 10 (codes ",9,8,1.125,38,0.236" ∷ [])
  pub return_edges_of_a_recursion : ScalesBoth fib_program (4 ∷ []) 100 (codes ",120,67,1.791,367,0.326" ∷ [])
  pub return_edges_in_a_region :
      ScalesBoth (of_functions (
      void_function p (int_param v ∷ []) (block (Print (Variable v) ∷ []))
      ∷ main_of (Region r (block (spawn 1 p (number 1 ∷ []) ∷ Print (number 2) ∷ [])) ∷ give (number 0) ∷ []) ∷ []))
      [] 10
      (codes ",11,9,1.222,19,0.578" ∷ codes "r,7,5,1.400,15,0.466" ∷ [])
  pub rows_of_a_greatest : Scales (maximum_program 0 4) [] 0 (codes ",122,74,1.648,74,1.648" ∷ [])
  pub two_tags :
      Scales two_tags_program [] 0
      (codes ",10,10,1.000,10,1.000" ∷ codes "t,6,6,1.000,6,1.000" ∷ codes "r,2,2,1.000,2,1.000" ∷ [])
  pub two_tags_sites : Attributes two_tags_program [] (codes "0,root,1,main,1,10,10,10,10" ∷ [])
  pub never_executed :
      Scales (alone (If (number 0) (block (Region t End ∷ [])) ∷ give (number 0) ∷ [])) [] 10
      (codes ",4,4,1.000,4,1.000" ∷ codes "t,0,0,0.000,0,0.000" ∷ [])
  pub site_in_loop :
      Attributes (idle_and (For i i i (number 0) (number 2) 64 [] (block (call 1 p [] ∷ [])) ∷ give (number 0) ∷ [])) []
      (codes "0,root,1,main,1,43,43,45,45" ∷ codes "1,call,1,p,2,2,2,2,2" ∷ [])
  pub longer_rest :
      Attributes longer_rest_program [] (codes "0,root,1,main,1,8,8,10,8" ∷ codes "1,spawn,1,f,1,2,0,2,2" ∷ [])
  -- the child has work 3 + 3 + 1 and span 1 + (1 + 2) + 1, the rest 6
  pub wide_child : Attributes wide_child_program [] (codes "0,root,1,main,1,10,10,17,10"
      ∷ codes "1,spawn,1,p,1,1,0,1,1" ∷ codes "2,spawn,1,p,1,1,0,1,1" ∷ codes "3,spawn,1,p,1,1,0,1,1"
      ∷ codes "4,spawn,1,f,1,4,0,7,5" ∷ [])
  -- the child has span 7, the rest work 2 + 2 + 2 + 2 and span 1 + 1 + 1 + 2
  pub wide_rest : Attributes wide_rest_program [] (codes "0,root,1,main,1,9,4,19,11"
      ∷ codes "1,spawn,1,f,1,7,7,7,7" ∷ codes "2,spawn,1,p,1,1,0,1,1"
      ∷ codes "3,spawn,1,p,1,1,0,1,1" ∷ codes "4,spawn,1,p,1,1,0,1,1" ∷ [])
  pub never_called :
      Attributes (idle_and (If (number 0) (block (spawn 1 p [] ∷ [])) ∷ give (number 0) ∷ [])) []
      (codes "0,root,1,main,1,4,4,4,4" ∷ codes "1,spawn,1,p,0,0,0,0,0" ∷ [])
  pub tags_by_place :
      tags_of (of_functions (int_function main 1 [] (once_in_every_block (λ line. Region (line ∷ []) End) End) ∷ []))
      ≡ (3 ∷ []) ∷ (5 ∷ []) ∷ (6 ∷ []) ∷ (8 ∷ []) ∷ (10 ∷ []) ∷ (12 ∷ []) ∷ (14 ∷ []) ∷ t ∷ (16 ∷ []) ∷ []
  pub tags_once : tags_of (idle_and (Region r End ∷ Region t End ∷ Region r End ∷ [])) ≡ r ∷ t ∷ []

-- whole texts
pub record TextExamples : Type 0 where
  pub check : report_text Check first_program no_burden OverLimit ≡ codes "ok" ++ 10 ∷ []
  pub run : report_text Run first_program no_burden (serial first_program [] USUAL_LIMIT) ≡ codes "return 1" ++ 10 ∷ []
  pub scale : report_text Scale first_program no_burden (serial first_program [] USUAL_LIMIT)
      ≡ codes "tag,work,span,parallelism,burdened_span,burdened_parallelism"
      ++ 10 ∷ (codes ",9,9,1.000,9,1.000" ++ 10 ∷ [])
  pub sites : report_text Sites first_program no_burden (serial first_program [] USUAL_LIMIT)
      ≡ codes "site,kind,line,callee,calls,own_work,own_span,work,span"
      ++ 10 ∷ (codes "0,root,1,main,1,7,7,9,9" ++ 10 ∷ (codes "1,spawn,1,f,1,2,2,2,2" ++ 10 ∷ []))
  pub plain_fields : csv_line (codes "a" ∷ [] ∷ codes "b_1" ∷ []) ≡ codes "a,,b_1" ++ 10 ∷ []
  -- quoted fields: a quote in a field is doubled
  pub comma : csv_field (codes "a,b") ≡ codes "\"a,b\""
  pub quote : csv_field (codes "a\"b") ≡ codes "\"a\"\"b\""
  pub ends_of_lines : csv_line ((13 ∷ []) ∷ codes "x" ∷ (97 ∷ 10 ∷ []) ∷ [])
      ≡ 34 ∷ 13 ∷ 34 ∷ 44 ∷ 120 ∷ 44 ∷ 34 ∷ 97 ∷ 10 ∷ 34 ∷ 10 ∷ []
  pub zeros_after_the_point : parallelism 2010 2000 ≡ codes "1.005"
  pub rounded_down : parallelism 1999999 1000000 ≡ codes "1.999"
  pub tens : parallelism 123 10 ≡ codes "12.300"
  pub span_0 : parallelism 5 0 ≡ codes "0.000"
