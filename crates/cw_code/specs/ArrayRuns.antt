-- Small codes with arrays, cuts and loops, written by hand, and their sources.
use Rattle.std.specs.Prelude.{◌≡◌, ℕ, pos, true, false, [], ◌∷◌, Some}
use Rattle.cw_model.specs.declared.syntax.CallKind.TheVariants.{Plain, Spawned}
use Rattle.cw_model.specs.declared.syntax.NameKind.TheVariants.{Array}
use Rattle.cw_model.specs.declared.syntax.Operator.TheVariants.{Plus, Minus, Less, AtMost, Divide}
use Rattle.cw_model.specs.Syntax.{Name, Stmt, Block, End, Then, Program}
use Rattle.cw_model.specs.Syntax as source
use Rattle.cw_model.specs.Sites.{Of}
use Rattle.cw_model.specs.Answers.{OverLimit, main_name, serial_answer}
use Rattle.cw_code.specs.declared.code.BlockKind.TheVariants.{Scope}
use Rattle.cw_code.specs.declared.code.Instr.TheVariants.{Push, Load, Store, Binary, Skip, SkipIfZero, GoBack, Call}
use Rattle.cw_code.specs.declared.code.Instr.TheVariants.{Recur, Start, NewArray, Length, Element, SetElement, Cut}
use Rattle.cw_code.specs.declared.code.Instr.TheVariants.{EndCut, Open, Close, ReturnValue, Return}
use Rattle.cw_code.specs.Code.{Code}
use Rattle.cw_code.specs.Run.{code_serial}

-- names of one letter
abbrev pub a_name : Name
a_name = 97 ∷ []

-- the name `f`
abbrev pub f_name : Name
f_name = 102 ∷ []

-- the name `i`
abbrev pub i_name : Name
i_name = 105 ∷ []

-- the name `l`
abbrev pub l_name : Name
l_name = 108 ∷ []

-- the name `n`
abbrev pub n_name : Name
n_name = 110 ∷ []

-- the name `r`
abbrev pub r_name : Name
r_name = 114 ∷ []

-- a statement in a line, and the statements after it
abbrev pub in_line : ℕ → Stmt → Block → Block
in_line line s b = Then line s b

-- line 1: `int f(int a[]) { a[0] = 7; return len(a); }`
-- line 2: `int main() { int a[3]; int n = 0; cut a at 1 as l, r { n = cilk_spawn f(r); l[0] = 5; }`
-- then `return a[1] + n; }`
abbrev pub cut_source : Program
cut_source = record {
  reducers = [];
  functions =
      record {
        name = f_name;
        line = 1;
        gives_int = true;
        params = record { name = a_name; kind = Array } ∷ [];
        body =
            in_line 1 (source.AssignElement a_name (source.Number (pos 0)) (source.Number (pos 7)))
            (in_line 1 (source.Return (Some (source.Length a_name))) End);
      }
      ∷ record {
        name = main_name;
        line = 2;
        gives_int = true;
        params = [];
        body =
            in_line 2 (source.DeclareArray a_name (source.Number (pos 3)))
            (in_line 2 (source.Declare n_name (source.Number (pos 0)))
            (in_line 2 (source.Cut a_name (source.Number (pos 1)) l_name r_name
            (in_line 2 (source.Call Spawned 1 (Some n_name) f_name (source.Variable r_name ∷ []))
            (in_line 2 (source.AssignElement l_name (source.Number (pos 0)) (source.Number (pos 5))) End)))
            (in_line 2 (source.Return (Some (source.Binary Plus (source.Element a_name (source.Number (pos 1)))
            (source.Variable n_name)))) End)));
      }
      ∷ [];
}

-- the code of `cut_source`
abbrev pub cut_code : Code
cut_code = record {
  instrs =
      Push (pos 0) ∷ Push (pos 7) ∷ SetElement 0 1 ∷ Length 0 ∷ ReturnValue
      ∷ Push (pos 3) ∷ NewArray 0 2 ∷ Push (pos 0) ∷ Store 0 ∷ Push (pos 1)
      ∷ Cut (record { array = 0; left = 1; right = 2 }) 2
      ∷ Call Spawned (record { function = 0; site = 1; line = 2; target = Some 0; passed = 0; lent = 0 }) ∷ Push (pos 0)
      ∷ Push (pos 5) ∷ SetElement 1 2 ∷ EndCut
      ∷ Push (pos 1) ∷ Element 0 2 ∷ Load 0 ∷ Binary Plus 2 ∷ ReturnValue ∷ [];
  funcs =
      record { start = 0; end = 5; gives_int = true; params = 0; slots = 0; array_params = 1; arrays = 1; readers = 0 }
      ∷ record
      { start = 5; end = 21; gives_int = true; params = 0; slots = 1; array_params = 0; arrays = 3; readers = 0 }
      ∷ [];
  main = 1;
  main_line = 1;
  sites = record { told = record { number = 1; kind = Of Spawned; line = 2; callee = f_name }; function = 0 } ∷ [];
  reducers = [];
  tags = [];
  passed = (2 ∷ []) ∷ [];
  lent = [];
}

-- `int main() { int a[3]; cilk_for (int i = 1; i < 3; i++) grain 1 over (a) { a[i] = i; } return a[2]; }`
abbrev pub loop_source : Program
loop_source = record {
  reducers = [];
  functions = record {
    name = main_name;
    line = 1;
    gives_int = true;
    params = [];
    body =
        in_line 1 (source.DeclareArray a_name (source.Number (pos 3)))
        (in_line 1 (source.For i_name i_name i_name (source.Number (pos 1)) (source.Number (pos 3)) 1 (a_name
        ∷ []) (in_line 1 (source.AssignElement a_name (source.Variable i_name) (source.Variable i_name)) End))
        (in_line 1 (source.Return (Some (source.Element a_name (source.Number (pos 2))))) End));
  } ∷ [];
}

-- the loop's function: a leaf if the range has one iteration, otherwise both halves of its range and its array
abbrev pub loop_code : Code
loop_code = record {
  instrs =
      Load 1 ∷ Load 0 ∷ Binary Minus 1 ∷ Push (pos 1) ∷ Binary AtMost 1 ∷ SkipIfZero 19
      ∷ Load 0 ∷ Store 2
      ∷ Load 2 ∷ Load 1 ∷ Binary Less 1 ∷ SkipIfZero 12
      ∷ Open Scope ∷ Load 2 ∷ Load 0 ∷ Binary Minus 1 ∷ Load 2 ∷ SetElement 0 1 ∷ Close
      ∷ Load 2 ∷ Push (pos 1) ∷ Binary Plus 1 ∷ Store 2 ∷ GoBack 15
      ∷ Skip 19
      ∷ Load 0 ∷ Load 1 ∷ Load 0 ∷ Binary Minus 1 ∷ Push (pos 2) ∷ Binary Divide 1 ∷ Binary Plus 1 ∷ Store 2
      ∷ Load 2 ∷ Load 0 ∷ Binary Minus 1 ∷ Cut (record { array = 0; left = 1; right = 2 }) 1
      ∷ Load 0 ∷ Load 2 ∷ Recur Spawned (record { function = 0; passed = 0 })
      ∷ Load 2 ∷ Load 1 ∷ Recur Plain (record { function = 0; passed = 1 })
      ∷ EndCut ∷ Return
      ∷ Push (pos 3) ∷ NewArray 0 1 ∷ Push (pos 1) ∷ Push (pos 3) ∷ Start (record { function = 0; passed = 2 }) 1
      ∷ Push (pos 2) ∷ Element 0 1 ∷ ReturnValue ∷ [];
  funcs =
      record { start = 0; end = 45; gives_int = false; params = 2; slots = 3; array_params = 1; arrays = 3; readers = 0 }
      ∷ record
      { start = 45; end = 53; gives_int = true; params = 0; slots = 0; array_params = 0; arrays = 1; readers = 0 }
      ∷ [];
  main = 1;
  main_line = 1;
  sites = [];
  reducers = [];
  tags = [];
  passed = (1 ∷ []) ∷ (2 ∷ []) ∷ (0 ∷ []) ∷ [];
  lent = [];
}

-- each code has the answer of its source, including the tree, at the same cost
pub record ArrayRuns : Type 0 where
  pub cut_runs : code_serial cut_code [] 21 ≡ Some (serial_answer cut_source [] 21)
  pub cut_over : code_serial cut_code [] 20 ≡ Some OverLimit
  pub loop_runs : code_serial loop_code [] 94 ≡ Some (serial_answer loop_source [] 94)
  pub loop_over : code_serial loop_code [] 93 ≡ Some OverLimit
