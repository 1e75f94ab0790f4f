-- A small code, written by hand, with an array that two calls read in parallel.
use Rattle.std.specs.Prelude.{◌≡◌, pos, true, [], ◌∷◌, Some}
use Rattle.cw_model.specs.declared.syntax.CallKind.TheVariants.{Spawned}
use Rattle.cw_model.specs.Sites.{Of}
use Rattle.cw_model.specs.Trees.{Tree, Leaf, Seq, Par, Marked, Invocation, work, span}
use Rattle.cw_model.specs.Answers.{Ended, OverLimit}
use Rattle.cw_code.specs.declared.code.Instr.TheVariants.{Push, Load, Store, Call, NewArray, Element, SetElement}
use Rattle.cw_code.specs.declared.code.Instr.TheVariants.{ReadElement, Sync, Print, ReturnValue}
use Rattle.cw_code.specs.declared.code.Loan.TheVariants.{Array}
use Rattle.cw_code.specs.Code.{Code}
use Rattle.cw_code.specs.Run.{code_serial}

-- line 1: `int get(const int a[], int i) { return a[i]; }`
-- line 2: `int main() { int a[2]; int x = 0; a[1] = 5; x = cilk_spawn get(a, 1); print(a[1]);`
-- then `cilk_sync; a[0] = x; return a[0]; }`
abbrev pub read_code : Code
read_code = record {
  instrs =
      Load 0 ∷ ReadElement 0 1 ∷ ReturnValue
      ∷ Push (pos 2) ∷ NewArray 0 2 ∷ Push (pos 0) ∷ Store 0
      ∷ Push (pos 1) ∷ Push (pos 5) ∷ SetElement 0 2 ∷ Push (pos 1)
      ∷ Call Spawned (record { function = 0; site = 1; line = 2; target = Some 0; passed = 0; lent = 0 })
      ∷ Push (pos 1) ∷ Element 0 2 ∷ Print ∷ Sync
      ∷ Push (pos 0) ∷ Load 0 ∷ SetElement 0 2 ∷ Push (pos 0) ∷ Element 0 2 ∷ ReturnValue ∷ [];
  funcs =
      record { start = 0; end = 3; gives_int = true; params = 1; slots = 1; array_params = 0; arrays = 0; readers = 1 }
      ∷ record
      { start = 3; end = 22; gives_int = true; params = 0; slots = 1; array_params = 0; arrays = 1; readers = 0 }
      ∷ [];
  main = 1;
  main_line = 2;
  sites =
      record { told = record { number = 1; kind = Of Spawned; line = 2; callee = 103 ∷ 101 ∷ 116 ∷ [] }; function = 0 }
      ∷ [];
  reducers = [];
  tags = [];
  passed = [] ∷ [];
  lent = (Array 0 ∷ []) ∷ [];
}

-- the spawned call is parallel to the instructions after it, up to the join
abbrev pub read_tree : Tree
read_tree = Marked (Invocation 0) (Seq (Leaf 9) (Seq (Par (Marked (Invocation 1) (Leaf 3)) (Leaf 3)) (Leaf 7)))

-- the code prints an element that the spawned call also reads, writes the array after the join, and costs 22
pub record ReadRuns : Type 0 where
  pub runs : code_serial read_code [] 22 ≡ Some (Ended (pos 5) (pos 5 ∷ []) [] read_tree)
  pub over : code_serial read_code [] 21 ≡ Some OverLimit
  pub costs : work read_tree ≡ 22
  pub spans : span read_tree ≡ 19
