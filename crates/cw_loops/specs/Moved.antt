-- Lowering by slot: the result of lowering the loops of a resolved tree.
use Rattle.std.specs.Prelude.{ℕ, ◌+◌, ◌-◌, ◌^◌, ◌==◌, min, nat_lt, Bool, true, false, ◌&&◌, if◌then◌else◌, List, []}
use Rattle.std.specs.Prelude.{◌∷◌, ◌++◌, length, map, Option, Some, None}
use Rattle.cw_model.specs.declared.syntax.Operator.TheVariants.{Minus}
use Rattle.cw_tree.specs.Resolved.{Use, is_slot_in}
use Rattle.cw_tree.specs.Resolved as source
use Rattle.cw_loops.specs.Slotted.{Expr, Number, Variable, Element, Length, Negative, Not, Binary, Argument, Int}
use Rattle.cw_loops.specs.Slotted.{Array, Shared, Stmt, Declare, DeclareArray, Assign, AssignElement, Reduce, Call}
use Rattle.cw_loops.specs.Slotted.{Begin}
use Rattle.cw_loops.specs.Slotted.{Sync, If, IfElse, While, Scope, Cut, Region, Print, Return, Block, End, Then}

-- the maximum slot or index that a tree can hold
abbrev pub most_slot : ℕ
most_slot = 2 ^ 32 - 1

-- a slot or an index, at most the maximum; within the limits no program exceeds the maximum
abbrev pub slot : ℕ → ℕ
slot n = min n most_slot

-- the new slots of the locals of a source function; for the body of a loop: the numbers of integers and arrays known
-- before its head, the slots of the captured ones, in order, and the new slot of the first local of each kind that the
-- body declares
pub record Moves : Type 0 where
  pub ints_before : ℕ
  pub captured : List ℕ
  pub first_int : ℕ
  pub arrays_before : ℕ
  pub over : List ℕ
  pub first_array : ℕ

-- the mapping outside of all loops
abbrev pub nothing_moved : Moves
nothing_moved = record { ints_before = 0; captured = []; first_int = 0; arrays_before = 0; over = []; first_array = 0 }

-- the slots of uses
abbrev pub slots_of : List Use → List ℕ
slots_of uses = map (λ u. u.slot) uses

-- the mapping for a loop's body, with this number of arrays before its head; slots 0 and 1 are the range's ends
abbrev pub moves_of : source.Head → ℕ → Moves
moves_of head arrays = record {
  ints_before = head.variable.slot;
  captured = slots_of head.captured;
  first_int = slot (slot (length head.captured) + 2);
  arrays_before = arrays;
  over = slots_of head.over;
  first_array = slot (length head.over);
}

-- the first position of a slot among others, counted from `n`
abbrev pub place_from : ℕ → ℕ → List ℕ → ℕ
place_from n s [] = n
place_from n s (k ∷ ks) = if k == s then n else place_from (slot (n + 1)) s ks

-- the new slot of an integer
abbrev pub moved_int : Moves → ℕ → ℕ
moved_int m s = if nat_lt s m.ints_before then place_from 2 s m.captured else slot (s - m.ints_before + m.first_int)

-- the new slot of an array
abbrev pub moved_array : Moves → ℕ → ℕ
moved_array m s = if nat_lt s m.arrays_before then place_from 0 s m.over else slot (s - m.arrays_before + m.first_array)

-- the array is an array of the loop
abbrev pub is_over : Moves → ℕ → Bool
is_over m s = nat_lt s m.arrays_before && is_slot_in s m.over

-- an index into an array of the loop counts from the lower end of the range
abbrev pub from_low : Bool → Expr → Expr
from_low true e = Binary Minus e (Variable 0)
from_low false e = e

-- an expression with the new slots
abbrev pub moved_expr : Moves → source.Expr → Expr
moved_expr m (source.Number n) = Number n
moved_expr m (source.Variable u) = Variable (moved_int m u.slot)
moved_expr m (source.Element u e) = Element (moved_array m u.slot) (from_low (is_over m u.slot) (moved_expr m e))
moved_expr m (source.Length u) = Length (moved_array m u.slot)
moved_expr m (source.Negative e) = Negative (moved_expr m e)
moved_expr m (source.Not e) = Not (moved_expr m e)
moved_expr m (source.Binary operator d e) = Binary operator (moved_expr m d) (moved_expr m e)

-- an argument with the new slots
abbrev pub moved_argument : Moves → source.Argument → Argument
moved_argument m (source.Int e) = Int (moved_expr m e)
moved_argument m (source.Array u) = Array (moved_array m u.slot)
moved_argument m (source.Shared u) = Shared (moved_array m u.slot)

-- the target of a call with its new slot
abbrev pub moved_target : Moves → Option Use → Option ℕ
moved_target m None = None
moved_target m (Some u) = Some (moved_int m u.slot)

-- the expression of a return with the new slots
abbrev pub moved_return : Moves → Option source.Expr → Option Expr
moved_return m None = None
moved_return m (Some e) = Some (moved_expr m e)

-- the slots of the integers and of the arrays that a loop captures, at its beginning
abbrev pub moved_ints : Moves → List Use → List ℕ
moved_ints m uses = map (λ u. moved_int m u.slot) uses

abbrev pub moved_arrays : Moves → List Use → List ℕ
moved_arrays m uses = map (λ u. moved_array m u.slot) uses

-- the number of known arrays after a statement
abbrev pub arrays_after : ℕ → source.Stmt → ℕ
arrays_after arrays (source.DeclareArray u e) = slot (u.slot + 1)
arrays_after arrays _ = arrays

-- the function of a loop: its line and grain, the numbers of captured integers and of its arrays, and its body
pub record Loop : Type 0 where
  pub line : ℕ
  pub grain : ℕ
  pub captured : ℕ
  pub over : ℕ
  pub body : Block

-- a statement without inner blocks, with the new slots
abbrev pub moved_alone : Moves → source.Stmt → Stmt
moved_alone m (source.Declare u e) = Declare (moved_int m u.slot) (moved_expr m e)
moved_alone m (source.DeclareArray u e) = DeclareArray (moved_array m u.slot) (moved_expr m e)
moved_alone m (source.Assign u e) = Assign (moved_int m u.slot) (moved_expr m e)
moved_alone m (source.AssignElement u i e) =
    AssignElement (moved_array m u.slot) (from_low (is_over m u.slot) (moved_expr m i)) (moved_expr m e)
moved_alone m (source.Reduce how s e) = Reduce how s.index (moved_expr m e)
moved_alone m (source.Call kind site target f es) =
    Call kind site (moved_target m target) f.index (map (moved_argument m) es)
moved_alone m (source.Print e) = Print (moved_expr m e)
moved_alone m (source.Return e) = Return (moved_return m e)
moved_alone m _ = Sync

-- the call that begins a loop, whose function has this index
abbrev pub moved_head : Moves → ℕ → source.Head → Stmt
moved_head m callee head =
    Begin callee (moved_expr m head.from) (moved_expr m head.to) (moved_ints m head.captured) (moved_arrays m head.over)

-- the function of a loop in this line, with its lowered body
abbrev pub loop_with : ℕ → source.Head → Block → Loop
loop_with line head body =
    record {
      line = line;
      grain = head.grain;
      captured = slot (length head.captured);
      over = slot (length head.over);
      body = body;
    }

-- the index of the function of the next loop, after the functions of the source and the loops so far
abbrev pub loop_index : (functions loops : ℕ) → ℕ
loop_index functions loops = slot (slot loops + functions)

-- a lowered statement, and the loops so far with its loops appended, each after the loops in its body
pub record Made : Type 0 where
  pub stmt : Stmt
  pub loops : List Loop

-- a lowered block, and the loops so far with its loops appended
pub record MadeAll : Type 0 where
  pub block : Block
  pub loops : List Loop

-- a statement with one lowered block
abbrev pub around_one : (Block → Stmt) → MadeAll → Made
around_one form inner = record { stmt = form inner.block; loops = inner.loops }

-- a loop with its lowered body
abbrev pub around_loop : (functions : ℕ) → Moves → ℕ → source.Head → MadeAll → Made
around_loop functions m line head inner = record {
  stmt = moved_head m (loop_index functions (length inner.loops)) head;
  loops = inner.loops ++ loop_with line head inner.block ∷ [];
}

-- a cut with its lowered block
abbrev pub moved_cut : Moves → source.Parts → Block → Stmt
moved_cut m parts body =
    Cut (moved_array m parts.array.slot) (moved_expr m parts.at) (moved_array m parts.left.slot)
    (moved_array m parts.right.slot) body

-- a lowered statement followed by a lowered block
abbrev pub followed : ℕ → Stmt → MadeAll → MadeAll
followed line s rest = record { block = Then line s rest.block; loops = rest.loops }

abbrev mutual
  -- lowers a statement, given the number of source functions, the mapping, the known arrays and the loops so far
  pub made_stmt : (functions : ℕ) → Moves → (arrays : ℕ) → List Loop → (line : ℕ) → source.Stmt → Made
  made_stmt n m arrays loops line (source.If e b) = around_one (If (moved_expr m e)) (made_block n m arrays loops b)
  made_stmt n m arrays loops line (source.IfElse e b c) =
      let first = made_block n m arrays loops b in
      around_one (IfElse (moved_expr m e) first.block) (made_block n m arrays first.loops c)
  made_stmt n m arrays loops line (source.While e b) =
      around_one (While (moved_expr m e)) (made_block n m arrays loops b)
  made_stmt n m arrays loops line (source.For head b) =
      around_loop n m line head (made_block n (moves_of head arrays) arrays loops b)
  made_stmt n m arrays loops line (source.Scope b) = around_one Scope (made_block n m arrays loops b)
  made_stmt n m arrays loops line (source.Cut parts b) =
      around_one (moved_cut m parts) (made_block n m (slot (parts.right.slot + 1)) loops b)
  made_stmt n m arrays loops line (source.Region tag b) = around_one (Region tag.index) (made_block n m arrays loops b)
  made_stmt n m arrays loops line s = record { stmt = moved_alone m s; loops = loops }

  -- lowers a block
  pub made_block : (functions : ℕ) → Moves → (arrays : ℕ) → List Loop → source.Block → MadeAll
  made_block n m arrays loops source.End = record { block = End; loops = loops }
  made_block n m arrays loops (source.Then line s b) =
      let here = made_stmt n m arrays loops line s in
      followed line here.stmt (made_block n m (arrays_after arrays s) here.loops b)

-- lowers the body of a function outside of all loops; `arrays` is the number of its array parameters
abbrev pub made_body : (functions arrays : ℕ) → List Loop → source.Block → MadeAll
made_body n arrays loops b = made_block n nothing_moved arrays loops b
