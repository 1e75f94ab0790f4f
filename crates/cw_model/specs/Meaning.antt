-- The meaning of a program as its serial elision, within a budget of instructions: a spawn is a call.
use Rattle.std.specs.Prelude.{ℕ, zero, suc, ◌+◌, false, ℤ, pos, negsuc, ◌+ℤ◌, if◌then◌else◌, nat_lt, List, [], ◌∷◌}
use Rattle.std.specs.Prelude.{◌++◌, length, drop, take, map, replicate, Option, Some, None, slice_set}
use Rattle.cw_model.specs.declared.trap.Trap.TheVariants as trap
use Rattle.cw_model.specs.declared.limits.TheConstants.{MOST_ELEMENTS, MOST_DEPTH}
use Rattle.cw_model.specs.Ints.{Result, Value, Fails, is_zero, natural}
use Rattle.cw_model.specs.declared.syntax.CallKind.{CallKind}
use Rattle.cw_model.specs.declared.syntax.CallKind.TheVariants.{Plain, Spawned}
use Rattle.cw_model.specs.Syntax.{Name, Expr, Variable, Stmt, Declare, DeclareArray, Assign, AssignElement, Reduce}
use Rattle.cw_model.specs.Syntax.{Call, Start, Begin, Sync, If, IfElse, While, For, Scope, Cut, Region, Print, Return}
use Rattle.cw_model.specs.Syntax.{Block, End, Then, Param, Function, is_array_param, takes_array}
use Rattle.cw_model.specs.Names.{same_name}
use Rattle.cw_model.specs.Captured.{captured}
use Rattle.cw_model.specs.Frames.{Frame, no_frame, int_of, array_of, set_int, set_array, new_int, new_array}
use Rattle.cw_model.specs.Frames.{inside_loop, leave, set_result}
use Rattle.cw_model.specs.Expressions.{Evaluated, Gives, and_then, dearer, written, index_cost, evaluate}
use Rattle.cw_model.specs.Trees.{Tree, Invocation, Execution, Marked, Event, Series, Fork, Join}
use Rattle.cw_model.specs.Outcome.{shows, Trapped, Over, Piece, ◌>>=◌, gives, show, pay, pay_for, as_one}
use Rattle.cw_model.specs.Loops.{loop_iterations, halves}

-- how a statement completes: normally, or by a return from its call
pub data Completion : Type 0 where
  Normal : Frame → Completion
  ByReturn : Option ℤ → Frame → Completion

-- continues after a statement that completes normally; a return skips the rest
abbrev pub onward : Completion → (Frame → Piece Completion) → Piece Completion
onward (Normal frame) next = next frame
onward (ByReturn v frame) next = gives (ByReturn v frame)

-- completes normally with this frame
abbrev pub going : Frame → Piece Completion
going frame = gives (Normal frame)

-- the frame at the end of a statement
abbrev pub frame_of : Completion → Frame
frame_of (Normal frame) = frame
frame_of (ByReturn v frame) = frame

-- a block as a scope: its names are removed at its end
abbrev pub scoped : Frame → Piece Completion → Piece Completion
scoped before piece = do
  way ← piece
  onward way (λ frame. going (leave before frame))

-- the result of a call: its value, and the callee's frame at its end
abbrev pub Returned : Type 0
Returned = Option ℤ × Frame

-- whether a call is one level deeper than its caller, or as deep (a call of a loop's function)
pub data Entry : Type 0 where
  Deeper : Entry
  SameDepth : Entry

-- the depth of a call made at this depth
abbrev pub depth_of : Entry → ℕ → ℕ
depth_of Deeper depth = depth + 1
depth_of SameDepth depth = depth

-- the meaning of calls: of a function, on a frame of arguments, in the line of the call statement
abbrev pub Calls : Type 0
Calls = Entry → Function → Frame → (line : ℕ) → Piece Returned

-- the result of a lookup that finds no function
abbrev pub no_function : Function
no_function = record { name = []; line = 0; gives_int = false; params = []; body = End }

-- the first function with a name
abbrev pub function_named : Name → List Function → Function
function_named f [] = no_function
function_named f (g ∷ gs) = if same_name f g.name then g else function_named f gs

-- the array that an argument names
abbrev pub given_array : Expr → Frame → List ℤ
given_array (Variable a) frame = array_of frame a
given_array _ frame = []

-- the frame of a call: integer arguments are evaluated in order, array arguments are passed whole, at no cost
abbrev pub arguments : List Param → List Expr → Frame → (line : ℕ) → Frame → Piece Frame
arguments [] es frame line given = gives given
arguments (p ∷ ps) [] frame line given = gives given
arguments (p ∷ ps) (e ∷ es) frame line given =
    if is_array_param p
    then arguments ps es frame line (new_array p.name (given_array e frame) given)
    else (do
      v ← pay_for (evaluate e frame) line
      arguments ps es frame line (new_int p.name v given))

-- returns one array argument to the caller; a read-only array has not left it
abbrev pub returned_array : Param → Expr → Frame → Frame → Frame
returned_array p (Variable a) callee frame = if takes_array p then set_array a (array_of callee p.name) frame else frame
returned_array p _ callee frame = frame

-- returns all array arguments to the caller
abbrev pub returned_arrays : List Param → List Expr → Frame → Frame → Frame
returned_arrays [] es callee frame = frame
returned_arrays (p ∷ ps) [] callee frame = frame
returned_arrays (p ∷ ps) (e ∷ es) callee frame = returned_arrays ps es callee (returned_array p e callee frame)

-- the event of a call: a plain call is in series, a spawn is a fork
abbrev pub call_event : CallKind → ℕ → Tree → Event
call_event Plain site t = Series (Marked (Invocation site) t)
call_event Spawned site t = Fork (Marked (Invocation site) t)

-- the event of a call of a loop's function, which is no site
abbrev pub start_event : CallKind → Tree → Event
start_event Plain t = Series t
start_event Spawned t = Fork t

-- the iterations of a `while`, at most `bound`
abbrev pub turns : ℕ → (Frame → Evaluated) → (line : ℕ) → (Frame → Piece Completion) → Frame → Piece Completion
turns zero test line body frame = λ left. Over
turns (suc bound) test line body frame = do
  v ← pay_for (test frame) line
  _ ← pay 1
  if is_zero v then going frame else (do
    way ← body frame
    onward way (λ frame'. do
      _ ← pay 1
      turns bound test line body frame'))

-- the length of a new array, or a trap
abbrev pub new_length : ℤ → Result
new_length (negsuc n) = Fails trap.BadLength
new_length (pos n) = if nat_lt MOST_ELEMENTS n then Fails trap.BadLength else Value (pos n)

-- the index at which an array is cut, or a trap
abbrev pub cut_place : List ℤ → ℤ → Result
cut_place xs (negsuc n) = Fails trap.OutOfBounds
cut_place xs (pos n) = if nat_lt (length xs) n then Fails trap.OutOfBounds else Value (pos n)

-- at the end of a cut, the array is its left part followed by its right part
abbrev pub uncut : (a l r : Name) → Frame → Frame → Frame
uncut a l r before frame = set_array a (array_of frame l ++ array_of frame r) (leave before frame)

-- the frame of a loop's function: first its integers, then its arrays
abbrev pub loop_frame : List Param → List ℤ → List (List ℤ) → Frame → Frame
loop_frame [] vs slices given = given
loop_frame (p ∷ ps) (v ∷ vs) slices given = loop_frame ps vs slices (new_int p.name v given)
loop_frame (p ∷ ps) [] [] given = given
loop_frame (p ∷ ps) [] (xs ∷ slices) given = loop_frame ps [] slices (new_array p.name xs given)

-- an array in which a slice replaces the elements from an index on
abbrev pub with_slice : List ℤ → ℕ → List ℤ → List ℤ
with_slice xs from slice = take from xs ++ (slice ++ drop (from + length slice) xs)

-- writes the slices of a loop's function back to their arrays
abbrev pub slices_back : List Name → ℕ → Frame → Frame → Frame
slices_back [] from callee frame = frame
slices_back (a ∷ over) from callee frame =
    slices_back over from callee (set_array a (with_slice (array_of frame a) from (array_of callee a)) frame)

abbrev mutual
  -- the meaning of a statement, in its line and on a frame
  pub run : Stmt → ℕ → List Function → Calls → Frame → Piece Completion
  run (Declare x e) line fs calls frame = do
    v ← pay_for (evaluate e frame) line
    _ ← pay 1
    going (new_int x v frame)
  run (DeclareArray a e) line fs calls frame = do
    v ← pay_for (and_then (evaluate e frame) new_length) line
    going (new_array a (replicate (natural v) (pos 0)) frame)
  run (Assign x e) line fs calls frame = do
    v ← pay_for (evaluate e frame) line
    _ ← pay 1
    going (set_int x v frame)
  -- the index is evaluated first; the last instruction checks it and writes the element
  run (AssignElement a i e) line fs calls frame = do
    at ← pay_for (dearer (index_cost frame a) (evaluate i frame)) line
    v ← pay_for (and_then (evaluate e frame) (written (array_of frame a) at)) line
    going (set_array a (slice_set (array_of frame a) (natural at) v) frame)
  run (Reduce how s e) line fs calls frame = do
    v ← pay_for (evaluate e frame) line
    _ ← pay 1
    _ ← show (record { lines = []; updates = (s, v) ∷ []; events = [] })
    going frame
  run (Call kind site target callee es) line fs calls frame = do
    let f = function_named callee fs
    given ← arguments f.params es frame line no_frame
    _ ← pay 1
    returned ← as_one (call_event kind site) (calls Deeper f given line)
    going (set_result target returned.0 (returned_arrays f.params es returned.1 frame))
  run (Start kind callee es) line fs calls frame = do
    let f = function_named callee fs
    given ← arguments f.params es frame line no_frame
    _ ← pay 1
    returned ← as_one (start_event kind) (calls SameDepth f given line)
    going (returned_arrays f.params es returned.1 frame)
  run (Begin callee from to captured over) line fs calls frame = do
    lo ← pay_for (evaluate from frame) line
    hi ← pay_for (evaluate to frame) line
    _ ← pay (length captured)
    n ← pay_for (and_then (Gives (pos 0) 0) (λ v. loop_iterations lo hi (map (array_of frame) over))) line
    let f = function_named callee fs
    let given =
        loop_frame f.params (lo ∷ (lo +ℤ n) ∷ map (int_of frame) captured)
        (map (λ a. take (natural n) (drop (natural lo) (array_of frame a))) over) no_frame
    returned ← as_one Series (calls SameDepth f given line)
    going (slices_back over (natural lo) returned.1 frame)
  -- the join comes before the instruction of the sync
  run Sync line fs calls frame = do
    _ ← show (shows (Join ∷ []))
    _ ← pay 1
    going frame
  run (If e b) line fs calls frame = do
    v ← pay_for (evaluate e frame) line
    _ ← pay 1
    if is_zero v then going frame else scoped frame (run_all b fs calls frame)
  run (IfElse e b c) line fs calls frame = do
    v ← pay_for (evaluate e frame) line
    _ ← pay 1
    if is_zero v then scoped frame (run_all c fs calls frame) else (do
      way ← scoped frame (run_all b fs calls frame)
      onward way (λ frame'. do
        _ ← pay 1
        going frame'))
  -- each iteration costs at least 1, so there are at most as many iterations as instructions left
  run (While e b) line fs calls frame =
      λ left. turns (suc left) (evaluate e) line (λ frame'. scoped frame' (run_all b fs calls frame')) frame left
  run (For x y z from to grain over b) line fs calls frame = do
    let k = length (captured x b)
    lo ← pay_for (evaluate from frame) line
    hi ← pay_for (evaluate to frame) line
    _ ← pay k
    n ← pay_for (and_then (Gives (pos 0) 0) (λ v. loop_iterations lo hi (map (array_of frame) over))) line
    frame' ← as_one Series (halves (suc (natural n)) grain k (length over) (natural n) lo (λ i now. do
      way ← as_one Series (run_all b fs calls (inside_loop over (new_int x i now)))
      gives (leave now (frame_of way))) frame)
    going frame'
  run (Scope b) line fs calls frame = do
    _ ← pay 1
    way ← as_one Series (scoped frame (run_all b fs calls frame))
    onward way (λ frame'. do
      _ ← pay 1
      going frame')
  run (Cut a e l r b) line fs calls frame = do
    v ← pay_for (and_then (evaluate e frame) (cut_place (array_of frame a))) line
    let xs = array_of frame a
    let inside = new_array r (drop (natural v) xs) (new_array l (take (natural v) xs) frame)
    way ← as_one Series (scoped inside (run_all b fs calls inside))
    onward way (λ frame'. do
      _ ← pay 1
      going (uncut a l r frame frame'))
  -- the two instructions of a region are outside the region
  run (Region tag b) line fs calls frame = do
    _ ← pay 1
    way ← as_one (λ t. Series (Marked (Execution tag) t)) (scoped frame (run_all b fs calls frame))
    onward way (λ frame'. do
      _ ← pay 1
      going frame')
  run (Print e) line fs calls frame = do
    v ← pay_for (evaluate e frame) line
    _ ← pay 1
    _ ← show (record { lines = v ∷ []; updates = []; events = [] })
    going frame
  run (Return None) line fs calls frame = do
    _ ← show (shows (Join ∷ []))
    _ ← pay 1
    gives (ByReturn None frame)
  -- the expression of a return is evaluated before the join
  run (Return (Some e)) line fs calls frame = do
    v ← pay_for (evaluate e frame) line
    _ ← show (shows (Join ∷ []))
    _ ← pay 1
    gives (ByReturn (Some v) frame)

  -- the statements of a block, in order
  pub run_all : Block → List Function → Calls → Frame → Piece Completion
  run_all End fs calls frame = going frame
  run_all (Then line s b) fs calls frame = do
    way ← run s line fs calls frame
    onward way (λ frame'. run_all b fs calls frame')

-- the result of a call after its body: the value, and the frame with the arrays to return; the end of a body joins
abbrev pub end_of_call : Completion → Piece Returned
end_of_call (ByReturn v frame) = gives (v, frame)
end_of_call (Normal frame) = do
  _ ← show (shows (Join ∷ []))
  _ ← pay 1
  gives (None, frame)

-- a call at this depth; since each call costs at least 1, a budget bounds the nesting of calls
unfoldable pub call : (bound depth : ℕ) → List Function → Calls
call zero depth fs entry f given line = λ left. Over
call (suc bound) depth fs entry f given line =
    if nat_lt MOST_DEPTH (depth_of entry depth) then (λ left. Trapped trap.TooDeep line []) else (do
      way ← run_all f.body fs (λ e g given' line' left. call bound (depth_of entry depth) fs e g given' line' left)
          given
      end_of_call way)
