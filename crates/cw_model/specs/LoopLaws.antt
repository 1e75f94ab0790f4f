-- A divide-and-conquer loop runs as the plain loop: the same iterations in the same order, with its own costs and
-- tree.
use Rattle.std.specs.Prelude.{◌≡◌, ◌<◌, ◌≤◌, ℕ, suc, ◌+◌, ◌-◌, ℤ, pos, ◌+ℤ◌, List, ◌++◌, length, map, flat_map, sum_by}
use Rattle.cw_model.specs.declared.trap.Trap.{Trap}
use Rattle.cw_model.specs.Syntax.{Name, Expr, For, Block, Function}
use Rattle.cw_model.specs.Trees.{Tree, Series, work, tree_of, normal}
use Rattle.cw_model.specs.Frames.{Frame, array_of, new_int, inside_loop, leave}
use Rattle.cw_model.specs.Outcome.{Trace, Done, Trapped, Piece, ◌>>=◌, gives, pay_for, pay, as_one}
use Rattle.cw_model.specs.Loops.{Turn, TurnsLead, loop_iterations, halves, loop_cost, loop_tree}
use Rattle.cw_model.specs.Meaning.{Calls, Completion, going, run, run_all, call, frame_of}
use Rattle.cw_model.specs.Captured.{captured}
use Rattle.cw_model.specs.Expressions.{evaluate, and_then, Gives}
use Rattle.cw_model.specs.Ints.{natural}

-- the body of a loop is one part in series, and an iteration leaves at most the budget that it was given
pub record IsBody (body inner : ℤ → Frame → Piece Frame) : Type 0 where
  pub in_series : (i : ℤ) (frame : Frame) (left : ℕ) → body i frame left ≡ as_one Series (inner i frame) left
  pub spends : (i : ℤ) (frame frame' : Frame) (given left : ℕ) (t : Trace) → inner i frame given ≡ Done frame' left t
      → left ≤ given

-- one iteration of a `cilk_for`: its block, on a frame with the iteration's number; names of the block are removed at
-- its end
abbrev pub for_turn : Name → List Name → Block → List Function → Calls → ℤ → Frame → Piece Frame
for_turn x over b fs calls i now = do
  way ← run_all b fs calls (inside_loop over (new_int x i now))
  gives (leave now (frame_of way))

-- the body of a `cilk_for`: the block of an iteration as one part in series
abbrev pub for_body : Name → List Name → Block → List Function → Calls → ℤ → Frame → Piece Frame
for_body x over b fs calls i now = do
  way ← as_one Series (run_all b fs calls (inside_loop over (new_int x i now)))
  gives (leave now (frame_of way))

-- a `cilk_for`: it evaluates its bounds, pays for captured names, computes the number of iterations, and runs the
-- divide-and-conquer loop of its body as one part in series
abbrev pub for_piece : Name → (from to : Expr) → (grain : ℕ) → List Name → Block → (line : ℕ) → List Function → Calls
    → Frame → Piece Completion
for_piece x from to grain over b line fs calls frame = do
  let k = length (captured x b)
  lo ← pay_for (evaluate from frame) line
  hi ← pay_for (evaluate to frame) line
  _ ← pay k
  n ← pay_for (and_then (Gives (pos 0) 0) (λ v. loop_iterations lo hi (map (array_of frame) over))) line
  frame' ← as_one Series
      (halves (suc (natural n)) grain k (length over) (natural n) lo (for_body x over b fs calls) frame)
  going frame'

-- the budget that iterations spent
abbrev pub spent : List Turn → ℕ
spent turns = sum_by (λ turn. turn.given - turn.left) turns

-- the values that iterations printed, in order
abbrev pub lines_of : List Turn → List ℤ
lines_of turns = flat_map (λ turn. turn.trace.lines) turns

-- the updates of reducers by iterations, in order
abbrev pub additions_of : List Turn → List (Name × ℤ)
additions_of turns = flat_map (λ turn. turn.trace.updates) turns

-- the tree of each iteration
abbrev pub trees_of : List Turn → List Tree
trees_of turns = map (λ turn. tree_of turn.trace.events) turns

-- a loop of `n` iterations that is done did what `n` iterations of the plain loop do in order, at the cost and with
-- the tree of the divide-and-conquer loop
pub record RunsAsPlain (inner : ℤ → Frame → Piece Frame) (grain k q n : ℕ) (from : ℤ) (frame : Frame) (left : ℕ)
    (frame' : Frame) (left' : ℕ) (t : Trace) : Type 0 where
  pub turns : List Turn
  pub as_many : length turns ≡ n
  pub in_order : TurnsLead inner from frame turns frame'
  pub same_lines : t.lines ≡ lines_of turns
  pub same_additions : t.updates ≡ additions_of turns
  pub cost : left ≡ left' + loop_cost grain k q n + spent turns
  pub tree : normal (tree_of t.events) ≡ normal (loop_tree (suc n) grain k q (trees_of turns))

-- a loop of `n` iterations that traps did what fewer iterations of the plain loop do in order, and the next one traps
-- with `trap`, `line` and the lines
pub record TrapsAsPlain (inner : ℤ → Frame → Piece Frame) (n : ℕ) (from : ℤ) (frame : Frame) (trap : Trap) (line : ℕ)
    (lines : List ℤ) : Type 0 where
  pub turns : List Turn
  pub fewer : length turns < n
  pub reached : Frame
  pub in_order : TurnsLead inner from frame turns reached
  pub given : ℕ
  pub own_lines : List ℤ
  pub next_traps : inner (from +ℤ pos (length turns)) reached given ≡ Trapped trap line own_lines
  pub same_lines : lines ≡ lines_of turns ++ own_lines

-- a `cilk_for` is a divide-and-conquer loop
abbrev pub ForsAreByHalves : Type 0
ForsAreByHalves =
    (x y z : Name) (from to : Expr) (grain : ℕ) (over : List Name) (b : Block) (line : ℕ) (fs : List Function)
    (calls : Calls) (frame : Frame) →
    run (For x y z from to grain over b) line fs calls frame ≡ for_piece x from to grain over b line fs calls frame

-- the body of a `cilk_for` in a call satisfies the premise of the laws of loops
abbrev pub ForsHaveBodies : Type 0
ForsHaveBodies = (bound depth : ℕ) (fs : List Function) (x : Name) (over : List Name) (b : Block) →
    IsBody (for_body x over b fs (call bound depth fs)) (for_turn x over b fs (call bound depth fs))

-- a divide-and-conquer loop that is done did what the iterations of the plain loop do in order
abbrev pub LoopsRunAsPlain : Type 0
LoopsRunAsPlain =
    (body inner : ℤ → Frame → Piece Frame) → IsBody body inner →
    (grain k q n : ℕ) (from : ℤ) (frame : Frame) (left : ℕ) (frame' : Frame) (left' : ℕ) (t : Trace) →
    halves (suc n) grain k q n from body frame left ≡ Done frame' left' t
    → RunsAsPlain inner grain k q n from frame left frame' left' t

-- a divide-and-conquer loop that traps did what fewer iterations of the plain loop do in order, and the next one
-- traps
abbrev pub LoopsTrapAsPlain : Type 0
LoopsTrapAsPlain =
    (body inner : ℤ → Frame → Piece Frame) → IsBody body inner →
    (grain k q n : ℕ) (from : ℤ) (frame : Frame) (left : ℕ) (trap : Trap) (line : ℕ) (lines : List ℤ) →
    halves (suc n) grain k q n from body frame left ≡ Trapped trap line lines
    → TrapsAsPlain inner n from frame trap line lines

-- the work of a loop's tree is the cost of its leaves and inner nodes, plus the work of its iterations
abbrev pub LoopWorkAddsUp : Type 0
LoopWorkAddsUp = (grain k q : ℕ) (ts : List Tree) → 0 < grain →
    work (loop_tree (suc (length ts)) grain k q ts) ≡ loop_cost grain k q (length ts) + sum_by work ts

-- every larger bound on the depth of a loop has the same result
abbrev pub LoopsAreDeepEnough : Type 0
LoopsAreDeepEnough =
    (grain k q n depth : ℕ) (from : ℤ) (body : ℤ → Frame → Piece Frame) (frame : Frame) (left : ℕ) → 0 < grain
    → n < depth →
    halves depth grain k q n from body frame left ≡ halves (suc n) grain k q n from body frame left
