-- A divide-and-conquer loop: it has the effect of the plain loop and the costs of a recursion down to the grain.
use Rattle.std.specs.Prelude.{◌≡◌, ℕ, zero, suc, ◌+◌, ◌-◌, ◌*◌, ◌/◌, Bool, true, ◌&&◌, ℤ, pos, ◌+ℤ◌, ◌-ℤ◌, int_lt}
use Rattle.std.specs.Prelude.{int_le, if◌then◌else◌, nat_le, List, [], ◌∷◌, length, take, drop}
use Rattle.cw_model.specs.declared.trap.Trap.TheVariants as trap
use Rattle.cw_model.specs.declared.limits.TheConstants.{MOST_TURNS}
use Rattle.cw_model.specs.Ints.{Result, Value, Fails}
use Rattle.cw_model.specs.Trees.{Tree, Leaf, Seq, Par, Series, Fork, Join}
use Rattle.cw_model.specs.Frames.{Frame}
use Rattle.cw_model.specs.Outcome.{Trace, shows, Done, Over, Piece, ◌>>=◌, gives, show, pay, as_one}

-- the range is within the bounds of each array
abbrev pub lies_within : (from to : ℤ) → List (List ℤ) → Bool
lies_within from to [] = true
lies_within from to (xs ∷ rest) = int_le (pos 0) from && int_le to (pos (length xs)) && lies_within from to rest

-- the number of iterations of a loop over these arrays, or its trap: first too many iterations, then a range out of
-- bounds
abbrev pub loop_iterations : (from to : ℤ) → List (List ℤ) → Result
loop_iterations from to arrays =
    if int_le to from then Value (pos 0)
    else (if int_lt (pos MOST_TURNS) (to -ℤ from) then Fails trap.TooManyIterations
    else (if lies_within from to arrays then Value (to -ℤ from) else Fails trap.OutOfBounds))

-- The cost of a loop without the bodies of its iterations, for k captured integers and q arrays. A leaf costs
-- `leaf_start`, then `turn_start` and `turn_end` around each body, then `leaf_end`.

-- at a leaf's start: the test for a leaf, and the loop variable
abbrev pub leaf_start : ℕ
leaf_start = 8

-- before an iteration's body: the test, and the start of its scope
abbrev pub turn_start : ℕ
turn_start = 5

-- after an iteration's body: the end of its scope, the increment, and the jump back
abbrev pub turn_end : ℕ
turn_end = 6

-- at a leaf's end: the last test, the jump over the other branch, and the end of the function
abbrev pub leaf_end : ℕ
leaf_end = 6

-- an inner node up to and including its spawn: its test, the midpoint, its cuts, and the arguments
abbrev pub node_start : (k q : ℕ) → ℕ
node_start k q = 17 + 4 * q + k

-- an inner node from after its spawn up to and including its call
abbrev pub node_call : (k : ℕ) → ℕ
node_call k = 3 + k

-- an inner node after its join: the ends of its cuts, and the end of the function
abbrev pub node_end : (q : ℕ) → ℕ
node_end q = q + 1

-- the iterations of a leaf, in order: each is a body on the frame that the iteration before it left
abbrev pub leaf_turns : (turns : ℕ) (from : ℤ) → (ℤ → Frame → Piece Frame) → Frame → Piece Frame
leaf_turns zero from body frame = gives frame
leaf_turns (suc n) from body frame = do
  _ ← pay turn_start
  frame' ← body from frame
  _ ← pay turn_end
  leaf_turns n (from +ℤ pos 1) body frame'

-- a divide-and-conquer loop of `turns` iterations, of a depth of at most the first argument; `turns + 1` is always
-- enough
abbrev pub halves : ℕ → (grain k q : ℕ) → (turns : ℕ) (from : ℤ) → (ℤ → Frame → Piece Frame) → Frame → Piece Frame
halves zero grain k q n from body frame = λ left. Over
halves (suc depth) grain k q n from body frame =
    if nat_le n grain
    then (do
      _ ← pay leaf_start
      frame' ← leaf_turns n from body frame
      _ ← pay leaf_end
      gives frame')
    else (do
      _ ← pay (node_start k q)
      frame' ← as_one Fork (λ left. halves depth grain k q (n / 2) from body frame left)
      _ ← pay (node_call k)
      frame'' ← as_one Series (λ left. halves depth grain k q (n - n / 2) (from +ℤ pos (n / 2)) body frame' left)
      _ ← show (shows (Join ∷ []))
      _ ← pay (node_end q)
      gives frame'')

-- the tree of a leaf's iterations, made of the trees of their bodies
abbrev pub turns_tree : List Tree → Tree
turns_tree [] = Leaf leaf_end
turns_tree (t ∷ ts) = Seq (Leaf turn_start) (Seq t (Seq (Leaf turn_end) (turns_tree ts)))

-- the tree of a loop whose iterations have these trees, of a depth of at most the first argument
abbrev pub loop_tree : ℕ → (grain k q : ℕ) → List Tree → Tree
loop_tree zero grain k q ts = Leaf 0
loop_tree (suc depth) grain k q ts =
    if nat_le (length ts) grain
    then Seq (Leaf leaf_start) (turns_tree ts)
    else (let half = length ts / 2 in
    Seq (Leaf (node_start k q))
    (Seq (Par (loop_tree depth grain k q (take half ts))
    (Seq (Leaf (node_call k)) (loop_tree depth grain k q (drop half ts))))
    (Leaf (node_end q))))

-- the number of inner nodes of a loop; it has one more leaf than inner nodes
abbrev pub inner_nodes : ℕ → (grain turns : ℕ) → ℕ
inner_nodes zero grain n = 0
inner_nodes (suc depth) grain n =
    if nat_le n grain then 0 else 1 + inner_nodes depth grain (n / 2) + inner_nodes depth grain (n - n / 2)

-- the cost of a loop without its bodies: 14 for each leaf, 11 for each iteration, 21 + 5q + 2k for each inner node
abbrev pub loop_cost : (grain k q turns : ℕ) → ℕ
loop_cost grain k q n =
    let nodes = inner_nodes (suc n) grain n in
    14 * (nodes + 1) + 11 * n + (21 + 5 * q + 2 * k) * nodes

-- one iteration of the plain loop: the budget before it, the budget after it, and its trace
pub record Turn : Type 0 where
  pub given : ℕ
  pub left : ℕ
  pub trace : Trace

-- the plain loop: these iterations, in order and from a number on, run from the first frame to the second
pub data TurnsLead (body : ℤ → Frame → Piece Frame) : (from : ℤ) → Frame → List Turn → Frame → Type 0 where
  no_turn : {from : ℤ} {frame : Frame} → TurnsLead body from frame [] frame
  one_turn : {from : ℤ} {frame frame' frame'' : Frame} {turn : Turn} {turns : List Turn} →
      body from frame turn.given ≡ Done frame' turn.left turn.trace →
      TurnsLead body (from +ℤ pos 1) frame' turns frame'' → TurnsLead body from frame (turn ∷ turns) frame''
