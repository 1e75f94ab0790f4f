-- The functions that a lowered tree represents: the functions of the source with their bodies, and then the functions
-- of its loops, written out.
use Rattle.std.specs.Prelude.{ℕ, zero, suc, ◌+◌, ◌*◌, pos, false, List, [], ◌∷◌, ◌++◌, length, map, replicate}
use Rattle.cw_model.specs.declared.syntax.CallKind.TheVariants.{Plain, Spawned}
use Rattle.cw_model.specs.declared.syntax.NameKind.TheVariants as kind
use Rattle.cw_model.specs.declared.syntax.Operator.TheVariants.{AtMost, Less, Plus, Minus, Divide}
use Rattle.cw_tree.specs.Resolved as source
use Rattle.cw_loops.specs.Slotted.{Expr, Number, Variable, Binary, Argument, Int, Array, Stmt, Declare, Assign, Start}
use Rattle.cw_loops.specs.Slotted.{IfElse, While, Scope, Cut, Block, End, Then, Function}
use Rattle.cw_loops.specs.Moved.{Loop}
use Rattle.cw_loops.specs.Lowers.{Bodies, made_of_tree}

-- a block of one statement in this line
abbrev pub on_line : ℕ → Stmt → Block
on_line line s = Then line s End

-- the slots of the ends of the range
abbrev pub low : ℕ
low = 0

abbrev pub high : ℕ
high = 1

-- the slot of the variable in a leaf, and of the middle in a node, after `k` captured integers
abbrev pub turn_slot : ℕ → ℕ
turn_slot k = 2 + k

-- the slots of the two parts of array `n`, after this number of arrays of the loop
abbrev pub left_slot : (arrays number : ℕ) → ℕ
left_slot q n = q + 2 * n

abbrev pub right_slot : (arrays number : ℕ) → ℕ
right_slot q n = suc (left_slot q n)

-- consecutive numbers from this one on
abbrev pub numbers : (from count : ℕ) → List ℕ
numbers from zero = []
numbers from (suc n) = from ∷ numbers (suc from) n

-- the length of the range
abbrev pub range : Expr
range = Binary Minus (Variable high) (Variable low)

-- the loop of a leaf, which executes its iterations
abbrev pub leaf : Loop → Block
leaf l =
    let x = turn_slot l.captured in
    Then l.line (Declare x (Variable low))
    (on_line l.line (While (Binary Less (Variable x) (Variable high))
    (Then l.line (Scope l.body) (on_line l.line (Assign x (Binary Plus (Variable x) (Number (pos 1))))))))

-- the arguments of a call on one half: the ends, the captured integers and the parts of the arrays
abbrev pub half : (from to : ℕ) → (ints arrays : List ℕ) → List Argument
half from to ints arrays =
    Int (Variable from) ∷ Int (Variable to) ∷ (map (λ s. Int (Variable s)) ints ++ map Array arrays)

-- the calls on both halves, of the function with this index
abbrev pub both_halves : (callee : ℕ) → Loop → Block
both_halves callee l =
    let m = turn_slot l.captured in
    let ints = numbers 2 l.captured in
    let arrays = numbers 0 l.over in
    Then l.line (Start Spawned callee (half low m ints (map (left_slot l.over) arrays)))
    (on_line l.line (Start Plain callee (half m high ints (map (right_slot l.over) arrays))))

-- a block within cuts of these arrays, each in the middle
abbrev pub in_cuts : Loop → (arrays : List ℕ) → Block → Block
in_cuts l [] inside = inside
in_cuts l (n ∷ arrays) inside =
    on_line l.line (Cut n (Binary Minus (Variable (turn_slot l.captured)) (Variable low)) (left_slot l.over n)
    (right_slot l.over n) (in_cuts l arrays inside))

-- the block of a node
abbrev pub node : (callee : ℕ) → Loop → Block
node callee l =
    Then l.line (Declare (turn_slot l.captured) (Binary Plus (Variable low) (Binary Divide range (Number (pos 2)))))
    (in_cuts l (numbers 0 l.over) (both_halves callee l))

-- the function of a loop; `index` is its own index
abbrev pub loop_text : (index : ℕ) → Loop → Function
loop_text index l = record {
  gives_int = false;
  params = kind.Integer ∷ kind.Integer ∷ (replicate l.captured kind.Integer ++ replicate l.over kind.Array);
  body = on_line l.line (IfElse (Binary AtMost range (Number (pos l.grain))) (leaf l) (node index l));
}

-- the functions of loops, from an index on
abbrev pub loop_texts : (index : ℕ) → List Loop → List Function
loop_texts index [] = []
loop_texts index (l ∷ loops) = loop_text index l ∷ loop_texts (suc index) loops

-- functions of the source with these bodies
abbrev pub with_bodies : List source.Function → List Block → List Function
with_bodies [] bodies = []
with_bodies (f ∷ fs) [] = []
with_bodies (f ∷ fs) (b ∷ bodies) =
    record { gives_int = f.gives_int; params = map (λ p. p.kind) f.params; body = b } ∷ with_bodies fs bodies

-- the functions of a lowered tree
abbrev pub expanded : source.Resolved → Bodies → List Function
expanded tree made = with_bodies tree.functions made.blocks ++ loop_texts (length tree.functions) made.loops

-- lowering by slot
abbrev pub lowered_by_slot : source.Resolved → List Function
lowered_by_slot tree = expanded tree (made_of_tree tree)
