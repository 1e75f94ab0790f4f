-- The function of a loop takes its arrays: no parameter is only read, so each argument is given away.
use Rattle.std.proofs.Common.{◌≡◌, ℕ, ◌+◌, Bool, true, false, List, [], ◌∷◌, ◌++◌, drop, map, refl, ◌∙◌, ap}
use Rattle.std.specs.Prelude.{if◌then◌else◌, not}
use Rattle.std.specs.List.{list_all}
use Rattle.std.proofs.lemmas.Bool.{and_parts}
use Rattle.cw_facts.specs.Tests.{not_true}
use Rattle.cw_model.specs.Captured.{captured}
use Rattle.cw_model.specs.Syntax.{Name, Expr, Number, Variable, Element, Length, Negative, Not, Binary, Stmt, Declare, DeclareArray, Assign, AssignElement, Reduce, Call, Start}
use Rattle.cw_model.specs.Syntax.{Begin, Sync, If, IfElse, While, For, Scope, Cut, Region, Print, Return, Block, End, Then, Param, Function, reads_array}
use Rattle.cw_model.specs.Names.{same_name, is_among}
use Rattle.cw_model.specs.Meaning.{function_named}
use Rattle.cw_tree.specs.Resolved.{Locals, is_reader, slot_of}
use Rattle.cw_loops.specs.Lowered.{loop_name, loop_count, loop_count_in, int_params, array_params, made_by, made_in, lower_functions, made_of, loop_function, lower_block}
use Rattle.cw_loops.specs.Lowerable.{can_lower_function}
use Rattle.cw_loops.specs.Slotted.{Int, Array, Shared, slotted_argument, slotted_arguments}
use Rattle.cw_loops.specs.Slotted as slotted
use Rattle.cw_loops.specs.lemmas.Finding.{lowered_plain}

-- no parameter is only read
abbrev pub reads_none : List Param → Bool
reads_none ps = list_all (λ p. not (reads_array p)) ps

-- arguments for parameters that are not only read are given away

first_taken : (ps : List Param) → reads_none ps ≡ true → is_reader ps ≡ false
first_taken [] h = refl
first_taken (p ∷ ps) h = not_true (reads_array p) (and_parts (not (reads_array p)) (reads_none ps) h).0

rest_taken : (ps : List Param) → reads_none ps ≡ true → reads_none (drop 1 ps) ≡ true
rest_taken [] h = refl
rest_taken (p ∷ ps) h = (and_parts (not (reads_array p)) (reads_none ps) h).1

one_taken : (l : Locals) (ps : List Param) (e : Expr) → reads_none ps ≡ true → slotted_argument l ps e ≡ slotted_argument l [] e
one_taken l ps (Variable x) h =
    ap (λ r. if is_among x l.arrays then (if r then Shared (slot_of x l.arrays) else Array (slot_of x l.arrays)) else Int (slotted.Variable (slot_of x l.ints))) (first_taken ps h)
one_taken l ps (Number n) h = refl
one_taken l ps (Element a e) h = refl
one_taken l ps (Length a) h = refl
one_taken l ps (Negative e) h = refl
one_taken l ps (Not e) h = refl
one_taken l ps (Binary operator d e) h = refl

pub all_taken : (l : Locals) (ps : List Param) (es : List Expr) → reads_none ps ≡ true → slotted_arguments l ps es ≡ map (slotted_argument l []) es
all_taken l ps [] h = refl
all_taken l ps (e ∷ es) h =
    ap (λ a. a ∷ slotted_arguments l (drop 1 ps) es) (one_taken l ps e h) ∙ ap (λ r. slotted_argument l [] e ∷ r) (all_taken l (drop 1 ps) es (rest_taken ps h))

-- the parameters of the function of a loop

arrays_taken : (over : List Name) → reads_none (array_params over) ≡ true
arrays_taken [] = refl
arrays_taken (a ∷ over) = arrays_taken over

loop_taken : (ints over : List Name) → reads_none (int_params ints ++ array_params over) ≡ true
loop_taken [] over = arrays_taken over
loop_taken (x ∷ ints) over = loop_taken ints over

-- no parameter of these functions is only read
abbrev ReadNone : List Function → Type 0
ReadNone [] = Unit {0}
ReadNone (f ∷ fs) = (reads_none f.params ≡ true) × ReadNone fs

both_none : (fs gs : List Function) → ReadNone fs → ReadNone gs → ReadNone (fs ++ gs)
both_none [] gs h k = k
both_none (f ∷ fs) gs h k = (h.0, both_none fs gs h.1 k)

mutual
  stmt_none : (s : Stmt) (line k : ℕ) → ReadNone (made_by line k s)
  stmt_none (If e b) line k = block_none b k
  stmt_none (IfElse e b c) line k = both_none (made_in k b) (made_in (k + loop_count_in b) c) (block_none b k) (block_none c (k + loop_count_in b))
  stmt_none (While e b) line k = block_none b k
  stmt_none (For x y z from to grain over b) line k =
      both_none (made_in k b) (loop_function (loop_name (k + loop_count_in b)) line x grain (captured x b) over (lower_block over k b) ∷ []) (block_none b k) (loop_taken (captured x b) over, tt)
  stmt_none (Scope b) line k = block_none b k
  stmt_none (Cut a e l r b) line k = block_none b k
  stmt_none (Region tag b) line k = block_none b k
  stmt_none (Declare x e) line k = tt
  stmt_none (DeclareArray x e) line k = tt
  stmt_none (Assign x e) line k = tt
  stmt_none (AssignElement x i e) line k = tt
  stmt_none (Reduce how x e) line k = tt
  stmt_none (Call kind site t f es) line k = tt
  stmt_none (Start kind f es) line k = tt
  stmt_none (Begin f from to xs over) line k = tt
  stmt_none Sync line k = tt
  stmt_none (Print e) line k = tt
  stmt_none (Return e) line k = tt

  block_none : (b : Block) (k : ℕ) → ReadNone (made_in k b)
  block_none End k = tt
  block_none (Then line s b) k = both_none (made_by line k s) (made_in (k + loop_count s) b) (stmt_none s line k) (block_none b (k + loop_count s))

functions_none : (fs : List Function) (k : ℕ) → ReadNone (made_of k fs)
functions_none [] k = tt
functions_none (f ∷ fs) k = both_none (made_in k f.body) (made_of (k + loop_count_in f.body) fs) (block_none f.body k) (functions_none fs (k + loop_count_in f.body))

found_none : (g : Name) (fs : List Function) → ReadNone fs → reads_none (function_named g fs).params ≡ true
found_none g [] h = refl
found_none g (f ∷ fs) h = go (same_name g f.name) (found_none g fs h.1)
  where
    go : (b : Bool) → reads_none (function_named g fs).params ≡ true → reads_none (if b then f else function_named g fs).params ≡ true
    go true more = h.0
    go false more = more

pub loop_reads_none : (fs : List Function) → list_all (can_lower_function fs) fs ≡ true → (k : ℕ) → reads_none (function_named (loop_name k) (lower_functions 0 fs ++ made_of 0 fs)).params ≡ true
loop_reads_none fs can k =
    ap (λ (f : Function). reads_none f.params) (lowered_plain fs fs 0 can k (made_of 0 fs)) ∙ found_none (loop_name k) (made_of 0 fs) (functions_none fs 0)
