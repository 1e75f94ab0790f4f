-- The lines of a block as a sequence.
use Rattle.std.proofs.Common.{ℕ, take, ◌≡◌, ◌+◌, ◌≤◌, List, [], ◌∷◌, ◌++◌, length, refl, ap, arith}
use Rattle.std.proofs.lemmas.List.{take-append-le, length_push}
use Rattle.cw_model.specs.Syntax.{Stmt, Declare, DeclareArray, Assign, AssignElement, Reduce, Call, Start, Begin, Sync, If, IfElse, While, For, Scope, Cut, Region, Print, Return}
use Rattle.cw_tree.specs.declared.resolved.Line.{Line, the_lemmas}
use Rattle.cw_tree.specs.Declares.{declares_in}
use Rattle.cw_tree.specs.Resolved.{Block, End, Then, Locals, locals_after}
use Rattle.cw_tree.specs.ResolvedView.{block_of, line_of, stmt_of}

-- the concatenation of two blocks
abbrev pub joined : Block → Block → Block
joined End c = c
joined (Then line s b) c = Then line s (joined b c)

pub joined_end : (b : Block) → joined b End ≡ b
joined_end End = refl
joined_end (Then line s b) = ap (Then line s) (joined_end b)

pub joined_push : (ls : List Line) (l : Line) (c : Block) → joined (block_of (ls ++ l ∷ [])) c ≡ joined (block_of ls) (Then l.line (stmt_of l.stmt) c)
joined_push [] l c = grind (arith, the_lemmas)
joined_push (k ∷ ls) l c = ap (Then (line_of k).0 (line_of k).1) (joined_push ls l c)

-- a statement adds at most the number of locals that it declares in total
pub counted : (l : Locals) (s : Stmt) → length (locals_after l s).ints + length (locals_after l s).arrays ≤ length l.ints + length l.arrays + declares_in s
counted l (Declare x e) = let one = length_push l.ints x in omega (arith, one)
counted l (DeclareArray a e) = let one = length_push l.arrays a in omega (arith, one)
counted l (Assign x e) = omega arith
counted l (AssignElement a i e) = omega arith
counted l (Reduce how s e) = omega arith
counted l (Call kind site target f es) = omega arith
counted l (Start kind f es) = omega arith
counted l (Begin f from to captured over) = omega arith
counted l Sync = omega arith
counted l (If e b) = omega arith
counted l (IfElse e b c) = omega arith
counted l (While e b) = omega arith
counted l (For x y z from to grain over b) = omega arith
counted l (Scope b) = omega arith
counted l (Cut a e l' r b) = omega arith
counted l (Region tag b) = omega arith
counted l (Print e) = omega arith
counted l (Return e) = omega arith

-- a statement only appends to the known locals
pub grown_ints : (l : Locals) (s : Stmt) → length l.ints ≤ length (locals_after l s).ints
grown_ints l (Declare x e) = let one = length_push l.ints x in omega (arith, one)
grown_ints l (DeclareArray a e) = omega arith
grown_ints l (Assign x e) = omega arith
grown_ints l (AssignElement a i e) = omega arith
grown_ints l (Reduce how s e) = omega arith
grown_ints l (Call kind site target f es) = omega arith
grown_ints l (Start kind f es) = omega arith
grown_ints l (Begin f from to captured over) = omega arith
grown_ints l Sync = omega arith
grown_ints l (If e b) = omega arith
grown_ints l (IfElse e b c) = omega arith
grown_ints l (While e b) = omega arith
grown_ints l (For x y z from to grain over b) = omega arith
grown_ints l (Scope b) = omega arith
grown_ints l (Cut a e l' r b) = omega arith
grown_ints l (Region tag b) = omega arith
grown_ints l (Print e) = omega arith
grown_ints l (Return e) = omega arith

pub grown_arrays : (l : Locals) (s : Stmt) → length l.arrays ≤ length (locals_after l s).arrays
grown_arrays l (Declare x e) = omega arith
grown_arrays l (DeclareArray a e) = let one = length_push l.arrays a in omega (arith, one)
grown_arrays l (Assign x e) = omega arith
grown_arrays l (AssignElement a i e) = omega arith
grown_arrays l (Reduce how s e) = omega arith
grown_arrays l (Call kind site target f es) = omega arith
grown_arrays l (Start kind f es) = omega arith
grown_arrays l (Begin f from to captured over) = omega arith
grown_arrays l Sync = omega arith
grown_arrays l (If e b) = omega arith
grown_arrays l (IfElse e b c) = omega arith
grown_arrays l (While e b) = omega arith
grown_arrays l (For x y z from to grain over b) = omega arith
grown_arrays l (Scope b) = omega arith
grown_arrays l (Cut a e l' r b) = omega arith
grown_arrays l (Region tag b) = omega arith
grown_arrays l (Print e) = omega arith
grown_arrays l (Return e) = omega arith

pub first_ints : (l : Locals) (s : Stmt) (n : ℕ) → n ≤ length l.ints → take n (locals_after l s).ints ≡ take n l.ints
first_ints l (Declare x e) n h = rw take-append-le refl
first_ints l (DeclareArray a e) n h = refl
first_ints l (Assign x e) n h = refl
first_ints l (AssignElement a i e) n h = refl
first_ints l (Reduce how s e) n h = refl
first_ints l (Call kind site target f es) n h = refl
first_ints l (Start kind f es) n h = refl
first_ints l (Begin f from to captured over) n h = refl
first_ints l Sync n h = refl
first_ints l (If e b) n h = refl
first_ints l (IfElse e b c) n h = refl
first_ints l (While e b) n h = refl
first_ints l (For x y z from to grain over b) n h = refl
first_ints l (Scope b) n h = refl
first_ints l (Cut a e l' r b) n h = refl
first_ints l (Region tag b) n h = refl
first_ints l (Print e) n h = refl
first_ints l (Return e) n h = refl

pub first_arrays : (l : Locals) (s : Stmt) (n : ℕ) → n ≤ length l.arrays → take n (locals_after l s).arrays ≡ take n l.arrays
first_arrays l (Declare x e) n h = refl
first_arrays l (DeclareArray a e) n h = rw take-append-le refl
first_arrays l (Assign x e) n h = refl
first_arrays l (AssignElement a i e) n h = refl
first_arrays l (Reduce how s e) n h = refl
first_arrays l (Call kind site target f es) n h = refl
first_arrays l (Start kind f es) n h = refl
first_arrays l (Begin f from to captured over) n h = refl
first_arrays l Sync n h = refl
first_arrays l (If e b) n h = refl
first_arrays l (IfElse e b c) n h = refl
first_arrays l (While e b) n h = refl
first_arrays l (For x y z from to grain over b) n h = refl
first_arrays l (Scope b) n h = refl
first_arrays l (Cut a e l' r b) n h = refl
first_arrays l (Region tag b) n h = refl
first_arrays l (Print e) n h = refl
first_arrays l (Return e) n h = refl
