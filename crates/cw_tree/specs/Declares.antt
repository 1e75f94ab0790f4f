-- The number of names that a block declares.
use Rattle.std.specs.Prelude.{ℕ, ◌+◌, Bool, true, false}
use Rattle.cw_model.specs.Syntax.{Stmt, Declare, DeclareArray, If, IfElse, While, For, Scope, Cut, Region, Block, End}
use Rattle.cw_model.specs.Syntax.{Then}

abbrev mutual
  -- the number of names that a statement declares, including its blocks
  pub declares_in : Stmt → ℕ
  declares_in (Declare x e) = 1
  declares_in (DeclareArray a e) = 1
  declares_in (If e b) = declares_in_block b
  declares_in (IfElse e b c) = declares_in_block b + declares_in_block c
  declares_in (While e b) = declares_in_block b
  declares_in (For x y z from to grain over b) = 1 + declares_in_block b
  declares_in (Scope b) = declares_in_block b
  declares_in (Cut a e l r b) = 2 + declares_in_block b
  declares_in (Region tag b) = declares_in_block b
  declares_in _ = 0

  -- the number of names that a block declares
  pub declares_in_block : Block → ℕ
  declares_in_block End = 0
  declares_in_block (Then line s b) = declares_in s + declares_in_block b

-- the statement contains no block
abbrev pub is_plain : Stmt → Bool
is_plain (If e b) = false
is_plain (IfElse e b c) = false
is_plain (While e b) = false
is_plain (For x y z from to grain over b) = false
is_plain (Scope b) = false
is_plain (Cut a e l r b) = false
is_plain (Region tag b) = false
is_plain _ = true
