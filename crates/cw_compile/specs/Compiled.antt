-- The contract of compiled code.
use Rattle.std.specs.Prelude.{◌≡◌, ℕ, List, map}
use Rattle.cw_model.specs.Syntax.{Program}
use Rattle.cw_model.specs.Sites.{Head, heads_of}
use Rattle.cw_tree.specs.Resolved.{Function}
use Rattle.cw_code.specs.Code.{Code, code_view}
use Rattle.cw_code.specs.Heads.{head_view}
use Rattle.cw_code.specs.declared.head.Head as counted
use Rattle.cw_runnable.specs.declared.verified.Verified.{Verified}
use Rattle.cw_gen.specs.Generates.{Generates}
use Rattle.cw_compile.specs.Sources.{Compiles}
use Rattle.cw_compile.specs.declared.compiling.Compiled.{Compiled}

-- `code` computes what the serial elision of the program computes that the bytes are a source of
pub record IsCompiled (bytes : List ℕ) (code : Code) : Type 0 where
  pub program : Program
  pub compiles : Compiles bytes program
  pub generates : Generates program code

-- `code` is the code of that program, and `heads` are the heads of its functions, in order
pub record AreMade (bytes : List ℕ) (code : Verified) (heads : List counted.Head) : Type 0 where
  pub compiled : IsCompiled bytes (code_view code.code)
  pub are_heads : map head_view heads ≡ heads_of compiled.program

-- the code and the heads of a compiled source satisfy `AreMade`
abbrev pub IsMade : List ℕ → Compiled → Type 0
IsMade bytes made = AreMade bytes made.code made.heads.items

-- the head of a function of the resolved tree
abbrev pub head_of : Function → Head
head_of f = record { name = f.name; line = f.line }
