-- Local names with the lines of their declarations.
use Rattle.std.specs.Prelude.{ℕ, ◌-◌, if◌then◌else◌, List, [], ◌∷◌, Option, Some, None, drop, length}
use Rattle.std.specs.Prelude.{map}
use Rattle.cw_model.specs.declared.syntax.NameKind.{NameKind}
use Rattle.cw_model.specs.declared.syntax.NameKind.TheVariants.{Integer, Array}
use Rattle.cw_model.specs.Names.{same_name}
use Rattle.cw_model.specs.Syntax.{Name, Stmt, Declare, DeclareArray, Param, Reducer}
use Rattle.cw_model.specs.Typing.{Known}

-- a local name, its kind, and the line of its declaration
pub record Declared : Type 0 where
  pub name : Name
  pub kind : NameKind
  pub line : ℕ

-- local names, the newest first, in the form of the rules of names and types
abbrev pub kinds : List Declared → Known
kinds locals = map (λ d. (d.name, d.kind)) locals

-- the kind and the line of a local name
abbrev pub kind_and_line : Declared → NameKind × ℕ
kind_and_line d = (d.kind, d.line)

-- the name and the line of a reducer
abbrev pub name_and_line : Reducer → Name × ℕ
name_and_line r = (r.name, r.line)

-- the newest local name of a spelling
abbrev pub newest : Name → List Declared → Option Declared
newest x [] = None
newest x (d ∷ ds) = if same_name x d.name then Some d else newest x ds

-- the oldest `n` local names
abbrev pub oldest : ℕ → List Declared → List Declared
oldest n locals = drop (length locals - n) locals

-- adds a local name as the newest
abbrev pub with_local : Name → NameKind → ℕ → List Declared → List Declared
with_local x kind line locals = record { name = x; kind = kind; line = line } ∷ locals

-- the local names after a statement in this line
abbrev pub after_stmt : ℕ → Stmt → List Declared → List Declared
after_stmt line (Declare x e) locals = with_local x Integer line locals
after_stmt line (DeclareArray a e) locals = with_local a Array line locals
after_stmt line _ locals = locals

-- the local names with the parameters of a function, which have the line of the function
abbrev pub with_params : ℕ → List Param → List Declared → List Declared
with_params line [] locals = locals
with_params line (p ∷ ps) locals = with_params line ps (with_local p.name p.kind line locals)
