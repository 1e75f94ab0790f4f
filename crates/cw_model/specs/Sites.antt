-- Call sites: the places of a program's calls, each with its number.
use Rattle.std.specs.Prelude.{ℕ, suc, Bool, true, ◌&&◌, nat_eq, List, [], ◌∷◌, ◌++◌, flat_map, map}
use Rattle.cw_model.specs.declared.syntax.CallKind.{CallKind}
use Rattle.cw_model.specs.Syntax.{Name, Stmt, Call, If, IfElse, While, For, Scope, Cut, Region, Block, End, Then}
use Rattle.cw_model.specs.Syntax.{Program}
use Rattle.cw_model.specs.Meaning.{function_named}
use Rattle.cw_model.specs.Answers.{main_name}

-- the kind of a site: the root (the run's own call of `main`), or a call statement
pub data SiteKind : Type 0 where
  Root : SiteKind
  Of : CallKind → SiteKind

-- a site, with its statement's line and its callee; the root has the number 0 and the line of `main`'s head
pub record CallSite : Type 0 where
  pub number : ℕ
  pub kind : SiteKind
  pub line : ℕ
  pub callee : Name

abbrev mutual
  -- the call statements in a statement of this line, in source order
  pub sites_in : ℕ → Stmt → List CallSite
  sites_in line (Call kind site target callee es) =
      record { number = site; kind = Of kind; line = line; callee = callee } ∷ []
  sites_in line (If e b) = sites_in_block b
  sites_in line (IfElse e b c) = sites_in_block b ++ sites_in_block c
  sites_in line (While e b) = sites_in_block b
  sites_in line (For x y z from to grain over b) = sites_in_block b
  sites_in line (Scope b) = sites_in_block b
  sites_in line (Cut a e l r b) = sites_in_block b
  sites_in line (Region tag b) = sites_in_block b
  sites_in line _ = []

  -- the call statements in a block, in source order
  pub sites_in_block : Block → List CallSite
  sites_in_block End = []
  sites_in_block (Then line s b) = sites_in line s ++ sites_in_block b

-- the call statements of a program
abbrev pub call_sites : Program → List CallSite
call_sites program = flat_map (λ f. sites_in_block f.body) program.functions

-- the root: the call of `main` by the run itself
abbrev pub root_site : Program → CallSite
root_site program =
    record { number = 0; kind = Root; line = (function_named main_name program.functions).line; callee = main_name }

-- the sites are numbered consecutively, starting after `n`
abbrev pub are_numbered : ℕ → List CallSite → Bool
are_numbered n [] = true
are_numbered n (s ∷ sites) = nat_eq s.number (suc n) && are_numbered (suc n) sites

-- all sites of a program, the root first
abbrev pub sites_of : Program → List CallSite
sites_of program = root_site program ∷ call_sites program

-- the head of a function: its name and the line of the name
pub record Head : Type 0 where
  pub name : Name
  pub line : ℕ

-- the heads of a program's functions, in source order
abbrev pub heads_of : Program → List Head
heads_of program = map (λ f. record { name = f.name; line = f.line }) program.functions
