-- The grammar: one constructor for each production. A relation `Reads..` relates a list of tokens, the tree that its
-- first tokens spell, and the tokens after them. For statements it also relates the number of the first call
-- statement in them and the number after the last.
use Rattle.std.specs.Prelude.{◌≡◌, ◌≢◌, ◌≤◌, ℕ, suc, pos, Bool, true, false, List, [], ◌∷◌, ◌++◌, Option, Some, None}
use Rattle.cw_model.specs.declared.token.Token.{Token}
use Rattle.cw_model.specs.declared.token.Kind.{Kind}
use Rattle.cw_model.specs.declared.token.Kind.TheVariants as kind
use Rattle.cw_model.specs.declared.limits.TheConstants.{MOST_NUMBER}
use Rattle.cw_model.specs.Text.{between, end_line}
use Rattle.cw_model.specs.Syntax as tree
use Rattle.cw_model.specs.declared.syntax.Operator.{Operator}
use Rattle.cw_model.specs.declared.syntax.Operator.TheVariants as operator
use Rattle.cw_model.specs.declared.syntax.CallKind.TheVariants.{Plain, Spawned}
use Rattle.cw_model.specs.declared.syntax.Reduction.{Reduction}
use Rattle.cw_model.specs.declared.syntax.Reduction.TheVariants.{Sum, Max}
use Rattle.cw_model.specs.declared.syntax.NameKind.TheVariants.{Integer, Array, Const}
use Rattle.cw_model.specs.Syntax.{Name, Expr, Stmt, Block, Param, Function, Reducer, Program}

-- the text of a token
abbrev pub name_of : List ℕ → Token → Name
name_of text t = between text t.start t.end

-- the operator that a kind of token spells, and its level: level 1 binds most tightly
abbrev pub infix_of : Kind → Option (ℕ × Operator)
infix_of kind.Equal = Some (4, operator.Equal)
infix_of kind.NotEqual = Some (4, operator.Unequal)
infix_of kind.Less = Some (3, operator.Less)
infix_of kind.LessEqual = Some (3, operator.AtMost)
infix_of kind.Greater = Some (3, operator.Greater)
infix_of kind.GreaterEqual = Some (3, operator.AtLeast)
infix_of kind.Plus = Some (2, operator.Plus)
infix_of kind.Minus = Some (2, operator.Minus)
infix_of kind.Star = Some (1, operator.Times)
infix_of kind.Slash = Some (1, operator.Divide)
infix_of kind.Percent = Some (1, operator.Modulo)
infix_of _ = None

-- the parts of an expression
pub data Part : Type 0 where
  -- an expression with operators of levels up to this one: 0 is an operand, 4 a whole expression
  level : ℕ → Part
  -- the operators and operands that follow a left operand at a level
  chain : ℕ → Expr → Part

mutual
  -- the tokens of a part of an expression
  pub data ReadsExpr (text : List ℕ) : Part → List Token → Expr → List Token → Type 0 where
    operand : {k : Kind} {t : Token} {ts rest : List Token} {e : Expr} →
        t.kind ≡ k → ReadsOperand text k t ts e rest → ReadsExpr text (level 0) (t ∷ ts) e rest
    operators : {k : ℕ} {ts us rest : List Token} {d e : Expr} →
        ReadsExpr text (level k) ts d us → ReadsExpr text (chain (suc k) d) us e rest
        → ReadsExpr text (level (suc k)) ts e rest
    end : {k : ℕ} {ts : List Token} {d : Expr} → ReadsExpr text (chain k d) ts d ts
    infixed : {k : ℕ} {t : Token} {ts us rest : List Token} {o : Operator} {d e f : Expr} →
        infix_of t.kind ≡ Some (suc k, o) → ReadsExpr text (level k) ts e us →
        ReadsExpr text (chain (suc k) (tree.Binary o d e)) us f rest → ReadsExpr text (chain (suc k) d) (t ∷ ts) f rest

  -- the tokens of an operand, according to the kind of the first token
  pub data ReadsOperand (text : List ℕ) : Kind → Token → List Token → Expr → List Token → Type 0 where
    negative : {t : Token} {ts rest : List Token} {e : Expr} →
        ReadsExpr text (level 0) ts e rest → ReadsOperand text kind.Minus t ts (tree.Negative e) rest
    negation : {t : Token} {ts rest : List Token} {e : Expr} →
        ReadsExpr text (level 0) ts e rest → ReadsOperand text kind.Not t ts (tree.Not e) rest
    -- every number token of a text is within this bound
    number : {t : Token} {ts : List Token} {n : ℕ} → n ≤ MOST_NUMBER
        → ReadsOperand text (kind.Number n) t ts (tree.Number (pos n)) ts
    variable : {t : Token} {ts : List Token} → ReadsOperand text kind.Name t ts (tree.Variable (name_of text t)) ts
    element : {t u v : Token} {ts rest : List Token} {e : Expr} →
        u.kind ≡ kind.LeftBracket → ReadsExpr text (level 4) ts e (v ∷ rest) → v.kind ≡ kind.RightBracket →
        ReadsOperand text kind.Name t (u ∷ ts) (tree.Element (name_of text t) e) rest
    length_of : {t u v w : Token} {ts : List Token} →
        u.kind ≡ kind.LeftParen → v.kind ≡ kind.Name → w.kind ≡ kind.RightParen →
        ReadsOperand text kind.Len t (u ∷ v ∷ w ∷ ts) (tree.Length (name_of text v)) ts
    -- parentheses add no node to the tree
    parentheses : {t u : Token} {ts rest : List Token} {e : Expr} →
        ReadsExpr text (level 4) ts e (u ∷ rest) → u.kind ≡ kind.RightParen
        → ReadsOperand text kind.LeftParen t ts e rest

-- the tokens of a whole expression
abbrev pub ReadsWhole : List ℕ → List Token → Expr → List Token → Type 0
ReadsWhole text ts e rest = ReadsExpr text (level 4) ts e rest

-- further arguments after an argument, and the closing parenthesis
pub data ReadsMoreArguments (text : List ℕ) : List Token → List Expr → List Token → Type 0 where
  close : {t : Token} {ts : List Token} → t.kind ≡ kind.RightParen → ReadsMoreArguments text (t ∷ ts) [] ts
  comma : {t : Token} {ts us rest : List Token} {e : Expr} {es : List Expr} →
      t.kind ≡ kind.Comma → ReadsWhole text ts e us → ReadsMoreArguments text us es rest
      → ReadsMoreArguments text (t ∷ ts) (e ∷ es) rest

-- arguments, and the closing parenthesis
pub data ReadsArguments (text : List ℕ) : List Token → List Expr → List Token → Type 0 where
  none : {t : Token} {ts : List Token} → t.kind ≡ kind.RightParen → ReadsArguments text (t ∷ ts) [] ts
  some : {ts us rest : List Token} {e : Expr} {es : List Expr} →
      ReadsWhole text ts e us → ReadsMoreArguments text us es rest → ReadsArguments text ts (e ∷ es) rest

-- the tokens after the name of a callee: its arguments and the semicolon
pub data ReadsCall (text : List ℕ) : List Token → List Expr → List Token → Type 0 where
  called : {t u : Token} {ts rest : List Token} {es : List Expr} →
      t.kind ≡ kind.LeftParen → ReadsArguments text ts es (u ∷ rest) → u.kind ≡ kind.Semicolon
      → ReadsCall text (t ∷ ts) es rest

-- further names after a name, and the closing parenthesis
pub data ReadsMoreNames (text : List ℕ) : List Token → List Name → List Token → Type 0 where
  close : {t : Token} {ts : List Token} → t.kind ≡ kind.RightParen → ReadsMoreNames text (t ∷ ts) [] ts
  comma : {t u : Token} {ts rest : List Token} {xs : List Name} →
      t.kind ≡ kind.Comma → u.kind ≡ kind.Name → ReadsMoreNames text ts xs rest
      → ReadsMoreNames text (t ∷ u ∷ ts) (name_of text u ∷ xs) rest

-- the grain of a loop, the number of iterations in a leaf; the default is 64
pub data ReadsGrain : List Token → ℕ → List Token → Type 0 where
  usual : {ts : List Token} → ReadsGrain ts 64 ts
  grain : {t u : Token} {ts : List Token} {n : ℕ} → t.kind ≡ kind.Grain → u.kind ≡ kind.Number n
      → ReadsGrain (t ∷ u ∷ ts) n ts

-- the arrays of a loop
pub data ReadsOver (text : List ℕ) : List Token → List Name → List Token → Type 0 where
  nothing : {ts : List Token} → ReadsOver text ts [] ts
  over : {t u v : Token} {ts rest : List Token} {xs : List Name} →
      t.kind ≡ kind.Over → u.kind ≡ kind.LeftParen → v.kind ≡ kind.Name → ReadsMoreNames text ts xs rest →
      ReadsOver text (t ∷ u ∷ v ∷ ts) (name_of text v ∷ xs) rest

-- the parts of a loop's head
pub record Head : Type 0 where
  pub variable : Name
  pub tested : Name
  pub stepped : Name
  pub from : Expr
  pub to : Expr
  pub grain : ℕ
  pub over : List Name

-- a loop's head: "(" "int" NAME "=" expr ";" NAME "<" expr ";" NAME "++" ")", the grain and the arrays
pub data ReadsHead (text : List ℕ) : List Token → Head → List Token → Type 0 where
  head : {left int x equals semicolon y less semicolon' z increment right : Token} {ts us vs ws rest : List Token}
      {from to : Expr} {n : ℕ} {xs : List Name} →
      left.kind ≡ kind.LeftParen → int.kind ≡ kind.Int → x.kind ≡ kind.Name → equals.kind ≡ kind.Assign →
      ReadsWhole text ts from (semicolon ∷ y ∷ less ∷ us) → semicolon.kind ≡ kind.Semicolon → y.kind ≡ kind.Name
      → less.kind ≡ kind.Less →
      ReadsWhole text us to (semicolon' ∷ z ∷ increment ∷ right ∷ vs) → semicolon'.kind ≡ kind.Semicolon
      → z.kind ≡ kind.Name → increment.kind ≡ kind.Increment →
      right.kind ≡ kind.RightParen → ReadsGrain vs n ws → ReadsOver text ws xs rest →
      ReadsHead text (left ∷ int ∷ x ∷ equals ∷ ts)
      (record {
        variable = name_of text x;
        tested = name_of text y;
        stepped = name_of text z;
        from = from;
        to = to;
        grain = n;
        over = xs;
      }) rest

-- the tokens after a name and "=": a call, a spawn or an expression
pub data ReadsAssigned (text : List ℕ) : ℕ → Name → List Token → Stmt → ℕ → List Token → Type 0 where
  value : {n : ℕ} {x : Name} {u : Token} {ts rest : List Token} {e : Expr} →
      ReadsWhole text ts e (u ∷ rest) → u.kind ≡ kind.Semicolon → ReadsAssigned text n x ts (tree.Assign x e) n rest
  call : {n : ℕ} {x : Name} {f : Token} {ts rest : List Token} {es : List Expr} →
      f.kind ≡ kind.Name → ReadsCall text ts es rest →
      ReadsAssigned text n x (f ∷ ts) (tree.Call Plain n (Some x) (name_of text f) es) (suc n) rest
  spawn : {n : ℕ} {x : Name} {t f : Token} {ts rest : List Token} {es : List Expr} →
      t.kind ≡ kind.Spawn → f.kind ≡ kind.Name → ReadsCall text ts es rest →
      ReadsAssigned text n x (t ∷ f ∷ ts) (tree.Call Spawned n (Some x) (name_of text f) es) (suc n) rest

-- the tokens after a name at the start of a statement, according to the kind of the second token
pub data ReadsNamed (text : List ℕ) : ℕ → Kind → Token → List Token → Stmt → ℕ → List Token → Type 0 where
  assign : {n m : ℕ} {t : Token} {ts rest : List Token} {s : Stmt} →
      ReadsAssigned text n (name_of text t) ts s m rest → ReadsNamed text n kind.Assign t ts s m rest
  assign_element : {n : ℕ} {t u v w : Token} {ts us rest : List Token} {i e : Expr} →
      ReadsWhole text ts i (u ∷ v ∷ us) → u.kind ≡ kind.RightBracket → v.kind ≡ kind.Assign
      → ReadsWhole text us e (w ∷ rest) → w.kind ≡ kind.Semicolon →
      ReadsNamed text n kind.LeftBracket t ts (tree.AssignElement (name_of text t) i e) n rest
  add : {n : ℕ} {t u : Token} {ts rest : List Token} {e : Expr} →
      ReadsWhole text ts e (u ∷ rest) → u.kind ≡ kind.Semicolon
      → ReadsNamed text n kind.AddAssign t ts (tree.Reduce Sum (name_of text t) e) n rest
  raise : {n : ℕ} {t u v : Token} {ts rest : List Token} {e : Expr} →
      u.kind ≡ kind.Assign → ReadsWhole text ts e (v ∷ rest) → v.kind ≡ kind.Semicolon
      → ReadsNamed text n kind.Max t (u ∷ ts) (tree.Reduce Max (name_of text t) e) n rest
  call : {n : ℕ} {t u : Token} {ts rest : List Token} {es : List Expr} →
      ReadsArguments text ts es (u ∷ rest) → u.kind ≡ kind.Semicolon →
      ReadsNamed text n kind.LeftParen t ts (tree.Call Plain n None (name_of text t) es) (suc n) rest

-- the tokens after "int" NAME in a statement: a value or a length
pub data ReadsDeclared (text : List ℕ) : Name → List Token → Stmt → List Token → Type 0 where
  integer : {x : Name} {t u : Token} {ts rest : List Token} {e : Expr} →
      t.kind ≡ kind.Assign → ReadsWhole text ts e (u ∷ rest) → u.kind ≡ kind.Semicolon
      → ReadsDeclared text x (t ∷ ts) (tree.Declare x e) rest
  array : {x : Name} {t u v : Token} {ts rest : List Token} {e : Expr} →
      t.kind ≡ kind.LeftBracket → ReadsWhole text ts e (u ∷ v ∷ rest) → u.kind ≡ kind.RightBracket
      → v.kind ≡ kind.Semicolon →
      ReadsDeclared text x (t ∷ ts) (tree.DeclareArray x e) rest

-- the tokens after "return"
pub data ReadsReturned (text : List ℕ) : List Token → Option Expr → List Token → Type 0 where
  nothing : {t : Token} {ts : List Token} → t.kind ≡ kind.Semicolon → ReadsReturned text (t ∷ ts) None ts
  value : {t : Token} {ts rest : List Token} {e : Expr} → ReadsWhole text ts e (t ∷ rest) → t.kind ≡ kind.Semicolon
      → ReadsReturned text ts (Some e) rest

mutual
  -- the tokens of a statement
  pub data ReadsStmt (text : List ℕ) : ℕ → List Token → Stmt → ℕ → List Token → Type 0 where
    begins : {n m : ℕ} {k : Kind} {t : Token} {ts rest : List Token} {s : Stmt} →
        t.kind ≡ k → ReadsStmtBy text n k t ts s m rest → ReadsStmt text n (t ∷ ts) s m rest

  -- the tokens of a statement, according to the kind of its first token
  pub data ReadsStmtBy (text : List ℕ) : ℕ → Kind → Token → List Token → Stmt → ℕ → List Token → Type 0 where
    declare : {n : ℕ} {t x : Token} {ts rest : List Token} {s : Stmt} →
        x.kind ≡ kind.Name → ReadsDeclared text (name_of text x) ts s rest
        → ReadsStmtBy text n kind.Int t (x ∷ ts) s n rest
    named : {n m : ℕ} {k : Kind} {t u : Token} {ts rest : List Token} {s : Stmt} →
        u.kind ≡ k → ReadsNamed text n k t ts s m rest → ReadsStmtBy text n kind.Name t (u ∷ ts) s m rest
    spawn : {n : ℕ} {t f : Token} {ts rest : List Token} {es : List Expr} →
        f.kind ≡ kind.Name → ReadsCall text ts es rest →
        ReadsStmtBy text n kind.Spawn t (f ∷ ts) (tree.Call Spawned n None (name_of text f) es) (suc n) rest
    sync : {n : ℕ} {t u : Token} {ts : List Token} → u.kind ≡ kind.Semicolon
        → ReadsStmtBy text n kind.Sync t (u ∷ ts) tree.Sync n ts
    when : {n m : ℕ} {t u v : Token} {ts us rest : List Token} {e : Expr} {b : Block} →
        u.kind ≡ kind.LeftParen → ReadsWhole text ts e (v ∷ us) → v.kind ≡ kind.RightParen
        → ReadsBlock text n us b m rest →
        ReadsStmtBy text n kind.If t (u ∷ ts) (tree.If e b) m rest
    choose : {n m o : ℕ} {t u v w : Token} {ts us vs rest : List Token} {e : Expr} {b c : Block} →
        u.kind ≡ kind.LeftParen → ReadsWhole text ts e (v ∷ us) → v.kind ≡ kind.RightParen
        → ReadsBlock text n us b m (w ∷ vs) →
        w.kind ≡ kind.Else → ReadsBlock text m vs c o rest
        → ReadsStmtBy text n kind.If t (u ∷ ts) (tree.IfElse e b c) o rest
    repeat : {n m : ℕ} {t u v : Token} {ts us rest : List Token} {e : Expr} {b : Block} →
        u.kind ≡ kind.LeftParen → ReadsWhole text ts e (v ∷ us) → v.kind ≡ kind.RightParen
        → ReadsBlock text n us b m rest →
        ReadsStmtBy text n kind.While t (u ∷ ts) (tree.While e b) m rest
    loop : {n m : ℕ} {t : Token} {ts us rest : List Token} {h : Head} {b : Block} →
        ReadsHead text ts h us → ReadsBlock text n us b m rest →
        ReadsStmtBy text n kind.For t ts (tree.For h.variable h.tested h.stepped h.from h.to h.grain h.over b) m rest
    scope : {n m : ℕ} {t : Token} {ts rest : List Token} {b : Block} →
        ReadsBlock text n ts b m rest → ReadsStmtBy text n kind.Scope t ts (tree.Scope b) m rest
    cut : {n m : ℕ} {t a at «as» l comma r : Token} {ts us rest : List Token} {e : Expr} {b : Block} →
        a.kind ≡ kind.Name → at.kind ≡ kind.At → ReadsWhole text ts e («as» ∷ l ∷ comma ∷ r ∷ us) →
        «as».kind ≡ kind.As → l.kind ≡ kind.Name → comma.kind ≡ kind.Comma → r.kind ≡ kind.Name
        → ReadsBlock text n us b m rest →
        ReadsStmtBy text n kind.Cut t (a ∷ at ∷ ts) (tree.Cut (name_of text a) e (name_of text l) (name_of text r) b) m
        rest
    region : {n m : ℕ} {t tag : Token} {ts rest : List Token} {b : Block} →
        tag.kind ≡ kind.Name → ReadsBlock text n ts b m rest
        → ReadsStmtBy text n kind.Region t (tag ∷ ts) (tree.Region (name_of text tag) b) m rest
    print : {n : ℕ} {t u v w : Token} {ts rest : List Token} {e : Expr} →
        u.kind ≡ kind.LeftParen → ReadsWhole text ts e (v ∷ w ∷ rest) → v.kind ≡ kind.RightParen
        → w.kind ≡ kind.Semicolon →
        ReadsStmtBy text n kind.Print t (u ∷ ts) (tree.Print e) n rest
    give : {n : ℕ} {t : Token} {ts rest : List Token} {e : Option Expr} →
        ReadsReturned text ts e rest → ReadsStmtBy text n kind.Return t ts (tree.Return e) n rest

  -- a block: statements in braces
  pub data ReadsBlock (text : List ℕ) : ℕ → List Token → Block → ℕ → List Token → Type 0 where
    braces : {n m : ℕ} {t : Token} {ts rest : List Token} {b : Block} →
        t.kind ≡ kind.LeftBrace → ReadsStmts text n ts b m rest → ReadsBlock text n (t ∷ ts) b m rest

  -- statements, each with the line of its first token, and the closing brace
  pub data ReadsStmts (text : List ℕ) : ℕ → List Token → Block → ℕ → List Token → Type 0 where
    close : {n : ℕ} {t : Token} {ts : List Token} → t.kind ≡ kind.RightBrace → ReadsStmts text n (t ∷ ts) tree.End n ts
    one_more : {n m o : ℕ} {t : Token} {ts us rest : List Token} {s : Stmt} {b : Block} →
        ReadsStmt text n (t ∷ ts) s m us → ReadsStmts text m us b o rest
        → ReadsStmts text n (t ∷ ts) (tree.Then t.line s b) o rest

-- the tokens of a parameter
pub data ReadsParam (text : List ℕ) : List Token → Param → List Token → Type 0 where
  integer : {t x : Token} {ts : List Token} →
      t.kind ≡ kind.Int → x.kind ≡ kind.Name
      → ReadsParam text (t ∷ x ∷ ts) (record { name = name_of text x; kind = Integer }) ts
  array : {t x u v : Token} {ts : List Token} →
      t.kind ≡ kind.Int → x.kind ≡ kind.Name → u.kind ≡ kind.LeftBracket → v.kind ≡ kind.RightBracket →
      ReadsParam text (t ∷ x ∷ u ∷ v ∷ ts) (record { name = name_of text x; kind = Array }) ts
  array_to_read : {c t x u v : Token} {ts : List Token} →
      c.kind ≡ kind.Const → t.kind ≡ kind.Int → x.kind ≡ kind.Name → u.kind ≡ kind.LeftBracket
      → v.kind ≡ kind.RightBracket →
      ReadsParam text (c ∷ t ∷ x ∷ u ∷ v ∷ ts) (record { name = name_of text x; kind = Const }) ts

-- further parameters after a parameter, and the closing parenthesis
pub data ReadsMoreParams (text : List ℕ) : List Token → List Param → List Token → Type 0 where
  close : {t : Token} {ts : List Token} → t.kind ≡ kind.RightParen → ReadsMoreParams text (t ∷ ts) [] ts
  comma : {t : Token} {ts us rest : List Token} {p : Param} {ps : List Param} →
      t.kind ≡ kind.Comma → ReadsParam text ts p us → ReadsMoreParams text us ps rest
      → ReadsMoreParams text (t ∷ ts) (p ∷ ps) rest

-- parameters, and the closing parenthesis
pub data ReadsParams (text : List ℕ) : List Token → List Param → List Token → Type 0 where
  none : {t : Token} {ts : List Token} → t.kind ≡ kind.RightParen → ReadsParams text (t ∷ ts) [] ts
  some : {ts us rest : List Token} {p : Param} {ps : List Param} →
      ReadsParam text ts p us → ReadsMoreParams text us ps rest → ReadsParams text ts (p ∷ ps) rest

-- whether a function returns an integer, according to the kind of its first token
abbrev pub gives_int_of : Kind → Option Bool
gives_int_of kind.Int = Some true
gives_int_of kind.Void = Some false
gives_int_of _ = None

-- a function, with the line of its name
pub data ReadsFunction (text : List ℕ) : ℕ → List Token → Function → ℕ → List Token → Type 0 where
  function : {n m : ℕ} {t f u : Token} {ts us rest : List Token} {gives : Bool} {ps : List Param} {b : Block} →
      gives_int_of t.kind ≡ Some gives → f.kind ≡ kind.Name → u.kind ≡ kind.LeftParen → ReadsParams text ts ps us
      → ReadsBlock text n us b m rest →
      ReadsFunction text n (t ∷ f ∷ u ∷ ts)
      (record { name = name_of text f; line = f.line; gives_int = gives; params = ps; body = b }) m rest

-- the reduction of a reducer, according to the second word of its declaration
abbrev pub reduction_of : Kind → Option Reduction
reduction_of kind.Sum = Some Sum
reduction_of kind.Max = Some Max
reduction_of _ = None

-- items up to the end of the source: its reducers and its functions, each in source order
pub data ReadsItems (text : List ℕ) : ℕ → List Token → List Reducer → List Function → Type 0 where
  no_item : {n : ℕ} → ReadsItems text n [] [] []
  one_reducer : {n : ℕ} {t u s v : Token} {how : Reduction} {ts : List Token} {rs : List Reducer} {fs : List Function} →
      t.kind ≡ kind.Reducer → reduction_of u.kind ≡ Some how → s.kind ≡ kind.Name → v.kind ≡ kind.Semicolon
      → ReadsItems text n ts rs fs →
      ReadsItems text n (t ∷ u ∷ s ∷ v ∷ ts) (record { name = name_of text s; how = how; line = t.line } ∷ rs) fs
  one_function : {n m : ℕ} {ts us : List Token} {f : Function} {rs : List Reducer} {fs : List Function} →
      ReadsFunction text n ts f m us → ReadsItems text m us rs fs → ReadsItems text n ts rs (f ∷ fs)

-- the tokens are a source of at least one item, with this tree; call statements are numbered from 1
pub record Derives (text : List ℕ) (ts : List Token) (program : Program) : Type 0 where
  pub some : ts ≢ []
  pub items : ReadsItems text 1 ts program.reducers program.functions

-- some source starts with these tokens
abbrev pub CanBegin : List ℕ → List Token → Type 0
CanBegin text ts = (more : List Token) × (program : Program) × Derives text (ts ++ more) program

-- the line of the first token of a list, or of the text's end if there is no token
abbrev pub first_line : List ℕ → List Token → ℕ
first_line text [] = end_line text
first_line text (t ∷ ts) = t.line

-- the tokens are not a source: `rest` starts with the first token that cannot continue any source, or it is empty
-- because the source ends too early
pub record HasSyntaxFault (text : List ℕ) (ts : List Token) (line : ℕ) : Type 0 where
  pub before : List Token
  pub rest : List Token
  pub parts : ts ≡ before ++ rest
  pub goes_on : CanBegin text before
  pub no_further : (t : Token) (us : List Token) → rest ≡ t ∷ us → CanBegin text (before ++ t ∷ []) → ⊥
  pub no_end : rest ≡ [] → (program : Program) → Derives text ts program → ⊥
  pub same_line : line ≡ first_line text rest
