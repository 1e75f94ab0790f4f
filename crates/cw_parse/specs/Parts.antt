-- The parser as functions on lists: a definition for each function of the code.
use Rattle.std.specs.Prelude.{ℕ, zero, suc, ◌+◌, ◌==◌, pos, nat_le, Bool, true, false, if◌then◌else◌, List, [], ◌∷◌}
use Rattle.std.specs.Prelude.{◌++◌, length, Option, None, Some, Ok, Err}
use Rattle.cw_model.specs.declared.token.Token.{Token}
use Rattle.cw_model.specs.declared.token.Kind.{Kind}
use Rattle.cw_model.specs.declared.token.Kind.TheVariants as kind
use Rattle.cw_model.specs.declared.limits.TheConstants.{MOST_NUMBER}
use Rattle.cw_model.specs.Syntax as tree
use Rattle.cw_model.specs.declared.syntax.Operator.{Operator}
use Rattle.cw_model.specs.declared.syntax.CallKind.{CallKind}
use Rattle.cw_model.specs.declared.syntax.CallKind.TheVariants.{Plain, Spawned}
use Rattle.cw_model.specs.declared.syntax.Reduction.{Reduction}
use Rattle.cw_model.specs.declared.syntax.Reduction.TheVariants.{Sum, Max}
use Rattle.cw_model.specs.declared.syntax.NameKind.TheVariants as name_kind
use Rattle.cw_model.specs.Syntax.{Name, Expr, Stmt, Block, Param, Function, Reducer}
use Rattle.cw_model.specs.Grammar.{name_of, infix_of, Head}
use Rattle.cw_parse.specs.declared.marks.Mark.{Mark}
use Rattle.cw_parse.specs.declared.marks.Mark.TheVariants as mark
use Rattle.cw_parse.specs.Marks.{is_mark}
use Rattle.cw_parse.specs.Reading.{Read, Reader, ◌>>=◌, token, by_first, if_next, unless_next, row, with_front}

-- reads a token that matches the mark
abbrev pub marked : Mark → Reader Token
marked m = token (is_mark m)

-- ---- expressions

-- reads a number that the tree can hold
abbrev pub number : Token → ℕ → Reader Expr
number t n ts = if nat_le n MOST_NUMBER then Ok (tree.Number (pos n), ts) else Err (length (t ∷ ts))

-- returns an operand that was read, unless an index follows it; an index may follow only a name
abbrev pub unindexed : Expr → Reader Expr
unindexed e ts = unless_next (is_mark mark.LeftBracket) e ts

-- reads an expression up to a closing token
abbrev pub closed : {A : Type 0} → Mark → (Expr → A) → Reader Expr → Reader A
closed m make whole ts = whole ts >>= λ x. marked m x.1 >>= λ y. Ok (make x.0, y.1)

-- reads an operand that begins with a name
unfoldable pub named : List ℕ → Reader Expr → Token → Reader Expr
named text whole t ts =
    if_next (is_mark mark.LeftBracket)
    (λ _ us. closed mark.RightBracket (λ e. tree.Element (name_of text t) e) whole us >>= λ x. unindexed x.0 x.1)
    (λ us. Ok (tree.Variable (name_of text t), us)) ts

-- reads the length of an array after its keyword
unfoldable pub measured : List ℕ → Reader Expr
measured text ts =
    marked mark.LeftParen ts >>= λ x. marked mark.Name x.1 >>= λ y. marked mark.RightParen y.1 >>= λ z. Ok
    (tree.Length (name_of text y.0), z.1)

-- reads an operand that begins with neither a sign nor a name, after a first token of this kind
unfoldable pub atom : List ℕ → Reader Expr → Token → Kind → Reader Expr
atom text whole t (kind.Number n) ts = number t n ts
atom text whole t kind.Len ts = measured text ts
atom text whole t kind.LeftParen ts = closed mark.RightParen (λ e. e) whole ts
atom text whole t _ ts = Err (length (t ∷ ts))

-- reads an operand after a first token of this kind
unfoldable pub operand_after : List ℕ → Reader Expr → Reader Expr → Token → Kind → Reader Expr
operand_after text whole inner t kind.Minus ts = inner ts >>= λ x. Ok (tree.Negative x.0, x.1)
operand_after text whole inner t kind.Not ts = inner ts >>= λ x. Ok (tree.Not x.0, x.1)
operand_after text whole inner t kind.Name ts = named text whole t ts
operand_after text whole inner t k ts = atom text whole t k ts >>= λ x. unindexed x.0 x.1

-- an operator, if it is one of this level
abbrev pub at_level : ℕ → Option (ℕ × Operator) → Option Operator
at_level k None = None
at_level k (Some x) = if x.0 == k then Some x.1 else None

-- an operator with the tokens after it, if there is an operator
abbrev pub beside : List Token → Option Operator → Option (Operator × List Token)
beside ts None = None
beside ts (Some o) = Some (o, ts)

-- the operator of this level at the front of the tokens, with the tokens after it
abbrev pub operator_at : ℕ → List Token → Option (Operator × List Token)
operator_at k [] = None
operator_at k (t ∷ ts) = beside ts (at_level k (infix_of t.kind))

-- continues a left operand with the operator that follows it, if there is one
abbrev pub chain_on : Reader Expr → (Expr → Reader Expr) → Expr → List Token → Option (Operator × List Token) →
    Read Expr
chain_on next more d ts None = Ok (d, ts)
chain_on next more d ts (Some x) = next x.1 >>= λ e. more (tree.Binary x.0 d e.0) e.1

-- reads the operators of a level after a left operand, in at most `n` steps
unfoldable pub chain : Reader Expr → ℕ → ℕ → Expr → Reader Expr
chain next k zero d ts = Ok (d, ts)
chain next k (suc n) d ts = chain_on next (chain next k n) d ts (operator_at k ts)

-- reads an expression with operators of levels up to this one: a level is the level below followed by a chain
unfoldable pub level_over : Reader Expr → ℕ → ℕ → Reader Expr
level_over operand n zero ts = operand ts
level_over operand n (suc k) ts = level_over operand n k ts >>= λ x. chain (level_over operand n k) (suc k) n x.0 x.1

-- reads an operand; operands nest at most `n` deep
unfoldable pub operand : List ℕ → ℕ → Reader Expr
operand text zero ts = Err (length ts)
operand text (suc n) ts = by_first (operand_after text (level_over (operand text n) n 4) (operand text n)) ts

-- reads an expression with operators of levels up to `k`; operands nest at most `n` deep
abbrev pub level : List ℕ → ℕ → ℕ → Reader Expr
level text n k = level_over (operand text n) n k

-- reads an expression; operands nest at most `n` deep
abbrev pub expr : List ℕ → ℕ → Reader Expr
expr text n = level text n 4

-- reads the index of an array element after its opening bracket; operands nest at most `n` deep
abbrev pub element : List ℕ → ℕ → Name → Reader Expr
element text n x = closed mark.RightBracket (λ e. tree.Element x e) (expr text n)

-- reads an operand that begins with neither a sign nor a name, after its first token, with bound `n` on the nesting
abbrev pub atom_from : List ℕ → ℕ → Token → Reader Expr
atom_from text n t = atom text (expr text n) t t.kind

-- reads an operand after its first token, with bound `n` on the nesting
abbrev pub operand_from : List ℕ → ℕ → Token → Reader Expr
operand_from text n t = operand_after text (expr text n) (operand text n) t t.kind

-- reads an operand whose inner operands nest at most `n` deep
abbrev pub operand_over : List ℕ → ℕ → Reader Expr
operand_over text n = by_first (operand_after text (expr text n) (operand text n))

-- reads the operators of the level above `below` after a left operand, with bound `n` on the nesting
abbrev pub chain_above : List ℕ → ℕ → ℕ → Expr → Reader Expr
chain_above text n below d = chain (level text n below) (below + 1) n d

-- ---- lists with commas

-- adds a part at the front
abbrev pub add_front : {A : Type 0} → A → List A → List A
add_front a rest = a ∷ rest

-- reads a comma and another part
abbrev pub further : {A : Type 0} → Reader A → Unit {0} → Reader (A × Unit {0})
further part s ts = marked mark.Comma ts >>= λ c. part c.1 >>= λ x. Ok ((x.0, tt), x.1)

-- reads the parts after the first one, and the closing parenthesis
abbrev pub others : {A : Type 0} → Reader A → ℕ → Reader (List A)
others part n ts = row (is_mark mark.RightParen) (λ _. []) add_front (further part) n tt ts

-- reads the parts after `front`, and the closing parenthesis
abbrev pub others_behind : {A : Type 0} → List A → Reader A → ℕ → Reader (List A)
others_behind front part n ts = with_front add_front front (others part n ts)

-- reads one or more parts, and the closing parenthesis
abbrev pub some_of : {A : Type 0} → Reader A → ℕ → Reader (List A)
some_of part n ts = part ts >>= λ x. others part n x.1 >>= λ y. Ok (x.0 ∷ y.0, y.1)

-- reads any number of parts, and the closing parenthesis
unfoldable pub list : {A : Type 0} → Reader A → ℕ → Reader (List A)
list part n ts = if_next (is_mark mark.RightParen) (λ _ us. Ok ([], us)) (some_of part n) ts

-- reads a name
abbrev pub name : List ℕ → Reader Name
name text ts = marked mark.Name ts >>= λ x. Ok (name_of text x.0, x.1)

-- ---- statements without a block

-- reads a call after the name of its callee and the opening parenthesis; the next call has the number `site + 1`
unfoldable pub called : List ℕ → ℕ → CallKind → ℕ → Option Name → Token → Reader (Stmt × ℕ)
called text n how site target f ts =
    list (expr text n) n ts >>= λ y. marked mark.Semicolon y.1 >>= λ z. Ok
    ((tree.Call how site target (name_of text f) y.0, site + 1), z.1)

-- reads a call from the name of its callee on
unfoldable pub call : List ℕ → ℕ → CallKind → ℕ → Option Name → Reader (Stmt × ℕ)
call text n how site target ts =
    marked mark.Name ts >>= λ f. marked mark.LeftParen f.1 >>= λ u. called text n how site target f.0 u.1

-- reads an expression up to the semicolon of its statement
abbrev pub ended : List ℕ → ℕ → ℕ → (Expr → Stmt) → Reader (Stmt × ℕ)
ended text n site make ts = closed mark.Semicolon (λ e. (make e, site)) (expr text n) ts

-- the tokens begin with a name and an opening parenthesis
abbrev pub is_call : List Token → Bool
is_call [] = false
is_call (t ∷ []) = false
is_call (t ∷ u ∷ ts) = if is_mark mark.Name t.kind then is_mark mark.LeftParen u.kind else false

-- reads the rest of a statement after a name and "="
unfoldable pub assigned : List ℕ → ℕ → ℕ → Name → Reader (Stmt × ℕ)
assigned text n site x ts =
    if_next (is_mark mark.Spawn) (λ _ us. call text n Spawned site (Some x) us)
    (λ us. if is_call us then call text n Plain site (Some x) us else ended text n site (λ e. tree.Assign x e) us) ts

-- reads the rest of a statement after a name and "["
unfoldable pub element_assigned : List ℕ → ℕ → ℕ → Name → Reader (Stmt × ℕ)
element_assigned text n site x ts =
    expr text n ts >>= λ i. marked mark.RightBracket i.1 >>= λ u. marked mark.Assign u.1 >>= λ v. ended text n site
    (λ e. tree.AssignElement x i.0 e) v.1

-- reads the value that updates a reducer, up to the semicolon
abbrev pub told : List ℕ → ℕ → ℕ → Reduction → Name → Reader (Stmt × ℕ)
told text n site how s ts = ended text n site (λ e. tree.Reduce how s e) ts

-- reads a statement that begins with a name, after a second token of this kind
unfoldable pub named_stmt : List ℕ → ℕ → ℕ → Token → Token → Kind → Reader (Stmt × ℕ)
named_stmt text n site t u kind.Assign ts = assigned text n site (name_of text t) ts
named_stmt text n site t u kind.LeftBracket ts = element_assigned text n site (name_of text t) ts
named_stmt text n site t u kind.AddAssign ts = told text n site Sum (name_of text t) ts
named_stmt text n site t u kind.Max ts =
    marked mark.Assign ts >>= λ v. told text n site Max (name_of text t) v.1
named_stmt text n site t u kind.LeftParen ts = called text n Plain site None t ts
named_stmt text n site t u _ ts = Err (length (u ∷ ts))

-- reads a statement that begins with "int" and a name, after a next token of this kind
unfoldable pub declared_as : List ℕ → ℕ → ℕ → Name → Token → Kind → Reader (Stmt × ℕ)
declared_as text n site x u kind.Assign ts = ended text n site (λ e. tree.Declare x e) ts
declared_as text n site x u kind.LeftBracket ts =
    expr text n ts >>= λ e. marked mark.RightBracket e.1 >>= λ v. marked mark.Semicolon v.1 >>= λ w. Ok
    ((tree.DeclareArray x e.0, site), w.1)
declared_as text n site x u _ ts = Err (length (u ∷ ts))

-- reads the rest of a statement after "int"
unfoldable pub declared : List ℕ → ℕ → ℕ → Reader (Stmt × ℕ)
declared text n site ts = marked mark.Name ts >>= λ x. by_first (declared_as text n site (name_of text x.0)) x.1

-- reads the rest of a statement after "return"
unfoldable pub returned : List ℕ → ℕ → ℕ → Reader (Stmt × ℕ)
returned text n site ts =
    if_next (is_mark mark.Semicolon) (λ _ us. Ok ((tree.Return None, site), us))
    (ended text n site (λ e. tree.Return (Some e))) ts

-- reads the rest of a statement after "print"
unfoldable pub printed : List ℕ → ℕ → ℕ → Reader (Stmt × ℕ)
printed text n site ts =
    marked mark.LeftParen ts >>= λ u. expr text n u.1 >>= λ e. marked mark.RightParen e.1 >>= λ v. marked mark.Semicolon
    v.1 >>= λ w.
    Ok ((tree.Print e.0, site), w.1)

-- reads a statement without a block, after a first token of this kind; also returns the next call number
unfoldable pub simple : List ℕ → ℕ → ℕ → Token → Kind → Reader (Stmt × ℕ)
simple text n site t kind.Int ts = declared text n site ts
simple text n site t kind.Name ts = by_first (named_stmt text n site t) ts
simple text n site t kind.Spawn ts = call text n Spawned site None ts
simple text n site t kind.Sync ts = marked mark.Semicolon ts >>= λ x. Ok ((tree.Sync, site), x.1)
simple text n site t kind.Print ts = printed text n site ts
simple text n site t kind.Return ts = returned text n site ts
simple text n site t _ ts = Err (length (t ∷ ts))

-- ---- statements with a block

-- the part of a statement before its block
pub data Opening : Type 0 where
  If : Expr → Opening
  While : Expr → Opening
  For : Head → Opening
  Scope : Opening
  Cut : (array : Name) (at : Expr) (left right : Name) → Opening
  Region : Name → Opening

-- reads a condition in parentheses, and an opening brace
unfoldable pub condition : List ℕ → ℕ → Reader Expr
condition text n ts =
    marked mark.LeftParen ts >>= λ u. expr text n u.1 >>= λ e. marked mark.RightParen e.1 >>= λ v. marked mark.LeftBrace
    v.1 >>= λ w. Ok (e.0, w.1)

-- reads the maximum number of iterations in a leaf of a loop, a first token of this kind
abbrev pub turns : Token → Kind → Reader ℕ
turns t (kind.Number n) ts = Ok (n, ts)
turns t _ ts = Err (length (t ∷ ts))

-- reads the maximum number of iterations in a leaf of a loop; 64 is the default
unfoldable pub grain : Reader ℕ
grain ts = if_next (is_mark mark.Grain) (λ _ us. by_first turns us) (λ us. Ok (64, us)) ts

-- reads the arrays of a loop
unfoldable pub over : List ℕ → ℕ → Reader (List Name)
over text n ts =
    if_next (is_mark mark.Over) (λ _ us. marked mark.LeftParen us >>= λ u. some_of (name text) n u.1)
    (λ us. Ok ([], us)) ts

-- reads the variable of a loop and its first value
unfoldable pub range_from : List ℕ → ℕ → Reader (Name × Expr)
range_from text n ts =
    marked mark.LeftParen ts >>= λ l. marked mark.Int l.1 >>= λ i. marked mark.Name i.1 >>= λ x. marked mark.Assign x.1
    >>= λ a.
    expr text n a.1 >>= λ e. marked mark.Semicolon e.1 >>= λ s. Ok ((name_of text x.0, e.0), s.1)

-- reads the name that a loop compares and the upper bound
unfoldable pub range_to : List ℕ → ℕ → Reader (Name × Expr)
range_to text n ts =
    marked mark.Name ts >>= λ y. marked mark.Less y.1 >>= λ l. expr text n l.1 >>= λ e. marked mark.Semicolon e.1 >>= λ
    s. Ok ((name_of text y.0, e.0), s.1)

-- reads the name that a loop increments
unfoldable pub range_step : List ℕ → Reader Name
range_step text ts =
    marked mark.Name ts >>= λ z. marked mark.Increment z.1 >>= λ i. marked mark.RightParen i.1 >>= λ r. Ok
    (name_of text z.0, r.1)

-- reads the head of a loop, and an opening brace
unfoldable pub head : List ℕ → ℕ → Reader Head
head text n ts =
    range_from text n ts >>= λ f. range_to text n f.1 >>= λ t. range_step text t.1 >>= λ z. grain z.1 >>= λ g. over text
    n g.1 >>= λ o. marked mark.LeftBrace o.1 >>= λ b.
    Ok (
      record { variable = f.0.0; tested = t.0.0; stepped = z.0; from = f.0.1; to = t.0.1; grain = g.0; over = o.0 },
      b.1,
    )

-- reads the part after "cut", and an opening brace
unfoldable pub cut : List ℕ → ℕ → Reader Opening
cut text n ts =
    marked mark.Name ts >>= λ a. marked mark.At a.1 >>= λ u. expr text n u.1 >>= λ e. marked mark.As e.1 >>= λ v.
    marked mark.Name v.1 >>= λ l. marked mark.Comma l.1 >>= λ c. marked mark.Name c.1 >>= λ r. marked mark.LeftBrace r.1
    >>= λ b.
    Ok (Cut (name_of text a.0) e.0 (name_of text l.0) (name_of text r.0), b.1)

-- reads the part after "region", and an opening brace
unfoldable pub region : List ℕ → Reader Opening
region text ts = marked mark.Name ts >>= λ x. marked mark.LeftBrace x.1 >>= λ b. Ok (Region (name_of text x.0), b.1)

-- reads the opening of a block after a first token of this kind, and the opening brace
unfoldable pub opening : List ℕ → ℕ → Token → Kind → Reader Opening
opening text n t kind.If ts = condition text n ts >>= λ x. Ok (If x.0, x.1)
opening text n t kind.While ts = condition text n ts >>= λ x. Ok (While x.0, x.1)
opening text n t kind.For ts = head text n ts >>= λ x. Ok (For x.0, x.1)
opening text n t kind.Scope ts = marked mark.LeftBrace ts >>= λ x. Ok (Scope, x.1)
opening text n t kind.Cut ts = cut text n ts
opening text n t kind.Region ts = region text ts
opening text n t _ ts = Err (length (t ∷ ts))

-- the statement with this opening and this block
abbrev pub around : Opening → Block → Stmt
around (If e) b = tree.If e b
around (While e) b = tree.While e b
around (For h) b = tree.For h.variable h.tested h.stepped h.from h.to h.grain h.over b
around Scope b = tree.Scope b
around (Cut a e l r) b = tree.Cut a e l r b
around (Region tag) b = tree.Region tag b

-- returns a statement that was read, unless an "else" follows it; an "else" may follow only the block of an "if"
abbrev pub unanswered : Stmt × ℕ → Reader (Stmt × ℕ)
unanswered s ts = unless_next (is_mark mark.Else) s ts

-- reads the rest of a statement after its first block
unfoldable pub framed_by : (ℕ → Reader (Block × ℕ)) → Opening → Block → ℕ → Reader (Stmt × ℕ)
framed_by lines (If e) b site ts =
    if_next (is_mark mark.Else) (λ _ us.
    (marked mark.LeftBrace us >>= λ x. lines site x.1 >>= λ c. Ok ((tree.IfElse e b c.0.0, c.0.1), c.1)) >>= λ
    y. unanswered y.0 y.1)
    (λ us. Ok ((tree.If e b, site), us)) ts
framed_by lines o b site ts = unanswered (around o b, site) ts

-- reads a statement with a block, after a first token of this kind
unfoldable pub framed : List ℕ → ℕ → (ℕ → Reader (Block × ℕ)) → ℕ → Token → Kind → Reader (Stmt × ℕ)
framed text n lines site t k ts =
    opening text n t k ts >>= λ o. lines site o.1 >>= λ b. framed_by lines o.0 b.0.0 b.0.1 b.1

-- reads a statement after a first token of this kind
unfoldable pub stmt : List ℕ → ℕ → (ℕ → Reader (Block × ℕ)) → ℕ → Token → Kind → Reader (Stmt × ℕ)
stmt text n lines site t kind.If ts = framed text n lines site t kind.If ts
stmt text n lines site t kind.While ts = framed text n lines site t kind.While ts
stmt text n lines site t kind.For ts = framed text n lines site t kind.For ts
stmt text n lines site t kind.Scope ts = framed text n lines site t kind.Scope ts
stmt text n lines site t kind.Cut ts = framed text n lines site t kind.Cut ts
stmt text n lines site t kind.Region ts = framed text n lines site t kind.Region ts
stmt text n lines site t k ts = simple text n site t k ts >>= λ x. unanswered x.0 x.1

-- a line number and a statement
abbrev pub Line : Type 0
Line = ℕ × Stmt

-- reads a statement after a first token of this kind; also returns its line
abbrev pub line_by : List ℕ → ℕ → (ℕ → Reader (Block × ℕ)) → ℕ → Token → Kind → Reader (Line × ℕ)
line_by text n lines site t k ts = stmt text n lines site t k ts >>= λ x. Ok (((t.line, x.0.0), x.0.1), x.1)

-- adds a statement at the front of the rest of its block
abbrev pub put_before : Line → Block × ℕ → Block × ℕ
put_before line rest = (tree.Then line.0 line.1 rest.0, rest.1)

-- reads the statements of a block and its closing brace
abbrev pub lines_of : (ℕ → Reader (Line × ℕ)) → ℕ → ℕ → Reader (Block × ℕ)
lines_of line n site ts = row (is_mark mark.RightBrace) (λ m. (tree.End, m)) put_before line n site ts

-- reads a statement with its line; statements and operands nest at most this deep
unfoldable pub line : List ℕ → ℕ → ℕ → Reader (Line × ℕ)
line text zero site ts = Err (length ts)
line text (suc n) site ts = by_first (line_by text n (lines_of (line text n) n) site) ts

-- reads the statements of a block, whose statements nest at most `n` deep, and its closing brace
abbrev pub lines : List ℕ → ℕ → ℕ → Reader (Block × ℕ)
lines text n = lines_of (line text n) n

-- reads the rest of a statement after its first block, with bound `n` on the nesting
abbrev pub framed_in : List ℕ → ℕ → Opening → Block → ℕ → Reader (Stmt × ℕ)
framed_in text n o b site = framed_by (lines text n) o b site

-- reads a statement with a block, after its first token, with bound `n` on the nesting
abbrev pub framed_from : List ℕ → ℕ → ℕ → Token → Reader (Stmt × ℕ)
framed_from text n site t = framed text n (lines text n) site t t.kind

-- reads a statement after its first token, with bound `n` on the nesting
abbrev pub stmt_from : List ℕ → ℕ → ℕ → Token → Reader (Stmt × ℕ)
stmt_from text n site t = stmt text n (lines text n) site t t.kind

-- reads a statement with its line; inner statements nest at most `n` deep
abbrev pub line_over : List ℕ → ℕ → ℕ → Reader (Line × ℕ)
line_over text n site = by_first (line_by text n (lines text n) site)

-- ---- items

-- returns an array parameter that was read, unless a second pair of brackets follows it
abbrev pub single : Param → Reader Param
single p ts = unless_next (is_mark mark.LeftBracket) p ts

-- reads an array parameter after its opening bracket
abbrev pub array : Name → Reader Param
array x ts = marked mark.RightBracket ts >>= λ v. Ok (record { name = x; kind = name_kind.Array }, v.1)

-- reads a parameter after its name
abbrev pub behind_name : Name → Reader Param
behind_name x ts =
    if_next (is_mark mark.LeftBracket) (λ _ us. array x us >>= λ y. single y.0 y.1)
    (λ us. Ok (record { name = x; kind = name_kind.Integer }, us)) ts

-- reads a parameter that is an integer or a writable array
abbrev pub written : List ℕ → Reader Param
written text ts = marked mark.Int ts >>= λ t. marked mark.Name t.1 >>= λ x. behind_name (name_of text x.0) x.1

-- reads a read-only array parameter after its keyword
abbrev pub const_array : List ℕ → Reader Param
const_array text ts =
    marked mark.Int ts >>= λ t. marked mark.Name t.1 >>= λ x. marked mark.LeftBracket x.1 >>= λ u. marked
    mark.RightBracket u.1 >>= λ v. Ok (record { name = name_of text x.0; kind = name_kind.Const }, v.1)

-- reads a parameter
unfoldable pub param : List ℕ → Reader Param
param text ts =
    if_next (is_mark mark.Const) (λ _ us. const_array text us >>= λ y. single y.0 y.1) (λ us. written text us) ts

-- an item of a source: a reducer or a function
pub data Item : Type 0 where
  Total : Reducer → Item
  Code : Function → Item

-- reads the keyword of a reduction, a first token of this kind
abbrev pub reduction : Token → Kind → Reader Reduction
reduction u kind.Sum ts = Ok (Sum, ts)
reduction u kind.Max ts = Ok (Max, ts)
reduction u _ ts = Err (length (u ∷ ts))

-- reads a reducer after its first token
unfoldable pub reducer : List ℕ → Token → Reader Reducer
reducer text t ts =
    by_first reduction ts >>= λ u. marked mark.Name u.1 >>= λ s. marked mark.Semicolon s.1 >>= λ v. Ok
    (record { name = name_of text s.0; how = u.0; line = t.line }, v.1)

-- reads a function after its first token; also returns the number of the next call statement
unfoldable pub function : List ℕ → ℕ → Bool → ℕ → Reader (Function × ℕ)
function text n gives site ts =
    marked mark.Name ts >>= λ f. marked mark.LeftParen f.1 >>= λ u. list (param text) n u.1 >>= λ p. marked
    mark.LeftBrace p.1 >>= λ o. lines text n site o.1 >>= λ b.
    Ok (
      (record { name = name_of text f.0; line = f.0.line; gives_int = gives; params = p.0; body = b.0.0 }, b.0.1),
      b.1,
    )

-- reads an item after a first token of this kind; also returns the number of the next call statement
unfoldable pub item : List ℕ → ℕ → ℕ → Token → Kind → Reader (Item × ℕ)
item text n site t kind.Reducer ts = reducer text t ts >>= λ x. Ok ((Total x.0, site), x.1)
item text n site t kind.Int ts = function text n true site ts >>= λ x. Ok ((Code x.0.0, x.0.1), x.1)
item text n site t kind.Void ts = function text n false site ts >>= λ x. Ok ((Code x.0.0, x.0.1), x.1)
item text n site t _ ts = Err (length (t ∷ ts))

-- the reducers and the functions of a source, each in order
abbrev pub Items : Type 0
Items = List Reducer × List Function

-- adds an item at the front
abbrev pub put_item : Item → Items → Items
put_item (Total r) xs = (r ∷ xs.0, xs.1)
put_item (Code f) xs = (xs.0, f ∷ xs.1)

-- appends an item
abbrev pub push_item : Items → Item → Items
push_item xs (Total r) = (xs.0 ++ r ∷ [], xs.1)
push_item xs (Code f) = (xs.0, xs.1 ++ f ∷ [])

-- reads the items up to the end of the source, in at most `n` steps
unfoldable pub items : (ℕ → Reader (Item × ℕ)) → ℕ → ℕ → Reader Items
items item n site [] = Ok (([], []), [])
items item zero site (t ∷ ts) = Err (length (t ∷ ts))
items item (suc n) site (t ∷ ts) =
    item site (t ∷ ts) >>= λ x. items item n x.0.1 x.1 >>= λ y. Ok (put_item x.0.0 y.0, y.1)

-- reads a whole source of at least one item
unfoldable pub whole : List ℕ → ℕ → Reader Items
whole text n [] = Err 0
whole text n (t ∷ ts) = items (λ site. by_first (item text n site)) n 1 (t ∷ ts)
