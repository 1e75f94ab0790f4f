-- A program with its loops lowered: each `cilk_for` calls a generated function that halves its range.
use Rattle.std.specs.Prelude.{ℕ, ◌+◌, ◌==◌, not, pos, true, false, Bool, List, [], ◌∷◌, ◌++◌, map, Option, Some, None}
use Rattle.cw_model.specs.declared.syntax.Operator.TheVariants.{AtMost, Less, Plus, Minus, Divide}
use Rattle.cw_model.specs.declared.syntax.CallKind.TheVariants.{Plain, Spawned}
use Rattle.cw_model.specs.declared.syntax.NameKind.TheVariants as kind
use Rattle.cw_model.specs.Syntax.{Name, Expr, Number, Variable, Element, Length, Negative, Not, Binary, Stmt, Declare}
use Rattle.cw_model.specs.Syntax.{DeclareArray, Assign, AssignElement, Reduce, Call, Start, Begin, Sync, If, IfElse}
use Rattle.cw_model.specs.Syntax.{While, For, Scope, Cut, Region, Print, Return, Block, End, Then, Param, Function}
use Rattle.cw_model.specs.Syntax.{Program}
use Rattle.cw_model.specs.Names.{is_among}
use Rattle.cw_model.specs.Captured.{captured}

-- generated names begin with `#`, unlike all names of a source

-- the name may be from a source: it does not begin with `#`
abbrev pub is_plain : Name → Bool
is_plain [] = true
is_plain (c ∷ cs) = not (c == 35)

-- the ends of the range of a generated function
abbrev pub low : Name
low = 35 ∷ 108 ∷ []

abbrev pub high : Name
high = 35 ∷ 104 ∷ []

-- the middle of the range
abbrev pub middle : Name
middle = 35 ∷ 109 ∷ []

-- the two parts of an array at the middle
abbrev pub left_part : Name → Name
left_part a = 35 ∷ 60 ∷ a

abbrev pub right_part : Name → Name
right_part a = 35 ∷ 62 ∷ a

-- the name of the function of a loop, by its number
abbrev pub loop_name : ℕ → Name
loop_name k = 35 ∷ k ∷ []

-- an index into an array of the loop counts from the lower end of the range
abbrev pub lower_index : Bool → Expr → Expr
lower_index true e = Binary Minus e (Variable low)
lower_index false e = e

-- an expression in a loop over these arrays
abbrev pub lower_expr : List Name → Expr → Expr
lower_expr over (Number n) = Number n
lower_expr over (Variable x) = Variable x
lower_expr over (Element a e) = Element a (lower_index (is_among a over) (lower_expr over e))
lower_expr over (Length a) = Length a
lower_expr over (Negative e) = Negative (lower_expr over e)
lower_expr over (Not e) = Not (lower_expr over e)
lower_expr over (Binary operator d e) = Binary operator (lower_expr over d) (lower_expr over e)

abbrev pub lower_exprs : List Name → List Expr → List Expr
lower_exprs over [] = []
lower_exprs over (e ∷ es) = lower_expr over e ∷ lower_exprs over es

abbrev pub lower_option : List Name → Option Expr → Option Expr
lower_option over None = None
lower_option over (Some e) = Some (lower_expr over e)

-- the parameters of a generated function
abbrev pub int_params : List Name → List Param
int_params [] = []
int_params (x ∷ xs) = record { name = x; kind = kind.Integer } ∷ int_params xs

abbrev pub array_params : List Name → List Param
array_params [] = []
array_params (a ∷ rest) = record { name = a; kind = kind.Array } ∷ array_params rest

abbrev pub variables : List Name → List Expr
variables [] = []
variables (x ∷ xs) = Variable x ∷ variables xs

-- a block of one statement in this line
abbrev pub on_line : ℕ → Stmt → Block
on_line line s = Then line s End

-- one iteration of a leaf; the body is a scope of its own
abbrev pub leaf_turn : ℕ → (x : Name) → Block → Block
leaf_turn line x body = Then line (Scope body) (on_line line (Assign x (Binary Plus (Variable x) (Number (pos 1)))))

abbrev pub leaf_block : ℕ → (x : Name) → Block → Block
leaf_block line x body =
    Then line (Declare x (Variable low))
    (on_line line (While (Binary Less (Variable x) (Variable high)) (leaf_turn line x body)))

-- the arguments of the calls on both halves
abbrev pub left_arguments : (ints over : List Name) → List Expr
left_arguments ints over = Variable low ∷ Variable middle ∷ (variables ints ++ variables (map left_part over))

abbrev pub right_arguments : (ints over : List Name) → List Expr
right_arguments ints over = Variable middle ∷ Variable high ∷ (variables ints ++ variables (map right_part over))

-- the calls on both halves, in the cuts of these arrays
abbrev pub both_halves : ℕ → (name : Name) → (lefts rights : List Expr) → Block
both_halves line name lefts rights = Then line (Start Spawned name lefts) (on_line line (Start Plain name rights))

abbrev pub in_cuts : ℕ → List Name → Block → Block
in_cuts line [] inside = inside
in_cuts line (a ∷ rest) inside =
    on_line line
    (Cut a (Binary Minus (Variable middle) (Variable low)) (left_part a) (right_part a) (in_cuts line rest inside))

abbrev pub range : Expr
range = Binary Minus (Variable high) (Variable low)

abbrev pub node_block : ℕ → (name : Name) → (ints over : List Name) → Block
node_block line name ints over =
    Then line (Declare middle (Binary Plus (Variable low) (Binary Divide range (Number (pos 2)))))
    (in_cuts line over (both_halves line name (left_arguments ints over) (right_arguments ints over)))

-- the function of a loop with this name, line, variable, grain, integers, arrays and lowered body
abbrev pub loop_function : (name : Name) → ℕ → (x : Name) → (grain : ℕ) → (ints over : List Name) → Block → Function
loop_function name line x grain ints over body = record {
  name = name;
  line = line;
  gives_int = false;
  params =
      record { name = low; kind = kind.Integer } ∷ record { name = high; kind = kind.Integer }
      ∷ (int_params ints ++ array_params over);
  body =
      on_line line
      (IfElse (Binary AtMost range (Number (pos grain))) (leaf_block line x body) (node_block line name ints over));
}

abbrev mutual
  -- the number of loops of a statement
  pub loop_count : Stmt → ℕ
  loop_count (If e b) = loop_count_in b
  loop_count (IfElse e b c) = loop_count_in b + loop_count_in c
  loop_count (While e b) = loop_count_in b
  loop_count (For x y z from to grain over b) = loop_count_in b + 1
  loop_count (Scope b) = loop_count_in b
  loop_count (Cut a e l r b) = loop_count_in b
  loop_count (Region tag b) = loop_count_in b
  loop_count _ = 0

  pub loop_count_in : Block → ℕ
  loop_count_in End = 0
  loop_count_in (Then line s b) = loop_count s + loop_count_in b

abbrev mutual
  -- a lowered statement in a loop over these arrays; its loops have numbers from `k` on, inner loops first
  pub lower_stmt : List Name → ℕ → Stmt → Stmt
  lower_stmt over k (Declare x e) = Declare x (lower_expr over e)
  lower_stmt over k (DeclareArray a e) = DeclareArray a (lower_expr over e)
  lower_stmt over k (Assign x e) = Assign x (lower_expr over e)
  lower_stmt over k (AssignElement a i e) =
      AssignElement a (lower_index (is_among a over) (lower_expr over i)) (lower_expr over e)
  lower_stmt over k (Reduce how s e) = Reduce how s (lower_expr over e)
  lower_stmt over k (Call kind site target f es) = Call kind site target f (lower_exprs over es)
  lower_stmt over k (Start kind f es) = Start kind f es
  lower_stmt over k (Begin f from to ints arrays) = Begin f from to ints arrays
  lower_stmt over k Sync = Sync
  lower_stmt over k (If e b) = If (lower_expr over e) (lower_block over k b)
  lower_stmt over k (IfElse e b c) =
      IfElse (lower_expr over e) (lower_block over k b) (lower_block over (k + loop_count_in b) c)
  lower_stmt over k (While e b) = While (lower_expr over e) (lower_block over k b)
  lower_stmt over k (For x y z from to grain arrays b) =
      Begin (loop_name (k + loop_count_in b)) (lower_expr over from) (lower_expr over to) (captured x b) arrays
  lower_stmt over k (Scope b) = Scope (lower_block over k b)
  lower_stmt over k (Cut a e l r b) = Cut a (lower_expr over e) l r (lower_block over k b)
  lower_stmt over k (Region tag b) = Region tag (lower_block over k b)
  lower_stmt over k (Print e) = Print (lower_expr over e)
  lower_stmt over k (Return e) = Return (lower_option over e)

  pub lower_block : List Name → ℕ → Block → Block
  lower_block over k End = End
  lower_block over k (Then line s b) = Then line (lower_stmt over k s) (lower_block over (k + loop_count s) b)

abbrev mutual
  -- the functions of the loops of a statement, numbered from `k` on
  pub made_by : ℕ → ℕ → Stmt → List Function
  made_by line k (If e b) = made_in k b
  made_by line k (IfElse e b c) = made_in k b ++ made_in (k + loop_count_in b) c
  made_by line k (While e b) = made_in k b
  made_by line k (For x y z from to grain over b) =
      made_in k b
      ++ loop_function (loop_name (k + loop_count_in b)) line x grain (captured x b) over (lower_block over k b)
      ∷ []
  made_by line k (Scope b) = made_in k b
  made_by line k (Cut a e l r b) = made_in k b
  made_by line k (Region tag b) = made_in k b
  made_by line k _ = []

  pub made_in : ℕ → Block → List Function
  made_in k End = []
  made_in k (Then line s b) = made_by line k s ++ made_in (k + loop_count s) b

-- a function with its loops lowered
abbrev pub lower_function : ℕ → Function → Function
lower_function k f =
    record { name = f.name; line = f.line; gives_int = f.gives_int; params = f.params; body = lower_block [] k f.body }

abbrev pub lower_functions : ℕ → List Function → List Function
lower_functions k [] = []
lower_functions k (f ∷ fs) = lower_function k f ∷ lower_functions (k + loop_count_in f.body) fs

abbrev pub made_of : ℕ → List Function → List Function
made_of k [] = []
made_of k (f ∷ fs) = made_in k f.body ++ made_of (k + loop_count_in f.body) fs

-- the functions of the source, and then the functions of its loops
abbrev pub lowered : Program → Program
lowered program = record {
  reducers = program.reducers;
  functions = lower_functions 0 program.functions ++ made_of 0 program.functions;
}
