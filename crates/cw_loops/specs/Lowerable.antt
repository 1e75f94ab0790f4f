-- Programs whose loops can be lowered: the properties of well-typed and owned programs, as one test on names.
use Rattle.std.specs.Prelude.{Bool, true, false, not, ◌&&◌, ◌||◌, if◌then◌else◌, nat_le, ◌==◌, List, [], ◌∷◌, ◌++◌}
use Rattle.std.specs.Prelude.{length, Option, Some, None}
use Rattle.std.specs.List.{list_all}
use Rattle.cw_model.specs.Ints.{fits}
use Rattle.cw_model.specs.Syntax.{Name, Expr, Number, Variable, Element, Length, Negative, Not, Binary, Stmt, Declare}
use Rattle.cw_model.specs.Syntax.{DeclareArray, Assign, AssignElement, Reduce, Call, Start, Begin, Sync, If, IfElse}
use Rattle.cw_model.specs.Syntax.{While, For, Scope, Cut, Region, Print, Return, Block, End, Then, Param, Function}
use Rattle.cw_model.specs.Syntax.{Program, is_array_param}
use Rattle.cw_model.specs.Names.{same_name, is_among, differ}
use Rattle.cw_model.specs.Captured.{captured}
use Rattle.cw_model.specs.Meaning.{function_named}
use Rattle.cw_loops.specs.Lowered.{is_plain, low, high}

-- the context of an iteration of the innermost enclosing loop: the outer integers in the frame of the source (`outer`),
-- in the frame of the generated function (`given`) and in both (`shared`); the outer arrays in the frame of the source;
-- the arrays of the loop (`over`) and of all enclosing loops (`sliced`); the loop's variable; whether a return is
-- allowed here; and the functions of the program
pub record Surroundings : Type 0 where
  pub outer : List Name
  pub given : List Name
  pub shared : List Name
  pub arrays : List Name
  pub over : List Name
  pub sliced : List Name
  pub variable : Name
  pub returns : Bool
  pub functions : List Function

-- the context outside of all loops
abbrev pub nothing_around : List Function → Surroundings
nothing_around fs =
    record {
      outer = [];
      given = [];
      shared = [];
      arrays = [];
      over = [];
      sliced = [];
      variable = [];
      returns = true;
      functions = fs;
    }

-- in neither frame the name is from outside
abbrev pub can_write : Surroundings → Name → Bool
can_write c x = not (is_among x c.outer) && not (is_among x c.given)

-- in both frames or in neither frame the name is from outside
abbrev pub can_read : Surroundings → Name → Bool
can_read c x = is_among x c.shared || can_write c x

-- the name is an array of the iteration itself
abbrev pub is_local : Surroundings → Name → Bool
is_local c a = not (is_among a c.arrays) && (not (is_among a c.over) && not (is_among a c.sliced))

-- the expression is exactly the loop's variable
abbrev pub is_variable : Surroundings → Expr → Bool
is_variable c (Variable x) = same_name x c.variable
is_variable c _ = false

abbrev pub can_evaluate : Surroundings → Expr → Bool
can_evaluate c (Number n) = fits n
can_evaluate c (Variable x) = can_read c x
can_evaluate c (Element a e) = if is_among a c.over then is_variable c e else (is_local c a && can_evaluate c e)
can_evaluate c (Length a) = is_local c a
can_evaluate c (Negative e) = can_evaluate c e
can_evaluate c (Not e) = can_evaluate c e
can_evaluate c (Binary operator d e) = can_evaluate c d && can_evaluate c e

-- the expression can be an argument; a name may be an integer or an array
abbrev pub can_pass : Surroundings → Expr → Bool
can_pass c (Variable x) = can_read c x && is_local c x
can_pass c e = can_evaluate c e

abbrev pub can_pass_all : Surroundings → List Expr → Bool
can_pass_all c [] = true
can_pass_all c (e ∷ es) = can_pass c e && can_pass_all c es

abbrev pub can_target : Surroundings → Option Name → Bool
can_target c None = true
can_target c (Some x) = can_write c x

-- the names that a statement declares for the statements after it
abbrev pub new_integers : Stmt → List Name
new_integers (Declare x e) = x ∷ []
new_integers _ = []

abbrev pub new_arrays : Stmt → List Name
new_arrays (DeclareArray a e) = a ∷ []
new_arrays _ = []

-- each name is plain, may be read, and is an integer of the source's frame
abbrev pub can_capture : Surroundings → List Name → List Name → Bool
can_capture c ints [] = true
can_capture c ints (x ∷ xs) = is_plain x && (can_read c x && (is_among x (c.outer ++ ints) && can_capture c ints xs))

-- each array is plain and is a known array of the iteration itself
abbrev pub can_slice : Surroundings → List Name → List Name → Bool
can_slice c arrays [] = true
can_slice c arrays (a ∷ as') = is_plain a && (is_local c a && (is_among a arrays && can_slice c arrays as'))

-- a loop with this variable, these integers and these arrays can be lowered
abbrev pub can_loop : Surroundings → (ints arrays : List Name) → (x : Name) → (taken over : List Name) → Bool
can_loop c ints arrays x taken over =
    is_plain x && (not (is_among x (c.outer ++ ints)) && (not (is_among x taken)
    && (differ taken && (differ over && (can_capture c ints taken && can_slice c arrays over)))))

-- the context of an iteration of this loop
abbrev pub inside : Surroundings → (ints arrays : List Name) → (x : Name) → (taken over : List Name) → Surroundings
inside c ints arrays x taken over = record {
  outer = (c.outer ++ ints) ++ x ∷ [];
  given = (low ∷ high ∷ taken) ++ x ∷ [];
  shared = taken ++ x ∷ [];
  arrays = c.arrays ++ arrays;
  over = over;
  sliced = over ++ c.sliced;
  variable = x;
  returns = false;
  functions = c.functions;
}

abbrev mutual
  -- a statement can be lowered, if these integers and arrays of the iteration itself are known
  pub can_lower : Surroundings → (ints arrays : List Name) → Stmt → Bool
  can_lower c ints arrays (Declare x e) = can_evaluate c e
  can_lower c ints arrays (DeclareArray a e) = can_evaluate c e
  can_lower c ints arrays (Assign x e) = can_write c x && can_evaluate c e
  can_lower c ints arrays (AssignElement a i e) =
      (if is_among a c.over then is_variable c i else (is_local c a && can_evaluate c i)) && can_evaluate c e
  can_lower c ints arrays (Reduce how s e) = can_evaluate c e
  can_lower c ints arrays (Call kind site target f es) =
      is_plain f
      && (length es == length (function_named f c.functions).params && (can_target c target && can_pass_all c es))
  can_lower c ints arrays (Start kind f es) = false
  can_lower c ints arrays (Begin f from to taken over) = false
  can_lower c ints arrays Sync = true
  can_lower c ints arrays (If e b) = can_evaluate c e && can_lower_all c ints arrays b
  can_lower c ints arrays (IfElse e b d) =
      can_evaluate c e && (can_lower_all c ints arrays b && can_lower_all c ints arrays d)
  can_lower c ints arrays (While e b) = can_evaluate c e && can_lower_all c ints arrays b
  can_lower c ints arrays (For x y z from to grain over b) =
      can_evaluate c from && (can_evaluate c to && (nat_le 1 grain && (can_loop c ints arrays x (captured x b) over
      && can_lower_all (inside c ints arrays x (captured x b) over) [] [] b)))
  can_lower c ints arrays (Scope b) = can_lower_all c ints arrays b
  can_lower c ints arrays (Cut a e l r b) =
      can_evaluate c e && (is_local c a && (is_local c l && (is_local c r
      && (not (is_among l arrays) && (not (is_among r arrays) && (not (same_name r l)
      && can_lower_all c ints ((arrays ++ l ∷ []) ++ r ∷ []) b))))))
  can_lower c ints arrays (Region tag b) = can_lower_all c ints arrays b
  can_lower c ints arrays (Print e) = can_evaluate c e
  can_lower c ints arrays (Return None) = c.returns
  can_lower c ints arrays (Return (Some e)) = c.returns && can_evaluate c e

  pub can_lower_all : Surroundings → (ints arrays : List Name) → Block → Bool
  can_lower_all c ints arrays End = true
  can_lower_all c ints arrays (Then line s b) =
      can_lower c ints arrays s && can_lower_all c (ints ++ new_integers s) (arrays ++ new_arrays s) b

-- the integers and the arrays among parameters
abbrev pub integers_of : List Param → List Name
integers_of [] = []
integers_of (p ∷ ps) = if is_array_param p then integers_of ps else p.name ∷ integers_of ps

abbrev pub arrays_of : List Param → List Name
arrays_of [] = []
arrays_of (p ∷ ps) = if is_array_param p then p.name ∷ arrays_of ps else arrays_of ps

-- a function can be lowered: its name is plain, its array parameters are distinct, and its body can be lowered
abbrev pub can_lower_function : List Function → Function → Bool
can_lower_function fs f =
    is_plain f.name && (differ (arrays_of f.params)
    && can_lower_all (nothing_around fs) (integers_of f.params) (arrays_of f.params) f.body)

abbrev pub is_lowerable : Program → Bool
is_lowerable program = list_all (can_lower_function program.functions) program.functions
