-- Programs whose meaning was worked out by hand.
use Rattle.std.specs.Prelude.{ℕ, pos, zero, suc, true, false, List, [], ◌∷◌, Some, None, codes}
use Rattle.cw_model.specs.declared.syntax.Operator.{Operator}
use Rattle.cw_model.specs.declared.syntax.Operator.TheVariants.{Less, Plus, Minus, Times, Divide}
use Rattle.cw_model.specs.declared.syntax.CallKind.TheVariants.{Plain, Spawned}
use Rattle.cw_model.specs.declared.syntax.Reduction.TheVariants.{Sum, Max}
use Rattle.cw_model.specs.declared.syntax.NameKind.TheVariants.{Integer, Array, Const}
use Rattle.cw_model.specs.Syntax.{Name, Expr, Number, Variable, Element, Length, Negative, Binary, Stmt, Declare}
use Rattle.cw_model.specs.Syntax.{DeclareArray, Assign, AssignElement, Reduce, Call, Sync, If, IfElse, While, For}
use Rattle.cw_model.specs.Syntax.{Scope, Cut, Region, Print, Return, Block, End, Then, Param, Function, Program}

-- names, by how they are spelled

abbrev pub a : Name
a = codes "a"

abbrev pub b : Name
b = codes "b"

abbrev pub f : Name
f = codes "f"

abbrev pub g : Name
g = codes "g"

abbrev pub h : Name
h = codes "h"

abbrev pub i : Name
i = codes "i"

abbrev pub j : Name
j = codes "j"

abbrev pub l : Name
l = codes "l"

abbrev pub n : Name
n = codes "n"

abbrev pub p : Name
p = codes "p"

abbrev pub q : Name
q = codes "q"

abbrev pub r : Name
r = codes "r"

abbrev pub s : Name
s = codes "s"

abbrev pub t : Name
t = codes "t"

abbrev pub v : Name
v = codes "v"

abbrev pub x : Name
x = codes "x"

abbrev pub y : Name
y = codes "y"

abbrev pub z : Name
z = codes "z"

abbrev pub main : Name
main = codes "main"

abbrev pub fib : Name
fib = codes "fib"

abbrev pub bad : Name
bad = codes "bad"

abbrev pub fill : Name
fill = codes "fill"

abbrev pub add : Name
add = codes "add"

-- short forms of expressions, parameters, functions and statements

abbrev pub number : ℕ → Expr
number k = Number (pos k)

abbrev pub plus : Expr → Expr → Expr
plus d e = Binary Plus d e

abbrev pub minus : Expr → Expr → Expr
minus d e = Binary Minus d e

abbrev pub int_param : Name → Param
int_param name = record { name = name; kind = Integer }

abbrev pub array_param : Name → Param
array_param name = record { name = name; kind = Array }

abbrev pub const_param : Name → Param
const_param name = record { name = name; kind = Const }

abbrev pub int_function : Name → ℕ → List Param → Block → Function
int_function name line params body = record { name = name; line = line; gives_int = true; params = params; body = body }

abbrev pub void_function : Name → List Param → Block → Function
void_function name params body = record { name = name; line = 1; gives_int = false; params = params; body = body }

abbrev pub of_functions : List Function → Program
of_functions functions = record { reducers = []; functions = functions }

-- statements of one line, in order
abbrev pub on_line : ℕ → List Stmt → Block
on_line line [] = End
on_line line (s ∷ ss) = Then line s (on_line line ss)

abbrev pub block : List Stmt → Block
block ss = on_line 1 ss

abbrev pub give : Expr → Stmt
give e = Return (Some e)

abbrev pub call : ℕ → Name → List Expr → Stmt
call site f es = Call Plain site None f es

abbrev pub call_into : Name → ℕ → Name → List Expr → Stmt
call_into x site f es = Call Plain site (Some x) f es

abbrev pub spawn : ℕ → Name → List Expr → Stmt
spawn site f es = Call Spawned site None f es

abbrev pub spawn_into : Name → ℕ → Name → List Expr → Stmt
spawn_into x site f es = Call Spawned site (Some x) f es

-- int main() { .. }, on one line
abbrev pub main_of : List Stmt → Function
main_of ss = int_function main 1 [] (block ss)

-- a program with only a main
abbrev pub alone : List Stmt → Program
alone ss = of_functions (main_of ss ∷ [])

-- int f(int v) { return v; }
abbrev pub same_function : Function
same_function = int_function f 1 (int_param v ∷ []) (block (give (Variable v) ∷ []))

-- int f(int v) { return v; } int main() { .. }
abbrev pub with_same : List Stmt → Program
with_same ss = of_functions (same_function ∷ main_of ss ∷ [])

-- void p(int v) { print(v); }
abbrev pub print_function : Function
print_function = void_function p (int_param v ∷ []) (block (Print (Variable v) ∷ []))

-- int f(int v) { return v; } int main() { int x = 0; x = cilk_spawn f(1); cilk_sync; return x; }
abbrev pub first_program : Program
first_program = with_same (Declare x (number 0) ∷ spawn_into x 1 f (number 1 ∷ []) ∷ Sync ∷ give (Variable x) ∷ [])

-- `first_program` with "int y = x;" before the sync
abbrev pub early_read : Program
early_read =
    with_same
    (Declare x (number 0) ∷ spawn_into x 1 f (number 1 ∷ []) ∷ Declare y (Variable x) ∷ Sync ∷ give (Variable x) ∷ [])

-- `first_program` with "g(1)" instead of "f(1)"
abbrev pub unknown_callee : Program
unknown_callee = with_same (Declare x (number 0) ∷ spawn_into x 1 g (number 1 ∷ []) ∷ Sync ∷ give (Variable x) ∷ [])

-- int main(int n) { return n; }
abbrev pub echo_program : Program
echo_program = of_functions (int_function main 1 (int_param n ∷ []) (block (give (Variable n) ∷ [])) ∷ [])

-- Fibonacci numbers, one of the two calls spawned, on fourteen lines
abbrev pub fib_program : Program
fib_program = of_functions (
    int_function fib 1 (int_param n ∷ [])
    (Then 2 (If (Binary Less (Variable n) (number 2)) (on_line 2 (give (Variable n) ∷ [])))
    (Then 3 (Declare x (number 0))
    (Then 4 (Declare y (number 0))
    (Then 5 (spawn_into x 1 fib (minus (Variable n) (number 1) ∷ []))
    (Then 6 (call_into y 2 fib (minus (Variable n) (number 2) ∷ []))
    (Then 7 Sync
    (Then 8 (give (plus (Variable x) (Variable y))) End)))))))
    ∷ int_function main 10 (int_param n ∷ [])
    (Then 11 (Declare r (number 0))
    (Then 12 (call_into r 3 fib (Variable n ∷ []))
    (Then 13 (give (Variable r)) End)))
    ∷ [])

-- int bad(int z) { int q = 0; q = 1 / z; return q; }, and on the next line a main that spawns it in parallel with a
-- statement
abbrev pub division_beside : Stmt → Program
division_beside beside = of_functions (
    int_function bad 1 (int_param z ∷ [])
    (block (Declare q (number 0) ∷ Assign q (Binary Divide (number 1) (Variable z)) ∷ give (Variable q) ∷ []))
    ∷ int_function main 2 (int_param z ∷ [])
    (on_line 2 (spawn 1 bad (Variable z ∷ []) ∷ beside ∷ Sync ∷ give (number 0) ∷ []))
    ∷ [])

-- the division in parallel with a print
abbrev pub division_program : Program
division_program = division_beside (Print (number 7))

-- the division in parallel with an endless loop
abbrev pub division_beside_forever : Program
division_beside_forever = division_beside (While (number 1) End)

-- a print before the spawn of a division
abbrev pub division_after_print : Program
division_after_print = of_functions (
    int_function bad 1 (int_param z ∷ [])
    (block (Declare q (number 0) ∷ Assign q (Binary Divide (number 1) (Variable z)) ∷ give (Variable q) ∷ []))
    ∷ int_function main 2 (int_param z ∷ [])
    (on_line 2 (Print (number 1) ∷ spawn 1 bad (Variable z ∷ []) ∷ Print (number 7) ∷ Sync ∷ give (number 0) ∷ []))
    ∷ [])

-- three prints, of which two are spawned
abbrev pub print_program : Program
print_program = of_functions (
    print_function
    ∷ main_of (spawn 1 p (number 1 ∷ []) ∷ spawn 2 p (number 2 ∷ []) ∷ Print (number 3) ∷ Sync ∷ give (number 0) ∷ [])
    ∷ [])

-- a program with one reducer, for the sum
abbrev pub with_sum : List Function → Program
with_sum functions = record { reducers = record { name = s; how = Sum; line = 1 } ∷ []; functions = functions }

-- a loop with grain 2 that adds its variable to a sum
abbrev pub sum_program : ℕ → ℕ → Program
sum_program from to =
    with_sum (main_of
    (For i i i (number from) (number to) 2 [] (block (Reduce Sum s (Variable i) ∷ [])) ∷ give (number 0) ∷ []) ∷ [])

-- a program with one reducer, for the maximum
abbrev pub with_maximum : List Function → Program
with_maximum functions = record { reducers = record { name = s; how = Max; line = 1 } ∷ []; functions = functions }

-- a loop over i with grain 2 that updates a reducer with i * (3 - i)
abbrev pub maximum_program : ℕ → ℕ → Program
maximum_program from to =
    with_maximum (main_of
    (For i i i (number from) (number to) 2 []
    (block (Reduce Max s (Binary Times (Variable i) (minus (number 3) (Variable i))) ∷ [])) ∷ give (number 0) ∷ [])
    ∷ [])

-- the maximum number is added to a sum twice
abbrev pub large_sum_program : Program
large_sum_program = with_sum (
    void_function add [] (block (Reduce Sum s (number 9223372036854775807) ∷ []))
    ∷ main_of (spawn 1 add [] ∷ spawn 2 add [] ∷ Sync ∷ give (number 0) ∷ [])
    ∷ [])

-- a spawned result is printed before the sync
abbrev pub early_print : Program
early_print =
    with_same
    (Declare x (number 0) ∷ spawn_into x 1 f (number 1 ∷ []) ∷ Print (Variable x) ∷ Sync ∷ give (number 0) ∷ [])

-- `early_print` with the print after the sync, and a further sync
abbrev pub late_print : Program
late_print =
    with_same (Declare x (number 0) ∷ spawn_into x 1 f (number 1 ∷ []) ∷ Sync ∷ Print (Variable x) ∷ Sync
    ∷ give (number 0) ∷ [])

-- an array of three elements is cut, and the length of its right part printed
abbrev pub cut_program : ℕ → Program
cut_program at =
    alone (DeclareArray a (number 3) ∷ Cut a (number at) l r (block (Print (Length r) ∷ [])) ∷ give (number 0) ∷ [])

-- `cut_program` with an empty block in the cut
abbrev pub empty_cut_program : ℕ → Program
empty_cut_program at = alone (DeclareArray a (number 3) ∷ Cut a (number at) l r End ∷ give (number 0) ∷ [])

-- a function that calls itself without end
abbrev pub deep_program : Program
deep_program = of_functions (
    int_function f 1 (int_param n ∷ [])
    (block (Declare r (number 0) ∷ call_into r 1 f (plus (Variable n) (number 1) ∷ []) ∷ give (Variable r) ∷ []))
    ∷ main_of (Declare r (number 0) ∷ call_into r 2 f (number 0 ∷ []) ∷ give (Variable r) ∷ [])
    ∷ [])

-- void f() { f(); } int main() { f(); return 0; }
abbrev pub deepest_program : Program
deepest_program = of_functions (
    void_function f [] (block (call 1 f [] ∷ []))
    ∷ main_of (call 2 f [] ∷ give (number 0) ∷ [])
    ∷ [])

-- a loop with grain 2 over an array: each element becomes the square of its index
abbrev pub square_loop : ℕ → ℕ → Stmt
square_loop from to =
    For i i i (number from) (number to) 2 (a ∷ [])
    (block (AssignElement a (Variable i) (Binary Times (Variable i) (Variable i)) ∷ []))

-- one element is printed
abbrev pub square_print_program : ℕ → Program
square_print_program to =
    alone (DeclareArray a (number 4) ∷ square_loop 0 to ∷ Print (Element a (number 3)) ∷ give (number 0) ∷ [])

-- one element is the value
abbrev pub square_program : (size from to at : ℕ) → Program
square_program size from to at =
    alone (DeclareArray a (number size) ∷ square_loop from to ∷ give (Element a (number at)) ∷ [])

-- a region with a spawn and a print
abbrev pub region_program : Program
region_program = of_functions (
    print_function
    ∷ main_of (Region r (block (spawn 1 p (number 1 ∷ []) ∷ Print (number 2) ∷ [])) ∷ give (number 0) ∷ [])
    ∷ [])

-- int main() { return 9223372036854775807 + 1; }
abbrev pub overflow_program : Program
overflow_program = alone (give (plus (number 9223372036854775807) (number 1)) ∷ [])

-- a loop with nothing inside
abbrev pub idle_loop : Expr → ℕ → Program
idle_loop from to = alone (For i i i from (number to) 64 [] End ∷ give (number 0) ∷ [])

-- a loop that assigns an outer integer
abbrev pub outer_program : Program
outer_program =
    alone (Declare t (number 0)
    ∷ For i i i (number 0) (number 4) 64 [] (block (Assign t (plus (Variable t) (Variable i)) ∷ []))
    ∷ give (Variable t) ∷ [])

-- a while whose body is these statements, with a sync after it
abbrev pub while_program : List Stmt → List Stmt → Program
while_program declared body =
    with_same (Declare x (number 0)
    ∷ before declared (While (Binary Less (Variable x) (number 1)) (block body) ∷ Sync ∷ give (number 0) ∷ []))
  where
    before : List Stmt → List Stmt → List Stmt
    before [] ss = ss
    before (d ∷ ds) ss = d ∷ before ds ss

-- void g(int a[], int b[]) { } int main() { int a[1]; g(a, a); return 0; }
abbrev pub same_array_twice : Program
same_array_twice = of_functions (
    void_function g (array_param a ∷ array_param b ∷ []) End
    ∷ main_of (DeclareArray a (number 1) ∷ call 1 g (Variable a ∷ Variable a ∷ []) ∷ give (number 0) ∷ [])
    ∷ [])

-- a sync inside a cut does not free the array
abbrev pub sync_in_cut : Program
sync_in_cut =
    alone
    (DeclareArray a (number 2) ∷ Cut a (number 1) l r (block (Sync ∷ Print (Length a) ∷ [])) ∷ give (number 0) ∷ [])

-- a spawn in a block, into a name that the block declares on the line after its own
abbrev pub spawn_into_own : (Block → Stmt) → Program
spawn_into_own around = of_functions (
    same_function
    ∷ int_function main 1 []
    (Then 2 (around (Then 3 (Declare x (number 0)) (Then 4 (spawn_into x 1 f (number 1 ∷ [])) End)))
    (Then 5 (give (number 0)) End))
    ∷ [])

-- two halves of an array are filled, one by a spawn
abbrev pub fill_program : Program
fill_program = of_functions (
    int_function fill 1 (array_param a ∷ int_param v ∷ [])
    (block (AssignElement a (number 0) (Variable v) ∷ give (Length a) ∷ []))
    ∷ main_of (
    DeclareArray a (number 4) ∷ Declare x (number 0) ∷ Declare y (number 0)
    ∷ Cut a (number 2) l r (block
    (spawn_into x 1 fill (Variable l ∷ number 5 ∷ []) ∷ call_into y 2 fill (Variable r ∷ number 7 ∷ []) ∷ []))
    ∷ give (plus (Binary Times (Element a (number 0)) (number 10)) (Element a (number 2))) ∷ [])
    ∷ [])

-- an array of this length
abbrev pub length_program : Expr → Program
length_program e = alone (DeclareArray a e ∷ give (number 0) ∷ [])

-- a child and a rest of one span
abbrev pub tie_program : Program
tie_program = of_functions (
    int_function f 1 [] (block (give (number 0) ∷ []))
    ∷ main_of (spawn 1 f [] ∷ Print (number 1) ∷ Sync ∷ give (number 0) ∷ [])
    ∷ [])

-- a recursion with a spawn at each depth
abbrev pub spawn_chain : Program
spawn_chain = of_functions (
    int_function f 1 (int_param n ∷ []) (block (
    If (Binary Less (Variable n) (number 1)) (block (give (number 0) ∷ []))
    ∷ Declare x (number 0) ∷ spawn_into x 1 f (minus (Variable n) (number 1) ∷ []) ∷ Sync
    ∷ give (plus (Variable x) (number 1)) ∷ []))
    ∷ int_function main 1 (int_param n ∷ [])
    (block (Declare r (number 0) ∷ call_into r 2 f (Variable n ∷ []) ∷ give (Variable r) ∷ []))
    ∷ [])

-- this number of signs before 1
abbrev pub signs : ℕ → Expr
signs zero = number 1
signs (suc k) = Negative (signs k)

-- one operator on two values
abbrev pub operation : Operator → Expr → Expr → Program
operation operator d e = alone (give (Binary operator d e) ∷ [])

-- the least number
abbrev pub least : Expr
least = minus (Negative (number 9223372036854775807)) (number 1)

-- this number of copies of a statement, each on its own line, from a line on
abbrev pub each_on_its_line : ℕ → ℕ → Stmt → Block
each_on_its_line zero line s = End
each_on_its_line (suc count) line s = Then line s (each_on_its_line count (suc line) s)

-- a main with this number of copies of a statement, from line 1 on
abbrev pub many : ℕ → Stmt → Program
many count s = of_functions (int_function main 1 [] (each_on_its_line count 1 s) ∷ [])

-- void p() { } int main() { .. }
abbrev pub idle_and : List Stmt → Program
idle_and ss = of_functions (void_function p [] End ∷ main_of ss ∷ [])

-- one block after another
abbrev pub followed_by : Block → Block → Block
followed_by End rest = rest
followed_by (Then line st more) rest = Then line st (followed_by more rest)

-- a block in each form of statement that has blocks, for the line in which it begins, and then `rest`; there is an
-- array a
abbrev pub in_every_block : (ℕ → Block) → Block → Block
in_every_block inner rest =
    Then 2 (If (number 1) (inner 3))
    (Then 4 (IfElse (number 1) (inner 5) (inner 6))
    (Then 7 (While (number 0) (inner 8))
    (Then 9 (For i i i (number 0) (number 1) 64 [] (inner 10))
    (Then 11 (Scope (inner 12))
    (Then 13 (Cut a (number 0) l r (inner 14))
    (Then 15 (Region t (inner 16)) rest))))))

-- one statement in each
abbrev pub once_in_every_block : (ℕ → Stmt) → Block → Block
once_in_every_block st rest = in_every_block (λ line. Then line (st line) End) rest
