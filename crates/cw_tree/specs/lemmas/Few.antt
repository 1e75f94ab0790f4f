-- A program that exceeds no limit is small.
use Rattle.std.proofs.Common.{◌≡◌, ℕ, ◌+◌, ◌-◌, ◌≤◌, nat_le, List, [], ◌∷◌, ◌++◌, length, map, drop, flat_map, All}
use Rattle.std.proofs.Common.{sym, ap, ◌∙◌, arith, length-append, length-drop}
use Rattle.std.proofs.lemmas.List.{length-map}
use Rattle.std.proofs.lemmas.List.Elements.{All-cons}
use Rattle.cw_model.specs.Lines.{unless}
use Rattle.cw_model.specs.Syntax.{Name, Param, Reducer, Stmt, Declare, DeclareArray, Assign, AssignElement, Reduce}
use Rattle.cw_model.specs.Syntax.{Call, Start, Begin, Sync, If, IfElse, While, For, Scope, Cut, Region, Print, Return}
use Rattle.cw_model.specs.Syntax.{Block, End, Then, Program}
use Rattle.cw_model.specs.Syntax as model
use Rattle.cw_model.specs.declared.limits.TheConstants.{MOST_PARAMETERS, MOST_DECLARED, MOST_TAG_BYTES}
use Rattle.cw_model.specs.Sizes.{declaring_lines, declaring_lines_in, function_limits, limit_faults, lines_beyond}
use Rattle.cw_model.specs.Sizes.{first_places, regions_of}
use Rattle.cw_model.specs.lemmas.Kept.{left_none, right_none}
use Rattle.cw_tree.specs.declared.syntax.Function.{Function}
use Rattle.cw_tree.specs.SyntaxView as parsed
use Rattle.cw_tree.specs.Declares.{declares_in, declares_in_block}

pub none_left : (n : ℕ) (xs : List ℕ) → drop n xs ≡ [] → length xs ≤ n
none_left n xs h = let e : length xs - n ≡ 0 = sym (length-drop n xs) ∙ ap length h in omega (arith, e)

mutual
  as_many_here : (line : ℕ) (s : Stmt) → declares_in s ≤ length (declaring_lines line s)
  as_many_here line (Declare x e) = omega arith
  as_many_here line (DeclareArray x e) = omega arith
  as_many_here line (Assign x e) = omega arith
  as_many_here line (AssignElement x i e) = omega arith
  as_many_here line (Reduce how x e) = omega arith
  as_many_here line (Call kind site target f es) = omega arith
  as_many_here line (Start kind f es) = omega arith
  as_many_here line (Begin f from to captured over) = omega arith
  as_many_here line Sync = omega arith
  as_many_here line (If e b) = as_many b
  as_many_here line (IfElse e b c) =
      let p = as_many b in
      let q = as_many c in
      let all = length-append (declaring_lines_in b) (declaring_lines_in c) in omega (arith, p, q, all)
  as_many_here line (While e b) = as_many b
  as_many_here line (For x y z from to grain over b) = let p = as_many b in omega (arith, p)
  as_many_here line (Scope b) = as_many b
  as_many_here line (Cut a e l r b) = let p = as_many b in omega (arith, p)
  as_many_here line (Region tag b) = as_many b
  as_many_here line (Print e) = omega arith
  as_many_here line (Return e) = omega arith

  pub as_many : (b : Block) → declares_in_block b ≤ length (declaring_lines_in b)
  as_many End = omega arith
  as_many (Then line s b) =
      let one = as_many_here line s in
      let more = as_many b in
      let all = length-append (declaring_lines line s) (declaring_lines_in b) in omega (arith, one, more, all)

pub functions_few : (program : Program) → limit_faults program ≡ [] → length program.functions ≤ 1024
functions_few program h =
    let lines = map (λ (f : model.Function). f.line) program.functions in
    let some : length lines ≤ 1024 = none_left 1024 lines (left_none (drop 1024 lines) _ h) in
    let same : length lines ≡ length program.functions =
    length-map program.functions (λ (f : model.Function). f.line) in
    omega (arith, some, same)

pub reducers_few : (program : Program) → limit_faults program ≡ [] → length program.reducers ≤ 32
reducers_few program h =
    let lines = map (λ (r : Reducer). r.line) program.reducers in
    let some : length lines ≤ 32 =
    none_left 32 lines (left_none (drop 32 lines) _
    (right_none (lines_beyond 1024 (map (λ (f : model.Function). f.line) program.functions)) _ h)) in
    let same : length lines ≡ length program.reducers = length-map program.reducers (λ (r : Reducer). r.line) in
    omega (arith, some, same)

pub heads_small : (program : Program) → limit_faults program ≡ [] → flat_map function_limits program.functions ≡ []
heads_small program h =
    left_none (flat_map function_limits program.functions) _
    (right_none (lines_beyond 32 (map (λ (r : Reducer). r.line) program.reducers)) _
    (right_none (lines_beyond 1024 (map (λ (f : model.Function). f.line) program.functions)) _ h))

pub tags_few : (program : Program) → limit_faults program ≡ [] → length (first_places (regions_of program) []) ≤ 64
tags_few program h =
    let places = first_places (regions_of program) [] in
    let lines = map (λ (d : Name × ℕ). d.1) places in
    let last =
    right_none (flat_map (λ (d : Name × ℕ). unless (nat_le (length d.0) MOST_TAG_BYTES) d.1) (regions_of program)) _
    (right_none (flat_map function_limits program.functions) _
    (right_none (lines_beyond 32 (map (λ (r : Reducer). r.line) program.reducers)) _
    (right_none (lines_beyond 1024 (map (λ (f : model.Function). f.line) program.functions)) _ h))) in
    let some : length lines ≤ 64 = none_left 64 lines last in
    let same : length lines ≡ length places = length-map places (λ (d : Name × ℕ). d.1) in
    omega (arith, some, same)

abbrev IsSmall : Function → Type 0
IsSmall f = length f.params.items + declares_in_block (parsed.block_of f.body.items) ≤ 256

-- a function that exceeds no limit declares at most 256 names, including its parameters
pub small_head : (f : model.Function) → function_limits f ≡ [] → length f.params + declares_in_block f.body ≤ 256
small_head f h =
    let lines = map (λ (p : Param). f.line) f.params in
    let declared = declaring_lines_in f.body in
    let few : length (lines ++ declared) ≤ MOST_DECLARED =
    none_left MOST_DECLARED (lines ++ declared)
    (right_none (unless (nat_le (length f.params) MOST_PARAMETERS) f.line)
    (drop MOST_DECLARED (lines ++ declared)) h) in
    let all = length-append lines declared in
    let count : length lines ≡ length f.params = length-map f.params (λ (p : Param). f.line) in
    let more = as_many f.body in
    omega (arith, few, all, count, more)

small_function : (f : Function) → function_limits (parsed.function_of f) ≡ [] → IsSmall f
small_function f h =
    let few = small_head (parsed.function_of f) h in
    let same : length (map parsed.param_of f.params.items) ≡ length f.params.items =
    length-map f.params.items parsed.param_of in
    omega (arith, few, same)

pub all_small : (fs : List Function) → flat_map function_limits (map parsed.function_of fs) ≡ [] → All IsSmall fs
all_small [] h = λ k d lt. absurd (omega (arith, lt))
all_small (f ∷ fs) h =
    All-cons IsSmall f fs (small_function f
    (left_none (function_limits (parsed.function_of f)) (flat_map function_limits (map parsed.function_of fs))
    h))
    (all_small fs
    (right_none (function_limits (parsed.function_of f)) (flat_map function_limits (map parsed.function_of fs)) h))
