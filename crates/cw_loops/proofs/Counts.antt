-- A lowered program has no loop, and it has the call statements of its source.
use Rattle.std.proofs.Common.{◌≡◌, ℕ, ◌+◌, List, [], ◌∷◌, ◌++◌, length, arith, refl, ◌∙◌, ap, append-nil, length-append}
use Rattle.std.specs.Prelude.{flat_map}
use Rattle.std.proofs.lemmas.Grind.{flat_map-append}
use Rattle.std.proofs.lemmas.List.{nil_from_length}
use Rattle.cw_model.specs.Syntax.{Name, Stmt, Declare, DeclareArray, Assign, AssignElement, Reduce, Call, Start, Begin, Sync, If, IfElse}
use Rattle.cw_model.specs.Syntax.{While, For, Scope, Cut, Region, Print, Return, Block, End, Then, Function, Program}
use Rattle.cw_model.specs.Captured.{captured}
use Rattle.cw_model.specs.Sites.{CallSite, sites_in, sites_in_block}
use Rattle.cw_model.specs.Sizes.{loops_in, loops_in_block, call_count}
use Rattle.cw_loops.specs.Lowered.{in_cuts, both_halves, left_arguments, right_arguments, loop_name, loop_function, loop_count}
use Rattle.cw_loops.specs.Lowered.{loop_count_in, lower_stmt, lower_block, made_by, made_in, lower_functions, made_of, lowered}

-- the loops of some functions
abbrev loops_of : List Function → List ℕ
loops_of fs = flat_map (λ f. loops_in_block f.body) fs

abbrev sites_of : List Function → List CallSite
sites_of fs = flat_map (λ f. sites_in_block f.body) fs

none_of_both : (xs ys : List ℕ) → xs ≡ [] → ys ≡ [] → xs ++ ys ≡ []
none_of_both xs ys e f = rw (e, f) refl

cuts_no_loop : (line : ℕ) (over : List Name) (b : Block) → loops_in_block b ≡ [] → loops_in_block (in_cuts line over b) ≡ []
cuts_no_loop line [] b e = e
cuts_no_loop line (a ∷ over) b e = none_of_both (loops_in_block (in_cuts line over b)) [] (cuts_no_loop line over b e) refl

function_no_loop : (name : Name) (line : ℕ) (x : Name) (grain : ℕ) (ints over : List Name) (b : Block) → loops_in_block b ≡ [] → loops_in_block (loop_function name line x grain ints over b).body ≡ []
function_no_loop name line x grain ints over b e =
    let c = cuts_no_loop line over (both_halves line name (left_arguments ints over) (right_arguments ints over)) refl in
    rw (e, c) refl

mutual
  stmt_no_loop : (s : Stmt) (over : List Name) (k line : ℕ) → (loops_in line (lower_stmt over k s) ≡ []) × (loops_of (made_by line k s) ≡ [])
  stmt_no_loop (If e b) over k line = block_no_loop b over k
  stmt_no_loop (IfElse e b d) over k line =
      let x = block_no_loop b over k in
      let y = block_no_loop d over (k + loop_count_in b) in
      (none_of_both _ _ x.0 y.0, flat_map-append (λ (f : Function). loops_in_block f.body) (made_in k b) (made_in (k + loop_count_in b) d) ∙ none_of_both _ _ x.1 y.1)
  stmt_no_loop (While e b) over k line = block_no_loop b over k
  stmt_no_loop (For x y z from to grain arrays b) over k line =
      let h = block_no_loop b arrays k in
      let f = loop_function (loop_name (k + loop_count_in b)) line x grain (captured x b) arrays (lower_block arrays k b) in (
        refl,
        flat_map-append (λ (f : Function). loops_in_block f.body) (made_in k b) (f ∷ [])
            ∙ none_of_both (loops_of (made_in k b)) (loops_in_block f.body ++ []) h.1
            (none_of_both (loops_in_block f.body) [] (function_no_loop (loop_name (k + loop_count_in b)) line x grain (captured x b) arrays
            (lower_block arrays k b) h.0) refl),
      )
  stmt_no_loop (Scope b) over k line = block_no_loop b over k
  stmt_no_loop (Cut a e l r b) over k line = block_no_loop b over k
  stmt_no_loop (Region tag b) over k line = block_no_loop b over k
  stmt_no_loop (Declare x e) over k line = (refl, refl)
  stmt_no_loop (DeclareArray x e) over k line = (refl, refl)
  stmt_no_loop (Assign x e) over k line = (refl, refl)
  stmt_no_loop (AssignElement x i e) over k line = (refl, refl)
  stmt_no_loop (Reduce how x e) over k line = (refl, refl)
  stmt_no_loop (Call kind site t f es) over k line = (refl, refl)
  stmt_no_loop (Start kind f es) over k line = (refl, refl)
  stmt_no_loop (Begin f from to xs arrays) over k line = (refl, refl)
  stmt_no_loop Sync over k line = (refl, refl)
  stmt_no_loop (Print e) over k line = (refl, refl)
  stmt_no_loop (Return e) over k line = (refl, refl)

  block_no_loop : (b : Block) (over : List Name) (k : ℕ) → (loops_in_block (lower_block over k b) ≡ []) × (loops_of (made_in k b) ≡ [])
  block_no_loop End over k = (refl, refl)
  block_no_loop (Then line s b) over k =
      let x = stmt_no_loop s over k line in
      let y = block_no_loop b over (k + loop_count s) in
      (none_of_both _ _ x.0 y.0, flat_map-append (λ (f : Function). loops_in_block f.body) (made_by line k s) (made_in (k + loop_count s) b) ∙ none_of_both _ _ x.1 y.1)

functions_no_loop : (fs : List Function) (k : ℕ) → (loops_of (lower_functions k fs) ≡ []) × (loops_of (made_of k fs) ≡ [])
functions_no_loop [] k = (refl, refl)
functions_no_loop (f ∷ fs) k =
    let x = block_no_loop f.body [] k in
    let y = functions_no_loop fs (k + loop_count_in f.body) in
    (none_of_both _ _ x.0 y.0, flat_map-append (λ (f : Function). loops_in_block f.body) (made_in k f.body) (made_of (k + loop_count_in f.body) fs) ∙ none_of_both _ _ x.1 y.1)

pub no_loop_left : (p : Program) → flat_map (λ (f : Function). loops_in_block f.body) (lowered p).functions ≡ []
no_loop_left p =
    let h = functions_no_loop p.functions 0 in
    flat_map-append (λ (f : Function). loops_in_block f.body) (lower_functions 0 p.functions) (made_of 0 p.functions) ∙ none_of_both _ _ h.0 h.1

-- the call statements

cuts_sites : (line : ℕ) (over : List Name) (b : Block) → length (sites_in_block (in_cuts line over b)) ≡ length (sites_in_block b)
cuts_sites line [] b = refl
cuts_sites line (a ∷ over) b = length-append (sites_in_block (in_cuts line over b)) [] ∙ omega (arith, cuts_sites line over b)

function_sites : (name : Name) (line : ℕ) (x : Name) (grain : ℕ) (ints over : List Name) (b : Block)
    → length (sites_in_block (loop_function name line x grain ints over b).body) ≡ length (sites_in_block b)
function_sites name line x grain ints over b =
    let c = cuts_sites line over (both_halves line name (left_arguments ints over) (right_arguments ints over)) in
    let n : sites_in_block (in_cuts line over (both_halves line name (left_arguments ints over) (right_arguments ints over))) ≡ [] = nil_from_length _ c in
    rw n (ap length (append-nil ((((sites_in_block b ++ []) ++ []) ++ [])) ∙ append-nil ((sites_in_block b ++ []) ++ []) ∙ append-nil (sites_in_block b ++ []) ∙ append-nil (sites_in_block b)))

sites_both : (xs ys : List Function) → length (sites_of (xs ++ ys)) ≡ length (sites_of xs) + length (sites_of ys)
sites_both xs ys = ap length (flat_map-append (λ (f : Function). sites_in_block f.body) xs ys) ∙ length-append (sites_of xs) (sites_of ys)

mutual
  stmt_sites : (s : Stmt) (over : List Name) (k line : ℕ) → length (sites_in line (lower_stmt over k s)) + length (sites_of (made_by line k s)) ≡ length (sites_in line s)
  stmt_sites (If e b) over k line = block_sites b over k
  stmt_sites (IfElse e b d) over k line =
      omega (
        arith,
        block_sites b over k,
        block_sites d over (k + loop_count_in b),
        sites_both (made_in k b) (made_in (k + loop_count_in b) d),
        length-append (sites_in_block b) (sites_in_block d),
        length-append (sites_in_block (lower_block over k b)) (sites_in_block (lower_block over (k + loop_count_in b) d)),
      )
  stmt_sites (While e b) over k line = block_sites b over k
  stmt_sites (For x y z from to grain arrays b) over k line =
      let f = loop_function (loop_name (k + loop_count_in b)) line x grain (captured x b) arrays (lower_block arrays k b) in
      omega (
        arith,
        block_sites b arrays k,
        sites_both (made_in k b) (f ∷ []),
        function_sites (loop_name (k + loop_count_in b)) line x grain (captured x b) arrays (lower_block arrays k b),
        length-append (sites_in_block f.body) [],
      )
  stmt_sites (Scope b) over k line = block_sites b over k
  stmt_sites (Cut a e l r b) over k line = block_sites b over k
  stmt_sites (Region tag b) over k line = block_sites b over k
  stmt_sites (Declare x e) over k line = omega arith
  stmt_sites (DeclareArray x e) over k line = omega arith
  stmt_sites (Assign x e) over k line = omega arith
  stmt_sites (AssignElement x i e) over k line = omega arith
  stmt_sites (Reduce how x e) over k line = omega arith
  stmt_sites (Call kind site t f es) over k line = omega arith
  stmt_sites (Start kind f es) over k line = omega arith
  stmt_sites (Begin f from to xs arrays) over k line = omega arith
  stmt_sites Sync over k line = omega arith
  stmt_sites (Print e) over k line = omega arith
  stmt_sites (Return e) over k line = omega arith

  block_sites : (b : Block) (over : List Name) (k : ℕ) → length (sites_in_block (lower_block over k b)) + length (sites_of (made_in k b)) ≡ length (sites_in_block b)
  block_sites End over k = omega arith
  block_sites (Then line s b) over k =
      omega (
        arith,
        stmt_sites s over k line,
        block_sites b over (k + loop_count s),
        sites_both (made_by line k s) (made_in (k + loop_count s) b),
        length-append (sites_in line s) (sites_in_block b),
        length-append (sites_in line (lower_stmt over k s)) (sites_in_block (lower_block over (k + loop_count s) b)),
      )

functions_sites : (fs : List Function) (k : ℕ) → length (sites_of (lower_functions k fs)) + length (sites_of (made_of k fs)) ≡ length (sites_of fs)
functions_sites [] k = omega arith
functions_sites (f ∷ fs) k =
    omega (
      arith,
      block_sites f.body [] k,
      functions_sites fs (k + loop_count_in f.body),
      sites_both (made_in k f.body) (made_of (k + loop_count_in f.body) fs),
      length-append (sites_in_block f.body) (sites_of fs),
      length-append (sites_in_block (lower_block [] k f.body)) (sites_of (lower_functions (k + loop_count_in f.body) fs)),
    )

pub as_many_calls : (p : Program) → call_count (lowered p) ≡ call_count p
as_many_calls p = sites_both (lower_functions 0 p.functions) (made_of 0 p.functions) ∙ functions_sites p.functions 0
