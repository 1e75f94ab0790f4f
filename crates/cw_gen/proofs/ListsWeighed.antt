-- Lowering keeps the weight of calls: each loop adds one first call and a call on each half to the call sites of the
-- source.
use Rattle.std.proofs.Common.{◌≡◌, ℕ, zero, suc, ◌+◌, true, List, [], ◌∷◌, ◌++◌, flat_map, arith, refl, ◌∙◌, ap}
use Rattle.std.specs.Prelude.{◌&&◌}
use Rattle.std.specs.List.{list_all}
use Rattle.cw_facts.specs.Tests.{first_true, second_true}
use Rattle.cw_model.specs.declared.syntax.CallKind.{CallKind}
use Rattle.cw_model.specs.declared.syntax.CallKind.TheVariants.{Plain, Spawned}
use Rattle.cw_model.specs.Syntax.{Name, Stmt, Declare, DeclareArray, Assign, AssignElement, Reduce, Call, Start, Begin, Sync, If}
use Rattle.cw_model.specs.Syntax.{IfElse, While, For, Scope, Cut, Region, Print, Return, Block, End, Then, Function}
use Rattle.cw_model.specs.Captured.{captured}
use Rattle.cw_model.specs.Sites.{CallSite, sites_in, sites_in_block}
use Rattle.cw_loops.specs.Lowered.{is_plain, in_cuts, both_halves, left_arguments, right_arguments, loop_name, loop_function, loop_count}
use Rattle.cw_loops.specs.Lowered.{loop_count_in, lower_stmt, lower_block, made_by, made_in, lower_functions, made_of}
use Rattle.cw_loops.specs.SourceLike.{is_source_expr, is_source_stmt, is_source_block, is_source_function}
use Rattle.cw_loops.specs.lemmas.Numbering.{count_of}

-- the weights of calls: of a call site, of the first call of a loop's function, and of its calls on both halves
pub record Weights : Type 0 where
  pub site : ℕ → ℕ
  pub whole : Name → ℕ
  pub half : CallKind → Name → ℕ

abbrev mutual
  -- the weight of the calls of a statement
  pub weight : Weights → Stmt → ℕ
  weight w (Call kind site target f es) = w.site site
  weight w (Start kind f es) = w.half kind f
  weight w (Begin f from to captured over) = w.whole f
  weight w (If e b) = weight_in w b
  weight w (IfElse e b c) = weight_in w b + weight_in w c
  weight w (While e b) = weight_in w b
  weight w (Scope b) = weight_in w b
  weight w (Cut a e l r b) = weight_in w b
  weight w (Region tag b) = weight_in w b
  weight w _ = 0

  -- the weight of the calls of a block
  pub weight_in : Weights → Block → ℕ
  weight_in w End = 0
  weight_in w (Then line s b) = weight w s + weight_in w b

-- the weight of the calls of functions
abbrev pub weight_of : Weights → List Function → ℕ
weight_of w [] = 0
weight_of w (f ∷ fs) = weight_in w f.body + weight_of w fs

-- the weight of call sites
abbrev pub sites_weigh : Weights → List CallSite → ℕ
sites_weigh w [] = 0
sites_weigh w (s ∷ sites) = w.site s.number + sites_weigh w sites

-- the weight of the calls of one loop's function, and of this number of loops from `k` on
abbrev pub loop_weighs : Weights → (k : ℕ) → ℕ
loop_weighs w k = w.whole (loop_name k) + (w.half Spawned (loop_name k) + w.half Plain (loop_name k))

abbrev pub loops_weigh : Weights → (k count : ℕ) → ℕ
loops_weigh w k zero = 0
loops_weigh w k (suc count) = loops_weigh w k count + loop_weighs w (k + count)

module _ (w : Weights) where
  both_weigh : (xs ys : List Function) → weight_of w (xs ++ ys) ≡ weight_of w xs + weight_of w ys
  both_weigh [] ys = omega arith
  both_weigh (f ∷ xs) ys = omega (arith, both_weigh xs ys)

  both_sites : (xs ys : List CallSite) → sites_weigh w (xs ++ ys) ≡ sites_weigh w xs + sites_weigh w ys
  both_sites [] ys = omega arith
  both_sites (s ∷ xs) ys = omega (arith, both_sites xs ys)

  both_loops : (k m n : ℕ) → loops_weigh w k (m + n) ≡ loops_weigh w k m + loops_weigh w (k + m) n
  both_loops k m zero = ap (loops_weigh w k) (none m) ∙ omega arith
    where
      none : (i : ℕ) → i + 0 ≡ i
      none i = omega arith
  both_loops k m (suc n) = ap (loops_weigh w k) (next m n) ∙ ap (λ i. loops_weigh w k (m + n) + loop_weighs w i) (later k m n) ∙ omega (arith, both_loops k m n)
    where
      next : (i j : ℕ) → i + suc j ≡ suc (i + j)
      next i j = omega arith

      later : (h i j : ℕ) → h + (i + j) ≡ h + i + j
      later h i j = omega arith

  one_loop : (k : ℕ) → loops_weigh w k 1 ≡ loop_weighs w k
  one_loop k = ap (λ i. 0 + loop_weighs w i) (none k) ∙ omega arith
    where
      none : (i : ℕ) → i + 0 ≡ i
      none i = omega arith

  cuts_weigh : (line : ℕ) (over : List Name) (b : Block) → weight_in w (in_cuts line over b) ≡ weight_in w b
  cuts_weigh line [] b = refl
  cuts_weigh line (a ∷ over) b = omega (arith, cuts_weigh line over b)

  -- the function of a loop has the calls of its body, and one call on each half
  function_weighs : (name : Name) (line : ℕ) (x : Name) (grain : ℕ) (ints over : List Name) (b : Block)
      → weight_in w (loop_function name line x grain ints over b).body ≡ weight_in w b + (w.half Spawned name + w.half Plain name)
  function_weighs name line x grain ints over b = omega (arith, cuts_weigh line over (both_halves line name (left_arguments ints over) (right_arguments ints over)))

  mutual
    stmt_weighs : (s : Stmt) (over : List Name) (k line : ℕ) → is_source_stmt s ≡ true
        → weight w (lower_stmt over k s) + weight_of w (made_by line k s) ≡ sites_weigh w (sites_in line s) + loops_weigh w k (loop_count s)
    stmt_weighs (If e b) over k line h = block_weighs b over k (second_true (is_source_expr e) (is_source_block b) h)
    stmt_weighs (IfElse e b c) over k line h =
        let two = second_true (is_source_expr e) (is_source_block b && is_source_block c) h in
        omega (
          arith,
          block_weighs b over k (first_true (is_source_block b) (is_source_block c) two),
          block_weighs c over (k + loop_count_in b) (second_true (is_source_block b) (is_source_block c) two),
          both_weigh (made_in k b) (made_in (k + loop_count_in b) c),
          both_sites (sites_in_block b) (sites_in_block c),
          both_loops k (loop_count_in b) (loop_count_in c),
        )
    stmt_weighs (While e b) over k line h = block_weighs b over k (second_true (is_source_expr e) (is_source_block b) h)
    stmt_weighs (For x y z from to grain arrays b) over k line h =
        let g = second_true (is_plain x) _ h in
        let g' = second_true (is_source_expr from) _ g in
        let g'' = second_true (is_source_expr to) _ g' in
        let name = loop_name (k + loop_count_in b) in
        let f = loop_function name line x grain (captured x b) arrays (lower_block arrays k b) in
        let whole : weight w (lower_stmt over k (For x y z from to grain arrays b)) ≡ w.whole name = refl in
        let one : loops_weigh w (k + loop_count_in b) 1 ≡ w.whole name + (w.half Spawned name + w.half Plain name) = one_loop (k + loop_count_in b) in
        omega (
          arith,
          whole,
          one,
          block_weighs b arrays k (second_true (list_all is_plain arrays) (is_source_block b) g''),
          both_weigh (made_in k b) (f ∷ []),
          function_weighs name line x grain (captured x b) arrays (lower_block arrays k b),
          both_loops k (loop_count_in b) 1,
        )
    stmt_weighs (Scope b) over k line h = block_weighs b over k h
    stmt_weighs (Cut a e l r b) over k line h =
        let g = second_true (is_plain a) _ h in
        let g' = second_true (is_source_expr e) _ g in
        let g'' = second_true (is_plain l) _ g' in block_weighs b over k (second_true (is_plain r) (is_source_block b) g'')
    stmt_weighs (Region tag b) over k line h = block_weighs b over k h
    stmt_weighs (Declare x e) over k line h = omega arith
    stmt_weighs (DeclareArray x e) over k line h = omega arith
    stmt_weighs (Assign x e) over k line h = omega arith
    stmt_weighs (AssignElement x i e) over k line h = omega arith
    stmt_weighs (Reduce how x e) over k line h = omega arith
    stmt_weighs (Call kind site target f es) over k line h = omega arith
    stmt_weighs (Start kind f es) over k line h = absurd cc
    stmt_weighs (Begin f from to xs arrays) over k line h = absurd cc
    stmt_weighs Sync over k line h = omega arith
    stmt_weighs (Print e) over k line h = omega arith
    stmt_weighs (Return e) over k line h = omega arith

    block_weighs : (b : Block) (over : List Name) (k : ℕ) → is_source_block b ≡ true
        → weight_in w (lower_block over k b) + weight_of w (made_in k b) ≡ sites_weigh w (sites_in_block b) + loops_weigh w k (loop_count_in b)
    block_weighs End over k h = omega arith
    block_weighs (Then line s b) over k h =
        omega (
          arith,
          stmt_weighs s over k line (first_true (is_source_stmt s) (is_source_block b) h),
          block_weighs b over (k + loop_count s) (second_true (is_source_stmt s) (is_source_block b) h),
          both_weigh (made_by line k s) (made_in (k + loop_count s) b),
          both_sites (sites_in line s) (sites_in_block b),
          both_loops k (loop_count s) (loop_count_in b),
        )

  functions_weigh : (fs : List Function) (k : ℕ) → list_all is_source_function fs ≡ true →
      weight_of w (lower_functions k fs) + weight_of w (made_of k fs) ≡ sites_weigh w (flat_map (λ (f : Function). sites_in_block f.body) fs) + loops_weigh w k (count_of fs)
  functions_weigh [] k h = omega arith
  functions_weigh (f ∷ fs) k h =
      let here = second_true (is_plain f.name) (is_source_block f.body) (first_true (is_source_function f) (list_all is_source_function fs) h) in
      omega (
        arith,
        block_weighs f.body [] k here,
        functions_weigh fs (k + loop_count_in f.body) (second_true (is_source_function f) (list_all is_source_function fs) h),
        both_weigh (made_in k f.body) (made_of (k + loop_count_in f.body) fs),
        both_sites (sites_in_block f.body) (flat_map (λ (g : Function). sites_in_block g.body) fs),
        both_loops k (loop_count_in f.body) (count_of fs),
      )

  -- the weight of the calls of the lowered functions is the weight of the call sites of the source and of the calls of
  -- its loops
  pub lowered_weigh : (fs : List Function) → list_all is_source_function fs ≡ true →
      weight_of w (lower_functions 0 fs ++ made_of 0 fs) ≡ sites_weigh w (flat_map (λ (f : Function). sites_in_block f.body) fs) + loops_weigh w 0 (count_of fs)
  lowered_weigh fs h = both_weigh (lower_functions 0 fs) (made_of 0 fs) ∙ functions_weigh fs 0 h
