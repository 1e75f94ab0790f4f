-- A program within its limits has few functions, including the functions of its loops.
use Rattle.std.proofs.Common.{◌≡◌, ℕ, ◌+◌, ◌≤◌, List, [], ◌∷◌, ◌++◌, length, refl, sym, ap, ◌∙◌, arith, length-append}
use Rattle.std.specs.Prelude.{map, flat_map}
use Rattle.std.proofs.lemmas.List.{length-map, length-drop}
use Rattle.cw_model.specs.declared.limits.TheConstants.{MOST_FUNCTIONS, MOST_LOOPS}
use Rattle.cw_model.specs.Syntax.{Stmt, Declare, DeclareArray, Assign, AssignElement, Reduce, Call, Start, Begin, Sync, If, IfElse}
use Rattle.cw_model.specs.Syntax.{While, For, Scope, Cut, Region, Print, Return, Block, End, Then, Function, Program}
use Rattle.cw_model.specs.Captured.{captured}
use Rattle.cw_model.specs.Sizes.{lines_beyond, loops_in, loops_in_block}
use Rattle.cw_model.specs.lemmas.Kept.{left_none}
use Rattle.cw_loops.specs.Lowered.{loop_name, loop_count, loop_count_in, lower_block, made_by, made_in, loop_function, lower_functions, made_of, lowered}
use Rattle.cw_loops.specs.SlotLaws.{IsWithinLimits}
use Rattle.cw_loops.specs.lemmas.Numbering.{count_stays}

-- if no line is beyond the limit, the number of lines keeps it
none_beyond : (most : ℕ) (lines : List ℕ) → lines_beyond most lines ≡ [] → length lines ≤ most
none_beyond most lines h = omega (arith, sym (length-drop most lines) ∙ ap length h)

both_long : (fs gs : List Function) (xs ys : List ℕ) → length fs ≡ length xs → length gs ≡ length ys → length (fs ++ gs) ≡ length (xs ++ ys)
both_long fs gs xs ys h k = omega (arith, length-append fs gs, length-append xs ys, h, k)

mutual
  -- each loop of a statement becomes one function
  made_count : (line k : ℕ) (s : Stmt) → length (made_by line k s) ≡ length (loops_in line s)
  made_count line k (If e b) = made_count_in k b
  made_count line k (IfElse e b c) = both_long (made_in k b) (made_in (k + loop_count_in b) c) (loops_in_block b) (loops_in_block c) (made_count_in k b) (made_count_in (k + loop_count_in b) c)
  made_count line k (While e b) = made_count_in k b
  made_count line k (For x y z from to grain over b) =
      let f = loop_function (loop_name (k + loop_count_in b)) line x grain (captured x b) over (lower_block over k b) in
      omega (arith, length-append (made_in k b) (f ∷ []), made_count_in k b)
  made_count line k (Scope b) = made_count_in k b
  made_count line k (Cut a e l r b) = made_count_in k b
  made_count line k (Region tag b) = made_count_in k b
  made_count line k (Declare x e) = refl
  made_count line k (DeclareArray x e) = refl
  made_count line k (Assign x e) = refl
  made_count line k (AssignElement x i e) = refl
  made_count line k (Reduce how x e) = refl
  made_count line k (Call kind site t f es) = refl
  made_count line k (Start kind f es) = refl
  made_count line k (Begin f from to xs arrays) = refl
  made_count line k Sync = refl
  made_count line k (Print e) = refl
  made_count line k (Return e) = refl

  made_count_in : (k : ℕ) (b : Block) → length (made_in k b) ≡ length (loops_in_block b)
  made_count_in k End = refl
  made_count_in k (Then line s b) = both_long (made_by line k s) (made_in (k + loop_count s) b) (loops_in line s) (loops_in_block b) (made_count line k s) (made_count_in (k + loop_count s) b)

made_count_of : (k : ℕ) (fs : List Function) → length (made_of k fs) ≡ length (flat_map (λ f. loops_in_block f.body) fs)
made_count_of k [] = refl
made_count_of k (f ∷ fs) =
    both_long (made_in k f.body) (made_of (k + loop_count_in f.body) fs) (loops_in_block f.body) (flat_map (λ g. loops_in_block g.body) fs)
    (made_count_in k f.body) (made_count_of (k + loop_count_in f.body) fs)

pub few_functions : (program : Program) → IsWithinLimits program → length (lowered program).functions ≤ 8192
few_functions program within =
    let fs = program.functions in
    let lines = map (λ (f : Function). f.line) fs in
    let loops = flat_map (λ (f : Function). loops_in_block f.body) fs in
    let few = none_beyond MOST_FUNCTIONS lines (left_none (lines_beyond MOST_FUNCTIONS lines) _ within.limits) in
    let few_loops = none_beyond MOST_LOOPS loops within.loops in
    omega (arith, length-append (lower_functions 0 fs) (made_of 0 fs), count_stays 0 fs, made_count_of 0 fs, length-map fs (λ (f : Function). f.line), few, few_loops)
