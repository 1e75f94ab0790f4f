-- In a tree whose slots are below their counts, each slot that is declared, taken or listed is small.
use Rattle.std.proofs.Common.{◌≡◌, ℕ, ◌≤◌, nat_lt, nat_le, true, ◌&&◌, List, [], ◌∷◌, length, map, flat_map, Option, Some, None, refl, arith}
use Rattle.std.specs.List.{list_all}
use Rattle.std.proofs.lemmas.Bool.Decides.{nat_tests}
use Rattle.cw_facts.specs.Tests.{both_true, le_of, first_true, second_true}
use Rattle.cw_model.specs.declared.limits.TheConstants.{MOST_DECLARED, MOST_PARAMETERS, MOST_FUNCTIONS, MOST_REDUCERS}
use Rattle.cw_model.specs.Lines.{unless}
use Rattle.cw_model.specs.Syntax as model
use Rattle.cw_model.specs.Sizes.{limit_faults, function_limits, lines_beyond}
use Rattle.cw_model.specs.lemmas.Kept.{left_none, right_none, kept}
use Rattle.cw_tree.specs.Resolved.{Use, Argument, Int, Array, Shared, Stmt, Declare, DeclareArray, Assign, AssignElement, Reduce, Call, Sync, If, IfElse}
use Rattle.cw_tree.specs.Resolved.{While, For, Scope, Cut, Region, Print, Return, Block, End, Then, Function, Resolved, plain, plain_function}
use Rattle.cw_tree.specs.Bounds.{Counts, is_below, fits_expr, fits_argument, fits_target, fits_head, fits_parts, fits_stmt, fits_block, fits_function, counts_of, is_fitting}
use Rattle.cw_own.specs.Bounds.{is_small, small_argument, small_target, small_stmt, small_block, small_function}

-- the numbers of slots are small
record Few (n : Counts) : Type 0 where
  pub ints : n.ints ≤ MOST_DECLARED
  pub arrays : n.arrays ≤ MOST_DECLARED

pub less : (k n m : ℕ) → n ≤ m → nat_lt k n ≡ true → nat_lt k m ≡ true
less k n m le h = grind (arith, nat_tests, h)

int_small : (n : Counts) (u : Use) → Few n → is_below n.ints u ≡ true → is_small u ≡ true
int_small n u few h = less u.slot n.ints MOST_DECLARED few.ints h

array_small : (n : Counts) (u : Use) → Few n → is_below n.arrays u ≡ true → is_small u ≡ true
array_small n u few h = less u.slot n.arrays MOST_DECLARED few.arrays h

arguments_small : (n : Counts) (es : List Argument) → Few n → list_all (fits_argument n) es ≡ true → list_all small_argument es ≡ true
arguments_small n [] few h = refl
arguments_small n (Int e ∷ es) few h = arguments_small n es few (second_true (fits_expr n e) (list_all (fits_argument n) es) h)
arguments_small n (Array u ∷ es) few h =
    both_true (is_small u) (list_all small_argument es) (array_small n u few (first_true (is_below n.arrays u) (list_all (fits_argument n) es) h))
    (arguments_small n es few (second_true (is_below n.arrays u) (list_all (fits_argument n) es) h))
arguments_small n (Shared u ∷ es) few h =
    both_true (is_small u) (list_all small_argument es) (array_small n u few (first_true (is_below n.arrays u) (list_all (fits_argument n) es) h))
    (arguments_small n es few (second_true (is_below n.arrays u) (list_all (fits_argument n) es) h))

over_small : (n : Counts) (us : List Use) → Few n → list_all (is_below n.arrays) us ≡ true → list_all is_small us ≡ true
over_small n [] few h = refl
over_small n (u ∷ us) few h =
    both_true (is_small u) (list_all is_small us) (array_small n u few (first_true (is_below n.arrays u) (list_all (is_below n.arrays) us) h))
    (over_small n us few (second_true (is_below n.arrays u) (list_all (is_below n.arrays) us) h))

target_small : (n : Counts) (target : Option Use) → Few n → fits_target n target ≡ true → small_target target ≡ true
target_small n None few h = refl
target_small n (Some u) few h = int_small n u few h

mutual
  stmt_small : (n : Counts) (s : Stmt) → Few n → fits_stmt n s ≡ true → small_stmt s ≡ true
  stmt_small n (Declare u e) few h = int_small n u few (first_true (is_below n.ints u) (fits_expr n e) h)
  stmt_small n (DeclareArray u e) few h = array_small n u few (first_true (is_below n.arrays u) (fits_expr n e) h)
  stmt_small n (Assign u e) few h = refl
  stmt_small n (AssignElement u i e) few h = refl
  stmt_small n (Reduce how s e) few h = refl
  stmt_small n (Call kind site target f es) few h =
      both_true (small_target target) (list_all small_argument es)
      (target_small n target few (first_true (fits_target n target) (nat_lt f.index n.functions) (first_true (fits_target n target && nat_lt f.index n.functions) (list_all (fits_argument n) es) h)))
      (arguments_small n es few (second_true (fits_target n target && nat_lt f.index n.functions) (list_all (fits_argument n) es) h))
  stmt_small n Sync few h = refl
  stmt_small n (If e b) few h = block_small n b few (second_true (fits_expr n e) (fits_block n b) h)
  stmt_small n (IfElse e b c) few h =
      both_true (small_block b) (small_block c)
      (block_small n b few (second_true (fits_expr n e) (fits_block n b) (first_true (fits_expr n e && fits_block n b) (fits_block n c) h)))
      (block_small n c few (second_true (fits_expr n e && fits_block n b) (fits_block n c) h))
  stmt_small n (While e b) few h = block_small n b few (second_true (fits_expr n e) (fits_block n b) h)
  stmt_small n (For head b) few h =
      let head_fits = first_true (fits_head n head) (fits_block n b) h in
      both_true (is_small head.variable) (list_all is_small head.over && small_block b)
      (int_small n head.variable few (first_true _ _ (first_true _ _ (first_true _ _ (first_true _ (list_all (is_below n.arrays) head.over) head_fits)))))
      (both_true (list_all is_small head.over) (small_block b)
      (over_small n head.over few (second_true (is_below n.ints head.variable && fits_expr n head.from && fits_expr n head.to
      && list_all (is_below n.ints) head.captured) (list_all (is_below n.arrays) head.over) head_fits))
      (block_small n b few (second_true (fits_head n head) (fits_block n b) h)))
  stmt_small n (Scope b) few h = block_small n b few h
  stmt_small n (Cut parts b) few h =
      let fits = first_true (fits_parts n parts) (fits_block n b) h in
      let three = first_true (is_below n.arrays parts.array && fits_expr n parts.at && is_below n.arrays parts.left) (is_below n.arrays parts.right) fits in
      both_true (is_small parts.array) (is_small parts.left && (is_small parts.right && small_block b))
      (array_small n parts.array few (first_true (is_below n.arrays parts.array) (fits_expr n parts.at)
      (first_true (is_below n.arrays parts.array && fits_expr n parts.at) (is_below n.arrays parts.left) three)))
      (both_true (is_small parts.left) (is_small parts.right && small_block b)
      (array_small n parts.left few (second_true (is_below n.arrays parts.array && fits_expr n parts.at) (is_below n.arrays parts.left) three))
      (both_true (is_small parts.right) (small_block b)
      (array_small n parts.right few (second_true (is_below n.arrays parts.array && fits_expr n parts.at && is_below n.arrays parts.left) (is_below n.arrays parts.right) fits))
      (block_small n b few (second_true (fits_parts n parts) (fits_block n b) h))))
  stmt_small n (Region tag b) few h = block_small n b few (second_true (nat_lt tag.index n.tags) (fits_block n b) h)
  stmt_small n (Print e) few h = refl
  stmt_small n (Return e) few h = refl

  block_small : (n : Counts) (b : Block) → Few n → fits_block n b ≡ true → small_block b ≡ true
  block_small n End few h = refl
  block_small n (Then line s b) few h =
      both_true (small_stmt s) (small_block b) (stmt_small n s few (first_true (fits_stmt n s) (fits_block n b) h)) (block_small n b few (second_true (fits_stmt n s) (fits_block n b) h))

function_small : (tree : Resolved) (f : Function) → fits_function tree f ≡ true → function_limits (plain_function f) ≡ [] → small_function f ≡ true
function_small tree f fits few =
    let counts = first_true (nat_le f.ints MOST_DECLARED && nat_le f.arrays MOST_DECLARED) (fits_block (counts_of tree f) f.body) fits in
    both_true (nat_le (length f.params) MOST_PARAMETERS) (small_block f.body)
    (kept (nat_le (length f.params) MOST_PARAMETERS) f.line (left_none (unless (nat_le (length f.params) MOST_PARAMETERS) f.line) _ few))
    (block_small (counts_of tree f) f.body
    (record {
      ints = le_of f.ints MOST_DECLARED (first_true (nat_le f.ints MOST_DECLARED) (nat_le f.arrays MOST_DECLARED) counts);
      arrays = le_of f.arrays MOST_DECLARED (second_true (nat_le f.ints MOST_DECLARED) (nat_le f.arrays MOST_DECLARED) counts);
    })
    (second_true (nat_le f.ints MOST_DECLARED && nat_le f.arrays MOST_DECLARED) (fits_block (counts_of tree f) f.body) fits))

functions_small : (tree : Resolved) (fs : List Function) → list_all (fits_function tree) fs ≡ true → flat_map function_limits (map plain_function fs) ≡ [] → list_all small_function fs ≡ true
functions_small tree [] fits few = refl
functions_small tree (f ∷ fs) fits few =
    both_true (small_function f) (list_all small_function fs)
    (function_small tree f (first_true (fits_function tree f) (list_all (fits_function tree) fs) fits)
    (left_none (function_limits (plain_function f)) (flat_map function_limits (map plain_function fs)) few))
    (functions_small tree fs (second_true (fits_function tree f) (list_all (fits_function tree) fs) fits)
    (right_none (function_limits (plain_function f)) (flat_map function_limits (map plain_function fs)) few))

-- each function of a tree that exceeds no limit is small
pub tree_small : (tree : Resolved) → is_fitting tree ≡ true → limit_faults (plain tree) ≡ [] → list_all small_function tree.functions ≡ true
tree_small tree fits within =
    let beyond = lines_beyond MOST_FUNCTIONS (map (λ (f : model.Function). f.line) (plain tree).functions) in
    let rest = right_none beyond _ within in
    let heads = left_none (flat_map function_limits (plain tree).functions) _ (right_none (lines_beyond MOST_REDUCERS (map (λ (r : model.Reducer). r.line) tree.reducers)) _ rest) in
    functions_small tree tree.functions (first_true (list_all (fits_function tree) tree.functions) (nat_lt tree.main (length tree.functions)) fits) heads
