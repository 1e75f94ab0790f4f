-- The functions that loops become: one for each loop, named by consecutive numbers.
use Rattle.std.proofs.Common.{◌≡◌, ℕ, zero, suc, ◌+◌, ◌<◌, false, if◌then◌else◌, List, [], ◌∷◌, ◌++◌, length, arith, refl, sym, ◌∙◌, subst}
use Rattle.std.proofs.Common.{length-append, ap}
use Rattle.cw_model.specs.Syntax.{Stmt, Declare, DeclareArray, Assign, AssignElement, Reduce, Call, Start, Begin}
use Rattle.cw_model.specs.Syntax.{Sync, If, IfElse, While, For, Scope, Cut, Region, Print, Return, Block, End, Then}
use Rattle.cw_model.specs.Syntax.{Function}
use Rattle.cw_model.specs.Names.{same_name}
use Rattle.cw_model.specs.lemmas.Names.{same_itself}
use Rattle.cw_tree.specs.Resolved.{function_names, slot_of}
use Rattle.cw_loops.specs.Lowered.{loop_name, loop_count, loop_count_in, lower_functions, made_by, made_in, made_of}
use Rattle.cw_loops.specs.lemmas.Apart.{apart}

-- the functions are named by consecutive numbers from `k` on
abbrev pub Numbered : ℕ → List Function → Type 0
Numbered k [] = Unit {0}
Numbered k (f ∷ fs) = (f.name ≡ loop_name k) × Numbered (k + 1) fs

numbered-append : (k : ℕ) (xs ys : List Function) → Numbered k xs → Numbered (k + length xs) ys → Numbered k (xs ++ ys)
numbered-append k [] ys h g = let z : k + 0 ≡ k = omega arith in subst (λ n. Numbered n ys) z g
numbered-append k (x ∷ xs) ys h g =
    let z : k + suc (length xs)
    ≡ k + 1 + length xs = omega arith in (h.0, numbered-append (k + 1) xs ys h.1 (subst (λ n. Numbered n ys) z g))

-- the functions that the loops of a statement become
pub record Made (k count : ℕ) (made : List Function) : Type 0 where
  pub many : length made ≡ count
  pub numbered : Numbered k made

both_made : (k m n : ℕ) (xs ys : List Function) → Made k m xs → Made (k + m) n ys → Made k (m + n) (xs ++ ys)
both_made k m n xs ys h g = record {
  many = length-append xs ys ∙ omega (arith, h.many, g.many);
  numbered = numbered-append k xs ys h.numbered (subst (λ i. Numbered (k + i) ys) (sym h.many) g.numbered);
}

none_made : (k : ℕ) → Made k 0 []
none_made k = record { many = refl; numbered = tt }

mutual
  made_stmt : (s : Stmt) (line k : ℕ) → Made k (loop_count s) (made_by line k s)
  made_stmt (If e b) line k = made_block b k
  made_stmt (IfElse e b c) line k =
      both_made k (loop_count_in b) (loop_count_in c) (made_in k b) (made_in (k + loop_count_in b) c) (made_block b k)
      (made_block c (k + loop_count_in b))
  made_stmt (While e b) line k = made_block b k
  made_stmt (For x y z from to grain over b) line k =
      both_made k (loop_count_in b) 1 (made_in k b) _ (made_block b k) (record { many = refl; numbered = (refl, tt) })
  made_stmt (Scope b) line k = made_block b k
  made_stmt (Cut a e l r b) line k = made_block b k
  made_stmt (Region tag b) line k = made_block b k
  made_stmt (Declare x e) line k = none_made k
  made_stmt (DeclareArray x e) line k = none_made k
  made_stmt (Assign x e) line k = none_made k
  made_stmt (AssignElement x i e) line k = none_made k
  made_stmt (Reduce how x e) line k = none_made k
  made_stmt (Call kind site t f es) line k = none_made k
  made_stmt (Start kind f es) line k = none_made k
  made_stmt (Begin f from to xs over) line k = none_made k
  made_stmt Sync line k = none_made k
  made_stmt (Print e) line k = none_made k
  made_stmt (Return e) line k = none_made k

  made_block : (b : Block) (k : ℕ) → Made k (loop_count_in b) (made_in k b)
  made_block End k = none_made k
  made_block (Then line s b) k =
      both_made k (loop_count s) (loop_count_in b) (made_by line k s) (made_in (k + loop_count s) b)
      (made_stmt s line k) (made_block b (k + loop_count s))

abbrev pub count_of : List Function → ℕ
count_of [] = 0
count_of (f ∷ fs) = loop_count_in f.body + count_of fs

pub made_functions : (fs : List Function) (k : ℕ) → Made k (count_of fs) (made_of k fs)
made_functions [] k = none_made k
made_functions (f ∷ fs) k =
    both_made k (loop_count_in f.body) (count_of fs) (made_in k f.body) (made_of (k + loop_count_in f.body) fs)
    (made_block f.body k) (made_functions fs (k + loop_count_in f.body))

pub loops_apart : (j k : ℕ) → k < j → same_name (loop_name j) (loop_name k) ≡ false
loops_apart j k h = apart (loop_name j) (loop_name k) (λ e. let q : j ≡ k = numbers e in omega arith)
  where
    numbers : loop_name j ≡ loop_name k → j ≡ k
    numbers e = cc

-- lowering keeps the names of functions
pub names_stay : (k : ℕ) (fs : List Function) → function_names (lower_functions k fs) ≡ function_names fs
names_stay k [] = refl
names_stay k (f ∷ fs) = ap (λ names. f.name ∷ names) (names_stay (k + loop_count_in f.body) fs)

-- lowering keeps the number of functions
pub count_stays : (k : ℕ) (fs : List Function) → length (lower_functions k fs) ≡ length fs
count_stays k [] = refl
count_stays k (f ∷ fs) = ap suc (count_stays (k + loop_count_in f.body) fs)

-- the slot of a numbered function is its position
pub numbered_slot : (made : List Function) (j i : ℕ) → Numbered j made → i < length made → slot_of (loop_name (j + i)) (function_names made) ≡ i
numbered_slot [] j i h less = absurd (omega (arith, less))
numbered_slot (f ∷ made) j zero h less =
    ap (λ w. if same_name (loop_name (j + 0)) w then 0 else suc (slot_of (loop_name (j + 0)) (function_names made))) h.0
    ∙ ap (λ w. if same_name (loop_name w) (loop_name j) then 0 else suc (slot_of (loop_name (j + 0)) (function_names made))) (none j)
    ∙ ap (λ b. if b then 0 else suc (slot_of (loop_name (j + 0)) (function_names made))) (same_itself (loop_name j))
  where
    none : (n : ℕ) → n + 0 ≡ n
    none n = omega arith
numbered_slot (f ∷ made) j (suc i) h less =
    ap (λ w. if same_name (loop_name (j + suc i)) w then 0 else suc (slot_of (loop_name (j + suc i)) (function_names made))) h.0
    ∙ ap (λ b. if b then 0 else suc (slot_of (loop_name (j + suc i)) (function_names made))) (loops_apart (j + suc i) j (omega arith))
    ∙ ap (λ w. suc (slot_of (loop_name w) (function_names made))) (next j i) ∙ ap suc (numbered_slot made (j + 1) i h.1 (omega (arith, less)))
  where
    next : (m n : ℕ) → m + suc n ≡ m + 1 + n
    next m n = omega arith
