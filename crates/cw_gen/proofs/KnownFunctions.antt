-- The functions of a lowered program are found by their names: the functions of the source as before, and the functions
-- of its loops by number.
use Rattle.std.proofs.Common.{◌≡◌, ℕ, suc, ◌+◌, ◌≤◌, Bool, true, false, List, [], ◌∷◌, ◌++◌, Some, arith, refl, sym, ◌∙◌, ap, subst, append_assoc}
use Rattle.std.specs.Prelude.{if◌then◌else◌}
use Rattle.std.specs.List.{list_all}
use Rattle.std.proofs.lemmas.Bool.{and_parts}
use Rattle.cw_model.specs.Syntax.{Name, Stmt, If, IfElse, While, For, Scope, Cut, Region, Block, End, Then, Function}
use Rattle.cw_model.specs.Names.{same_name}
use Rattle.cw_model.specs.Meaning.{function_named}
use Rattle.cw_model.specs.Captured.{captured}
use Rattle.cw_model.specs.Typing.{called}
use Rattle.cw_model.specs.lemmas.Names.{same_itself}
use Rattle.cw_loops.specs.Lowered.{is_plain, loop_name, loop_function, loop_count, loop_count_in, lower_block, lower_function, lower_functions, made_by, made_in, made_of}
use Rattle.cw_loops.specs.Lowerable.{can_lower_function}
use Rattle.cw_loops.specs.lemmas.Apart.{apart, apart_plain}
use Rattle.cw_gen.proofs.Fine.{is_function}

-- the lookup of a function's name finds the function
pub record Found (fs : List Function) (g : Function) : Type 0 where
  pub there : is_function g.name fs ≡ true
  pub is : function_named g.name fs ≡ g

-- the lookup of each function's name finds the function
abbrev pub AllFound : List Function → List Function → Type 0
AllFound fs [] = Unit {0}
AllFound fs (g ∷ gs) = Found fs g × AllFound fs gs

-- the functions of the first list, and of the second
pub found_first : (fs xs ys : List Function) → AllFound fs (xs ++ ys) → AllFound fs xs
found_first fs [] ys h = tt
found_first fs (x ∷ xs) ys h = (h.0, found_first fs xs ys h.1)

pub found_second : (fs xs ys : List Function) → AllFound fs (xs ++ ys) → AllFound fs ys
found_second fs [] ys h = h
found_second fs (x ∷ xs) ys h = found_second fs xs ys h.1

-- the lookup skips functions with other names

past_function : (name : Name) (before behind : List Function) → is_function name before ≡ false → function_named name (before ++ behind) ≡ function_named name behind
past_function name [] behind h = refl
past_function name (f ∷ before) behind h = go (same_name name f.name) h (past_function name before behind)
  where
    go : (b : Bool) → (if b then true else is_function name before) ≡ false → (is_function name before ≡ false → function_named name (before ++ behind) ≡ function_named name behind) →
        (if b then f else function_named name (before ++ behind)) ≡ function_named name behind
    go true g more = absurd cc
    go false g more = more g

past_is_function : (name : Name) (before behind : List Function) → is_function name before ≡ false → is_function name (before ++ behind) ≡ is_function name behind
past_is_function name [] behind h = refl
past_is_function name (f ∷ before) behind h = go (same_name name f.name) h (past_is_function name before behind)
  where
    go : (b : Bool) → (if b then true else is_function name before) ≡ false → (is_function name before ≡ false → is_function name (before ++ behind) ≡ is_function name behind) →
        (if b then true else is_function name (before ++ behind)) ≡ is_function name behind
    go true g more = absurd cc
    go false g more = more g

-- the functions of loops with the numbers from `k` to `j`
abbrev pub Numbered : ℕ → ℕ → List Function → Type 0
Numbered k j [] = k ≡ j
Numbered k j (g ∷ gs) = (g.name ≡ loop_name k) × Numbered (suc k) j gs

numbered_on : (k j m : ℕ) (xs ys : List Function) → Numbered k j xs → Numbered j m ys → Numbered k m (xs ++ ys)
numbered_on k j m [] ys h g = subst (λ n. Numbered n m ys) (sym h) g
numbered_on k j m (x ∷ xs) ys h g = (h.0, numbered_on (suc k) j m xs ys h.1 g)

-- the upper end of the numbers, rewritten
up_to : (k n m : ℕ) (xs : List Function) → n ≡ m → Numbered k n xs → Numbered k m xs
up_to k n m xs e h = subst (λ i. Numbered k i xs) e h

mutual
  numbered_by : (line k : ℕ) (s : Stmt) → Numbered k (k + loop_count s) (made_by line k s)
  numbered_by line k (If e b) = numbered_in k b
  numbered_by line k (IfElse e b c) =
      numbered_on k (k + loop_count_in b) (k + (loop_count_in b + loop_count_in c)) (made_in k b) (made_in (k + loop_count_in b) c) (numbered_in k b)
      (up_to (k + loop_count_in b) ((k + loop_count_in b) + loop_count_in c) (k + (loop_count_in b + loop_count_in c))
      (made_in (k + loop_count_in b) c) (omega arith) (numbered_in (k + loop_count_in b) c))
  numbered_by line k (While e b) = numbered_in k b
  numbered_by line k (For x y z from to grain over b) =
      numbered_on k (k + loop_count_in b) (k + (loop_count_in b + 1)) (made_in k b) (loop_function (loop_name (k + loop_count_in b)) line x grain (captured x b) over (lower_block over k b) ∷ [])
      (numbered_in k b) (refl, omega arith)
  numbered_by line k (Scope b) = numbered_in k b
  numbered_by line k (Cut a e l r b) = numbered_in k b
  numbered_by line k (Region tag b) = numbered_in k b
  numbered_by line k _ = omega arith

  numbered_in : (k : ℕ) (b : Block) → Numbered k (k + loop_count_in b) (made_in k b)
  numbered_in k End = omega arith
  numbered_in k (Then line s b) =
      numbered_on k (k + loop_count s) (k + (loop_count s + loop_count_in b)) (made_by line k s) (made_in (k + loop_count s) b) (numbered_by line k s)
      (up_to (k + loop_count s) ((k + loop_count s) + loop_count_in b) (k + (loop_count s + loop_count_in b)) (made_in (k + loop_count s) b) (omega arith) (numbered_in (k + loop_count s) b))

-- the number of loops of functions
abbrev loops_of : List Function → ℕ
loops_of [] = 0
loops_of (f ∷ fs) = loop_count_in f.body + loops_of fs

numbered_of : (k : ℕ) (fs : List Function) → Numbered k (k + loops_of fs) (made_of k fs)
numbered_of k [] = omega arith
numbered_of k (f ∷ fs) =
    numbered_on k (k + loop_count_in f.body) (k + (loop_count_in f.body + loops_of fs)) (made_in k f.body) (made_of (k + loop_count_in f.body) fs) (numbered_in k f.body)
    (up_to (k + loop_count_in f.body) ((k + loop_count_in f.body) + loops_of fs) (k + (loop_count_in f.body + loops_of fs))
    (made_of (k + loop_count_in f.body) fs) (omega arith) (numbered_of (k + loop_count_in f.body) fs))

-- no loop from this number on has its function in the list
abbrev Below : ℕ → List Function → Type 0
Below k fs = (n : ℕ) → k ≤ n → is_function (loop_name n) fs ≡ false

-- appending the function of loop `k` keeps `Below` for the next number
below_next : (k : ℕ) (fs : List Function) (g : Function) → g.name ≡ loop_name k → Below k fs → Below (suc k) (fs ++ g ∷ [])
below_next k fs g named below n more =
    past_is_function (loop_name n) fs (g ∷ []) (below n (omega (arith, more)))
    ∙ ap (λ x. if same_name (loop_name n) x then true else false) named
    ∙ ap (λ b. if b then true else false) (apart (loop_name n) (loop_name k) other)
  where
    same_number : loop_name n ≡ loop_name k → n ≡ k
    same_number e = cc

    other : loop_name n ≡ loop_name k → ⊥
    other e = let m = same_number e in omega (arith, more, m)

found_behind : (before ms : List Function) (k j : ℕ) → Below k before → Numbered k j ms → AllFound (before ++ ms) ms
found_behind before [] k j below numbered = tt
found_behind before (g ∷ ms) k j below numbered = (
  record {
    there = past_is_function g.name before (g ∷ ms) none ∙ ap (λ b. if b then true else is_function g.name ms) itself;
    is = past_function g.name before (g ∷ ms) none ∙ ap (λ b. if b then g else function_named g.name ms) itself;
  },
  subst (λ fs. AllFound fs ms) (append_assoc before (g ∷ []) ms) (found_behind (before ++ g ∷ []) ms (suc k) j (below_next k before g numbered.0 below) numbered.1),
)
  where
    none : is_function g.name before ≡ false
    none = ap (λ x. is_function x before) numbered.0 ∙ below k (omega arith)

    itself : same_name g.name g.name ≡ true
    itself = same_itself g.name

-- no function of a source has a generated name
source_below : (all : List Function) (k : ℕ) (fs : List Function) → list_all (can_lower_function all) fs ≡ true → Below 0 (lower_functions k fs)
source_below all k [] h n more = refl
source_below all k (f ∷ fs) h n more =
    let two = and_parts (can_lower_function all f) (list_all (can_lower_function all) fs) h in
    let plain = (and_parts (is_plain f.name) _ two.0).0 in
    ap (λ b. if b then true else is_function (loop_name n) (lower_functions (k + loop_count_in f.body) fs)) (apart_plain f.name (n ∷ []) plain)
    ∙ source_below all (k + loop_count_in f.body) fs two.1 n more

-- the lookup of each loop's function finds it
pub loops_found : (all fs : List Function) → list_all (can_lower_function all) fs ≡ true → AllFound (lower_functions 0 fs ++ made_of 0 fs) (made_of 0 fs)
loops_found all fs h = found_behind (lower_functions 0 fs) (made_of 0 fs) 0 (0 + loops_of fs) (source_below all 0 fs h) (numbered_of 0 fs)

-- a function of the source, as the lookup finds it in the lowered program
pub record CallFound (all : List Function) (f : Name) (g : Function) : Type 0 where
  pub there : is_function f all ≡ true
  pub params : (function_named f all).params ≡ g.params
  pub gives : (function_named f all).gives_int ≡ g.gives_int

-- each function that the types find is found
pub call_found : (k : ℕ) (fs ms : List Function) (f : Name) (g : Function) → called f fs ≡ Some g → CallFound (lower_functions k fs ++ ms) f g
call_found k [] ms f g h = absurd cc
call_found k (p ∷ fs) ms f g h = go (same_name f p.name) refl h (call_found (k + loop_count_in p.body) fs ms f g)
  where
    rest : List Function
    rest = lower_functions (k + loop_count_in p.body) fs ++ ms

    go : (b : Bool) → same_name f p.name ≡ b → (if b then Some p else called f fs) ≡ Some g → (called f fs ≡ Some g → CallFound rest f g) → CallFound (lower_function k p ∷ rest) f g
    go true e h' more =
        let same : p ≡ g = cc in
        record {
          there = ap (λ b. if b then true else is_function f rest) e;
          params = ap (λ b. (if b then lower_function k p else function_named f rest).params) e ∙ ap (λ (q : Function). q.params) same;
          gives = ap (λ b. (if b then lower_function k p else function_named f rest).gives_int) e ∙ ap (λ (q : Function). q.gives_int) same;
        }
    go false e h' more =
        let r = more h' in
        record {
          there = ap (λ b. if b then true else is_function f rest) e ∙ r.there;
          params = ap (λ b. (if b then lower_function k p else function_named f rest).params) e ∙ r.params;
          gives = ap (λ b. (if b then lower_function k p else function_named f rest).gives_int) e ∙ r.gives;
        }
