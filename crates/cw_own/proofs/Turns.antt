-- Rows in order: setting a place, and prefixes.
use Rattle.std.proofs.Common.{◌≡◌, ℕ, zero, suc, List, [], ◌∷◌, ◌++◌, length, drop, map, slice_set, refl, ap, ◌∙◌}
use Rattle.cw_own.specs.declared.restrictions.Restrictions as code
use Rattle.cw_own.specs.Sets.{Row}
use Rattle.cw_tree.specs.Resolved.{Stmt, Declare, DeclareArray, Assign, AssignElement, Reduce, Call, Sync, If, IfElse, While, For, Scope, Cut, Region, Print, Return}
use Rattle.cw_own.specs.Taken.{Restrictions, restrictions_of, Taken, taken_after, left_by}
use Rattle.cw_own.specs.Rules.{seen_by}

-- setting the reserved place fills it
pub set_kept : (xs ys : List code.Restrictions) (kept : Restrictions) (g : code.Restrictions) (rest : List Restrictions) → map restrictions_of xs ≡ (map restrictions_of ys ++ kept ∷ []) ++ rest →
    map restrictions_of (slice_set xs (length ys) g) ≡ map restrictions_of ys ++ restrictions_of g ∷ rest
set_kept [] [] kept g rest h = cc
set_kept [] (y ∷ ys) kept g rest h = cc
set_kept (x ∷ xs) [] kept g rest h = let e : map restrictions_of xs ≡ rest = cc in ap (λ r. restrictions_of g ∷ r) e
set_kept (x ∷ xs) (y ∷ ys) kept g rest h =
    let one : restrictions_of x ≡ restrictions_of y = cc in
    let more : map restrictions_of xs ≡ (map restrictions_of ys ++ kept ∷ []) ++ rest = cc in
    ap (λ r. r ∷ map restrictions_of (slice_set xs (length ys) g)) one ∙ ap (λ r. restrictions_of y ∷ r) (set_kept xs ys kept g rest more)

pub rest_is : (first more : List Restrictions) → drop (length first) (first ++ more) ≡ more
rest_is [] more = refl
rest_is (x ∷ first) more = rest_is first more

abbrev no_rows : List Restrictions
no_rows = []

none_dropped : (n : ℕ) → drop n (no_rows) ≡ []
none_dropped zero = refl
none_dropped (suc n) = refl

pub drop_both : (first second rows : List Restrictions) → drop (length second) (drop (length first) rows) ≡ drop (length (first ++ second)) rows
drop_both [] second rows = refl
drop_both (x ∷ first) second [] = none_dropped (length second)
drop_both (x ∷ first) second (r ∷ rows) = drop_both first second rows

-- the locals that a statement leaves held of those that it sees are the locals held after it
pub left_is : (known : Row) (s : Stmt) (taken : Taken) → left_by known s (seen_by known taken s) ≡ taken_after known s taken
left_is known (Declare u e) taken = refl
left_is known (DeclareArray u e) taken = refl
left_is known (Assign u e) taken = refl
left_is known (AssignElement u i e) taken = refl
left_is known (Reduce how l e) taken = refl
left_is known (Call kind site target f es) taken = refl
left_is known Sync taken = refl
left_is known (If e b) taken = refl
left_is known (IfElse e b d) taken = refl
left_is known (While e b) taken = refl
left_is known (For head b) taken = refl
left_is known (Scope b) taken = refl
left_is known (Cut parts b) taken = refl
left_is known (Region tag b) taken = refl
left_is known (Print e) taken = refl
left_is known (Return e) taken = refl
