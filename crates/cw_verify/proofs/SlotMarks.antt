-- Rows of slots: merged rows, and slots that are marked one at a time.
use Rattle.std.proofs.Common.{◌≡◌, ℕ, zero, suc, ◌+◌, ◌<◌, ◌≤◌, Bool, true, false, not, ◌||◌, ◌&&◌, if◌then◌else◌, nat_eq}
use Rattle.std.proofs.Common.{nat_lt, List, [], ◌∷◌, Some, length, get_or, refl, sym, ap, ◌∙◌, ⊎_elim, arith}
use Rattle.std.specs.Prelude.{take, drop, slice_get, slice_set}
use Rattle.std.proofs.lemmas.List.{length-set, length-replicate}
use Rattle.std.proofs.lemmas.Bool.{cases_eq, or_parts}
use Rattle.cw_facts.specs.Lists.{get_set, set_other}
use Rattle.cw_facts.specs.Tests.{both_true, first_true, second_true, first_false, second_false, below, equal, eq_of, not_equal, lt_of, four_and, not_true}
use Rattle.cw_code.specs.Fits.{Row, Shape, is_full_in, has_array, has_arrays, is_none_of, names_arrays, with_gone, slots_lent, none_empty}
use Rattle.cw_code.specs.declared.code.Loan.{Loan}
use Rattle.cw_code.specs.declared.code.Loan.TheVariants.{Array, Reader}
use Rattle.cw_code.specs.lemmas.Slots.{row_there}
use Rattle.cw_verify.specs.Views.{frozen_by, with_loans}
use Rattle.cw_verify.specs.Table.{either_empty, brings, has_all, any_empty, are_unmarked, unmarked, IsEither}
use Rattle.cw_verify.proofs.Lists.{drop_at}

-- a merge with a row that marks no more leaves the row unchanged
pub either_stays : (xs ys : Row) → brings xs ys ≡ false → either_empty xs ys ≡ xs
either_stays [] ys h = refl
either_stays (x ∷ xs) [] h = refl
either_stays (x ∷ xs) (y ∷ ys) h =
    let both = or_parts (not x && y) (brings xs ys) h in
    ap (λ l. (x || y) ∷ l) (either_stays xs ys both.1) ∙ ap (λ b. b ∷ xs) (stays x y both.0)
  where
    stays : (x y : Bool) → (not x && y) ≡ false → (x || y) ≡ x
    stays true y h = refl
    stays false true h = cc
    stays false false h = refl

-- a merge leaves no more slots unmarked, and fewer if the second row marks more
pub either_within : (xs ys : Row) → unmarked (either_empty xs ys) ≤ unmarked xs
either_within [] ys = omega arith
either_within (x ∷ xs) [] = omega arith
either_within (true ∷ xs) (y ∷ ys) = either_within xs ys
either_within (false ∷ xs) (true ∷ ys) = omega (arith, either_within xs ys)
either_within (false ∷ xs) (false ∷ ys) = omega (arith, either_within xs ys)

pub either_fewer : (xs ys : Row) → brings xs ys ≡ true → unmarked (either_empty xs ys) < unmarked xs
either_fewer [] ys h = cc
either_fewer (x ∷ xs) [] h = cc
either_fewer (true ∷ xs) (y ∷ ys) h = either_fewer xs ys h
either_fewer (false ∷ xs) (true ∷ ys) h = omega (arith, either_within xs ys)
either_fewer (false ∷ xs) (false ∷ ys) h = omega (arith, either_fewer xs ys h)

-- if the new row marks everything that the old one marks, it is the merged row
pub either_comes : (xs ys : Row) → length xs ≡ length ys → brings ys xs ≡ false → either_empty xs ys ≡ ys
either_comes [] [] e h = refl
either_comes [] (y ∷ ys) e h = absurd (omega (arith, e))
either_comes (x ∷ xs) [] e h = absurd (omega (arith, e))
either_comes (x ∷ xs) (y ∷ ys) e h =
    let both = or_parts (not y && x) (brings ys xs) h in
    ap (λ l. (x || y) ∷ l) (either_comes xs ys (omega (arith, e)) both.1) ∙ ap (λ b. b ∷ ys) (comes x y both.0)
  where
    comes : (x y : Bool) → (not y && x) ≡ false → (x || y) ≡ y
    comes true true h = refl
    comes true false h = cc
    comes false y h = refl

-- the merged row, according to which of the rows marks more
pub is_there : (xs ys : Row) → brings xs ys ≡ false → IsEither xs ys xs false
is_there xs ys h = record { items = sym (either_stays xs ys h); same = λ e. refl; fewer = λ e. cc }

pub is_come : (xs ys zs : Row) → brings xs ys ≡ true → has_all ys xs ≡ true → zs ≡ ys → IsEither xs ys zs true
is_come xs ys zs h all e =
    let wide = eq_of (length ys) (length xs) (first_true (nat_eq (length ys) (length xs)) (not (brings ys xs)) all) in
    let none = not_true (brings ys xs) (second_true (nat_eq (length ys) (length xs)) (not (brings ys xs)) all) in
    let is : zs ≡ either_empty xs ys = e ∙ sym (either_comes xs ys (sym wide) none) in
    record { items = is; same = λ f. cc; fewer = λ f. omega (arith, ap unmarked is, either_fewer xs ys h) }

pub is_both : (xs ys zs : Row) → brings xs ys ≡ true → zs ≡ either_empty xs ys → IsEither xs ys zs true
is_both xs ys zs h e = record { items = e; same = λ f. cc; fewer = λ f. omega (arith, ap unmarked e, either_fewer xs ys h) }

none_brought : (row : Row) → brings row [] ≡ false
none_brought [] = refl
none_brought (x ∷ row) = refl

pub brings_done : (xs ys : Row) (a : ℕ) → (a < length xs → a < length ys → ⊥) → brings (drop a xs) (drop a ys) ≡ false
brings_done [] ys zero n = refl
brings_done [] ys (suc a) n = refl
brings_done (x ∷ xs) [] zero n = refl
brings_done (x ∷ xs) [] (suc a) n = none_brought (drop a xs)
brings_done (x ∷ xs) (y ∷ ys) zero n = absurd (n (omega arith) (omega arith))
brings_done (x ∷ xs) (y ∷ ys) (suc a) n = brings_done xs ys a (λ p q. n (omega (arith, p)) (omega (arith, q)))

-- a row without a marked slot
pub none_marked : (row : Row) → any_empty row ≡ false → row ≡ none_empty (length row)
none_marked [] h = refl
none_marked (x ∷ row) h =
    let both = or_parts x (any_empty row) h in
    ap (λ b. b ∷ row) both.0 ∙ ap (λ l. false ∷ l) (none_marked row both.1)

pub either_none : (xs : Row) → either_empty xs [] ≡ xs
either_none [] = refl
either_none (x ∷ xs) = refl

same_either : (b : Bool) (xs : Row) → xs ≡ (if b then xs else xs)
same_either true xs = refl
same_either false xs = refl

-- one more slot is merged into a row
pub either_more : (xs ys : Row) (a : ℕ) (d : Bool) → a < length ys → either_empty xs (take (suc a) ys)
    ≡ (if get_or ys a d then slice_set (either_empty xs (take a ys)) a true else either_empty xs (take a ys))
either_more xs [] a d lt = absurd (omega (arith, lt))
either_more [] (y ∷ ys) a d lt = same_either (get_or (y ∷ ys) a d) []
either_more (x ∷ xs) (y ∷ ys) zero d lt = ap (λ l. (x || y) ∷ l) (either_none xs) ∙ both x y
  where
    both : (x y : Bool) → (x || y) ∷ xs ≡ (if y then true ∷ xs else x ∷ xs)
    both true true = refl
    both true false = refl
    both false true = refl
    both false false = refl
either_more (x ∷ xs) (y ∷ ys) (suc a) d lt = ap (λ l. (x || y) ∷ l) (either_more xs ys a d (omega (arith, lt))) ∙ out (get_or ys a d)
  where
    out : (b : Bool) → (x || y) ∷ (if b then slice_set (either_empty xs (take a ys)) a true else either_empty xs (take a ys))
        ≡ (if b then (x || y) ∷ slice_set (either_empty xs (take a ys)) a true else (x || y) ∷ either_empty xs (take a ys))
    out true = refl
    out false = refl

-- the order in which slots are marked does not matter
set_swap : (row : Row) (a b : ℕ) (d : Bool) → slice_set (slice_set row a d) b d ≡ slice_set (slice_set row b d) a d
set_swap [] a b d = refl
set_swap (x ∷ row) zero zero d = refl
set_swap (x ∷ row) zero (suc b) d = refl
set_swap (x ∷ row) (suc a) zero d = refl
set_swap (x ∷ row) (suc a) (suc b) d = ap (λ l. x ∷ l) (set_swap row a b d)

gone_first : (slots : List ℕ) (a : ℕ) (row : Row) → slice_set (with_gone slots row) a true ≡ with_gone slots (slice_set row a true)
gone_first [] a row = refl
gone_first (b ∷ slots) a row = set_swap (with_gone slots row) b a true ∙ ap (λ l. slice_set l b true) (gone_first slots a row)

-- one more slot is marked in a row
pub gone_on : (slots : List ℕ) (k a : ℕ) (row : Row) → slice_get slots k ≡ Some a → with_gone (drop k slots) row ≡ with_gone (drop (k + 1) slots) (slice_set row a true)
gone_on slots k a row e =
    let n : suc k ≡ k + 1 = omega arith in
    ap (λ l. with_gone l row) (drop_at slots k a e) ∙ gone_first (drop (suc k) slots) a row ∙ ap (λ j. with_gone (drop j slots) (slice_set row a true)) n

-- marking the slot of one more loan
pub lent_on : (loans : List Loan) (k : ℕ) (loan : Loan) (row : Row) → slice_get loans k ≡ Some loan → with_loans (drop k loans) row ≡ with_loans (drop (k + 1) loans) (frozen_by loan row)
lent_on loans k loan row e =
    let n : suc k ≡ k + 1 = omega arith in
    ap (λ l. with_loans l row) (drop_at loans k loan e) ∙ one loan (drop (suc k) loans) ∙ ap (λ j. with_loans (drop j loans) (frozen_by loan row)) n
  where
    one : (x : Loan) (rest : List Loan) → with_loans (x ∷ rest) row ≡ with_loans rest (frozen_by x row)
    one (Array a) rest = gone_first (slots_lent rest) a row
    one (Reader r) rest = refl

-- a test of all elements from an index on
module _ {A : Type 0} (test : A → Bool) (all : List A → Bool) (each : (x : A) (xs : List A) → all (x ∷ xs) ≡ (test x && all xs)) where
  pub all_not : (xs : List A) (k : ℕ) (x : A) → slice_get xs k ≡ Some x → test x ≡ false → all (drop k xs) ≡ false
  all_not xs k x e f = ap all (drop_at xs k x e) ∙ each x (drop (suc k) xs) ∙ first_false (test x) (all (drop (suc k) xs)) f

  pub all_on : (xs : List A) (k : ℕ) (x : A) → slice_get xs k ≡ Some x → test x ≡ true → all (drop k xs) ≡ all (drop (k + 1) xs)
  all_on xs k x e f =
      let n : suc k ≡ k + 1 = omega arith in
      ap all (drop_at xs k x e) ∙ each x (drop (suc k) xs) ∙ ap (λ b. b && all (drop (suc k) xs)) f ∙ ap (λ j. all (drop j xs)) n

-- the array slots of a list from an index on
pub arrays_not : (s : Shape) (slots : List ℕ) (k a : ℕ) → slice_get slots k ≡ Some a → has_array s a ≡ false → has_arrays s (drop k slots) ≡ false
arrays_not s slots k a e f = ap (has_arrays s) (drop_at slots k a e) ∙ first_false (has_array s a) (has_arrays s (drop (suc k) slots)) f

pub arrays_on : (s : Shape) (slots : List ℕ) (k a : ℕ) → slice_get slots k ≡ Some a → has_array s a ≡ true → has_arrays s (drop k slots) ≡ has_arrays s (drop (k + 1) slots)
arrays_on s slots k a e f =
    let n : suc k ≡ k + 1 = omega arith in
    ap (has_arrays s) (drop_at slots k a e) ∙ ap (λ b. b && has_arrays s (drop (suc k) slots)) f ∙ ap (λ j. has_arrays s (drop j slots)) n

-- a row marks none of these slots
abbrev all_full : Row → List ℕ → Bool
all_full row [] = true
all_full row (a ∷ slots) = is_full_in (slice_get row a) && all_full row slots

-- after a slot is marked, it is not full, and each other slot is unchanged
marked_full : (row : Row) (a b : ℕ) → is_full_in (slice_get row a) ≡ true → is_full_in (slice_get (slice_set row a true) b) ≡ (not (nat_eq a b) && is_full_in (slice_get row b))
marked_full row a b f =
    ⊎_elim (λ (q : a ≡ b).
    ap (λ k. is_full_in (slice_get (slice_set row a true) k)) (sym q)
    ∙ ap is_full_in (get_set row a true (row_there row a f))
    ∙ ap (λ e. not e && is_full_in (slice_get row b)) (sym (equal a b q)))
    (λ (q : a ≡ b → ⊥). ap is_full_in (set_other row a b true (λ e. q (sym e))) ∙ ap (λ e. not e && is_full_in (slice_get row b)) (sym (not_equal a b q)))
    (cases_eq a b)

all_marked : (row : Row) (a : ℕ) (slots : List ℕ) → is_full_in (slice_get row a) ≡ true → all_full (slice_set row a true) slots ≡ (is_none_of a slots && all_full row slots)
all_marked row a [] f = refl
all_marked row a (b ∷ slots) f =
    ap (λ x. x && all_full (slice_set row a true) slots) (marked_full row a b f)
    ∙ ap (λ x. (not (nat_eq a b) && is_full_in (slice_get row b)) && x) (all_marked row a slots f)
    ∙ four_and (not (nat_eq a b)) (is_full_in (slice_get row b)) (is_none_of a slots) (all_full row slots)

three : (n r m : Bool) → ((n && r) && m) ≡ (r && (n && m))
three true r m = refl
three false true m = refl
three false false m = refl

-- slots can be marked one at a time if they are full and none occurs twice
unmarked_named : (row : Row) (slots : List ℕ) → are_unmarked row slots ≡ (all_full row slots && names_arrays (length row) slots)
unmarked_named row [] = refl
unmarked_named row (a ∷ slots) = at (is_full_in (slice_get row a)) refl (unmarked_named (slice_set row a true) slots)
  where
    at : (b : Bool) → is_full_in (slice_get row a) ≡ b → are_unmarked (slice_set row a true) slots ≡ (all_full (slice_set row a true) slots && names_arrays (length (slice_set row a true)) slots) →
        (b && are_unmarked (slice_set row a true) slots) ≡ ((b && all_full row slots) && (nat_lt a (length row) && (is_none_of a slots && names_arrays (length row) slots)))
    at false f h = refl
    at true f h =
        h
        ∙ ap (λ n. all_full (slice_set row a true) slots && names_arrays n slots) (length-set row a true)
        ∙ ap (λ x. x && names_arrays (length row) slots) (all_marked row a slots f)
        ∙ three (is_none_of a slots) (all_full row slots) (names_arrays (length row) slots)
        ∙ ap (λ x. all_full row slots && (x && (is_none_of a slots && names_arrays (length row) slots))) (sym (below a (length row) (row_there row a f)))

none_full : (n a : ℕ) → a < n → is_full_in (slice_get (none_empty n) a) ≡ true
none_full zero a lt = absurd (omega (arith, lt))
none_full (suc n) zero lt = refl
none_full (suc n) (suc a) lt = none_full n a (omega (arith, lt))

named_full : (n : ℕ) (slots : List ℕ) → names_arrays n slots ≡ true → all_full (none_empty n) slots ≡ true
named_full n [] h = refl
named_full n (a ∷ slots) h =
    let rest = second_true (nat_lt a n) (is_none_of a slots && names_arrays n slots) h in
    both_true (is_full_in (slice_get (none_empty n) a)) (all_full (none_empty n) slots) (none_full n a (lt_of a n (first_true (nat_lt a n) (is_none_of a slots && names_arrays n slots) h)))
    (named_full n slots (second_true (is_none_of a slots) (names_arrays n slots) rest))

-- in a row of `n` slots without a mark, slots are unmarked exactly if they are distinct slots below `n`
pub unmarked_from_none : (n : ℕ) (slots : List ℕ) → are_unmarked (none_empty n) slots ≡ names_arrays n slots
unmarked_from_none n slots =
    unmarked_named (none_empty n) slots ∙ ap (λ m. all_full (none_empty n) slots && names_arrays m slots) (length-replicate n false) ∙ at (names_arrays n slots) refl
  where
    at : (b : Bool) → names_arrays n slots ≡ b → (all_full (none_empty n) slots && b) ≡ b
    at false e = second_false (all_full (none_empty n) slots) false refl
    at true e = both_true (all_full (none_empty n) slots) true (named_full n slots e) refl
