-- Array slots, some of which are only read, and their places in the code.
use Rattle.std.proofs.Common.{◌≡◌, ◌≢◌, ℕ, zero, suc, ◌+◌, ◌<◌, ◌≤◌, List, [], ◌∷◌, ◌++◌, length, Bool, true, false, Option, Some, None, refl, sym, ap, ◌∙◌, arith, ℤ}
use Rattle.std.specs.Prelude.{slice_get, slice_set, map}
use Rattle.cw_code.specs.declared.code.Loan.{Loan}
use Rattle.cw_code.specs.declared.code.Loan.TheVariants as loan
use Rattle.cw_code.specs.Run as run
use Rattle.cw_code.specs.Run.{Slots, Results, Readers, Whole, Part, slot_taken, reader, loaned, full, settled, moved_out, and_array, and_result, arrays_in, given_back, parts_of}
use Rattle.cw_gen.specs.Marks.{Marks, place_of, behind_place, number_of, array_at, readers_in}

-- the slots that are not only read
abbrev pub owned : {X : Type 0} → Marks → List X → List X
owned [] xs = xs
owned (m ∷ marks) [] = []
owned (true ∷ marks) (x ∷ xs) = owned marks xs
owned (false ∷ marks) (x ∷ xs) = x ∷ owned marks xs

-- the slots that are only read
abbrev pub lent : {X : Type 0} → Marks → List X → List X
lent [] xs = []
lent (m ∷ marks) [] = []
lent (true ∷ marks) (x ∷ xs) = x ∷ lent marks xs
lent (false ∷ marks) (x ∷ xs) = lent marks xs

-- the value of a slot; the empty list if it is empty
abbrev pub filled : Option (List ℤ) → List ℤ
filled None = []
filled (Some xs) = xs

-- the arrays that a call only reads
abbrev pub read_in : Marks → Slots (List ℤ) → Readers
read_in marks slots = map filled (lent marks slots)

-- whether a slot is only read
abbrev pub is_read : Marks → ℕ → Bool
is_read [] s = false
is_read (m ∷ marks) zero = m
is_read (m ∷ marks) (suc s) = is_read marks s

-- a slot that is not only read
abbrev pub IsOwn : Marks → ℕ → Type 0
IsOwn marks s = is_read marks s ≡ false

pub place_own : (marks : Marks) (s : ℕ) → IsOwn marks s → place_of marks s ≡ loan.Array (array_at marks s)
place_own [] s h = refl
place_own (true ∷ marks) zero h = cc
place_own (false ∷ marks) zero h = refl
place_own (true ∷ marks) (suc s) h = test (place_of marks s) (place_own marks s h)
  where
    test : (l : Loan) → l ≡ loan.Array (number_of l) → behind_place true l ≡ loan.Array (number_of (behind_place true l))
    test (loan.Array a) e = refl
    test (loan.Reader r) e = cc
place_own (false ∷ marks) (suc s) h = test (place_of marks s) (place_own marks s h)
  where
    test : (l : Loan) → l ≡ loan.Array (number_of l) → behind_place false l ≡ loan.Array (number_of (behind_place false l))
    test (loan.Array a) e = refl
    test (loan.Reader r) e = cc

pub place_read : (marks : Marks) (s : ℕ) → is_read marks s ≡ true → place_of marks s ≡ loan.Reader (array_at marks s)
place_read [] s h = cc
place_read (true ∷ marks) zero h = refl
place_read (false ∷ marks) zero h = cc
place_read (true ∷ marks) (suc s) h = test (place_of marks s) (place_read marks s h)
  where
    test : (l : Loan) → l ≡ loan.Reader (number_of l) → behind_place true l ≡ loan.Reader (number_of (behind_place true l))
    test (loan.Array a) e = cc
    test (loan.Reader r) e = refl
place_read (false ∷ marks) (suc s) h = test (place_of marks s) (place_read marks s h)
  where
    test : (l : Loan) → l ≡ loan.Reader (number_of l) → behind_place false l ≡ loan.Reader (number_of (behind_place false l))
    test (loan.Array a) e = cc
    test (loan.Reader r) e = refl

-- the number of a slot that is not only read, after a marked slot
pub at_read : (marks : Marks) (s : ℕ) → IsOwn marks s → array_at (true ∷ marks) (suc s) ≡ array_at marks s
at_read marks s h = ap (λ l. number_of (behind_place true l)) (place_own marks s h)

pub at_own : (marks : Marks) (s : ℕ) → IsOwn marks s → array_at (false ∷ marks) (suc s) ≡ suc (array_at marks s)
at_own marks s h = ap (λ l. number_of (behind_place false l)) (place_own marks s h)

-- the number of a slot that is only read, after a marked slot
at_read_read : (marks : Marks) (s : ℕ) → is_read marks s ≡ true → array_at (true ∷ marks) (suc s) ≡ suc (array_at marks s)
at_read_read marks s h = ap (λ l. number_of (behind_place true l)) (place_read marks s h)

at_own_read : (marks : Marks) (s : ℕ) → is_read marks s ≡ true → array_at (false ∷ marks) (suc s) ≡ array_at marks s
at_own_read marks s h = ap (λ l. number_of (behind_place false l)) (place_read marks s h)

-- there is a reader for each slot that is only read
pub read_below : (marks : Marks) (s : ℕ) → is_read marks s ≡ true → array_at marks s < readers_in marks
read_below [] s h = cc
read_below (true ∷ marks) zero h = omega arith
read_below (false ∷ marks) zero h = cc
read_below (true ∷ marks) (suc s) h = omega (arith, read_below marks s h, at_read_read marks s h)
read_below (false ∷ marks) (suc s) h = omega (arith, read_below marks s h, at_own_read marks s h)

-- the value of a slot that is not only read
pub get_owned : {X : Type 0} (marks : Marks) (s : ℕ) (xs : List X) → IsOwn marks s → slice_get (owned marks xs) (array_at marks s) ≡ slice_get xs s
get_owned [] s xs h = refl
get_owned (true ∷ marks) zero xs h = cc
get_owned (false ∷ marks) zero [] h = refl
get_owned (false ∷ marks) zero (x ∷ xs) h = refl
get_owned (true ∷ marks) (suc s) [] h = refl
get_owned (false ∷ marks) (suc s) [] h = refl
get_owned (true ∷ marks) (suc s) (x ∷ xs) h = ap (slice_get (owned marks xs)) (at_read marks s h) ∙ get_owned marks s xs h
get_owned (false ∷ marks) (suc s) (x ∷ xs) h = ap (slice_get (x ∷ owned marks xs)) (at_own marks s h) ∙ get_owned marks s xs h

-- writing a slot that is not only read
pub set_owned : {X : Type 0} (marks : Marks) (s : ℕ) (x : X) (xs : List X) → IsOwn marks s → owned marks (slice_set xs s x) ≡ slice_set (owned marks xs) (array_at marks s) x
set_owned [] s x xs h = refl
set_owned (true ∷ marks) zero x xs h = cc
set_owned (false ∷ marks) zero x [] h = refl
set_owned (false ∷ marks) zero x (y ∷ xs) h = refl
set_owned (true ∷ marks) (suc s) x [] h = refl
set_owned (false ∷ marks) (suc s) x [] h = refl
set_owned (true ∷ marks) (suc s) x (y ∷ xs) h = set_owned marks s x xs h ∙ ap (λ n. slice_set (owned marks xs) n x) (sym (at_read marks s h))
set_owned (false ∷ marks) (suc s) x (y ∷ xs) h = ap (λ l. y ∷ l) (set_owned marks s x xs h) ∙ ap (λ n. slice_set (y ∷ owned marks xs) n x) (sym (at_own marks s h))

-- writing a slot that is not only read keeps the slots that are only read
pub set_lent : {X : Type 0} (marks : Marks) (s : ℕ) (x : X) (xs : List X) → IsOwn marks s → lent marks (slice_set xs s x) ≡ lent marks xs
set_lent [] s x xs h = refl
set_lent (true ∷ marks) zero x xs h = cc
set_lent (false ∷ marks) zero x [] h = refl
set_lent (false ∷ marks) zero x (y ∷ xs) h = refl
set_lent (true ∷ marks) (suc s) x [] h = refl
set_lent (false ∷ marks) (suc s) x [] h = refl
set_lent (true ∷ marks) (suc s) x (y ∷ xs) h = ap (λ l. y ∷ l) (set_lent marks s x xs h)
set_lent (false ∷ marks) (suc s) x (y ∷ xs) h = set_lent marks s x xs h

pub set_read : (marks : Marks) (s : ℕ) (x : Option (List ℤ)) (xs : Slots (List ℤ)) → IsOwn marks s → read_in marks (slice_set xs s x) ≡ read_in marks xs
set_read marks s x xs h = ap (map filled) (set_lent marks s x xs h)

-- the value of a slot that is only read
pub get_read : (marks : Marks) (s : ℕ) (xs : Slots (List ℤ)) (v : List ℤ) → is_read marks s ≡ true → slice_get xs s ≡ Some (Some v) → reader (read_in marks xs) (array_at marks s) ≡ Some (Some v)
get_read [] s xs v h is = cc
get_read (false ∷ marks) zero xs v h is = cc
get_read (m ∷ marks) zero [] v h is = cc
get_read (true ∷ marks) zero (x ∷ xs) v h is = cc
get_read (m ∷ marks) (suc s) [] v h is = cc
get_read (true ∷ marks) (suc s) (x ∷ xs) v h is = ap (reader (filled x ∷ read_in marks xs)) (at_read_read marks s h) ∙ get_read marks s xs v h is
get_read (false ∷ marks) (suc s) (x ∷ xs) v h is = ap (reader (read_in marks xs)) (at_own_read marks s h) ∙ get_read marks s xs v h is

-- distinct slots have distinct numbers
pub at_apart : (marks : Marks) (s t : ℕ) → IsOwn marks s → IsOwn marks t → s ≢ t → array_at marks s ≢ array_at marks t
at_apart [] s t h k other = other
at_apart (m ∷ marks) zero zero h k other = λ e. other refl
at_apart (true ∷ marks) zero (suc t) h k other = cc
at_apart (false ∷ marks) zero (suc t) h k other = λ e. omega (arith, e ∙ at_own marks t k)
at_apart (true ∷ marks) (suc s) zero h k other = λ e. absurd cc
at_apart (false ∷ marks) (suc s) zero h k other = λ e. omega (arith, sym (at_own marks s h) ∙ e)
at_apart (true ∷ marks) (suc s) (suc t) h k other = λ e. at_apart marks s t h k (λ q. other (ap suc q)) (sym (at_read marks s h) ∙ e ∙ at_read marks t k)
at_apart (false ∷ marks) (suc s) (suc t) h k other =
    λ e. at_apart marks s t h k (λ q. other (ap suc q)) (same (sym (at_own marks s h) ∙ e ∙ at_own marks t k))
  where
    same : {a b : ℕ} → suc a ≡ suc b → a ≡ b
    same e = omega (arith, e)

-- waiting results, with the numbers of the code
abbrev pub marked_results : {X : Type 0} → Marks → Results X → Results X
marked_results marks [] = []
marked_results marks (r ∷ results) = (array_at marks r.0, r.1) ∷ marked_results marks results

-- no result waits for a slot that is only read
abbrev pub AllOwn : {X : Type 0} → Marks → Results X → Type 0
AllOwn marks [] = Unit {0}
AllOwn marks (r ∷ results) = IsOwn marks r.0 × AllOwn marks results

pub both_own : {X : Type 0} (marks : Marks) (a b : Results X) → AllOwn marks a → AllOwn marks b → AllOwn marks (a ++ b)
both_own marks [] b h k = k
both_own marks (r ∷ a) b h k = (h.0, both_own marks a b h.1 k)

pub told_both : {X : Type 0} (marks : Marks) (a b : Results X) → marked_results marks (a ++ b) ≡ marked_results marks a ++ marked_results marks b
told_both marks [] b = refl
told_both marks (r ∷ a) b = ap (λ l. (array_at marks r.0, r.1) ∷ l) (told_both marks a b)

-- a join settles the slots that are not only read
pub settle_owned : {X : Type 0} (marks : Marks) (results : Results X) (slots : Slots X) → AllOwn marks results
    → owned marks (settled results slots) ≡ settled (marked_results marks results) (owned marks slots)
settle_owned marks [] slots h = refl
settle_owned marks (r ∷ results) slots h =
    settle_owned marks results (slice_set slots r.0 (Some r.1)) h.1 ∙ ap (settled (marked_results marks results)) (set_owned marks r.0 (Some r.1) slots h.0)

pub settle_read : (marks : Marks) (results : Results (List ℤ)) (slots : Slots (List ℤ)) → AllOwn marks results → read_in marks (settled results slots) ≡ read_in marks slots
settle_read marks [] slots h = refl
settle_read marks (r ∷ results) slots h = settle_read marks results (slice_set slots r.0 (Some r.1)) h.1 ∙ set_read marks r.0 (Some r.1) slots h.0

-- none of these slots is only read
abbrev pub OwnSlots : Marks → List ℕ → Type 0
OwnSlots marks [] = Unit {0}
OwnSlots marks (s ∷ slots) = IsOwn marks s × OwnSlots marks slots

abbrev pub numbers_at : Marks → List ℕ → List ℕ
numbers_at marks slots = map (array_at marks) slots

-- arrays are moved out of the slots that are not only read
pub move_owned : {X : Type 0} (marks : Marks) (given : List ℕ) (slots : Slots X) → OwnSlots marks given → owned marks (moved_out given slots) ≡ moved_out (numbers_at marks given) (owned marks slots)
move_owned marks [] slots h = refl
move_owned marks (s ∷ given) slots h = set_owned marks s None (moved_out given slots) h.0 ∙ ap (λ l. slice_set l (array_at marks s) None) (move_owned marks given slots h.1)

pub move_read : (marks : Marks) (given : List ℕ) (slots : Slots (List ℤ)) → OwnSlots marks given → read_in marks (moved_out given slots) ≡ read_in marks slots
move_read marks [] slots h = refl
move_read marks (s ∷ given) slots h = set_read marks s None (moved_out given slots) h.0 ∙ move_read marks given slots h.1

-- full slots, with more full slots after them
pub owned_full : (marks : Marks) (xss more : List (List ℤ)) → length marks ≤ length xss → owned marks (full (xss ++ more)) ≡ full (owned marks xss ++ more)
owned_full [] xss more h = refl
owned_full (m ∷ marks) [] more h = absurd (omega (arith, h))
owned_full (true ∷ marks) (xs ∷ xss) more h = owned_full marks xss more (omega (arith, h))
owned_full (false ∷ marks) (xs ∷ xss) more h = ap (λ l. Some xs ∷ l) (owned_full marks xss more (omega (arith, h)))

pub read_full : (marks : Marks) (xss more : List (List ℤ)) → length marks ≤ length xss → read_in marks (full (xss ++ more)) ≡ lent marks xss
read_full [] xss more h = refl
read_full (m ∷ marks) [] more h = absurd (omega (arith, h))
read_full (true ∷ marks) (xs ∷ xss) more h = ap (λ l. xs ∷ l) (read_full marks xss more (omega (arith, h)))
read_full (false ∷ marks) (xs ∷ xss) more h = read_full marks xss more (omega (arith, h))

-- the number of slots that are not only read
pub length_owned : {X : Type 0} (marks : Marks) (xs : List X) → length marks ≤ length xs → length (owned marks xs) + readers_in marks ≡ length xs
length_owned [] xs h = omega arith
length_owned (m ∷ marks) [] h = absurd (omega (arith, h))
length_owned (true ∷ marks) (x ∷ xs) h = omega (arith, length_owned marks xs (omega (arith, h)))
length_owned (false ∷ marks) (x ∷ xs) h = omega (arith, length_owned marks xs (omega (arith, h)))

pub length_lent : {X : Type 0} (marks : Marks) (xs : List X) → length marks ≤ length xs → length (lent marks xs) ≡ readers_in marks
length_lent [] xs h = refl
length_lent (m ∷ marks) [] h = absurd (omega (arith, h))
length_lent (true ∷ marks) (x ∷ xs) h = ap suc (length_lent marks xs (omega (arith, h)))
length_lent (false ∷ marks) (x ∷ xs) h = length_lent marks xs (omega (arith, h))

-- a slot after all marked slots is not only read
pub own_behind : (marks : Marks) (s : ℕ) → length marks ≤ s → IsOwn marks s
own_behind [] s h = refl
own_behind (m ∷ marks) zero h = absurd (omega (arith, h))
own_behind (m ∷ marks) (suc s) h = own_behind marks s (omega (arith, h))

-- the number of a slot after the marked slots: reduced by the number of readers
pub at_behind : (marks : Marks) (s : ℕ) → length marks ≤ s → array_at marks s + readers_in marks ≡ s
at_behind [] s h = omega arith
at_behind (m ∷ marks) zero h = absurd (omega (arith, h))
at_behind (true ∷ marks) (suc s) h =
    let h' : length marks ≤ s = omega (arith, h) in
    omega (arith, at_behind marks s h', at_read marks s (own_behind marks s h'))
at_behind (false ∷ marks) (suc s) h =
    let h' : length marks ≤ s = omega (arith, h) in
    omega (arith, at_behind marks s h', at_own marks s (own_behind marks s h'))

-- bounds of the numbers of array slots
pub at_within : {X : Type 0} (marks : Marks) (s : ℕ) (xs : List X) → IsOwn marks s → s < length xs → array_at marks s < length (owned marks xs)
at_within [] s xs h within = within
at_within (m ∷ marks) s [] h within = absurd (omega (arith, within))
at_within (true ∷ marks) zero (x ∷ xs) h within = cc
at_within (false ∷ marks) zero (x ∷ xs) h within = omega arith
at_within (true ∷ marks) (suc s) (x ∷ xs) h within = omega (arith, at_within marks s xs h (omega (arith, within)), at_read marks s h)
at_within (false ∷ marks) (suc s) (x ∷ xs) h within = omega (arith, at_within marks s xs h (omega (arith, within)), at_own marks s h)

-- a call takes its arrays
pub in_owned : (marks : Marks) (given : List ℕ) (slots : Slots (List ℤ)) → OwnSlots marks given → arrays_in (numbers_at marks given) (owned marks slots) ≡ arrays_in given slots
in_owned marks [] slots h = refl
in_owned marks (s ∷ given) slots h =
    ap (λ l. and_array (slice_get l (array_at marks s)) (arrays_in (numbers_at marks given) (owned marks slots))) (sym (move_owned marks given slots h.1))
    ∙ ap (λ o. and_array o (arrays_in (numbers_at marks given) (owned marks slots))) (get_owned marks s (moved_out given slots) h.0)
    ∙ ap (and_array (slice_get (moved_out given slots) s)) (in_owned marks given slots h.1)

-- the arrays that a call took, with the numbers of the code
abbrev pub taken_at : Marks → run.Taken → run.Taken
taken_at marks (Whole a) = Whole (array_at marks a)
taken_at marks (Part a from whole) = Part (array_at marks a) from whole

pub slots_told : (marks : Marks) (outs : List run.Taken) → map slot_taken (map (taken_at marks) outs) ≡ numbers_at marks (map slot_taken outs)
slots_told marks [] = refl
slots_told marks (Whole a ∷ outs) = ap (λ l. array_at marks a ∷ l) (slots_told marks outs)
slots_told marks (Part a from whole ∷ outs) = ap (λ l. array_at marks a ∷ l) (slots_told marks outs)

pub wholes_told : (marks : Marks) (given : List ℕ) → map (λ a. Whole a) (numbers_at marks given) ≡ map (taken_at marks) (map (λ a. Whole a) given)
wholes_told marks [] = refl
wholes_told marks (s ∷ given) = ap (λ l. Whole (array_at marks s) ∷ l) (wholes_told marks given)

pub parts_told : (marks : Marks) (from : ℕ) (given : List ℕ) (xss : List (List ℤ)) → parts_of from (numbers_at marks given) xss ≡ map (taken_at marks) (parts_of from given xss)
parts_told marks from [] xss = refl
parts_told marks from (s ∷ given) [] = refl
parts_told marks from (s ∷ given) (xs ∷ xss) = ap (λ l. Part (array_at marks s) from xs ∷ l) (parts_told marks from given xss)

-- the arrays that a call returns, with the numbers of the code
abbrev pub told_all : Marks → Option (Results (List ℤ)) → Option (Results (List ℤ))
told_all marks None = None
told_all marks (Some results) = Some (marked_results marks results)

pub given_told : (marks : Marks) (outs : List run.Taken) (slots : Slots (List ℤ)) → given_back (map (taken_at marks) outs) slots ≡ told_all marks (given_back outs slots)
given_told marks [] slots = refl
given_told marks (x ∷ outs) [] = refl
given_told marks (x ∷ outs) (o ∷ slots) = ap (and_result (taken_at marks x) o) (given_told marks outs slots) ∙ one x o (given_back outs slots)
  where
    one : (x : run.Taken) (o : Option (List ℤ)) (r : Option (Results (List ℤ))) → and_result (taken_at marks x) o (told_all marks r) ≡ told_all marks (and_result x o r)
    one (Whole a) None None = refl
    one (Whole a) None (Some r) = refl
    one (Whole a) (Some xs) None = refl
    one (Whole a) (Some xs) (Some r) = refl
    one (Part a from whole) None None = refl
    one (Part a from whole) None (Some r) = refl
    one (Part a from whole) (Some xs) None = refl
    one (Part a from whole) (Some xs) (Some r) = refl

-- an array that a call lends and does not also take
pub loan_found : (marks : Marks) (given : List ℕ) (s : ℕ) (slots : Slots (List ℤ)) (v : List ℤ) → OwnSlots marks given → slice_get (moved_out given slots) s ≡ Some (Some v) →
    loaned (place_of marks s) (moved_out (numbers_at marks given) (owned marks slots)) (read_in marks slots) ≡ Some (Some v)
loan_found marks given s slots v h is = test (is_read marks s) refl
  where
    arrays : Slots (List ℤ)
    arrays = moved_out (numbers_at marks given) (owned marks slots)

    test : (b : Bool) → is_read marks s ≡ b → loaned (place_of marks s) arrays (read_in marks slots) ≡ Some (Some v)
    test true e =
        ap (λ l. loaned l arrays (read_in marks slots)) (place_read marks s e)
        ∙ ap (λ r. reader r (array_at marks s)) (sym (move_read marks given slots h))
        ∙ get_read marks s (moved_out given slots) v e is
    test false e =
        ap (λ l. loaned l arrays (read_in marks slots)) (place_own marks s e)
        ∙ ap (λ l. slice_get l (array_at marks s)) (sym (move_owned marks given slots h))
        ∙ get_owned marks s (moved_out given slots) e
        ∙ is

-- the returned and the waiting arrays, concatenated
pub told_more : (marks : Marks) (back arrived : Results (List ℤ)) → marked_results marks back ++ marked_results marks arrived ≡ marked_results marks (back ++ arrived)
told_more marks back arrived = sym (told_both marks back arrived)
