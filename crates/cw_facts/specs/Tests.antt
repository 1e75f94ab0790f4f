-- Booleans and tests on numbers: the result of a test if a fact holds, and the fact that holds for a result.
use Rattle.std.proofs.Common.{◌≡◌, ◌==◌, ℕ, suc, ◌+◌, ◌<◌, Bool, true, false, ◌&&◌, ◌||◌, nat_eq, refl, arith}
use Rattle.std.proofs.lemmas.Bool.Decides.{nat_tests}
-- `a && b` is true if both are; it is false if the first is, or if the second is
pub use Rattle.std.proofs.lemmas.Bool.{and_from as both_true, and_left as first_false, and_right as second_false}
-- a conditional returns its first branch if its test is true, otherwise its second branch
pub use Rattle.std.proofs.lemmas.Bool.{cond-true as taken, cond-false as not_taken}
pub use Rattle.std.proofs.lemmas.Bool.{not-true as not_true}
-- a disjunction is true if the first is, or if the second is; a test is false if it cannot be true
pub use Rattle.std.proofs.lemmas.Bool.{or_left as either_left, or_right as either_right, false_from_ne_true as refuted}
-- the test on `a` and `b` returns true, or false
pub use Rattle.std.proofs.lemmas.Bool.{le-leb as at_most, lt-leb as not_at_most, lt-ltb as below, le-ltb as not_below, eq-eqb as equal, ne_eqb as not_equal}
-- the fact about `a` and `b` if the test returns true, or false
pub use Rattle.std.proofs.lemmas.Bool.{leb-true as le_of, leb-false as not_le_of, ltb-true as lt_of, ltb-false as not_lt_of, eqb-true as eq_of, eqb-false as ne_of}

pub first_true : (a b : Bool) → (a && b) ≡ true → a ≡ true
first_true true b h = refl
first_true false b h = h

pub second_true : (a b : Bool) → (a && b) ≡ true → b ≡ true
second_true true b h = h
second_true false b h = cc

pub neither_first : (a b : Bool) → (a || b) ≡ false → a ≡ false
neither_first true b h = h
neither_first false b h = refl

pub neither_second : (a b : Bool) → (a || b) ≡ false → b ≡ false
neither_second true b h = cc
neither_second false b h = h

pub less_differs : (a b : ℕ) → a < b → nat_eq a b ≡ false
less_differs a b h = grind (arith, nat_tests)

pub less_where_it_differs : (a b : ℕ) → b < a + 1 → nat_eq a b ≡ false → b < a
less_where_it_differs a b h e = grind (arith, nat_tests)

pub suc_same : (m n : ℕ) → (suc m == suc n) ≡ (m == n)
suc_same m n = grind (arith, nat_tests)

pub suc_not : (m : ℕ) → (suc m == 0) ≡ false
suc_not m = grind (arith, nat_tests)

pub not_suc : (m : ℕ) → (0 == suc m) ≡ false
not_suc m = grind (arith, nat_tests)

pub never : {A : Type 0} (b : Bool) → b ≡ true → b ≡ false → A
never true h g = absurd cc
never false h g = absurd cc

-- whether a Boolean is true or false
pub data TrueOrFalse (b : Bool) : Type 0 where
  yes_is : b ≡ true → TrueOrFalse b
  no_is : b ≡ false → TrueOrFalse b

pub told : (b : Bool) → TrueOrFalse b
told true = yes_is refl
told false = no_is refl

pub four_and : (a b c d : Bool) → ((a && b) && (c && d)) ≡ ((a && c) && (b && d))
four_and false b c d = refl
four_and true false true d = refl
four_and true false false d = refl
four_and true true c d = refl
