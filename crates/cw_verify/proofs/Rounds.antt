-- Facts about merged blocks.
use Rattle.std.proofs.Common.{◌≡◌, ◌<◌, ◌≤◌, Bool, true, false, ◌||◌, nat_eq, List, [], ◌∷◌, refl, sym, ap, ◌∙◌, arith}
use Rattle.std.proofs.lemmas.Bool.{or_parts}
use Rattle.cw_facts.specs.Tests.{first_true, second_true}
use Rattle.cw_code.specs.Fits.{Outer, Shape}
use Rattle.cw_verify.specs.Table.{blocks_of, can_meet, either_empty, either_round, either_each, brings, round_brings, each_brings, is_alike, are_alike, unmarked_round, unmarked_each, IsEach}
use Rattle.cw_verify.proofs.SlotMarks.{either_stays, either_within, either_fewer, either_comes}
use Rattle.cw_verify.proofs.Tables.{alike}

-- a merge with a block that marks no more leaves the block unchanged
round_stays : (x y : Outer) → round_brings x y ≡ false → either_round x y ≡ x
round_stays x y h =
    let both = or_parts (brings x.empty y.empty) (brings x.gone y.gone || brings x.frozen y.frozen) h in
    let rest = or_parts (brings x.gone y.gone) (brings x.frozen y.frozen) both.1 in
    ap (λ r. record { empty = r; gone = either_empty x.gone y.gone; frozen = either_empty x.frozen y.frozen; cut = x.cut }) (either_stays x.empty y.empty both.0)
    ∙ ap (λ r. record { empty = x.empty; gone = r; frozen = either_empty x.frozen y.frozen; cut = x.cut }) (either_stays x.gone y.gone rest.0)
    ∙ ap (λ r. record { empty = x.empty; gone = x.gone; frozen = r; cut = x.cut }) (either_stays x.frozen y.frozen rest.1)

pub each_stays : (xs ys : List Outer) → each_brings xs ys ≡ false → either_each xs ys ≡ xs
each_stays [] ys h = refl
each_stays (x ∷ xs) [] h = refl
each_stays (x ∷ xs) (y ∷ ys) h =
    let both = or_parts (round_brings x y) (each_brings xs ys) h in
    ap (λ l. either_round x y ∷ l) (each_stays xs ys both.1) ∙ ap (λ r. r ∷ xs) (round_stays x y both.0)

-- a merge leaves no more slots unmarked, and fewer if the second block marks more
round_within : (x y : Outer) → unmarked_round (either_round x y) ≤ unmarked_round x
round_within x y = omega (arith, either_within x.empty y.empty, either_within x.gone y.gone, either_within x.frozen y.frozen)

round_fewer : (x y : Outer) → round_brings x y ≡ true → unmarked_round (either_round x y) < unmarked_round x
round_fewer x y = cases (brings x.empty y.empty) (brings x.gone y.gone) refl refl
  where
    cases : (b d : Bool) → brings x.empty y.empty ≡ b → brings x.gone y.gone ≡ d → (b || (d || brings x.frozen y.frozen)) ≡ true → unmarked_round (either_round x y) < unmarked_round x
    cases true d e e' h = omega (arith, either_fewer x.empty y.empty e, either_within x.gone y.gone, either_within x.frozen y.frozen)
    cases false true e e' h = omega (arith, either_within x.empty y.empty, either_fewer x.gone y.gone e', either_within x.frozen y.frozen)
    cases false false e e' h = omega (arith, either_within x.empty y.empty, either_within x.gone y.gone, either_fewer x.frozen y.frozen h)

each_within : (xs ys : List Outer) → unmarked_each (either_each xs ys) ≤ unmarked_each xs
each_within [] ys = omega arith
each_within (x ∷ xs) [] = omega arith
each_within (x ∷ xs) (y ∷ ys) = omega (arith, round_within x y, each_within xs ys)

one_fewer : (x y : Outer) (xs ys : List Outer) (b : Bool) → round_brings x y ≡ b → (b || each_brings xs ys) ≡ true → (each_brings xs ys ≡ true → unmarked_each (either_each xs ys) < unmarked_each xs) →
    unmarked_each (either_each (x ∷ xs) (y ∷ ys)) < unmarked_each (x ∷ xs)
one_fewer x y xs ys true e h rest = omega (arith, round_fewer x y e, each_within xs ys)
one_fewer x y xs ys false e h rest = omega (arith, round_within x y, rest h)

pub each_fewer : (xs ys : List Outer) → each_brings xs ys ≡ true → unmarked_each (either_each xs ys) < unmarked_each xs
each_fewer [] ys h = cc
each_fewer (x ∷ xs) [] h = cc
each_fewer (x ∷ xs) (y ∷ ys) h = one_fewer x y xs ys (round_brings x y) refl h (each_fewer xs ys)

-- if the new block marks everything that the old one marks, it is the merged block
round_comes : (x y : Outer) → is_alike x y ≡ true → round_brings y x ≡ false → either_round x y ≡ y
round_comes x y e h =
    let a = alike x y e in
    let both = or_parts (brings y.empty x.empty) (brings y.gone x.gone || brings y.frozen x.frozen) h in
    let rest = or_parts (brings y.gone x.gone) (brings y.frozen x.frozen) both.1 in
    ap (λ r. record { empty = r; gone = either_empty x.gone y.gone; frozen = either_empty x.frozen y.frozen; cut = x.cut }) (either_comes x.empty y.empty a.as_wide both.0)
    ∙ ap (λ r. record { empty = y.empty; gone = r; frozen = either_empty x.frozen y.frozen; cut = x.cut }) (either_comes x.gone y.gone a.as_wide_gone rest.0)
    ∙ ap (λ r. record { empty = y.empty; gone = y.gone; frozen = r; cut = x.cut }) (either_comes x.frozen y.frozen a.as_wide_frozen rest.1)
    ∙ ap (λ c. record { empty = y.empty; gone = y.gone; frozen = y.frozen; cut = c }) a.same

pub each_comes : (xs ys : List Outer) → are_alike xs ys ≡ true → each_brings ys xs ≡ false → either_each xs ys ≡ ys
each_comes [] [] e h = refl
each_comes [] (y ∷ ys) e h = cc
each_comes (x ∷ xs) [] e h = cc
each_comes (x ∷ xs) (y ∷ ys) e h =
    let both = or_parts (round_brings y x) (each_brings ys xs) h in
    ap (λ l. either_round x y ∷ l) (each_comes xs ys (second_true (is_alike x y) (are_alike xs ys) e) both.1)
    ∙ ap (λ r. r ∷ ys) (round_comes x y (first_true (is_alike x y) (are_alike xs ys) e) both.0)

-- blocks merged according to how they meet
pub are_there : (xs ys : List Outer) → each_brings xs ys ≡ false → IsEach xs ys xs false
are_there xs ys h = record { items = sym (each_stays xs ys h); same = λ e. refl; fewer = λ e. cc }

pub are_come : (xs ys zs : List Outer) → each_brings xs ys ≡ true → are_alike xs ys ≡ true → each_brings ys xs ≡ false → zs ≡ ys → IsEach xs ys zs true
are_come xs ys zs h alike none e =
    let is : zs ≡ either_each xs ys = e ∙ sym (each_comes xs ys alike none) in
    record { items = is; same = λ f. cc; fewer = λ f. omega (arith, ap unmarked_each is, each_fewer xs ys h) }

pub are_both : (xs ys zs : List Outer) → each_brings xs ys ≡ true → zs ≡ either_each xs ys → IsEach xs ys zs true
are_both xs ys zs h e = record { items = e; same = λ f. cc; fewer = λ f. omega (arith, ap unmarked_each e, each_fewer xs ys h) }

-- if two shapes can be merged, their enclosing blocks are alike
pub meet_alike : (t s : Shape) → can_meet t s ≡ true → are_alike t.outer s.outer ≡ true
meet_alike t s h =
    let blocks = second_true (nat_eq t.operands s.operands) (are_alike (blocks_of t) (blocks_of s)) h in
    second_true _ (are_alike t.outer s.outer) blocks
