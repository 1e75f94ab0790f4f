-- Numbers for lists of enclosing blocks.
use Rattle.std.proofs.Common.{◌≡◌, ◌⊎◌, inl, inr, ⊎_elim, ℕ, zero, suc, ◌<◌, ◌≤◌, Bool, true, false, ◌||◌, if◌then◌else◌, nat_eq, List, [], ◌∷◌, Some, None, refl, sym, ap, subst, ◌∙◌, arith}
use Rattle.std.specs.Prelude.{Option, replicate, slice_get, slice_set}
use Rattle.cw_facts.specs.Lists.{set_other}
use Rattle.cw_facts.specs.Tests.{both_true, equal, not_equal}
use Rattle.cw_code.specs.declared.code.Instr.{Instr}
use Rattle.cw_code.specs.declared.code.Instr.TheVariants as instr
use Rattle.cw_code.specs.Code.{Code}
use Rattle.cw_code.specs.Fits.{Row, Outer, Shape, leaves}
use Rattle.std.proofs.lemmas.Bool.{cases_eq, or_from}
use Rattle.std.proofs.lemmas.Option.{same_Some}
use Rattle.cw_verify.specs.declared.found.Found.{Found}
use Rattle.cw_verify.specs.declared.meeting.Meeting.{Meeting}
use Rattle.cw_verify.specs.declared.meeting.Meeting.TheVariants as meeting
use Rattle.cw_verify.specs.declared.numbers.Numbers.{Numbers}
use Rattle.cw_verify.specs.declared.numbers.Pair.{Pair}
use Rattle.cw_verify.specs.declared.search.Search.{Search}
use Rattle.cw_verify.specs.Meetings.{meeting_of, meets}
use Rattle.cw_verify.specs.Table.{Shapes, rounds_of, shape_view, shapes_of, brings, round_brings, each_brings, either_each, is_alike, are_alike, joined, can_meet, met}
use Rattle.cw_verify.specs.Numbers.{Names, HasNumber, IsPair, given, number_of, number_after, AreNumbered, IsKnown, IsKnownWith, keeps_blocks, IsNext}
use Rattle.cw_verify.proofs.Rounds.{each_stays, each_comes}
use Rattle.cw_verify.proofs.Spreading.{shapes_set}
use Rattle.cw_verify.proofs.Tables.{is_alike_of}

-- a row marks no more than itself
brings_self : (row : Row) → brings row row ≡ false
brings_self [] = refl
brings_self (true ∷ row) = brings_self row
brings_self (false ∷ row) = brings_self row

each_brings_self : (xs : List Outer) → each_brings xs xs ≡ false
each_brings_self [] = refl
each_brings_self (x ∷ xs) = or_from (round_brings x x) (each_brings xs xs)
    (or_from (brings x.empty x.empty) (brings x.gone x.gone || brings x.frozen x.frozen) (brings_self x.empty)
    (or_from (brings x.gone x.gone) (brings x.frozen x.frozen) (brings_self x.gone) (brings_self x.frozen))) (each_brings_self xs)

is_alike_self : (x : Outer) → is_alike x x ≡ true
is_alike_self x = is_alike_of x x refl refl refl refl

are_alike_self : (xs : List Outer) → are_alike xs xs ≡ true
are_alike_self [] = refl
are_alike_self (x ∷ xs) = both_true (is_alike x x) (are_alike xs xs) (is_alike_self x) (are_alike_self xs)

-- the meeting of alike blocks depends only on which of them marks more
meets_alike : (xs ys : List Outer) → are_alike xs ys ≡ true → meeting_of xs ys ≡ (if each_brings xs ys then (if each_brings ys xs then meeting.Both else meeting.Comes) else meeting.Stays)
meets_alike xs ys a = ap (λ b. if b then (if each_brings xs ys then (if each_brings ys xs then meeting.Both else meeting.Comes) else meeting.Stays) else meeting.Apart) a

-- blocks with the same number meet as `Stays`
pub meets_self : (xs ys : List Outer) → xs ≡ ys → meeting_of xs ys ≡ meeting.Stays
meets_self xs ys e =
    ap (meeting_of xs) (sym e) ∙ meets_alike xs xs (are_alike_self xs)
    ∙ ap (λ b. if b then (if each_brings xs xs then meeting.Both else meeting.Comes) else meeting.Stays) (each_brings_self xs)

-- blocks can be merged if and only if they are alike
pub tells_alike : (xs ys : List Outer) → meets (meeting_of xs ys) ≡ are_alike xs ys
tells_alike xs ys = at (are_alike xs ys) (each_brings xs ys) (each_brings ys xs)
  where
    at : (a b c : Bool) → meets (if a then (if b then (if c then meeting.Both else meeting.Comes) else meeting.Stays) else meeting.Apart) ≡ a
    at false b c = refl
    at true false c = refl
    at true true false = refl
    at true true true = refl

pub tells_stays : (xs ys : List Outer) → meeting.Stays ≡ meeting_of xs ys → (are_alike xs ys ≡ true) × (each_brings xs ys ≡ false)
tells_stays xs ys e = at (are_alike xs ys) (each_brings xs ys) (each_brings ys xs) e
  where
    at : (a b c : Bool) → meeting.Stays ≡ (if a then (if b then (if c then meeting.Both else meeting.Comes) else meeting.Stays) else meeting.Apart) → (a ≡ true) × (b ≡ false)
    at false b c e = cc
    at true false c e = (refl, refl)
    at true true false e = cc
    at true true true e = cc

pub tells_comes : (xs ys : List Outer) → meeting.Comes ≡ meeting_of xs ys → (are_alike xs ys ≡ true) × (each_brings xs ys ≡ true) × (each_brings ys xs ≡ false)
tells_comes xs ys e = at (are_alike xs ys) (each_brings xs ys) (each_brings ys xs) e
  where
    at : (a b c : Bool) → meeting.Comes ≡ (if a then (if b then (if c then meeting.Both else meeting.Comes) else meeting.Stays) else meeting.Apart) → (a ≡ true) × (b ≡ true) × (c ≡ false)
    at false b c e = cc
    at true false c e = cc
    at true true false e = (refl, refl, refl)
    at true true true e = cc

pub tells_both : (xs ys : List Outer) → meeting.Both ≡ meeting_of xs ys → each_brings xs ys ≡ true
tells_both xs ys e = at (are_alike xs ys) (each_brings xs ys) (each_brings ys xs) e
  where
    at : (a b c : Bool) → meeting.Both ≡ (if a then (if b then (if c then meeting.Both else meeting.Comes) else meeting.Stays) else meeting.Apart) → b ≡ true
    at false b c e = cc
    at true false c e = cc
    at true true false e = cc
    at true true true e = refl

-- the number of merged blocks
none : (names : Names) (last : ℕ) (blocks : List Outer) → HasNumber names last 0 blocks
none names last blocks = (omega arith, λ lt. absurd (omega (arith, lt)))

pub after_meeting : (names : Names) (last a b : ℕ) (xs ys : List Outer) (m : Meeting) → m ≡ meeting_of xs ys → HasNumber names last a xs
    → HasNumber names last b ys → HasNumber names last (number_after m a b) (either_each xs ys)
after_meeting names last a b xs ys meeting.Apart e h k = none names last (either_each xs ys)
after_meeting names last a b xs ys meeting.Stays e h k = subst (HasNumber names last a) (sym (each_stays xs ys (tells_stays xs ys e).1)) h
after_meeting names last a b xs ys meeting.Comes e h k =
    let told = tells_comes xs ys e in
    subst (HasNumber names last b) (sym (each_comes xs ys told.0 told.2)) k
after_meeting names last a b xs ys meeting.Both e h k = none names last (either_each xs ys)

-- the number that was assigned to a pc
set_number : (numbers : List ℕ) (k n : ℕ) → (number_of (slice_set numbers k n) k ≡ n) ⊎ (number_of (slice_set numbers k n) k ≡ 0)
set_number [] k n = inr refl
set_number (x ∷ numbers) zero n = inl refl
set_number (x ∷ numbers) (suc k) n = set_number numbers k n

has_set : (names : Names) (last : ℕ) (numbers : List ℕ) (k n : ℕ) (blocks : List Outer) → HasNumber names last n blocks → HasNumber names last (number_of (slice_set numbers k n) k) blocks
has_set names last numbers k n blocks h =
    ⊎_elim (λ (e : number_of (slice_set numbers k n) k ≡ n). subst (λ m. HasNumber names last m blocks) (sym e) h)
    (λ (e : number_of (slice_set numbers k n) k ≡ 0). subst (λ m. HasNumber names last m blocks) (sym e) (none names last blocks)) (set_number numbers k n)

-- assigning a state and its number to a pc keeps `AreNumbered`
pub numbered_set : (names : Names) (shapes : Shapes) (numbers : List ℕ) (last k n : ℕ) (s : Shape) → AreNumbered names shapes numbers last → HasNumber names last n s.outer →
    AreNumbered names (slice_set shapes k (Some s)) (slice_set numbers k n) last
numbered_set names shapes numbers last k n s h i = λ j t e. ⊎_elim (λ (q : j ≡ k). here j t e q) (λ (q : j ≡ k → ⊥). other j t e q) (cases_eq j k)
  where
    at : (xs : Shapes) (k : ℕ) (t : Shape) → slice_get (slice_set xs k (Some s)) k ≡ Some (Some t) → s ≡ t
    at [] k t e = cc
    at (x ∷ xs) zero t e = cc
    at (x ∷ xs) (suc k) t e = at xs k t e

    here : (j : ℕ) (t : Shape) → slice_get (slice_set shapes k (Some s)) j ≡ Some (Some t) → j ≡ k → HasNumber names last (number_of (slice_set numbers k n) j) t.outer
    here j t e q =
        let same : s ≡ t = at shapes k t (ap (slice_get (slice_set shapes k (Some s))) (sym q) ∙ e) in
        subst (λ m. HasNumber names last (number_of (slice_set numbers k n) m) t.outer) (sym q)
        (subst (λ r. HasNumber names last (number_of (slice_set numbers k n) k) r.outer) same (has_set names last numbers k n s.outer i))

    other : (j : ℕ) (t : Shape) → slice_get (slice_set shapes k (Some s)) j ≡ Some (Some t) → (j ≡ k → ⊥) → HasNumber names last (number_of (slice_set numbers k n) j) t.outer
    other j t e q =
        subst (λ m. HasNumber names last m t.outer) (sym (ap given (set_other numbers k j n q))) (h j t (sym (set_other shapes k j (Some s) q) ∙ e))

-- the names extended by one number
abbrev pub with_name : Names → (n : ℕ) → List Outer → Names
with_name names n blocks = λ m. if nat_eq m n then blocks else names m

named_here : (names : Names) (n : ℕ) (blocks : List Outer) → with_name names n blocks n ≡ blocks
named_here names n blocks = ap (λ b. if b then blocks else names n) (equal n n refl)

named_there : (names : Names) (n m : ℕ) (blocks : List Outer) → m < n → with_name names n blocks m ≡ names m
named_there names n m blocks lt = ap (λ b. if b then blocks else names m) (not_equal m n (λ e. omega (arith, e, lt)))

has_still : (names : Names) (last last' n m : ℕ) (blocks xs : List Outer) → last < n → last ≤ last' → HasNumber names last m xs → HasNumber (with_name names n blocks) last' m xs
has_still names last last' n m blocks xs new more h = (omega (arith, h.0, more), λ lt. h.1 lt ∙ sym (named_there names n m blocks (omega (arith, h.0, new))))

pub numbered_still : (names : Names) (shapes : Shapes) (numbers : List ℕ) (last last' n : ℕ) (blocks : List Outer) → last < n → last ≤ last'
    → AreNumbered names shapes numbers last → AreNumbered (with_name names n blocks) shapes numbers last'
numbered_still names shapes numbers last last' n blocks new more h = λ k s e. has_still names last last' n (number_of numbers k) blocks s.outer new more (h k s e)

pub pair_still : (names : Names) (last last' n : ℕ) (blocks : List Outer) (p : Option Pair) → last < n → last ≤ last' → IsPair names last p → IsPair (with_name names n blocks) last' p
pair_still names last last' n blocks None new more h = h
pair_still names last last' n blocks (Some p) new more h = (
  omega (arith, h.0, more),
  omega (arith, h.1, more),
  h.2 ∙ sym (ap (λ l. meeting_of l (with_name names n blocks p.found)) (named_there names n p.there blocks (omega (arith, h.0, new)))
      ∙ ap (meeting_of (names p.there)) (named_there names n p.found blocks (omega (arith, h.1, new)))),
)

pub has_new : (names : Names) (last n : ℕ) (blocks : List Outer) → n ≤ last → HasNumber (with_name names n blocks) last n blocks
has_new names last n blocks le = (le, λ lt. sym (named_here names n blocks))

-- if only the last number increases, all numbers remain right
has_more : (names : Names) (last last' n : ℕ) (xs : List Outer) → last ≤ last' → HasNumber names last n xs → HasNumber names last' n xs
has_more names last last' n xs more h = (omega (arith, h.0, more), h.1)

pub numbered_more : (names : Names) (shapes : Shapes) (numbers : List ℕ) (last last' : ℕ) → last ≤ last' → AreNumbered names shapes numbers last → AreNumbered names shapes numbers last'
numbered_more names shapes numbers last last' more h = λ k s e. has_more names last last' (number_of numbers k) s.outer more (h k s e)

pub pair_more : (names : Names) (last last' : ℕ) (p : Option Pair) → last ≤ last' → IsPair names last p → IsPair names last' p
pair_more names last last' None more h = h
pair_more names last last' (Some p) more h = (omega (arith, h.0, more), omega (arith, h.1, more), h.2)

pub has_none : (names : Names) (last n : ℕ) (xs : List Outer) → n ≡ 0 → HasNumber names last n xs
has_none names last n xs e = (omega (arith, e), λ lt. absurd (omega (arith, lt, e)))

-- at the beginning no pc has a number
none_given : (count k : ℕ) → number_of (replicate count 0) k ≡ 0
none_given zero k = refl
none_given (suc count) zero = refl
none_given (suc count) (suc k) = none_given count k

pub none_numbered : (names : Names) (shapes : Shapes) (count last : ℕ) → AreNumbered names shapes (replicate count 0) last
none_numbered names shapes count last = λ k s e. has_none names last (number_of (replicate count 0) k) s.outer (none_given count k)

-- an instruction that keeps the blocks
pub kept_blocks : (code : Code) (s : Shape) (i : Instr) → keeps_blocks i ≡ true → (leaves code s i).outer ≡ s.outer
kept_blocks code s (instr.Cut h line) e = cc
kept_blocks code s instr.EndCut e = cc
kept_blocks code s (instr.Open kind) e = cc
kept_blocks code s instr.Close e = cc
kept_blocks code s _ e = refl

-- a merged state has the merged blocks
pub joined_outer : (t s r : Shape) → joined (Some t) s ≡ Some r → r.outer ≡ either_each t.outer s.outer
joined_outer t s r e = at (can_meet t s) e
  where
    at : (b : Bool) → (if b then Some (met t s) else None) ≡ Some r → r.outer ≡ either_each t.outer s.outer
    at true e = sym (ap (λ u. u.outer) (same_Some (met t s) r e))
    at false e = cc

-- the numbers remain right after a pc has another state and its number
pub known_set : (names : Names) (items items' : List (Option Found)) (numbers numbers' : List ℕ) (last last' k n : ℕ) (y : Option Found) (r : Found)
    → items' ≡ slice_set (slice_set items k y) k (Some r) → numbers' ≡ slice_set numbers k n → last' ≡ last →
    AreNumbered names (shapes_of items) numbers last → HasNumber names last n (rounds_of r.outer.value) → AreNumbered names (shapes_of items') numbers' last'
known_set names items items' numbers numbers' last last' k n y r e f g h i =
    let set = numbered_set names (shapes_of items) numbers last k n (shape_view r) h i in
    subst (λ l. AreNumbered names (shapes_of items') numbers' l) (sym g)
    (subst (λ l. AreNumbered names (shapes_of items') l last) (sym f)
    (subst (λ l. AreNumbered names l (slice_set numbers k n) last) (sym (ap shapes_of e ∙ shapes_set items k y (Some r))) set))

pub pair_same : (names : Names) (last last' : ℕ) (p p' : Option Pair) → last' ≡ last → p' ≡ p → IsPair names last p → IsPair names last' p'
pair_same names last last' p p' e f h = subst (λ l. IsPair names l p') (sym e) (subst (IsPair names last) (sym f) h)

-- the numbers remain right after the state that an instruction leaves is numbered
pub known_next : (code : Code) (s : Search) (n : Numbers) (k number : ℕ) (i : Instr) (t : Shape) (left : Found) → IsKnown s
    → slice_get (shapes_of s.found.items) k ≡ Some (Some t) → IsNext k i number s.numbers n → shape_view left ≡ leaves code t i →
    IsKnownWith number left (record s { numbers = n })
known_next code s n k number i t left known at next is =
    ⊎_elim (λ (h : (s.numbers.last < number) × (number ≤ n.last)). new h.0 h.1) (λ (h : (number ≡ 0) ⊎ ((keeps_blocks i ≡ true) × (number ≡ number_of s.numbers.places.items k))).
    ⊎_elim (λ (e : number ≡ 0). more (has_none names n.last number blocks e)) (λ (e : (keeps_blocks i ≡ true) × (number ≡ number_of s.numbers.places.items k)). more (kept e.0 e.1)) h) next.is
  where
    names : Names
    names = known.0

    shapes : Shapes
    shapes = shapes_of s.found.items

    blocks : List Outer
    blocks = rounds_of left.outer.value

    numbered : AreNumbered names shapes n.places.items s.numbers.last
    numbered = subst (λ l. AreNumbered names shapes l s.numbers.last) (sym next.places) known.1.0

    pair : IsPair names s.numbers.last n.pair
    pair = subst (IsPair names s.numbers.last) (sym next.pair) known.1.1

    new : s.numbers.last < number → number ≤ n.last → IsKnownWith number left (record s { numbers = n })
    new lt le = (
      with_name names number blocks,
      (numbered_still names shapes n.places.items s.numbers.last n.last number blocks lt next.last numbered, pair_still names s.numbers.last n.last number blocks n.pair lt next.last pair),
      has_new names n.last number blocks le,
    )

    more : HasNumber names n.last number blocks → IsKnownWith number left (record s { numbers = n })
    more has = (
      names,
      (numbered_more names shapes n.places.items s.numbers.last n.last next.last numbered, pair_more names s.numbers.last n.last n.pair next.last pair),
      has,
    )

    kept : keeps_blocks i ≡ true → number ≡ number_of s.numbers.places.items k → HasNumber names n.last number blocks
    kept e f =
        let same : t.outer ≡ blocks = sym (ap (λ u. u.outer) is ∙ kept_blocks code t i e) in
        has_more names s.numbers.last n.last number blocks next.last
        (subst (λ m. HasNumber names s.numbers.last m blocks) (sym f) (subst (HasNumber names s.numbers.last (number_of s.numbers.places.items k)) same (known.1.0 k t at)))
