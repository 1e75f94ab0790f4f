-- Parts form a monoid, for any readings.
use Rattle.std.specs.Prelude.{◌≡◌, ℕ, ◌≤◌, ◌<◌, nat_lt, min, Bool, true, false, refl}
use Rattle.std.proofs.Common.{sym, ◌∙◌, ap, arith}
use Rattle.cw_facts.specs.Tests.{below, lt_of, not_below}
use Rattle.cw_model.specs.declared.limits.TheConstants.{MOST_LIMIT}
use Rattle.cw_model.specs.declared.trap.Trap.{Trap}
use Rattle.cw_part.specs.Parts.{Readings, IsLawful, Came, Completed, Trapped, Over, Memory, followed, over_if, within}
use Rattle.cw_part.specs.Parts.{Part, part_joined, nothing_ran, IsPart, PartsJoin}

over_by : {M : Type 0} (n k : ℕ) (x : Came M) → n < k → over_if (nat_lt n k) x ≡ Over
over_by n k x h = ap (λ (b : Bool). over_if b x) (below n k h)

-- one after another, in any grouping
pub followed-assoc : {M : Type 0} (R : Readings M) (L : IsLawful M R) (x y z : Came M)
    → followed R (followed R x y) z ≡ followed R x (followed R y z)
followed-assoc R L (Completed a) (Completed b) (Completed c) = ap Completed (L.regroup a b c)
followed-assoc R L (Completed a) (Completed b) (Trapped t l c) = ap (Trapped t l) (L.regroup a b c)
followed-assoc R L (Completed a) (Completed b) Over = refl
followed-assoc R L (Completed a) (Completed b) Memory = refl
followed-assoc R L (Completed a) (Trapped t l b) (Completed c) = refl
followed-assoc R L (Completed a) (Trapped t l b) (Trapped t' l' c) = refl
followed-assoc R L (Completed a) (Trapped t l b) Over = refl
followed-assoc R L (Completed a) (Trapped t l b) Memory = refl
followed-assoc R L (Completed a) Over (Completed c) = refl
followed-assoc R L (Completed a) Over (Trapped t l c) = refl
followed-assoc R L (Completed a) Over Over = refl
followed-assoc R L (Completed a) Over Memory = refl
followed-assoc R L (Completed a) Memory z = refl
followed-assoc R L (Trapped t l a) (Completed b) (Completed c) = refl
followed-assoc R L (Trapped t l a) (Completed b) (Trapped t' l' c) = refl
followed-assoc R L (Trapped t l a) (Completed b) Over = refl
followed-assoc R L (Trapped t l a) (Completed b) Memory = refl
followed-assoc R L (Trapped t l a) (Trapped t' l' b) (Completed c) = refl
followed-assoc R L (Trapped t l a) (Trapped t' l' b) (Trapped t'' l'' c) = refl
followed-assoc R L (Trapped t l a) (Trapped t' l' b) Over = refl
followed-assoc R L (Trapped t l a) (Trapped t' l' b) Memory = refl
followed-assoc R L (Trapped t l a) Over (Completed c) = refl
followed-assoc R L (Trapped t l a) Over (Trapped t' l' c) = refl
followed-assoc R L (Trapped t l a) Over Over = refl
followed-assoc R L (Trapped t l a) Over Memory = refl
followed-assoc R L (Trapped t l a) Memory z = refl
followed-assoc R L Over (Completed b) (Completed c) = refl
followed-assoc R L Over (Completed b) (Trapped t l c) = refl
followed-assoc R L Over (Completed b) Over = refl
followed-assoc R L Over (Completed b) Memory = refl
followed-assoc R L Over (Trapped t l b) (Completed c) = refl
followed-assoc R L Over (Trapped t l b) (Trapped t' l' c) = refl
followed-assoc R L Over (Trapped t l b) Over = refl
followed-assoc R L Over (Trapped t l b) Memory = refl
followed-assoc R L Over Over (Completed c) = refl
followed-assoc R L Over Over (Trapped t l c) = refl
followed-assoc R L Over Over Over = refl
followed-assoc R L Over Over Memory = refl
followed-assoc R L Over Memory z = refl
followed-assoc R L Memory y z = refl

-- testing the first, or the second, before both are tested changes nothing
over_first : {M : Type 0} (R : Readings M) (L : IsLawful M R) (n : ℕ) (a : M) (y : Came M) → n < R.work a
    → within R n (followed R Over y) ≡ within R n (followed R (Completed a) y)
over_first R L n a (Completed b) h =
    let k = L.above_first a b in sym (over_by n (R.work (R.joined a b)) (Completed (R.joined a b)) (omega arith))
over_first R L n a (Trapped t l b) h =
    let k = L.above_first a b in sym (over_by n (R.work (R.joined a b)) (Trapped t l (R.joined a b)) (omega arith))
over_first R L n a Over h = refl
over_first R L n a Memory h = refl

over_trap : {M : Type 0} (R : Readings M) (n : ℕ) (t : Trap) (l : ℕ) (a : M) (y : Came M) → n < R.work a
    → within R n (followed R Over y) ≡ within R n (followed R (Trapped t l a) y)
over_trap R n t l a (Completed b) h = sym (over_by n (R.work a) (Trapped t l a) h)
over_trap R n t l a (Trapped t' l' b) h = sym (over_by n (R.work a) (Trapped t l a) h)
over_trap R n t l a Over h = sym (over_by n (R.work a) (Trapped t l a) h)
over_trap R n t l a Memory h = refl

pub tested_first : {M : Type 0} (R : Readings M) (L : IsLawful M R) (n m : ℕ) (x y : Came M) → n ≤ m
    → within R n (followed R (within R m x) y) ≡ within R n (followed R x y)
tested_first R L n m (Completed a) y h = by_test (nat_lt m (R.work a)) refl
  where
    by_test : (b : Bool) → nat_lt m (R.work a) ≡ b
        → within R n (followed R (over_if b (Completed a)) y) ≡ within R n (followed R (Completed a) y)
    by_test true e = let k = lt_of m (R.work a) e in over_first R L n a y (omega arith)
    by_test false e = refl
tested_first R L n m (Trapped t l a) y h = by_test (nat_lt m (R.work a)) refl
  where
    by_test : (b : Bool) → nat_lt m (R.work a) ≡ b
        → within R n (followed R (over_if b (Trapped t l a)) y) ≡ within R n (followed R (Trapped t l a) y)
    by_test true e = let k = lt_of m (R.work a) e in over_trap R n t l a y (omega arith)
    by_test false e = refl
tested_first R L n m Over y h = refl
tested_first R L n m Memory y h = refl

over_second : {M : Type 0} (R : Readings M) (L : IsLawful M R) (n : ℕ) (x : Came M) (b : M) → n < R.work b
    → within R n (followed R x Over) ≡ within R n (followed R x (Completed b))
over_second R L n (Completed a) b h =
    let k = L.above_second a b in sym (over_by n (R.work (R.joined a b)) (Completed (R.joined a b)) (omega arith))
over_second R L n (Trapped t l a) b h = refl
over_second R L n Over b h = refl
over_second R L n Memory b h = refl

over_second_trap : {M : Type 0} (R : Readings M) (L : IsLawful M R) (n : ℕ) (x : Came M) (t : Trap) (l : ℕ) (b : M)
    → n < R.work b → within R n (followed R x Over) ≡ within R n (followed R x (Trapped t l b))
over_second_trap R L n (Completed a) t l b h =
    let k = L.above_second a b in sym (over_by n (R.work (R.joined a b)) (Trapped t l (R.joined a b)) (omega arith))
over_second_trap R L n (Trapped t' l' a) t l b h = refl
over_second_trap R L n Over t l b h = refl
over_second_trap R L n Memory t l b h = refl

pub tested_second : {M : Type 0} (R : Readings M) (L : IsLawful M R) (n m : ℕ) (x y : Came M) → n ≤ m
    → within R n (followed R x (within R m y)) ≡ within R n (followed R x y)
tested_second R L n m x (Completed b) h = by_test (nat_lt m (R.work b)) refl
  where
    by_test : (t : Bool) → nat_lt m (R.work b) ≡ t
        → within R n (followed R x (over_if t (Completed b))) ≡ within R n (followed R x (Completed b))
    by_test true e = let k = lt_of m (R.work b) e in over_second R L n x b (omega arith)
    by_test false e = refl
tested_second R L n m x (Trapped trap line b) h = by_test (nat_lt m (R.work b)) refl
  where
    by_test : (t : Bool) → nat_lt m (R.work b) ≡ t
        → within R n (followed R x (over_if t (Trapped trap line b))) ≡ within R n (followed R x (Trapped trap line b))
    by_test true e = let k = lt_of m (R.work b) e in over_second_trap R L n x trap line b (omega arith)
    by_test false e = refl
tested_second R L n m x Over h = refl
tested_second R L n m x Memory h = refl

-- parts
abbrev part_with : {M : Type 0} → ℕ → Came M → Part M
part_with n x = record { limit = n; came = x }

same_part : {M : Type 0} (n n' : ℕ) (x x' : Came M) → n ≡ n' → x ≡ x' → part_with n x ≡ part_with n' x'
same_part n n' x x' e f = cc

pub joined-assoc : {M : Type 0} (R : Readings M) (L : IsLawful M R) (p q r : Part M)
    → part_joined R (part_joined R p q) r ≡ part_joined R p (part_joined R q r)
joined-assoc R L p q r =
    let n = min (min p.limit q.limit) r.limit in
    let m = min p.limit (min q.limit r.limit) in
    let e : n ≡ m = omega arith in
    same_part n m (within R n (followed R (within R (min p.limit q.limit) (followed R p.came q.came)) r.came))
    (within R m (followed R p.came (within R (min q.limit r.limit) (followed R q.came r.came)))) e
    (tested_first R L n (min p.limit q.limit) (followed R p.came q.came) r.came (omega arith)
    ∙ ap (within R n) (followed-assoc R L p.came q.came r.came)
    ∙ ap (λ (k : ℕ). within R k (followed R p.came (followed R q.came r.came))) e
    ∙ sym (tested_second R L m (min q.limit r.limit) p.came (followed R q.came r.came) (omega arith)))

pub none_followed : {M : Type 0} (R : Readings M) (L : IsLawful M R) (x : Came M) → followed R (Completed R.none) x ≡ x
none_followed R L (Completed a) = ap Completed (L.none_first a)
none_followed R L (Trapped t l a) = ap (Trapped t l) (L.none_first a)
none_followed R L Over = refl
none_followed R L Memory = refl

followed_none : {M : Type 0} (R : Readings M) (L : IsLawful M R) (x : Came M) → followed R x (Completed R.none) ≡ x
followed_none R L (Completed a) = ap Completed (L.none_last a)
followed_none R L (Trapped t l a) = refl
followed_none R L Over = refl
followed_none R L Memory = refl

pub joined-first : {M : Type 0} (R : Readings M) (L : IsLawful M R) (p : Part M) → IsPart M R p
    → part_joined R (nothing_ran R) p ≡ p
joined-first R L p h =
    let l = h.limited in
    let n = min MOST_LIMIT p.limit in
    let e : n ≡ p.limit = omega arith in
    same_part n p.limit (within R n (followed R (Completed R.none) p.came)) p.came e
    (ap (λ (k : ℕ). within R k (followed R (Completed R.none) p.came)) e ∙ ap (within R p.limit)
    (none_followed R L p.came) ∙ h.tested)

pub joined-last : {M : Type 0} (R : Readings M) (L : IsLawful M R) (p : Part M) → IsPart M R p
    → part_joined R p (nothing_ran R) ≡ p
joined-last R L p h =
    let l = h.limited in
    let n = min p.limit MOST_LIMIT in
    let e : n ≡ p.limit = omega arith in
    same_part n p.limit (within R n (followed R p.came (Completed R.none))) p.came e
    (ap (λ (k : ℕ). within R k (followed R p.came (Completed R.none))) e ∙ ap (within R p.limit)
    (followed_none R L p.came) ∙ h.tested)

tested_twice : {M : Type 0} (R : Readings M) (n : ℕ) (x : Came M) → within R n (within R n x) ≡ within R n x
tested_twice R n (Completed a) = by_test (nat_lt n (R.work a)) refl
  where
    by_test : (b : Bool) → nat_lt n (R.work a) ≡ b → within R n (over_if b (Completed a)) ≡ over_if b (Completed a)
    by_test true e = refl
    by_test false e = ap (λ (b : Bool). over_if b (Completed a)) e
tested_twice R n (Trapped t l a) = by_test (nat_lt n (R.work a)) refl
  where
    by_test : (b : Bool) → nat_lt n (R.work a) ≡ b → within R n (over_if b (Trapped t l a)) ≡ over_if b (Trapped t l a)
    by_test true e = refl
    by_test false e = ap (λ (b : Bool). over_if b (Trapped t l a)) e
tested_twice R n Over = refl
tested_twice R n Memory = refl

pub parts_join : {M : Type 0} (R : Readings M) (L : IsLawful M R) → PartsJoin M R
parts_join R L = record {
  first = joined-first R L;
  last = joined-last R L;
  regroup = joined-assoc R L;
  nothing_is =
      record {
        limited = omega arith;
        tested = ap (λ (b : Bool). over_if b (Completed R.none))
            (not_below MOST_LIMIT (R.work R.none) (let a = L.no_work in omega arith));
      };
  joined_is =
      λ p q h k. record {
        limited = let a = h.limited in omega arith;
        tested = tested_twice R (min p.limit q.limit) (followed R p.came q.came);
      };
}
