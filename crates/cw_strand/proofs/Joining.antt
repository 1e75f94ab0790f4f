-- Totals to which other totals are joined, one at a time.
use Rattle.std.proofs.Common.{◌≡◌, ◌≢◌, ⊎_elim, ℕ, zero, suc, ◌+◌, ◌<◌, ◌≤◌, Some, List, [], ◌∷◌, length, refl, sym, ap, ◌∙◌, subst, arith}
use Rattle.std.specs.Prelude.{◌⊎◌, slice_get, slice_set, slice_index_or}
use Rattle.std.proofs.lemmas.List.{length-set}
use Rattle.std.proofs.lemmas.Option.{slice_get_within}
use Rattle.cw_model.specs.declared.total.Total.{Total}
use Rattle.cw_jobs.specs.Totals.{joined_total}
use Rattle.cw_strand.specs.Giving.{AreJoined, IsJoinedAt}

-- the first `k` totals have the others joined to them
pub record JoinedTo (old more : List Total) (k : ℕ) (now : List Total) : Type 0 where
  pub as_many : length now ≡ length old
  pub done : (i : ℕ) (x y : Total) → i < k → slice_get old i ≡ Some x → slice_get more i ≡ Some y → slice_get now i ≡ Some (joined_total x y)
  pub still : (i : ℕ) → k ≤ i → slice_get now i ≡ slice_get old i

pub none_joined : (old more : List Total) → JoinedTo old more 0 old
none_joined old more = record { as_many = refl; done = λ i x y lt e e'. absurd (omega (arith, lt)); still = λ i le. refl }

same_or : (i k : ℕ) → (i ≡ k) ⊎ (i ≢ k)
same_or i k = grind arith

pub one_joined : (old more now next : List Total) (k : ℕ) → JoinedTo old more k now → IsJoinedAt now more k next → JoinedTo old more (k + 1) next
one_joined old more now next k to at = record {
  as_many = at.as_many ∙ to.as_many;
  done = λ i x y lt e e'. ⊎_elim
      (λ (q : i ≡ k). subst (λ z. slice_get next z ≡ Some (joined_total x y)) (sym q)
      (at.here x y (to.still k (omega arith) ∙ ap (slice_get old) (sym q) ∙ e) (ap (slice_get more) (sym q) ∙ e')))
      (λ (d : i ≢ k). at.others i d ∙ to.done i x y (below i k lt d) e e')
      (same_or i k);
  still = λ i le. at.others i (λ q. omega (arith, q, le)) ∙ to.still i (omega (arith, le));
}
  where
    below : (i k : ℕ) → i < k + 1 → i ≢ k → i < k
    below zero zero lt d = absurd (d refl)
    below zero (suc k) lt d = omega arith
    below (suc i) zero lt d = absurd (omega (arith, lt))
    below (suc i) (suc k) lt d = let r = below i k (omega (arith, lt)) (λ q. d (ap suc q)) in omega (arith, r)

pub all_joined : (old more now : List Total) (k : ℕ) → length old ≤ k → JoinedTo old more k now → AreJoined old more now
all_joined old more now k le to = record {
  as_many = to.as_many;
  each = λ i x y e e'. let lt = slice_get_within old i x e in to.done i x y (omega (arith, lt, le)) e e';
}

pub got : (xs : List Total) (k : ℕ) (d x : Total) → slice_get xs k ≡ Some x → slice_index_or xs k d ≡ x
got [] k d x e = cc
got (y ∷ xs) zero d x e = cc
got (y ∷ xs) (suc k) d x e = got xs k d x e

set_same : (xs : List Total) (k : ℕ) (x : Total) → k < length xs → slice_get (slice_set xs k x) k ≡ Some x
set_same [] k x lt = absurd (omega (arith, lt))
set_same (y ∷ xs) zero x lt = refl
set_same (y ∷ xs) (suc k) x lt = set_same xs k x (omega (arith, lt))

set_other : (xs : List Total) (k j : ℕ) (x : Total) → j ≢ k → slice_get (slice_set xs k x) j ≡ slice_get xs j
set_other [] k j x n = refl
set_other (y ∷ xs) zero zero x n = absurd (n refl)
set_other (y ∷ xs) zero (suc j) x n = refl
set_other (y ∷ xs) (suc k) zero x n = refl
set_other (y ∷ xs) (suc k) (suc j) x n = set_other xs k j x (λ e. n (ap suc e))

pub set_joined : (old more : List Total) (k : ℕ) (v : Total) → k < length old
    → ((x y : Total) → slice_get old k ≡ Some x → slice_get more k ≡ Some y → v ≡ joined_total x y) → IsJoinedAt old more k (slice_set old k v)
set_joined old more k v lt is = record {
  as_many = length-set old k v;
  here = λ x y e e'. set_same old k v lt ∙ ap (λ z. Some z) (is x y e e');
  others = λ i d. set_other old k i v d;
}

pub none_more : (old more : List Total) (k : ℕ) → length more ≤ k → IsJoinedAt old more k old
none_more old more k le = record {
  as_many = refl;
  here = λ x y e e'. absurd (let lt = slice_get_within more k y e' in omega (arith, lt, le));
  others = λ i d. refl;
}
