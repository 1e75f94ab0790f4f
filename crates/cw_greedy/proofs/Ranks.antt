-- The ready strands before one strand, in serial order.
use Rattle.std.proofs.Common.{◌≡◌, ℕ, zero, suc, ◌+◌, arith, refl, sym, ap, subst, inl, inr, List, [], ◌∷◌, ◌++◌}
use Rattle.std.specs.Prelude.{map}
use Rattle.std.proofs.lemmas.List.{length-append, length-map}
use Rattle.cw_model.specs.Trees.{Tree, Leaf, Seq, Par, Marked, work}
use Rattle.cw_model.specs.Dag.{Place, Here, First, Second}
use Rattle.cw_greedy.specs.Greedy.{ready}
use Rattle.cw_greedy.specs.Edges.{IsLeaf, IsReady, ready_before, IsEarlier, IsIn, AreInOrder, AreExactly, IsReadyBefore, StepsByEdges}
use Rattle.cw_greedy.proofs.Edges.{weight_at_most, moves, ready_in_first, ready_of_first, ready_in_second, first_is_done, ready_of_second, ready_in_child, ready_of_child}
use Rattle.cw_greedy.proofs.Edges.{ready_in_rest, ready_of_rest, ready_in_marked, ready_of_marked}
use Rattle.cw_greedy.proofs.Steps.{by_done}

-- places of the first part, then places of the second part
abbrev both : List Place → List Place → List Place
both ps qs = map First ps ++ map Second qs

in_first : (p : Place) (ps qs : List Place) → IsIn p ps → IsIn (First p) (both ps qs)
in_first p [] qs h = absurd h
in_first p (x ∷ ps) qs (inl e) = inl (ap First e)
in_first p (x ∷ ps) qs (inr h) = inr (in_first p ps qs h)

in_second : (q : Place) (ps qs : List Place) → IsIn q qs → IsIn (Second q) (both ps qs)
in_second q (x ∷ ps) qs h = inr (in_second q ps qs h)
in_second q [] [] h = absurd h
in_second q [] (x ∷ qs) (inl e) = inl (ap Second e)
in_second q [] (x ∷ qs) (inr h) = inr (in_second q [] qs h)

from_both : (R : Place → Type 0) (ps qs : List Place) → ((p : Place) → IsIn p ps → R (First p)) → ((q : Place) → IsIn q qs → R (Second q)) →
    (r : Place) → IsIn r (both ps qs) → R r
from_both R [] [] f g r h = absurd h
from_both R [] (x ∷ qs) f g r (inl e) = subst R (sym e) (g x (inl refl))
from_both R [] (x ∷ qs) f g r (inr h) = from_both R [] qs f (λ q i. g q (inr i)) r h
from_both R (x ∷ ps) qs f g r (inl e) = subst R (sym e) (f x (inl refl))
from_both R (x ∷ ps) qs f g r (inr h) = from_both R ps qs (λ p i. f p (inr i)) g r h

in_order : (ps qs : List Place) → AreInOrder ps → AreInOrder qs → AreInOrder (both ps qs)
in_order [] [] h k = tt
in_order [] (x ∷ qs) h k = (from_both (IsEarlier (Second x)) [] qs (λ p i. absurd i) k.0, in_order [] qs h k.1)
in_order (x ∷ ps) qs h k = (from_both (IsEarlier (First x)) ps qs h.0 (λ q i. tt), in_order ps qs h.1 k)

-- the places with a property in both parts are the places with the property in the whole
exactly_both : (P Q R : Place → Type 0) (n m : ℕ) → AreExactly P n → AreExactly Q m → (R Here → ⊥) → ((p : Place) → P p → R (First p)) → ((p : Place) → R (First p) → P p) →
    ((q : Place) → Q q → R (Second q)) → ((q : Place) → R (Second q) → Q q) → AreExactly R (n + m)
exactly_both P Q R n m h k not of_p in_p of_q in_q =
    record {
      places = both h.places k.places;
      order = in_order h.places k.places h.order k.order;
      each = from_both R h.places k.places (λ p i. of_p p (h.each p i)) (λ q i. of_q q (k.each q i));
      all = all;
      count = (let split = length-append (map First h.places) (map Second k.places) in
          let firsts = length-map h.places First in
          let seconds = length-map k.places Second in
          let here = h.count in
          let there = k.count in
          omega (arith, split, firsts, seconds, here, there));
    }
  where
    all : (r : Place) → R r → IsIn r (both h.places k.places)
    all Here r = absurd (not r)
    all (First p) r = in_first p h.places k.places (h.all p (in_p p r))
    all (Second q) r = in_second q h.places k.places (k.all q (in_q q r))

exactly_none : (P : Place → Type 0) → ((p : Place) → P p → ⊥) → AreExactly P 0
exactly_none P not = record { places = []; order = tt; each = λ p i. absurd i; all = λ p h. absurd (not p h); count = refl }

exactly_same : (P Q : Place → Type 0) (n : ℕ) → AreExactly P n → ((p : Place) → P p → Q p) → ((p : Place) → Q p → P p) → AreExactly Q n
exactly_same P Q n h f g = record { places = h.places; order = h.order; each = λ p i. f p (h.each p i); all = λ p k. h.all p (g p k); count = h.count }

exactly_as : (P : Place → Type 0) (n m : ℕ) → n ≡ m → AreExactly P n → AreExactly P m
exactly_as P n m e h = subst (AreExactly P) e h

abbrev Never : Place → Type 0
Never p = ⊥

never : AreExactly Never 0
never = exactly_none Never (λ p h. h)

-- no strand of a part without work is ready
idle : (t : Tree) → work t ≡ 0 → (p : Place) → IsReady t p → ⊥
idle t e p r = let left = r.left in omega (arith, e, left, weight_at_most t p r.leaf)

leaf_here : (k : ℕ) (p : Place) → IsReady (Leaf k) p → p ≡ Here
leaf_here k Here r = refl
leaf_here k (First p) r = absurd r.leaf
leaf_here k (Second p) r = absurd r.leaf

-- all ready strands of a tree
all_ready : (t : Tree) → AreExactly (IsReady t) (ready t)
all_ready (Leaf zero) = exactly_none (IsReady (Leaf zero)) (λ p r. let left = r.left in omega (arith, left))
all_ready (Leaf (suc k)) =
    exactly_as (IsReady (Leaf (suc k))) 1 (ready (Leaf (suc k))) (omega arith)
    (record {
      places = Here ∷ [];
      order = ((λ q i. absurd i), tt);
      each = each;
      all = λ p r. inl (leaf_here (suc k) p r);
      count = refl;
    })
  where
    each : (p : Place) → IsIn p (Here ∷ []) → IsReady (Leaf (suc k)) p
    each p (inl e) = subst (IsReady (Leaf (suc k))) (sym e) (record { leaf = tt; left = omega arith; before = λ q h. absurd h })
    each p (inr h) = absurd h
all_ready (Seq a b) =
    by_done (AreExactly (IsReady (Seq a b))) (work a) (ready b) (ready a)
    (λ e. exactly_as (IsReady (Seq a b)) (0 + ready b) (ready b) (omega arith)
    (exactly_both Never (IsReady b) (IsReady (Seq a b)) 0 (ready b) never (all_ready b) (λ r. r.leaf) (λ p h. absurd h)
    (λ p r. idle a e p (ready_in_first a b p r)) (λ q r. ready_of_second a b q e r) (λ q r. ready_in_second a b q r)))
    (λ some. exactly_as (IsReady (Seq a b)) (ready a + 0) (ready a) (omega arith)
    (exactly_both (IsReady a) Never (IsReady (Seq a b)) (ready a) 0 (all_ready a) never (λ r. r.leaf) (λ p r. ready_of_first a b p r)
    (λ p r. ready_in_first a b p r) (λ q h. absurd h) (λ q r. let e = first_is_done a b q r in omega (arith, e, some))))
all_ready (Par child rest) =
    exactly_both (IsReady child) (IsReady rest) (IsReady (Par child rest)) (ready child) (ready rest) (all_ready child) (all_ready rest) (λ r. r.leaf)
    (λ p r. ready_of_child child rest p r) (λ p r. ready_in_child child rest p r) (λ q r. ready_of_rest child rest q r) (λ q r. ready_in_rest child rest q r)
all_ready (Marked mark t) =
    exactly_same (IsReady t) (IsReady (Marked mark t)) (ready t) (all_ready t) (λ p r. ready_of_marked mark t p r) (λ p r. ready_in_marked mark t p r)

-- all ready strands before one
before : (t : Tree) (p : Place) → IsLeaf t p → AreExactly (IsReadyBefore t p) (ready_before t p)
before (Leaf k) Here h = exactly_none (IsReadyBefore (Leaf k) Here) (λ q r. not q r.1)
  where
    not : (q : Place) → IsEarlier q Here → ⊥
    not Here e = e
    not (First q) e = e
    not (Second q) e = e
before (Leaf k) (First p) h = absurd h
before (Leaf k) (Second p) h = absurd h
before (Seq a b) Here h = absurd h
before (Seq a b) (First p) h =
    exactly_as (IsReadyBefore (Seq a b) (First p)) (ready_before a p + 0) (ready_before a p) (omega arith)
    (exactly_both (IsReadyBefore a p) Never (IsReadyBefore (Seq a b) (First p)) (ready_before a p) 0 (before a p h) never (λ r. r.1)
    (λ q r. (ready_of_first a b q r.0, r.1)) (λ q r. (ready_in_first a b q r.0, r.1)) (λ q r. absurd r) (λ q r. r.1))
before (Seq a b) (Second p) h =
    by_done (AreExactly (IsReadyBefore (Seq a b) (Second p))) (work a) (ready_before b p) (ready a)
    (λ e. exactly_as (IsReadyBefore (Seq a b) (Second p)) (0 + ready_before b p) (ready_before b p) (omega arith)
    (exactly_both Never (IsReadyBefore b p) (IsReadyBefore (Seq a b) (Second p)) 0 (ready_before b p) never (before b p h) (λ r. r.1) (λ q r. absurd r)
    (λ q r. idle a e q (ready_in_first a b q r.0)) (λ q r. (ready_of_second a b q e r.0, r.1)) (λ q r. (ready_in_second a b q r.0, r.1))))
    (λ some. exactly_as (IsReadyBefore (Seq a b) (Second p)) (ready a + 0) (ready a) (omega arith)
    (exactly_both (IsReady a) Never (IsReadyBefore (Seq a b) (Second p)) (ready a) 0 (all_ready a) never (λ r. r.1) (λ q r. (ready_of_first a b q r, tt))
    (λ q r. ready_in_first a b q r.0) (λ q r. absurd r) (λ q r. let e = first_is_done a b q r.0 in omega (arith, e, some))))
before (Par child rest) Here h = absurd h
before (Par child rest) (First p) h =
    exactly_as (IsReadyBefore (Par child rest) (First p)) (ready_before child p + 0) (ready_before child p) (omega arith)
    (exactly_both (IsReadyBefore child p) Never (IsReadyBefore (Par child rest) (First p)) (ready_before child p) 0 (before child p h) never (λ r. r.1)
    (λ q r. (ready_of_child child rest q r.0, r.1)) (λ q r. (ready_in_child child rest q r.0, r.1)) (λ q r. absurd r) (λ q r. r.1))
before (Par child rest) (Second p) h =
    exactly_both (IsReady child) (IsReadyBefore rest p) (IsReadyBefore (Par child rest) (Second p)) (ready child) (ready_before rest p) (all_ready child) (before rest p h) (λ r. r.1)
    (λ q r. (ready_of_child child rest q r, tt)) (λ q r. ready_in_child child rest q r.0)
    (λ q r. (ready_of_rest child rest q r.0, r.1)) (λ q r. (ready_in_rest child rest q r.0, r.1))
before (Marked mark t) p h =
    exactly_same (IsReadyBefore t p) (IsReadyBefore (Marked mark t) p) (ready_before t p) (before t p h)
    (λ q r. (ready_of_marked mark t q r.0, r.1)) (λ q r. (ready_in_marked mark t q r.0, r.1))

pub steps_by_edges : (n : ℕ) (t : Tree) (p : Place) → IsLeaf t p → StepsByEdges n t p
steps_by_edges n t p h = let m = moves n t p h in record { rank = before t p h; runs = m.runs; waits = m.waits }
