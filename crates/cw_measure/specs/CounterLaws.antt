-- Counters of pieces join in any grouping, and give the burdened span of the tree of their events.
use Rattle.std.specs.Prelude.{◌≡◌, ℕ, ◌+◌, max, List, [], ◌∷◌, ◌++◌, refl, zero, suc}
use Rattle.std.proofs.Common.{sym, ◌∙◌, ap, arith}
use Rattle.cw_model.specs.declared.burden.Burden.{Burden}
use Rattle.cw_model.specs.Burdens.{at_child, at_rest}
use Rattle.cw_model.specs.Trees.{Event, Work, Series, Fork, Join, burdened_span, tree_of, parts_of}
use Rattle.cw_measure.specs.Counters.{Sum, exactly, Counters, Unsynced, Synced, later, onward, fresh, ticked, forked}
use Rattle.cw_measure.specs.Counters.{synced, heaviest, of_event, of_events}
use Rattle.cw_measure.specs.SumLaws.{IsSum, exactly_is, later-later, later-max, later-under}

-- the longest child of three pieces, for both groupings
longest_regroup : (add : Sum) (S : IsSum add) (l l1 l2 k k1 : ℕ)
    → max (max l (later add k l1)) (later add (add k k1) l2) ≡ max l (later add k (max l1 (later add k1 l2)))
longest_regroup add S l l1 l2 k k1 =
    let one = later-later add S k k1 l2 in let two = later-max add S k l1 (later add k1 l2) in omega arith

-- the weight up to a join after two pieces, for both groupings
closed_regroup : (add : Sum) (S : IsSum add) (l l1 k k1 p2 : ℕ)
    → max (max l (later add k l1)) (add (add k k1) p2) ≡ max l (add k (max l1 (add k1 p2)))
closed_regroup add S l l1 k k1 p2 =
    let one = later-under add S k l1 l (add k1 p2) in let two = S.regroup k k1 p2 in omega arith

pub onward-assoc : (add : Sum) (S : IsSum add) (a b c : Counters)
    → onward add (onward add a b) c ≡ onward add a (onward add b c)
onward-assoc add S (Unsynced l k) (Unsynced l1 k1) (Unsynced l2 k2) =
    let left = longest_regroup add S l l1 l2 k k1 in let right = S.regroup k k1 k2 in cc
onward-assoc add S (Unsynced l k) (Unsynced l1 k1) (Synced p2 l2 k2) =
    let left = closed_regroup add S l l1 k k1 p2 in cc
onward-assoc add S (Unsynced l k) (Synced p1 l1 k1) (Unsynced l2 k2) = refl
onward-assoc add S (Unsynced l k) (Synced p1 l1 k1) (Synced p2 l2 k2) = refl
onward-assoc add S (Synced p l k) (Unsynced l1 k1) (Unsynced l2 k2) =
    let left = longest_regroup add S l l1 l2 k k1 in let right = S.regroup k k1 k2 in cc
onward-assoc add S (Synced p l k) (Unsynced l1 k1) (Synced p2 l2 k2) =
    let left = closed_regroup add S l l1 k k1 p2 in cc
onward-assoc add S (Synced p l k) (Synced p1 l1 k1) (Unsynced l2 k2) =
    let closed = max l (add k p1) in
    let one = later-later add S closed k1 l2 in let two = later-max add S closed l1 (later add k1 l2) in
    let left : max (later add closed l1) (later add (add closed k1) l2) ≡ later add closed (max l1 (later add k1 l2)) =
    cc in
    let right = S.regroup closed k1 k2 in cc
onward-assoc add S (Synced p l k) (Synced p1 l1 k1) (Synced p2 l2 k2) =
    let closed = max l (add k p1) in
    let inner = max l1 (add k1 p2) in
    let one = later-under add S closed l1 0 (add k1 p2) in
    let zero_max : max 0 (later add closed l1) ≡ later add closed l1 = omega arith in
    let max_zero : max 0 (add closed inner) ≡ add closed inner = omega arith in
    let two = S.regroup closed k1 p2 in
    let three = later-later add S closed inner l2 in
    let four = S.regroup closed inner k2 in
    let left : max (later add closed l1) (add (add closed k1) p2) ≡ add closed inner = cc in cc

pub onward-fresh_first : (add : Sum) (S : IsSum add) (a : Counters) → onward add fresh a ≡ a
onward-fresh_first add S (Unsynced zero k) = let e = S.first k in cc
onward-fresh_first add S (Unsynced (suc l) k) =
    let e = S.first k in let f = S.first (suc l) in let g : max 0 (suc l) ≡ suc l = omega arith in cc
onward-fresh_first add S (Synced p l k) = let e = S.first p in let g : max 0 p ≡ p = omega arith in cc

pub onward-fresh_last : (add : Sum) (S : IsSum add) (a : Counters) → onward add a fresh ≡ a
onward-fresh_last add S (Unsynced l k) = let e = S.last k in let f : max l 0 ≡ l = omega arith in cc
onward-fresh_last add S (Synced p l k) = let e = S.last k in let f : max l 0 ≡ l = omega arith in cc

-- each operation is a join with the counters of one event
pub ticked_onward : (add : Sum) (n : ℕ) (c : Counters) → ticked add n c ≡ onward add c (Unsynced 0 n)
ticked_onward add n (Unsynced l k) = let f : max l 0 ≡ l = omega arith in cc
ticked_onward add n (Synced p l k) = let f : max l 0 ≡ l = omega arith in cc

pub forked_onward : (add : Sum) (burden : Burden) (child : ℕ) (c : Counters)
    → forked add burden child c ≡ onward add c (Unsynced (add (at_child burden) child) (at_rest burden))
forked_onward add burden child (Unsynced l k) = refl
forked_onward add burden child (Synced p l k) = refl

pub synced_onward : (add : Sum) (S : IsSum add) (c : Counters) → synced c ≡ onward add c (Synced 0 0 0)
synced_onward add S (Unsynced l k) = let e = S.last k in cc
synced_onward add S (Synced p l k) = let e = S.last k in let f = S.last (max l k) in cc

-- the counters of a concatenation of events
pub of_events-append : (burden : Burden) (a b : List Event)
    → of_events burden (a ++ b) ≡ onward exactly (of_events burden a) (of_events burden b)
of_events-append burden [] b = sym (onward-fresh_first exactly exactly_is (of_events burden b))
of_events-append burden (e ∷ a) b =
    ap (onward exactly (of_event burden e)) (of_events-append burden a b) ∙ sym
    (onward-assoc exactly exactly_is (of_event burden e) (of_events burden a) (of_events burden b))

-- the counters give the burdened spans of the two parts of a tree
abbrev pub Reads : Counters → (first second : ℕ) → Type 0
Reads (Unsynced l k) first second = (max l k ≡ first) × (0 ≡ second)
Reads (Synced p l k) first second = (p ≡ first) × (max l k ≡ second)

reads_work : (w first second : ℕ) (c : Counters) → Reads c first second
    → Reads (onward exactly (Unsynced 0 w) c) (w + first) second
reads_work w first second (Unsynced zero k) h = (omega arith, h.1)
reads_work w first second (Unsynced (suc l) k) h = (omega arith, h.1)
reads_work w first second (Synced p l k) h = (omega arith, h.1)

reads_fork : (child charge first second : ℕ) (c : Counters) → Reads c first second
    → Reads (onward exactly (Unsynced child charge) c) (max child (charge + first)) second
reads_fork child charge first second (Unsynced zero k) h = (omega arith, h.1)
reads_fork child charge first second (Unsynced (suc l) k) h = (omega arith, h.1)
reads_fork child charge first second (Synced p l k) h = (omega arith, h.1)

reads_join : (first second : ℕ) (c : Counters) → Reads c first second
    → Reads (onward exactly (Synced 0 0 0) c) 0 (first + second)
reads_join first second (Unsynced zero k) h = (refl, omega arith)
reads_join first second (Unsynced (suc l) k) h = (refl, omega arith)
reads_join first second (Synced p zero k) h = (refl, omega arith)
reads_join first second (Synced p (suc l) k) h = (refl, omega arith)

reads_parts : (burden : Burden) (events : List Event)
    → Reads (of_events burden events) (burdened_span burden (parts_of events).0)
    (burdened_span burden (parts_of events).1)
reads_parts burden [] = (refl, refl)
reads_parts burden (Work k ∷ events) =
    reads_work k (burdened_span burden (parts_of events).0) (burdened_span burden (parts_of events).1)
    (of_events burden events) (reads_parts burden events)
reads_parts burden (Series t ∷ events) =
    reads_work (burdened_span burden t) (burdened_span burden (parts_of events).0)
    (burdened_span burden (parts_of events).1) (of_events burden events) (reads_parts burden events)
reads_parts burden (Fork t ∷ events) =
    reads_fork (at_child burden + burdened_span burden t) (at_rest burden) (burdened_span burden (parts_of events).0)
    (burdened_span burden (parts_of events).1) (of_events burden events) (reads_parts burden events)
reads_parts burden (Join ∷ events) =
    reads_join (burdened_span burden (parts_of events).0) (burdened_span burden (parts_of events).1)
    (of_events burden events) (reads_parts burden events)

reads_reading : (c : Counters) (first second : ℕ) → Reads c first second → heaviest exactly c ≡ first + second
reads_reading (Unsynced l k) first second h = omega arith
reads_reading (Synced p l k) first second h = omega arith

-- the counters give the burdened span of the tree of the events so far
pub heaviest-of_events : (burden : Burden) (events : List Event)
    → heaviest exactly (of_events burden events) ≡ burdened_span burden (tree_of events)
heaviest-of_events burden events =
    reads_reading (of_events burden events) (burdened_span burden (parts_of events).0)
    (burdened_span burden (parts_of events).1) (reads_parts burden events)
