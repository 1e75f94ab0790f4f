-- Lemmas about chosen paths: they join in any grouping, and the counters of events give the chosen path of their
-- tree.
use Rattle.std.specs.Prelude.{◌≡◌, ℕ, ◌+◌, ◌==◌, ◌≤◌, ◌<◌, Bool, true, false, List, [], ◌∷◌, Option, Some, None}
use Rattle.std.specs.Prelude.{if◌then◌else◌, refl}
use Rattle.std.proofs.Common.{sym, ◌∙◌, ap, subst, inl, inr, arith}
use Rattle.std.proofs.lemmas.Bool.{cases_lt}
use Rattle.std.proofs.lemmas.Bool.Decides.{nat_tests}
use Rattle.cw_model.specs.Trees.{Tree, Leaf, Seq, Par, Marked, Event, Work, Series, Fork, Join, span, tree_of, parts_of}
use Rattle.cw_model.specs.Rows.{site_inside}
use Rattle.cw_sites.specs.ChosenPaths.{Path, nowhere, plus, heavier, steps_of, chosen, PathCounters, Unsynced, Synced}
use Rattle.cw_sites.specs.ChosenPaths.{later, either, best, onward, fresh, reading, of_events}

pub plus-assoc : (a b c : Path) → plus (plus a b) c ≡ plus a (plus b c)
plus-assoc a b c =
    let w : (a.weight + b.weight) + c.weight
    ≡ a.weight + (b.weight + c.weight) = omega arith in let o : (a.own + b.own) + c.own
    ≡ a.own + (b.own + c.own) = omega arith in cc

pub plus-nowhere_first : (a : Path) → plus nowhere a ≡ a
plus-nowhere_first a =
    let w : 0 + a.weight ≡ a.weight = omega arith in let o : 0 + a.own ≡ a.own = omega arith in simp (w, o)

pub plus-nowhere_last : (a : Path) → plus a nowhere ≡ a
plus-nowhere_last a =
    let w : a.weight + 0 ≡ a.weight = omega arith in let o : a.own + 0 ≡ a.own = omega arith in simp (w, o)

pub takes_second : (a b : Path) → a.weight < b.weight → heavier a b ≡ b
takes_second a b h = grind (arith, nat_tests)

pub takes_first : (a b : Path) → b.weight ≤ a.weight → heavier a b ≡ a
takes_first a b h = grind (arith, nat_tests)

pub heavier-assoc : (a b c : Path) → heavier (heavier a b) c ≡ heavier a (heavier b c)
heavier-assoc a b c = elim (cases_lt a.weight b.weight) [
  | inl ab ↦ elim (cases_lt b.weight c.weight) [
    | inl bc ↦ ap (λ (x : Path). heavier x c) (takes_second a b ab) ∙ takes_second b c bc ∙ sym
        (ap (heavier a) (takes_second b c bc) ∙ takes_second a c (omega arith))
    | inr bc ↦ ap (λ (x : Path). heavier x c) (takes_second a b ab) ∙ takes_first b c bc ∙ sym
        (ap (heavier a) (takes_first b c bc) ∙ takes_second a b ab)
  ]
  | inr ab ↦ elim (cases_lt b.weight c.weight) [
    | inl bc ↦ ap (λ (x : Path). heavier x c) (takes_first a b ab) ∙ sym (ap (heavier a) (takes_second b c bc))
    | inr bc ↦ ap (λ (x : Path). heavier x c) (takes_first a b ab) ∙ takes_first a c (omega arith) ∙ sym
        (ap (heavier a) (takes_first b c bc) ∙ takes_first a b ab)
  ]
]

pub plus-heavier : (k a b : Path) → plus k (heavier a b) ≡ heavier (plus k a) (plus k b)
plus-heavier k a b = elim (cases_lt a.weight b.weight) [
  | inl ab ↦ ap (plus k) (takes_second a b ab) ∙ sym (takes_second (plus k a) (plus k b) (omega arith))
  | inr ab ↦ ap (plus k) (takes_first a b ab) ∙ sym (takes_first (plus k a) (plus k b) (omega arith))
]

pub later-later : (j k : Path) (l : Option Path) → later j (later k l) ≡ later (plus j k) l
later-later j k None = refl
later-later j k (Some l) = ap Some (sym (plus-assoc j k l))

pub later-either : (k : Path) (l m : Option Path) → later k (either l m) ≡ either (later k l) (later k m)
later-either k None m = refl
later-either k (Some l) None = refl
later-either k (Some l) (Some m) = ap Some (plus-heavier k l m)

pub either-assoc : (a b c : Option Path) → either (either a b) c ≡ either a (either b c)
either-assoc None b c = refl
either-assoc (Some a) None c = refl
either-assoc (Some a) (Some b) None = refl
either-assoc (Some a) (Some b) (Some c) = ap Some (heavier-assoc a b c)

pub either-none : (a : Option Path) → either a None ≡ a
either-none None = refl
either-none (Some a) = refl

pub best-either : (l m : Option Path) (p : Path) → best (either l m) p ≡ best l (best m p)
best-either None m p = refl
best-either (Some l) None p = refl
best-either (Some l) (Some m) p = heavier-assoc l m p

pub plus-best : (k : Path) (l : Option Path) (p : Path) → plus k (best l p) ≡ best (later k l) (plus k p)
plus-best k None p = refl
plus-best k (Some l) p = plus-heavier k l p

pub best-later : (l l' : Option Path) (k p : Path)
    → best (either l (later k l')) (plus k p) ≡ best l (plus k (best l' p))
best-later l l' k p = best-either l (later k l') (plus k p) ∙ ap (best l) (sym (plus-best k l' p))

pub later-nowhere : (l : Option Path) → later nowhere l ≡ l
later-nowhere None = refl
later-nowhere (Some l) = ap Some (plus-nowhere_first l)

regroup : (l l1 l2 : Option Path) (k k1 : Path)
    → either (either l (later k l1)) (later (plus k k1) l2) ≡ either l (later k (either l1 (later k1 l2)))
regroup l l1 l2 k k1 = either-assoc l (later k l1) (later (plus k k1) l2)
    ∙ ap (λ (x : Option Path). either l (either (later k l1) x)) (sym (later-later k k1 l2))
    ∙ ap (either l) (sym (later-either k l1 (later k1 l2)))

close : (l l1 : Option Path) (k k1 p2 : Path)
    → best (either l (later k l1)) (plus (plus k k1) p2) ≡ best l (plus k (best l1 (plus k1 p2)))
close l l1 k k1 p2 = ap (best (either l (later k l1))) (plus-assoc k k1 p2) ∙ best-later l l1 k (plus k1 p2)

pub onward-assoc : (a b c : PathCounters) → onward (onward a b) c ≡ onward a (onward b c)
onward-assoc (Unsynced l k) (Unsynced l1 k1) (Unsynced l2 k2) =
    let e = regroup l l1 l2 k k1 in let f = plus-assoc k k1 k2 in cc
onward-assoc (Unsynced l k) (Unsynced l1 k1) (Synced p2 l2 k2) = ap (λ (x : Path). Synced x l2 k2) (close l l1 k k1 p2)
onward-assoc (Unsynced l k) (Synced p1 l1 k1) (Unsynced l2 k2) = refl
onward-assoc (Unsynced l k) (Synced p1 l1 k1) (Synced p2 l2 k2) = refl
onward-assoc (Synced p l k) (Unsynced l1 k1) (Unsynced l2 k2) =
    let e = regroup l l1 l2 k k1 in let f = plus-assoc k k1 k2 in cc
onward-assoc (Synced p l k) (Unsynced l1 k1) (Synced p2 l2 k2) =
    ap (λ (x : Path). Synced p (later x l2) (plus x k2)) (close l l1 k k1 p2)
onward-assoc (Synced p l k) (Synced p1 l1 k1) (Unsynced l2 k2) =
    let c = best l (plus k p1) in
    let e : either (later c l1) (later (plus c k1) l2) ≡ later c (either l1 (later k1 l2)) =
    ap (either (later c l1)) (sym (later-later c k1 l2)) ∙ sym (later-either c l1 (later k1 l2)) in
    let f = plus-assoc c k1 k2 in cc
onward-assoc (Synced p l k) (Synced p1 l1 k1) (Synced p2 l2 k2) =
    let c = best l (plus k p1) in
    let d = best l1 (plus k1 p2) in
    let same : best (later c l1) (plus (plus c k1) p2) ≡ plus c d =
    ap (best (later c l1)) (plus-assoc c k1 p2) ∙ sym (plus-best c l1 (plus k1 p2)) in
    ap (λ (x : Path). Synced p (later x l2) (plus x k2)) same
    ∙ ap (λ (x : Option Path). Synced p x (plus (plus c d) k2)) (sym (later-later c d l2))
    ∙ ap (λ (x : Path). Synced p (later c (later d l2)) x) (plus-assoc c d k2)

pub onward-fresh_first : (a : PathCounters) → onward fresh a ≡ a
onward-fresh_first (Unsynced l k) = let e = later-nowhere l in let f = plus-nowhere_first k in cc
onward-fresh_first (Synced p l k) = ap (λ (x : Path). Synced x l k) (plus-nowhere_first p)

pub onward-fresh_last : (a : PathCounters) → onward a fresh ≡ a
onward-fresh_last (Unsynced l k) = let e = either-none l in let f = plus-nowhere_last k in cc
onward-fresh_last (Synced p l k) = let e = either-none l in let f = plus-nowhere_last k in cc

-- the counters of a piece give the chosen paths of the two parts of a tree
abbrev pub Reads : PathCounters → (first second : Path) → Type 0
Reads (Unsynced l k) first second = (best l k ≡ first) × (nowhere ≡ second)
Reads (Synced p l k) first second = (p ≡ first) × (best l k ≡ second)

pub reads_work : (w first second : Path) (c : PathCounters) → Reads c first second
    → Reads (onward (Unsynced None w) c) (plus w first) second
reads_work w first second (Unsynced l k) h = (sym (plus-best w l k) ∙ ap (plus w) h.0, h.1)
reads_work w first second (Synced p l k) h = (ap (plus w) h.0, h.1)

pub reads_fork : (s first second : Path) (c : PathCounters) → Reads c first second
    → Reads (onward (Unsynced (Some s) nowhere) c) (heavier s first) second
reads_fork s first second (Unsynced l k) h =
    (best-later (Some s) l nowhere k ∙ ap (heavier s) (plus-nowhere_first (best l k) ∙ h.0), h.1)
reads_fork s first second (Synced p l k) h = (ap (heavier s) (plus-nowhere_first p ∙ h.0), h.1)

pub reads_join : (first second : Path) (c : PathCounters) → Reads c first second
    → Reads (onward (Synced nowhere None nowhere) c) nowhere (plus first second)
reads_join first second (Unsynced l k) h = (
  refl,
  sym (plus-best nowhere l k) ∙ plus-nowhere_first (best l k) ∙ h.0 ∙ sym (plus-nowhere_last first) ∙ ap
      (plus first) h.1,
)
reads_join first second (Synced p l k) h = (
  refl,
  sym (plus-best (plus nowhere p) l k) ∙ ap (λ (x : Path). plus x (best l k)) (plus-nowhere_first p ∙ h.0) ∙ ap
      (plus first) h.1,
)

zero_leaf : (site here : ℕ) → nowhere ≡ chosen site here (Leaf 0)
zero_leaf site here =
    elim (here == site) as (λ (b : Bool). nowhere ≡ record { weight = 0; own = if b then 0 else 0 })
    [ true ↦ refl | false ↦ refl ]

pub reads_parts : (site here : ℕ) (events : List Event)
    → Reads (of_events site here events) (chosen site here (parts_of events).0) (chosen site here (parts_of events).1)
reads_parts site here [] = (zero_leaf site here, zero_leaf site here)
reads_parts site here (Work k ∷ events) =
    reads_work (steps_of site here k) (chosen site here (parts_of events).0) (chosen site here (parts_of events).1)
    (of_events site here events) (reads_parts site here events)
reads_parts site here (Series t ∷ events) =
    reads_work (chosen site here t) (chosen site here (parts_of events).0) (chosen site here (parts_of events).1)
    (of_events site here events) (reads_parts site here events)
reads_parts site here (Fork t ∷ events) =
    reads_fork (chosen site here t) (chosen site here (parts_of events).0) (chosen site here (parts_of events).1)
    (of_events site here events) (reads_parts site here events)
reads_parts site here (Join ∷ events) =
    let P : Path → Type 0 =
    λ p. Reads (of_events site here (Join ∷ events)) p
    (plus (chosen site here (parts_of events).0) (chosen site here (parts_of events).1)) in
    subst P (zero_leaf site here) (reads_join (chosen site here (parts_of events).0)
    (chosen site here (parts_of events).1) (of_events site here events) (reads_parts site here events))

pub reads_reading : (c : PathCounters) (first second : Path) → Reads c first second → reading c ≡ plus first second
reads_reading (Unsynced l k) first second h = h.0 ∙ sym (plus-nowhere_last first) ∙ ap (plus first) h.1
reads_reading (Synced p l k) first second h = ap (λ (x : Path). plus x (best l k)) h.0 ∙ ap (plus first) h.1

-- the counters give the chosen path of the tree of the events so far
pub reading-of_events : (site here : ℕ) (events : List Event)
    → reading (of_events site here events) ≡ chosen site here (tree_of events)
reading-of_events site here events =
    reads_reading (of_events site here events) (chosen site here (parts_of events).0)
    (chosen site here (parts_of events).1) (reads_parts site here events)

-- the chosen path is a heaviest path
pub chosen-weight : (site here : ℕ) (t : Tree) → (chosen site here t).weight ≡ span t
chosen-weight site here (Leaf k) = refl
chosen-weight site here (Seq a b) =
    let e = chosen-weight site here a in let f = chosen-weight site here b in omega arith
chosen-weight site here (Par child rest) =
    let e = chosen-weight site here child in let f = chosen-weight site here rest in
    elim (cases_lt (chosen site here child).weight (chosen site here rest).weight) [
      | inl h ↦ ap (λ (p : Path). p.weight) (takes_second (chosen site here child) (chosen site here rest) h) ∙ omega
          arith
      | inr h ↦ ap (λ (p : Path). p.weight) (takes_first (chosen site here child) (chosen site here rest) h) ∙ omega
          arith
    ]
chosen-weight site here (Marked mark t) = chosen-weight site (site_inside mark here) t
