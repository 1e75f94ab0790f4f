-- Two runs with the same behaviour, up to the grouping of the parts of their trees.
use Rattle.std.proofs.Common.{◌≡◌, ℕ, zero, suc, ◌+◌, ◌-◌, ◌≤◌, Bool, true, false, ℤ, List, [], ◌∷◌, ◌++◌, arith, refl, sym, ◌∙◌, ap, append_assoc, append-nil}
use Rattle.std.specs.Prelude.{nat_lt, if◌then◌else◌}
use Rattle.std.proofs.lemmas.Bool.{ltb-false, ltb-true}
use Rattle.cw_model.specs.declared.trap.Trap.{Trap}
use Rattle.cw_model.specs.Syntax.{Name}
use Rattle.cw_model.specs.Trees.{Tree, Leaf, Event, Work, Series, Fork, Join, works, parts_of, tree_of}
use Rattle.cw_model.specs.TreeLaws.{Regrouped, same, in_series, in_fork}
use Rattle.cw_model.specs.Expressions.{Gives}
use Rattle.cw_model.specs.Outcome.{Trace, shows, quiet, joined, Outcome, Done, Trapped, Over, after, then_do, pay, pay_for, joined_up}

-- the events are the same, and the tree of each part may be grouped differently
pub data SameEvents : List Event → List Event → Type 0 where
  no_event : SameEvents [] []
  same_work : {k : ℕ} {es fs : List Event} → SameEvents es fs → SameEvents (Work k ∷ es) (Work k ∷ fs)
  same_series : {t u : Tree} {es fs : List Event} → Regrouped t u → SameEvents es fs → SameEvents (Series t ∷ es) (Series u ∷ fs)
  same_fork : {t u : Tree} {es fs : List Event} → Regrouped t u → SameEvents es fs → SameEvents (Fork t ∷ es) (Fork u ∷ fs)
  same_join : {es fs : List Event} → SameEvents es fs → SameEvents (Join ∷ es) (Join ∷ fs)

pub same_append : {es fs es' fs' : List Event} → SameEvents es fs → SameEvents es' fs' → SameEvents (es ++ es') (fs ++ fs')
same_append no_event h = h
same_append (same_work r) h = same_work (same_append r h)
same_append (same_series e r) h = same_series e (same_append r h)
same_append (same_fork e r) h = same_fork e (same_append r h)
same_append (same_join r) h = same_join (same_append r h)

pub same_events : (es : List Event) → SameEvents es es
same_events [] = no_event
same_events (Work k ∷ es) = same_work (same_events es)
same_events (Series t ∷ es) = same_series (same t) (same_events es)
same_events (Fork t ∷ es) = same_fork (same t) (same_events es)
same_events (Join ∷ es) = same_join (same_events es)

pub same_parts : {es fs : List Event} → SameEvents es fs → Regrouped (parts_of es).0 (parts_of fs).0 × Regrouped (parts_of es).1 (parts_of fs).1
same_parts no_event = (same (Leaf 0), same (Leaf 0))
same_parts (same_work {k = k} r) = let h = same_parts r in (in_series (same (Leaf k)) h.0, h.1)
same_parts (same_series e r) = let h = same_parts r in (in_series e h.0, h.1)
same_parts (same_fork e r) = let h = same_parts r in (in_fork e h.0, h.1)
same_parts (same_join r) = let h = same_parts r in (same (Leaf 0), in_series h.0 h.1)

pub same_tree : {es fs : List Event} → SameEvents es fs → Regrouped (tree_of es) (tree_of fs)
same_tree r = let h = same_parts r in in_series h.0 h.1

-- two runs with this budget behave in the same way, and their results are related
pub data Alike {A B : Type 0} (R : A → B → Type 0) (given : ℕ) : Outcome A → Outcome B → Type 0 where
  both_done : {a : A} {b : B} {left : ℕ} {t u : Trace} → R a b → left ≤ given → t.lines ≡ u.lines → t.updates ≡ u.updates → SameEvents t.events u.events → Alike R given (Done a left t) (Done b left u)
  both_trapped : {trap : Trap} {line : ℕ} {lines lines' : List ℤ} → lines ≡ lines' → Alike R given (Trapped trap line lines) (Trapped trap line lines')
  both_over : Alike R given Over Over

-- two runs with this budget behave in the same way, where only the trees of the whole runs are compared
pub data Whole {A B : Type 0} (R : A → B → Type 0) (given : ℕ) : Outcome A → Outcome B → Type 0 where
  whole_done : {a : A} {b : B} {left : ℕ} {t u : Trace} → R a b → left ≤ given → t.lines ≡ u.lines → t.updates ≡ u.updates
      → Regrouped (tree_of t.events) (tree_of u.events) → Whole R given (Done a left t) (Done b left u)
  whole_trapped : {trap : Trap} {line : ℕ} {lines lines' : List ℤ} → lines ≡ lines' → Whole R given (Trapped trap line lines) (Trapped trap line lines')
  whole_over : Whole R given Over Over

pub as_whole : {A B : Type 0} {R : A → B → Type 0} {given : ℕ} {o : Outcome A} {o' : Outcome B} → Alike R given o o' → Whole R given o o'
as_whole (both_done r le l a e) = whole_done r le l a (same_tree e)
as_whole (both_trapped e) = whole_trapped e
as_whole both_over = whole_over

pub alike_weaken : {A B : Type 0} {R S : A → B → Type 0} {given given' : ℕ} {o : Outcome A} {o' : Outcome B} →
    ((a : A) (b : B) → R a b → S a b) → given ≤ given' → Alike R given o o' → Alike S given' o o'
alike_weaken f h (both_done r le l a e) = both_done (f _ _ r) (omega arith) l a e
alike_weaken f h (both_trapped e) = both_trapped e
alike_weaken f h both_over = both_over

pub whole_weaken : {A B : Type 0} {R S : A → B → Type 0} {given given' : ℕ} {o : Outcome A} {o' : Outcome B} →
    ((a : A) (b : B) → R a b → S a b) → given ≤ given' → Whole R given o o' → Whole S given' o o'
whole_weaken f h (whole_done r le l a e) = whole_done (f _ _ r) (omega arith) l a e
whole_weaken f h (whole_trapped e) = whole_trapped e
whole_weaken f h whole_over = whole_over

pub appended : {A : Type 0} {a b c d : List A} → a ≡ b → c ≡ d → a ++ c ≡ b ++ d
appended e f = cc

pub alike_after : {A B : Type 0} {R : A → B → Type 0} {left given : ℕ} {t u : Trace} {o : Outcome A} {o' : Outcome B} →
    left ≤ given → t.lines ≡ u.lines → t.updates ≡ u.updates → SameEvents t.events u.events → Alike R left o o' → Alike R given (after t o) (after u o')
alike_after le l a e (both_done r le' l' a' e') = both_done r (omega arith) (appended l l') (appended a a') (same_append e e')
alike_after le l a e (both_trapped l') = both_trapped (appended l l')
alike_after le l a e both_over = both_over

-- related runs with related continuations are related
pub alike_then : {A B C D : Type 0} {R : A → B → Type 0} {S : C → D → Type 0} {given : ℕ} {o : Outcome A} {o' : Outcome B} {go : A → ℕ → Outcome C} {go' : B → ℕ → Outcome D} →
    Alike R given o o' → ((a : A) (b : B) (left : ℕ) → R a b → left ≤ given → Alike S left (go a left) (go' b left)) →
    Alike S given (then_do o go) (then_do o' go')
alike_then (both_done r le l a e) f = alike_after le l a e (f _ _ _ r le)
alike_then (both_trapped e) f = both_trapped e
alike_then both_over f = both_over

-- both runs pay the same number of instructions
pub alike_pay : {C D : Type 0} {S : C → D → Type 0} (cost left : ℕ) (go : Unit {0} → ℕ → Outcome C) (go' : Unit {0} → ℕ → Outcome D) →
    (cost ≤ left → Alike S (left - cost) (go tt (left - cost)) (go' tt (left - cost))) → Alike S left (then_do (pay cost left) go) (then_do (pay cost left) go')
alike_pay {C = C} {D = D} {S = S} cost left go go' f = by_test (nat_lt left cost) refl
  where
    by_test : (b : Bool) → nat_lt left cost ≡ b → Alike S left (then_do (if b then Over else Done tt (left - cost) (shows (works cost))) go)
        (then_do (if b then Over else Done tt (left - cost) (shows (works cost))) go')
    by_test true e = both_over
    by_test false e = alike_after {t = shows (works cost)} {u = shows (works cost)} (omega arith) refl refl (same_events (works cost)) (f (ltb-false left cost e))

-- both runs exceed the limit, or both trap
pub both_stop : {A C D : Type 0} {S : C → D → Type 0} (left : ℕ) (trap : Trap) (line : ℕ) (go : A → ℕ → Outcome C) (go' : A → ℕ → Outcome D) (b : Bool) →
    Alike S left (then_do (if b then Over else Trapped trap line []) go) (then_do (if b then Over else Trapped trap line []) go')
both_stop left trap line go go' true = both_over
both_stop left trap line go go' false = both_trapped refl

-- an event that represents a tree depends on the tree only up to regrouping
pub record Keeps (part : Tree → Event) : Type 0 where
  pub keeps : (t u : Tree) → Regrouped t u → SameEvents (part t ∷ []) (part u ∷ [])

pub series_keeps : Keeps Series
series_keeps = record { keeps = λ t u r. same_series r no_event }

pub fork_keeps : Keeps Fork
fork_keeps = record { keeps = λ t u r. same_fork r no_event }

pub alike_one : {A B : Type 0} {R : A → B → Type 0} {given : ℕ} {o : Outcome A} {o' : Outcome B} (part : Tree → Event) → Keeps part →
    Whole R given o o' → Alike R given (joined_up part o) (joined_up part o')
alike_one part k (whole_done r le l a e) = both_done r le l a (k.keeps _ _ e)
alike_one part k (whole_trapped e) = both_trapped e
alike_one part k whole_over = both_over

-- equations of outcomes

pub same_trace : (t : Trace) (l : List ℤ) (a : List (Name × ℤ)) (e : List Event) → l ≡ t.lines → a ≡ t.updates → e ≡ t.events →
    ◌≡◌ {A = Trace} (record { lines = l; updates = a; events = e }) t
same_trace t l a e p q r = rw (p, q, r) refl

pub after_after : {A : Type 0} (t u : Trace) (o : Outcome A) → after t (after u o) ≡ after (joined t u) o
after_after t u (Done a left v) =
    ap (Done a left) (same_trace (joined (joined t u) v) _ _ _ (sym (append_assoc t.lines u.lines v.lines))
    (sym (append_assoc t.updates u.updates v.updates)) (sym (append_assoc t.events u.events v.events)))
after_after t u (Trapped trap line lines) = ap (Trapped trap line) (sym (append_assoc t.lines u.lines lines))
after_after t u Over = refl

pub after_then : {A B : Type 0} (t : Trace) (o : Outcome A) (go : A → ℕ → Outcome B) → then_do (after t o) go ≡ after t (then_do o go)
after_then t (Done a left u) go = sym (after_after t u (go a left))
after_then t (Trapped trap line lines) go = refl
after_then t Over go = refl

pub then_then : {A B C : Type 0} (o : Outcome A) (f : A → ℕ → Outcome B) (g : B → ℕ → Outcome C) →
    then_do (then_do o f) g ≡ then_do o (λ a left. then_do (f a left) g)
then_then (Done a left t) f g = after_then t (f a left) g
then_then (Trapped trap line lines) f g = refl
then_then Over f g = refl

pub after_quiet : {A : Type 0} (o : Outcome A) → after quiet o ≡ o
after_quiet (Done a left t) = refl
after_quiet (Trapped trap line lines) = refl
after_quiet Over = refl

-- a continuation that does nothing
pub then_gives : {A : Type 0} (o : Outcome A) → then_do o (λ a left. Done a left quiet) ≡ o
then_gives (Done a left t) = ap (Done a left) (same_trace t _ _ _ (append-nil t.lines) (append-nil t.updates) (append-nil t.events))
then_gives (Trapped trap line lines) = refl
then_gives Over = refl

abbrev pub spent_to : ℕ → Trace → Outcome (Unit {0})
spent_to left t = Done tt left t

-- evaluating an expression that does not trap pays its cost
pub value_pays : {A : Type 0} (v : ℤ) (cost line left : ℕ) (go : ℤ → ℕ → Outcome A) → then_do (pay_for (Gives v cost) line left) go ≡ then_do (pay cost left) (λ _ l. go v l)
value_pays v cost line left go = by_test (nat_lt left cost)
  where
    by_test : (b : Bool) → then_do (if b then Over else Done v (left - cost) (shows (works cost))) go ≡ then_do (if b then Over else spent_to (left - cost) (shows (works cost))) (λ _ l. go v l)
    by_test true = refl
    by_test false = refl

works-append : (a b : ℕ) → works a ++ works b ≡ works (a + b)
works-append zero b = let e : b ≡ 0 + b = omega arith in ap works e
works-append (suc a) b = let e : suc (a + b) ≡ suc a + b = omega arith in ap (λ es. Work 1 ∷ es) (works-append a b) ∙ ap works e

-- a payment in two parts
pub pay_pay : {A : Type 0} (a b left : ℕ) (go : Unit {0} → ℕ → Outcome A) → then_do (pay a left) (λ _ l. then_do (pay b l) go) ≡ then_do (pay (a + b) left) go
pay_pay a b left go = by_test (nat_lt left a) (nat_lt (left - a) b) (nat_lt left (a + b)) refl refl refl
  where
    paid : (left - a) - b ≡ left - (a + b) → after (shows (works a)) (after (shows (works b)) (go tt (left - a - b))) ≡ after (shows (works (a + b))) (go tt (left - (a + b)))
    paid e = after_after (shows (works a)) (shows (works b)) (go tt (left - a - b)) ∙ rw (works-append a b, e) refl

    by_test : (p q r : Bool) → nat_lt left a ≡ p → nat_lt (left - a) b ≡ q → nat_lt left (a + b) ≡ r →
        then_do (if p then Over else spent_to (left - a) (shows (works a))) (λ _ l. then_do (if (nat_lt l b) then Over else spent_to (l - b) (shows (works b))) go)
        ≡ then_do (if r then Over else spent_to (left - (a + b)) (shows (works (a + b)))) go
    by_test true q true e f g = refl
    by_test true q false e f g = absurd (omega (arith, ltb-true left a e, ltb-false left (a + b) g))
    by_test false true true e f g = rw f refl
    by_test false true false e f g = absurd (omega (arith, ltb-false left a e, ltb-true (left - a) b f, ltb-false left (a + b) g))
    by_test false false true e f g = absurd (omega (arith, ltb-false left a e, ltb-false (left - a) b f, ltb-true left (a + b) g))
    by_test false false false e f g = rw f (paid (omega arith))
