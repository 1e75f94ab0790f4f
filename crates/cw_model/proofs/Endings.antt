-- The possible outcomes of a piece of a run, step by step.
use Rattle.std.proofs.Common.{◌≡◌, ℕ, ◌-◌, ◌≤◌, Bool, true, false, ℤ, List, [], ◌∷◌, ◌++◌, refl}
use Rattle.std.specs.Prelude.{nat_lt, if◌then◌else◌}
use Rattle.std.proofs.lemmas.Bool.{ltb-false}
use Rattle.cw_model.specs.declared.trap.Trap.{Trap}
use Rattle.cw_model.specs.Trees.{Tree, Event, works, tree_of}
use Rattle.cw_model.specs.Outcome.{Trace, shows, joined, Outcome, Done, Trapped, Over, after, then_do, pay, joined_up}

-- `done` holds if the piece is done, and `trapped` holds if it trapped
pub data Ends {A : Type 0} (done : A → ℕ → Trace → Type 0) (trapped : Trap → ℕ → List ℤ → Type 0) : Outcome A → Type 0 where
  at_end : {a : A} {left : ℕ} {t : Trace} → done a left t → Ends done trapped (Done a left t)
  at_trap : {trap : Trap} {line : ℕ} {lines : List ℤ} → trapped trap line lines → Ends done trapped (Trapped trap line lines)
  at_limit : Ends done trapped Over

pub weaken : {A : Type 0} {done done' : A → ℕ → Trace → Type 0} {trapped trapped' : Trap → ℕ → List ℤ → Type 0} {o : Outcome A} →
    ((a : A) (left : ℕ) (t : Trace) → done a left t → done' a left t) →
    ((trap : Trap) (line : ℕ) (lines : List ℤ) → trapped trap line lines → trapped' trap line lines) →
    Ends done trapped o → Ends done' trapped' o
weaken f g (at_end h) = at_end (f _ _ _ h)
weaken f g (at_trap h) = at_trap (g _ _ _ h)
weaken f g at_limit = at_limit

-- every outcome satisfies the equations with itself
pub itself : {A : Type 0} (o : Outcome A) → Ends (λ a left t. o ≡ Done a left t) (λ trap line lines. o ≡ Trapped trap line lines) o
itself (Done a left t) = at_end refl
itself (Trapped trap line lines) = at_trap refl
itself Over = at_limit

pub after_ends : {A : Type 0} {done : A → ℕ → Trace → Type 0} {trapped : Trap → ℕ → List ℤ → Type 0} {o : Outcome A} (t : Trace) →
    Ends (λ a left u. done a left (joined t u)) (λ trap line lines. trapped trap line (t.lines ++ lines)) o → Ends done trapped (after t o)
after_ends t (at_end h) = at_end h
after_ends t (at_trap h) = at_trap h
after_ends t at_limit = at_limit

-- two pieces in sequence
pub then_ends : {A B : Type 0} {before : A → ℕ → Trace → Type 0} {stopped trapped : Trap → ℕ → List ℤ → Type 0} {done : B → ℕ → Trace → Type 0}
    {o : Outcome A} {go : A → ℕ → Outcome B} → Ends before stopped o →
    ((a : A) (left : ℕ) (t : Trace) → before a left t →
    Ends (λ b left' u. done b left' (joined t u)) (λ trap line lines. trapped trap line (t.lines ++ lines)) (go a left)) →
    ((trap : Trap) (line : ℕ) (lines : List ℤ) → stopped trap line lines → trapped trap line lines) →
    Ends done trapped (then_do o go)
then_ends (at_end {t = t} h) f g = after_ends t (f _ _ _ h)
then_ends (at_trap h) f g = at_trap (g _ _ _ h)
then_ends at_limit f g = at_limit

-- a payment and the piece after it
pub pay_ends : {A : Type 0} {done : A → ℕ → Trace → Type 0} {trapped : Trap → ℕ → List ℤ → Type 0} (cost left : ℕ) (go : Unit {0} → ℕ → Outcome A) →
    (cost ≤ left → Ends (λ a left' u. done a left' (joined (shows (works cost)) u)) trapped (go tt (left - cost))) →
    Ends done trapped (then_do (pay cost left) go)
pay_ends {done = done} {trapped = trapped} cost left go f = by_test (nat_lt left cost) refl
  where
    by_test : (b : Bool) → nat_lt left cost ≡ b → Ends done trapped (then_do (if b then Over else Done tt (left - cost) (shows (works cost))) go)
    by_test true e = at_limit
    by_test false e = after_ends (shows (works cost)) (f (ltb-false left cost e))

-- the trace of a piece whose events are recorded as one event
abbrev pub one_part : (Tree → Event) → Trace → Trace
one_part part t = record { lines = t.lines; updates = t.updates; events = part (tree_of t.events) ∷ [] }

pub one_ends : {A : Type 0} {done : A → ℕ → Trace → Type 0} {trapped : Trap → ℕ → List ℤ → Type 0} {o : Outcome A} (part : Tree → Event) →
    Ends (λ a left t. done a left (one_part part t)) trapped o → Ends done trapped (joined_up part o)
one_ends part (at_end h) = at_end h
one_ends part (at_trap h) = at_trap h
one_ends part at_limit = at_limit

-- a piece whose events are one event, and the piece after it
pub one_then_ends : {A B : Type 0} {before : A → ℕ → Trace → Type 0} {stopped trapped : Trap → ℕ → List ℤ → Type 0} {done : B → ℕ → Trace → Type 0}
    {o : Outcome A} (part : Tree → Event) {go : A → ℕ → Outcome B} → Ends before stopped o →
    ((a : A) (left : ℕ) (t : Trace) → before a left t →
    Ends (λ b left' u. done b left' (joined (one_part part t) u)) (λ trap line lines. trapped trap line (t.lines ++ lines)) (go a left)) →
    ((trap : Trap) (line : ℕ) (lines : List ℤ) → stopped trap line lines → trapped trap line lines) →
    Ends done trapped (then_do (joined_up part o) go)
one_then_ends part (at_end {t = t} h) f g = after_ends (one_part part t) (f _ _ _ h)
one_then_ends part (at_trap h) f g = at_trap (g _ _ _ h)
one_then_ends part at_limit f g = at_limit

-- `done` holds for an outcome that is known to be done
pub when_done : {A : Type 0} {done : A → ℕ → Trace → Type 0} {trapped : Trap → ℕ → List ℤ → Type 0} {o : Outcome A} {a : A} {left : ℕ} {t : Trace} →
    o ≡ Done a left t → Ends done trapped o → done a left t
when_done {done = done} {trapped = trapped} {a = a} {left = left} {t = t} e h = go (rw e at h)
  where
    go : Ends done trapped (Done a left t) → done a left t
    go (at_end h) = h

pub when_trapped : {A : Type 0} {done : A → ℕ → Trace → Type 0} {trapped : Trap → ℕ → List ℤ → Type 0} {o : Outcome A} {trap : Trap} {line : ℕ} {lines : List ℤ} →
    o ≡ Trapped trap line lines → Ends done trapped o → trapped trap line lines
when_trapped {done = done} {trapped = trapped} {trap = trap} {line = line} {lines = lines} e h = go (rw e at h)
  where
    go : Ends done trapped (Trapped trap line lines) → trapped trap line lines
    go (at_trap h) = h
