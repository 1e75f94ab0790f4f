-- The serial run within a limit is the whole run, tested against the limit, and so the runs of pieces join to it.
use Rattle.std.specs.Prelude.{◌≡◌, ℕ, ℤ, ◌+◌, ◌-◌, nat_lt, Bool, true, false, List, Option, Some, None, refl}
use Rattle.std.proofs.Common.{sym, ◌∙◌, ap, arith}
use Rattle.std.proofs.lemmas.List.{append-nil, append_assoc}
use Rattle.cw_facts.specs.Tests.{not_lt_of, lt_of, not_below}
use Rattle.cw_model.specs.declared.trap.Trap.{Trap}
use Rattle.cw_model.specs.Syntax.{Name}
use Rattle.cw_model.specs.Trees.{Mark, Event}
use Rattle.cw_model.specs.Outcome.{Trace, quiet, joined}
use Rattle.cw_measure.specs.lemmas.OpenParts.{work-append}
use Rattle.cw_part.specs.Parts.{IsLawful, Came, Completed, Trapped, Over, Memory, followed, seen, over_if, within}
use Rattle.cw_part.specs.PartFacts.{tested_stays}
use Rattle.cw_part.specs.PartLaws.{followed-assoc, none_followed, tested_first, tested_second}
use Rattle.cw_part.specs.Runs.{Run, Ends, Shows, Traps, Inside, then_run, cost, traces, as_event, goes_on, serial}

pub cost_both : (t u : Trace) → cost (joined t u) ≡ cost t + cost u
cost_both t u = work-append t.events u.events

pub cost_inside : (spawned : Bool) (mark : Option Mark) (t : Trace) → cost (as_event spawned mark t) ≡ cost t
cost_inside true None t = omega arith
cost_inside true (Some mark) t = omega arith
cost_inside false None t = omega arith
cost_inside false (Some mark) t = omega arith

-- traces make a monoid
abbrev trace_with : List ℤ → List (Name × ℤ) → List Event → Trace
trace_with l a e = record { lines = l; updates = a; events = e }

same_trace : {l l' : List ℤ} {a a' : List (Name × ℤ)} {e e' : List Event} → l ≡ l' → a ≡ a' → e ≡ e' → trace_with l a e ≡ trace_with l' a' e'
same_trace h i j = cc

pub traces_are_lawful : IsLawful Trace traces
traces_are_lawful = record {
  none_first = λ a. refl;
  none_last = λ a. same_trace (append-nil a.lines) (append-nil a.updates) (append-nil a.events);
  regroup = λ a b c.
      same_trace (append_assoc a.lines b.lines c.lines)
      (append_assoc a.updates b.updates c.updates) (append_assoc a.events b.events c.events);
  no_work = refl;
  above_first = λ a b. let e = cost_both a b in omega arith;
  above_second = λ a b. let e = cost_both a b in omega arith;
}

-- what a run comes to without a limit; it is never refused memory
abbrev pub meaning : Run → Came Trace
meaning Ends = Completed quiet
meaning (Shows t rest) = followed traces (Completed t) (meaning rest)
meaning (Traps trap line t) = Trapped trap line t
meaning (Inside spawned mark inner rest) = followed traces (seen (as_event spawned mark) (meaning inner)) (meaning rest)

abbrev pub IsNoMemory : Came Trace → Type 0
IsNoMemory (Completed t) = Unit {0}
IsNoMemory (Trapped trap line t) = Unit {0}
IsNoMemory Over = Unit {0}
IsNoMemory Memory = ⊥

none_followed_on : (x y : Came Trace) → IsNoMemory x → IsNoMemory y → IsNoMemory (followed traces x y)
none_followed_on (Completed t) (Completed u) h k = tt
none_followed_on (Completed t) (Trapped trap line u) h k = tt
none_followed_on (Completed t) Over h k = tt
none_followed_on (Completed t) Memory h k = absurd k
none_followed_on (Trapped trap line t) (Completed u) h k = tt
none_followed_on (Trapped trap line t) (Trapped trap' line' u) h k = tt
none_followed_on (Trapped trap line t) Over h k = tt
none_followed_on (Trapped trap line t) Memory h k = absurd k
none_followed_on Over (Completed u) h k = tt
none_followed_on Over (Trapped trap line u) h k = tt
none_followed_on Over Over h k = tt
none_followed_on Over Memory h k = absurd k
none_followed_on Memory y h k = absurd h

none_seen : (f : Trace → Trace) (x : Came Trace) → IsNoMemory x → IsNoMemory (seen f x)
none_seen f (Completed t) h = tt
none_seen f (Trapped trap line t) h = tt
none_seen f Over h = tt
none_seen f Memory h = absurd h

pub none_meant : (run : Run) → IsNoMemory (meaning run)
none_meant Ends = tt
none_meant (Shows t rest) = none_followed_on (Completed t) (meaning rest) tt (none_meant rest)
none_meant (Traps trap line t) = tt
none_meant (Inside spawned mark inner rest) =
    none_followed_on (seen (as_event spawned mark) (meaning inner)) (meaning rest) (none_seen (as_event spawned mark) (meaning inner) (none_meant inner)) (none_meant rest)

-- what stopped stays, whatever follows
pub trap_stays : (trap : Trap) (line : ℕ) (t : Trace) (y : Came Trace) → IsNoMemory y → followed traces (Trapped trap line t) y ≡ Trapped trap line t
trap_stays trap line t (Completed u) h = refl
trap_stays trap line t (Trapped trap' line' u) h = refl
trap_stays trap line t Over h = refl
trap_stays trap line t Memory h = absurd h

pub over_stays : (y : Came Trace) → IsNoMemory y → followed traces Over y ≡ Over
over_stays (Completed u) h = refl
over_stays (Trapped trap line u) h = refl
over_stays Over h = refl
over_stays Memory h = absurd h

abbrev beyond : Came Trace
beyond = Over

over_over : (b : Bool) → over_if b beyond ≡ beyond
over_over true = refl
over_over false = refl

-- to test the first trace and then the second against what is left is to test both
both_tested : (left a b : ℕ) (t : Trace) (second both : Came Trace) → followed traces (Completed t) second ≡ both
    → over_if (nat_lt left a) (followed traces (Completed t) (over_if (nat_lt (left - a) b) second)) ≡ over_if (nat_lt left (a + b)) both
both_tested left a b t second both e = by_tests (nat_lt left a) (nat_lt (left - a) b) (nat_lt left (a + b)) refl refl refl
  where
    by_tests : (p q r : Bool) → nat_lt left a ≡ p → nat_lt (left - a) b ≡ q → nat_lt left (a + b) ≡ r → over_if p (followed traces (Completed t) (over_if q second)) ≡ over_if r both
    by_tests true q true h k l = refl
    by_tests true q false h k l = let x = lt_of left a h in let z = not_lt_of left (a + b) l in absurd (omega arith)
    by_tests false true true h k l = refl
    by_tests false true false h k l = let x = not_lt_of left a h in let y = lt_of (left - a) b k in let z = not_lt_of left (a + b) l in absurd (omega arith)
    by_tests false false true h k l = let x = not_lt_of left a h in let y = not_lt_of (left - a) b k in let z = lt_of left (a + b) l in absurd (omega arith)
    by_tests false false false h k l = e

spent : (left : ℕ) (t : Trace) (x : Came Trace) → IsNoMemory x → over_if (nat_lt left (cost t))
    (followed traces (Completed t) (within traces (left - cost t) x)) ≡ within traces left (followed traces (Completed t) x)
spent left t (Completed u) h =
    both_tested left (cost t) (cost u) t (Completed u) (Completed (joined t u)) refl ∙ ap (λ (k : ℕ). over_if (nat_lt left k) (Completed (joined t u))) (sym (cost_both t u))
spent left t (Trapped trap line u) h =
    both_tested left (cost t) (cost u) t (Trapped trap line u) (Trapped trap line (joined t u)) refl
    ∙ ap (λ (k : ℕ). over_if (nat_lt left k) (Trapped trap line (joined t u))) (sym (cost_both t u))
spent left t Over h = over_over (nat_lt left (cost t))
spent left t Memory h = absurd h

-- a part inside, and what follows
ran_inside : (b : Bool) (f : Trace → Trace) (t : Trace) (go : Trace → Came Trace) → goes_on (seen f (over_if b (Completed t))) go ≡ over_if b (followed traces (Completed (f t)) (go (f t)))
ran_inside true f t go = refl
ran_inside false f t go = refl

trapped_inside : (b : Bool) (f : Trace → Trace) (trap : Trap) (line : ℕ) (t : Trace) (go : Trace → Came Trace)
    → goes_on (seen f (over_if b (Trapped trap line t))) go ≡ over_if b (Trapped trap line (f t))
trapped_inside true f trap line t go = refl
trapped_inside false f trap line t go = refl

inside_tested : (left : ℕ) (f : Trace → Trace) (x y : Came Trace) (go : ℕ → Came Trace) → ((t : Trace) → cost (f t) ≡ cost t)
    → ((n : ℕ) → go n ≡ within traces n y) → IsNoMemory x → IsNoMemory y
    → goes_on (seen f (within traces left x)) (λ t. go (left - cost t)) ≡ within traces left (followed traces (seen f x) y)
inside_tested left f (Completed t) y go c g h k =
    ran_inside (nat_lt left (cost t)) f t (λ u. go (left - cost u))
    ∙ ap (λ (n : ℕ). over_if (nat_lt left n) (followed traces (Completed (f t)) (go (left - cost (f t))))) (sym (c t))
    ∙ ap (λ (z : Came Trace). over_if (nat_lt left (cost (f t))) (followed traces (Completed (f t)) z)) (g (left - cost (f t)))
    ∙ spent left (f t) y k
inside_tested left f (Trapped trap line t) y go c g h k =
    trapped_inside (nat_lt left (cost t)) f trap line t (λ u. go (left - cost u))
    ∙ ap (λ (n : ℕ). over_if (nat_lt left n) (Trapped trap line (f t))) (sym (c t))
    ∙ ap (within traces left) (sym (trap_stays trap line (f t) y k))
inside_tested left f Over y go c g h k = ap (within traces left) (sym (over_stays y k))
inside_tested left f Memory y go c g h k = absurd h

-- the serial run within a limit is the whole run, tested
pub serial_is : (run : Run) (left : ℕ) → serial left run ≡ within traces left (meaning run)
serial_is Ends left = sym (tested_stays traces left (Completed quiet) (not_below left (cost quiet) (omega arith)))
serial_is (Shows t rest) left =
    ap (λ (y : Came Trace). over_if (nat_lt left (cost t)) (followed traces (Completed t) y)) (serial_is rest (left - cost t))
    ∙ spent left t (meaning rest) (none_meant rest)
serial_is (Traps trap line t) left = refl
serial_is (Inside spawned mark inner rest) left =
    ap (λ (y : Came Trace). goes_on (seen (as_event spawned mark) y) (λ t. serial (left - cost t) rest)) (serial_is inner left)
    ∙ inside_tested left (as_event spawned mark) (meaning inner) (meaning rest) (λ n. serial n rest) (cost_inside spawned mark) (serial_is rest) (none_meant inner) (none_meant rest)

pub meaning_both : (a b : Run) → meaning (then_run a b) ≡ followed traces (meaning a) (meaning b)
meaning_both Ends b = sym (none_followed traces traces_are_lawful (meaning b))
meaning_both (Shows t rest) b =
    ap (followed traces (Completed t)) (meaning_both rest b) ∙ sym (followed-assoc traces traces_are_lawful (Completed t) (meaning rest) (meaning b))
meaning_both (Traps trap line t) b = sym (trap_stays trap line t (meaning b) (none_meant b))
meaning_both (Inside spawned mark inner rest) b =
    let x = seen (as_event spawned mark) (meaning inner) in
    ap (followed traces x) (meaning_both rest b) ∙ sym (followed-assoc traces traces_are_lawful x (meaning rest) (meaning b))

-- what is tested before both are tested is tested at the end
tested_both : (n : ℕ) (x y : Came Trace) → within traces n (followed traces (within traces n x) (within traces n y)) ≡ within traces n (followed traces x y)
tested_both n x y =
    tested_first traces traces_are_lawful n n x (within traces n y) (omega arith) ∙ tested_second traces traces_are_lawful n n x y (omega arith)

pub runs_join : (n : ℕ) (a b : Run) → within traces n (followed traces (serial n a) (serial n b)) ≡ serial n (then_run a b)
runs_join n a b =
    ap (λ (x : Came Trace). within traces n (followed traces x (serial n b))) (serial_is a n)
    ∙ ap (λ (y : Came Trace). within traces n (followed traces (within traces n (meaning a)) y)) (serial_is b n)
    ∙ tested_both n (meaning a) (meaning b) ∙ ap (within traces n) (sym (meaning_both a b)) ∙ sym (serial_is (then_run a b) n)

seen_tested : (n : ℕ) (f : Trace → Trace) → ((t : Trace) → cost (f t) ≡ cost t) → (x : Came Trace) → seen f (within traces n x) ≡ within traces n (seen f x)
seen_tested n f c (Completed t) = by_test (nat_lt n (cost t)) ∙ ap (λ (k : ℕ). over_if (nat_lt n k) (Completed (f t))) (sym (c t))
  where
    by_test : (b : Bool) → seen f (over_if b (Completed t)) ≡ over_if b (Completed (f t))
    by_test true = refl
    by_test false = refl
seen_tested n f c (Trapped trap line t) = by_test (nat_lt n (cost t)) ∙ ap (λ (k : ℕ). over_if (nat_lt n k) (Trapped trap line (f t))) (sym (c t))
  where
    by_test : (b : Bool) → seen f (over_if b (Trapped trap line t)) ≡ over_if b (Trapped trap line (f t))
    by_test true = refl
    by_test false = refl
seen_tested n f c Over = refl
seen_tested n f c Memory = refl

pub children_join : (n : ℕ) (spawned : Bool) (mark : Option Mark) (inner rest : Run)
    → within traces n (followed traces (seen (as_event spawned mark) (serial n inner)) (serial n rest)) ≡ serial n (Inside spawned mark inner rest)
children_join n spawned mark inner rest =
    let f = as_event spawned mark in
    ap (λ (x : Came Trace). within traces n (followed traces (seen f x) (serial n rest))) (serial_is inner n)
    ∙ ap (λ (x : Came Trace). within traces n (followed traces x (serial n rest))) (seen_tested n f (cost_inside spawned mark) (meaning inner))
    ∙ ap (λ (y : Came Trace). within traces n (followed traces (within traces n (seen f (meaning inner))) y)) (serial_is rest n)
    ∙ tested_both n (seen f (meaning inner)) (meaning rest) ∙ sym (serial_is (Inside spawned mark inner rest) n)
