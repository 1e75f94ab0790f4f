-- A piece of the model comes to what its run does, within each budget that the limit allows.
use Rattle.std.specs.Prelude.{◌≡◌, ℕ, zero, suc, ℤ, ◌+◌, ◌-◌, ◌<◌, ◌≤◌, nat_lt, if◌then◌else◌, Bool, true, false, List, [], ◌∷◌, Option, Some, None, refl}
use Rattle.std.proofs.Common.{sym, ◌∙◌, ap, subst, arith}
use Rattle.cw_facts.specs.Tests.{not_lt_of, below, lt_of}
use Rattle.cw_model.specs.declared.trap.Trap.{Trap}
use Rattle.cw_model.specs.Trees.{Mark, Work, works}
use Rattle.cw_model.specs.Outcome.{Trace, quiet, joined, shows, Outcome, Done, Piece, ◌>>=◌, after, then_do, joined_up, as_one}
use Rattle.cw_model.specs.Outcome as model
use Rattle.cw_code.specs.lemmas.Runs.{joined_quiet}
use Rattle.cw_measure.specs.OpenParts.{marked, part_of}
use Rattle.cw_part.specs.Parts.{Came, Completed, Trapped, Over, Memory, followed, seen, over_if, within}
use Rattle.cw_part.specs.Runs.{Run, cost, traces, as_event}
use Rattle.cw_part.specs.PieceRuns.{Kind, OfNothing, OfInt, Given, Exit, exit_of, instructions, IsRunOf, Nothing, Free, Paid, Valued}
use Rattle.cw_part.specs.PieceRuns.{Failed, AtOnce, CutOff, Nested, Further, Stopped, Turns, outcome_with, RunsTellOfPieces}
use Rattle.cw_part.proofs.RunLaws.{cost_both, cost_inside, meaning, serial_is, meaning_both}

-- an outcome at this cost, within what is left
abbrev pub tested : {A : Type 0} (left cost : ℕ) → (ℕ → Outcome A) → Outcome A
tested left k o = if nat_lt left k then model.Over else o (left - k)

-- a piece comes to this within each budget that the limit allows: it is done, or it traps, or it passes the limit
pub data Comes (kind : Kind) (limit : ℕ) (piece : Piece (Given kind)) : Exit kind → Came Trace → Type 0 where
  Ending : (a : Given kind) (left : ℕ) (t : Trace) → cost t + left ≡ limit
      → ((n : ℕ) → n ≤ limit → piece n ≡ tested n (cost t) (λ k. Done a k t))
      → Comes kind limit piece (Some (a, left)) (Completed t)
  Trapping : (trap : Trap) (line : ℕ) (t : Trace)
      → ((n : ℕ) → n ≤ limit → piece n ≡ tested n (cost t) (λ k. model.Trapped trap line t.lines))
      → Comes kind limit piece None (Trapped trap line t)
  Passing : (t : Trace) → limit < cost t → ((n : ℕ) → n ≤ limit → piece n ≡ model.Over) → Comes kind limit piece None (Completed t)

-- tests of what is left
tested_free : {A : Type 0} (n k : ℕ) (o : ℕ → Outcome A) → k ≡ 0 → tested n k o ≡ o n
tested_free n k o e = by_test (nat_lt n k) refl
  where
    by_test : (b : Bool) → nat_lt n k ≡ b → (if b then model.Over else o (n - k)) ≡ o n
    by_test true h = let x = lt_of n k h in absurd (omega arith)
    by_test false h = ap o (omega arith)

same_tested : {A : Type 0} (n k : ℕ) (o u : ℕ → Outcome A) → (k ≤ n → o (n - k) ≡ u (n - k)) → tested n k o ≡ tested n k u
same_tested n k o u f = by_test (nat_lt n k) refl
  where
    by_test : (b : Bool) → nat_lt n k ≡ b → (if b then model.Over else o (n - k)) ≡ (if b then model.Over else u (n - k))
    by_test true h = refl
    by_test false h = f (not_lt_of n k h)

tested_over : {A : Type 0} (b : Bool) (o : Outcome A) → o ≡ model.Over → (if b then model.Over else o) ≡ model.Over
tested_over true o e = refl
tested_over false o e = e

tested_twice : {A : Type 0} (n k j : ℕ) (o : ℕ → Outcome A) → tested n k (λ m. tested m j o) ≡ tested n (k + j) o
tested_twice n k j o = by_tests (nat_lt n k) (nat_lt (n - k) j) (nat_lt n (k + j)) refl refl refl
  where
    by_tests : (p q r : Bool) → nat_lt n k ≡ p → nat_lt (n - k) j ≡ q → nat_lt n (k + j) ≡ r
        → (if p then model.Over else (if q then model.Over else o (n - k - j))) ≡ (if r then model.Over else o (n - (k + j)))
    by_tests true q true e f g = refl
    by_tests true q false e f g = let x = lt_of n k e in let z = not_lt_of n (k + j) g in absurd (omega arith)
    by_tests false true true e f g = refl
    by_tests false true false e f g = let x = not_lt_of n k e in let y = lt_of (n - k) j f in let z = not_lt_of n (k + j) g in absurd (omega arith)
    by_tests false false true e f g = let x = not_lt_of n k e in let y = not_lt_of (n - k) j f in let z = lt_of n (k + j) g in absurd (omega arith)
    by_tests false false false e f g = ap o (omega arith)

-- a piece that is done, and what goes on from there
then_tested : {A B : Type 0} (b : Bool) (k : ℕ) (a : A) (t : Trace) (next : A → Piece B) → then_do (if b then model.Over else Done a k t) next ≡ (if b then model.Over else after t (next a k))
then_tested true k a t next = refl
then_tested false k a t next = refl

after_tested : {A : Type 0} (b : Bool) (t : Trace) (o : Outcome A) → after t (if b then model.Over else o) ≡ (if b then model.Over else after t o)
after_tested true t o = refl
after_tested false t o = refl

goes_on : {A B : Type 0} (n : ℕ) (piece : Piece A) (next : A → Piece B) (a : A) (t : Trace) → piece n ≡ tested n (cost t) (λ k. Done a k t)
    → then_do (piece n) next ≡ tested n (cost t) (λ k. after t (next a k))
goes_on n piece next a t e = ap (λ o. then_do o next) e ∙ then_tested (nat_lt n (cost t)) (n - cost t) a t next

further_tested : {A B : Type 0} (n left j : ℕ) (piece : Piece A) (next : A → Piece B) (a : A) (t : Trace) (o : ℕ → Outcome B) → n ≤ cost t + left → piece n ≡ tested n (cost t) (λ k. Done a k t)
    → ((k : ℕ) → k ≤ left → next a k ≡ tested k j o) → then_do (piece n) next ≡ tested n (cost t + j) (λ k. after t (o k))
further_tested n left j piece next a t o l e f =
    goes_on n piece next a t e
    ∙ same_tested n (cost t) (λ k. after t (next a k)) (λ k. tested k j (λ m. after t (o m)))
    (λ h. ap (after t) (f (n - cost t) (omega arith)) ∙ after_tested (nat_lt (n - cost t) j) t (o (n - cost t - j)))
    ∙ tested_twice n (cost t) j (λ k. after t (o k))

further_over : {A B : Type 0} (n left : ℕ) (piece : Piece A) (next : A → Piece B) (a : A) (t : Trace) → n ≤ cost t + left → piece n ≡ tested n (cost t) (λ k. Done a k t)
    → ((k : ℕ) → k ≤ left → next a k ≡ model.Over) → then_do (piece n) next ≡ model.Over
further_over n left piece next a t l e f =
    goes_on n piece next a t e
    ∙ same_tested n (cost t) (λ k. after t (next a k)) (λ k. model.Over) (λ h. ap (after t) (f (n - cost t) (omega arith)))
    ∙ tested_over (nat_lt n (cost t)) model.Over refl

further_comes : (kind later : Kind) (limit : ℕ) (piece : Piece (Given kind)) (next : Given kind → Piece (Given later)) {left : ℕ} {a : Given kind} {exit : Exit later} {x y : Came Trace}
    → Comes kind limit piece (Some (a, left)) x → Comes later left (next a) exit y → Comes later limit (◌>>=◌ piece next) exit (followed traces x y)
further_comes kind later limit piece next (Ending a left t e f) (Ending b rest u d g) =
    let c = cost_both t u in
    Ending b rest (joined t u) (omega arith)
    (λ n l.
    further_tested n left (cost u) piece next a t (λ k. Done b k u) (omega arith) (f n l) g
    ∙ ap (λ k. tested n k (λ m. Done b m (joined t u))) (sym c))
further_comes kind later limit piece next (Ending a left t e f) (Trapping trap line u g) =
    Trapping trap line (joined t u)
    (λ n l.
    further_tested n left (cost u) piece next a t (λ k. model.Trapped trap line u.lines) (omega arith) (f n l) g
    ∙ ap (λ k. tested n k (λ m. model.Trapped trap line (joined t u).lines)) (sym (cost_both t u)))
further_comes kind later limit piece next (Ending a left t e f) (Passing u d g) =
    let c = cost_both t u in
    Passing (joined t u) (omega arith) (λ n l. further_over n left piece next a t (omega arith) (f n l) g)

-- a piece that stops
trap_then : {A B : Type 0} (b : Bool) (trap : Trap) (line : ℕ) (lines : List ℤ) (next : A → Piece B)
    → then_do (if b then model.Over else model.Trapped trap line lines) next ≡ (if b then model.Over else model.Trapped trap line lines)
trap_then true trap line lines next = refl
trap_then false trap line lines next = refl

stopped_comes : (kind later : Kind) (limit : ℕ) (piece : Piece (Given kind)) (next : Given kind → Piece (Given later)) {x : Came Trace}
    → Comes kind limit piece None x → Comes later limit (◌>>=◌ piece next) None x
stopped_comes kind later limit piece next (Trapping trap line t f) =
    Trapping trap line t (λ n l. ap (λ o. then_do o next) (f n l) ∙ trap_then (nat_lt n (cost t)) trap line t.lines next)
stopped_comes kind later limit piece next (Passing t d f) = Passing t d (λ n l. ap (λ o. then_do o next) (f n l))

-- a part inside
inside_done : {A : Type 0} (b : Bool) (k : ℕ) (a : A) (spawned : Bool) (mark : Option Mark) (t : Trace)
    → joined_up (λ tree. part_of spawned (marked mark tree)) (if b then model.Over else Done a k t) ≡ (if b then model.Over else Done a k (as_event spawned mark t))
inside_done true k a spawned mark t = refl
inside_done false k a spawned mark t = refl

inside_trap : {A : Type 0} (b : Bool) (spawned : Bool) (mark : Option Mark) (trap : Trap) (line : ℕ) (lines : List ℤ)
    → joined_up {A = A} (λ tree. part_of spawned (marked mark tree)) (if b then model.Over else model.Trapped trap line lines) ≡ (if b then model.Over else model.Trapped trap line lines)
inside_trap true spawned mark trap line lines = refl
inside_trap false spawned mark trap line lines = refl

inside_comes : (kind : Kind) (limit : ℕ) (spawned : Bool) (mark : Option Mark) (piece : Piece (Given kind)) {exit : Exit kind} {x : Came Trace}
    → Comes kind limit piece exit x → Comes kind limit (as_one (λ tree. part_of spawned (marked mark tree)) piece) exit (seen (as_event spawned mark) x)
inside_comes kind limit spawned mark piece (Ending a left t e f) =
    let c = cost_inside spawned mark t in
    Ending a left (as_event spawned mark t) (omega arith)
    (λ n l.
    ap (joined_up (λ tree. part_of spawned (marked mark tree))) (f n l) ∙ inside_done (nat_lt n (cost t)) (n - cost t) a spawned mark t
    ∙ ap (λ k. tested n k (λ m. Done a m (as_event spawned mark t))) (sym c))
inside_comes kind limit spawned mark piece (Trapping trap line t f) =
    Trapping trap line (as_event spawned mark t)
    (λ n l.
    ap (joined_up (λ tree. part_of spawned (marked mark tree))) (f n l) ∙ inside_trap (nat_lt n (cost t)) spawned mark trap line t.lines
    ∙ ap (λ k. tested n k (λ m. model.Trapped trap line t.lines)) (sym (cost_inside spawned mark t)))
inside_comes kind limit spawned mark piece (Passing t d f) =
    let c = cost_inside spawned mark t in
    Passing (as_event spawned mark t) (omega arith) (λ n l. ap (joined_up (λ tree. part_of spawned (marked mark tree))) (f n l))

-- nothing after it
nothing_after : (x : Came Trace) → followed traces x (Completed quiet) ≡ x
nothing_after (Completed t) = ap Completed (joined_quiet t)
nothing_after (Trapped trap line t) = refl
nothing_after Over = refl
nothing_after Memory = refl

-- instructions
cost_works : (k : ℕ) → cost (shows (works k)) ≡ k
cost_works zero = refl
cost_works (suc k) = let e = cost_works k in omega arith

instructions_mean : (k : ℕ) → meaning (instructions k) ≡ Completed (shows (works k))
instructions_mean zero = refl
instructions_mean (suc k) = ap (followed traces (Completed (shows (Work 1 ∷ [])))) (instructions_mean k)

paid_comes : (kind : Kind) (limit k : ℕ) (a : Given kind) → Comes kind limit (λ left. tested left k (λ m. Done a m (shows (works k)))) (exit_of kind limit k a) (Completed (shows (works k)))
paid_comes kind limit k a = by_test (nat_lt limit k) refl
  where
    by_test : (b : Bool) → nat_lt limit k ≡ b → Comes kind limit (λ left. tested left k (λ m. Done a m (shows (works k)))) (if b then None else Some (a, limit - k)) (Completed (shows (works k)))
    by_test true e =
        let x = lt_of limit k e in
        let c = cost_works k in
        Passing (shows (works k)) (omega arith)
        (λ n l. ap (λ (b : Bool). if b then model.Over else Done a (n - k) (shows (works k))) (below n k (omega arith)))
    by_test false e =
        let x = not_lt_of limit k e in
        let c = cost_works k in
        Ending a (limit - k) (shows (works k)) (omega arith) (λ n l. ap (λ j. tested n j (λ m. Done a m (shows (works k)))) (sym c))

same_comes : (kind : Kind) (limit : ℕ) (piece other : Piece (Given kind)) {exit : Exit kind} {x : Came Trace}
    → ((n : ℕ) → n ≤ limit → piece n ≡ other n) → Comes kind limit other exit x → Comes kind limit piece exit x
same_comes kind limit piece other same (Ending a left t e f) = Ending a left t e (λ n l. same n l ∙ f n l)
same_comes kind limit piece other same (Trapping trap line t f) = Trapping trap line t (λ n l. same n l ∙ f n l)
same_comes kind limit piece other same (Passing t d f) = Passing t d (λ n l. same n l ∙ f n l)

pub run_comes : {kind : Kind} {limit : ℕ} {piece : Piece (Given kind)} {run : Run} {exit : Exit kind} → IsRunOf kind limit piece run exit → Comes kind limit piece exit (meaning run)
run_comes (Nothing kind limit a) = Ending a limit quiet (omega arith) (λ n l. sym (tested_free n (cost quiet) (λ k. Done a k quiet) refl))
run_comes (Free limit t e) =
    subst (Comes OfNothing limit (λ left. Done tt left t) (Some (tt, limit))) (sym (nothing_after (Completed t)))
    (Ending tt limit t (omega arith) (λ n l. sym (tested_free n (cost t) (λ k. Done tt k t) e)))
run_comes (Paid limit k) =
    subst (Comes OfNothing limit (λ left. tested left k (λ m. Done tt m (shows (works k)))) (exit_of OfNothing limit k tt)) (sym (instructions_mean k)) (paid_comes OfNothing limit k tt)
run_comes (Valued limit line v k) =
    subst (Comes OfInt limit (λ left. tested left k (λ m. Done v m (shows (works k)))) (exit_of OfInt limit k v)) (sym (instructions_mean k)) (paid_comes OfInt limit k v)
run_comes (Failed limit line trap k) = Trapping trap line (shows (works k)) (λ n l. ap (λ j. tested n j (λ m. model.Trapped trap line [])) (sym (cost_works k)))
run_comes (AtOnce kind limit line trap) = Trapping trap line quiet (λ n l. sym (tested_free n (cost quiet) (λ k. model.Trapped trap line []) refl))
run_comes (CutOff kind limit) = Passing (shows (Work (suc limit) ∷ [])) (omega arith) (λ n l. refl)
run_comes (Nested kind limit spawned mark piece inner exit d) =
    subst (Comes kind limit (as_one (λ tree. part_of spawned (marked mark tree)) piece) exit) (sym (nothing_after (seen (as_event spawned mark) (meaning inner))))
    (inside_comes kind limit spawned mark piece (run_comes d))
run_comes (Further kind later limit left piece next first rest a exit d e) =
    subst (Comes later limit (◌>>=◌ piece next) exit) (sym (meaning_both first rest)) (further_comes kind later limit piece next (run_comes d) (run_comes e))
run_comes (Stopped kind later limit piece next first d) = stopped_comes kind later limit piece next (run_comes d)
run_comes (Turns limit line test body frame run exit same d) = same_comes _ limit _ _ same (run_comes d)

-- as the serial run has it
done_told : (kind : Kind) (b : Bool) (left rest : ℕ) (a : Given kind) (t : Trace)
    → (if b then model.Over else Done a (left - cost t) t) ≡ outcome_with kind left (over_if b (Completed t)) (Some (a, rest))
done_told kind true left rest a t = refl
done_told kind false left rest a t = refl

trap_told : (kind : Kind) (b : Bool) (left : ℕ) (trap : Trap) (line : ℕ) (t : Trace)
    → (if b then model.Over else model.Trapped trap line t.lines) ≡ outcome_with kind left (over_if b (Trapped trap line t)) None
trap_told kind true left trap line t = refl
trap_told kind false left trap line t = refl

over_told : (kind : Kind) (b : Bool) (left : ℕ) (t : Trace) → model.Over ≡ outcome_with kind left (over_if b (Completed t)) None
over_told kind true left t = refl
over_told kind false left t = refl

comes_told : (kind : Kind) (limit left : ℕ) (piece : Piece (Given kind)) {exit : Exit kind} {x : Came Trace} → left ≤ limit
    → Comes kind limit piece exit x → piece left ≡ outcome_with kind left (within traces left x) exit
comes_told kind limit left piece l (Ending a rest t e f) = f left l ∙ done_told kind (nat_lt left (cost t)) left rest a t
comes_told kind limit left piece l (Trapping trap line t f) = f left l ∙ trap_told kind (nat_lt left (cost t)) left trap line t
comes_told kind limit left piece l (Passing t d f) = f left l ∙ over_told kind (nat_lt left (cost t)) left t

pub runs_tell_of_pieces : RunsTellOfPieces
runs_tell_of_pieces kind limit left piece run exit d l =
    comes_told kind limit left piece l (run_comes d) ∙ ap (λ x. outcome_with kind left x exit) (sym (serial_is run left))
