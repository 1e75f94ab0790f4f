-- The trace of a run, part by part.
use Rattle.std.proofs.Common.{◌≡◌, Some, ℕ, suc, ◌-◌, ◌++◌, refl, sym, ap, append_assoc, arith, nat_lt, if◌then◌else◌}
use Rattle.std.proofs.lemmas.Bool.Decides.{nat_tests}
use Rattle.cw_model.specs.Trees.{Tree, Event}
use Rattle.cw_model.specs.Outcome.{Outcome, Done, Trapped, Over, Trace, joined, after, then_do, joined_up}
use Rattle.cw_code.specs.Run.{RunOutcome, inside, rejoined}
use Rattle.cw_code.specs.lemmas.Runs.{joined_joined}

-- an outcome and its continuation, after a trace
abbrev pub resume : {A : Type 0} → Trace → Outcome A → (A → ℕ → Trace → RunOutcome) → RunOutcome
resume t (Done a left u) next = next a left (joined t u)
resume t (Trapped trap line lines) next = Some (Trapped trap line (t.lines ++ lines))
resume t Over next = Some Over

pub resume_after : {B : Type 0} (t u : Trace) (o : Outcome B) (next : B → ℕ → Trace → RunOutcome) → resume t (after u o) next ≡ resume (joined t u) o next
resume_after t u (Done b l v) next = ap (next b l) (sym (joined_joined t u v))
resume_after t u (Trapped trap line lines) next = ap (λ l. Some (Trapped trap line l)) (sym (append_assoc t.lines u.lines lines))
resume_after t u Over next = refl

-- a part and its continuation
pub resume_then : {A B : Type 0} (t : Trace) (o : Outcome A) (go : A → ℕ → Outcome B) (next : B → ℕ → Trace → RunOutcome) → resume t (then_do o go) next ≡ resume t o (λ a l u. resume u (go a l) next)
resume_then t (Done a left u) go next = resume_after t u (go a left) next
resume_then t (Trapped trap line lines) go next = refl
resume_then t Over go next = refl

-- a part whose events become one event
pub resume_one : {A : Type 0} (part : Tree → Event) (t : Trace) (o : Outcome A) (next : A → ℕ → Trace → RunOutcome)
    → resume t (joined_up part o) next ≡ resume (inside t) o (λ a l u. next a l (rejoined part t.events u))
resume_one part t (Done a left u) next = refl
resume_one part t (Trapped trap line lines) next = refl
resume_one part t Over next = refl

-- the payment of one instruction
pub paid_one : {A : Type 0} (a : A) (l : ℕ) (shown : Trace) → (if nat_lt (suc l) 1 then Over else Done a (suc l - 1) shown) ≡ Done a l shown
paid_one a l shown = grind (arith, nat_tests)
