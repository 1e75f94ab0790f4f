-- Continuations of outcomes.
use Rattle.std.proofs.Common.{◌≡◌, ℕ, refl, ap}
use Rattle.cw_model.specs.Outcome.{Outcome, Done, Trapped, Over, after, then_do}

-- equal continuations have equal results
pub then_same : {A B : Type 0} (o : Outcome A) (go go' : A → ℕ → Outcome B) → ((a : A) (left : ℕ) → go a left ≡ go' a left) → then_do o go ≡ then_do o go'
then_same (Done a left t) go go' h = ap (after t) (h a left)
then_same (Trapped trap line lines) go go' h = refl
then_same Over go go' h = refl
