-- The ledger of one deque: all that was offered, in order, with its state; its list is the board's list.
use Rattle.std.specs.Prelude.{◌≡◌, ℕ, is_some, if◌then◌else◌, List, [], ◌∷◌, ◌++◌}
use Rattle.cw_sched.specs.core.Board.{pushed, oldest, but_newest, but_oldest}

-- an offered job is in the deque, was retaken, or was stolen by this worker
pub data Fate : Type 0 where
  Lies : Fate
  Back : Fate
  Gone : (by : ℕ) → Fate

abbrev pub if_lies : {A : Type 0} → Fate → A → List A → List A
if_lies Lies x xs = x ∷ xs
if_lies Back x xs = xs
if_lies (Gone by) x xs = xs

-- the jobs in the deque, the oldest first
abbrev pub outs : {A : Type 0} → List (A × Fate) → List A
outs [] = []
outs (e ∷ es) = if_lies e.1 e.0 (outs es)

abbrev pub ledger_offer : {A : Type 0} → A → List (A × Fate) → List (A × Fate)
ledger_offer x es = es ++ (x, Lies) ∷ []

abbrev pub taken_back : Fate → Fate
taken_back Lies = Back
taken_back Back = Back
taken_back (Gone by) = Gone by

-- the last job in the deque is retaken
abbrev pub ledger_retake : {A : Type 0} → List (A × Fate) → List (A × Fate)
ledger_retake [] = []
ledger_retake (e ∷ es) = if is_some (oldest (outs es)) then e ∷ ledger_retake es else (e.0, taken_back e.1) ∷ es

abbrev pub steal_at : {A : Type 0} → ℕ → A → Fate → (es rest : List (A × Fate)) → List (A × Fate)
steal_at p x Lies es rest = (x, Gone p) ∷ es
steal_at p x Back es rest = (x, Back) ∷ rest
steal_at p x (Gone by) es rest = (x, Gone by) ∷ rest

-- the first job in the deque is stolen
abbrev pub ledger_steal : {A : Type 0} → ℕ → List (A × Fate) → List (A × Fate)
ledger_steal p [] = []
ledger_steal p (e ∷ es) = steal_at p e.0 e.1 es (ledger_steal p es)

-- after each step, the list of a deque is the board's list
pub record LedgersAreLists : Type 0 where
  pub offers : (n : ℕ) (es : List (ℕ × Fate)) → outs (ledger_offer n es) ≡ pushed (outs es) n
  pub retakes : (es : List (ℕ × Fate)) → outs (ledger_retake es) ≡ but_newest (outs es)
  pub steals : (p : ℕ) (es : List (ℕ × Fate)) → outs (ledger_steal p es) ≡ but_oldest (outs es)
