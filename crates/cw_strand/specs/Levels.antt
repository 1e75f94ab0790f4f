-- The spawned calls around a state, whose blocks' continuations are out.
use Rattle.std.specs.Prelude.{◌≡◌, ℕ, ℤ, List, [], ◌∷◌, ◌++◌, Option, Some, None}
use Rattle.cw_model.specs.declared.syntax.CallKind.{CallKind}
use Rattle.cw_model.specs.declared.syntax.CallKind.TheVariants.{Plain, Spawned}
use Rattle.cw_code.specs.Run.{Results, Waiting, Around, Caller, Block, State}

-- a spawned call: the call that waits for it, and the blocks and calls around the waiting one
pub record Level : Type 0 where
  pub waiting : Waiting
  pub around : List Around

-- adds a level if the call was spawned
abbrev pub level_if : CallKind → Level → List Level → List Level
level_if Plain l levels = levels
level_if Spawned l levels = l ∷ levels

-- the spawned calls around a state, the newest first
abbrev pub levels_of : List Around → List Level
levels_of [] = []
levels_of (Block o ∷ around) = levels_of around
levels_of (Caller w ∷ around) = level_if w.kind (record { waiting = w; around = around }) (levels_of around)

-- the result of a spawned call is added to the waiting results, if the call has a target
abbrev pub ResultWaits : Option ℕ → (new old : Results ℤ) → Type 0
ResultWaits None new old = new ≡ old
ResultWaits (Some a) new old = (v : ℤ) × (new ≡ (a, v) ∷ old)

-- a spawned call has returned to the call that waited for it
pub record IsBackAt (l : Level) (s : State) : Type 0 where
  pub place : s.place ≡ l.waiting.place
  pub operands : s.operands ≡ l.waiting.operands
  pub slots : s.slots ≡ l.waiting.slots
  pub arrays : s.arrays ≡ l.waiting.arrays
  pub readers : s.readers ≡ l.waiting.readers
  pub depth : s.depth ≡ l.waiting.depth
  pub around : s.around ≡ l.around
  pub results : ResultWaits l.waiting.target s.results l.waiting.results

-- the call that waits, placed over the base of a run
abbrev pub waiting_over : State → Waiting → List Around → Waiting
waiting_over b w [] =
    record w { results = w.results ++ b.results; arrived = w.arrived ++ b.arrived; events = b.trace.events ++ w.events }
waiting_over b w (a ∷ around) = w
