-- The outcome of a piece of a run within a budget of instructions. The meanings of source, code and jobs share it.
use Rattle.std.specs.Prelude.{ℕ, ◌-◌, ℤ, if◌then◌else◌, nat_lt, List, [], ◌∷◌, ◌++◌}
use Rattle.cw_model.specs.declared.trap.Trap.{Trap}
use Rattle.cw_model.specs.Syntax.{Name}
use Rattle.cw_model.specs.Trees.{Tree, Event, works, tree_of}
use Rattle.cw_model.specs.Expressions.{Evaluated, Gives, Traps}

-- what a piece of a run records: the printed values, the updates of reducers and the events
pub record Trace : Type 0 where
  pub lines : List ℤ
  pub updates : List (Name × ℤ)
  pub events : List Event

-- the empty trace
abbrev pub quiet : Trace
quiet = record { lines = []; updates = []; events = [] }

-- the trace of these events, without output or updates
abbrev pub shows : List Event → Trace
shows events = record { lines = []; updates = []; events = events }

-- a trace followed by another
abbrev pub joined : Trace → Trace → Trace
joined t u =
    record { lines = t.lines ++ u.lines; updates = t.updates ++ u.updates; events = t.events ++ u.events }

-- a piece is done, with the rest of the budget; or it trapped, in a line and after printing values; or it exceeded
-- the budget
pub data Outcome (A : Type 0) : Type 0 where
  Done : A → (left : ℕ) → Trace → Outcome A
  Trapped : (trap : Trap) (line : ℕ) (lines : List ℤ) → Outcome A
  Over : Outcome A

-- an outcome, with a trace before it
abbrev pub after : {A : Type 0} → Trace → Outcome A → Outcome A
after t (Done a left u) = Done a left (joined t u)
after t (Trapped trap line lines) = Trapped trap line (t.lines ++ lines)
after t Over = Over

-- sequences an outcome and the piece after it
abbrev pub then_do : {A B : Type 0} → Outcome A → (A → ℕ → Outcome B) → Outcome B
then_do (Done a left t) go = after t (go a left)
then_do (Trapped trap line lines) go = Trapped trap line lines
then_do Over go = Over

-- a piece of a run, as a function of the budget that is left
abbrev pub Piece : Type 0 → Type 0
Piece A = ℕ → Outcome A

-- sequences a piece and the piece that depends on its result
abbrev pub ◌>>=◌ : {A B : Type 0} → Piece A → (A → Piece B) → Piece B
◌>>=◌ piece next = λ left. then_do (piece left) next

-- returns a result at no cost
abbrev pub gives : {A : Type 0} → A → Piece A
gives a = λ left. Done a left quiet

-- records a trace at no cost
abbrev pub show : Trace → Piece (Unit {0})
show t = λ left. Done tt left t

-- executes `cost` instructions that do not trap
abbrev pub pay : ℕ → Piece (Unit {0})
pay cost = λ left. if nat_lt left cost then Over else Done tt (left - cost) (shows (works cost))

-- evaluates an expression in a line; a trap counts only if its cost is within the budget
abbrev pub pay_for : Evaluated → (line : ℕ) → Piece ℤ
pay_for (Gives v cost) line = λ left. if nat_lt left cost then Over else Done v (left - cost) (shows (works cost))
pay_for (Traps trap cost) line = λ left. if nat_lt left cost then Over else Trapped trap line []

-- replaces the events of an outcome by one event, made of their tree
abbrev pub joined_up : {A : Type 0} → (Tree → Event) → Outcome A → Outcome A
joined_up part (Done a left t) =
    Done a left (record { lines = t.lines; updates = t.updates; events = part (tree_of t.events) ∷ [] })
joined_up part (Trapped trap line lines) = Trapped trap line lines
joined_up part Over = Over

-- a piece whose events are recorded as one event
abbrev pub as_one : {A : Type 0} → (Tree → Event) → Piece A → Piece A
as_one part piece = λ left. joined_up part (piece left)
