-- Where a run stands that traps, and what its instruction has there.
use Rattle.std.specs.Prelude.{◌≡◌, ℕ, zero, suc, ◌+◌, ◌<◌, ℤ, true, List, [], ◌∷◌, length, Option, Some, None, slice_get}
use Rattle.std.specs.Prelude.{Result, MatchResult}
use Rattle.cw_model.specs.declared.total.Total.{Total}
use Rattle.cw_model.specs.declared.trap.Trap.{Trap}
use Rattle.cw_model.specs.Burdens.{no_burden}
use Rattle.cw_model.specs.Frames.{no_frame}
use Rattle.cw_model.specs.Trees.{Tree}
use Rattle.cw_model.specs.Outcome.{Trace, Done, Over}
use Rattle.cw_model.specs.Answers.{Ended, TrappedAt}
use Rattle.cw_text.specs.declared.fault.Fault.{Fault}
use Rattle.cw_text.specs.declared.fault.Fault.TheVariants as fault
use Rattle.cw_code.specs.declared.code.Func.{Func}
use Rattle.cw_code.specs.declared.code.Instr.{Instr}
use Rattle.cw_code.specs.declared.code.Instr.TheVariants as instr
use Rattle.cw_code.specs.Code.{Code, code_view}
use Rattle.cw_code.specs.Run.{State, Transition, On, Stops, arguments_of, step, steps, first_state, code_serial}
use Rattle.cw_runnable.specs.declared.op.Op.{Op}
use Rattle.cw_runnable.specs.declared.op.Op.TheVariants as op
use Rattle.cw_runnable.specs.declared.verified.Verified.{Verified}
use Rattle.cw_machine.specs.declared.machine.Machine.{Machine}
use Rattle.cw_machine.specs.declared.trap_state.TrapOperands.{TrapOperands}
use Rattle.cw_machine.specs.declared.trap_state.TrapOperands.TheVariants as trap_operands
use Rattle.cw_machine.specs.declared.trap_state.Halt.{Halt}
use Rattle.cw_machine.specs.declared.trap_state.Halt.TheVariants as halt
use Rattle.cw_machine.specs.declared.trap_state.TrapState.{TrapState}
use Rattle.cw_machine.specs.Arrays.{IsFit, alone, view}
use Rattle.cw_machine.specs.RepresentsState.{cell, RepresentsState}
use Rattle.cw_machine.specs.Runs.{is_request, IsFailure}

-- this is the last operand
abbrev pub IsLast : State → ℤ → Type 0
IsLast s x = (rest : List ℤ) × (s.operands ≡ x ∷ rest)

-- these are the last two, the first one first
abbrev pub AreLast : State → (x y : ℤ) → Type 0
AreLast s x y = (rest : List ℤ) × (s.operands ≡ y ∷ x ∷ rest)

-- an index that is the last operand, and the length of its array
abbrev pub HasIndex : State → TrapOperands → (xs : List ℤ) → Type 0
HasIndex s h xs = (i : ℤ) × IsLast s i × (h ≡ trap_operands.Index i (length xs))

-- the ends of a loop's range, which are its first two arguments
abbrev pub HasRange : State → TrapOperands → Func → Type 0
HasRange s h f =
    (low : ℤ) × (high : ℤ) × (captured : List ℤ) × (arguments_of f s.operands ≡ low ∷ high ∷ captured)
    × (least : Option ℕ) × (h ≡ trap_operands.Range low high least)

-- what an instruction has in a state, if it can trap
abbrev pub Has : Code → State → TrapOperands → Option Instr → Type 0
Has code s h (Some (instr.Unary operator line)) = (x : ℤ) × IsLast s x × (h ≡ trap_operands.One operator x)
Has code s h (Some (instr.Binary operator line)) = (x : ℤ) × (y : ℤ) × AreLast s x y × (h ≡ trap_operands.Two operator x y)
Has code s h (Some (instr.NewArray a line)) = (x : ℤ) × IsLast s x × (h ≡ trap_operands.Length x)
Has code s h (Some (instr.Element a line)) =
    (xs : List ℤ) × (slice_get s.arrays a ≡ Some (Some xs)) × HasIndex s h xs
Has code s h (Some (instr.ReadElement r line)) =
    (xs : List ℤ) × (slice_get s.readers r ≡ Some xs) × HasIndex s h xs
Has code s h (Some (instr.SetElement a line)) =
    (xs : List ℤ) × (slice_get s.arrays a ≡ Some (Some xs))
    × (i : ℤ) × (x : ℤ) × AreLast s i x × (h ≡ trap_operands.Index i (length xs))
Has code s h (Some (instr.Cut halves line)) =
    (xs : List ℤ) × (slice_get s.arrays halves.array ≡ Some (Some xs))
    × (i : ℤ) × IsLast s i × (h ≡ trap_operands.Cut i (length xs))
Has code s h (Some (instr.Start c line)) = (f : Func) × (slice_get code.funcs c.function ≡ Some f) × HasRange s h f
Has code s h (Some (instr.Call kind c)) = h ≡ trap_operands.Call s.depth c.site
Has code s h _ = Unit {0}

-- what the next instruction of a state has
abbrev pub HasNext : Code → State → TrapOperands → Type 0
HasNext code s h = Has code s h (slice_get code.instrs s.place)

-- what a machine has for an instruction at which it stands, by its cells and views
abbrev pub AreTrapOperands : Machine → TrapOperands → Op → Type 0
AreTrapOperands m h (op.Unary d operator line) = h ≡ trap_operands.One operator (cell m.cells.items (m.first + d))
AreTrapOperands m h (op.Binary d operator line) =
    h ≡ trap_operands.Two operator (cell m.cells.items (m.first + d)) (cell m.cells.items (m.first + (d + 1)))
AreTrapOperands m h (op.NewArray d a line) = h ≡ trap_operands.Length (cell m.cells.items (m.first + d))
AreTrapOperands m h (op.Element d a line) =
    h ≡ trap_operands.Index (cell m.cells.items (m.first + d)) (view m.views.items (m.first_array + a)).len
AreTrapOperands m h (op.SetElement d a line) =
    h ≡ trap_operands.Index (cell m.cells.items (m.first + d)) (view m.views.items (m.first_array + a)).len
AreTrapOperands m h (op.Cut d halves line) =
    h ≡ trap_operands.Cut (cell m.cells.items (m.first + d)) (view m.views.items (m.first_array + halves.array)).len
AreTrapOperands m h (op.Start d c line) =
    (least : Option ℕ)
    × (h ≡ trap_operands.Range (cell m.cells.items (m.first + d)) (cell m.cells.items (m.first + (d + 1))) least)
AreTrapOperands m h (op.Call d kind c) = h ≡ trap_operands.Call m.depth c.site
AreTrapOperands m h _ = Unit {0}

-- the state in which a run goes on after an instruction, if it goes on
abbrev pub state_of : Transition → Option State
state_of (On s) = Some s
state_of _ = None

abbrev pub next_state : Code → Option State → Option State
next_state code None = None
next_state code (Some s) = state_of (step code s)

-- THE STATE AFTER THIS MANY INSTRUCTIONS from a state, if the run goes on that far
abbrev pub state_after : Code → (count : ℕ) → State → Option State
state_after code zero s = Some s
state_after code (suc n) s = next_state code (state_after code n s)

-- fewer than this many instructions lead from a state to the one whose next instruction traps, with what it has there
pub record TrapsAt (code : Code) (trap : Trap) (line : ℕ) (h : TrapOperands) (lines : List ℤ) (n : ℕ) (s : State) : Type 0 where
  pub done : ℕ
  pub within : done < n
  pub state : State
  pub reached : state_after code done s ≡ Some state
  pub traps : step code state ≡ Stops trap line lines
  pub has : HasNext code state h

-- why a run of at most so many instructions stopped
abbrev pub Halts : Code → Halt → Machine → (n : ℕ) → State → Type 0
Halts code halt.Over m n s = steps code n s ≡ Some Over
Halts code halt.Ended m n s =
    (x : Option ℤ) × (left : ℕ) × (t : Trace) × (steps code n s ≡ Some (Done (x, no_frame) left t))
Halts code (halt.Trapped trap line h) m n s = TrapsAt code trap line h m.lines.items n s
Halts code halt.NoMemory m n s = Unit {0}

-- from each state that a machine may hold
abbrev pub HaltsAny : Verified → Machine → (n : ℕ) → Halt → Machine → Type 0
HaltsAny v m n to m' =
    (is : IsFit v) (s : State) → RepresentsState v (alone v is) m s → Halts (code_view v.code) to m' n s

-- a run of code ends
pub record EndsAlone (code : Code) (args : List ℤ) (n : ℕ) : Type 0 where
  pub asked : is_request code args n no_burden ≡ true
  pub value : ℤ
  pub lines : List ℤ
  pub totals : List Total
  pub tree : Tree
  pub answer : code_serial code args n ≡ Some (Ended value lines totals tree)

-- from where main begins fewer than so many instructions lead to the one that traps, with what it has there
abbrev pub ReachesTrap : Code → List ℤ → (n : ℕ) → TrapState → (lines : List ℤ) → Type 0
ReachesTrap code args n st lines =
    (f : Func) × (slice_get code.funcs code.main ≡ Some f)
    × TrapsAt code st.trap st.line st.trap_operands lines n (first_state f args [] [])

-- a run of code traps, and where
pub record IsTrapState (code : Code) (args : List ℤ) (n : ℕ) (st : TrapState) : Type 0 where
  pub asked : is_request code args n no_burden ≡ true
  pub lines : List ℤ
  pub answer : code_serial code args n ≡ Some (TrappedAt st.trap st.line lines)
  pub stood : ∥ ReachesTrap code args n st lines ∥₁

-- a run of code that does not fail otherwise traps, or ends
abbrev pub TrapsOrEnds : Code → List ℤ → (n : ℕ) → Option TrapState → Type 0
TrapsOrEnds code args n (Some st) = IsTrapState code args n st
TrapsOrEnds code args n None = EndsAlone code args n

-- why it is not told where a run stands: as a run fails; a trap is told, and is no such reason
abbrev pub IsOtherFailure : Code → List ℤ → (n : ℕ) → Fault → Type 0
IsOtherFailure code args n (fault.Trap trap line output) = ⊥
IsOtherFailure code args n why = IsFailure code args n no_burden why

-- where a run of code traps, or why it does not
abbrev pub TrapsAsCode : Code → List ℤ → (n : ℕ) → Result (Option TrapState) Fault → Type 0
TrapsAsCode code args n result = MatchResult result (TrapsOrEnds code args n) (IsOtherFailure code args n)
