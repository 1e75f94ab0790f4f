-- Small codes, and lists of events that execute them in different orders; the last event comes first.
use Rattle.std.specs.Prelude.{◌≡◌, ℕ, ℤ, pos, true, false, List, [], ◌∷◌, Option, Some, None}
use Rattle.cw_model.specs.declared.syntax.CallKind.TheVariants.{Spawned}
use Rattle.cw_model.specs.declared.syntax.Operator.TheVariants.{Divide}
use Rattle.cw_model.specs.Sites.{Of}
use Rattle.cw_model.specs.declared.trap.Trap.TheVariants as trap
use Rattle.cw_model.specs.Answers.{Answer, Ended, TrappedAt, OverLimit}
use Rattle.cw_code.specs.declared.code.Callee.{Callee}
use Rattle.cw_code.specs.declared.code.Func.{Func}
use Rattle.cw_code.specs.declared.code.Instr.TheVariants.{Push, Load, Binary, Call, Sync, Print, ReturnValue, Return}
use Rattle.cw_code.specs.Code.{CodeSite, Code}
use Rattle.cw_code.specs.Run.{code_serial}
use Rattle.cw_code.specs.Jobs.{root_job}
use Rattle.cw_code.specs.Worlds.{world_of}
use Rattle.cw_code.specs.Events.{Event, Advance, Offer, Inline, Begin, Skip, Settle, Give, TakeBack, play, outcome}

-- a call of the first function at a site in a line; its result is dropped
abbrev pub to_first : (site line : ℕ) → Callee
to_first site line = record { function = 0; site = site; line = line; target = None; passed = 0; lent = 0 }

-- the site of a spawn of the first function
abbrev pub spawn_site : (number line : ℕ) → CodeSite
spawn_site number line =
    record { told = record { number = number; kind = Of Spawned; line = line; callee = [] }; function = 0 }

-- `main` of the first code
abbrev pub prints : Func
prints =
    record { start = 3; end = 12; gives_int = true; params = 0; slots = 0; array_params = 0; arrays = 0; readers = 0 }

-- `void p(int v) { print(v); }`, and `main`: `cilk_spawn p(1); cilk_spawn p(2); print(3); cilk_sync; return 0;`
abbrev pub printing : Code
printing = record {
  instrs =
      Load 0 ∷ Print ∷ Return ∷ Push (pos 1) ∷ Call Spawned (to_first 1 1) ∷ Push (pos 2) ∷ Call Spawned (to_first 2 1)
      ∷ Push (pos 3) ∷ Print ∷ Sync ∷ Push (pos 0) ∷ ReturnValue ∷ [];
  funcs =
      record { start = 0; end = 3; gives_int = false; params = 1; slots = 1; array_params = 0; arrays = 0; readers = 0 }
      ∷ prints ∷ [];
  main = 1;
  main_line = 1;
  sites = spawn_site 1 1 ∷ spawn_site 2 1 ∷ [];
  reducers = [];
  tags = [];
  passed = [];
  lent = [];
}

-- the answer of the first code after these events, within a limit
abbrev pub printed_by : List Event → (limit : ℕ) → Option Answer
printed_by events limit = outcome printing (play printing events (world_of (root_job prints [] limit)))

-- one worker; each continuation is kept and executed by its own strand
abbrev pub kept : List Event
kept =
    Advance 0 ∷ Advance 0 ∷ Advance 0 ∷ Give 0 ∷ Advance 1 ∷ Give 1 ∷ Advance 2 ∷ Advance 2 ∷ Advance 2 ∷ Begin 0 2
    ∷ Advance 1 ∷ Advance 1 ∷ Advance 1 ∷ Inline 2 ∷ Advance 1 ∷ Advance 1 ∷ Begin 0 1
    ∷ Advance 0 ∷ Advance 0 ∷ Advance 0 ∷ Inline 1 ∷ Advance 0 ∷ Advance 0 ∷ []

-- one worker; each continuation is kept and taken back by the only strand
abbrev pub taken_back : List Event
taken_back =
    Advance 0 ∷ Advance 0 ∷ Advance 0 ∷ Advance 0 ∷ Advance 0 ∷ TakeBack 0
    ∷ Advance 0 ∷ Advance 0 ∷ Advance 0 ∷ Inline 2 ∷ Advance 0 ∷ Advance 0 ∷ TakeBack 0
    ∷ Advance 0 ∷ Advance 0 ∷ Advance 0 ∷ Inline 1 ∷ Advance 0 ∷ Advance 0 ∷ []

-- two workers; each continuation is offered, stolen by the other worker, and done before its call
abbrev pub stolen : List Event
stolen =
    Advance 0 ∷ Advance 0 ∷ Advance 0 ∷ Give 0 ∷ Advance 0 ∷ Advance 0 ∷ Advance 0 ∷ Settle 1 ∷ Advance 1 ∷ Give 1
    ∷ Advance 1 ∷ Advance 1 ∷ Advance 1 ∷ Settle 2 ∷ Advance 2 ∷ Advance 2 ∷ Advance 2 ∷ Begin 0 2
    ∷ Offer 2 ∷ Advance 1 ∷ Advance 1 ∷ Begin 1 1 ∷ Offer 1 ∷ Advance 0 ∷ Advance 0 ∷ []

-- the printed values of an answer
abbrev pub lines_of : Option Answer → List ℤ
lines_of (Some (Ended v lines sums tree)) = lines
lines_of _ = []

-- `main` of the second code
abbrev pub fails : Func
fails =
    record { start = 4; end = 11; gives_int = true; params = 0; slots = 0; array_params = 0; arrays = 0; readers = 0 }

-- `int f(int z) { return 1 / z; }` in line 1, and `main` in line 2: `cilk_spawn f(0); print(7); cilk_sync; return 0;`
abbrev pub failing : Code
failing = record {
  instrs =
      Push (pos 1) ∷ Load 0 ∷ Binary Divide 1 ∷ ReturnValue ∷ Push (pos 0) ∷ Call Spawned (to_first 1 2) ∷ Push (pos 7)
      ∷ Print ∷ Sync ∷ Push (pos 0) ∷ ReturnValue ∷ [];
  funcs =
      record { start = 0; end = 4; gives_int = true; params = 1; slots = 1; array_params = 0; arrays = 0; readers = 0 }
      ∷ fails ∷ [];
  main = 1;
  main_line = 1;
  sites = spawn_site 1 2 ∷ [];
  reducers = [];
  tags = [];
  passed = [];
  lent = [];
}

-- the answer of the second code after these events, within a limit
abbrev pub failed_by : List Event → (limit : ℕ) → Option Answer
failed_by events limit = outcome failing (play failing events (world_of (root_job fails [] limit)))

-- the continuation has printed before its call traps, and is dropped
abbrev pub dropped_rest : List Event
dropped_rest =
    Advance 0 ∷ Give 0 ∷ Advance 0 ∷ Advance 0 ∷ Advance 0 ∷ Settle 1 ∷ Advance 1 ∷ Advance 1 ∷ Advance 1 ∷ Begin 1 1
    ∷ Offer 1 ∷ Advance 0 ∷ Advance 0 ∷ []

-- the continuation was never begun, and is skipped
abbrev pub skipped_rest : List Event
skipped_rest = Advance 0 ∷ Skip 0 ∷ Advance 0 ∷ Advance 0 ∷ Advance 0 ∷ Inline 1 ∷ Advance 0 ∷ Advance 0 ∷ []

-- the first code prints 1, 2 and 3, costs 15, and has the same answer whether its continuations are kept, taken back
-- or stolen
pub record PrintingExecutions : Type 0 where
  pub lines : lines_of (printed_by kept 15) ≡ pos 1 ∷ pos 2 ∷ pos 3 ∷ []
  pub as_kept : printed_by kept 15 ≡ code_serial printing [] 15
  pub as_taken_back : printed_by taken_back 15 ≡ code_serial printing [] 15
  pub as_stolen : printed_by stolen 15 ≡ code_serial printing [] 15
  pub over : code_serial printing [] 14 ≡ Some OverLimit

-- the spawned call of the second code traps in the fifth instruction of the run, whether its continuation was
-- executed or not
pub record FailingExecutions : Type 0 where
  pub as_dropped : failed_by dropped_rest 5 ≡ Some (TrappedAt trap.DivisionByZero 1 [])
  pub as_skipped : failed_by skipped_rest 5 ≡ Some (TrappedAt trap.DivisionByZero 1 [])
  pub serial : code_serial failing [] 5 ≡ Some (TrappedAt trap.DivisionByZero 1 [])
  pub over : failed_by skipped_rest 4 ≡ Some OverLimit
  pub serial_over : code_serial failing [] 4 ≡ Some OverLimit
