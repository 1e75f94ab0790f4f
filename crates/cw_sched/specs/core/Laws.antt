-- The invariants of all lists of events.
use Rattle.std.specs.Prelude.{◌≡◌, ◌≢◌, ◌⊎◌, ℕ, ◌+◌, ◌≤◌, ◌∷◌, ℤ, Bool, true, false, ◌||◌, nat_eq, List, [], length}
use Rattle.std.specs.Prelude.{Option, Some, slice_get}
use Rattle.cw_code.specs.declared.code.Func.{Func}
use Rattle.cw_code.specs.Code.{Code}
use Rattle.cw_code.specs.Fits.{Fits}
use Rattle.cw_code.specs.Run.{On, first_state, first_transition, code_serial}
use Rattle.cw_code.specs.Jobs.{Job, root_job, Effect, Memory, JobMeaning, answered}
use Rattle.cw_code.specs.Worlds.{Place, Offered, Runs, Made, effect_in, Has, world_of, After, OneOwner}
use Rattle.cw_code.specs.Strands.{Strand}
use Rattle.cw_code.specs.Steps.{Unfit, advance}
use Rattle.cw_sched.specs.core.Board.{of_worker}
use Rattle.cw_sched.specs.core.Table.{Event, Sched, world_run, first_sched, outcome, is_possible, perform}

abbrev pub one_if : Bool → ℕ
one_if true = 1
one_if false = 0

-- how often a number occurs in a list
abbrev pub times : ℕ → List ℕ → ℕ
times n [] = 0
times n (m ∷ ms) = one_if (nat_eq n m) + times n ms

-- a strand of w, or its effect at w
abbrev pub is_with : ℕ → Option Place → Bool
is_with w (Some (Runs w' strand outs)) = nat_eq w w'
is_with w (Some (Made w' e)) = nat_eq w w'
is_with w _ = false

abbrev pub is_offered_by : ℕ → Option Place → Bool
is_offered_by w (Some (Offered w')) = nat_eq w w'
is_offered_by w _ = false

-- each job is in one place: it is in a worker's deque if and only if that worker offered it, in the list of a worker
-- if and only if that worker has its strand or effect, there once, and nowhere else
pub record OnePlace (s : Sched) : Type 0 where
  pub even : length s.world.jobs ≡ length s.world.places
  pub workers : length s.begun ≡ length s.board.lists
  pub begun : (w n : ℕ) → times n (of_worker s.begun w) ≡ one_if (is_with w (slice_get s.world.places n))
  pub offered : (w n : ℕ) → times n (of_worker s.board.lists w) ≡ one_if (is_offered_by w (slice_get s.world.places n))

-- a run begins with a root job and this many further workers
abbrev pub EachInOnePlace : Type 0
EachInOnePlace =
    (code : Code) (root : Job) (others : ℕ) (events : List (Event × Bool))
    → OnePlace (world_run code events (first_sched root others))

-- after any list of events, the world is one that steps of worlds reach
abbrev pub RunsCome : Type 0
RunsCome =
    (code : Code) (root : Job) (others : ℕ) (events : List (Event × Bool))
    → After code (world_of root) (world_run code events (first_sched root others)).world

-- an event that is possible is one or several steps of worlds
abbrev pub EventsAreSteps : Type 0
EventsAreSteps =
    (code : Code) (root : Job) (others : ℕ) (events : List (Event × Bool)) (short : Bool) (event : Event)
    → is_possible (world_run code events (first_sched root others)) event ≡ true
    → After code (world_run code events (first_sched root others)).world
    (perform code short (world_run code events (first_sched root others)) event).world

-- a strand of well-formed code never gets stuck
abbrev pub NoneIsUnfitHere : Type 0
NoneIsUnfitHere =
    (code : Code) → Fits code
    → (f : Func) (args : List ℤ) (limit others : ℕ) (events : List (Event × Bool)) (i worker : ℕ) (job : Job)
    (strand : Strand) (outs : List ℕ)
    → slice_get code.funcs code.main ≡ Some f → length args ≡ f.params
    → Has (world_run code events (first_sched (root_job f args limit) others)).world i job (Runs worker strand outs)
    → advance code job strand ≢ Unfit

-- memory was lacking at some event
abbrev pub is_short : List (Event × Bool) → Bool
is_short [] = false
is_short (e ∷ events) = e.1 || is_short events

-- after any list of events, the outcome is what the code gives, or memory, only if memory was lacking
abbrev pub OutcomesAreSerial : Type 0
OutcomesAreSerial =
    (code : Code) (f : Func) (args : List ℤ) (limit others : ℕ) (events : List (Event × Bool)) (e : Effect)
    → first_transition (slice_get code.funcs code.main) args ≡ On (first_state f args [] [])
    → outcome (world_run code events (first_sched (root_job f args limit) others)) ≡ Some e
    → ((e ≡ Memory) × (is_short events ≡ true)) ⊎ (answered code e ≡ code_serial code args limit)

-- after any list of events, each effect that was made and not given means its job
abbrev pub EffectsMeanTheirJobs : Type 0
EffectsMeanTheirJobs =
    (code : Code) (root : Job) (others : ℕ) (events : List (Event × Bool)) (i : ℕ) (job : Job) (place : Place)
    (e : Effect) → root.before ≤ root.limit
    → Has (world_run code events (first_sched root others)).world i job place → effect_in place ≡ Some e
    → JobMeaning code job e

-- after any list of events, a job is out at one strand at most, once, and was then neither given nor skipped
abbrev pub JobsAreSingle : Type 0
JobsAreSingle =
    (code : Code) (root : Job) (others : ℕ) (events : List (Event × Bool))
    → OneOwner (world_run code events (first_sched root others)).world

-- after any list of events, the root's strand or effect is with the first worker, so the outcome is known if and only
-- if that strand has ended; and it does not change
abbrev pub OutcomesStay : Type 0
OutcomesStay = (code : Code) (root : Job) (others : ℕ) (events later : List (Event × Bool)) (e : Effect)
    → (is_with 0 (slice_get (world_run code events (first_sched root others)).world.places 0) ≡ true)
    × (outcome (world_run code events (first_sched root others)) ≡ Some e
    → outcome (world_run code later (world_run code events (first_sched root others))) ≡ Some e)
