-- The result of the execution of a job by a crew.
use Rattle.std.specs.Prelude.{◌≡◌, ◌≤◌, ◌<◌, ℕ, List, length}
use Rattle.cw_text.specs.declared.fault.Fault.{Fault}
use Rattle.cw_text.specs.declared.fault.Fault.TheVariants as fault
use Rattle.cw_jobs.specs.declared.effect.Effect.{Effect}
use Rattle.cw_jobs.specs.declared.job.Job.{Job}
use Rattle.cw_jobs.specs.Means.{IsMeaningOf}
use Rattle.cw_yard.specs.declared.seat.Yard.{Yard}
use Rattle.cw_yard.specs.declared.seat.Seat.{Seat}
use Rattle.cw_yard.specs.Ledger.{Each}
use Rattle.cw_yard.specs.Seats.{IsSeatOf}
use Rattle.cw_pool.specs.declared.run.TheConstants.{MOST_BODIES}

-- a seat of the yard for each body
abbrev pub AreSeatsFor : Yard → (bodies : ℕ) → List Seat → Type 0
AreSeatsFor y bodies seats = (length seats ≡ bodies) × Each (IsSeatOf y) seats

-- the crew is not too large, and the effect means the job
abbrev pub IsDriven : (bodies : ℕ) → Job → Effect → Type 0
IsDriven bodies root e = (bodies ≤ MOST_BODIES) × IsMeaningOf root e

-- the reason why there is no effect: the crew is too large, or memory ran out before its first thread was started
abbrev pub IsNotDriven : (bodies : ℕ) → Fault → Type 0
IsNotDriven bodies fault.Arguments = MOST_BODIES < bodies
IsNotDriven bodies fault.Memory = bodies ≤ MOST_BODIES
IsNotDriven bodies _ = ⊥
