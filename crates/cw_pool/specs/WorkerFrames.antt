-- A post: its strand, and the jobs that the strand has out.
use Rattle.std.specs.Prelude.{◌≡◌, List, ◌∷◌, map, reverse, Option, Some}
use Rattle.cw_jobs.specs.declared.effect.Effect.{Effect}
use Rattle.cw_jobs.specs.declared.job.Job.{Job}
use Rattle.cw_jobs.specs.Means.{IsMeaningOf}
use Rattle.cw_strand.specs.declared.strand.Strand.{Strand}
use Rattle.cw_strand.specs.declared.strand.End.{End}
use Rattle.cw_strand.specs.Holds.{its_job, outs, IsRunning}
use Rattle.cw_strand.specs.Moves.{EndsAt}
use Rattle.cw_yard.specs.declared.seat.Yard.{Yard}
use Rattle.cw_yard.specs.declared.ticket.Duty.{Duty}
use Rattle.cw_yard.specs.Ledger.{Each}
use Rattle.cw_yard.specs.Tickets.{ticket_job, duty_job}
use Rattle.cw_yard.specs.Seats.{IsTicketOf, IsDutyOf}
use Rattle.cw_pool.specs.declared.post.OutJob.{OutJob}
use Rattle.cw_pool.specs.declared.post.OutJob.TheVariants as kept
use Rattle.cw_pool.specs.declared.post.WorkerFrame.{WorkerFrame}
use Rattle.cw_pool.specs.declared.post.Turn.{Turn}
use Rattle.cw_pool.specs.declared.post.Turn.TheVariants as turn

-- this is the newest job that a strand has out
abbrev pub IsNewest : Strand → Job → Type 0
IsNewest self job = (others : List Job) × (outs self ≡ job ∷ others)

-- the job that is kept, or the job of the ticket
abbrev pub job_of_out : OutJob → Option Job
job_of_out (kept.Own job) = Some job
job_of_out (kept.Out t) = ticket_job t

-- the jobs that are kept or offered, the newest first
abbrev pub kept_jobs : List OutJob → List (Option Job)
kept_jobs ks = map job_of_out (reverse ks)

-- a ticket that is kept is a ticket of the yard
abbrev pub IsKeptOf : Yard → OutJob → Type 0
IsKeptOf y (kept.Own job) = Unit {0}
IsKeptOf y (kept.Out t) = IsTicketOf y t

-- THE POST HAS EXACTLY THE JOBS THAT ITS STRAND HAS OUT
abbrev pub Works : Yard → WorkerFrame → Type 0
Works y p =
    IsRunning p.strand × (kept_jobs p.kept.items ≡ map (λ j. Some j) (outs p.strand))
    × Each (IsKeptOf y) p.kept.items

-- the post has exactly the jobs that its strand has out, except for the newest, which is neither kept nor offered
abbrev pub Lacks : Yard → WorkerFrame → Option Job → Type 0
Lacks y p newest =
    IsRunning p.strand × (newest ∷ kept_jobs p.kept.items ≡ map (λ j. Some j) (outs p.strand))
    × Each (IsKeptOf y) p.kept.items

-- a post that begins a job, for every yard
abbrev pub Begins : Job → WorkerFrame → Type 0
Begins job p = (its_job p.strand ≡ job) × ((y : Yard) → Works y p)

-- the strand of the post has reached this end, and the post has exactly the jobs that are out; there is no such job
abbrev pub Ends : WorkerFrame → End → Type 0
Ends p e = EndsAt e p.strand × (kept_jobs p.kept.items ≡ map (λ j. Some j) (outs p.strand))

-- the state of the post after a turn
abbrev pub TurnsTo : Yard → WorkerFrame → Turn → Type 0
TurnsTo y p turn.Went = Works y p
TurnsTo y p turn.Waits = Works y p
TurnsTo y p (turn.Ends e) = Ends p e

-- a stolen job with the duty to settle it
abbrev pub IsFound : Yard → Job × Duty → Type 0
IsFound y found = IsDutyOf y found.1 × (duty_job found.1 ≡ Some found.0)

-- the effect means the job of the duty
abbrev pub Settles : Yard → Duty → Effect → Type 0
Settles y d e = IsDutyOf y d × ((job : Job) × (duty_job d ≡ Some job) × IsMeaningOf job e)
