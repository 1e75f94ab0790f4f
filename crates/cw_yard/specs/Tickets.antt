-- The meaning of a ticket and of a duty.
use Rattle.std.specs.Prelude.{◌≡◌, ◌⊎◌, ℕ, List, Option, Some}
use Rattle.cw_jobs.specs.declared.job.Job.{Job}
use Rattle.cw_yard.specs.declared.ticket.Ticket.{Ticket}
use Rattle.cw_yard.specs.declared.ticket.Duty.{Duty}
use Rattle.cw_yard.specs.declared.task.Offer.{Offer}
use Rattle.cw_yard.specs.Ledger.{Lot}
use Rattle.cw_yard.specs.Words.{owner_deal, duty_deal, job_in, number_in, Takes}

-- THE JOB AND THE NUMBER OF A TICKET, THE JOB OF A DUTY
abbrev pub ticket_job : Ticket → Option Job
ticket_job t = job_in (owner_deal t.token.me.0)

abbrev pub ticket_number : Ticket → Option ℕ
ticket_number t = number_in (owner_deal t.token.me.0)

abbrev pub duty_job : Duty → Option Job
duty_job d = job_in (duty_deal d.token.me.0)

-- THE TICKET IS THE NEWEST: its job was not taken back, and all jobs offered after it were
abbrev pub IsNewest : List Offer → Ticket → Type 0
IsNewest os t = (j : Job) × (os' : List Offer) × Takes os (ticket_number t) (j, t.cell) os'

-- the offers are unchanged; or the ticket is not the newest, and one job counts as taken back
abbrev pub LeavesAll : Ticket → (old new : List Offer) → Type 0
LeavesAll t old new = (new ≡ old) ⊎ (¬ IsNewest old t × ((n : ℕ) × (l : Lot) × Takes old (Some n) l new))
