-- The posts of a worker, one above the other.
use Rattle.std.specs.Prelude.{◌≡◌, List, [], ◌∷◌, reverse, Some}
use Rattle.cw_jobs.specs.declared.job.Job.{Job}
use Rattle.cw_strand.specs.Holds.{its_job}
use Rattle.cw_yard.specs.declared.seat.Yard.{Yard}
use Rattle.cw_yard.specs.Tickets.{duty_job}
use Rattle.cw_yard.specs.Seats.{IsDutyOf}
use Rattle.cw_pool.specs.declared.post.WorkerFrame.{WorkerFrame}
use Rattle.cw_pool.specs.declared.work.Below.{Below}
use Rattle.cw_pool.specs.WorkerFrames.{Works}

-- THE JOB ABOVE EACH WAITING POST IS THE JOB OF THE DUTY NEXT TO IT, and the job of the lowest post is the root
abbrev pub StrandStack : Yard → (root above : Job) → List Below → Type 0
StrandStack y root above [] = above ≡ root
StrandStack y root above (b ∷ bs) =
    (duty_job b.duty ≡ Some above) × IsDutyOf y b.duty × Works y b.post × StrandStack y root (its_job b.post.strand) bs

-- the jobs of a post and of the posts below it form a chain; the uppermost waiting post is last in the list
abbrev pub FormsChain : Yard → (root : Job) → WorkerFrame → List Below → Type 0
FormsChain y root p below = Works y p × StrandStack y root (its_job p.strand) (reverse below)

-- if a post and those below it form a chain, the new post and those below it do, for every root
abbrev pub KeepsStack : Yard → (p : WorkerFrame) → List Below → (p' : WorkerFrame) → List Below → Type 0
KeepsStack y p below p' below' = (root : Job) → FormsChain y root p below → FormsChain y root p' below'
