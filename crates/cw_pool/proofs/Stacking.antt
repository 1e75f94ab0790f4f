-- The posts of a worker as jobs are stolen and settled.
use Rattle.std.proofs.Common.{◌≡◌, ◌++◌, ℕ, List, [], ◌∷◌, Some, sym, ap, subst, reverse}
use Rattle.std.specs.declared.snapshot.Snapshot.{Snapshot}
use Rattle.cw_jobs.specs.declared.job.Job.{Job}
use Rattle.cw_strand.specs.declared.strand.Strand.{Strand}
use Rattle.cw_strand.specs.Holds.{its_job}
use Rattle.cw_yard.specs.declared.ticket.Duty.{Duty}
use Rattle.cw_yard.specs.declared.seat.Yard.{Yard}
use Rattle.cw_yard.specs.Tickets.{duty_job}
use Rattle.cw_yard.specs.Seats.{IsDutyOf}
use Rattle.cw_pool.specs.declared.post.WorkerFrame.{WorkerFrame}
use Rattle.cw_pool.specs.declared.work.Below.{Below}
use Rattle.cw_pool.specs.WorkerFrames.{Works}
use Rattle.cw_pool.specs.StrandStacks.{StrandStack}
use Rattle.cw_pool.proofs.Joins.{last_first}

pub same_of : (s t : Strand) → s.of ≡ t.of → its_job s ≡ its_job t
same_of s t e = ap (λ (o : Snapshot Job). o.value) e

abbrev pub below : WorkerFrame → Duty → (held : ℕ) → Below
below p d held = record { post = p; duty = d; held = held }

pub begun : (y : Yard) (root job : Job) (bs : List Below) → bs ≡ [] → job ≡ root → StrandStack y root job (reverse bs)
begun y root job bs none e = subst (λ l. StrandStack y root job (reverse l)) (sym none) e

pub same_chain : (y : Yard) (root job job' : Job) (bs bs' : List Below) → job' ≡ job → bs' ≡ bs → StrandStack y root job (reverse bs) → StrandStack y root job' (reverse bs')
same_chain y root job job' bs bs' e same h = subst (λ l. StrandStack y root job' (reverse l)) (sym same) (subst (λ j. StrandStack y root j (reverse bs)) (sym e) h)

pub more : (y : Yard) (root job : Job) (bs bs' : List Below) (b : Below) → bs' ≡ bs ++ b ∷ [] → duty_job b.duty ≡ Some job → IsDutyOf y b.duty
    → Works y b.post → StrandStack y root (its_job b.post.strand) (reverse bs) → StrandStack y root job (reverse bs')
more y root job bs bs' b e d of w h = subst (λ l. StrandStack y root job l) (sym (last_first bs' bs b e)) (d, of, w, h)

pub less : (y : Yard) (root job : Job) (bs bs' : List Below) (b : Below) → bs ≡ bs' ++ b ∷ [] → StrandStack y root job (reverse bs)
    → (duty_job b.duty ≡ Some job) × IsDutyOf y b.duty × Works y b.post × StrandStack y root (its_job b.post.strand) (reverse bs')
less y root job bs bs' b e h = subst (λ l. StrandStack y root job l) (last_first bs bs' b e) h
