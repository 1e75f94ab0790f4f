-- An effect that means a job determines the job's run within each budget.
use Rattle.std.proofs.Common.{◌≡◌, ℕ, ◌-◌, ◌<◌, sym, subst, arith}
use Rattle.cw_code.specs.Code.{Code}
use Rattle.cw_code.specs.Jobs.{Came, Arrives, Returns, Falls, Beyond, Lost, Job, job_start, course, Effect, Ended, Joined, TrapIn, OverLimit, Memory, IsOf, JobMeaning, Same, Passed, Short}
use Rattle.cw_code.specs.Strands.{cost_of}
use Rattle.cw_code.specs.Promises.{RepresentsRun}
use Rattle.cw_code.specs.lemmas.Budgets.{Exact, exact}

module _ (code : Code) (job : Job) where
  within_stands : (e : Effect) (c : Came) → Exact job.limit (course code job) c → IsOf c job.limit e → RepresentsRun code job e
  within_stands e (Arrives frame t left) p h = subst (RepresentsRun code job) (sym h) p.1
  within_stands e (Returns v arrays t left) p h = subst (RepresentsRun code job) (sym h) p.1
  within_stands e (Falls trap line lines left) p h = subst (RepresentsRun code job) (sym h) p.1
  within_stands e Beyond p h = subst (RepresentsRun code job) (sym h) (λ m le. p m (omega (arith, le)))
  within_stands e Lost p h = absurd h

  pub meaning_stands : (e : Effect) → JobMeaning code job e → RepresentsRun code job e
  meaning_stands e (Same h) = within_stands e (course code job job.limit) (exact job.extent code job.limit (job_start job)) h
  meaning_stands e (Passed over h) =
      let all : Exact (job.limit - job.before) (course code job) Beyond =
      subst (λ c. Exact (job.limit - job.before) (course code job) c) h (exact job.extent code (job.limit - job.before) (job_start job)) in
      subst (RepresentsRun code job) (sym over) (λ m le. all m (omega (arith, le)))
  meaning_stands e (Short short) = subst (RepresentsRun code job) (sym short) tt

  -- the run of an effect has not ended before its cost
  pub stands_short : (e : Effect) → RepresentsRun code job e → (m : ℕ) → m < cost_of e → course code job m ≡ Beyond
  stands_short (Ended v arrays t cost) h m lt = h.short m lt
  stands_short (Joined frame t cost) h m lt = h.short m lt
  stands_short (TrapIn trap line lines cost) h m lt = h.short m lt
  stands_short OverLimit h m lt = absurd (omega (arith, lt))
  stands_short Memory h m lt = absurd (omega (arith, lt))
