-- What the laws of worlds say of the scheduler's.
use Rattle.std.proofs.Common.{◌≡◌, ◌⊎◌, Bool, true, false, Option, Some, None, refl, subst, inl, inr}
use Rattle.std.specs.Prelude.{slice_get}
use Rattle.cw_code.specs.Run.{code_serial}
use Rattle.cw_code.specs.Jobs.{Job, root_job, Memory, answered}
use Rattle.cw_code.specs.Worlds.{Place, effect_in, WorldsAreSerial, OwnersAreSingle, EffectsMean, NoneIsUnfit}
use Rattle.cw_code.specs.lemmas.Ample.{Ample, made_ample}
use Rattle.cw_sched.specs.core.Table.{Sched, world_run, first_sched, effect_at}
use Rattle.cw_sched.specs.core.Laws.{is_short, OutcomesAreSerial, EffectsMeanTheirJobs, JobsAreSingle, NoneIsUnfitHere}
use Rattle.cw_sched.proofs.core.Events.{begins, runs_come}
use Rattle.cw_sched.proofs.core.Ample.{stays_ample, starts_ample}

pub effects_mean_their_jobs : EffectsMean → EffectsMeanTheirJobs
effects_mean_their_jobs means code root others events i job place e le has is =
    means code root (world_run code events (first_sched root others)).world i job place e le (runs_come code root others events) has is

pub jobs_are_single : OwnersAreSingle → JobsAreSingle
jobs_are_single single code root others events = single code root (world_run code events (first_sched root others)).world (runs_come code root others events)

pub outcomes_are_serial : WorldsAreSerial → OutcomesAreSerial
outcomes_are_serial serial code f args limit others events e first is = at_place (slice_get last.world.places 0) refl is
  where
    root : Job
    root = root_job f args limit

    last : Sched
    last = world_run code events (first_sched root others)

    short : (place : Place) → slice_get last.world.places 0 ≡ Some place → effect_in place ≡ Some e → e ≡ Memory → (b : Bool) → is_short events ≡ b → b ≡ true
    short place at made is_memory true g = refl
    short place at made is_memory false g = absurd (subst Ample is_memory
        (made_ample place e (stays_ample code events (first_sched root others) g (begins root others) (starts_ample root others) 0 place at) made))

    at_place : (o : Option Place) → slice_get last.world.places 0 ≡ o → effect_at o ≡ Some e → ((e ≡ Memory) × (is_short events ≡ true)) ⊎ (answered code e ≡ code_serial code args limit)
    at_place None g h = cc
    at_place (Some place) g h = elim (serial code f args limit last.world place e first (runs_come code root others events) g h) [
      | inl m ↦ inl (m, short place g h m (is_short events) refl)
      | inr m ↦ inr m
    ]

pub none_is_unfit_here : NoneIsUnfit → NoneIsUnfitHere
none_is_unfit_here none code fits f args limit others events i worker job strand outs main count has =
    none code fits f args limit (world_run code events (first_sched (root_job f args limit) others)).world i worker job strand outs main count
    (runs_come code (root_job f args limit) others events) has
