-- A world after an event, done or refused.
use Rattle.std.proofs.Common.{◌≡◌, ◌∙◌, ◌↔◌, ℕ, ℤ, Bool, true, false, List, sym, ap, subst}
use Rattle.std.specs.Prelude.{Result, Ok, Err, IfErr}
use Rattle.std.specs.Arc.{arc_value}
use Rattle.cw_model.specs.declared.burden.Burden.{Burden}
use Rattle.cw_runnable.specs.declared.verified.Verified.{Verified}
use Rattle.cw_sched.specs.declared.event.Event.{Event}
use Rattle.cw_sched.specs.declared.event.Refused.{Refused}
use Rattle.cw_sched.specs.declared.event.Refused.TheVariants as refused
use Rattle.cw_sched.specs.declared.world.World.{World}
use Rattle.cw_sched.specs.Scenes.{Scene, scene}
use Rattle.cw_sched.specs.Sound.{Sound, KeepsRuns}
use Rattle.cw_sched.specs.Places.{OnePlace, RootIsFirst}
use Rattle.cw_sched.specs.Worlds.{IsSound, IsWorldOf}
use Rattle.cw_sched.specs.Events.{DoesOr}
use Rattle.cw_sched.proofs.Sounds.{does_sound, does_jobs}
use Rattle.cw_sched.proofs.Placed.{does_placed, does_root}

pub record Kept (v : Verified) (s s' : Scene) : Type 0 where
  pub right : Sound v s'
  pub places : OnePlace s'
  pub first : RootIsFirst s'
  pub run : KeepsRuns s.jobs s'.jobs

pub kept : (v : Verified) (e : Event) (r : Result (Unit {0}) Refused) (s s' : Scene) → Sound v s → OnePlace s → RootIsFirst s → DoesOr v e r s s' → Kept v s s'
kept v e (Ok x) s s' h o f d =
    record { right = does_sound v s s' e h d; places = does_placed v s s' e h.workers o d; first = does_root v s s' e f d; run = does_jobs v s s' e d }
kept v e (Err x) s s' h o f d =
    record {
      right = subst (λ (t : Scene). Sound v t) (sym d) h;
      places = subst (λ (t : Scene). OnePlace t) (sym d) o;
      first = subst (λ (t : Scene). RootIsFirst t) (sym d) f;
      run = subst (λ (t : Scene). KeepsRuns s.jobs t.jobs) (sym d) (λ root is. is);
    }

pub kept_world : (w w' : World) (e : Event) (r : Result (Unit {0}) Refused) → IsSound w → w'.code ≡ w.code → DoesOr (arc_value w.code) e r (scene w) (scene w') → IsSound w'
kept_world w w' e r h same d =
    let k = kept (arc_value w.code) e r (scene w) (scene w') h.right h.places h.first d in
    record { right = subst (λ c. Sound (arc_value c) (scene w')) (sym same) k.right; places = k.places; first = k.first }

pub kept_run : (w w' : World) (e : Event) (r : Result (Unit {0}) Refused) → IsSound w → DoesOr (arc_value w.code) e r (scene w) (scene w') → KeepsRuns (scene w).jobs (scene w').jobs
kept_run w w' e r h d = (kept (arc_value w.code) e r (scene w) (scene w') h.right h.places h.first d).run

-- where it is possible it is not refused as not possible
pub not_not_now : (r : Result (Unit {0}) Refused) (b : Bool) → b ≡ true → IfErr r (λ e. e ≡ refused.Memory) → (r ≡ Err refused.NotNow) ↔ (b ≡ false)
not_not_now (Ok x) b e m = ((λ k. let never : ⊥ = cc in absurd never), λ k. let never : ⊥ = cc in absurd never)
not_not_now (Err x) b e m = ((λ k. let never : ⊥ = cc in absurd never), λ k. let never : ⊥ = cc in absurd never)

pub still_world : (v : Verified) (args : List ℤ) (n : ℕ) (burden : Burden) (w w' : World) → IsWorldOf v args n burden w → IsSound w' → w'.code ≡ w.code → KeepsRuns (scene w).jobs (scene w').jobs
    → IsWorldOf v args n burden w'
still_world v args n burden w w' h sound same keeps =
    record { sound = sound; code_is = ap arc_value same ∙ h.code_is; run = (h.run.0, keeps h.run.0 h.run.1, h.run.2) }
