-- What a world answers, once its root has ended.
use Rattle.std.proofs.Common.{◌≡◌, ℕ, ℤ, false, List, [], ◌∷◌, Option, Some, None, refl, sym, ap, subst, Bor}
use Rattle.std.specs.Prelude.{map, slice_get, Result}
use Rattle.std.specs.Option.{option_copied}
use Rattle.std.specs.Arc.{arc_value}
use Rattle.cw_model.specs.declared.burden.Burden.{Burden}
use Rattle.cw_text.specs.declared.fault.Fault.{Fault}
use Rattle.cw_code.specs.Code.{code_view}
use Rattle.cw_runnable.specs.declared.verified.Verified.{Verified}
use Rattle.cw_jobs.specs.Jobs.{IsRoot}
use Rattle.cw_machine.specs.declared.alone.Ended as alone
use Rattle.cw_machine.specs.Runs.{RunsAsCode}
use Rattle.cw_sched.specs.core.Board.{oldest, of_worker}
use Rattle.cw_sched.specs.declared.world.Begun.{Begun}
use Rattle.cw_sched.specs.declared.world.World.{World}
use Rattle.cw_sched.specs.Scenes.{Stage, Goes, Made, Answered, scene, staged, stage_of}
use Rattle.cw_sched.specs.Sound.{IsAnswer, IsStage}
use Rattle.cw_sched.specs.Worlds.{IsWorldOf, answer_in, is_answered}
use Rattle.cw_sched.proofs.Lists.{each_oldest, each_worker}

pub staged_first : (r : Option (Bor Begun)) (xs : List Begun) → option_copied r ≡ slice_get xs 0 → staged r ≡ oldest (map stage_of xs)
staged_first None [] e = refl
staged_first None (x ∷ xs) e = let never : ⊥ = cc in absurd never
staged_first (Some b) [] e = let never : ⊥ = cc in absurd never
staged_first (Some b) (x ∷ xs) e = let same : b.now ≡ x = cc in ap (λ y. Some (stage_of y)) same

pub answer_is : (o : Option Stage) (r : Result alone.Ended Fault) → Some r ≡ answer_in o → o ≡ Some (Answered r)
answer_is None r e = let never : ⊥ = cc in absurd never
answer_is (Some (Goes p)) r e = let never : ⊥ = cc in absurd never
answer_is (Some (Made n d)) r e = let never : ⊥ = cc in absurd never
answer_is (Some (Answered a)) r e = let same : r ≡ a = cc in ap (λ y. Some (Answered y)) (sym same)

pub answer_none : (o : Option Stage) → None ≡ answer_in o → is_answered o ≡ false
answer_none None e = refl
answer_none (Some (Goes p)) e = refl
answer_none (Some (Made n d)) e = refl
answer_none (Some (Answered a)) e = let never : ⊥ = cc in absurd never

pub root_answer : (v : Verified) (args : List ℤ) (n : ℕ) (burden : Burden) (w : World) (r : Result alone.Ended Fault) → IsWorldOf v args n burden w
    → oldest (of_worker (scene w).begun 0) ≡ Some (Answered r) → RunsAsCode (code_view v.code) args n burden r
root_answer v args n burden w r h e =
    let v' = arc_value w.code in
    let s = scene w in
    let a : IsAnswer v' s.jobs r = each_oldest (IsStage v' s.jobs) (of_worker s.begun 0) (Answered r) (each_worker (IsStage v' s.jobs) s.begun 0 h.sound.right.begun) e in
    let is : IsRoot v' args n burden h.run.0.parts.value = subst (λ x. IsRoot x args n burden h.run.0.parts.value) (sym h.code_is) h.run.2 in
    subst (λ (x : Verified). RunsAsCode (code_view x.code) args n burden r) h.code_is (a args n burden h.run.0 h.run.1 is)
