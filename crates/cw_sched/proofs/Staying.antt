-- What the run answers stays, once it is there.
use Rattle.std.proofs.Common.{◌≡◌, ◌∙◌, ℕ, zero, suc, ◌<◌, List, [], ◌∷◌, ◌++◌, Option, Some, sym, ap, subst, length, inl, inr}
use Rattle.std.specs.Prelude.{Result, Ok, Err}
use Rattle.std.specs.Arc.{arc_value}
use Rattle.std.proofs.lemmas.List.{length-set}
use Rattle.cw_text.specs.declared.fault.Fault.{Fault}
use Rattle.cw_runnable.specs.declared.verified.Verified.{Verified}
use Rattle.cw_jobs.specs.declared.effect.Effect.{Effect}
use Rattle.cw_machine.specs.declared.alone.Ended as alone
use Rattle.cw_sched.specs.core.Board.{but_newest, oldest, of_worker}
use Rattle.cw_sched.specs.declared.event.Event.{Event}
use Rattle.cw_sched.specs.declared.event.Event.TheVariants as event
use Rattle.cw_sched.specs.declared.event.Refused.{Refused}
use Rattle.cw_sched.specs.declared.post.Out.TheVariants as out
use Rattle.cw_sched.specs.declared.world.World.{World}
use Rattle.cw_sched.specs.Scenes.{FrameView, Stage, Goes, Made, Answered, Scene, scene, top}
use Rattle.cw_sched.specs.Events.{with_top, but_top, with_outs, Does, DoesOr}
use Rattle.cw_sched.specs.Worlds.{answer_in, KeepsAnswer}
use Rattle.cw_sched.proofs.Lists.{of_worker_set}
use Rattle.cw_sched.proofs.Placed.{there, first_turned, first_less, other_zero}
use Rattle.cw_sched.proofs.Ends.{answer_is}

-- the answer stands first with worker 0
abbrev First : Result alone.Ended Fault → List (List Stage) → Type 0
First a begun = oldest (of_worker begun 0) ≡ Some (Answered a)

goes_no_answer : (o : Option Stage) (p : FrameView) (a : Result alone.Ended Fault) → o ≡ Some (Goes p) → o ≡ Some (Answered a) → ⊥
goes_no_answer o p a e h = let bad : answer_in (Some (Goes p)) ≡ answer_in (Some (Answered a)) = ap answer_in (sym e ∙ h) in cc

made_no_answer : (o : Option Stage) (n : ℕ) (d : Effect) (a : Result alone.Ended Fault) → o ≡ Some (Made n d) → o ≡ Some (Answered a) → ⊥
made_no_answer o n d a e h = let bad : answer_in (Some (Made n d)) ≡ answer_in (Some (Answered a)) = ap answer_in (sym e ∙ h) in cc

turned_stays : (s : Scene) (w : ℕ) (p : FrameView) (x : Stage) (a : Result alone.Ended Fault) → First a s.begun → top s w ≡ Some (Goes p) → First a (with_top (but_top s.begun w) w x)
turned_stays s zero p x a h at =
    let l : List Stage = of_worker s.begun 0 in
    let lt = there s.begun 0 (Goes p) at in
    let but : List (List Stage) = but_top s.begun 0 in
    let lt' : 0 < length but = subst (λ n. 0 < n) (sym (length-set s.begun 0 (but_newest l))) lt in
    let b : of_worker but 0 ≡ but_newest l = of_worker_set s.begun 0 (but_newest l) lt in
    let c : of_worker (with_top but 0 x) 0 ≡ of_worker but 0 ++ x ∷ [] = of_worker_set but 0 (of_worker but 0 ++ x ∷ []) lt' in
    let is : oldest (of_worker (with_top but 0 x) 0) ≡ oldest (but_newest l ++ x ∷ []) = ap oldest (c ∙ ap (λ (k : List Stage). k ++ x ∷ []) b) in
    elim (first_turned l (Goes p) x at) [
      | inl r ↦ absurd (goes_no_answer (oldest l) p a r.0 h)
      | inr r ↦ is ∙ (r ∙ h)
    ]
turned_stays s (suc k) p x a h at =
    ap oldest (other_zero (but_top s.begun (suc k)) k _ ∙ other_zero s.begun k _) ∙ h

more_stays : (l : List Stage) (y : Stage) (a : Result alone.Ended Fault) → oldest l ≡ Some (Answered a) → oldest (l ++ y ∷ []) ≡ Some (Answered a)
more_stays [] y a h = let never : ⊥ = cc in absurd never
more_stays (z ∷ zs) y a h = h

stolen_stays : (s : Scene) (w : ℕ) (x : Stage) (a : Result alone.Ended Fault) → w < length s.begun → First a s.begun → First a (with_top s.begun w x)
stolen_stays s zero x a lt h =
    let b : of_worker (with_top s.begun 0 x) 0 ≡ of_worker s.begun 0 ++ x ∷ [] = of_worker_set s.begun 0 (of_worker s.begun 0 ++ x ∷ []) lt in
    ap oldest b ∙ more_stays (of_worker s.begun 0) x a h
stolen_stays s (suc k) x a lt h = ap oldest (other_zero s.begun k _) ∙ h

settled_stays : (s : Scene) (w n : ℕ) (e : Effect) (a : Result alone.Ended Fault) → top s w ≡ Some (Made n e) → First a s.begun → First a (but_top s.begun w)
settled_stays s zero n e a at h =
    let l : List Stage = of_worker s.begun 0 in
    let b : of_worker (but_top s.begun 0) 0 ≡ but_newest l = of_worker_set s.begun 0 (but_newest l) (there s.begun 0 (Made n e) at) in
    elim (first_less l (Made n e) at) [
      | inl r ↦ absurd (made_no_answer (oldest l) n e a r h)
      | inr r ↦ ap oldest b ∙ (r ∙ h)
    ]
settled_stays s (suc k) n e a at h = ap oldest (other_zero s.begun k _) ∙ h

same_first : (a : Result alone.Ended Fault) (begun begun' : List (List Stage)) → begun' ≡ begun → First a begun → First a begun'
same_first a begun begun' e h = subst (λ (b : List (List Stage)). First a b) (sym e) h

-- whichever event it is
does_stay : (v : Verified) (s s' : Scene) (e : Event) (a : Result alone.Ended Fault) → First a s.begun → Does v e s s' → First a s'.begun
does_stay v s s' (event.Run w) a h (inl d) = same_first a _ s'.begun (ap (λ (t : Scene). t.begun) d.is) (turned_stays s w d.at.post d.stage a h d.at.is)
does_stay v s s' (event.Run w) a h (inr d) = same_first a _ s'.begun (ap (λ (t : Scene). t.begun) d.is) (turned_stays s w d.at.post (Goes d.post) a h d.at.is)
does_stay v s s' (event.Offer w) a h d =
    let p = d.at.at.post in
    same_first a _ s'.begun (ap (λ (t : Scene). t.begun) d.is) (turned_stays s w p (with_outs p (d.at.older ++ out.Offered d.number ∷ [])) a h d.at.at.is)
does_stay v s s' (event.Inline w) a h d =
    let p = d.at.at.post in
    same_first a _ s'.begun (ap (λ (t : Scene). t.begun) d.is) (turned_stays s w p (with_outs p (d.at.older ++ out.Kept d.number d.job ∷ [])) a h d.at.at.is)
does_stay v s s' (event.Retake w) a h d = same_first a _ s'.begun (ap (λ (t : Scene). t.begun) d.is) (turned_stays s w d.at.at.post d.stage a h d.at.at.is)
does_stay v s s' (event.Steal w victim) a h d = same_first a _ s'.begun (ap (λ (t : Scene). t.begun) d.is) (stolen_stays s w d.stage a d.there h)
does_stay v s s' (event.Settle w) a h d = same_first a _ s'.begun (ap (λ (t : Scene). t.begun) d.is) (settled_stays s w d.number d.effect a d.made h)
does_stay v s s' (event.Collect w) a h d = same_first a _ s'.begun (ap (λ (t : Scene). t.begun) d.is) (turned_stays s w d.at.at.post d.stage a h d.at.at.is)

-- done or refused
answer_stays : (v : Verified) (e : Event) (r : Result (Unit {0}) Refused) (s s' : Scene) → DoesOr v e r s s' → KeepsAnswer s s'
answer_stays v e (Ok x) s s' d = λ a is. ap answer_in (does_stay v s s' e a (answer_is (oldest (of_worker s.begun 0)) a (sym is)) d)
answer_stays v e (Err x) s s' d = λ a is. ap (λ (t : Scene). answer_in (oldest (of_worker t.begun 0))) d ∙ is

pub world_stays : (w w' : World) (e : Event) (r : Result (Unit {0}) Refused) → DoesOr (arc_value w.code) e r (scene w) (scene w') → KeepsAnswer (scene w) (scene w')
world_stays w w' e r d = answer_stays (arc_value w.code) e r (scene w) (scene w') d
