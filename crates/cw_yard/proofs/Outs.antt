use Rattle.std.proofs.Common.{◌≡◌, if◌then◌else◌, ℕ, Bool, true, false, true≢false, [], sym, ap, ◌∙◌, subst, refl, Option, eq-eqb, ne_eqb}
use mathlib.Core.Logic.{dite}
use native.Mathlib.Decide.{ℕ_discrete}
use Rattle.atomic_table.specs.Table.{Me}
use Rattle.cw_jobs.specs.declared.job.Job.{Job}
use Rattle.cw_yard.specs.declared.left.Left.{Left}
use Rattle.cw_yard.specs.declared.view.Stage.{Stage}
use Rattle.cw_yard.specs.declared.view.Stage.TheVariants.{Free, Held, Out, Back, Taken}
use Rattle.cw_yard.specs.declared.view.CellView.{CellView}
use Rattle.cw_yard.specs.declared.view.CellView.TheVariants.{Idle, Rest, Owner, Duty}
use Rattle.cw_yard.specs.Words.{is_out, is_out_stage, is_duty, is_open}

abbrev pub Outs : ℕ → Me (Option Left) CellView → Type 0
Outs c m = (n : ℕ) × (j : Job) × (m ≡ (Owner c (Out n j), []))

both : {A B : Type 0} (m : A × B) (a : A) (b : B) → m.0 ≡ a → m.1 ≡ b → m ≡ (a, b)
both m a b p q = λ i. (p i, q i)

stage : (c d : ℕ) (k : Stage) (m : Me (Option Left) CellView) → m.0 ≡ Owner d k → d ≡ c → is_out_stage k ≡ true → m.1 ≡ [] → Outs c m
stage c d Free m is e o q = absurd (true≢false (sym o))
stage c d (Held n j) m is e o q = absurd (true≢false (sym o))
stage c d (Out n j) m is e o q = (n, j, both m (Owner c (Out n j)) [] (is ∙ ap (λ x. Owner x (Out n j)) e) q)
stage c d (Back n j x y) m is e o q = absurd (true≢false (sym o))
stage c d (Taken n j) m is e o q = absurd (true≢false (sym o))

view : (c : ℕ) (v : CellView) (m : Me (Option Left) CellView) → m.0 ≡ v → is_out c v ≡ true → m.1 ≡ [] → Outs c m
view c Idle m is o q = absurd (true≢false (sym o))
view c (Rest k) m is o q = absurd (true≢false (sym o))
view c (Owner d k) m is o q = dite (ℕ_discrete d c) (λ e. stage c d k m is e (sym (ap (λ b. if b then is_out_stage k else false) (eq-eqb d c e)) ∙ o) q)
    (λ ne. absurd (true≢false (sym (sym (ap (λ b. if b then is_out_stage k else false) (ne_eqb d c ne)) ∙ o))))
view c (Duty d b n j) m is o q = absurd (true≢false (sym o))

pub outs : (c : ℕ) (m : Me (Option Left) CellView) → is_out c m.0 ≡ true → m.1 ≡ [] → Outs c m
outs c m o q = view c m.0 m refl o q

pub out_now : (c n : ℕ) (j : Job) → is_out c (Owner c (Out n j)) ≡ true
out_now c n j = ap (λ b. if b then true else false) (eq-eqb c c refl)

pub out_of : (c n : ℕ) (j : Job) (m : Me (Option Left) CellView) → m ≡ (Owner c (Out n j), []) → is_out c m.0 ≡ true
out_of c n j m e = subst (λ (x : Me (Option Left) CellView). is_out c x.0 ≡ true) (sym e) (out_now c n j)

abbrev pub OnDuties : ℕ → Me (Option Left) CellView → Type 0
OnDuties c m = (n : ℕ) × (j : Job) × (m ≡ (Duty c false n j, []))

open_duty : (c d : ℕ) (b : Bool) (n : ℕ) (j : Job) (m : Me (Option Left) CellView) → m.0 ≡ Duty d b n j → d ≡ c → is_open b ≡ true → m.1 ≡ [] → OnDuties c m
open_duty c d true n j m is e o q = absurd (true≢false (sym o))
open_duty c d false n j m is e o q = (n, j, both m (Duty c false n j) [] (is ∙ ap (λ x. Duty x false n j) e) q)

duty_view : (c : ℕ) (v : CellView) (m : Me (Option Left) CellView) → m.0 ≡ v → is_duty c v ≡ true → m.1 ≡ [] → OnDuties c m
duty_view c Idle m is o q = absurd (true≢false (sym o))
duty_view c (Rest k) m is o q = absurd (true≢false (sym o))
duty_view c (Owner d k) m is o q = absurd (true≢false (sym o))
duty_view c (Duty d b n j) m is o q = dite (ℕ_discrete d c) (λ e. open_duty c d b n j m is e (sym (ap (λ t. if t then is_open b else false) (eq-eqb d c e)) ∙ o) q)
    (λ ne. absurd (true≢false (sym (sym (ap (λ t. if t then is_open b else false) (ne_eqb d c ne)) ∙ o))))

-- a duty that was not begun is a duty for some job
pub duties : (c : ℕ) (m : Me (Option Left) CellView) → is_duty c m.0 ≡ true → m.1 ≡ [] → OnDuties c m
duties c m o q = duty_view c m.0 m refl o q
