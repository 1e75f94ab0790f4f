-- What a worker has begun last, as it is taken from its list and laid there.
use Rattle.std.proofs.Common.{◌≡◌, ◌≢◌, ◌∙◌, ℕ, zero, suc, ◌+◌, ◌-◌, ◌<◌, true, false, List, [], ◌∷◌, ◌++◌, Option, Some, None, refl, sym, ap, length, get_or, arith, Vec, Global, Bor}
use Rattle.std.specs.Prelude.{map, slice_get, slice_set, Result, Ok, Err, OnOk}
use Rattle.std.specs.Option.{option_copied}
use Rattle.std.proofs.lemmas.List.{nil_from_length}
use Rattle.cw_sched.specs.core.Board.{pushed, newest, but_newest, of_worker}
use Rattle.cw_text.specs.declared.fault.Fault.{Fault}
use Rattle.cw_jobs.specs.declared.effect.Effect.{Effect}
use Rattle.cw_machine.specs.declared.alone.Ended as alone
use Rattle.cw_sched.specs.declared.post.WorkerFrame.{WorkerFrame}
use Rattle.cw_sched.specs.declared.world.Begun.{Begun}
use Rattle.cw_sched.specs.declared.world.Begun.TheVariants as begun
use Rattle.cw_sched.specs.declared.post.Out.{Out}
use Rattle.cw_sched.specs.Scenes.{Stage, stage_of, stages, staged, out_of}
use Rattle.cw_sched.specs.Table.{goes, has_made}
use Rattle.cw_sched.specs.Events.{but_top, with_top}
use Rattle.cw_sched.proofs.Lists.{newest_pushed, but_newest_pushed}
use Rattle.cw_sched.proofs.Boards.{map_pushed, worker_read, worker_set, worker_kept, newest_there}

pub goes_some : (o : Option Stage) → goes o ≡ true → o ≢ None
goes_some None e none = let never : ⊥ = cc in never
goes_some (Some x) e none = let never : ⊥ = cc in never

pub made_some : (o : Option Stage) → has_made o ≡ true → o ≢ None
made_some None e none = let never : ⊥ = cc in never
made_some (Some x) e none = let never : ⊥ = cc in never

module _ (qs : List (Vec Begun Global)) (w : ℕ) (q q' : Vec Begun Global) where
  pub top_popped : (x : Begun) → w < length qs → q ≡ get_or qs w q → q.items ≡ q'.items ++ x ∷ [] → newest (of_worker (map stages qs) w) ≡ Some (stage_of x)
  top_popped x lt e items =
      ap newest (worker_read stages qs w q lt e ∙ (ap (map stage_of) items ∙ map_pushed stage_of q'.items x)) ∙ newest_pushed (map stage_of q'.items) (stage_of x)

  pub left_popped : (x : Begun) → w < length qs → q ≡ get_or qs w q → q.items ≡ q'.items ++ x ∷ [] → map stages (slice_set qs w q') ≡ but_top (map stages qs) w
  left_popped x lt e items =
      worker_set stages qs w q q' but_newest lt e
      (sym (ap but_newest (ap (map stage_of) items ∙ map_pushed stage_of q'.items x) ∙ but_newest_pushed (map stage_of q'.items) (stage_of x)))

  pub none_popped : w < length qs → q ≡ get_or qs w q → length q.items ≡ 0 → newest (of_worker (map stages qs) w) ≡ None
  none_popped lt e none = ap newest (worker_read stages qs w q lt e ∙ ap (map stage_of) (nil_from_length q.items none))

  pub top_laid : (x : Begun) → w < length qs → q ≡ get_or qs w q → q'.items ≡ q.items ++ x ∷ [] → map stages (slice_set qs w q') ≡ with_top (map stages qs) w (stage_of x)
  top_laid x lt e items =
      worker_set stages qs w q q' (λ l. pushed l (stage_of x)) lt e (ap (map stage_of) items ∙ map_pushed stage_of q.items x)

  pub same_laid : w < length qs → q ≡ get_or qs w q → q'.items ≡ q.items → map stages (slice_set qs w q') ≡ map stages qs
  same_laid lt e items = worker_kept stages qs w q q' lt e (ap (map stage_of) items)

pub there : (qs : List (Vec Begun Global)) (w : ℕ) → newest (of_worker (map stages qs) w) ≢ None → w < length qs
there qs w some = newest_there stages qs w some

last_at : {O : Type 0} (l : List O) (k : ℕ) → k + 1 ≡ length l → newest l ≡ slice_get l k
last_at [] k e = absurd (omega (arith, e))
last_at (x ∷ []) zero e = refl
last_at (x ∷ []) (suc k) e = absurd (omega (arith, e))
last_at (x ∷ (y ∷ l)) zero e = absurd (omega (arith, e))
last_at (x ∷ (y ∷ l)) (suc k) e = last_at (y ∷ l) k (omega (arith, e))

pub newest_at : {O : Type 0} (l : List O) → newest l ≡ slice_get l (length l - 1)
newest_at [] = refl
newest_at (x ∷ l) = last_at (x ∷ l) (length (x ∷ l) - 1) (omega arith)

abbrev over : {A B : Type 0} → (A → B) → Option A → Option B
over f None = None
over f (Some x) = Some (f x)

newest_over : {A B : Type 0} (f : A → B) (xs : List A) → newest (map f xs) ≡ over f (newest xs)
newest_over f [] = refl
newest_over f (x ∷ []) = refl
newest_over f (x ∷ (y ∷ xs)) = newest_over f (y ∷ xs)

staged_over : (r : Option (Bor Begun)) → staged r ≡ over stage_of (option_copied r)
staged_over None = refl
staged_over (Some b) = refl

pub staged_last : (r : Option (Bor Begun)) (xs : List Begun) → option_copied r ≡ slice_get xs (length xs - 1) → staged r ≡ newest (map stage_of xs)
staged_last r xs e = staged_over r ∙ (ap (over stage_of) (e ∙ sym (newest_at xs)) ∙ sym (newest_over stage_of xs))

out_copied : (r : Option (Bor Out)) → out_of r ≡ option_copied r
out_copied None = refl
out_copied (Some b) = refl

pub out_last : (r : Option (Bor Out)) (xs : List Out) → option_copied r ≡ slice_get xs (length xs - 1) → out_of r ≡ newest xs
out_last r xs e = out_copied r ∙ (e ∙ sym (newest_at xs))

pub on_ok : {A E : Type 0} {P Q : Type 0} (r : Result A E) → (P → Q) → OnOk r P → OnOk r Q
on_ok (Ok x) f h = f h
on_ok (Err e) f h = h

pub goes_not : (o : Option Stage) (x : Stage) → goes o ≡ true → o ≡ Some x → goes (Some x) ≡ true
goes_not o x h e = sym (ap goes e) ∙ h

pub made_not : (o : Option Stage) (x : Stage) → has_made o ≡ true → o ≡ Some x → has_made (Some x) ≡ true
made_not o x h e = sym (ap has_made e) ∙ h

pub made_never : (x : Begun) (n : ℕ) (e : Effect) → goes (Some (stage_of x)) ≡ true → x ≡ begun.Made n e → ⊥
made_never x n e h is = let bad : true ≡ false = sym h ∙ ap (λ y. goes (Some (stage_of y))) is in cc

pub answered_never : (x : Begun) (r : Result alone.Ended Fault) → goes (Some (stage_of x)) ≡ true → x ≡ begun.Answered r → ⊥
answered_never x r h is = let bad : true ≡ false = sym h ∙ ap (λ y. goes (Some (stage_of y))) is in cc

pub goes_never : (x : Begun) (p : WorkerFrame) → has_made (Some (stage_of x)) ≡ true → x ≡ begun.Goes p → ⊥
goes_never x p h is = let bad : true ≡ false = sym h ∙ ap (λ y. has_made (Some (stage_of y))) is in cc

pub told_never : (x : Begun) (r : Result alone.Ended Fault) → has_made (Some (stage_of x)) ≡ true → x ≡ begun.Answered r → ⊥
told_never x r h is = let bad : true ≡ false = sym h ∙ ap (λ y. has_made (Some (stage_of y))) is in cc
