-- Each event leaves each job in one place, and the root first with worker 0.
use Rattle.std.proofs.Common.{◌≡◌, ◌⊎◌, ◌∙◌, ℕ, zero, suc, ◌+◌, ◌<◌, ◌≤◌, Bool, true, false, List, [], ◌∷◌, ◌++◌, Option, Some, None, refl, sym, ap, subst, length, inl, inr, arith}
use Rattle.std.specs.Prelude.{slice_get, slice_set, nat_eq, take, drop}
use Rattle.std.specs.List.{remove}
use Rattle.std.proofs.lemmas.Option.{same_Some}
use Rattle.std.proofs.lemmas.List.{length_push, length-set}
use Rattle.cw_runnable.specs.declared.verified.Verified.{Verified}
use Rattle.cw_sched.specs.core.Board.{newest, but_newest, oldest, but_oldest, of_worker}
use Rattle.cw_sched.specs.declared.board.Offer.{Offer}
use Rattle.cw_sched.specs.declared.board.Cell.{Cell}
use Rattle.cw_sched.specs.declared.event.Event.{Event}
use Rattle.cw_sched.specs.declared.event.Event.TheVariants as event
use Rattle.cw_sched.specs.declared.post.Out.{Out}
use Rattle.cw_sched.specs.declared.post.Out.TheVariants as out
use Rattle.cw_jobs.specs.declared.effect.Effect.{Effect}
use Rattle.cw_sched.specs.core.Laws.{one_if}
use Rattle.cw_sched.specs.Boards.{Boarded, back_number, newest_number}
use Rattle.cw_sched.specs.Scenes.{FrameView, Stage, Goes, Made, Answered, Scene, top}
use Rattle.cw_sched.specs.Places.{once, sum_of, sum_over, out_at, out_of, held_at, held_by, run_by, offered_at, settled_at, OnePlace, IsRootStage, RootIsFirst}
use Rattle.cw_sched.specs.Events.{with_top, but_top, turned, board_without, with_outs, IsAtBack, GoesOn, Runs, Spawns, Offers, Inlines, Retakes, Steals, Settles, Collects, Does}
use Rattle.cw_sched.proofs.Lists.{IsSomeOf, within_worker, of_worker_set}
use Rattle.cw_sched.proofs.Boards.{found}

pub there : {A : Type 0} (ls : List (List A)) (w : ℕ) (x : A) → newest (of_worker ls w) ≡ Some x → w < length ls
there ls w x e = within_worker ls w (λ none. absurd (subst IsSomeOf (sym e ∙ ap newest none) tt))

first_there : {A : Type 0} (ls : List (List A)) (w : ℕ) (x : A) → oldest (of_worker ls w) ≡ Some x → w < length ls
first_there ls w x e = within_worker ls w (λ none. absurd (subst IsSomeOf (sym e ∙ ap oldest none) tt))

same_number : (x : Cell) (m : ℕ) → nat_eq x.number m ≡ true → x.number ≡ m
same_number x m e = grind (arith, e)

module _ {A : Type 0} (f : A → ℕ) where
  sum_pushed : (xs : List A) (x : A) → sum_of f (xs ++ x ∷ []) ≡ sum_of f xs + f x
  sum_pushed [] x = omega arith
  sum_pushed (y ∷ ys) x = let r : sum_of f (ys ++ x ∷ []) ≡ sum_of f ys + f x = sum_pushed ys x in omega (arith, r)

  sum_newest : (xs : List A) (x : A) → newest xs ≡ Some x → sum_of f xs ≡ sum_of f (but_newest xs) + f x
  sum_newest [] x e = absurd (subst IsSomeOf (sym e) tt)
  sum_newest (y ∷ []) x e = let r : f y ≡ f x = ap f (same_Some y x e) in omega (arith, r)
  sum_newest (y ∷ (z ∷ zs)) x e = let r : sum_of f (z ∷ zs) ≡ sum_of f (but_newest (z ∷ zs)) + f x = sum_newest (z ∷ zs) x e in omega (arith, r)

  sum_oldest : (xs : List A) (x : A) → oldest xs ≡ Some x → sum_of f xs ≡ sum_of f (but_oldest xs) + f x
  sum_oldest [] x e = absurd (subst IsSomeOf (sym e) tt)
  sum_oldest (y ∷ ys) x e = let r : f y ≡ f x = ap f (same_Some y x e) in omega (arith, r)

  sum_append : (xs ys : List A) → sum_of f (xs ++ ys) ≡ sum_of f xs + sum_of f ys
  sum_append [] ys = omega arith
  sum_append (x ∷ xs) ys = let r : sum_of f (xs ++ ys) ≡ sum_of f xs + sum_of f ys = sum_append xs ys in omega (arith, r)

  sum_cut : (xs : List A) (i : ℕ) (x : A) → slice_get xs i ≡ Some x → sum_of f xs ≡ sum_of f (take i xs) + (f x + sum_of f (drop (suc i) xs))
  sum_cut [] i x e = absurd (subst IsSomeOf (sym e) tt)
  sum_cut (y ∷ ys) zero x e = let r : f y ≡ f x = ap f (same_Some y x e) in omega (arith, r)
  sum_cut (y ∷ ys) (suc i) x e = let r : sum_of f ys ≡ sum_of f (take i ys) + (f x + sum_of f (drop (suc i) ys)) = sum_cut ys i x e in omega (arith, r)

  sum_remove : (xs : List A) (i : ℕ) (x : A) → slice_get xs i ≡ Some x → sum_of f xs ≡ sum_of f (remove xs i) + f x
  sum_remove xs i x e =
      let a : sum_of f xs ≡ sum_of f (take i xs) + (f x + sum_of f (drop (suc i) xs)) = sum_cut xs i x e in
      let b : sum_of f (take i xs ++ drop (suc i) xs) ≡ sum_of f (take i xs) + sum_of f (drop (suc i) xs) = sum_append (take i xs) (drop (suc i) xs) in
      omega (arith, a, b)

  -- a worker's list is set to another one
  over_set : (ls : List (List A)) (w : ℕ) (l : List A) → w < length ls → sum_over f (slice_set ls w l) + sum_of f (of_worker ls w) ≡ sum_over f ls + sum_of f l
  over_set [] w l lt = absurd (omega (arith, lt))
  over_set (x ∷ ls) zero l lt = omega arith
  over_set (x ∷ ls) (suc w) l lt = let r : sum_over f (slice_set ls w l) + sum_of f (of_worker ls w) ≡ sum_over f ls + sum_of f l = over_set ls w l (omega (arith, lt)) in omega (arith, r)

  over_less : (ls : List (List A)) (w : ℕ) (x : A) → newest (of_worker ls w) ≡ Some x → sum_over f (slice_set ls w (but_newest (of_worker ls w))) + f x ≡ sum_over f ls
  over_less ls w x e =
      let lt = there ls w x e in
      let a : sum_over f (slice_set ls w (but_newest (of_worker ls w))) + sum_of f (of_worker ls w)
      ≡ sum_over f ls + sum_of f (but_newest (of_worker ls w)) = over_set ls w (but_newest (of_worker ls w)) lt in
      let b : sum_of f (of_worker ls w) ≡ sum_of f (but_newest (of_worker ls w)) + f x = sum_newest (of_worker ls w) x e in
      omega (arith, a, b)

  over_first : (ls : List (List A)) (w : ℕ) (x : A) → oldest (of_worker ls w) ≡ Some x → sum_over f (slice_set ls w (but_oldest (of_worker ls w))) + f x ≡ sum_over f ls
  over_first ls w x e =
      let lt = first_there ls w x e in
      let a : sum_over f (slice_set ls w (but_oldest (of_worker ls w))) + sum_of f (of_worker ls w)
      ≡ sum_over f ls + sum_of f (but_oldest (of_worker ls w)) = over_set ls w (but_oldest (of_worker ls w)) lt in
      let b : sum_of f (of_worker ls w) ≡ sum_of f (but_oldest (of_worker ls w)) + f x = sum_oldest (of_worker ls w) x e in
      omega (arith, a, b)

  over_more : (ls : List (List A)) (w : ℕ) (x : A) → w < length ls → sum_over f (slice_set ls w (of_worker ls w ++ x ∷ [])) ≡ sum_over f ls + f x
  over_more ls w x lt =
      let a : sum_over f (slice_set ls w (of_worker ls w ++ x ∷ [])) + sum_of f (of_worker ls w) ≡ sum_over f ls + sum_of f (of_worker ls w ++ x ∷ []) = over_set ls w (of_worker ls w ++ x ∷ []) lt in
      let b : sum_of f (of_worker ls w ++ x ∷ []) ≡ sum_of f (of_worker ls w) + f x = sum_pushed (of_worker ls w) x in
      omega (arith, a, b)

  over_turn : (ls : List (List A)) (w : ℕ) (x y : A) → newest (of_worker ls w) ≡ Some x
      → sum_over f (slice_set (slice_set ls w (but_newest (of_worker ls w))) w (of_worker (slice_set ls w (but_newest (of_worker ls w))) w ++ y ∷ [])) + f x ≡ sum_over f ls + f y
  over_turn ls w x y e =
      let less : List (List A) = slice_set ls w (but_newest (of_worker ls w)) in
      let lt : w < length less = subst (λ n. w < n) (sym (length-set ls w (but_newest (of_worker ls w)))) (there ls w x e) in
      let a : sum_over f (slice_set less w (of_worker less w ++ y ∷ [])) ≡ sum_over f less + f y = over_more less w y lt in
      let b : sum_over f less + f x ≡ sum_over f ls = over_less ls w x e in
      omega (arith, a, b)

goes_run : (n : ℕ) (p : FrameView) (os : List Out) (x : Stage) → GoesOn p os x → run_by n x ≡ once n p.number
goes_run n p os (Goes q) g = ap (once n) g.0
goes_run n p os (Made m e) g = ap (once n) g.0
goes_run n p os (Answered r) g = ap (once n) (sym g.0)

goes_held : (n : ℕ) (p : FrameView) (os : List Out) (x : Stage) → GoesOn p os x → held_by n x ≡ sum_of (held_at n) os
goes_held n p os (Goes q) g = ap (sum_of (held_at n)) g.2
goes_held n p os (Made m e) g = sym (ap (sum_of (held_at n)) g.2)
goes_held n p os (Answered r) g = sym (ap (sum_of (held_at n)) g.1)

goes_out : (n : ℕ) (p : FrameView) (os : List Out) (x : Stage) → GoesOn p os x → out_of n x ≡ sum_of (out_at n) os
goes_out n p os (Goes q) g = ap (sum_of (out_at n)) g.2
goes_out n p os (Made m e) g = sym (ap (sum_of (out_at n)) g.2)
goes_out n p os (Answered r) g = sym (ap (sum_of (out_at n)) g.1)

-- what is left of a board and of a list of numbers out accounts for each other
pub record Evens (p : FrameView) (os : List Out) (old new : Boarded) : Type 0 where
  pub counts : (n : ℕ) → (sum_over (offered_at n) new.offers + sum_of (settled_at n) new.cells) + (sum_of (held_at n) os + sum_of (out_at n) p.outs)
      ≡ (sum_over (offered_at n) old.offers + sum_of (settled_at n) old.cells) + (sum_of (held_at n) p.outs + sum_of (out_at n) os)
  pub fewer : (n : ℕ) → sum_of (out_at n) os ≤ sum_of (out_at n) p.outs

pub turned_placed : (s : Scene) (w : ℕ) (p : FrameView) (os : List Out) (x : Stage) (board : Boarded) → OnePlace s → top s w ≡ Some (Goes p)
    → GoesOn p os x → Evens p os s.board board → OnePlace (turned s w x board)
turned_placed s w p os x board o e g v =
    let old : Stage = Goes p in
    record {
      placed = λ n.
          let run : sum_over (run_by n) (with_top (but_top s.begun w) w x) + once n p.number ≡ sum_over (run_by n) s.begun + run_by n x = over_turn (run_by n) s.begun w old x e in
          let held : sum_over (held_by n) (with_top (but_top s.begun w) w x) + sum_of (held_at n) p.outs ≡ sum_over (held_by n) s.begun + held_by n x = over_turn (held_by n) s.begun w old x e in
          let out : sum_over (out_of n) (with_top (but_top s.begun w) w x) + sum_of (out_at n) p.outs ≡ sum_over (out_of n) s.begun + out_of n x = over_turn (out_of n) s.begun w old x e in
          omega (arith, run, held, out, goes_run n p os x g, goes_held n p os x g, goes_out n p os x g, v.counts n, o.placed n);
      single = λ n.
          let out : sum_over (out_of n) (with_top (but_top s.begun w) w x) + sum_of (out_at n) p.outs ≡ sum_over (out_of n) s.begun + out_of n x = over_turn (out_of n) s.begun w old x e in
          omega (arith, out, goes_out n p os x g, v.fewer n, o.single n);
      later = λ n lt.
          let out : sum_over (out_of n) (with_top (but_top s.begun w) w x) + sum_of (out_at n) p.outs ≡ sum_over (out_of n) s.begun + out_of n x = over_turn (out_of n) s.begun w old x e in
          omega (arith, out, goes_out n p os x g, v.fewer n, o.later n lt);
    }

same_evens : (p : FrameView) (board : Boarded) → Evens p p.outs board board
same_evens p board = record { counts = λ n. refl; fewer = λ n. omega arith }

pub run_placed : (v : Verified) (s s' : Scene) (w : ℕ) → OnePlace s → Runs v s s' w → OnePlace s'
run_placed v s s' w o d = subst OnePlace (sym d.is) (turned_placed s w d.at.post d.at.post.outs d.stage s.board o d.at.is d.comes.0 (same_evens d.at.post s.board))

pub once_cases : (n m : ℕ) → (once n m ≡ 0) ⊎ ((n ≡ m) × (once n m ≡ 1))
once_cases n m = by_test (nat_eq n m) refl
  where
    by_test : (b : Bool) → nat_eq n m ≡ b → (once n m ≡ 0) ⊎ ((n ≡ m) × (once n m ≡ 1))
    by_test true e = inr (grind (arith, e), ap one_if e)
    by_test false e = inl (ap one_if e)

pub spawn_placed : (v : Verified) (s s' : Scene) (w : ℕ) → OnePlace s → Spawns v s s' w → OnePlace s'
spawn_placed v s s' w o d =
    let p = d.at.post in
    let k : ℕ = length s.jobs in
    let e : Out = out.Undecided k d.job in
    let os : List Out = p.outs ++ e ∷ [] in
    let x : Stage = Goes d.post in
    let old : Stage = Goes p in
    let g = d.comes.0 in
    let out_is : (n : ℕ) → sum_over (out_of n) (with_top (but_top s.begun w) w x) ≡ sum_over (out_of n) s.begun + once n k = λ n.
    let out : sum_over (out_of n) (with_top (but_top s.begun w) w x) + sum_of (out_at n) p.outs ≡ sum_over (out_of n) s.begun + out_of n x = over_turn (out_of n) s.begun w old x d.at.is in
    let more : sum_of (out_at n) os ≡ sum_of (out_at n) p.outs + once n k = sum_pushed (out_at n) p.outs e in
    omega (arith, out, more, goes_out n p os x g) in
    subst OnePlace (sym d.is) (record {
      placed = λ n.
          let run : sum_over (run_by n) (with_top (but_top s.begun w) w x) + once n p.number ≡ sum_over (run_by n) s.begun + run_by n x = over_turn (run_by n) s.begun w old x d.at.is in
          let held : sum_over (held_by n) (with_top (but_top s.begun w) w x) + sum_of (held_at n) p.outs ≡ sum_over (held_by n) s.begun + held_by n x = over_turn (held_by n) s.begun w old x d.at.is in
          let more : sum_of (held_at n) os ≡ sum_of (held_at n) p.outs + once n k = sum_pushed (held_at n) p.outs e in
          omega (arith, run, held, more, out_is n, goes_run n p os x g, goes_held n p os x g, o.placed n);
      single = λ n. elim (once_cases n k) [
        | inl z ↦ omega (arith, out_is n, z, o.single n)
        | inr z ↦ let z0 = z.0 in omega (arith, out_is n, z.1, o.later n (omega (arith, z0)))
      ];
      later = λ n lt. elim (once_cases n k) [
        | inl z ↦ let long : length (s.jobs ++ d.job ∷ []) ≡ length s.jobs + 1 = length_push s.jobs d.job in omega (arith, out_is n, z, o.later n (omega (arith, lt, long)))
        | inr z ↦ let long : length (s.jobs ++ d.job ∷ []) ≡ length s.jobs + 1 = length_push s.jobs d.job in let z0 = z.0 in absurd (omega (arith, lt, long, z0))
      ];
    })

-- the sums of a list with one more number out
pushed_out : (n : ℕ) (p : FrameView) (older : List Out) (o : Out) → p.outs ≡ older ++ o ∷ [] → sum_of (out_at n) p.outs ≡ sum_of (out_at n) older + out_at n o
pushed_out n p older o e = ap (sum_of (out_at n)) e ∙ sum_pushed (out_at n) older o

pushed_held : (n : ℕ) (p : FrameView) (older : List Out) (o : Out) → p.outs ≡ older ++ o ∷ [] → sum_of (held_at n) p.outs ≡ sum_of (held_at n) older + held_at n o
pushed_held n p older o e = ap (sum_of (held_at n)) e ∙ sum_pushed (held_at n) older o

pub inline_placed : (s s' : Scene) (w : ℕ) → OnePlace s → Inlines s s' w → OnePlace s'
inline_placed s s' w o d =
    let p = d.at.at.post in
    let old : Out = out.Undecided d.number d.job in
    let new : Out = out.Kept d.number d.job in
    let are : p.outs ≡ d.at.older ++ old ∷ [] = d.at.are ∙ ap (λ y. d.at.older ++ y ∷ []) d.newest in
    let os : List Out = d.at.older ++ new ∷ [] in
    subst OnePlace (sym d.is) (turned_placed s w p os (with_outs p os) s.board o d.at.at.is (refl, refl, refl) (record {
      counts = λ n.
          let h : sum_of (held_at n) os ≡ sum_of (held_at n) d.at.older + once n d.number = sum_pushed (held_at n) d.at.older new in
          let h' : sum_of (held_at n) p.outs ≡ sum_of (held_at n) d.at.older + once n d.number = pushed_held n p d.at.older old are in
          let u : sum_of (out_at n) os ≡ sum_of (out_at n) d.at.older + once n d.number = sum_pushed (out_at n) d.at.older new in
          let u' : sum_of (out_at n) p.outs ≡ sum_of (out_at n) d.at.older + once n d.number = pushed_out n p d.at.older old are in
          omega (arith, h, h', u, u');
      fewer = λ n.
          let u : sum_of (out_at n) os ≡ sum_of (out_at n) d.at.older + once n d.number = sum_pushed (out_at n) d.at.older new in
          let u' : sum_of (out_at n) p.outs ≡ sum_of (out_at n) d.at.older + once n d.number = pushed_out n p d.at.older old are in
          omega (arith, u, u');
    }))

pub offer_placed : (s s' : Scene) (w : ℕ) → w < length s.board.offers → OnePlace s → Offers s s' w → OnePlace s'
offer_placed s s' w lt o d =
    let p = d.at.at.post in
    let old : Out = out.Undecided d.number d.job in
    let new : Out = out.Offered d.number in
    let x : Offer = record { number = d.number; job = d.job } in
    let are : p.outs ≡ d.at.older ++ old ∷ [] = d.at.are ∙ ap (λ y. d.at.older ++ y ∷ []) d.newest in
    let os : List Out = d.at.older ++ new ∷ [] in
    subst OnePlace (sym d.is) (turned_placed s w p os (with_outs p os) _ o d.at.at.is (refl, refl, refl) (record {
      counts = λ n.
          let h : sum_of (held_at n) os ≡ sum_of (held_at n) d.at.older + 0 = sum_pushed (held_at n) d.at.older new in
          let h' : sum_of (held_at n) p.outs ≡ sum_of (held_at n) d.at.older + once n d.number = pushed_held n p d.at.older old are in
          let u : sum_of (out_at n) os ≡ sum_of (out_at n) d.at.older + once n d.number = sum_pushed (out_at n) d.at.older new in
          let u' : sum_of (out_at n) p.outs ≡ sum_of (out_at n) d.at.older + once n d.number = pushed_out n p d.at.older old are in
          let b : sum_over (offered_at n) (slice_set s.board.offers w (of_worker s.board.offers w ++ x ∷ []))
          ≡ sum_over (offered_at n) s.board.offers + once n d.number = over_more (offered_at n) s.board.offers w x lt in
          omega (arith, h, h', u, u', b);
      fewer = λ n.
          let u : sum_of (out_at n) os ≡ sum_of (out_at n) d.at.older + once n d.number = sum_pushed (out_at n) d.at.older new in
          let u' : sum_of (out_at n) p.outs ≡ sum_of (out_at n) d.at.older + once n d.number = pushed_out n p d.at.older old are in
          omega (arith, u, u');
    }))

number_at : (b : Boarded) (w m : ℕ) → newest_number b w ≡ Some m → (x : Offer) × (newest (of_worker b.offers w) ≡ Some x) × (x.number ≡ m)
number_at b w m e = by_newest (newest (of_worker b.offers w)) refl e
  where
    by_newest : (r : Option Offer) → newest (of_worker b.offers w) ≡ r → back_number r ≡ Some m → (x : Offer) × (newest (of_worker b.offers w) ≡ Some x) × (x.number ≡ m)
    by_newest None is e = let never : ⊥ = cc in absurd never
    by_newest (Some x) is e = (x, is, same_Some x.number m e)

retake_evens : (s : Scene) (w : ℕ) (p : FrameView) (older : List Out) (o : Out) → p.outs ≡ older ++ o ∷ [] → IsAtBack s.board w o → Evens p older s.board (board_without s.board w o)
retake_evens s w p older (out.Undecided m j) are back =
    record {
      counts = λ n.
          let h : sum_of (held_at n) p.outs ≡ sum_of (held_at n) older + once n m = pushed_held n p older (out.Undecided m j) are in
          let u : sum_of (out_at n) p.outs ≡ sum_of (out_at n) older + once n m = pushed_out n p older (out.Undecided m j) are in
          omega (arith, h, u);
      fewer = λ n. let u : sum_of (out_at n) p.outs ≡ sum_of (out_at n) older + once n m = pushed_out n p older (out.Undecided m j) are in omega (arith, u);
    }
retake_evens s w p older (out.Kept m j) are back =
    record {
      counts = λ n.
          let h : sum_of (held_at n) p.outs ≡ sum_of (held_at n) older + once n m = pushed_held n p older (out.Kept m j) are in
          let u : sum_of (out_at n) p.outs ≡ sum_of (out_at n) older + once n m = pushed_out n p older (out.Kept m j) are in
          omega (arith, h, u);
      fewer = λ n. let u : sum_of (out_at n) p.outs ≡ sum_of (out_at n) older + once n m = pushed_out n p older (out.Kept m j) are in omega (arith, u);
    }
retake_evens s w p older (out.Offered m) are back =
    let f = number_at s.board w m back in
    record {
      counts = λ n.
          let h : sum_of (held_at n) p.outs ≡ sum_of (held_at n) older + 0 = pushed_held n p older (out.Offered m) are in
          let u : sum_of (out_at n) p.outs ≡ sum_of (out_at n) older + once n m = pushed_out n p older (out.Offered m) are in
          let b : sum_over (offered_at n) (slice_set s.board.offers w (but_newest (of_worker s.board.offers w))) + once n f.0.number
          ≡ sum_over (offered_at n) s.board.offers = over_less (offered_at n) s.board.offers w f.0 f.1 in
          let same : once n f.0.number ≡ once n m = ap (once n) f.2 in
          omega (arith, h, u, b, same);
      fewer = λ n. let u : sum_of (out_at n) p.outs ≡ sum_of (out_at n) older + once n m = pushed_out n p older (out.Offered m) are in omega (arith, u);
    }

pub retake_placed : (v : Verified) (s s' : Scene) (w : ℕ) → OnePlace s → Retakes v s s' w → OnePlace s'
retake_placed v s s' w o d =
    subst OnePlace (sym d.is) (turned_placed s w d.at.at.post d.at.older d.stage _ o d.at.at.is d.comes.0 (retake_evens s w d.at.at.post d.at.older d.at.newest d.at.are d.back))

pub collect_placed : (v : Verified) (s s' : Scene) (w : ℕ) → OnePlace s → Collects v s s' w → OnePlace s'
collect_placed v s s' w o d =
    let p = d.at.at.post in
    let m = d.number in
    let old : Out = out.Offered m in
    let are : p.outs ≡ d.at.older ++ old ∷ [] = d.at.are ∙ ap (λ y. d.at.older ++ y ∷ []) d.newest in
    let f = found (λ c. nat_eq c.number m) s.board.cells d.place d.waits in
    let same : f.item.number ≡ m = same_number f.item m f.passes in
    subst OnePlace (sym d.is) (turned_placed s w p d.at.older d.stage _ o d.at.at.is d.comes.0 (record {
      counts = λ n.
          let h : sum_of (held_at n) p.outs ≡ sum_of (held_at n) d.at.older + 0 = pushed_held n p d.at.older old are in
          let u : sum_of (out_at n) p.outs ≡ sum_of (out_at n) d.at.older + once n m = pushed_out n p d.at.older old are in
          let b : sum_of (settled_at n) s.board.cells ≡ sum_of (settled_at n) (remove s.board.cells d.place) + once n f.item.number = sum_remove (settled_at n) s.board.cells d.place f.item f.is in
          let k : once n f.item.number ≡ once n m = ap (once n) same in
          omega (arith, h, u, b, k);
      fewer = λ n. let u : sum_of (out_at n) p.outs ≡ sum_of (out_at n) d.at.older + once n m = pushed_out n p d.at.older old are in omega (arith, u);
    }))

pub steal_placed : (v : Verified) (s s' : Scene) (w victim : ℕ) → OnePlace s → Steals v s s' w victim → OnePlace s'
steal_placed v s s' w victim o d =
    let p = d.post in
    let x = d.stage in
    let g = d.comes.0 in
    let out_is : (n : ℕ) → sum_over (out_of n) (with_top s.begun w x) ≡ sum_over (out_of n) s.begun + 0 = λ n.
    let out : sum_over (out_of n) (with_top s.begun w x) ≡ sum_over (out_of n) s.begun + out_of n x = over_more (out_of n) s.begun w x d.there in
    omega (arith, out, goes_out n p [] x g) in
    subst OnePlace (sym d.is) (record {
      placed = λ n.
          let run : sum_over (run_by n) (with_top s.begun w x) ≡ sum_over (run_by n) s.begun + run_by n x = over_more (run_by n) s.begun w x d.there in
          let held : sum_over (held_by n) (with_top s.begun w x) ≡ sum_over (held_by n) s.begun + held_by n x = over_more (held_by n) s.begun w x d.there in
          let b : sum_over (offered_at n) (slice_set s.board.offers victim (but_oldest (of_worker s.board.offers victim))) + once n d.offer.number
          ≡ sum_over (offered_at n) s.board.offers = over_first (offered_at n) s.board.offers victim d.offer d.oldest_is in
          let same : once n p.number ≡ once n d.offer.number = ap (once n) d.begins.0 in
          omega (arith, run, held, b, same, out_is n, goes_run n p [] x g, goes_held n p [] x g, o.placed n);
      single = λ n. omega (arith, out_is n, o.single n);
      later = λ n lt. omega (arith, out_is n, o.later n lt);
    })

pub settle_placed : (s s' : Scene) (w : ℕ) → OnePlace s → Settles s s' w → OnePlace s'
settle_placed s s' w o d =
    let x : Stage = Made d.number d.effect in
    let c : Cell = record { number = d.number; effect = d.effect } in
    let out_is : (n : ℕ) → sum_over (out_of n) (but_top s.begun w) + 0 ≡ sum_over (out_of n) s.begun = λ n. over_less (out_of n) s.begun w x d.made in
    subst OnePlace (sym d.is) (record {
      placed = λ n.
          let run : sum_over (run_by n) (but_top s.begun w) + once n d.number ≡ sum_over (run_by n) s.begun = over_less (run_by n) s.begun w x d.made in
          let held : sum_over (held_by n) (but_top s.begun w) + 0 ≡ sum_over (held_by n) s.begun = over_less (held_by n) s.begun w x d.made in
          let b : sum_of (settled_at n) (s.board.cells ++ c ∷ []) ≡ sum_of (settled_at n) s.board.cells + once n d.number = sum_pushed (settled_at n) s.board.cells c in
          omega (arith, run, held, b, out_is n, o.placed n);
      single = λ n. omega (arith, out_is n, o.single n);
      later = λ n lt. omega (arith, out_is n, o.later n lt);
    })

-- whichever event it is, in a world with a deque for each worker
pub does_placed : (v : Verified) (s s' : Scene) (e : Event) → length s.board.offers ≡ length s.begun → OnePlace s → Does v e s s' → OnePlace s'
does_placed v s s' (event.Run w) even o (inl d) = run_placed v s s' w o d
does_placed v s s' (event.Run w) even o (inr d) = spawn_placed v s s' w o d
does_placed v s s' (event.Offer w) even o d = let lt : w < length s.begun = there s.begun w (Goes d.at.at.post) d.at.at.is in offer_placed s s' w (omega (arith, even, lt)) o d
does_placed v s s' (event.Inline w) even o d = inline_placed s s' w o d
does_placed v s s' (event.Retake w) even o d = retake_placed v s s' w o d
does_placed v s s' (event.Steal w victim) even o d = steal_placed v s s' w victim o d
does_placed v s s' (event.Settle w) even o d = settle_placed s s' w o d
does_placed v s s' (event.Collect w) even o d = collect_placed v s s' w o d

-- the first of a list whose newest changes
pub first_turned : {A : Type 0} (l : List A) (x y : A) → newest l ≡ Some x → ((oldest l ≡ Some x) × (oldest (but_newest l ++ y ∷ []) ≡ Some y)) ⊎ (oldest (but_newest l ++ y ∷ []) ≡ oldest l)
first_turned [] x y e = absurd (subst IsSomeOf (sym e) tt)
first_turned (z ∷ []) x y e = inl (e, refl)
first_turned (z ∷ (z' ∷ zs)) x y e = inr refl

pub first_less : {A : Type 0} (l : List A) (x : A) → newest l ≡ Some x → (oldest l ≡ Some x) ⊎ (oldest (but_newest l) ≡ oldest l)
first_less [] x e = absurd (subst IsSomeOf (sym e) tt)
first_less (z ∷ []) x e = inl e
first_less (z ∷ (z' ∷ zs)) x e = inr refl

first_more : (l : List Stage) (y : Stage) → IsRootStage (oldest l) → oldest (l ++ y ∷ []) ≡ oldest l
first_more [] y h = absurd h
first_more (z ∷ zs) y h = refl

goes_root : (p : FrameView) (os : List Out) (y : Stage) → GoesOn p os y → IsRootStage (Some (Goes p)) → IsRootStage (Some y)
goes_root p os (Goes q) g z = g.0 ∙ z
goes_root p os (Made m e) g z = absurd (g.1 z)
goes_root p os (Answered r) g z = tt

-- the list of worker 0, where another one's is set
pub other_zero : {A : Type 0} (ls : List (List A)) (k : ℕ) (l : List A) → of_worker (slice_set ls (suc k) l) 0 ≡ of_worker ls 0
other_zero [] k l = refl
other_zero (x ∷ ls) k l = refl

turned_root : (s : Scene) (w : ℕ) (p : FrameView) (os : List Out) (x : Stage) → RootIsFirst s → top s w ≡ Some (Goes p) → GoesOn p os x
    → IsRootStage (oldest (of_worker (with_top (but_top s.begun w) w x) 0))
turned_root s zero p os x h at g =
    let l : List Stage = of_worker s.begun 0 in
    let lt = there s.begun 0 (Goes p) at in
    let but : List (List Stage) = but_top s.begun 0 in
    let lt' : 0 < length but = subst (λ n. 0 < n) (sym (length-set s.begun 0 (but_newest l))) lt in
    let a : of_worker but 0 ≡ but_newest l = of_worker_set s.begun 0 (but_newest l) lt in
    let b : of_worker (with_top but 0 x) 0 ≡ of_worker but 0 ++ x ∷ [] = of_worker_set but 0 (of_worker but 0 ++ x ∷ []) lt' in
    let is : oldest (of_worker (with_top but 0 x) 0) ≡ oldest (but_newest l ++ x ∷ []) = ap oldest (b ∙ ap (λ (k : List Stage). k ++ x ∷ []) a) in
    elim (first_turned l (Goes p) x at) [
      | inl r ↦ subst IsRootStage (sym (is ∙ r.1)) (goes_root p os x g (subst IsRootStage r.0 h))
      | inr r ↦ subst IsRootStage (sym (is ∙ r)) h
    ]
turned_root s (suc k) p os x h at g =
    subst (λ (l : List Stage). IsRootStage (oldest l)) (sym (other_zero (but_top s.begun (suc k)) k _ ∙ other_zero s.begun k _)) h

same_root : (s s' : Scene) (begun : List (List Stage)) → s'.begun ≡ begun → IsRootStage (oldest (of_worker begun 0)) → RootIsFirst s'
same_root s s' begun e h = subst (λ (b : List (List Stage)). IsRootStage (oldest (of_worker b 0))) (sym e) h

stolen_root : (s : Scene) (w : ℕ) (x : Stage) → w < length s.begun → RootIsFirst s → IsRootStage (oldest (of_worker (with_top s.begun w x) 0))
stolen_root s zero x lt h =
    let b : of_worker (with_top s.begun 0 x) 0 ≡ of_worker s.begun 0 ++ x ∷ [] = of_worker_set s.begun 0 (of_worker s.begun 0 ++ x ∷ []) lt in
    subst IsRootStage (sym (ap oldest b ∙ first_more (of_worker s.begun 0) x h)) h
stolen_root s (suc k) x lt h = subst (λ (l : List Stage). IsRootStage (oldest l)) (sym (other_zero s.begun k _)) h

settled_root : (s : Scene) (w n : ℕ) (e : Effect) → top s w ≡ Some (Made n e) → RootIsFirst s → IsRootStage (oldest (of_worker (but_top s.begun w) 0))
settled_root s zero n e at h =
    let l : List Stage = of_worker s.begun 0 in
    let a : of_worker (but_top s.begun 0) 0 ≡ but_newest l = of_worker_set s.begun 0 (but_newest l) (there s.begun 0 (Made n e) at) in
    elim (first_less l (Made n e) at) [
      | inl r ↦ absurd (subst IsRootStage r h)
      | inr r ↦ subst IsRootStage (sym (ap oldest a ∙ r)) h
    ]
settled_root s (suc k) n e at h = subst (λ (l : List Stage). IsRootStage (oldest l)) (sym (other_zero s.begun k _)) h

-- whichever event it is
pub does_root : (v : Verified) (s s' : Scene) (e : Event) → RootIsFirst s → Does v e s s' → RootIsFirst s'
does_root v s s' (event.Run w) h (inl d) = same_root s s' _ (ap (λ (t : Scene). t.begun) d.is) (turned_root s w d.at.post d.at.post.outs d.stage h d.at.is d.comes.0)
does_root v s s' (event.Run w) h (inr d) = same_root s s' _ (ap (λ (t : Scene). t.begun) d.is) (turned_root s w d.at.post _ (Goes d.post) h d.at.is d.comes.0)
does_root v s s' (event.Offer w) h d =
    let p = d.at.at.post in
    let os : List Out = d.at.older ++ out.Offered d.number ∷ [] in
    same_root s s' _ (ap (λ (t : Scene). t.begun) d.is) (turned_root s w p os (with_outs p os) h d.at.at.is (refl, refl, refl))
does_root v s s' (event.Inline w) h d =
    let p = d.at.at.post in
    let os : List Out = d.at.older ++ out.Kept d.number d.job ∷ [] in
    same_root s s' _ (ap (λ (t : Scene). t.begun) d.is) (turned_root s w p os (with_outs p os) h d.at.at.is (refl, refl, refl))
does_root v s s' (event.Retake w) h d = same_root s s' _ (ap (λ (t : Scene). t.begun) d.is) (turned_root s w d.at.at.post d.at.older d.stage h d.at.at.is d.comes.0)
does_root v s s' (event.Steal w victim) h d = same_root s s' _ (ap (λ (t : Scene). t.begun) d.is) (stolen_root s w d.stage d.there h)
does_root v s s' (event.Settle w) h d = same_root s s' _ (ap (λ (t : Scene). t.begun) d.is) (settled_root s w d.number d.effect d.made h)
does_root v s s' (event.Collect w) h d = same_root s s' _ (ap (λ (t : Scene). t.begun) d.is) (turned_root s w d.at.at.post d.at.older d.stage h d.at.at.is d.comes.0)
