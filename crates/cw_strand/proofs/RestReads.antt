-- A continuation reads the same arrays at its join as at its start; arrays that its run got as shares are only read.
use Rattle.std.proofs.Common.{◌≡◌, ℕ, zero, suc, ◌+◌, ◌-◌, ◌<◌, ◌≤◌, ℤ, Bool, true, false, ◌&&◌, Option, Some, None, List, [], ◌∷◌, length, refl, sym, ap, ◌∙◌, subst, arith}
use Rattle.std.specs.Prelude.{slice_get}
use Rattle.std.proofs.lemmas.List.{nil_from_length}
use Rattle.std.proofs.lemmas.Bool.{true≢false}
use Rattle.cw_model.specs.Outcome.{Trace}
use Rattle.cw_slices.specs.Placed.{Placed}
use Rattle.cw_code.specs.Code.{Code}
use Rattle.cw_code.specs.Fits.{Fits}
use Rattle.cw_code.specs.Run.{Readers, Around, State, Transition, On, Ends, Stops, Stuck, step}
use Rattle.cw_code.specs.Good.{GoodState, FitSteps, FitSettles}
use Rattle.cw_code.specs.Frozen.{IsFrozenAt, JoinsInside, FrozenStay, outermost_arrays}
use Rattle.cw_code.specs.Staying.{outermost}
use Rattle.cw_code.specs.Jobs.{ToJoin, joins, is_first, has_come, JoinFrame, standing, Came, Arrives, Beyond, moved, travel}
use Rattle.cw_code.specs.Over.{beneath, under, transition_under}
use Rattle.cw_code.specs.lemmas.Budgets.{come_at, none_left, go_one}
use Rattle.cw_code.specs.lemmas.JobsFit.{Upon, LiftedTransition, lifted_step}
use Rattle.cw_code.specs.lemmas.Under.{act_under}
use Rattle.cw_jobs.specs.Calls.{placed, IsShare, HasReaders}
use Rattle.cw_jobs.specs.Jobs.{own_or, KeepsHomes}
use Rattle.cw_jobs.specs.lemmas.Homes.{own_home}
use Rattle.cw_machine.specs.lemmas.Rounds.{round_many}

frame_in : Came → JoinFrame → JoinFrame
frame_in (Arrives frame t left) other = frame
frame_in _ other = other

-- A run placed over a state that had an array of its outermost call frozen, up to the join of a block that was not
-- open then
module _ (code : Code) (fits : Fits code) (steps : FitSteps code fits) (settles : FitSettles) (stay : FrozenStay code fits) (b : State) (depth a : ℕ)
    (xs : List ℤ) (deep : depth ≤ length b.around) where
  pub record IsHeld (s : State) : Type 0 where
    pub good : GoodState code fits (under b s)
    pub frozen : IsFrozenAt code fits (outermost s.place (beneath b s.around)) depth a
    pub here : slice_get (outermost_arrays s.arrays (beneath b s.around)) a ≡ Some (Some xs)

  inside : (s : State) → has_come ToJoin code s ≡ false → JoinsInside code depth (under b s)
  inside s come i is joined = deeper s.around come (round_many b s.around)
    where
      found : joins (slice_get code.instrs s.place) ≡ true
      found = ap joins is ∙ joined

      deeper : (around : List Around) → (is_first around && joins (slice_get code.instrs s.place)) ≡ false
          → length (beneath b s.around) ≡ length around + length b.around → depth < length (beneath b s.around)
      deeper [] e both = absurd (true≢false (sym found ∙ e))
      deeper (x ∷ around) e both = omega (arith, deep, both)

  next : (s s' : State) → has_come ToJoin code s ≡ false → step code s ≡ On s' → IsHeld s → GoodState code fits (under b s') → IsHeld s'
  next s s' come e h good =
      let went = act_under b ToJoin code s (slice_get code.instrs s.place) come ∙ ap (transition_under b) e in
      let on = stay (under b s) (under b s') depth a xs h.good went (inside s come) h.frozen h.here in
      record { good = good; frozen = on.0; here = on.1 }

  at_join : (s : State) → has_come ToJoin code s ≡ true → IsHeld s → IsFrozenAt code fits (outermost s.place b.around) depth a
  at_join s come h = at s.around come h.frozen
    where
      at : (around : List Around) → (is_first around && joins (slice_get code.instrs s.place)) ≡ true
          → IsFrozenAt code fits (outermost s.place (beneath b around)) depth a → IsFrozenAt code fits (outermost s.place b.around) depth a
      at [] e k = k
      at (x ∷ around) e k = cc

  pub frozen_arrives : (n : ℕ) (s : State) (frame : JoinFrame) (t : Trace) (left : ℕ) → IsHeld s → travel ToJoin code n s ≡ Arrives frame t left
      → IsFrozenAt code fits (outermost frame.place b.around) depth a
  unfolding frame_in
  frozen_arrives zero s frame t left h e = cases (has_come ToJoin code s) refl
    where
      none : Beyond ≡ Arrives frame t left → ⊥
      none k = cc

      cases : (c : Bool) → has_come ToJoin code s ≡ c → IsFrozenAt code fits (outermost frame.place b.around) depth a
      cases true come = subst (λ (f : JoinFrame). IsFrozenAt code fits (outermost f.place b.around) depth a)
          (ap (λ c. frame_in c (standing s)) (sym (come_at ToJoin code zero s come) ∙ e)) (at_join s come h)
      cases false come = absurd (none (sym (none_left ToJoin code s come) ∙ e))
  frozen_arrives (suc n) s frame t left h e = cases (has_come ToJoin code s) refl (λ s' k e'. frozen_arrives n s' frame t left k e')
    where
      went : (w : Transition) → step code s ≡ w → has_come ToJoin code s ≡ false → LiftedTransition code fits steps settles (Upon b) w
          → ((s' : State) → IsHeld s' → travel ToJoin code n s' ≡ Arrives frame t left → IsFrozenAt code fits (outermost frame.place b.around) depth a)
          → moved w n (λ s'. travel ToJoin code n s') ≡ Arrives frame t left → IsFrozenAt code fits (outermost frame.place b.around) depth a
      went (On s') is come g more k = more s' (next s s' come is h g) k
      went (Ends v arrays u) is come g more k = cc
      went (Stops trap line lines) is come g more k = cc
      went Stuck is come g more k = absurd g

      cases : (c : Bool) → has_come ToJoin code s ≡ c
          → ((s' : State) → IsHeld s' → travel ToJoin code n s' ≡ Arrives frame t left → IsFrozenAt code fits (outermost frame.place b.around) depth a)
          → IsFrozenAt code fits (outermost frame.place b.around) depth a
      cases true come more = subst (λ (f : JoinFrame). IsFrozenAt code fits (outermost f.place b.around) depth a)
          (ap (λ c. frame_in c (standing s)) (sym (come_at ToJoin code (suc n) s come) ∙ e)) (at_join s come h)
      cases false come more = went (step code s) refl come (lifted_step code fits steps settles ToJoin (Upon b) s come h.good) more (sym (go_one ToJoin code n s come) ∙ e)

-- two lists of equal length with equal elements
same_lists : {A : Type 0} (xs ys : List A) → length xs ≡ length ys → ((k : ℕ) (x y : A) → slice_get xs k ≡ Some x → slice_get ys k ≡ Some y → x ≡ y) → xs ≡ ys
same_lists [] [] e h = refl
same_lists [] (y ∷ ys) e h = absurd (omega (arith, e))
same_lists (x ∷ xs) [] e h = absurd (omega (arith, e))
same_lists (x ∷ xs) (y ∷ ys) e h = ap (λ z. z ∷ xs) (h 0 x y refl refl) ∙ ap (λ l. y ∷ l) (same_lists xs ys (omega (arith, e)) (λ k. h (suc k)))

-- a share returns with its elements, and an array that is read without elements has none
module _ (slices back : List Placed) (replaced : List (Option Placed)) (homes : KeepsHomes slices back replaced) (k : ℕ) (new : IsShare (placed back k)) (old : IsShare (placed slices k)) where
  same_share : 0 < length (placed slices k).items → (placed back k).items ≡ (placed slices k).items
  same_share some =
      let shared = old some in
      let kept = own_home (slice_get replaced k) (placed back k) (λ own e. homes.3 k shared own e) in
      ap (λ (p : Placed). p.items) (sym kept) ∙ (homes.1 k).2 shared

  -- if the array that returns to a slot has no elements, its slice has none: a new array has one owner, so it is no
  -- share
  new_none : (o : Option (Option Placed)) → slice_get replaced k ≡ o → length (own_or o (placed back k)).items ≡ 0 → length (placed back k).items ≡ 0
  new_none None e z = z
  new_none (Some None) e z = z
  new_none (Some (Some own)) e z = nothing (length (placed back k).items) refl
    where
      nothing : (n : ℕ) → length (placed back k).items ≡ n → length (placed back k).items ≡ 0
      nothing zero q = q
      nothing (suc n) q =
          let lone = homes.2 k own e in
          let more = new (omega (arith, q)) in
          absurd (omega (arith, lone, more))

  same_none : length (placed slices k).items ≡ 0 → (placed back k).items ≡ (placed slices k).items
  same_none z =
      let len = (homes.1 k).1 in
      nil_from_length (placed back k).items (new_none (slice_get replaced k) refl (omega (arith, len, z))) ∙ sym (nil_from_length (placed slices k).items z)

  pub same_read : (placed back k).items ≡ (placed slices k).items
  same_read = at (length (placed slices k).items) refl
    where
      at : (n : ℕ) → length (placed slices k).items ≡ n → (placed back k).items ≡ (placed slices k).items
      at zero e = same_none e
      at (suc n) e = same_share (omega (arith, e))

pub same_readers : (slices back : List Placed) (replaced : List (Option Placed)) → KeepsHomes slices back replaced → (old new : Readers)
    → length new ≡ length old → HasReaders slices old → HasReaders back new → new ≡ old
same_readers slices back replaced homes old new many was now = same_lists new old many at
  where
    at : (r : ℕ) (xs ys : List ℤ) → slice_get new r ≡ Some xs → slice_get old r ≡ Some ys → xs ≡ ys
    at r xs ys e e' =
        let n = now r xs e in
        let o = was r ys e' in
        let k = length slices - 1 - r in
        let place : length back - 1 - r ≡ k = ap (λ m. m - 1 - r) homes.0 in
        let n' : ((placed back k).items ≡ xs) × IsShare (placed back k) = subst (λ m. ((placed back m).items ≡ xs) × IsShare (placed back m)) place n in
        sym n'.0 ∙ same_read slices back replaced homes k n'.1 o.1 ∙ o.0
