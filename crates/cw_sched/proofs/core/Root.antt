-- The root stays with the first worker, and its effect, once made, stays.
use Rattle.std.proofs.Common.{◌≡◌, ◌≢◌, ℕ, Bool, true, false, List, [], ◌∷◌, ◌++◌, Option, Some, None, refl, sym, ap, ◌∙◌, subst, inl, inr, length}
use Rattle.std.specs.Prelude.{slice_get, slice_set, is_some, ◌&&◌, if◌then◌else◌}
use Rattle.std.proofs.lemmas.Bool.Decides.{eqb_tells}
use Rattle.std.proofs.lemmas.Bool.{both_ways}
use Rattle.cw_facts.specs.Lists.{get_before}
use Rattle.cw_code.specs.Code.{Code}
use Rattle.cw_code.specs.Jobs.{Job, Effect}
use Rattle.cw_code.specs.Strands.{Strand}
use Rattle.cw_code.specs.Steps.{started, Advanced, Ran, Handed, AtSync, Finished, Unfit, advance, give, out_of_memory}
use Rattle.cw_code.specs.Worlds.{Place, Undecided, Kept, Offered, Runs, Made, Settled, Spent, effect_in, Has}
use Rattle.cw_sched.specs.core.Board.{State, Unoffered, newest, oldest, of_worker}
use Rattle.cw_sched.specs.core.Table.{Event, Run, Offer, Inline, Retake, Steal, Settle, Collect, Sched, Busy, Over, top, at_join, is_at_join, is_at_spawn, is_kept_by}
use Rattle.cw_sched.specs.core.Table.{is_settled, is_same, can_retake, is_possible, is_stolen, is_out, effect_of, run_or_made, advanced, ran, got_back, retaken, short_of}
use Rattle.cw_sched.specs.core.Table.{stole, stolen_by, collected, effect_at, does, perform, tried, newest_out, place_of, world_run, first_sched, outcome}
use Rattle.cw_sched.specs.core.Laws.{is_with, OnePlace, OutcomesStay}
use Rattle.cw_sched.proofs.core.Tally.{set_here, set_there, some_there, newest_times, oldest_times}
use Rattle.cw_sched.proofs.core.Events.{both, one_of, undecided_is, kept_is, settled_is, same_is, rom_with, with_top, listed, tries, begins}

-- the root's place before and after
record Keeps (places places' : List Place) : Type 0 where
  pub with_it : is_with 0 (slice_get places 0) ≡ true → is_with 0 (slice_get places' 0) ≡ true
  pub effect : (e : Effect) → is_with 0 (slice_get places 0) ≡ true → effect_at (slice_get places 0) ≡ Some e → effect_at (slice_get places' 0) ≡ Some e

nothing : (places : List Place) → Keeps places places
nothing places = record { with_it = λ h. h; effect = λ e h k. k }

twice : (a b c : List Place) → Keeps a b → Keeps b c → Keeps a c
twice a b c x y = record { with_it = λ h. y.with_it (x.with_it h); effect = λ e h k. y.effect e (x.with_it h) (x.effect e h k) }

elsewhere : (places : List Place) (i : ℕ) (new : Place) → i ≢ 0 → Keeps places (slice_set places i new)
elsewhere places i new n =
    let same = set_there places i 0 new (λ e. n (sym e)) in
    record { with_it = λ h. ap (is_with 0) same ∙ h; effect = λ e h k. ap effect_at same ∙ k }

alike : (places : List Place) (i : ℕ) (old new : Place) → slice_get places i ≡ Some old → is_with 0 (Some new) ≡ is_with 0 (Some old) → effect_in old ≡ None → Keeps places (slice_set places i new)
alike places i old new at same none = elim (eqb_tells i 0) [
  | inl p ↦ here p.1
  | inr p ↦ elsewhere places i new p.1
]
  where
    absurd_none : {A : Type 0} (o : Option Effect) (e : Effect) → o ≡ None → o ≡ Some e → A
    absurd_none o e h k = cc

    here : i ≡ 0 → Keeps places (slice_set places i new)
    here z =
        let was : slice_get places 0 ≡ Some old = ap (slice_get places) (sym z) ∙ at in
        let now : slice_get (slice_set places i new) 0 ≡ Some new = ap (slice_get (slice_set places i new)) (sym z) ∙ set_here places i old new at in
        record { with_it = λ h. ap (is_with 0) now ∙ same ∙ ap (is_with 0) (sym was) ∙ h; effect = λ e h k. absurd_none (effect_in old) e none (ap effect_at (sym was) ∙ k) }

grows : (places : List Place) (x : Place) → Keeps places (places ++ x ∷ [])
grows [] x = record { with_it = λ h. absurd_false h; effect = λ e h k. absurd_false h }
  where
    absurd_false : {A : Type 0} → false ≡ true → A
    absurd_false h = cc
grows (p ∷ places) x = record { with_it = λ h. h; effect = λ e h k. k }

-- a number whose job is with no worker is not the root's
not_root : (places : List Place) (n : ℕ) (old : Place) → is_with 0 (slice_get places 0) ≡ true → slice_get places n ≡ Some old → is_with 0 (Some old) ≡ false → n ≢ 0
not_root places n old root at none e = both_ways (is_with 0 (slice_get places 0)) (ap (λ k. is_with 0 (slice_get places k)) (sym e) ∙ ap (is_with 0) at ∙ none) root

module _ (code : Code) (s : Sched) (one : OnePlace s) (root : is_with 0 (slice_get s.world.places 0) ≡ true) (state : slice_get s.board.states 0 ≡ Some Unoffered) where
  record Rooted (s' : Sched) : Type 0 where
    pub keeps : Keeps s.world.places s'.world.places
    pub unoffered : slice_get s'.board.states 0 ≡ Some Unoffered

  still : Rooted s
  still = record { keeps = nothing s.world.places; unoffered = state }

  other_state : (n : ℕ) (new : State) → n ≢ 0 → slice_get (slice_set s.board.states n new) 0 ≡ Some Unoffered
  other_state n new d = set_there s.board.states n 0 new (λ e. d (sym e)) ∙ state

  puts : (w i : ℕ) (job : Job) (old strand : Strand) (outs outs' : List ℕ) → slice_get s.world.places i ≡ Some (Runs w old outs)
      → Keeps s.world.places (slice_set s.world.places i (run_or_made w strand outs' (effect_of code job strand)))
  puts w i job old strand outs outs' at = alike s.world.places i (Runs w old outs) (run_or_made w strand outs' (effect_of code job strand)) at
      (rom_with w strand outs' (effect_of code job strand) 0) refl

  puts_after : (w i n : ℕ) (job : Job) (old strand : Strand) (outs outs' : List ℕ) → slice_get s.world.places i ≡ Some (Runs w old outs) → i ≢ n
      → n ≢ 0 → Keeps s.world.places (slice_set (slice_set s.world.places n Spent) i (run_or_made w strand outs' (effect_of code job strand)))
  puts_after w i n job old strand outs outs' at d z = twice _ _ _ (elsewhere s.world.places n Spent z)
      (alike (slice_set s.world.places n Spent) i (Runs w old outs) (run_or_made w strand outs' (effect_of code job strand))
      (set_there s.world.places n i Spent d ∙ at) (rom_with w strand outs' (effect_of code job strand) 0) refl)

  runs : (short : Bool) (w i : ℕ) (job : Job) (strand : Strand) (outs : List ℕ) → Has s.world i job (Runs w strand outs) → Rooted (ran code short s w i job strand outs)
  runs true w i job strand outs has = record { keeps = puts w i job strand (out_of_memory strand) outs outs has.place_is; unoffered = state }
  runs false w i job strand outs has = cases (advance code job strand)
    where
      cases : (a : Advanced) → Rooted (advanced code s w i job outs a)
      cases (Ran new) = record { keeps = puts w i job strand new outs outs has.place_is; unoffered = state }
      cases (Handed out new) = record {
        keeps = twice _ _ _ (grows s.world.places (Undecided w))
            (alike (s.world.places ++ Undecided w ∷ []) i (Runs w strand outs) (Runs w new (length s.world.jobs ∷ outs))
            (get_before s.world.places (Undecided w) i (Runs w strand outs) has.place_is) refl refl);
        unoffered = get_before s.board.states Unoffered 0 Unoffered state;
      }
      cases AtSync = still
      cases (Finished e) = record { keeps = alike s.world.places i (Runs w strand outs) (Made w e) has.place_is refl refl; unoffered = state }
      cases Unfit = still

  apart : (w i n : ℕ) (strand : Strand) (outs : List ℕ) (place : Place) → slice_get s.world.places i ≡ Some (Runs w strand outs)
      → slice_get s.world.places n ≡ Some place → ((v : ℕ) → is_with v (Some place) ≡ false) → i ≢ n
  apart w i n strand outs place at at' none e = both_ways (is_with w (Some place)) (none w) (ap (is_with w) (sym at' ∙ ap (slice_get s.world.places) (sym e) ∙ at) ∙ self)
    where
      self : is_with w (Some (Runs w strand outs)) ≡ true
      self = elim (eqb_tells w w) [
        | inl p ↦ p.0
        | inr p ↦ absurd (p.1 refl)
      ]

  backs : (w i n : ℕ) (job : Job) (strand : Strand) (outs : List ℕ) → Has s.world i job (Runs w strand (n ∷ outs))
      → at_join strand && can_retake s w (Some n) ≡ true → Rooted (does code false s (Retake w) (Busy i job strand (n ∷ outs)))
  backs w i n job strand outs has h =
      elim (one_of (is_kept_by w (slice_get s.world.places n)) (is_same (Some n) (newest (of_worker s.board.lists w))) (both (at_join strand) (can_retake s w (Some n)) h).1) [
        | inl k ↦ by_place (Kept w) (kept_is w (slice_get s.world.places n) k) (λ v. refl)
        | inr k ↦ by_place (Offered w) (listed code s one w n _ (newest_times n n (of_worker s.board.lists w) (same_is n (newest (of_worker s.board.lists w)) k))) (λ v. refl)
      ]
    where
      by_place : (place : Place) → slice_get s.world.places n ≡ Some place → ((v : ℕ) → is_with v (Some place) ≡ false) → Rooted (does code false s (Retake w) (Busy i job strand (n ∷ outs)))
      by_place place at none =
          let zero_not = not_root s.world.places n place root at (none 0) in
          record {
            keeps = puts_after w i n job strand (got_back strand) (n ∷ outs) outs has.place_is
                (apart w i n strand (n ∷ outs) place has.place_is at none) zero_not;
            unoffered = board (slice_get s.world.places n) zero_not;
          }
        where
          board : (o : Option Place) → n ≢ 0 → slice_get (retaken w n o s.board).states 0 ≡ Some Unoffered
          board (Some (Offered v)) d = other_state n _ d
          board _ d = state

  steals : (w v n : ℕ) → oldest (of_worker s.board.lists v) ≡ Some n → Rooted (stolen_by code s w v (Some n))
  steals w v n first = cases (slice_get s.world.jobs n)
    where
      cases : (o : Option Job) → Rooted (stole code s w v n o)
      cases None = still
      cases (Some job) = record {
        keeps = elsewhere s.world.places n (run_or_made w (started job) [] (effect_of code job (started job)))
            (not_root s.world.places n (Offered v) root (listed code s one v n _ (oldest_times n n (of_worker s.board.lists v) first)) refl);
        unoffered = state;
      }

  settles : (w i : ℕ) (e : Effect) → is_out (slice_get s.board.states i) ≡ true → Rooted (does code false s (Settle w) (Over i e))
  settles w i e out = record { keeps = elsewhere s.world.places i (Settled e) other; unoffered = other_state i _ other }
    where
      other : i ≢ 0
      other z = both_ways (is_out (slice_get s.board.states i)) (ap (λ k. is_out (slice_get s.board.states k)) z ∙ ap is_out state) out

  collects : (short : Bool) (w i n : ℕ) (job : Job) (strand : Strand) (outs : List ℕ) (e : Effect) → Has s.world i job (Runs w strand (n ∷ outs))
      → slice_get s.world.places n ≡ Some (Settled e) → Rooted (collected code short s w i n job strand outs (Some e))
  collects short w i n job strand outs e has at =
      let zero_not = not_root s.world.places n (Settled e) root at refl in
      record {
        keeps = puts_after w i n job strand (short_of short (give job strand e)) (n ∷ outs) outs has.place_is
            (apart w i n strand (n ∷ outs) (Settled e) has.place_is at (λ v. refl)) zero_not;
        unoffered = other_state n _ zero_not;
      }

  performs : (short : Bool) (event : Event) → is_possible s event ≡ true → Rooted (perform code short s event)
  performs short (Run w) h = with_top s one w (λ t. Rooted (does code short s (Run w) t)) still (λ i job strand outs js at has. runs short w i job strand outs has) (λ i e job js at has. still)
  performs short (Offer w) h = with_top s one w (λ t. is_at_spawn s w t ≡ true → Rooted (does code short s (Offer w) t)) (λ k. still)
      (λ i job strand outs js at has. by_outs i job strand outs) (λ i e job js at has k. still) h
    where
      by_outs : (i : ℕ) (job : Job) (strand : Strand) (outs : List ℕ) → is_at_spawn s w (Busy i job strand outs) ≡ true → Rooted (does code short s (Offer w) (Busy i job strand outs))
      by_outs i job strand [] k = still
      by_outs i job strand (n ∷ outs) k =
          let zero_not = not_root s.world.places n (Undecided w) root (undecided_is w (slice_get s.world.places n) k) refl in
          record { keeps = elsewhere s.world.places n (Offered w) zero_not; unoffered = other_state n _ zero_not }
  performs short (Inline w) h = with_top s one w (λ t. is_at_spawn s w t ≡ true → Rooted (does code short s (Inline w) t)) (λ k. still)
      (λ i job strand outs js at has. by_outs i job strand outs) (λ i e job js at has k. still) h
    where
      by_outs : (i : ℕ) (job : Job) (strand : Strand) (outs : List ℕ) → is_at_spawn s w (Busy i job strand outs) ≡ true → Rooted (does code short s (Inline w) (Busy i job strand outs))
      by_outs i job strand [] k = still
      by_outs i job strand (n ∷ outs) k = record {
        keeps = elsewhere s.world.places n (Kept w)
            (not_root s.world.places n (Undecided w) root (undecided_is w (slice_get s.world.places n) k) refl);
        unoffered = state;
      }
  performs short (Retake w) h =
      with_top s one w (λ t. is_at_join t && can_retake s w (newest_out t) ≡ true → Rooted (does code short s (Retake w) t)) (λ k. still)
      (λ i job strand outs js at has. by_outs i job strand outs has) (λ i e job js at has k. still) h
    where
      by_outs : (i : ℕ) (job : Job) (strand : Strand) (outs : List ℕ) → Has s.world i job (Runs w strand outs)
          → is_at_join (Busy i job strand outs) && can_retake s w (newest_out (Busy i job strand outs)) ≡ true
          → Rooted (does code short s (Retake w) (Busy i job strand outs))
      by_outs i job strand [] has k = still
      by_outs i job strand (n ∷ outs) has k = backs w i n job strand outs has k
  performs short (Steal w v) h = thief (both _ (is_some (oldest (of_worker s.board.lists v))) h).1
    where
      thief : is_some (oldest (of_worker s.board.lists v)) ≡ true → Rooted (stolen_by code s w v (oldest (of_worker s.board.lists v)))
      thief b = let first = some_there (oldest (of_worker s.board.lists v)) b in subst (λ o. Rooted (stolen_by code s w v o)) (sym first.1) (steals w v first.0 first.1)
  performs short (Settle w) h =
      with_top s one w (λ t. is_stolen s t ≡ true → Rooted (does code short s (Settle w) t)) (λ k. still) (λ i job strand outs js at has k. still)
      (λ i e job js at has k. settles w i e k) (both _ (is_stolen s (top s w)) h).1
  performs short (Collect w) h =
      with_top s one w (λ t. is_at_join t && is_settled (place_of s (newest_out t)) ≡ true → Rooted (does code short s (Collect w) t)) (λ k. still)
      (λ i job strand outs js at has. by_outs i job strand outs has) (λ i e job js at has k. still) h
    where
      by_outs : (i : ℕ) (job : Job) (strand : Strand) (outs : List ℕ) → Has s.world i job (Runs w strand outs)
          → is_at_join (Busy i job strand outs) && is_settled (place_of s (newest_out (Busy i job strand outs))) ≡ true
          → Rooted (does code short s (Collect w) (Busy i job strand outs))
      by_outs i job strand [] has k = still
      by_outs i job strand (n ∷ outs) has k =
          let found = settled_is (slice_get s.world.places n) (both (at_join strand) (is_settled (slice_get s.world.places n)) k).1 in
          subst (λ o. Rooted (collected code short s w i n job strand outs (effect_at o))) (sym found.1) (collects short w i n job strand outs found.0 has found.1)

  tries_root : (short : Bool) (event : Event) → Rooted (tried code short s event)
  tries_root short event = cases (is_possible s event) refl
    where
      cases : (b : Bool) → is_possible s event ≡ b → Rooted (if b then perform code short s event else s)
      cases true f = performs short event f
      cases false f = still

record Stays (s s' : Sched) : Type 0 where
  pub one : OnePlace s'
  pub root : is_with 0 (slice_get s'.world.places 0) ≡ true
  pub unoffered : slice_get s'.board.states 0 ≡ Some Unoffered
  pub effect : (e : Effect) → outcome s ≡ Some e → outcome s' ≡ Some e

runs_root : (code : Code) (events : List (Event × Bool)) (s : Sched) → OnePlace s → is_with 0 (slice_get s.world.places 0) ≡ true
    → slice_get s.board.states 0 ≡ Some Unoffered → Stays s (world_run code events s)
runs_root code [] s one root state = record { one = one; root = root; unoffered = state; effect = λ e h. h }
runs_root code (event ∷ events) s one root state =
    let fine = tries code s one event.1 event.0 in
    let now = tries_root code s one root state event.1 event.0 in
    let more = runs_root code events (tried code event.1 s event.0) fine.one (now.keeps.with_it root) now.unoffered in
    record { one = more.one; root = more.root; unoffered = more.unoffered; effect = λ e h. more.effect e (now.keeps.effect e root h) }

pub outcomes_stay : OutcomesStay
outcomes_stay code root others events later e =
    let first = runs_root code events (first_sched root others) (begins root others) refl refl in
    (first.root, λ h. (runs_root code later (world_run code events (first_sched root others)) first.one first.root first.unoffered).effect e h)
