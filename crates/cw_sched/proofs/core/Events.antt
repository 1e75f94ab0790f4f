-- Each event keeps that each job is in one place, and is one or several events of worlds.
use Rattle.std.proofs.Common.{◌≡◌, ◌≢◌, ◌⊎◌, ℕ, zero, suc, ◌+◌, Bool, true, false, List, [], ◌∷◌, ◌++◌, Option, Some, None, refl, sym, ap, ◌∙◌, subst, inl, inr, arith, length, length-append}
use Rattle.std.proofs.lemmas.List.{length-set}
use Rattle.std.proofs.lemmas.Bool.{eqb-true, eq-eqb, true≢false}
use Rattle.std.proofs.lemmas.Bool.Decides.{eqb_tells}
use Rattle.std.specs.Prelude.{slice_get, slice_set, nat_eq, is_some, ◌&&◌, ◌||◌, if◌then◌else◌}
use Rattle.std.proofs.lemmas.Option.{same_Some}
use Rattle.cw_facts.specs.Lists.{get_before}
use Rattle.cw_code.specs.Code.{Code}
use Rattle.cw_code.specs.Jobs.{Job, Effect, Joined, has_come, standing}
use Rattle.cw_code.specs.Strands.{Strand, Going, Waits, Halted}
use Rattle.cw_code.specs.Steps.{started, Advanced, Ran, Handed, AtSync, Finished, Unfit, advance, give, out_of_memory}
use Rattle.cw_code.specs.Worlds.{Place, Undecided, Kept, Offered, Runs, Made, Settled, Spent, World, IsUnrun, IsWaiting, placed, joined_by, Has, WorldStep}
use Rattle.cw_code.specs.Worlds.{Run as Runs_on, Spawn as Spawns, Offer as Offers, Inline as Inlines, Begin as Begins, Skip as Skips, Resume as Resumes}
use Rattle.cw_code.specs.Worlds.{End as Ends, Settle as Settles, Give as Gives, Want as Wants, After, Now, Later, world_of}
use Rattle.cw_sched.specs.core.Board.{Board, newest, oldest, but_oldest, but_newest, of_worker, or_none, offer, retake, collect}
use Rattle.cw_sched.specs.core.Table.{Event, Run, Offer, Inline, Retake, Steal, Settle, Collect, Sched, Top, Idle, Busy, Over, top_at, top_of, top, at_join, is_at_join, is_undecided, is_at_spawn}
use Rattle.cw_sched.specs.core.Table.{is_kept_by, is_settled, is_same, can_retake, is_possible, effect_of, run_or_made, put, told, noted, advanced, ran, got_back, retaken, short_of, stole}
use Rattle.cw_sched.specs.core.Table.{stolen_by, settled, collected, effect_at, does, perform, tried, newest_out, place_of, world_run, none_begun, first_sched, counted}
use Rattle.cw_sched.specs.core.Laws.{one_if, times, is_with, is_offered_by, OnePlace, EachInOnePlace, RunsCome, EventsAreSteps}
use Rattle.cw_sched.proofs.core.Tally.{set_here, set_there, set_twice, still_some, some_there, beside, pushed_times, newest_times, oldest_times, more_times, same, grows, adds, drops}

pub both : (a b : Bool) → a && b ≡ true → (a ≡ true) × (b ≡ true)
both true b h = (refl, h)
both false b h = cc

pub one_of : (a b : Bool) → a || b ≡ true → (a ≡ true) ⊎ (b ≡ true)
one_of true b h = inl refl
one_of false b h = inr h

counted_true : (b : Bool) (k : ℕ) → k + 1 ≡ one_if b → b ≡ true
counted_true true k e = refl
counted_true false k e = absurd (omega (arith, e))

pub undecided_is : (w : ℕ) (o : Option Place) → is_undecided w o ≡ true → o ≡ Some (Undecided w)
undecided_is w (Some (Undecided w')) h = ap (λ v. Some (Undecided v)) (sym (eqb-true w w' h))
undecided_is w _ h = cc

pub kept_is : (w : ℕ) (o : Option Place) → is_kept_by w o ≡ true → o ≡ Some (Kept w)
kept_is w (Some (Kept w')) h = ap (λ v. Some (Kept v)) (sym (eqb-true w w' h))
kept_is w _ h = cc

pub offered_is : (w : ℕ) (o : Option Place) → is_offered_by w o ≡ true → o ≡ Some (Offered w)
offered_is w (Some (Offered w')) h = ap (λ v. Some (Offered v)) (sym (eqb-true w w' h))
offered_is w _ h = cc

pub settled_is : (o : Option Place) → is_settled o ≡ true → (e : Effect) × (o ≡ Some (Settled e))
settled_is (Some (Settled e)) h = (e, refl)
settled_is _ h = cc

pub same_is : (n : ℕ) (o : Option ℕ) → is_same (Some n) o ≡ true → o ≡ Some n
same_is n (Some m) h = ap Some (sym (eqb-true n m h))
same_is n None h = cc

waits : (strand : Strand) → at_join strand ≡ true → IsWaiting strand
waits (Going state count outs) h = cc
waits (Waits state count outs) h = tt
waits (Halted e outs) h = tt

in_range : (o : Option (List ℕ)) (xs : List ℕ) → o ≡ Some xs → o ≡ Some (or_none o)
in_range None xs h = cc
in_range (Some ys) xs h = refl

oldest_range : (o : Option (List ℕ)) (n : ℕ) → oldest (or_none o) ≡ Some n → o ≡ Some (or_none o)
oldest_range None n h = cc
oldest_range (Some ys) n h = refl

oldest_first : (o : Option (List ℕ)) (i : ℕ) (js : List ℕ) → o ≡ Some (i ∷ js) → oldest (or_none o) ≡ Some i
oldest_first o i js h = ap (λ p. oldest (or_none p)) h

pub rom_with : (w : ℕ) (strand : Strand) (outs : List ℕ) (o : Option Effect) (v : ℕ) → is_with v (Some (run_or_made w strand outs o)) ≡ nat_eq v w
rom_with w strand outs None v = refl
rom_with w strand outs (Some e) v = refl

rom_off : (w : ℕ) (strand : Strand) (outs : List ℕ) (o : Option Effect) (v : ℕ) → is_offered_by v (Some (run_or_made w strand outs o)) ≡ false
rom_off w strand outs None v = refl
rom_off w strand outs (Some e) v = refl

-- what w's strand is, with what is known of it
module _ (s : Sched) (one : OnePlace s) (w : ℕ) (P : Top → Type 0) where
  same_worker : (i w' : ℕ) (js : List ℕ) (place : Place) → slice_get s.begun w ≡ Some (i ∷ js) → slice_get s.world.places i ≡ Some place → is_with w (Some place) ≡ nat_eq w w' → w' ≡ w
  same_worker i w' js place e g f = sym (eqb-true w w' (sym f ∙ counted_true (is_with w (Some place)) (times i js)
      (let mine : times i (i ∷ js) ≡ one_if (is_with w (Some place)) = ap (λ o. times i (or_none o)) (sym e) ∙ one.begun w i ∙ ap (λ o. one_if (is_with w o)) g in
      let self : one_if (nat_eq i i) ≡ 1 = ap one_if (eq-eqb i i refl) in omega (arith, mine, self))))

  pub with_top : P Idle → ((i : ℕ) (job : Job) (strand : Strand) (outs js : List ℕ) → slice_get s.begun w ≡ Some (i ∷ js) → Has s.world i job (Runs w strand outs) → P (Busy i job strand outs))
      → ((i : ℕ) (e : Effect) (job : Job) (js : List ℕ) → slice_get s.begun w ≡ Some (i ∷ js) → Has s.world i job (Made w e) → P (Over i e)) → P (top s w)
  with_top idle busy over = by_list (slice_get s.begun w) refl
    where
      by_places : (i : ℕ) (js : List ℕ) → slice_get s.begun w ≡ Some (i ∷ js) → (j : Option Job) (p : Option Place) → slice_get s.world.jobs i ≡ j → slice_get s.world.places i ≡ p → P (top_at i j p)
      by_places i js e (Some job) (Some (Runs w' strand outs)) f g = busy i job strand outs js e
          (record { job_is = f; place_is = g ∙ ap (λ v. Some (Runs v strand outs)) (same_worker i w' js (Runs w' strand outs) e g refl) })
      by_places i js e (Some job) (Some (Made w' x)) f g = over i x job js e (record { job_is = f; place_is = g ∙ ap (λ v. Some (Made v x)) (same_worker i w' js (Made w' x) e g refl) })
      by_places i js e _ _ f g = idle

      by_list : (o : Option (List ℕ)) → slice_get s.begun w ≡ o → P (top_of s.world (or_none o))
      by_list None e = idle
      by_list (Some []) e = idle
      by_list (Some (i ∷ js)) e = by_places i js e (slice_get s.world.jobs i) (slice_get s.world.places i) refl refl

module _ (code : Code) where
  after_then : (first mid last : World) → After code first mid → After code mid last → After code first last
  after_then first mid last h Now = h
  after_then first mid last h (Later world _ after next) = Later world last (after_then first mid world h after) next

  step : (world next : World) → WorldStep code world next → After code world next
  step world next n = Later world next Now n

  ended_finishes : (job : Job) (strand : Strand) (e : Effect) → effect_of code job strand ≡ Some e → advance code job strand ≡ Finished e
  ended_finishes job (Going state count []) e h = by_come (has_come job.extent code state) (Joined (standing state) state.trace count) _ h
    where
      by_come : (b : Bool) (x : Effect) (others : Advanced) → (if b then Some x else None) ≡ Some e → (if b then Finished x else others) ≡ Finished e
      by_come true x others k = ap Finished (same_Some x e k)
      by_come false x others k = cc
  ended_finishes job (Going state count (out ∷ outs)) e h = cc
  ended_finishes job (Waits state count outs) e h = cc
  ended_finishes job (Halted x []) e h = ap Finished (same_Some x e h)
  ended_finishes job (Halted x (out ∷ outs)) e h = cc

  -- a strand put into its place, where it may have come to its end
  puts_come : (first world : World) (w i : ℕ) (job : Job) (strand : Strand) (outs : List ℕ) (old : Place) → slice_get world.jobs i ≡ Some job → slice_get world.places i ≡ Some old
      → After code first (placed world i (Runs w strand outs)) → After code first (put code world w i job strand outs)
  puts_come first world w i job strand outs old is at after = cases (effect_of code job strand) refl
    where
      cases : (o : Option Effect) → effect_of code job strand ≡ o → After code first (placed world i (run_or_made w strand outs o))
      cases None f = after
      cases (Some e) f = subst (λ ps. After code first (record { jobs = world.jobs; places = ps })) (set_twice world.places i (Runs w strand outs) (Made w e))
          (Later (placed world i (Runs w strand outs)) (placed (placed world i (Runs w strand outs)) i (Made w e)) after
          (Ends (placed world i (Runs w strand outs)) i w job strand outs e (record { job_is = is; place_is = set_here world.places i old (Runs w strand outs) at }) (ended_finishes job strand e f)))

  -- what an event comes to
  pub record Fine (s s' : Sched) : Type 0 where
    pub one : OnePlace s'
    pub come : After code s.world s'.world

  module _ (s : Sched) (one : OnePlace s) where
    unchanged : Fine s s
    unchanged = record { one = one; come = Now }

    -- one place becomes another that lies alike
    alike : (i : ℕ) (old new : Place) → slice_get s.world.places i ≡ Some old → ((v : ℕ) → is_with v (Some new) ≡ is_with v (Some old))
        → ((v : ℕ) → is_offered_by v (Some new) ≡ is_offered_by v (Some old))
        → OnePlace (told s (placed s.world i new))
    alike i old new at a b = record {
      even = one.even ∙ sym (length-set s.world.places i new);
      workers = one.workers;
      begun = same is_with s.begun s.world.places one.begun i old new at a;
      offered = same is_offered_by s.board.lists s.world.places one.offered i old new at b;
    }

    put_fine : (w i : ℕ) (job : Job) (old strand : Strand) (outs outs' : List ℕ) → Has s.world i job (Runs w old outs)
        → After code s.world (placed s.world i (Runs w strand outs')) → Fine s (told s (put code s.world w i job strand outs'))
    put_fine w i job old strand outs outs' has after = record {
      one = alike i (Runs w old outs) (run_or_made w strand outs' (effect_of code job strand)) has.place_is
          (rom_with w strand outs' (effect_of code job strand)) (rom_off w strand outs' (effect_of code job strand));
      come = puts_come s.world s.world w i job strand outs' (Runs w old outs) has.job_is has.place_is after;
    }

    spawn_fine : (w i : ℕ) (job out : Job) (strand new : Strand) (outs : List ℕ) → Has s.world i job (Runs w strand outs) → advance code job strand ≡ Handed out new
        → Fine s (noted s (placed (joined_by s.world out (Undecided w)) i (Runs w new (length s.world.jobs ∷ outs))) (counted s.board))
    spawn_fine w i job out strand new outs has f = record {
      one = record {
        even = length-append s.world.jobs (out ∷ []) ∙ ap (λ n. n + 1) one.even ∙ sym (length-append s.world.places (Undecided w ∷ []))
            ∙ sym (length-set (s.world.places ++ Undecided w ∷ []) i (Runs w new (length s.world.jobs ∷ outs)));
        workers = one.workers;
        begun = same is_with s.begun (s.world.places ++ Undecided w ∷ []) (grows is_with s.begun s.world.places one.begun (Undecided w) (λ v. refl))
            i (Runs w strand outs) (Runs w new (length s.world.jobs ∷ outs))
            (get_before s.world.places (Undecided w) i (Runs w strand outs) has.place_is) (λ v. refl);
        offered = same is_offered_by s.board.lists (s.world.places ++ Undecided w ∷ [])
            (grows is_offered_by s.board.lists s.world.places one.offered (Undecided w) (λ v. refl)) i (Runs w strand outs) (Runs w new (length s.world.jobs ∷ outs))
            (get_before s.world.places (Undecided w) i (Runs w strand outs) has.place_is) (λ v. refl);
      };
      come = step s.world _ (Spawns s.world i w job out strand new outs has f);
    }

    run_fine : (short : Bool) (w i : ℕ) (job : Job) (strand : Strand) (outs : List ℕ) → Has s.world i job (Runs w strand outs) → Fine s (ran code short s w i job strand outs)
    run_fine true w i job strand outs has = put_fine w i job strand (out_of_memory strand) outs outs has (step s.world _ (Wants s.world i w job strand outs has))
    run_fine false w i job strand outs has = cases (advance code job strand) refl
      where
        cases : (a : Advanced) → advance code job strand ≡ a → Fine s (advanced code s w i job outs a)
        cases (Ran new) f = put_fine w i job strand new outs outs has (step s.world _ (Runs_on s.world i w job strand new outs has f))
        cases (Handed out new) f = spawn_fine w i job out strand new outs has f
        cases AtSync f = unchanged
        cases (Finished e) f = record {
          one = alike i (Runs w strand outs) (Made w e) has.place_is (λ v. refl) (λ v. refl);
          come = step s.world _ (Ends s.world i w job strand outs e has f);
        }
        cases Unfit f = unchanged

    there : (n : ℕ) (place : Place) → slice_get s.world.places n ≡ Some place → (job : Job) × Has s.world n job place
    there n place at = let found = beside s.world.jobs s.world.places n place one.even at in (found.0, record { job_is = found.1; place_is = at })

    has_list : (w : ℕ) (xs : List ℕ) → slice_get s.begun w ≡ Some xs → slice_get s.board.lists w ≡ Some (of_worker s.board.lists w)
    has_list w xs at = let found = beside s.board.lists s.begun w xs (sym one.workers) at in in_range (slice_get s.board.lists w) found.0 found.1

    offer_fine : (w n : ℕ) (js : List ℕ) → slice_get s.begun w ≡ Some js → slice_get s.world.places n ≡ Some (Undecided w) → Fine s (noted s (placed s.world n (Offered w)) (offer w n s.board))
    offer_fine w n js e at = record {
      one = record {
        even = one.even ∙ sym (length-set s.world.places n (Offered w));
        workers = one.workers ∙ sym (length-set s.board.lists w (of_worker s.board.lists w ++ n ∷ []));
        begun = same is_with s.begun s.world.places one.begun n (Undecided w) (Offered w) at (λ v. refl);
        offered = adds is_offered_by s.board.lists s.world.places one.offered w n (of_worker s.board.lists w) (of_worker s.board.lists w ++ n ∷ [])
            (Undecided w) (Offered w) (has_list w js e) at (λ v. refl) (λ v. refl)
            (λ m. pushed_times m n (of_worker s.board.lists w));
      };
      come = let found = there n (Undecided w) at in step s.world _ (Offers s.world n w found.0 found.1);
    }

    inline_fine : (w n : ℕ) → slice_get s.world.places n ≡ Some (Undecided w) → Fine s (told s (placed s.world n (Kept w)))
    inline_fine w n at = record {
      one = alike n (Undecided w) (Kept w) at (λ v. refl) (λ v. refl);
      come = let found = there n (Undecided w) at in step s.world _ (Inlines s.world n w found.0 found.1);
    }

    -- the newest job out is spent, and its strand goes on
    spent_fine : (w i n : ℕ) (job : Job) (strand new : Strand) (outs outs' : List ℕ) (place : Place) (board : Board)
        → Has s.world i job (Runs w strand outs) → slice_get s.world.places n ≡ Some place → i ≢ n
        → ((v : ℕ) → is_with v (Some place) ≡ false) → length s.begun ≡ length board.lists
        → ((v m : ℕ) → times m (of_worker board.lists v) ≡ one_if (is_offered_by v (slice_get (slice_set s.world.places n Spent) m)))
        → After code s.world (placed (placed s.world n Spent) i (Runs w new outs'))
        → Fine s (noted s (put code (placed s.world n Spent) w i job new outs') board)
    spent_fine w i n job strand new outs outs' place board has at other none workers offered after = record {
      one = record {
        even = one.even ∙ sym (length-set s.world.places n Spent) ∙ sym (length-set (slice_set s.world.places n Spent) i (run_or_made w new outs' (effect_of code job new)));
        workers = workers;
        begun = same is_with s.begun (slice_set s.world.places n Spent)
            (same is_with s.begun s.world.places one.begun n place Spent at (λ v. sym (none v))) i (Runs w strand outs)
            (run_or_made w new outs' (effect_of code job new))
            was (rom_with w new outs' (effect_of code job new));
        offered = same is_offered_by board.lists (slice_set s.world.places n Spent) offered i (Runs w strand outs)
            (run_or_made w new outs' (effect_of code job new)) was (rom_off w new outs' (effect_of code job new));
      };
      come = puts_come s.world (placed s.world n Spent) w i job new outs' (Runs w strand outs) has.job_is was after;
    }
      where
        was : slice_get (slice_set s.world.places n Spent) i ≡ Some (Runs w strand outs)
        was = set_there s.world.places n i Spent other ∙ has.place_is

    -- where the newest job out has not begun
    back_comes : (w i n : ℕ) (job : Job) (strand : Strand) (outs : List ℕ) (place : Place) → Has s.world i job (Runs w strand (n ∷ outs))
        → at_join strand ≡ true → slice_get s.world.places n ≡ Some place → IsUnrun place
        → After code s.world (placed (placed s.world n Spent) i (Runs w (got_back strand) outs))
    back_comes w i n job (Going state count jobs) outs place has j at unrun = cc
    back_comes w i n job (Waits state count jobs) outs place has j at unrun = let found = there n place at in
        step s.world _ (Resumes s.world i n w job found.0 (Waits state count jobs) outs place has tt found.1 unrun)
    back_comes w i n job (Halted e jobs) outs place has j at unrun = let found = there n place at in step s.world _ (Skips s.world i n w job found.0 (Halted e jobs) outs place has tt found.1 unrun)

    different : (w i n : ℕ) (job : Job) (strand : Strand) (outs : List ℕ) (place : Place) → Has s.world i job (Runs w strand outs)
        → slice_get s.world.places n ≡ Some place → ((v : ℕ) → is_with v (Some place) ≡ false) → i ≢ n
    different w i n job strand outs place has at none e = true≢false (sym (eq-eqb w w refl) ∙ ap (is_with w) (sym has.place_is ∙ ap (slice_get s.world.places) e ∙ at) ∙ none w)

    kept_fine : (w i n : ℕ) (job : Job) (strand : Strand) (outs : List ℕ) → Has s.world i job (Runs w strand (n ∷ outs)) → at_join strand ≡ true → slice_get s.world.places n ≡ Some (Kept w)
        → Fine s (noted s (put code (placed s.world n Spent) w i job (got_back strand) outs) s.board)
    kept_fine w i n job strand outs has j at = spent_fine w i n job strand (got_back strand) (n ∷ outs) outs (Kept w) s.board has at
        (different w i n job strand (n ∷ outs) (Kept w) has at (λ v. refl)) (λ v. refl) one.workers
        (same is_offered_by s.board.lists s.world.places one.offered n (Kept w) Spent at (λ v. refl)) (back_comes w i n job strand outs (Kept w) has j at tt)

    got_fine : (w i n : ℕ) (job : Job) (strand : Strand) (outs js : List ℕ) → slice_get s.begun w ≡ Some js
        → Has s.world i job (Runs w strand (n ∷ outs)) → at_join strand ≡ true → newest (of_worker s.board.lists w) ≡ Some n
        → slice_get s.world.places n ≡ Some (Offered w)
        → Fine s (noted s (put code (placed s.world n Spent) w i job (got_back strand) outs) (retake w n s.board))
    got_fine w i n job strand outs js e has j last at = spent_fine w i n job strand (got_back strand) (n ∷ outs) outs (Offered w)
        (retake w n s.board) has at (different w i n job strand (n ∷ outs) (Offered w) has at (λ v. refl)) (λ v. refl)
        (one.workers ∙ sym (length-set s.board.lists w (but_newest (of_worker s.board.lists w))))
        (drops is_offered_by s.board.lists s.world.places one.offered w n (of_worker s.board.lists w) (but_newest (of_worker s.board.lists w))
        (Offered w) Spent (has_list w js e) at (λ v. refl) (λ v. refl)
        (λ m. newest_times m n (of_worker s.board.lists w) last)) (back_comes w i n job strand outs (Offered w) has j at tt)

    -- what stands in a worker's list is offered by it
    pub listed : (w n : ℕ) (k : ℕ) → times n (of_worker s.board.lists w) ≡ k + one_if (nat_eq n n) → slice_get s.world.places n ≡ Some (Offered w)
    listed w n k e = offered_is w (slice_get s.world.places n) (counted_true (is_offered_by w (slice_get s.world.places n)) k
        (let self : one_if (nat_eq n n) ≡ 1 = ap one_if (eq-eqb n n refl) in let o = one.offered w n in omega (arith, e, self, o)))

    retake_fine : (w i n : ℕ) (job : Job) (strand : Strand) (outs js : List ℕ) → slice_get s.begun w ≡ Some js
        → Has s.world i job (Runs w strand (n ∷ outs)) → at_join strand && can_retake s w (Some n) ≡ true
        → Fine s (noted s (put code (placed s.world n Spent) w i job (got_back strand) outs) (retaken w n (slice_get s.world.places n) s.board))
    retake_fine w i n job strand outs js e has h =
        let split = both (at_join strand) (can_retake s w (Some n)) h in
        elim (one_of (is_kept_by w (slice_get s.world.places n)) (is_same (Some n) (newest (of_worker s.board.lists w))) split.1) [
          | inl k ↦
              let at = kept_is w (slice_get s.world.places n) k in
              subst (λ o. Fine s (noted s (put code (placed s.world n Spent) w i job (got_back strand) outs) (retaken w n o s.board))) (sym at) (kept_fine w i n job strand outs has split.0 at)
          | inr k ↦
              let last = same_is n (newest (of_worker s.board.lists w)) k in
              let at = listed w n (times n (but_newest (of_worker s.board.lists w))) (newest_times n n (of_worker s.board.lists w) last) in
              subst (λ o. Fine s (noted s (put code (placed s.world n Spent) w i job (got_back strand) outs) (retaken w n o s.board))) (sym at)
              (got_fine w i n job strand outs js e has split.0 last at)
        ]

    steal_fine : (w v n : ℕ) (xs : List ℕ) → slice_get s.begun w ≡ Some xs → oldest (of_worker s.board.lists v) ≡ Some n → Fine s (stolen_by code s w v (Some n))
    steal_fine w v n xs e first =
        let at = listed v n (times n (but_oldest (of_worker s.board.lists v))) (oldest_times n n (of_worker s.board.lists v) first) in
        let found = there n (Offered v) at in
        subst (λ o. Fine s (stole code s w v n o)) (sym found.1.job_is) (stole_fine found.0 at found.1)
      where
        mine : slice_get s.begun w ≡ Some (of_worker s.begun w)
        mine = in_range (slice_get s.begun w) xs e

        stole_fine : (job : Job) → slice_get s.world.places n ≡ Some (Offered v) → Has s.world n job (Offered v) → Fine s (stole code s w v n (Some job))
        stole_fine job at has = record {
          one = record {
            even = one.even ∙ sym (length-set s.world.places n (run_or_made w (started job) [] (effect_of code job (started job))));
            workers = length-set s.begun w (n ∷ of_worker s.begun w) ∙ one.workers ∙ sym (length-set s.board.lists v (but_oldest (of_worker s.board.lists v)));
            begun = adds is_with s.begun s.world.places one.begun w n (of_worker s.begun w) (n ∷ of_worker s.begun w) (Offered v)
                (run_or_made w (started job) [] (effect_of code job (started job))) mine at (λ u. refl)
                (rom_with w (started job) [] (effect_of code job (started job))) (λ m. more_times m n (of_worker s.begun w));
            offered = drops is_offered_by s.board.lists s.world.places one.offered v n (of_worker s.board.lists v)
                (but_oldest (of_worker s.board.lists v)) (Offered v) (run_or_made w (started job) [] (effect_of code job (started job)))
                (oldest_range (slice_get s.board.lists v) n first) at (λ u. refl) (rom_off w (started job) [] (effect_of code job (started job)))
                (λ m. oldest_times m n (of_worker s.board.lists v) first);
          };
          come = puts_come s.world s.world w n job (started job) [] (Offered v) has.job_is at (step s.world _ (Begins s.world n w job (Offered v) has tt));
        }

    settle_fine : (w i : ℕ) (e : Effect) (job : Job) (js : List ℕ) → slice_get s.begun w ≡ Some (i ∷ js) → Has s.world i job (Made w e) → Fine s (settled s w i e)
    settle_fine w i e job js at has = record {
      one = record {
        even = one.even ∙ sym (length-set s.world.places i (Settled e));
        workers = length-set s.begun w (but_oldest (of_worker s.begun w)) ∙ one.workers;
        begun = drops is_with s.begun s.world.places one.begun w i (of_worker s.begun w) (but_oldest (of_worker s.begun w)) (Made w e) (Settled e)
            (in_range (slice_get s.begun w) (i ∷ js) at) has.place_is (λ v. refl) (λ v. refl)
            (λ m. oldest_times m i (of_worker s.begun w) (oldest_first (slice_get s.begun w) i js at));
        offered = same is_offered_by s.board.lists s.world.places one.offered i (Made w e) (Settled e) has.place_is (λ v. refl);
      };
      come = step s.world _ (Settles s.world i w job e has);
    }

    collect_fine : (short : Bool) (w i n : ℕ) (job : Job) (strand : Strand) (outs : List ℕ) (e : Effect)
        → Has s.world i job (Runs w strand (n ∷ outs)) → IsWaiting strand → slice_get s.world.places n ≡ Some (Settled e)
        → Fine s (collected code short s w i n job strand outs (Some e))
    collect_fine short w i n job strand outs e has wait at = spent_fine w i n job strand (short_of short (give job strand e)) (n ∷ outs) outs (Settled e) (collect n s.board) has at
        (different w i n job strand (n ∷ outs) (Settled e) has at (λ v. refl)) (λ v. refl) one.workers
        (same is_offered_by s.board.lists s.world.places one.offered n (Settled e) Spent at (λ v. refl)) (comes short)
      where
        gives : After code s.world (placed (placed s.world n Spent) i (Runs w (give job strand e) outs))
        gives = let found = there n (Settled e) at in step s.world _ (Gives s.world i n w job found.0 strand outs (Settled e) e has wait found.1 refl)

        comes : (short' : Bool) → After code s.world (placed (placed s.world n Spent) i (Runs w (short_of short' (give job strand e)) outs))
        comes false = gives
        comes true =
            let was = still_some s.world.places i n (Runs w strand (n ∷ outs)) Spent has.place_is in
            subst (λ ps. After code s.world (record { jobs = s.world.jobs; places = ps }))
            (set_twice (slice_set s.world.places n Spent) i (Runs w (give job strand e) outs) (Runs w (out_of_memory (give job strand e)) outs))
            (Later (placed (placed s.world n Spent) i (Runs w (give job strand e) outs)) _ gives
            (Wants (placed (placed s.world n Spent) i (Runs w (give job strand e) outs)) i w job (give job strand e) outs
            (record { job_is = has.job_is; place_is = set_here (slice_set s.world.places n Spent) i was.0 (Runs w (give job strand e) outs) was.1 })))

    performed : (short : Bool) (event : Event) → is_possible s event ≡ true → Fine s (perform code short s event)
    performed short (Run w) h = with_top s one w (λ t. Fine s (does code short s (Run w) t)) unchanged
        (λ i job strand outs js at has. run_fine short w i job strand outs has) (λ i e job js at has. unchanged)
    performed short (Offer w) h = with_top s one w (λ t. is_at_spawn s w t ≡ true → Fine s (does code short s (Offer w) t)) (λ k. unchanged)
        (λ i job strand outs js at has. by_outs i job strand outs js at) (λ i e job js at has k. unchanged) h
      where
        by_outs : (i : ℕ) (job : Job) (strand : Strand) (outs js : List ℕ) → slice_get s.begun w ≡ Some (i ∷ js)
            → is_at_spawn s w (Busy i job strand outs) ≡ true → Fine s (does code short s (Offer w) (Busy i job strand outs))
        by_outs i job strand [] js at k = unchanged
        by_outs i job strand (n ∷ outs) js at k = offer_fine w n (i ∷ js) at (undecided_is w (slice_get s.world.places n) k)
    performed short (Inline w) h = with_top s one w (λ t. is_at_spawn s w t ≡ true → Fine s (does code short s (Inline w) t)) (λ k. unchanged)
        (λ i job strand outs js at has. by_outs i job strand outs) (λ i e job js at has k. unchanged) h
      where
        by_outs : (i : ℕ) (job : Job) (strand : Strand) (outs : List ℕ) → is_at_spawn s w (Busy i job strand outs) ≡ true → Fine s (does code short s (Inline w) (Busy i job strand outs))
        by_outs i job strand [] k = unchanged
        by_outs i job strand (n ∷ outs) k = inline_fine w n (undecided_is w (slice_get s.world.places n) k)
    performed short (Retake w) h =
        with_top s one w (λ t. is_possible_by t ≡ true → Fine s (does code short s (Retake w) t)) (λ k. unchanged)
        (λ i job strand outs js at has. by_outs i job strand outs js at has) (λ i e job js at has k. unchanged) h
      where
        is_possible_by : Top → Bool
        is_possible_by t = is_at_join t && can_retake s w (newest_out t)

        by_outs : (i : ℕ) (job : Job) (strand : Strand) (outs js : List ℕ) → slice_get s.begun w ≡ Some (i ∷ js)
            → Has s.world i job (Runs w strand outs) → is_possible_by (Busy i job strand outs) ≡ true → Fine s (does code short s (Retake w) (Busy i job strand outs))
        by_outs i job strand [] js at has k = unchanged
        by_outs i job strand (n ∷ outs) js at has k = retake_fine w i n job strand outs (i ∷ js) at has k
    performed short (Steal w v) h = thief (both (is_some (slice_get s.begun w)) _ (both _ (is_some (oldest (of_worker s.board.lists v))) h).0).0
        (both _ (is_some (oldest (of_worker s.board.lists v))) h).1
      where
        thief : is_some (slice_get s.begun w) ≡ true → is_some (oldest (of_worker s.board.lists v)) ≡ true → Fine s (stolen_by code s w v (oldest (of_worker s.board.lists v)))
        thief a b =
            let mine = some_there (slice_get s.begun w) a in
            let first = some_there (oldest (of_worker s.board.lists v)) b in
            subst (λ o. Fine s (stolen_by code s w v o)) (sym first.1) (steal_fine w v first.0 mine.0 mine.1 first.1)
    performed short (Settle w) h = with_top s one w (λ t. Fine s (does code short s (Settle w) t)) unchanged
        (λ i job strand outs js at has. unchanged) (λ i e job js at has. settle_fine w i e job js at has)
    performed short (Collect w) h =
        with_top s one w (λ t. is_at_join t && is_settled (place_of s (newest_out t)) ≡ true → Fine s (does code short s (Collect w) t))
        (λ k. unchanged) (λ i job strand outs js at has. by_outs i job strand outs has) (λ i e job js at has k. unchanged) h
      where
        by_outs : (i : ℕ) (job : Job) (strand : Strand) (outs : List ℕ) → Has s.world i job (Runs w strand outs)
            → is_at_join (Busy i job strand outs) && is_settled (place_of s (newest_out (Busy i job strand outs))) ≡ true
            → Fine s (does code short s (Collect w) (Busy i job strand outs))
        by_outs i job strand [] has k = unchanged
        by_outs i job strand (n ∷ outs) has k =
            let split = both (at_join strand) (is_settled (slice_get s.world.places n)) k in
            let found = settled_is (slice_get s.world.places n) split.1 in
            subst (λ o. Fine s (collected code short s w i n job strand outs (effect_at o))) (sym found.1) (collect_fine short w i n job strand outs found.0 has (waits strand split.0) found.1)

    pub tries : (short : Bool) (event : Event) → Fine s (tried code short s event)
    tries short event = cases (is_possible s event) refl
      where
        cases : (b : Bool) → is_possible s event ≡ b → Fine s (if b then perform code short s event else s)
        cases true f = performed short event f
        cases false f = unchanged

  pub runs : (events : List (Event × Bool)) (first : World) (s : Sched) → OnePlace s → After code first s.world → OnePlace (world_run code events s) × After code first (world_run code events s).world
  runs [] first s one after = (one, after)
  runs (e ∷ events) first s one after = let fine = tries s one e.1 e.0 in runs events first (tried code e.1 s e.0) fine.one (after_then first s.world (tried code e.1 s e.0).world after fine.come)

nothing_begun : (others w : ℕ) → of_worker (none_begun others) w ≡ []
nothing_begun zero w = refl
nothing_begun (suc others) zero = refl
nothing_begun (suc others) (suc w) = nothing_begun others w

not_zero : (n : ℕ) → nat_eq (suc n) 0 ≡ false
not_zero n = elim (eqb_tells (suc n) 0) [
  | inl p ↦ absurd (let e = p.1 in omega (arith, e))
  | inr p ↦ p.0
]

pub begins : (root : Job) (others : ℕ) → OnePlace (first_sched root others)
begins root others = record {
  even = refl;
  workers = refl;
  begun = first_begun;
  offered = first_offered;
}
  where
    first_begun : (w n : ℕ) → times n (of_worker ((0 ∷ []) ∷ none_begun others) w) ≡ one_if (is_with w (slice_get (Runs 0 (started root) [] ∷ []) n))
    first_begun zero zero = refl
    first_begun zero (suc n) = let e : one_if (nat_eq (suc n) 0) ≡ 0 = ap one_if (not_zero n) in omega (arith, e)
    first_begun (suc w) zero = ap (times 0) (nothing_begun others w) ∙ ap one_if (sym (not_zero w))
    first_begun (suc w) (suc n) = ap (times (suc n)) (nothing_begun others w)

    first_offered : (w n : ℕ) → times n (of_worker ([] ∷ none_begun others) w) ≡ one_if (is_offered_by w (slice_get (Runs 0 (started root) [] ∷ []) n))
    first_offered zero zero = refl
    first_offered zero (suc n) = refl
    first_offered (suc w) zero = ap (times 0) (nothing_begun others w)
    first_offered (suc w) (suc n) = ap (times (suc n)) (nothing_begun others w)

pub each_in_one_place : EachInOnePlace
each_in_one_place code root others events = (runs code events (world_of root) (first_sched root others) (begins root others) Now).0

pub runs_come : RunsCome
runs_come code root others events = (runs code events (world_of root) (first_sched root others) (begins root others) Now).1

pub events_are_steps : EventsAreSteps
events_are_steps code root others events short event possible =
    let kept = runs code events (world_of root) (first_sched root others) (begins root others) Now in
    (performed code (world_run code events (first_sched root others)) kept.0 short event possible).come
