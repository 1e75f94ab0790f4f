-- Where memory is never wanting, no effect is for want of memory.
use Rattle.std.proofs.Common.{◌≡◌, ℕ, zero, suc, Bool, true, false, List, [], ◌∷◌, Option, Some, None, refl, sym, subst, inl, inr, length}
use Rattle.std.specs.Prelude.{slice_get, if◌then◌else◌}
use Rattle.std.proofs.lemmas.Option.{same_Some}
use Rattle.cw_facts.specs.Lists.{added_gives}
use Rattle.cw_code.specs.Code.{Code}
use Rattle.cw_code.specs.Jobs.{Job, Effect, Joined, has_come, standing}
use Rattle.cw_code.specs.Strands.{Strand, Going, Waits, Halted}
use Rattle.cw_code.specs.Steps.{started, Advanced, Ran, Handed, AtSync, Finished, Unfit, advance, give}
use Rattle.cw_code.specs.Worlds.{Place, Undecided, Kept, Offered, Runs, Made, Settled, Spent, World, placed, joined_by}
use Rattle.cw_code.specs.lemmas.Ample.{Ample, AmpleStrand, AmplePlace, AmpleWorld, AmpleStep, advances, gives, set_ample}
use Rattle.cw_sched.specs.core.Board.{oldest, of_worker}
use Rattle.cw_sched.specs.core.Table.{Event, Run, Offer, Inline, Retake, Steal, Settle, Collect, Sched, Idle, Busy, Over, top, effect_of, run_or_made, put, advanced}
use Rattle.cw_sched.specs.core.Table.{got_back, stole, stolen_by, collected, effect_at, does, perform, is_possible, tried, world_run, first_sched}
use Rattle.cw_sched.specs.core.Laws.{OnePlace, is_short}
use Rattle.cw_sched.proofs.core.Events.{with_top, tries}

gets_back : (strand : Strand) → AmpleStrand strand → AmpleStrand (got_back strand)
gets_back (Going s count outs) h = h
gets_back (Waits s count []) h = tt
gets_back (Waits s count (out ∷ outs)) h = tt
gets_back (Halted e []) h = h
gets_back (Halted e (out ∷ outs)) h = h

ends : (code : Code) (job : Job) (strand : Strand) (e : Effect) → AmpleStrand strand → effect_of code job strand ≡ Some e → Ample e
ends code job (Going s count []) e h f = come (has_come job.extent code s) f
  where
    come : (b : Bool) → (if b then Some (Joined (standing s) s.trace count) else None) ≡ Some e → Ample e
    come true g = subst Ample (same_Some (Joined (standing s) s.trace count) e g) tt
    come false g = cc
ends code job (Going s count (out ∷ outs)) e h f = cc
ends code job (Waits s count outs) e h f = cc
ends code job (Halted e' []) e h f = subst Ample (same_Some e' e f) h
ends code job (Halted e' (out ∷ outs)) e h f = cc

put_ample : (code : Code) (world : World) (w i : ℕ) (job : Job) (strand : Strand) (outs : List ℕ) → AmpleWorld world → AmpleStrand strand → AmpleWorld (put code world w i job strand outs)
put_ample code world w i job strand outs all h = set_ample world i (run_or_made w strand outs (effect_of code job strand)) all (cases (effect_of code job strand) refl)
  where
    cases : (o : Option Effect) → effect_of code job strand ≡ o → AmplePlace (run_or_made w strand outs o)
    cases None f = h
    cases (Some e) f = ends code job strand e h f

module _ (code : Code) (s : Sched) (one : OnePlace s) (all : AmpleWorld s.world) where
  runs : (w i : ℕ) (job : Job) (outs : List ℕ) (a : Advanced) → AmpleStep a → AmpleWorld (advanced code s w i job outs a).world
  runs w i job outs (Ran new) h = put_ample code s.world w i job new outs all h
  runs w i job outs (Handed out new) h = set_ample (joined_by s.world out (Undecided w)) i (Runs w new (length s.world.jobs ∷ outs)) grown h
    where
      grown : AmpleWorld (joined_by s.world out (Undecided w))
      grown n place at = elim (added_gives s.world.places n (Undecided w) place at) [
        | inl p ↦ subst AmplePlace (sym p.1) tt
        | inr p ↦ all n place p
      ]
  runs w i job outs AtSync h = all
  runs w i job outs (Finished e) h = set_ample s.world i (Made w e) all h
  runs w i job outs Unfit h = all

  spent : (n : ℕ) → AmpleWorld (placed s.world n Spent)
  spent n = set_ample s.world n Spent all tt

  collects : (w i n : ℕ) (job : Job) (strand : Strand) (outs : List ℕ) (o : Option Place) → AmpleStrand strand → slice_get s.world.places n ≡ o
      → AmpleWorld (collected code false s w i n job strand outs (effect_at o)).world
  collects w i n job strand outs None h f = all
  collects w i n job strand outs (Some (Made v e)) h f = put_ample code (placed s.world n Spent) w i job (give job strand e) outs (spent n) (gives job strand e h (all n (Made v e) f))
  collects w i n job strand outs (Some (Settled e)) h f = put_ample code (placed s.world n Spent) w i job (give job strand e) outs (spent n) (gives job strand e h (all n (Settled e) f))
  collects w i n job strand outs (Some (Undecided v)) h f = all
  collects w i n job strand outs (Some (Kept v)) h f = all
  collects w i n job strand outs (Some (Offered v)) h f = all
  collects w i n job strand outs (Some (Runs v strand' outs')) h f = all
  collects w i n job strand outs (Some Spent) h f = all

  steals : (w v : ℕ) (o : Option ℕ) → AmpleWorld (stolen_by code s w v o).world
  steals w v None = all
  steals w v (Some n) = cases (slice_get s.world.jobs n)
    where
      cases : (o : Option Job) → AmpleWorld (stole code s w v n o).world
      cases None = all
      cases (Some job) = put_ample code s.world w n job (started job) [] all tt

  at_top : (event : Event) (i : ℕ) (job : Job) (strand : Strand) (outs : List ℕ) → AmpleStrand strand → AmpleWorld (does code false s event (Busy i job strand outs)).world
  at_top (Run w) i job strand outs h = runs w i job outs (advance code job strand) (advances code job strand h)
  at_top (Offer w) i job strand [] h = all
  at_top (Offer w) i job strand (n ∷ outs) h = set_ample s.world n (Offered w) all tt
  at_top (Inline w) i job strand [] h = all
  at_top (Inline w) i job strand (n ∷ outs) h = set_ample s.world n (Kept w) all tt
  at_top (Retake w) i job strand [] h = all
  at_top (Retake w) i job strand (n ∷ outs) h = put_ample code (placed s.world n Spent) w i job (got_back strand) outs (spent n) (gets_back strand h)
  at_top (Steal w v) i job strand outs h = steals w v (oldest (of_worker s.board.lists v))
  at_top (Settle w) i job strand outs h = all
  at_top (Collect w) i job strand [] h = all
  at_top (Collect w) i job strand (n ∷ outs) h = collects w i n job strand outs (slice_get s.world.places n) h refl

  at_over : (event : Event) (i : ℕ) (e : Effect) → Ample e → AmpleWorld (does code false s event (Over i e)).world
  at_over (Run w) i e h = all
  at_over (Offer w) i e h = all
  at_over (Inline w) i e h = all
  at_over (Retake w) i e h = all
  at_over (Steal w v) i e h = steals w v (oldest (of_worker s.board.lists v))
  at_over (Settle w) i e h = set_ample s.world i (Settled e) all h
  at_over (Collect w) i e h = all

  at_idle : (event : Event) → AmpleWorld (does code false s event Idle).world
  at_idle (Run w) = all
  at_idle (Offer w) = all
  at_idle (Inline w) = all
  at_idle (Retake w) = all
  at_idle (Steal w v) = steals w v (oldest (of_worker s.board.lists v))
  at_idle (Settle w) = all
  at_idle (Collect w) = all

  performs : (w : ℕ) (event : Event) → AmpleWorld (does code false s event (top s w)).world
  performs w event = with_top s one w (λ t. AmpleWorld (does code false s event t).world) (at_idle event)
      (λ i job strand outs js at has. at_top event i job strand outs (all i (Runs w strand outs) has.place_is))
      (λ i e job js at has. at_over event i e (all i (Made w e) has.place_is))

  tries_ample : (event : Event) → AmpleWorld (tried code false s event).world
  tries_ample event = cases (is_possible s event)
    where
      cases : (b : Bool) → AmpleWorld (if b then perform code false s event else s).world
      cases true = performs _ event
      cases false = all

pub stays_ample : (code : Code) (events : List (Event × Bool)) (s : Sched) → is_short events ≡ false → OnePlace s → AmpleWorld s.world → AmpleWorld (world_run code events s).world
stays_ample code [] s h one all = all
stays_ample code ((event, false) ∷ events) s h one all = stays_ample code events (tried code false s event) h (tries code s one false event).one (tries_ample code s one all event)
stays_ample code ((event, true) ∷ events) s h one all = cc

pub starts_ample : (root : Job) (others : ℕ) → AmpleWorld (first_sched root others).world
starts_ample root others zero place at = subst AmplePlace (same_Some (Runs 0 (started root) []) place at) tt
starts_ample root others (suc n) place at = cc
