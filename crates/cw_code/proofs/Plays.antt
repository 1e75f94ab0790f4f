-- A list of events leads only to possible worlds.
use Rattle.std.proofs.Common.{◌≡◌, ℕ, List, [], ◌∷◌, Option, Some, None, refl, ap, subst}
use Rattle.std.specs.Prelude.{slice_get}
use Rattle.cw_code.specs.Code.{Code}
use Rattle.cw_code.specs.Jobs.{Job, Effect}
use Rattle.cw_code.specs.Strands.{Strand, Going, Waits, Halted}
use Rattle.cw_code.specs.Steps.{Advanced, Ran, Handed, AtSync, Finished, Unfit, advance}
use Rattle.cw_code.specs.Worlds.{Place, Undecided, Kept, Offered, Runs, Made, Settled, Spent, World, effect_in, Has, WorldStep, Run, Spawn, Offer as Offers, Inline as Inlines}
use Rattle.cw_code.specs.Worlds.{Begin as Begins, Skip as Skips, End, Settle as Settles, Give as Gives, Want as Wants, GiveUp as GivesUp, Resume as Resumes, After, Now, Later}
use Rattle.cw_code.specs.Events.{Event, Advance, Offer, Inline, Begin, Skip, Settle, Give, Want, GiveUp, TakeBack, advanced, skips}
use Rattle.cw_code.specs.Events.{takes_back, gives, with_job, at, happens, number_of, apply, and_apply, play, PlaysCome}

some_world : (a b : World) → Some a ≡ Some b → a ≡ b
some_world a b e = ap (λ o. elim o [ Some c ↦ c | None ↦ a ]) e

-- `None` is not `Some world`
absurd_none : {A : Type 0} (world : World) → None ≡ Some world → A
absurd_none world e = cc

with_has : {A : Type 0} (world : World) (i : ℕ) (go : Job → Place → Option World) (next : World) → at world i go ≡ Some next
    → ((job : Job) (place : Place) → Has world i job place → go job place ≡ Some next → A) → A
with_has {A} world i go next e k = cases (slice_get world.jobs i) (slice_get world.places i) refl refl e
  where
    cases : (j : Option Job) (p : Option Place) → slice_get world.jobs i ≡ j → slice_get world.places i ≡ p → with_job j p go ≡ Some next → A
    cases (Some job) (Some place) f g h = k job place (record { job_is = f; place_is = g }) h
    cases (Some job) None f g h = absurd_none next h
    cases None p f g h = absurd_none next h

module _ (code : Code) (world next : World) where
  moved : (next' : World) → next' ≡ next → WorldStep code world next' → WorldStep code world next
  moved next' e n = subst (λ w. WorldStep code world w) e n

  comes_by : (i worker : ℕ) (job : Job) (strand : Strand) (outs : List ℕ) → Has world i job (Runs worker strand outs)
      → advanced world i worker outs (advance code job strand) ≡ Some next → WorldStep code world next
  comes_by i worker job strand outs has e = cases (advance code job strand) refl e
    where
      cases : (a : Advanced) → advance code job strand ≡ a → advanced world i worker outs a ≡ Some next → WorldStep code world next
      cases (Ran new) f h = moved _ (some_world _ next h) (Run world i worker job strand new outs has f)
      cases (Handed out new) f h = moved _ (some_world _ next h) (Spawn world i worker job out strand new outs has f)
      cases AtSync f h = absurd_none next h
      cases (Finished e') f h = moved _ (some_world _ next h) (End world i worker job strand outs e' has f)
      cases Unfit f h = absurd_none next h

  comes_skip : (i n worker : ℕ) (job out : Job) (strand : Strand) (outs : List ℕ) (place : Place) → Has world i job (Runs worker strand (n ∷ outs))
      → Has world n out place → skips world i n worker strand outs place ≡ Some next → WorldStep code world next
  comes_skip i n worker job out (Halted e jobs) outs (Kept w) has has' h = moved _ (some_world _ next h) (Skips world i n worker job out (Halted e jobs) outs (Kept w) has tt has' tt)
  comes_skip i n worker job out (Halted e jobs) outs (Offered w) has has' h = moved _ (some_world _ next h) (Skips world i n worker job out (Halted e jobs) outs (Offered w) has tt has' tt)
  comes_skip i n worker job out (Halted e jobs) outs (Undecided w) has has' h = absurd_none next h
  comes_skip i n worker job out (Halted e jobs) outs (Runs w strand outs') has has' h = absurd_none next h
  comes_skip i n worker job out (Halted e jobs) outs (Made w e') has has' h = absurd_none next h
  comes_skip i n worker job out (Halted e jobs) outs (Settled e') has has' h = absurd_none next h
  comes_skip i n worker job out (Halted e jobs) outs Spent has has' h = absurd_none next h
  comes_skip i n worker job out (Going s count jobs) outs place has has' h = absurd_none next h
  comes_skip i n worker job out (Waits s count jobs) outs place has has' h = absurd_none next h

  comes_back : (i n worker : ℕ) (job out : Job) (strand : Strand) (outs : List ℕ) (place : Place) → Has world i job (Runs worker strand (n ∷ outs))
      → Has world n out place → takes_back world i n worker strand outs place ≡ Some next → WorldStep code world next
  comes_back i n worker job out (Waits s count jobs) outs (Kept w) has has' h = moved _ (some_world _ next h) (Resumes world i n worker job out (Waits s count jobs) outs (Kept w) has tt has' tt)
  comes_back i n worker job out (Waits s count jobs) outs (Offered w) has has' h = moved _ (some_world _ next h) (Resumes world i n worker job out (Waits s count jobs) outs (Offered w) has tt has' tt)
  comes_back i n worker job out (Waits s count jobs) outs (Undecided w) has has' h = absurd_none next h
  comes_back i n worker job out (Waits s count jobs) outs (Runs w strand outs') has has' h = absurd_none next h
  comes_back i n worker job out (Waits s count jobs) outs (Made w e') has has' h = absurd_none next h
  comes_back i n worker job out (Waits s count jobs) outs (Settled e') has has' h = absurd_none next h
  comes_back i n worker job out (Waits s count jobs) outs Spent has has' h = absurd_none next h
  comes_back i n worker job out (Going s count jobs) outs place has has' h = absurd_none next h
  comes_back i n worker job out (Halted e jobs) outs place has has' h = absurd_none next h

  comes_give : (i n worker : ℕ) (job out : Job) (strand : Strand) (outs : List ℕ) (place : Place) (o : Option Effect)
      → Has world i job (Runs worker strand (n ∷ outs)) → Has world n out place → effect_in place ≡ o
      → gives world i n worker job strand outs o ≡ Some next → WorldStep code world next
  comes_give i n worker job out (Waits s count jobs) outs place (Some e) has has' is h = moved _ (some_world _ next h) (Gives world i n worker job out (Waits s count jobs) outs place e has tt has' is)
  comes_give i n worker job out (Halted e' jobs) outs place (Some e) has has' is h = moved _ (some_world _ next h) (Gives world i n worker job out (Halted e' jobs) outs place e has tt has' is)
  comes_give i n worker job out (Going s count jobs) outs place (Some e) has has' is h = absurd_none next h
  comes_give i n worker job out (Waits s count jobs) outs place None has has' is h = absurd_none next h
  comes_give i n worker job out (Halted e' jobs) outs place None has has' is h = absurd_none next h
  comes_give i n worker job out (Going s count jobs) outs place None has has' is h = absurd_none next h

  comes : (event : Event) (job : Job) (place : Place) → Has world (number_of event) job place → happens code world event job place ≡ Some next → WorldStep code world next
  comes (Advance i) job (Runs worker strand outs) has h = comes_by i worker job strand outs has h
  comes (Offer i) job (Undecided worker) has h = moved _ (some_world _ next h) (Offers world i worker job has)
  comes (Inline i) job (Undecided worker) has h = moved _ (some_world _ next h) (Inlines world i worker job has)
  comes (Begin worker i) job (Kept w) has h = moved _ (some_world _ next h) (Begins world i worker job (Kept w) has tt)
  comes (Begin worker i) job (Offered w) has h = moved _ (some_world _ next h) (Begins world i worker job (Offered w) has tt)
  comes (Skip i) job (Runs worker strand (n ∷ outs)) has h = with_has world n _ next h (λ out place has' k. comes_skip i n worker job out strand outs place has has' k)
  comes (Settle i) job (Made worker e) has h = moved _ (some_world _ next h) (Settles world i worker job e has)
  comes (Give i) job (Runs worker strand (n ∷ outs)) has h = with_has world n _ next h (λ out place has' k. comes_give i n worker job out strand outs place (effect_in place) has has' refl k)
  comes (Want i) job (Runs worker strand outs) has h = moved _ (some_world _ next h) (Wants world i worker job strand outs has)
  comes (GiveUp worker i) job (Kept w) has h = moved _ (some_world _ next h) (GivesUp world i worker job (Kept w) has tt)
  comes (GiveUp worker i) job (Offered w) has h = moved _ (some_world _ next h) (GivesUp world i worker job (Offered w) has tt)
  comes (TakeBack i) job (Runs worker strand (n ∷ outs)) has h = with_has world n _ next h (λ out place has' k. comes_back i n worker job out strand outs place has has' k)
  comes _ job _ has h = absurd_none next h

  applied : (event : Event) → apply code world event ≡ Some next → WorldStep code world next
  applied event h = with_has world (number_of event) _ next h (λ job place has k. comes event job place has k)

pub plays_come : PlaysCome
plays_come code [] first world h = subst (λ w. After code first w) (some_world first world h) Now
plays_come code (event ∷ events) first world h = cases (play code events first) refl h (λ w e. plays_come code events first w e)
  where
    cases : (o : Option World) → play code events first ≡ o → and_apply code event o ≡ Some world → ((w : World) → play code events first ≡ Some w → After code first w) → After code first world
    cases None f k more = absurd_none world k
    cases (Some w) f k more = Later w world (more w f) (applied code w world event k)
