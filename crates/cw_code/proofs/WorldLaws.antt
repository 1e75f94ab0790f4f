-- Each event preserves the invariant of each job's place.
use Rattle.std.proofs.Common.{◌≡◌, ℕ, zero, suc, ◌+◌, ◌≤◌, List, [], ◌∷◌, ◌++◌, Option, Some, None, refl, sym, ap, ◌∙◌, subst, inl, inr, arith, length, length-append}
use Rattle.std.proofs.lemmas.List.{length-set}
use Rattle.std.proofs.lemmas.Option.{slice_get_within}
use Rattle.std.specs.Prelude.{slice_get}
use Rattle.cw_facts.specs.Lists.{set_gives, added_gives, get_before, get_last}
use Rattle.cw_code.specs.Code.{Code}
use Rattle.cw_code.specs.Jobs.{Job, root_job, Effect, Memory, JobMeaning, Short}
use Rattle.cw_code.specs.Strands.{Strand, Going, Waits, Halted, outs_of}
use Rattle.cw_code.specs.Promises.{IsStrandOf}
use Rattle.cw_code.specs.Steps.{started, give, skip, take_back, out_of_memory, WaitsFor, AdvancePreservesJob}
use Rattle.cw_code.specs.Worlds.{Place, Undecided, Kept, Offered, Runs, Made, Settled, Spent, World, IsUnrun, effect_in, HasStopped, HasEnded, IsWaiting, placed, joined_by, Has, WorldStep, Run}
use Rattle.cw_code.specs.Worlds.{Spawn, Offer, Inline, Begin, Skip, Resume, End, Settle, Give, Want, GiveUp, After, Now, Later, world_of, WorldsAreSerial, EffectsMean}
use Rattle.cw_code.proofs.Calls.{calls_keep}
use Rattle.cw_code.proofs.Schedules.{root_serial}

module _ {A : Type 0} where
  pub one_there : (o : Option A) (x y : A) → o ≡ Some x → o ≡ Some y → x ≡ y
  one_there o x y e f = ap (λ p. elim p [ Some c ↦ c | None ↦ x ]) (sym e ∙ f)

-- the jobs with these numbers
abbrev pub Named : List Job → List ℕ → List Job → Type 0
Named jobs [] [] = Unit {0}
Named jobs [] (out ∷ outs) = ⊥
Named jobs (n ∷ numbers) [] = ⊥
Named jobs (n ∷ numbers) (out ∷ outs) = (slice_get jobs n ≡ Some out) × Named jobs numbers outs

named_on : (jobs : List Job) (job : Job) (numbers : List ℕ) (outs : List Job) → Named jobs numbers outs → Named (jobs ++ job ∷ []) numbers outs
named_on jobs job [] [] h = tt
named_on jobs job [] (out ∷ outs) h = h
named_on jobs job (n ∷ numbers) [] h = h
named_on jobs job (n ∷ numbers) (out ∷ outs) h = (get_before jobs job n out h.0, named_on jobs job numbers outs h.1)

-- the invariant of a job at its place
abbrev pub PlaceOk : Code → List Job → Job → Place → Type 0
PlaceOk code jobs job (Runs worker strand numbers) = IsStrandOf code job strand × Named jobs numbers (outs_of strand)
PlaceOk code jobs job (Made worker e) = JobMeaning code job e
PlaceOk code jobs job (Settled e) = JobMeaning code job e
PlaceOk code jobs job (Undecided worker) = job.before ≤ job.limit
PlaceOk code jobs job (Kept worker) = job.before ≤ job.limit
PlaceOk code jobs job (Offered worker) = job.before ≤ job.limit
PlaceOk code jobs job Spent = Unit {0}

place_on : (code : Code) (jobs : List Job) (new job : Job) (place : Place) → PlaceOk code jobs job place → PlaceOk code (jobs ++ new ∷ []) job place
place_on code jobs new job (Runs worker strand numbers) h = (h.0, named_on jobs new numbers (outs_of strand) h.1)
place_on code jobs new job (Made worker e) h = h
place_on code jobs new job (Settled e) h = h
place_on code jobs new job (Undecided worker) h = h
place_on code jobs new job (Kept worker) h = h
place_on code jobs new job (Offered worker) h = h
place_on code jobs new job Spent h = h

pub record WorldOk (code : Code) (world : World) : Type 0 where
  pub even : length world.jobs ≡ length world.places
  pub each : (i : ℕ) (job : Job) (place : Place) → Has world i job place → PlaceOk code world.jobs job place

-- a strand waits for the first job out
pub waits_for : (strand : Strand) (out : Job) (outs : List Job) → IsWaiting strand → outs_of strand ≡ out ∷ outs → WaitsFor strand out outs
waits_for (Going s count os) out outs w same = absurd w
waits_for (Waits s count os) out outs w same = same
waits_for (Halted e os) out outs w same = same

module _ (code : Code) where
  place_ok : (world : World) (i : ℕ) (job : Job) (place new : Place) → WorldOk code world → Has world i job place → PlaceOk code world.jobs job new → WorldOk code (placed world i new)
  place_ok world i job place new ok has h = record {
    even = ok.even ∙ sym (length-set world.places i new);
    each = λ k job' place' has'. elim (set_gives world.places i k new place' has'.place_is) [
      | inl p ↦
          subst (λ pl. PlaceOk code world.jobs job' pl) (sym p.1)
          (subst (λ j. PlaceOk code world.jobs j new) (one_there (slice_get world.jobs i) job job' has.job_is (ap (slice_get world.jobs) (sym p.0) ∙ has'.job_is)) h)
      | inr p ↦ ok.each k job' place' (record { job_is = has'.job_is; place_is = p })
    ];
  }

  spent_ok : (world : World) (n : ℕ) → WorldOk code world → WorldOk code (placed world n Spent)
  spent_ok world n ok = record {
    even = ok.even ∙ sym (length-set world.places n Spent);
    each = λ k job place has. elim (set_gives world.places n k Spent place has.place_is) [
      | inl p ↦ subst (λ pl. PlaceOk code world.jobs job pl) (sym p.1) tt
      | inr p ↦ ok.each k job place (record { job_is = has.job_is; place_is = p })
    ];
  }

  -- a place is set, whatever it was before
  set_ok : (world : World) (i : ℕ) (job : Job) (new : Place) → WorldOk code world → slice_get world.jobs i ≡ Some job → PlaceOk code world.jobs job new → WorldOk code (placed world i new)
  set_ok world i job new ok is h = record {
    even = ok.even ∙ sym (length-set world.places i new);
    each = λ k job' place' has'. elim (set_gives world.places i k new place' has'.place_is) [
      | inl p ↦
          subst (λ pl. PlaceOk code world.jobs job' pl) (sym p.1)
          (subst (λ j. PlaceOk code world.jobs j new) (one_there (slice_get world.jobs i) job job' is (ap (slice_get world.jobs) (sym p.0) ∙ has'.job_is)) h)
      | inr p ↦ ok.each k job' place' (record { job_is = has'.job_is; place_is = p })
    ];
  }

  add_ok : (world : World) (job : Job) (place : Place) → WorldOk code world → PlaceOk code (world.jobs ++ job ∷ []) job place → WorldOk code (joined_by world job place)
  add_ok world job place ok h = record {
    even = length-append world.jobs (job ∷ []) ∙ ap (λ n. n + 1) ok.even ∙ sym (length-append world.places (place ∷ []));
    each = λ k job' place' has'. elim (added_gives world.places k place place' has'.place_is) [
      | inl p ↦
          subst (λ pl. PlaceOk code (world.jobs ++ job ∷ []) job' pl) (sym p.1)
          (subst (λ j. PlaceOk code (world.jobs ++ job ∷ []) j place)
          (one_there (slice_get (world.jobs ++ job ∷ []) (length world.jobs)) job job' (get_last world.jobs job) (ap (slice_get (world.jobs ++ job ∷ [])) (ok.even ∙ sym p.0) ∙ has'.job_is)) h)
      | inr p ↦ old k job' place' has'.job_is p
    ];
  }
    where
      old : (k : ℕ) (job' : Job) (place' : Place) → slice_get (world.jobs ++ job ∷ []) k ≡ Some job' → slice_get world.places k ≡ Some place' → PlaceOk code (world.jobs ++ job ∷ []) job' place'
      old k job' place' is at = elim (added_gives world.jobs k job job' is) [
        | inl p ↦ absurd (let lt = slice_get_within world.places k place' at in let even = ok.even in let same = p.0 in omega (arith, lt, even, same))
        | inr p ↦ place_on code world.jobs job job' place' (ok.each k job' place' (record { job_is = p; place_is = at }))
      ]

  strand_in : (world : World) (i worker : ℕ) (job : Job) (strand : Strand) (numbers : List ℕ) → WorldOk code world
      → Has world i job (Runs worker strand numbers) → IsStrandOf code job strand × Named world.jobs numbers (outs_of strand)
  strand_in world i worker job strand numbers ok has = ok.each i job (Runs worker strand numbers) has

  may_begin : (jobs : List Job) (job : Job) (place : Place) → IsUnrun place → PlaceOk code jobs job place → job.before ≤ job.limit
  may_begin jobs job (Undecided worker) u h = absurd u
  may_begin jobs job (Kept worker) u h = h
  may_begin jobs job (Offered worker) u h = h
  may_begin jobs job (Runs worker strand numbers) u h = absurd u
  may_begin jobs job (Made worker e) u h = absurd u
  may_begin jobs job (Settled e) u h = absurd u
  may_begin jobs job Spent u h = absurd u

  pub effect_means : (jobs : List Job) (job : Job) (place : Place) (e : Effect) → effect_in place ≡ Some e → PlaceOk code jobs job place → JobMeaning code job e
  effect_means jobs job (Undecided worker) e is h = cc
  effect_means jobs job (Kept worker) e is h = cc
  effect_means jobs job (Offered worker) e is h = cc
  effect_means jobs job (Runs worker strand numbers) e is h = cc
  effect_means jobs job (Made worker e') e is h = subst (JobMeaning code job) (one_there (Some e') e' e refl is) h
  effect_means jobs job (Settled e') e is h = subst (JobMeaning code job) (one_there (Some e') e' e refl is) h
  effect_means jobs job Spent e is h = cc

  skipped : (jobs : List Job) (job : Job) (worker n : ℕ) (numbers : List ℕ) (strand : Strand) → HasStopped strand → IsStrandOf code job strand × Named jobs (n ∷ numbers) (outs_of strand)
      → PlaceOk code jobs job (Runs worker (skip strand) numbers)
  skipped jobs job worker n numbers (Going s count outs) stopped h = absurd stopped
  skipped jobs job worker n numbers (Waits s count outs) stopped h = absurd stopped
  skipped jobs job worker n numbers (Halted e []) stopped h = absurd h.1
  skipped jobs job worker n numbers (Halted e (out ∷ outs)) stopped h = (h.0, h.1.1)

  took_back : (jobs : List Job) (job : Job) (worker n : ℕ) (numbers : List ℕ) (strand : Strand) → HasEnded strand → IsStrandOf code job strand × Named jobs (n ∷ numbers) (outs_of strand)
      → PlaceOk code jobs job (Runs worker (take_back strand) numbers)
  took_back jobs job worker n numbers (Going s count outs) ended h = absurd ended
  took_back jobs job worker n numbers (Waits s count []) ended h = absurd h.1
  took_back jobs job worker n numbers (Waits s count (out ∷ outs)) ended h = ((calls_keep code).taking_back job (Waits s count (out ∷ outs)) h.0, h.1.1)
  took_back jobs job worker n numbers (Halted e outs) ended h = absurd ended

  given : (jobs : List Job) (job out : Job) (worker n : ℕ) (numbers : List ℕ) (strand : Strand) (e : Effect) → IsWaiting strand → slice_get jobs n ≡ Some out → JobMeaning code out e
      → IsStrandOf code job strand × Named jobs (n ∷ numbers) (outs_of strand) → PlaceOk code jobs job (Runs worker (give job strand e) numbers)
  given jobs job out worker n numbers strand e waits is means h = newest (outs_of strand) refl h.1
    where
      newest : (os : List Job) → outs_of strand ≡ os → Named jobs (n ∷ numbers) os → PlaceOk code jobs job (Runs worker (give job strand e) numbers)
      newest [] same k = absurd k
      newest (out' ∷ outs) same k =
          let kept = (calls_keep code).giving job strand out' outs e h.0 (waits_for strand out' outs waits same)
          (subst (λ j. JobMeaning code j e) (one_there (slice_get jobs n) out out' is k.0) means) in
          (kept.0, subst (λ l. Named jobs numbers l) (sym kept.1) k.1)

  pub next_ok : (world next : World) → WorldStep code world next → WorldOk code world → WorldOk code next
  next_ok world next (Run _ i worker job strand new numbers has same) ok =
      let now = strand_in world i worker job strand numbers ok has in
      let kept = subst (AdvancePreservesJob code job strand) same ((calls_keep code).advancing job strand now.0) in
      place_ok world i job (Runs worker strand numbers) (Runs worker new numbers) ok has (kept.0, subst (λ l. Named world.jobs numbers l) (sym kept.1) now.1)
  next_ok world next (Spawn _ i worker job out strand new numbers has same) ok =
      let now = strand_in world i worker job strand numbers ok has in
      let kept = subst (AdvancePreservesJob code job strand) same ((calls_keep code).advancing job strand now.0) in
      let jobs = world.jobs ++ out ∷ [] in
      let named : Named jobs (length world.jobs ∷ numbers) (out ∷ outs_of strand) = (get_last world.jobs out, named_on world.jobs out numbers (outs_of strand) now.1) in
      set_ok (joined_by world out (Undecided worker)) i job (Runs worker new (length world.jobs ∷ numbers)) (add_ok world out (Undecided worker) ok kept.2)
      (get_before world.jobs out i job has.job_is) (kept.0, subst (λ l. Named jobs (length world.jobs ∷ numbers) l) (sym kept.1) named)
  next_ok world next (Offer _ i worker job has) ok = place_ok world i job (Undecided worker) (Offered worker) ok has (ok.each i job (Undecided worker) has)
  next_ok world next (Inline _ i worker job has) ok = place_ok world i job (Undecided worker) (Kept worker) ok has (ok.each i job (Undecided worker) has)
  next_ok world next (Begin _ i worker job place has unrun) ok =
      place_ok world i job place (Runs worker (started job) []) ok has ((calls_keep code).starting job (may_begin world.jobs job place unrun (ok.each i job place has)), tt)
  next_ok world next (Skip _ i n worker job out strand numbers place has stopped has' unrun) ok =
      set_ok (placed world n Spent) i job (Runs worker (skip strand) numbers) (spent_ok world n ok) has.job_is
      (skipped world.jobs job worker n numbers strand stopped (strand_in world i worker job strand (n ∷ numbers) ok has))
  next_ok world next (Resume _ i n worker job out strand numbers place has ended has' unrun) ok =
      set_ok (placed world n Spent) i job (Runs worker (take_back strand) numbers) (spent_ok world n ok) has.job_is
      (took_back world.jobs job worker n numbers strand ended (strand_in world i worker job strand (n ∷ numbers) ok has))
  next_ok world next (End _ i worker job strand numbers e has same) ok =
      let now = strand_in world i worker job strand numbers ok has in
      place_ok world i job (Runs worker strand numbers) (Made worker e) ok has (subst (AdvancePreservesJob code job strand) same ((calls_keep code).advancing job strand now.0))
  next_ok world next (Settle _ i worker job e has) ok = place_ok world i job (Made worker e) (Settled e) ok has (ok.each i job (Made worker e) has)
  next_ok world next (Give _ i n worker job out strand numbers place e has waits has' is) ok =
      set_ok (placed world n Spent) i job (Runs worker (give job strand e) numbers) (spent_ok world n ok) has.job_is
      (given world.jobs job out worker n numbers strand e waits has'.job_is (effect_means world.jobs out place e is (ok.each n out place has'))
      (strand_in world i worker job strand (n ∷ numbers) ok has))
  next_ok world next (Want _ i worker job strand numbers has) ok =
      let now = strand_in world i worker job strand numbers ok has in
      place_ok world i job (Runs worker strand numbers) (Runs worker (out_of_memory strand) numbers) ok has ((calls_keep code).wanting job strand now.0, now.1)
  next_ok world next (GiveUp _ i worker job place has unrun) ok = place_ok world i job place (Made worker Memory) ok has (Short refl)

  -- a number keeps its job
  next_same : (world next : World) (k : ℕ) (job : Job) → WorldStep code world next → slice_get world.jobs k ≡ Some job → slice_get next.jobs k ≡ Some job
  next_same world next k job (Run _ i worker job' strand new numbers has same) h = h
  next_same world next k job (Spawn _ i worker job' out strand new numbers has same) h = get_before world.jobs out k job h
  next_same world next k job (Offer _ i worker job' has) h = h
  next_same world next k job (Inline _ i worker job' has) h = h
  next_same world next k job (Begin _ i worker job' place has unrun) h = h
  next_same world next k job (Skip _ i n worker job' out strand numbers place has stopped has' unrun) h = h
  next_same world next k job (Resume _ i n worker job' out strand numbers place has ended has' unrun) h = h
  next_same world next k job (End _ i worker job' strand numbers e has same) h = h
  next_same world next k job (Settle _ i worker job' e has) h = h
  next_same world next k job (Give _ i n worker job' out strand numbers place e has waits has' is) h = h
  next_same world next k job (Want _ i worker job' strand numbers has) h = h
  next_same world next k job (GiveUp _ i worker job' place has unrun) h = h

  pub begins_ok : (job : Job) → job.before ≤ job.limit → WorldOk code (world_of job)
  begins_ok job le = record {
    even = refl;
    each = λ k job' place has. first k job' place has.job_is has.place_is;
  }
    where
      first : (k : ℕ) (job' : Job) (place : Place) → slice_get (job ∷ []) k ≡ Some job' → slice_get (Runs 0 (started job) [] ∷ []) k ≡ Some place → PlaceOk code (job ∷ []) job' place
      first zero job' place is at =
          subst (λ p. PlaceOk code (job ∷ []) job' p) (one_there (Some (Runs 0 (started job) [])) (Runs 0 (started job) []) place refl at)
          (subst (λ j. PlaceOk code (job ∷ []) j (Runs 0 (started job) [])) (one_there (Some job) job job' refl is) ((calls_keep code).starting job le, tt))
      first (suc k) job' place is at = cc

  after_ok : (job : Job) (world : World) → job.before ≤ job.limit → After code (world_of job) world → WorldOk code world × (slice_get world.jobs 0 ≡ Some job)
  after_ok job world le Now = (begins_ok job le, refl)
  after_ok job world le (Later world' _ after next) =
      let before = after_ok job world' le after in
      (next_ok world' world next before.0, next_same world' world 0 job next before.1)

pub worlds_are_serial : WorldsAreSerial
worlds_are_serial code f args limit world place e first after at is =
    let root = root_job f args limit in
    let ok = after_ok code root world (omega arith) after in
    root_serial code f args limit e first (effect_means code world.jobs root place e is (ok.0.each 0 root place (record { job_is = ok.1; place_is = at })))

pub effects_mean : EffectsMean
effects_mean code root world i job place e le after has is = effect_means code world.jobs job place e is ((after_ok code root world le after).0.each i job place has)
