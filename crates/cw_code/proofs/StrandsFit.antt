-- In well-formed code, no strand of any world gets stuck.
use Rattle.std.proofs.Common.{◌≡◌, ℕ, zero, suc, ◌+◌, ◌≤◌, ℤ, Bool, true, false, ◌&&◌, nat_lt, if◌then◌else◌, Option, Some, List, [], ◌∷◌, ◌++◌, length, refl, sym, ap, ◌∙◌, subst, inl, inr, arith}
use Rattle.std.proofs.lemmas.Option.{slice_get_within}
use Rattle.std.specs.Prelude.{slice_get}
use Rattle.cw_facts.specs.Lists.{set_gives, added_gives, get_before, get_last}
use Rattle.cw_model.specs.declared.syntax.CallKind.{CallKind}
use Rattle.cw_model.specs.declared.syntax.CallKind.TheVariants.{Plain, Spawned}
use Rattle.cw_model.specs.Outcome.{Trace, quiet, joined}
use Rattle.cw_code.specs.declared.code.Func.{Func}
use Rattle.cw_code.specs.declared.code.Instr.{Instr}
use Rattle.cw_code.specs.Code.{Code}
use Rattle.cw_code.specs.Fits.{array_params_of, readers_of, Shape, Fits}
use Rattle.cw_code.specs.Run.{Slots, Around, Caller, Block, State, Transition, On, Ends, Stops, Stuck, synced, settled, Entering, begun, back, act, step}
use Rattle.cw_code.specs.Good.{Good, GoodState, FitBegins, FitSteps, FitSettles}
use Rattle.cw_code.specs.lemmas.Runs.{same_state}
use Rattle.cw_code.specs.Jobs.{Extent, WholeCall, ToJoin, joins, is_first, has_come, standing, Job, job_start, course, root_job, Effect, Ended, Joined, TrapIn, OverLimit, Memory, JobMeaning}
use Rattle.cw_code.specs.Strands.{Strand, Going, Waits, Halted, outs_of, rest_at, Turn, turn_back, turn_in, turn_call, turn_of, turn, cost_of}
use Rattle.cw_code.specs.Promises.{IsOutHere, Outs, OutsHere, IsStrandOf}
use Rattle.cw_code.specs.Steps.{started, Advanced, Ran as Instruction, Handed, AtSync, Finished, Unfit, finished, turned}
use Rattle.cw_code.specs.Steps.{went_on, advance, given_to, give, skip, take_back, out_of_memory, WaitsFor}
use Rattle.cw_code.specs.Worlds.{Place, Undecided, Kept, Offered, Runs, Made, Settled, Spent, World, IsUnrun, IsWaiting, placed, joined_by, Has, WorldStep, Run, Spawn}
use Rattle.cw_code.specs.Worlds.{Offer, Inline, Begin, Skip, Resume, End, Settle, Give, Want, GiveUp, After, Now, Later, world_of, NoneIsUnfit}
use Rattle.cw_code.specs.lemmas.StrandActs.{acts_by}
use Rattle.cw_code.specs.lemmas.Rests.{GoesOn, act_goes}
use Rattle.cw_code.proofs.Budgets.{meaning_stands}
use Rattle.cw_code.specs.lemmas.JobsFit.{Base, Alone, Upon, lifted, LiftedTransition, lifted_step, FitJob, hands_fit, arrived, gives_fit}
use Rattle.cw_code.specs.Over.{under}
use Rattle.cw_code.proofs.WorldLaws.{one_there, Named, WorldOk, next_ok, begins_ok, effect_means, waits_for}

abbrev GoesNowhere : Transition → Type 0
GoesNowhere (On s) = ⊥
GoesNowhere (Ends v arrays t) = Unit {0}
GoesNowhere (Stops trap line lines) = Unit {0}
GoesNowhere Stuck = Unit {0}

module _ (code : Code) (fits : Fits code) (steps_well : FitSteps code fits) (settles : FitSettles) (begins : FitBegins code fits) where
  -- the state of a strand, placed over the base of its job, is good
  abbrev FitStrand : {x : Extent} → Base x → Strand → Type 0
  FitStrand base (Going s count outs) = GoodState code fits (lifted base s)
  FitStrand base (Waits s count outs) = GoodState code fits (lifted base s)
  FitStrand base (Halted e outs) = Unit {0}

  abbrev FitAdvanced : {x : Extent} → Base x → Advanced → Type 0
  FitAdvanced base (Instruction new) = FitStrand base new
  FitAdvanced base (Handed out new) = FitJob code fits steps_well settles out × FitStrand base new
  FitAdvanced base AtSync = Unit {0}
  FitAdvanced base (Finished e) = Unit {0}
  FitAdvanced base Unfit = ⊥

  none_out : (limit bound : ℕ) (around : List Around) (j : Bool) (outs : List Job) → (is_first around && j) ≡ true → Outs limit bound around outs → outs ≡ []
  none_out limit bound [] j [] h k = refl
  none_out limit bound [] j (out ∷ outs) h k = absurd k
  none_out limit bound (a ∷ around) j outs h k = cc

  module _ (job : Job) (base : Base job.extent) where
    finishes : (outs : List Job) (e : Effect) → outs ≡ [] → FitAdvanced base (finished outs e)
    finishes outs e none = subst (λ os. FitAdvanced base (finished os e)) (sym none) tt

    -- the state after a step of a strand is good
    abbrev FitTurn : (from : State) (count : ℕ) → List Job → Turn → Transition → Type 0
    FitTurn from count outs turn w = (to : State) → w ≡ On to → GoodState code fits (lifted base to) → FitAdvanced base (turned turn from to job.limit job.before (count + 1) outs)

    advance_fits : (strand : Strand) → IsStrandOf code job strand → FitStrand base strand → FitAdvanced base (advance code job strand)
    advance_fits (Waits s count outs) h good = tt
    advance_fits (Halted e []) h good = tt
    advance_fits (Halted e (out ∷ outs)) h good = tt
    advance_fits (Going s count outs) h good = come (has_come job.extent code s) refl
      where
        here_none : (x : Extent) → has_come x code s ≡ true → outs ≡ []
        here_none WholeCall c = cc
        here_none ToJoin c = none_out job.limit (job.before + count) s.around (joins (slice_get code.instrs s.place)) outs c h.2

        end_none : (v : Option ℤ) (arrays : Slots (List ℤ)) (t : Trace) → step code s ≡ Ends v arrays t → outs ≡ []
        end_none v arrays t e = first (is_first s.around && joins (slice_get code.instrs s.place)) refl
          where
            first : (b : Bool) → (is_first s.around && joins (slice_get code.instrs s.place)) ≡ b → outs ≡ []
            first true c = none_out job.limit (job.before + count) s.around (joins (slice_get code.instrs s.place)) outs c h.2
            first false c = absurd (subst GoesOn e (act_goes code s (slice_get code.instrs s.place) c))

        not_on : (turn : Turn) (w : Transition) → GoesNowhere w → FitTurn s count outs turn w
        not_on turn (On s2) h s' e g = absurd h
        not_on turn (Ends v arrays t) h s' e g = cc
        not_on turn (Stops trap line lines) h s' e g = cc
        not_on turn Stuck h s' e g = cc

        enters : (e : Entering) → FitTurn s count outs (turn_call e.kind e.target e.taken) (On (begun s e))
        enters e = cases e.kind refl
          where
            cases : (kind : CallKind) → e.kind ≡ kind → FitTurn s count outs (turn_call kind e.target e.taken) (On (begun s e))
            cases Plain k s' same g = g
            cases Spawned k s' same g = (
              hands_fit code fits steps_well settles job.extent base s e job.limit (job.before + (count + 1)) k
                  (subst (λ (s2 : State). GoodState code fits (lifted base s2)) (same_state s' (begun s e) (sym same)) g),
              g,
            )

        returns : (around : List Around) (w : Transition) → FitTurn s count outs (turn_in around) w
        returns [] w s' e g = g
        returns (Block o ∷ around) w s' e g = g
        returns (Caller w' ∷ around) w s' e g = by_kind w'.kind
          where
            by_kind : (kind : CallKind) → FitAdvanced base (turned (turn_back kind) s s' job.limit job.before (count + 1) outs)
            by_kind Plain = g
            by_kind Spawned = g

        turns : (o : Option Instr) → FitTurn s count outs (turn_of code o s.around) (act code s o)
        turns o = acts_by code s (λ j turn w. FitTurn s count outs turn w) (record {
          stuck = λ j turn. not_on turn Stuck tt;
          stops = λ j turn trap line lines. not_on turn (Stops trap line lines) tt;
          local = λ place operands slots arrays lines updates s' e g. g;
          enters = enters;
          opens = λ operands arrays tag cut s' e g. g;
          syncs = λ s' e g. g;
          leaves = λ arrays o around e s' e' g. g;
          returns = λ v. returns s.around (back s.around v (settled s.arrived s.arrays) (synced s.trace));
        }) o

        moves : (w : Transition) → step code s ≡ w → LiftedTransition code fits steps_well settles base w → FitAdvanced base (went_on (turn code s) s w job.limit job.before (count + 1) outs)
        moves (On s') e g = turns (slice_get code.instrs s.place) s' e g
        moves (Ends v arrays t) e g = finishes outs (Ended v arrays t (count + 1)) (end_none v arrays t e)
        moves (Stops trap line lines) e g = tt
        moves Stuck e g = g

        test : (b : Bool) → has_come job.extent code s ≡ false → FitAdvanced base
            (if b then Instruction (Halted OverLimit outs) else went_on (turn code s) s (step code s) job.limit job.before (count + 1) outs)
        test true c = tt
        test false c = moves (step code s) refl (lifted_step code fits steps_well settles job.extent base s c good)

        come : (b : Bool) → has_come job.extent code s ≡ b
            → FitAdvanced base (if b then finished outs (Joined (standing s) s.trace count)
            else (if nat_lt job.limit (job.before + (count + 1)) then Instruction (Halted OverLimit outs) else went_on (turn code s) s (step code s) job.limit job.before (count + 1) outs))
        come true c = finishes outs (Joined (standing s) s.trace count) (here_none job.extent c)
        come false c = test (nat_lt job.limit (job.before + (count + 1))) c

    out_alone : (s : State) (f : Func) (shape : Shape) → s.operands ≡ [] → Good f shape s → Good f shape (record s { operands = []; trace = joined s.trace quiet })
    out_alone s f shape none h =
        let k = subst (λ ops. Good f shape (record s { operands = ops })) none h in
        record { as_many = k.as_many; ints = k.ints; arrays = k.arrays; readers = k.readers; cuts = k.cuts }

    out_starts : (x : Extent) (b : Base x) (s : State) (limit before : ℕ) → s.operands ≡ [] → GoodState code fits (lifted b s)
        → GoodState code fits (under (lifted b s) (job_start (rest_at s limit before)))
    out_starts x Alone s limit before none g = record { seat = g.seat; call = out_alone s g.seat.func g.seat.shape none g.call; others = g.others }
    out_starts x (Upon b) s limit before none g = record { seat = g.seat; call = out_alone (under b s) g.seat.func g.seat.shape none g.call; others = g.others }

    give_fits : (strand : Strand) (out : Job) (others : List Job) (e : Effect) → IsStrandOf code job strand → WaitsFor strand out others
        → JobMeaning code out e → FitStrand base strand → FitStrand base (give job strand e)
    give_fits (Going s count outs) out others e h w m g = absurd w
    give_fits (Halted e' outs) out others e h w m g = halted outs
      where
        halted : (os : List Job) → FitStrand base (give job (Halted e' os) e)
        halted [] = tt
        halted (o ∷ os) = tt
    give_fits (Waits s count outs) out others e h w m g =
        subst (λ os. FitStrand base (give job (Waits s count os) e)) (sym w)
        (test (nat_lt job.limit (job.before + (count + cost_of e))) (subst (λ os. OutsHere job.limit (job.before + count) s os) w h.2))
      where
        given : (f : Effect) → JobMeaning code out f → IsOutHere job.limit (job.before + count) s out → FitStrand base (given_to s count others f)
        given (Joined frame t cost) n k =
            let stands = meaning_stands code out (Joined frame t cost) n in
            gives_fit code fits steps_well settles job.extent base s frame t g
            (arrived code fits steps_well settles (lifted base s) (cost + 0) (job_start (rest_at s job.limit out.before)) frame t 0 (out_starts job.extent base s job.limit out.before k.none g)
            (ap (λ (j : Job). course code j (cost + 0)) (sym k.same) ∙ stands.next 0))
        given (Ended v arrays t cost) n k = tt
        given (TrapIn trap line lines cost) n k = tt
        given OverLimit n k = tt
        given Memory n k = tt

        test : (b : Bool) → OutsHere job.limit (job.before + count) s (out ∷ others) → FitStrand base (if b then Halted OverLimit others else given_to s count others e)
        test true k = tt
        test false k = given e m k.0

    skip_fits : (strand : Strand) → FitStrand base strand → FitStrand base (skip strand)
    skip_fits (Going s count outs) g = g
    skip_fits (Waits s count outs) g = g
    skip_fits (Halted e []) g = g
    skip_fits (Halted e (out ∷ outs)) g = g

    take_back_fits : (strand : Strand) → FitStrand base strand → FitStrand base (take_back strand)
    take_back_fits (Going s count outs) g = g
    take_back_fits (Waits s count []) g = g
    take_back_fits (Waits s count (out ∷ outs)) g = g
    take_back_fits (Halted e outs) g = g

  -- a job is good at its place
  record FitRun (job : Job) (strand : Strand) : Type 0 where
    pub base : Base job.extent
    pub fit : FitStrand base strand

  abbrev PlaceFit : Job → Place → Type 0
  PlaceFit job (Undecided worker) = FitJob code fits steps_well settles job
  PlaceFit job (Kept worker) = FitJob code fits steps_well settles job
  PlaceFit job (Offered worker) = FitJob code fits steps_well settles job
  PlaceFit job (Runs worker strand numbers) = FitRun job strand
  PlaceFit job (Made worker e) = Unit {0}
  PlaceFit job (Settled e) = Unit {0}
  PlaceFit job Spent = Unit {0}

  abbrev WorldFit : World → Type 0
  WorldFit world = (i : ℕ) (job : Job) (place : Place) → Has world i job place → PlaceFit job place

  set_fit : (world : World) (i : ℕ) (job : Job) (new : Place) → WorldFit world → slice_get world.jobs i ≡ Some job → PlaceFit job new → WorldFit (placed world i new)
  set_fit world i job new fit is h k job' place' has' = elim (set_gives world.places i k new place' has'.place_is) [
    | inl p ↦
        subst (λ pl. PlaceFit job' pl) (sym p.1)
        (subst (λ j. PlaceFit j new) (one_there (slice_get world.jobs i) job job' is (ap (slice_get world.jobs) (sym p.0) ∙ has'.job_is)) h)
    | inr p ↦ fit k job' place' (record { job_is = has'.job_is; place_is = p })
  ]

  spent_fit : (world : World) (n : ℕ) → WorldFit world → WorldFit (placed world n Spent)
  spent_fit world n fit k job' place' has' = elim (set_gives world.places n k Spent place' has'.place_is) [
    | inl p ↦ subst (λ pl. PlaceFit job' pl) (sym p.1) tt
    | inr p ↦ fit k job' place' (record { job_is = has'.job_is; place_is = p })
  ]

  add_fit : (world : World) (job : Job) (place : Place) → length world.jobs ≡ length world.places → WorldFit world → PlaceFit job place → WorldFit (joined_by world job place)
  add_fit world job place even fit h k job' place' has' = elim (added_gives world.places k place place' has'.place_is) [
    | inl p ↦
        subst (λ pl. PlaceFit job' pl) (sym p.1)
        (subst (λ j. PlaceFit j place)
        (one_there (slice_get (world.jobs ++ job ∷ []) (length world.jobs)) job job' (get_last world.jobs job) (ap (slice_get (world.jobs ++ job ∷ [])) (even ∙ sym p.0) ∙ has'.job_is)) h)
    | inr p ↦ elim (added_gives world.jobs k job job' has'.job_is) [
      | inl q ↦ absurd (let lt = slice_get_within world.places k place' p in let same = q.0 in omega (arith, lt, even, same))
      | inr q ↦ fit k job' place' (record { job_is = q; place_is = p })
    ]
  ]

  start_fits : (job : Job) → FitJob code fits steps_well settles job → FitRun job (started job)
  start_fits job h = record { base = h.base; fit = h.good }

  unrun_fits : (job : Job) (place : Place) → IsUnrun place → PlaceFit job place → FitJob code fits steps_well settles job
  unrun_fits job (Undecided worker) u h = absurd u
  unrun_fits job (Kept worker) u h = h
  unrun_fits job (Offered worker) u h = h
  unrun_fits job (Runs worker strand numbers) u h = absurd u
  unrun_fits job (Made worker e) u h = absurd u
  unrun_fits job (Settled e) u h = absurd u
  unrun_fits job Spent u h = absurd u

  advanced : (job : Job) (strand : Strand) (ran : Advanced) (h : FitRun job strand) → IsStrandOf code job strand → advance code job strand ≡ ran → FitAdvanced h.base ran
  advanced job strand ran h ok e = subst (λ r. FitAdvanced h.base r) e (advance_fits job h.base strand ok h.fit)

  gave : (jobs : List Job) (job out : Job) (n : ℕ) (numbers : List ℕ) (strand : Strand) (e : Effect) → IsWaiting strand → slice_get jobs n ≡ Some out → JobMeaning code out e
      → IsStrandOf code job strand → Named jobs (n ∷ numbers) (outs_of strand) → FitRun job strand → FitRun job (give job strand e)
  gave jobs job out n numbers strand e waits is means ok named h = newest (outs_of strand) refl named
    where
      newest : (os : List Job) → outs_of strand ≡ os → Named jobs (n ∷ numbers) os → FitRun job (give job strand e)
      newest [] same k = absurd k
      newest (out' ∷ outs) same k = record {
        base = h.base;
        fit = give_fits job h.base strand out' outs e ok (waits_for strand out' outs waits same) (subst (λ j. JobMeaning code j e) (one_there (slice_get jobs n) out out' is k.0) means) h.fit;
      }

  next_fit : (world next : World) → WorldStep code world next → WorldOk code world → WorldFit world → WorldFit next
  next_fit world next (Run _ i worker job strand new numbers has same) ok fit =
      let h = fit i job (Runs worker strand numbers) has in
      set_fit world i job (Runs worker new numbers) fit has.job_is (record { base = h.base; fit = advanced job strand (Instruction new) h (ok.each i job (Runs worker strand numbers) has).0 same })
  next_fit world next (Spawn _ i worker job out strand new numbers has same) ok fit =
      let h = fit i job (Runs worker strand numbers) has in
      let kept = advanced job strand (Handed out new) h (ok.each i job (Runs worker strand numbers) has).0 same in
      set_fit (joined_by world out (Undecided worker)) i job (Runs worker new (length world.jobs ∷ numbers)) (add_fit world out (Undecided worker) ok.even fit kept.0)
      (get_before world.jobs out i job has.job_is) (record { base = h.base; fit = kept.1 })
  next_fit world next (Offer _ i worker job has) ok fit = set_fit world i job (Offered worker) fit has.job_is (fit i job (Undecided worker) has)
  next_fit world next (Inline _ i worker job has) ok fit = set_fit world i job (Kept worker) fit has.job_is (fit i job (Undecided worker) has)
  next_fit world next (Begin _ i worker job place has unrun) ok fit =
      set_fit world i job (Runs worker (started job) []) fit has.job_is (start_fits job (unrun_fits job place unrun (fit i job place has)))
  next_fit world next (Skip _ i n worker job out strand numbers place has stopped has' unrun) ok fit =
      let h = fit i job (Runs worker strand (n ∷ numbers)) has in
      set_fit (placed world n Spent) i job (Runs worker (skip strand) numbers) (spent_fit world n fit) has.job_is (record { base = h.base; fit = skip_fits job h.base strand h.fit })
  next_fit world next (Resume _ i n worker job out strand numbers place has ended has' unrun) ok fit =
      let h = fit i job (Runs worker strand (n ∷ numbers)) has in
      set_fit (placed world n Spent) i job (Runs worker (take_back strand) numbers) (spent_fit world n fit) has.job_is (record { base = h.base; fit = take_back_fits job h.base strand h.fit })
  next_fit world next (End _ i worker job strand numbers e has same) ok fit = set_fit world i job (Made worker e) fit has.job_is tt
  next_fit world next (Settle _ i worker job e has) ok fit = set_fit world i job (Settled e) fit has.job_is tt
  next_fit world next (Give _ i n worker job out strand numbers place e has waits has' is) ok fit =
      let now = ok.each i job (Runs worker strand (n ∷ numbers)) has in
      set_fit (placed world n Spent) i job (Runs worker (give job strand e) numbers) (spent_fit world n fit) has.job_is
      (gave world.jobs job out n numbers strand e waits has'.job_is (effect_means code world.jobs out place e is (ok.each n out place has')) now.0
      now.1 (fit i job (Runs worker strand (n ∷ numbers)) has))
  next_fit world next (Want _ i worker job strand numbers has) ok fit =
      let h = fit i job (Runs worker strand numbers) has in set_fit world i job (Runs worker (out_of_memory strand) numbers) fit has.job_is (record { base = h.base; fit = tt })
  next_fit world next (GiveUp _ i worker job place has unrun) ok fit = set_fit world i job (Made worker Memory) fit has.job_is tt

  begin_fit : (job : Job) → FitJob code fits steps_well settles job → WorldFit (world_of job)
  begin_fit job h k job' place has = first k has.job_is has.place_is
    where
      first : (k' : ℕ) → slice_get (job ∷ []) k' ≡ Some job' → slice_get (Runs 0 (started job) [] ∷ []) k' ≡ Some place → PlaceFit job' place
      first zero is at =
          subst (λ p. PlaceFit job' p) (one_there (Some (Runs 0 (started job) [])) (Runs 0 (started job) []) place refl at)
          (subst (λ j. PlaceFit j (Runs 0 (started job) [])) (one_there (Some job) job job' refl is) (start_fits job h))
      first (suc k') is at = cc

  after_fit : (job : Job) (world : World) → job.before ≤ job.limit → FitJob code fits steps_well settles job → After code (world_of job) world → WorldOk code world × WorldFit world
  after_fit job world le h Now = (begins_ok code job le, begin_fit job h)
  after_fit job world le h (Later world' _ after next) =
      let before = after_fit job world' le h after in
      (next_ok code world' world next before.0, next_fit world' world next before.0 before.1)

  root_fits : (f : Func) (args : List ℤ) (limit : ℕ) → slice_get code.funcs code.main ≡ Some f → length args ≡ f.params → FitJob code fits steps_well settles (root_job f args limit)
  root_fits f args limit e m =
      let none : f.array_params ≡ 0 = sym (ap array_params_of e) ∙ fits.of_integers in
      let none_lent : f.readers ≡ 0 = sym (ap readers_of e) ∙ fits.reads_none in
      record { base = Alone; good = begins code.main f args [] [] e m (sym none) (sym none_lent) }

pub none_is_unfit : ((code : Code) (fits : Fits code) → FitSteps code fits) → FitSettles → ((code : Code) (fits : Fits code) → FitBegins code fits) → NoneIsUnfit
none_is_unfit steps settles begins code fits f args limit world i worker job strand outs found count after has e =
    let ok = after_fit code fits (steps code fits) settles (begins code fits) (root_job f args limit) world (omega arith)
    (root_fits code fits (steps code fits) settles (begins code fits) f args limit found count) after in
    advanced code fits (steps code fits) settles (begins code fits) job strand Unfit (ok.1 i job (Runs worker strand outs) has) (ok.0.each i job (Runs worker strand outs) has).0 e
