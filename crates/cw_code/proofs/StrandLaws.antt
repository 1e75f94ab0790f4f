-- Each step of a strand preserves its invariant, so its final effect means its job.
use Rattle.std.proofs.Common.{◌≡◌, ℕ, ◌+◌, ◌-◌, ◌<◌, ◌≤◌, ℤ, Bool, true, false, if◌then◌else◌, Option, Some, None, List, [], ◌∷◌, ◌++◌, refl, sym, ap, ◌∙◌, subst, inl, inr, arith}
use Rattle.std.proofs.lemmas.Bool.{cases_lt}
use Rattle.std.specs.Prelude.{slice_get, slice_set}
use Rattle.cw_model.specs.declared.syntax.CallKind.{CallKind}
use Rattle.cw_model.specs.declared.syntax.CallKind.TheVariants.{Plain, Spawned}
use Rattle.cw_model.specs.Outcome.{Trace}
use Rattle.cw_code.specs.declared.code.Instr.{Instr}
use Rattle.cw_code.specs.Code.{Code}
use Rattle.cw_code.specs.Run.{Slots, Results, Waiting, Around, Caller, Block, State, Transition, On, Ends, Stops, Stuck, synced, is_full}
use Rattle.cw_code.specs.Run.{settled, Entering, begun, given_back, going_on, result_of, returns_to, back, act, step}
use Rattle.cw_code.specs.lemmas.Runs.{joined_quiet}
use Rattle.cw_code.specs.Jobs.{Extent, ToJoin, has_come, JoinFrame, standing, Came, Arrives, Falls, Beyond, moved, travel, Job}
use Rattle.cw_code.specs.Jobs.{job_start, course, Effect, Ended, Joined, TrapIn, OverLimit, Memory, JobMeaning}
use Rattle.cw_code.specs.Strands.{Strand, Going, Waits, Halted, rest_at, Turn, Goes, HandsOut, ComesBack, turn_back, turn_in, turn_call}
use Rattle.cw_code.specs.Strands.{turn_of, turn, spawn_job, goes_on, resumed, HasStopped, stopped_after, dropped, cost_of}
use Rattle.cw_code.specs.Promises.{Takes, OutAt, Outs, IsOutHere, OutsHere, ComesTo, IsStrandOf}
use Rattle.cw_code.specs.RestLaws.{onwards}
use Rattle.cw_code.specs.lemmas.StrandActs.{acts_by}
use Rattle.cw_code.specs.lemmas.Budgets.{takes_none, takes_then, takes_step, come_at, stands_meaning}
use Rattle.cw_code.proofs.Travels.{travel_under}
use Rattle.cw_code.proofs.Budgets.{meaning_stands, stands_short}

-- a larger bound is also a bound
out_later : (limit b c : ℕ) (w : Waiting) (kind : CallKind) (below below' : List Job → Type 0) (outs : List Job) → b ≤ c
    → ((others : List Job) → below others → below' others) → OutAt limit b w kind below outs → OutAt limit c w kind below' outs
out_later limit b c w Plain below below' outs le more h = more outs h
out_later limit b c w Spawned below below' [] le more h = h
out_later limit b c w Spawned below below' (out ∷ outs) le more h = (record { same = h.0.same; low = (let low = h.0.low in omega (arith, le, low)); none = h.0.none }, more outs h.1)

outs_later : (limit b c : ℕ) (around : List Around) (outs : List Job) → b ≤ c → Outs limit b around outs → Outs limit c around outs
outs_later limit b c [] [] le h = h
outs_later limit b c [] (out ∷ outs) le h = h
outs_later limit b c (Caller w ∷ around) outs le h =
    out_later limit b c w w.kind (λ others. Outs limit b around others) (λ others. Outs limit c around others) outs le (λ others k. outs_later limit b c around others le k) h
outs_later limit b c (Block o ∷ around) outs le h = outs_later limit b c around outs le h

-- the jobs out after an instruction, by its effect on the strand
abbrev OutsAfter : (limit bound : ℕ) → List Job → State → Turn → Transition → Type 0
OutsAfter limit bound outs from Goes (On s) = Outs limit bound s.around outs
OutsAfter limit bound outs from (HandsOut target taken) (On s) = Outs limit bound s.around (spawn_job from target taken limit bound ∷ outs)
OutsAfter limit bound outs from ComesBack (On s) = OutsHere limit bound s outs
OutsAfter limit bound outs from turn (Ends v arrays t) = Unit {0}
OutsAfter limit bound outs from turn (Stops trap line lines) = Unit {0}
OutsAfter limit bound outs from turn Stuck = Unit {0}

module _ (limit bound : ℕ) (outs : List Job) (from : State) where
  either_out : (turn : Turn) (c : Bool) (x y : Transition) → OutsAfter limit bound outs from turn x → OutsAfter limit bound outs from turn y → OutsAfter limit bound outs from turn (if c then x else y)
  either_out turn true x y h k = h
  either_out turn false x y h k = k

  nothing_out : (turn : Turn) → OutsAfter limit bound outs from turn Stuck
  nothing_out Goes = tt
  nothing_out (HandsOut target taken) = tt
  nothing_out ComesBack = tt

  stop_out : (turn : Turn) (trap : _) (line : ℕ) (lines : List ℤ) → OutsAfter limit bound outs from turn (Stops trap line lines)
  stop_out Goes trap line lines = tt
  stop_out (HandsOut target taken) trap line lines = tt
  stop_out ComesBack trap line lines = tt

  -- a plain call does not change the jobs out; a spawn hands out the continuation of its block
  enter_out : (e : Entering) → Outs limit bound from.around outs → OutsAfter limit bound outs from (turn_call e.kind e.target e.taken) (On (begun from e))
  enter_out e h = cases e.kind
    where
      cases : (kind : CallKind) → OutsAfter limit bound outs from (turn_call kind e.target e.taken) (On (begun from (record e { kind = kind })))
      cases Plain = h
      cases Spawned = (record { same = refl; low = omega arith; none = refl }, h)

  -- a call returns to its caller, which made a plain call or a spawn
  back_out : (around : List Around) (v : Option ℤ) (arrays : Slots (List ℤ)) (t : Trace) → Outs limit bound around outs → OutsAfter limit bound outs from (turn_in around) (back around v arrays t)
  back_out [] v arrays t h = tt
  back_out (Block o ∷ around) v arrays t h = tt
  back_out (Caller w ∷ around) v arrays t h = by_arrays (given_back w.taken arrays)
    where
      newest : (s : State) → s ≡ record (going_on w around s.trace) { results = s.results; arrived = s.arrived } → (os : List Job)
          → OutAt limit bound w Spawned (λ others. Outs limit bound around others) os → OutsHere limit bound s os
      newest s e [] j = absurd j
      newest s e (out ∷ os) j = subst (λ s'. OutsHere limit bound s' (out ∷ os)) (sym e) (record { same = j.0.same; low = j.0.low; none = j.0.none }, j.1)

      cases : (kind : CallKind) (target : Option ℕ) (v' : Option ℤ) (results : Results (List ℤ)) (u : Trace) → OutAt limit bound w kind (λ others. Outs limit bound around others) outs
          → OutsAfter limit bound outs from (turn_back kind) (result_of kind target v' results (going_on w around u))
      cases Plain None v' results u k = k
      cases Plain (Some a) None results u k = tt
      cases Plain (Some a) (Some x) results u k = either_out Goes (is_full (slice_get w.slots a))
          (On (record (going_on w around u) { arrays = settled results w.arrays; slots = slice_set w.slots a (Some x) })) Stuck k tt
      cases Spawned None v' results u k = newest (record (going_on w around u) { arrived = results ++ w.arrived }) refl outs k
      cases Spawned (Some a) None results u k = tt
      cases Spawned (Some a) (Some x) results u k = newest (record (going_on w around u) { results = (a, x) ∷ w.results; arrived = results ++ w.arrived }) refl outs k

      by_arrays : (o : Option (Results (List ℤ))) → OutsAfter limit bound outs from (turn_back w.kind) (returns_to w around v o t)
      by_arrays None = nothing_out (turn_back w.kind)
      by_arrays (Some results) = cases w.kind w.target v results _ h

pub act_out : (limit bound : ℕ) (outs : List Job) (code : Code) (s : State) (o : Option Instr) → Outs limit bound s.around outs → OutsAfter limit bound outs s (turn_of code o s.around) (act code s o)
act_out limit bound outs code s o h = acts_by code s (λ j turn w. OutsAfter limit bound outs s turn w) (record {
  stuck = λ j turn. nothing_out limit bound outs s turn;
  stops = λ j turn trap line lines. stop_out limit bound outs s turn trap line lines;
  local = λ place operands slots arrays lines updates. h;
  enters = λ e. enter_out limit bound outs s e h;
  opens = λ operands arrays tag cut. h;
  syncs = h;
  leaves = λ arrays o around e. subst (λ a. Outs limit bound a outs) e h;
  returns = λ v. back_out limit bound outs s s.around v (settled s.arrived s.arrays) (synced s.trace) h;
}) o

module _ (code : Code) where
  -- while a strand waits, the serial run is the run of the newest job out, then continues from the join
  pub rest_under : (y : Extent) (s : State) (limit before n : ℕ) → s.operands ≡ [] → travel y code n s ≡ onwards code y s (course code (rest_at s limit before) n)
  rest_under y s limit before n none =
      ap (λ ops. travel y code n (record s { operands = ops })) none
      ∙ ap (λ t. travel y code n (record s { operands = []; trace = t })) (sym (joined_quiet s.trace))
      ∙ travel_under code ToJoin y s n (job_start (rest_at s limit before)) tt refl

  out_under : (y : Extent) (s : State) (limit bound : ℕ) (out : Job) (n : ℕ) → IsOutHere limit bound s out → travel y code n s ≡ onwards code y s (course code out n)
  out_under y s limit bound out n h = rest_under y s limit out.before n h.none ∙ ap (λ (job : Job). onwards code y s (course code job n)) (sym h.same)

  out_takes : (y : Extent) (s : State) (limit bound : ℕ) (out : Job) (cost : ℕ) (later : ℕ → Came) → IsOutHere limit bound s out
      → Takes cost (course code out) later → Takes cost (λ n. travel y code n s) (λ n. onwards code y s (later n))
  out_takes y s limit bound out cost later h t = record {
    next = λ n. out_under y s limit bound out (cost + n) h ∙ ap (onwards code y s) (t.next n);
    short = λ m lt. out_under y s limit bound out m h ∙ ap (onwards code y s) (t.short m lt);
  }

  module _ (job : Job) where
    -- the start of a strand
    pub starts : job.before ≤ job.limit → IsStrandOf code job (Going (job_start job) 0 [])
    starts le = (omega (arith, le), takes_none 0 (course code job) (course code job) refl (λ n. refl), tt)

    leads_on : (s : State) (count : ℕ) (w : Transition) → ComesTo code job count s → has_come job.extent code s ≡ false → step code s ≡ w
        → Takes (count + 1) (course code job) (λ n. moved w n (λ s'. travel job.extent code n s'))
    leads_on s count w leads e same =
        takes_then count 1 (course code job) (λ n. travel job.extent code n s) (λ n. moved w n (λ s'. travel job.extent code n s')) leads (takes_step job.extent code s w e same)

    -- an instruction
    pub runs : (s s' : State) (count : ℕ) (outs : List Job) → IsStrandOf code job (Going s count outs) → has_come job.extent code s ≡ false → step code s ≡ On s' → job.before + (count + 1) ≤ job.limit
        → IsStrandOf code job (goes_on (turn code s) s s' job.limit job.before (count + 1) outs)
    runs s s' count outs h e same le =
        turned (turn code s) (subst (OutsAfter job.limit (job.before + (count + 1)) outs s (turn code s)) same
        (act_out job.limit (job.before + (count + 1)) outs code s (slice_get code.instrs s.place)
        (outs_later job.limit (job.before + count) (job.before + (count + 1)) s.around outs (omega arith) h.2)))
      where
        turned : (turn : Turn) → OutsAfter job.limit (job.before + (count + 1)) outs s turn (On s') → IsStrandOf code job (goes_on turn s s' job.limit job.before (count + 1) outs)
        turned Goes k = (le, leads_on s count (On s') h.1 e same, k)
        turned (HandsOut target taken) k = (le, leads_on s count (On s') h.1 e same, k)
        turned ComesBack k = (le, leads_on s count (On s') h.1 e same, k)

    pub falls : (s : State) (count : ℕ) (outs : List Job) (trap : _) (line : ℕ) (lines : List ℤ) → IsStrandOf code job (Going s count outs)
        → has_come job.extent code s ≡ false → step code s ≡ Stops trap line lines
        → job.before + (count + 1) ≤ job.limit → IsStrandOf code job (Halted (TrapIn trap line lines (count + 1)) outs)
    falls s count outs trap line lines h e same le = (le, leads_on s count (Stops trap line lines) h.1 e same)

    -- the run does not end within this number of instructions
    over_so : (count : ℕ) (later : ℕ → Came) → job.before ≤ job.limit → Takes count (course code job) later → job.limit < job.before + count
        → (m : ℕ) → job.before + m ≤ job.limit → course code job m ≡ Beyond
    over_so count later le t above m within = t.short m (omega (arith, above, within))

    pub passes : (s : State) (count : ℕ) (outs : List Job) → IsStrandOf code job (Going s count outs) → has_come job.extent code s ≡ false
        → job.limit < job.before + (count + 1) → IsStrandOf code job (Halted OverLimit outs)
    passes s count outs h e above =
        let le : job.before + count ≤ job.limit = h.0 in
        (omega (arith, le), over_so (count + 1) (λ n. moved (step code s) n (λ s'. travel job.extent code n s')) (omega (arith, le)) (leads_on s count (step code s) h.1 e refl) above)

    before_fits : (strand : Strand) → IsStrandOf code job strand → job.before ≤ job.limit
    before_fits (Going s count outs) h = let le : job.before + count ≤ job.limit = h.0 in omega (arith, le)
    before_fits (Waits s count outs) h = let le : job.before + count ≤ job.limit = h.0 in omega (arith, le)
    before_fits (Halted e outs) h = let le : job.before + cost_of e ≤ job.limit = h.0 in omega (arith, le)

    pub wants_memory : (strand : Strand) (outs : List Job) → IsStrandOf code job strand → IsStrandOf code job (Halted Memory outs)
    wants_memory strand outs h = let le = before_fits strand h in (omega (arith, le), tt)

    -- give
    pub gives : (out : Job) (s : State) (count : ℕ) (outs : List Job) (frame : JoinFrame) (t : Trace) (cost : ℕ)
        → IsStrandOf code job (Waits s count (out ∷ outs)) → JobMeaning code out (Joined frame t cost) → job.before + (count + cost) ≤ job.limit
        → IsStrandOf code job (Going (resumed s frame t) (count + cost) outs)
    gives out s count outs frame t cost h m le =
        let stands = meaning_stands code out (Joined frame t cost) m in
        let here : IsOutHere job.limit (job.before + count) s out = h.2.0 in (
          le,
          takes_then count cost (course code job) (λ n. travel job.extent code n s) (λ n. travel job.extent code n (resumed s frame t)) h.1
              (out_takes job.extent s job.limit (job.before + count) out cost (λ n. Arrives frame t n) here stands),
          outs_later job.limit (job.before + count) (job.before + (count + cost)) s.around outs (omega arith) h.2.1,
        )

    pub gives_over : (out : Job) (s : State) (count : ℕ) (outs : List Job) (e : Effect)
        → IsStrandOf code job (Waits s count (out ∷ outs)) → JobMeaning code out e → job.limit < job.before + (count + cost_of e) → IsStrandOf code job (Halted OverLimit outs)
    gives_over out s count outs e h m above =
        let stands = meaning_stands code out e m in
        let here : IsOutHere job.limit (job.before + count) s out = h.2.0 in
        let le : job.before + count ≤ job.limit = h.0 in
        let rest : Takes (cost_of e) (λ n. travel job.extent code n s) (λ n. travel job.extent code (cost_of e + n) s) = record {
          next = λ n. refl;
          short = λ k lt. out_under job.extent s job.limit (job.before + count) out k here ∙ ap (onwards code job.extent s) (stands_short code out e stands k lt);
        } in (
          omega (arith, le),
          over_so (count + cost_of e) (λ n. travel job.extent code (cost_of e + n) s) (omega (arith, le))
              (takes_then count (cost_of e) (course code job) (λ n. travel job.extent code n s) (λ n. travel job.extent code (cost_of e + n) s) h.1 rest) above,
        )

    pub gives_stop : (out : Job) (s : State) (count : ℕ) (outs : List Job) (e : Effect)
        → IsStrandOf code job (Waits s count (out ∷ outs)) → JobMeaning code out e → HasStopped e → job.before + (count + cost_of e) ≤ job.limit
        → IsStrandOf code job (Halted (stopped_after s count e) outs)
    gives_stop out s count outs (Ended v arrays t cost) h m stop le = absurd stop
    gives_stop out s count outs (Joined frame t cost) h m stop le = absurd stop
    gives_stop out s count outs (TrapIn trap line lines cost) h m stop le =
        let here : IsOutHere job.limit (job.before + count) s out = h.2.0 in (
          le,
          takes_then count cost (course code job) (λ n. travel job.extent code n s) (λ n. Falls trap line (s.trace.lines ++ lines) n) h.1
              (out_takes job.extent s job.limit (job.before + count) out cost (λ n. Falls trap line lines n) here (meaning_stands code out (TrapIn trap line lines cost) m)),
        )
    gives_stop out s count outs OverLimit h m stop le =
        let here : IsOutHere job.limit (job.before + count) s out = h.2.0 in
        let stands = meaning_stands code out OverLimit m in
        let low = here.low in
        let limit : out.limit ≡ job.limit = ap (λ (o : Job). o.limit) here.same in (
          omega (arith, le),
          λ k within. elim (cases_lt k count) [
            | inl less ↦ h.1.short k less
            | inr more ↦
                ap (course code job) (let e : k ≡ count + (k - count) = omega (arith, more) in e) ∙ h.1.next (k - count)
                ∙ out_under job.extent s job.limit (job.before + count) out (k - count) here
                ∙ ap (onwards code job.extent s) (stands (k - count) (omega (arith, within, low, limit, more)))
          ],
        )
    gives_stop out s count outs Memory h m stop le = (omega (arith, le), tt)

    pub drops : (out : Job) (e e' : Effect) (outs : List Job) → IsStrandOf code job (Halted e (out ∷ outs)) → IsStrandOf code job (Halted (dropped e e') outs)
    drops out e (Ended v arrays t cost) outs h = h
    drops out e (Joined frame t cost) outs h = h
    drops out e (TrapIn trap line lines cost) outs h = h
    drops out e OverLimit outs h = h
    drops out e Memory outs h = wants_memory (Halted e (out ∷ outs)) outs h

    -- an effect
    pub arrives : (s : State) (count : ℕ) (outs : List Job) → IsStrandOf code job (Going s count outs) → has_come job.extent code s ≡ true → JobMeaning code job (Joined (standing s) s.trace count)
    arrives s count outs h e =
        stands_meaning code job (Joined (standing s) s.trace count) h.0 (record {
          next = λ n. h.1.next n ∙ come_at job.extent code n s e;
          short = h.1.short;
        })

    pub returns : (s : State) (count : ℕ) (outs : List Job) (v : Option ℤ) (arrays : Slots (List ℤ)) (t : Trace)
        → IsStrandOf code job (Going s count outs) → has_come job.extent code s ≡ false → step code s ≡ Ends v arrays t → job.before + (count + 1) ≤ job.limit
        → JobMeaning code job (Ended v arrays t (count + 1))
    returns s count outs v arrays t h e same le = stands_meaning code job (Ended v arrays t (count + 1)) le (leads_on s count (Ends v arrays t) h.1 e same)

    pub stops : (e : Effect) (outs : List Job) → IsStrandOf code job (Halted e outs) → JobMeaning code job e
    stops e outs h = stands_meaning code job e h.0 h.1
