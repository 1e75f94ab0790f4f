-- The operations on a strand preserve that it is a strand of its job.
use Rattle.std.proofs.Common.{◌≡◌, ◌+◌, ◌≤◌, Bool, true, false, nat_lt, if◌then◌else◌, List, [], ◌∷◌, refl, sym, ap, subst}
use Rattle.cw_facts.specs.Tests.{lt_of, not_lt_of}
use Rattle.cw_code.specs.Code.{Code}
use Rattle.cw_code.specs.Run.{Transition, On, Ends, Stops, Stuck, step}
use Rattle.cw_code.specs.Jobs.{has_come, standing, Job, Effect, Ended, Joined, TrapIn, OverLimit, Memory, JobMeaning}
use Rattle.cw_code.specs.Strands.{Strand, Going, Waits, Halted, outs_of, Turn, Goes, HandsOut, ComesBack, turn, goes_on, cost_of}
use Rattle.cw_code.specs.Promises.{IsStrandOf}
use Rattle.cw_code.specs.Steps.{Ran, finished, turned, went_on, advance, given_to, give, skip, take_back, WaitsFor, AdvancePreservesJob, CallsPreserveJob}
use Rattle.cw_code.proofs.Rests.{rest_not_ended}
use Rattle.cw_code.proofs.StrandLaws.{starts, runs, falls, passes, wants_memory, gives, gives_over, gives_stop, drops, arrives, returns, stops}

module _ (code : Code) (job : Job) where
  advances : (strand : Strand) → IsStrandOf code job strand → AdvancePreservesJob code job strand (advance code job strand)
  advances (Waits s count outs) h = tt
  advances (Halted e []) h = stops code job e [] h
  advances (Halted e (out ∷ outs)) h = tt
  advances (Going s count outs) h = come (has_come job.extent code s) refl
    where
      ends : (os : List Job) (e : Effect) → (os ≡ [] → JobMeaning code job e) → AdvancePreservesJob code job (Going s count outs) (finished os e)
      ends [] e k = k refl
      ends (out ∷ os) e k = tt

      moves : (w : Transition) → has_come job.extent code s ≡ false → step code s ≡ w → job.before + (count + 1) ≤ job.limit
          → AdvancePreservesJob code job (Going s count outs) (went_on (turn code s) s w job.limit job.before (count + 1) outs)
      moves (On s') c e le = by_turn (turn code s) (runs code job s s' count outs h c e le)
        where
          by_turn : (t : Turn) → IsStrandOf code job (goes_on t s s' job.limit job.before (count + 1) outs)
              → AdvancePreservesJob code job (Going s count outs) (turned t s s' job.limit job.before (count + 1) outs)
          by_turn Goes k = (k, refl)
          by_turn (HandsOut target taken) k = (k, refl, le)
          by_turn ComesBack k = (k, refl)
      moves (Ends v arrays t) c e le = ends outs (Ended v arrays t (count + 1)) (λ none. returns code job s count outs v arrays t h c e le)
      moves (Stops trap line lines) c e le = (falls code job s count outs trap line lines h c e le, refl)
      moves Stuck c e le = tt

      test : (b : Bool) → has_come job.extent code s ≡ false → nat_lt job.limit (job.before + (count + 1)) ≡ b
          → AdvancePreservesJob code job (Going s count outs) (if b then Ran (Halted OverLimit outs) else went_on (turn code s) s (step code s) job.limit job.before (count + 1) outs)
      test true c e = (passes code job s count outs h c (lt_of job.limit (job.before + (count + 1)) e), refl)
      test false c e = moves (step code s) c refl (not_lt_of job.limit (job.before + (count + 1)) e)

      come : (b : Bool) → has_come job.extent code s ≡ b
          → AdvancePreservesJob code job (Going s count outs) (if b then finished outs (Joined (standing s) s.trace count)
          else (if nat_lt job.limit (job.before + (count + 1)) then Ran (Halted OverLimit outs) else went_on (turn code s) s (step code s) job.limit job.before (count + 1) outs))
      come true c = ends outs (Joined (standing s) s.trace count) (λ none. arrives code job s count outs h c)
      come false c = test (nat_lt job.limit (job.before + (count + 1))) c refl

  gives_ok : (strand : Strand) (out : Job) (others : List Job) (e : Effect) → IsStrandOf code job strand → WaitsFor strand out others
      → JobMeaning code out e → IsStrandOf code job (give job strand e) × (outs_of (give job strand e) ≡ others)
  gives_ok (Going s count outs) out others e h w m = absurd w
  gives_ok (Waits s count outs) out others e h w m =
      subst (λ os. IsStrandOf code job (give job (Waits s count os) e) × (outs_of (give job (Waits s count os) e) ≡ others)) (sym w)
      (test (nat_lt job.limit (job.before + (count + cost_of e))) refl (subst (λ os. IsStrandOf code job (Waits s count os)) w h))
    where
      given : (f : Effect) → JobMeaning code out f → job.before + (count + cost_of f) ≤ job.limit
          → IsStrandOf code job (Waits s count (out ∷ others)) → IsStrandOf code job (given_to s count others f) × (outs_of (given_to s count others f) ≡ others)
      given (Joined frame t cost) n le k = (gives code job out s count others frame t cost k n le, refl)
      given (Ended v arrays t cost) n le k = absurd (rest_not_ended code out v arrays t cost (ap (λ (o : Job). o.extent) k.2.0.same) n)
      given (TrapIn trap line lines cost) n le k = (gives_stop code job out s count others (TrapIn trap line lines cost) k n tt le, refl)
      given OverLimit n le k = (gives_stop code job out s count others OverLimit k n tt le, refl)
      given Memory n le k = (gives_stop code job out s count others Memory k n tt le, refl)

      test : (b : Bool) → nat_lt job.limit (job.before + (count + cost_of e)) ≡ b → IsStrandOf code job (Waits s count (out ∷ others))
          → IsStrandOf code job (if b then Halted OverLimit others else given_to s count others e) × (outs_of (if b then Halted OverLimit others else given_to s count others e) ≡ others)
      test true c k = (gives_over code job out s count others e k m (lt_of job.limit (job.before + (count + cost_of e)) c), refl)
      test false c k = given e m (not_lt_of job.limit (job.before + (count + cost_of e)) c) k
  gives_ok (Halted e' outs) out others e h w m =
      subst (λ os. IsStrandOf code job (give job (Halted e' os) e) × (outs_of (give job (Halted e' os) e) ≡ others)) (sym w) (drops code job out e' e others h, refl)

  skips_ok : (strand : Strand) → IsStrandOf code job strand → IsStrandOf code job (skip strand)
  skips_ok (Going s count outs) h = h
  skips_ok (Waits s count outs) h = h
  skips_ok (Halted e []) h = h
  skips_ok (Halted e (out ∷ outs)) h = h

  takes_back_ok : (strand : Strand) → IsStrandOf code job strand → IsStrandOf code job (take_back strand)
  takes_back_ok (Going s count outs) h = h
  takes_back_ok (Waits s count []) h = h
  takes_back_ok (Waits s count (out ∷ outs)) h = (h.0, h.1, h.2.1)
  takes_back_ok (Halted e outs) h = h

pub calls_keep : (code : Code) → CallsPreserveJob code
calls_keep code = record {
  starting = λ job le. starts code job le;
  advancing = λ job strand h. advances code job strand h;
  giving = λ job strand out others e h w m. gives_ok code job strand out others e h w m;
  skipping = λ job strand h. skips_ok code job strand h;
  taking_back = λ job strand h. takes_back_ok code job strand h;
  wanting = λ job strand h. wants_memory code job strand (outs_of strand) h;
}
