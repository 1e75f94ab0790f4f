-- Strands and places without an effect that is out of memory, and the events that preserve this if memory never runs
-- out.
use Rattle.std.proofs.Common.{◌≡◌, ℕ, ◌+◌, Bool, true, false, List, [], ◌∷◌, Some, sym, subst, inl, inr}
use Rattle.std.specs.Prelude.{slice_get, nat_lt, if◌then◌else◌}
use Rattle.std.proofs.lemmas.Option.{same_Some}
use Rattle.cw_code.specs.Code.{Code}
use Rattle.cw_code.specs.Run.{State, Transition, On, Ends, Stops, Stuck, step}
use Rattle.cw_code.specs.Jobs.{Job, Effect, Ended, Joined, TrapIn, OverLimit, Memory, has_come, standing}
use Rattle.cw_code.specs.Strands.{Strand, Going, Waits, Halted, Turn, Goes, HandsOut, ComesBack, turn, dropped, cost_of}
use Rattle.cw_code.specs.Steps.{Advanced, Ran, Handed, AtSync, Finished, Unfit, advance, finished, turned, went_on, given_to, give}
use Rattle.cw_code.specs.Worlds.{Place, Undecided, Kept, Offered, Runs, Made, Settled, Spent, World, effect_in, placed}
use Rattle.cw_facts.specs.Lists.{set_gives}

abbrev pub Ample : Effect → Type 0
Ample (Ended v arrays t cost) = Unit {0}
Ample (Joined frame t cost) = Unit {0}
Ample (TrapIn trap line lines cost) = Unit {0}
Ample OverLimit = Unit {0}
Ample Memory = ⊥

abbrev pub AmpleStrand : Strand → Type 0
AmpleStrand (Going s count outs) = Unit {0}
AmpleStrand (Waits s count outs) = Unit {0}
AmpleStrand (Halted e outs) = Ample e

abbrev pub AmplePlace : Place → Type 0
AmplePlace (Runs w strand outs) = AmpleStrand strand
AmplePlace (Made w e) = Ample e
AmplePlace (Settled e) = Ample e
AmplePlace (Undecided w) = Unit {0}
AmplePlace (Kept w) = Unit {0}
AmplePlace (Offered w) = Unit {0}
AmplePlace Spent = Unit {0}

abbrev pub AmpleWorld : World → Type 0
AmpleWorld world = (n : ℕ) (place : Place) → slice_get world.places n ≡ Some place → AmplePlace place

abbrev pub AmpleStep : Advanced → Type 0
AmpleStep (Ran new) = AmpleStrand new
AmpleStep (Handed out new) = AmpleStrand new
AmpleStep AtSync = Unit {0}
AmpleStep (Finished e) = Ample e
AmpleStep Unfit = Unit {0}

pub finishes : (outs : List Job) (e : Effect) → Ample e → AmpleStep (finished outs e)
finishes [] e h = h
finishes (out ∷ outs) e h = tt

pub turns : (turn : Turn) (from to : State) (limit before count : ℕ) (outs : List Job) → AmpleStep (turned turn from to limit before count outs)
turns Goes from to limit before count outs = tt
turns (HandsOut target taken) from to limit before count outs = tt
turns ComesBack from to limit before count outs = tt

pub goes : (turn : Turn) (from : State) (to : Transition) (limit before count : ℕ) (outs : List Job) → AmpleStep (went_on turn from to limit before count outs)
goes turn from (On s) limit before count outs = turns turn from s limit before count outs
goes turn from (Ends v arrays t) limit before count outs = finishes outs (Ended v arrays t count) tt
goes turn from (Stops trap line lines) limit before count outs = tt
goes turn from Stuck limit before count outs = tt

pub either : (b : Bool) (x y : Advanced) → AmpleStep x → AmpleStep y → AmpleStep (if b then x else y)
either true x y h k = h
either false x y h k = k

pub advances : (code : Code) (job : Job) (strand : Strand) → AmpleStrand strand → AmpleStep (advance code job strand)
advances code job (Going s count outs) h =
    either (has_come job.extent code s) (finished outs (Joined (standing s) s.trace count)) _ (finishes outs (Joined (standing s) s.trace count) tt)
    (either (nat_lt job.limit (job.before + (count + 1))) (Ran (Halted OverLimit outs))
    (went_on (turn code s) s (step code s) job.limit job.before (count + 1) outs) tt (goes (turn code s) s (step code s) job.limit job.before (count + 1) outs))
advances code job (Waits s count outs) h = tt
advances code job (Halted e []) h = h
advances code job (Halted e (out ∷ outs)) h = tt

pub gives_to : (s : State) (count : ℕ) (outs : List Job) (e : Effect) → Ample e → AmpleStrand (given_to s count outs e)
gives_to s count outs (Ended v arrays t cost) h = tt
gives_to s count outs (Joined frame t cost) h = tt
gives_to s count outs (TrapIn trap line lines cost) h = tt
gives_to s count outs OverLimit h = tt
gives_to s count outs Memory h = absurd h

pub drops : (e e' : Effect) → Ample e → Ample e' → Ample (dropped e e')
drops e (Ended v arrays t cost) h k = h
drops e (Joined frame t cost) h k = h
drops e (TrapIn trap line lines cost) h k = h
drops e OverLimit h k = h
drops e Memory h k = absurd k

pub gives : (job : Job) (strand : Strand) (e : Effect) → AmpleStrand strand → Ample e → AmpleStrand (give job strand e)
gives job (Going s count outs) e h k = tt
gives job (Waits s count []) e h k = tt
gives job (Waits s count (out ∷ outs)) e h k = within (nat_lt job.limit (job.before + (count + cost_of e)))
  where
    within : (b : Bool) → AmpleStrand (if b then Halted OverLimit outs else given_to s count outs e)
    within true = tt
    within false = gives_to s count outs e k
gives job (Halted e' []) e h k = h
gives job (Halted e' (out ∷ outs)) e h k = drops e' e h k

pub set_ample : (world : World) (i : ℕ) (new : Place) → AmpleWorld world → AmplePlace new → AmpleWorld (placed world i new)
set_ample world i new all h n place at = elim (set_gives world.places i n new place at) [
  | inl p ↦ subst AmplePlace (sym p.1) h
  | inr p ↦ all n place p
]

pub made_ample : (place : Place) (e : Effect) → AmplePlace place → effect_in place ≡ Some e → Ample e
made_ample (Made w e') e h f = subst Ample (same_Some e' e f) h
made_ample (Settled e') e h f = subst Ample (same_Some e' e f) h
made_ample _ e h f = cc
