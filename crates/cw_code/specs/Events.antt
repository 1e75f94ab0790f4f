-- Lists of events, applied one at a time; an impossible event has no result.
use Rattle.std.specs.Prelude.{◌≡◌, ℕ, List, [], ◌∷◌, length, Option, Some, None, slice_get}
use Rattle.cw_model.specs.Answers.{Answer}
use Rattle.cw_code.specs.Code.{Code}
use Rattle.cw_code.specs.Jobs.{Job, Effect, Memory, answered}
use Rattle.cw_code.specs.Strands.{Strand, Waits, Halted}
use Rattle.cw_code.specs.Steps.{started, Advanced, Ran, Handed, AtSync, Finished, Unfit, advance, give, skip}
use Rattle.cw_code.specs.Steps.{take_back, out_of_memory}
use Rattle.cw_code.specs.Worlds.{Place, Undecided, Kept, Offered, Runs, Made, Settled, Spent, World, effect_in}
use Rattle.cw_code.specs.Worlds.{placed, joined_by, After}

-- an event, at the job with this number
pub data Event : Type 0 where
  Advance : ℕ → Event
  Offer : ℕ → Event
  Inline : ℕ → Event
  Begin : (worker : ℕ) → ℕ → Event
  Skip : ℕ → Event
  Settle : ℕ → Event
  Give : ℕ → Event
  Want : ℕ → Event
  GiveUp : (worker : ℕ) → ℕ → Event
  TakeBack : ℕ → Event

-- the world after an advance of a strand; no world if the strand cannot advance
abbrev pub advanced : World → (i worker : ℕ) → List ℕ → Advanced → Option World
advanced world i worker outs (Ran new) = Some (placed world i (Runs worker new outs))
advanced world i worker outs (Handed out new) =
    Some (placed (joined_by world out (Undecided worker)) i (Runs worker new (length world.jobs ∷ outs)))
advanced world i worker outs AtSync = None
advanced world i worker outs (Finished e) = Some (placed world i (Made worker e))
advanced world i worker outs Unfit = None

-- skips the newest job out, if it has not begun
abbrev pub skips : World → (i n worker : ℕ) → Strand → List ℕ → Place → Option World
skips world i n worker (Halted e jobs) outs (Kept w) =
    Some (placed (placed world n Spent) i (Runs worker (skip (Halted e jobs)) outs))
skips world i n worker (Halted e jobs) outs (Offered w) =
    Some (placed (placed world n Spent) i (Runs worker (skip (Halted e jobs)) outs))
skips world i n worker strand outs place = None

-- gives the newest job out, if its effect was made
abbrev pub gives : World → (i n worker : ℕ) → Job → Strand → List ℕ → Option Effect → Option World
gives world i n worker job (Waits s count jobs) outs (Some e) =
    Some (placed (placed world n Spent) i (Runs worker (give job (Waits s count jobs) e) outs))
gives world i n worker job (Halted e' jobs) outs (Some e) =
    Some (placed (placed world n Spent) i (Runs worker (give job (Halted e' jobs) e) outs))
gives world i n worker job strand outs found = None

-- takes the newest job out back, if it has not begun
abbrev pub takes_back : World → (i n worker : ℕ) → Strand → List ℕ → Place → Option World
takes_back world i n worker (Waits s count jobs) outs (Kept w) =
    Some (placed (placed world n Spent) i (Runs worker (take_back (Waits s count jobs)) outs))
takes_back world i n worker (Waits s count jobs) outs (Offered w) =
    Some (placed (placed world n Spent) i (Runs worker (take_back (Waits s count jobs)) outs))
takes_back world i n worker strand outs place = None

-- continues with a job and its place, if both exist; otherwise no world
abbrev pub with_job : Option Job → Option Place → (Job → Place → Option World) → Option World
with_job (Some job) (Some place) go = go job place
with_job _ _ go = None

-- continues with the job of a number and its place, if the number exists; otherwise no world
abbrev pub at : World → ℕ → (Job → Place → Option World) → Option World
at world i go = with_job (slice_get world.jobs i) (slice_get world.places i) go

-- the world after an event at a job with this place; no world if the event is impossible there
abbrev pub happens : Code → World → Event → Job → Place → Option World
happens code world (Advance i) job (Runs worker strand outs) = advanced world i worker outs (advance code job strand)
happens code world (Offer i) job (Undecided worker) = Some (placed world i (Offered worker))
happens code world (Inline i) job (Undecided worker) = Some (placed world i (Kept worker))
happens code world (Begin worker i) job (Kept w) = Some (placed world i (Runs worker (started job) []))
happens code world (Begin worker i) job (Offered w) = Some (placed world i (Runs worker (started job) []))
happens code world (Skip i) job (Runs worker strand (n ∷ outs)) =
    at world n (λ out place. skips world i n worker strand outs place)
happens code world (Settle i) job (Made worker e) = Some (placed world i (Settled e))
happens code world (Give i) job (Runs worker strand (n ∷ outs)) =
    at world n (λ out place. gives world i n worker job strand outs (effect_in place))
happens code world (Want i) job (Runs worker strand outs) =
    Some (placed world i (Runs worker (out_of_memory strand) outs))
happens code world (GiveUp worker i) job (Kept w) = Some (placed world i (Made worker Memory))
happens code world (GiveUp worker i) job (Offered w) = Some (placed world i (Made worker Memory))
happens code world (TakeBack i) job (Runs worker strand (n ∷ outs)) =
    at world n (λ out place. takes_back world i n worker strand outs place)
happens code world event job place = None

-- the number of the job of an event
abbrev pub number_of : Event → ℕ
number_of (Advance i) = i
number_of (Offer i) = i
number_of (Inline i) = i
number_of (Begin worker i) = i
number_of (Skip i) = i
number_of (Settle i) = i
number_of (Give i) = i
number_of (Want i) = i
number_of (GiveUp worker i) = i
number_of (TakeBack i) = i

-- the world after an event; no world if the event is impossible
abbrev pub apply : Code → World → Event → Option World
apply code world event = at world (number_of event) (λ job place. happens code world event job place)

-- the world after an event, if there is a world before it
abbrev pub and_apply : Code → Event → Option World → Option World
and_apply code event None = None
and_apply code event (Some world) = apply code world event

-- the world after some events; the last event comes first in the list
abbrev pub play : Code → List Event → World → Option World
play code [] world = Some world
play code (event ∷ events) world = and_apply code event (play code events world)

-- a list of events leads only to possible worlds
abbrev pub PlaysCome : Type 0
PlaysCome =
    (code : Code) (events : List Event) (first world : World) → play code events first ≡ Some world
    → After code first world

-- the answer of the root's effect, if it was made
abbrev pub and_answered : Code → Option Effect → Option Answer
and_answered code None = None
and_answered code (Some e) = answered code e

-- the effect at a place, if it was made and not yet given
abbrev pub effect_at : Option Place → Option Effect
effect_at None = None
effect_at (Some place) = effect_in place

-- the answer of the root's effect in a world, if it was made
abbrev pub outcome : Code → Option World → Option Answer
outcome code None = None
outcome code (Some world) = and_answered code (effect_at (slice_get world.places 0))
