-- The events of the scheduler: which ones are possible in a world, and what they do.
use Rattle.std.specs.Prelude.{ℕ, zero, suc, Bool, true, false, ◌&&◌, ◌||◌, not, if◌then◌else◌, nat_eq, List, [], ◌∷◌}
use Rattle.std.specs.Prelude.{◌++◌, length, Option, Some, None, is_some, slice_get, slice_set}
use Rattle.cw_code.specs.Code.{Code}
use Rattle.cw_code.specs.Jobs.{has_come, standing, Job, Effect, Joined}
use Rattle.cw_code.specs.Strands.{Strand, Going, Waits, Halted}
use Rattle.cw_code.specs.Steps.{started, Advanced, Ran, Handed, AtSync, Finished, Unfit, advance, give, skip}
use Rattle.cw_code.specs.Steps.{take_back, out_of_memory}
use Rattle.cw_code.specs.Worlds.{Place, Undecided, Kept, Offered, Runs, Made, Settled, Spent, World, effect_in}
use Rattle.cw_code.specs.Worlds.{placed, joined_by, world_of}
use Rattle.cw_sched.specs.core.Board.{Board, State, Unoffered, Out, newest, oldest, but_oldest, of_worker, offer, retake}
use Rattle.cw_sched.specs.core.Board.{steal, settle, collect}

-- one step of a worker; a worker is named by its number
pub data Event : Type 0 where
  Run : (w : ℕ) → Event
  Offer : (w : ℕ) → Event
  Inline : (w : ℕ) → Event
  Retake : (w : ℕ) → Event
  Steal : (w v : ℕ) → Event
  Settle : (w : ℕ) → Event
  Collect : (w : ℕ) → Event

-- what the table asks about a world: for each worker, whether it exists, has begun a strand and not settled it, and
-- has a job in its deque; and for its newest strand, whether it has not ended, is at a spawn, is at a join, could take
-- its newest job out back, could receive its effect, or was stolen and has ended
pub record Sight : Type 0 where
  pub is_there : ℕ → Bool
  pub has_strand : ℕ → Bool
  pub has_offer : ℕ → Bool
  pub goes : ℕ → Bool
  pub is_at_spawn : ℕ → Bool
  pub is_at_join : ℕ → Bool
  pub can_retake : ℕ → Bool
  pub can_collect : ℕ → Bool
  pub can_settle : ℕ → Bool

-- THE TABLE OF EVENTS, by what is seen of a world
abbrev pub possible : Sight → Event → Bool
possible s (Run w) = s.goes w && not (s.is_at_spawn w) && not (s.is_at_join w)
possible s (Offer w) = s.is_at_spawn w
possible s (Inline w) = s.is_at_spawn w
possible s (Retake w) = s.is_at_join w && s.can_retake w
possible s (Steal w v) = s.is_there w && (not (s.has_strand w) || s.is_at_join w) && s.has_offer v
possible s (Settle w) = s.can_settle w
possible s (Collect w) = s.is_at_join w && s.can_collect w

-- the jobs by number, each in its place; for each worker the jobs whose strands it has begun and not settled, the
-- newest first; and the board
pub record Sched : Type 0 where
  pub world : World
  pub begun : List (List ℕ)
  pub board : Board

-- w's newest strand: none; one that goes on, with its job and the numbers of the jobs that it has out; or one that has
-- ended
pub data Top : Type 0 where
  Idle : Top
  Busy : (i : ℕ) → Job → Strand → (outs : List ℕ) → Top
  Over : (i : ℕ) → Effect → Top

abbrev pub top_at : ℕ → Option Job → Option Place → Top
top_at i (Some job) (Some (Runs worker strand outs)) = Busy i job strand outs
top_at i (Some job) (Some (Made worker e)) = Over i e
top_at i _ _ = Idle

abbrev pub top_of : World → List ℕ → Top
top_of world [] = Idle
top_of world (i ∷ others) = top_at i (slice_get world.jobs i) (slice_get world.places i)

abbrev pub top : Sched → (w : ℕ) → Top
top s w = top_of s.world (of_worker s.begun w)

-- a spawned call in it has ended, or it has stopped with jobs out: the join is open until its newest job out was
-- given, skipped or taken back
abbrev pub at_join : Strand → Bool
at_join (Going state count outs) = false
at_join (Waits state count outs) = true
at_join (Halted e []) = false
at_join (Halted e (out ∷ outs)) = true

abbrev pub has_strand : Top → Bool
has_strand Idle = false
has_strand (Busy i job strand outs) = true
has_strand (Over i e) = true

abbrev pub has_ended : Top → Bool
has_ended Idle = false
has_ended (Busy i job strand outs) = false
has_ended (Over i e) = true

abbrev pub is_at_join : Top → Bool
is_at_join Idle = false
is_at_join (Busy i job strand outs) = at_join strand
is_at_join (Over i e) = false

abbrev pub first_of : List ℕ → Option ℕ
first_of [] = None
first_of (n ∷ outs) = Some n

-- the newest job that its strand has out
abbrev pub newest_out : Top → Option ℕ
newest_out Idle = None
newest_out (Busy i job strand outs) = first_of outs
newest_out (Over i e) = None

abbrev pub place_of : Sched → Option ℕ → Option Place
place_of s None = None
place_of s (Some n) = slice_get s.world.places n

abbrev pub is_undecided : ℕ → Option Place → Bool
is_undecided w (Some (Undecided w')) = nat_eq w w'
is_undecided w _ = false

abbrev pub is_kept_by : ℕ → Option Place → Bool
is_kept_by w (Some (Kept w')) = nat_eq w w'
is_kept_by w _ = false

abbrev pub is_settled : Option Place → Bool
is_settled (Some (Settled e)) = true
is_settled _ = false

abbrev pub is_same : Option ℕ → Option ℕ → Bool
is_same (Some n) (Some m) = nat_eq n m
is_same _ _ = false

abbrev pub is_out : Option State → Bool
is_out (Some Out) = true
is_out _ = false

-- it executed a job that was offered, so it stole it
abbrev pub is_stolen : Sched → Top → Bool
is_stolen s Idle = false
is_stolen s (Busy i job strand outs) = is_out (slice_get s.board.states i)
is_stolen s (Over i e) = is_out (slice_get s.board.states i)

abbrev pub is_at_spawn : Sched → ℕ → Top → Bool
is_at_spawn s w t = is_undecided w (place_of s (newest_out t))

-- kept by w, or at the back of w's deque
abbrev pub can_retake : Sched → ℕ → Option ℕ → Bool
can_retake s w n = is_kept_by w (place_of s n) || is_same n (newest (of_worker s.board.lists w))

abbrev pub sight : Sched → Sight
sight s = record {
  is_there = λ w. is_some (slice_get s.begun w);
  has_strand = λ w. has_strand (top s w);
  has_offer = λ w. is_some (oldest (of_worker s.board.lists w));
  goes = λ w. has_strand (top s w) && not (has_ended (top s w));
  is_at_spawn = λ w. is_at_spawn s w (top s w);
  is_at_join = λ w. is_at_join (top s w);
  can_retake = λ w. can_retake s w (newest_out (top s w));
  can_collect = λ w. is_settled (place_of s (newest_out (top s w)));
  can_settle = λ w. has_ended (top s w) && is_stolen s (top s w);
}

abbrev pub is_possible : Sched → Event → Bool
is_possible s event = possible (sight s) event

-- the effect of a strand that has come to its end
abbrev pub effect_of : Code → Job → Strand → Option Effect
effect_of code job (Going state count []) =
    if has_come job.extent code state then Some (Joined (standing state) state.trace count) else None
effect_of code job (Going state count (out ∷ outs)) = None
effect_of code job (Waits state count outs) = None
effect_of code job (Halted e []) = Some e
effect_of code job (Halted e (out ∷ outs)) = None

abbrev pub run_or_made : ℕ → Strand → List ℕ → Option Effect → Place
run_or_made w strand outs None = Runs w strand outs
run_or_made w strand outs (Some e) = Made w e

-- a strand in its new state: if it has come to its end, its effect is made
abbrev pub put : Code → World → (w i : ℕ) → Job → Strand → List ℕ → World
put code world w i job strand outs = placed world i (run_or_made w strand outs (effect_of code job strand))

abbrev pub told : Sched → World → Sched
told s world = record { world = world; begun = s.begun; board = s.board }

abbrev pub noted : Sched → World → Board → Sched
noted s world board = record { world = world; begun = s.begun; board = board }

-- a new number, not offered yet
abbrev pub counted : Board → Board
counted board = record { lists = board.lists; states = board.states ++ Unoffered ∷ [] }

-- Run: one instruction
abbrev pub advanced : Code → Sched → (w i : ℕ) → Job → List ℕ → Advanced → Sched
advanced code s w i job outs (Ran new) = told s (put code s.world w i job new outs)
advanced code s w i job outs (Handed out new) =
    noted s (placed (joined_by s.world out (Undecided w)) i (Runs w new (length s.world.jobs ∷ outs))) (counted s.board)
advanced code s w i job outs AtSync = s
advanced code s w i job outs (Finished e) = told s (placed s.world i (Made w e))
advanced code s w i job outs Unfit = s

abbrev pub ran : Code → (short : Bool) → Sched → (w i : ℕ) → Job → Strand → List ℕ → Sched
ran code true s w i job strand outs = told s (put code s.world w i job (out_of_memory strand) outs)
ran code false s w i job strand outs = advanced code s w i job outs (advance code job strand)

-- Retake: if the call has ended, its strand goes on; if the strand has stopped, the continuation is skipped
abbrev pub got_back : Strand → Strand
got_back (Going state count outs) = Going state count outs
got_back (Waits state count outs) = take_back (Waits state count outs)
got_back (Halted e outs) = skip (Halted e outs)

-- a job that was kept was never on the board
abbrev pub retaken : (w n : ℕ) → Option Place → Board → Board
retaken w n (Some (Offered w')) board = retake w n board
retaken w n _ board = board

-- memory may be lacking in a strand
abbrev pub short_of : (short : Bool) → Strand → Strand
short_of true strand = out_of_memory strand
short_of false strand = strand

-- Steal: the thief has begun the job
abbrev pub stole : Code → Sched → (w v n : ℕ) → Option Job → Sched
stole code s w v n None = s
stole code s w v n (Some job) =
    record {
      world = put code s.world w n job (started job) [];
      begun = slice_set s.begun w (n ∷ of_worker s.begun w);
      board = steal v s.board;
    }

abbrev pub stolen_by : Code → Sched → (w v : ℕ) → Option ℕ → Sched
stolen_by code s w v None = s
stolen_by code s w v (Some n) = stole code s w v n (slice_get s.world.jobs n)

-- Settle: the effect goes to its cell, and the worker no longer has the strand
abbrev pub settled : Sched → (w i : ℕ) → Effect → Sched
settled s w i e =
    record {
      world = placed s.world i (Settled e);
      begun = slice_set s.begun w (but_oldest (of_worker s.begun w));
      board = settle i s.board;
    }

-- Collect: the strand receives the effect
abbrev pub collected : Code → (short : Bool) → Sched → (w i n : ℕ) → Job → Strand → List ℕ → Option Effect → Sched
collected code short s w i n job strand outs None = s
collected code short s w i n job strand outs (Some e) =
    noted s (put code (placed s.world n Spent) w i job (short_of short (give job strand e)) outs) (collect n s.board)

abbrev pub effect_at : Option Place → Option Effect
effect_at None = None
effect_at (Some place) = effect_in place

-- the effect of an event on w's strand
abbrev pub does : Code → (short : Bool) → Sched → Event → Top → Sched
does code short s (Run w) (Busy i job strand outs) = ran code short s w i job strand outs
does code short s (Offer w) (Busy i job strand (n ∷ outs)) = noted s (placed s.world n (Offered w)) (offer w n s.board)
does code short s (Inline w) (Busy i job strand (n ∷ outs)) = told s (placed s.world n (Kept w))
does code short s (Retake w) (Busy i job strand (n ∷ outs)) =
    noted s (put code (placed s.world n Spent) w i job (got_back strand) outs)
    (retaken w n (slice_get s.world.places n) s.board)
does code short s (Steal w v) t = stolen_by code s w v (oldest (of_worker s.board.lists v))
does code short s (Settle w) (Over i e) = settled s w i e
does code short s (Collect w) (Busy i job strand (n ∷ outs)) =
    collected code short s w i n job strand outs (effect_at (slice_get s.world.places n))
does code short s event t = s

abbrev pub worker_of : Event → ℕ
worker_of (Run w) = w
worker_of (Offer w) = w
worker_of (Inline w) = w
worker_of (Retake w) = w
worker_of (Steal w v) = w
worker_of (Settle w) = w
worker_of (Collect w) = w

-- the effect of an event that is possible; `short`: memory was lacking in the strand
abbrev pub perform : Code → (short : Bool) → Sched → Event → Sched
perform code short s event = does code short s event (top s (worker_of event))

-- an event that is not possible changes nothing
abbrev pub tried : Code → (short : Bool) → Sched → Event → Sched
tried code short s event = if is_possible s event then perform code short s event else s

-- the world after a list of events, in order, each with whether memory was lacking
abbrev pub world_run : Code → List (Event × Bool) → Sched → Sched
world_run code [] s = s
world_run code (e ∷ events) s = world_run code events (tried code e.1 s e.0)

-- this many workers, the first of which has begun the root job, number 0
abbrev pub none_begun : ℕ → List (List ℕ)
none_begun zero = []
none_begun (suc others) = [] ∷ none_begun others

abbrev pub first_sched : Job → (others : ℕ) → Sched
first_sched root others = record {
  world = world_of root;
  begun = (0 ∷ []) ∷ none_begun others;
  board = record { lists = [] ∷ none_begun others; states = Unoffered ∷ [] };
}

-- the root's effect, if and only if its strand has ended
abbrev pub outcome : Sched → Option Effect
outcome s = effect_at (slice_get s.world.places 0)

-- each event of a list was possible when it came
abbrev pub all_possible : Code → List (Event × Bool) → Sched → Bool
all_possible code [] s = true
all_possible code (e ∷ events) s = is_possible s e.0 && all_possible code events (perform code e.1 s e.0)
