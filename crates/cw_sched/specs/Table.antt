-- Which event is possible in a world.
use Rattle.std.specs.Prelude.{ℕ, Bool, true, false, nat_eq, Option, Some, None, is_some, slice_get}
use Rattle.cw_sched.specs.core.Board.{newest, oldest, of_worker}
use Rattle.cw_sched.specs.core.Table as table
use Rattle.cw_sched.specs.declared.event.Event.{Event}
use Rattle.cw_sched.specs.declared.event.Event.TheVariants as event
use Rattle.cw_sched.specs.declared.post.Out.{Out}
use Rattle.cw_sched.specs.declared.post.Out.TheVariants as out
use Rattle.cw_sched.specs.Scenes.{Stage, Goes, Made, Scene, top}
use Rattle.cw_sched.specs.Boards.{Boarded, newest_number, cell_of}

-- it has not ended
abbrev pub goes : Option Stage → Bool
goes (Some (Goes p)) = true
goes _ = false

-- the newest job that its strand has out
abbrev pub newest_out : Option Stage → Option Out
newest_out (Some (Goes p)) = newest p.outs
newest_out _ = None

abbrev pub is_undecided : Option Out → Bool
is_undecided (Some (out.Undecided n job)) = true
is_undecided _ = false

-- at a spawn whose continuation is neither offered nor kept yet
abbrev pub is_at_spawn : Option Stage → Bool
is_at_spawn t = is_undecided (newest_out t)

-- at a join: its call has ended or it has stopped, and its newest job out has not come back
abbrev pub is_at_join : Option Stage → Bool
is_at_join (Some (Goes p)) = p.at_join
is_at_join _ = false

-- a stolen job that has ended
abbrev pub has_made : Option Stage → Bool
has_made (Some (Made n e)) = true
has_made _ = false

abbrev pub is_same : ℕ → Option ℕ → Bool
is_same n (Some m) = nat_eq n m
is_same n None = false

-- kept by w, or at the back of w's deque
abbrev pub can_retake : Boarded → ℕ → Option Out → Bool
can_retake b w (Some (out.Kept n job)) = true
can_retake b w (Some (out.Offered n)) = is_same n (newest_number b w)
can_retake b w _ = false

-- its effect waits in its cell
abbrev pub is_settled : Boarded → Option Out → Bool
is_settled b (Some (out.Offered n)) = is_some (cell_of b n)
is_settled b _ = false

-- the event as the table names it
abbrev pub named : Event → table.Event
named (event.Run w) = table.Run w
named (event.Offer w) = table.Offer w
named (event.Inline w) = table.Inline w
named (event.Retake w) = table.Retake w
named (event.Steal w v) = table.Steal w v
named (event.Settle w) = table.Settle w
named (event.Collect w) = table.Collect w

-- what the table asks about a world
abbrev pub sight : Scene → table.Sight
sight s = record {
  is_there = λ w. is_some (slice_get s.begun w);
  has_strand = λ w. is_some (top s w);
  has_offer = λ v. is_some (oldest (of_worker s.board.offers v));
  goes = λ w. goes (top s w);
  is_at_spawn = λ w. is_at_spawn (top s w);
  is_at_join = λ w. is_at_join (top s w);
  can_retake = λ w. can_retake s.board w (newest_out (top s w));
  can_collect = λ w. is_settled s.board (newest_out (top s w));
  can_settle = λ w. has_made (top s w);
}

-- WHICH EVENT IS POSSIBLE, by the table of events
abbrev pub is_possible : Scene → Event → Bool
is_possible s event = table.possible (sight s) (named event)
