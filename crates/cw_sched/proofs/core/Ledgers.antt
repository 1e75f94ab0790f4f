-- A deque's list after each step is the board's.
use Rattle.cw_sched.specs.core.Ledger.{LedgersAreLists}
use Rattle.cw_sched.specs.lemmas.Ledgers.{outs_offer, outs_retake, outs_steal}

pub ledgers_are_lists : LedgersAreLists
ledgers_are_lists = record { offers = outs_offer; retakes = outs_retake; steals = outs_steal }
