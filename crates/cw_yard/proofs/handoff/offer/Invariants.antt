use Rattle.std.proofs.Common.{length}
use Rattle.crossbeam_deque.specs.Handles.{worker_view}
use Rattle.cw_yard.specs.declared.view.Stage.TheVariants.{Held}
use Rattle.cw_yard.specs.Words.{offered}
use Rattle.cw_yard.proofs.handoff.offer.Given as goal

abbrev pub ghosts-offer_held : goal.ghosts-offer_held
ghosts-offer_held a = record { stage = Held (length (offered (worker_view a.own.now))) a.job }
