use Rattle.cw_greedy_schedule.proofs.rows.MinTree.+new.Given as goal

abbrev pub decreases-new : goal.decreases-new
decreases-new l = l.places
