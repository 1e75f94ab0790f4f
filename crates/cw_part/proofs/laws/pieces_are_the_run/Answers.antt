use Rattle.cw_part.proofs.StandingLaws as told
use Rattle.cw_part.proofs.laws.pieces_are_the_run.Goals as goal

pub returns : goal.returns
returns c = told.pieces_are_the_run c.measures_read_trees.ensures
