use Rattle.cw_part.proofs.ElisionLaws as told
use Rattle.cw_part.proofs.laws.pieces_are_the_elision.Goals as goal

pub returns : goal.returns
returns c = record {
  answer = told.pieces_are_the_elision c.measures_read_trees.ensures c.normal_form_reads_the_same.ensures;
  totals = told.updates_are_totals c.sums_hold_integers.ensures;
}
