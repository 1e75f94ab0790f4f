use Rattle.cw_part.proofs.EffectLaws as effects
use Rattle.cw_part.proofs.laws.effects_join_as_parts.Goals as goal

pub returns : goal.returns
returns c = record {
  views = effects.effects_show_views c.sums_hold_integers.ensures;
  readings = effects.runs_read_as_measures c.measures_read_trees.ensures c.normal_form_reads_the_same.ensures;
  outcomes = effects.effects_follow c.sums_hold_integers.ensures c.measures_read_trees.ensures;
}
