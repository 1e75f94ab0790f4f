use Rattle.cw_model.specs.Trees.{normal}
use Rattle.cw_model.specs.lemmas.Regrouping.{normal_is_regrouped, same_readings}
use Rattle.cw_model.proofs.laws.normal_form_reads_the_same.Goals as goal

pub returns : goal.returns
returns c = λ t. same_readings (normal t) t (normal_is_regrouped t)
