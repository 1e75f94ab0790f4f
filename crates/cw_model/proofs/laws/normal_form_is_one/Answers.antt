use Rattle.cw_model.specs.lemmas.Regrouping.{normal-normal, normal_is_regrouped, same_normal}
use Rattle.cw_model.proofs.laws.normal_form_is_one.Goals as goal

pub returns : goal.returns
returns c = record { grouped = normal_is_regrouped; one = same_normal; its_own = normal-normal }
