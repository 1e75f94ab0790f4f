use Rattle.cw_model.proofs.Sites.{sites_add_up}
use Rattle.cw_model.proofs.laws.sites_add_up.Goals as goal

pub returns : goal.returns
returns c = sites_add_up
