use Rattle.cw_parse.proofs.Items.{one_tree}
use Rattle.cw_parse.proofs.laws.one_tree.Goals as goal

pub returns : goal.returns
returns c = λ text ts. one_tree text ts
