use Rattle.cw_parse.proofs.FaultLaws.{faults_are_one}
use Rattle.cw_parse.proofs.laws.no_tree_with_a_fault.Goals as goal

pub returns : goal.returns
returns c = λ text ts. faults_are_one text ts
