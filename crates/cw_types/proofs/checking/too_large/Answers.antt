use Rattle.cw_tree.specs.SyntaxView.{program_of}
use Rattle.cw_types.proofs.Refusing.{limit_told}
use Rattle.cw_types.proofs.checking.too_large.Goals as goal

pub returns : goal.returns
returns c = limit_told (program_of c.args.ast.now) c.in_ok-size.size c.in_ok-size.ensures.lines c.in_ok-size.ensures.holds
