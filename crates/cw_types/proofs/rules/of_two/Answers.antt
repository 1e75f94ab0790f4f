use Rattle.std.proofs.Common.{◌++◌, refl}
use Rattle.cw_types.specs.Uses.{uses_in}
use Rattle.cw_tree.specs.SyntaxView.{expr_of, program_of}
use Rattle.cw_types.proofs.Misuse.{in_right}
use Rattle.cw_types.proofs.rules.of_two.Goals as goal

pub returns-clause-holds : goal.returns-clause-holds
returns-clause-holds c =
    let left = uses_in (expr_of c.args.d.now) in
    let right = uses_in (expr_of c.args.e.now) in
    in_right (program_of c.args.globals.now.ast.now) c.args.known.now left right (left ++ right) c.in_ok-reason.reason refl c.in_ok-reason.ensures.holds
