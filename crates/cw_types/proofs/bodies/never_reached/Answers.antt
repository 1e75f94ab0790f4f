use Rattle.std.proofs.Common.{◌≡◌, ◌==◌, true, false, length, sym, arith}
use Rattle.std.proofs.lemmas.Grind.{common_steps}
use Rattle.cw_tree.specs.SyntaxView.{stmt_of}
use Rattle.cw_model.specs.Typing.{surely_returns}
use Rattle.cw_types.proofs.Walking.{begins}
use Rattle.cw_types.proofs.bodies.never_reached.Goals as goal

pub returns-clause-holds : goal.returns-clause-holds
returns-clause-holds c =
    let behind = c.args.behind.now in
    let some : (length behind == 0) ≡ false = sym c.if-is_empty.ensures in
    let sure : surely_returns (stmt_of c.args.line.now.stmt) ≡ true = grind (arith, common_steps) in
    λ returns known. (sure, begins behind c.index-behind-0.result some)
