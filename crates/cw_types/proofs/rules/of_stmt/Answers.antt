use Rattle.std.proofs.Common.{◌≡◌, arith}
use Rattle.std.proofs.lemmas.Grind.{common_steps}
use Rattle.cw_model.specs.Syntax as model
use Rattle.cw_tree.specs.declared.syntax.Stmt.{the_lemmas}
use Rattle.cw_tree.specs.SyntaxView.{exprs_of, stmt_of}
use Rattle.cw_types.proofs.rules.of_stmt.Goals as goal

pub returns-in-Call-clause-holds : goal.returns-in-Call-clause-holds
returns-in-Call-clause-holds c =
    let call = c.deref.result.now in
    let seen : stmt_of c.args.stmt.now ≡ model.Call call.kind call.site call.target call.callee (exprs_of call.arguments.items) =
    grind (arith, common_steps, the_lemmas) in
    rw seen c.of_call.ensures.holds
