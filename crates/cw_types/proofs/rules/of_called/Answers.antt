use Rattle.std.proofs.Common.{sym}
use Rattle.cw_tree.specs.SyntaxView.{exprs_of, function_of, program_of}
use Rattle.cw_types.proofs.Misuse.{of_list}
use Rattle.cw_types.proofs.rules.of_called.Goals as goal

pub returns-clause-holds : goal.returns-clause-holds
returns-clause-holds c =
    of_list (program_of c.args.globals.now.ast.now) c.args.known.now c.args.call.now.target c.args.call.now.callee
    (function_of c.args.function.now) (exprs_of c.args.call.now.arguments.items) c.in_ok-reason.reason
    c.requires (rw (sym c.as_slice.ensures.value) c.in_ok-reason.ensures.holds)
