use Rattle.std.proofs.Common.{◌≡◌, ◌∷◌, ◌++◌, arith}
use Rattle.std.proofs.lemmas.Grind.{common_steps}
use Rattle.cw_model.specs.declared.syntax.NameKind.TheVariants as name_kind
use Rattle.cw_model.specs.Typing.{called}
use Rattle.cw_tree.specs.SyntaxView.{exprs_of, program_of}
use Rattle.cw_types.specs.Reasons.{Misused}
use Rattle.cw_types.specs.Uses.{Use, uses_as_target, uses_in_call}
use Rattle.cw_types.proofs.Misuse.{in_first}
use Rattle.cw_types.proofs.rules.of_target.Goals as goal

pub returns-in-Some-of_use-clause-holds : goal.returns-in-Some-of_use-clause-holds
returns-in-Some-of_use-clause-holds c =
    let program = program_of c.args.globals.now.ast.now in
    let es = uses_in_call (called c.args.call.now.callee program.functions) (exprs_of c.args.call.now.arguments.items) in
    let x : Use = (c.in-Some.target, name_kind.Integer) in
    let seen : uses_as_target c.args.call.now.target ++ es ≡ x ∷ es = grind (arith, common_steps) in
    Misused (in_first program c.args.known.now x es (uses_as_target c.args.call.now.target ++ es)
    c.in-Some-of_use.reason seen c.in-Some-of_use.ensures.holds)
