use Rattle.std.proofs.Common.{subst}
use Rattle.cw_model.specs.declared.syntax.NameKind.TheVariants as name_kind
use Rattle.cw_model.specs.Syntax.{Name}
use Rattle.cw_tree.specs.SyntaxView.{program_of}
use Rattle.cw_types.specs.Reasons.{IsMisuse}
use Rattle.cw_types.proofs.Misuse.{in_arrays}
use Rattle.cw_types.proofs.rules.of_arrays.Goals as goal

pub returns-in-Some-clause-holds : goal.returns-in-Some-clause-holds
returns-in-Some-clause-holds c =
    let program = program_of c.args.globals.now.ast.now in
    let locals = c.args.known.now in
    in_arrays program locals c.args.names.now c.loop-a.a-index c.a-item.result c.in-Some.reason c.loop-a-test.true
    (subst (λ (x : Name). IsMisuse program locals (x, name_kind.Array) c.in-Some.reason) c.a-item.is c.in-Some.ensures.holds)
