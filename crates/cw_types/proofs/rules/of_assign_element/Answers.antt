use Rattle.std.proofs.Common.{◌∷◌, ◌++◌, refl}
use Rattle.cw_model.specs.declared.syntax.NameKind.TheVariants as name_kind
use Rattle.cw_types.specs.Uses.{Use, uses_in}
use Rattle.cw_tree.specs.SyntaxView.{expr_of, program_of}
use Rattle.cw_types.proofs.Misuse.{in_first, in_rest}
use Rattle.cw_types.proofs.rules.of_assign_element.Goals as goal

pub returns-in-Some-clause-holds : goal.returns-in-Some-clause-holds
returns-in-Some-clause-holds c =
    let a : Use = (c.args.a.now, name_kind.Array) in
    let ys = uses_in (expr_of c.args.i.now) ++ uses_in (expr_of c.args.e.now) in
    in_first (program_of c.args.globals.now.ast.now) c.args.known.now a ys (a ∷ ys) c.in-Some.reason refl c.in-Some.ensures.holds

pub returns-clause-holds : goal.returns-clause-holds
returns-clause-holds c =
    let a : Use = (c.args.a.now, name_kind.Array) in
    let ys = uses_in (expr_of c.args.i.now) ++ uses_in (expr_of c.args.e.now) in
    in_rest (program_of c.args.globals.now.ast.now) c.args.known.now a ys (a ∷ ys) c.in_ok-reason.reason refl c.in_ok-reason.ensures.holds
