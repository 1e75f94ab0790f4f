use Rattle.std.proofs.Common.{◌≡◌, ◌∷◌, [], ap, arith, true, ◌∙◌}
use Rattle.std.proofs.lemmas.Grind.{common_steps}
use Rattle.cw_model.specs.Syntax.{Variable, is_array_kind}
use Rattle.cw_tree.specs.declared.syntax.Expr.{the_lemmas}
use Rattle.cw_tree.specs.SyntaxView.{expr_of, program_of}
use Rattle.cw_types.specs.Uses.{uses_in_argument}
use Rattle.cw_types.proofs.Misuse.{in_first, used_alone}
use Rattle.cw_types.proofs.rules.of_argument.Goals as goal

pub returns-in_ok-of_use-in-Variable-clause-holds : goal.returns-in_ok-of_use-in-Variable-clause-holds
returns-in_ok-of_use-in-Variable-clause-holds c =
    let kind = c.args.param.now.kind in
    let used = uses_in_argument kind (expr_of c.args.e.now) in
    let array : is_array_kind kind ≡ true = grind (arith, common_steps) in
    let alone : expr_of c.args.e.now ≡ Variable c.in-Variable.a = grind (arith, common_steps, the_lemmas) in
    let seen : used ≡ (c.in-Variable.a, kind) ∷ [] =
    ap (uses_in_argument kind) alone ∙ used_alone kind c.in-Variable.a array in
    in_first (program_of c.args.globals.now.ast.now) c.args.known.now (c.in-Variable.a, kind) [] used c.in_ok-of_use-in-Variable.field-0
    seen c.in_ok-of_use-in-Variable.ensures.holds
