use Rattle.std.proofs.Common.{◌≡◌, ◌∷◌, ◌++◌, [], arith}
use Rattle.std.proofs.lemmas.Grind.{common_steps}
use Rattle.cw_model.specs.declared.syntax.NameKind.TheVariants as name_kind
use Rattle.cw_types.specs.Uses.{uses_in}
use Rattle.cw_tree.specs.SyntaxView.{expr_of, program_of}
use Rattle.cw_types.proofs.Misuse.{in_first, in_right, in_rest}
use Rattle.cw_types.proofs.rules.+of_expr.Goals as goal

pub returns-in_ok-reason-in-Element-clause-holds : goal.returns-in_ok-reason-in-Element-clause-holds
returns-in_ok-reason-in-Element-clause-holds t c =
    let inner = uses_in (expr_of c.deref-in-Element.result.now) in
    let seen : uses_in (expr_of c.args.e.now) ≡ (c.in-Element.a, name_kind.Const) ∷ inner = grind (arith, common_steps) in
    in_rest (program_of c.args.globals.now.ast.now) c.args.known.now (c.in-Element.a, name_kind.Const) inner (uses_in (expr_of c.args.e.now)) c.in_ok-reason-in-Element.reason
    seen c.in_ok-reason-in-Element.ensures.holds

pub returns-in_ok-reason-in-Binary-clause-holds : goal.returns-in_ok-reason-in-Binary-clause-holds
returns-in_ok-reason-in-Binary-clause-holds t c =
    let left = uses_in (expr_of c.deref-in-Binary.result.now) in
    let right = uses_in (expr_of c.deref-in-Binary-2.result.now) in
    let seen : uses_in (expr_of c.args.e.now) ≡ left ++ right = grind (arith, common_steps) in
    in_right (program_of c.args.globals.now.ast.now) c.args.known.now left right (uses_in (expr_of c.args.e.now)) c.in_ok-reason-in-Binary.reason
    seen c.in_ok-reason-in-Binary.ensures.holds

pub returns-in-Some-clause-holds : goal.returns-in-Some-clause-holds
returns-in-Some-clause-holds t c =
    let inner = uses_in (expr_of c.in-Element.e.value) in
    let seen : uses_in (expr_of c.args.e.now) ≡ (c.in-Element.a, name_kind.Const) ∷ inner = grind (arith, common_steps) in
    in_first (program_of c.args.globals.now.ast.now) c.args.known.now (c.in-Element.a, name_kind.Const) inner (uses_in (expr_of c.args.e.now)) c.in-Some.reason
    seen c.in-Some.ensures.holds

pub returns-in_ok-of_use-in-Variable-clause-holds : goal.returns-in_ok-of_use-in-Variable-clause-holds
returns-in_ok-of_use-in-Variable-clause-holds t c =
    let seen : uses_in (expr_of c.args.e.now) ≡ (c.in-Variable.x, name_kind.Integer) ∷ [] = grind (arith, common_steps) in
    in_first (program_of c.args.globals.now.ast.now) c.args.known.now (c.in-Variable.x, name_kind.Integer) [] (uses_in (expr_of c.args.e.now)) c.in_ok-of_use-in-Variable.field-0
    seen c.in_ok-of_use-in-Variable.ensures.holds

pub returns-in_ok-of_use-in-Length-clause-holds : goal.returns-in_ok-of_use-in-Length-clause-holds
returns-in_ok-of_use-in-Length-clause-holds t c =
    let seen : uses_in (expr_of c.args.e.now) ≡ (c.in-Length.a, name_kind.Const) ∷ [] = grind (arith, common_steps) in
    in_first (program_of c.args.globals.now.ast.now) c.args.known.now (c.in-Length.a, name_kind.Const) [] (uses_in (expr_of c.args.e.now)) c.in_ok-of_use-in-Length.field-0
    seen c.in_ok-of_use-in-Length.ensures.holds
