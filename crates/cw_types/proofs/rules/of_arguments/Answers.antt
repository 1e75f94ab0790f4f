use Rattle.std.proofs.lemmas.List.{length-map}
use Rattle.cw_model.specs.Syntax.{is_array_kind}
use Rattle.cw_model.specs.Typing.{are_arguments}
use Rattle.cw_types.proofs.Noting.{unequal}
use Rattle.std.proofs.Common.{map, not, ap, ◌∙◌, ◌≡◌, ◌<◌, length, refl, subst, sym, arith, get_or, true, false}
use Rattle.std.proofs.lemmas.Grind.{common_steps}
use Rattle.cw_types.specs.Uses.{uses_in_argument}
use Rattle.cw_tree.specs.declared.syntax.Expr.{Expr}
use Rattle.cw_tree.specs.declared.syntax.Param.{Param}
use Rattle.cw_tree.specs.SyntaxView.{expr_of, exprs_of, param_of, program_of}
use Rattle.cw_types.specs.Scope.{kinds}
use Rattle.cw_types.specs.Reasons.{IsMisuseIn, Misused, Wrong, is_name}
use Rattle.cw_types.proofs.Misuse.{argument_at, in_arguments, param_at}
use Rattle.cw_types.proofs.rules.of_arguments.Goals as goal

pub returns-in-Some-clause-holds : goal.returns-in-Some-clause-holds
returns-in-Some-clause-holds c =
    let program = program_of c.args.globals.now.ast.now in
    let locals = c.args.known.now in
    let within : c.loop-i.i < length c.args.arguments.now = omega (arith, c.loop-i-test.true, c.loop-i.invariant.as_many) in
    let ps = c.as_slice-params.result.now in
    let counted : c.loop-i.i < length ps = c.loop-i-test.true in
    let at_param = subst (λ (p : Param). IsMisuseIn program locals (uses_in_argument p.kind (expr_of c.index-arguments-i.result)) c.in-Some.reason)
    c.index-params-i.is c.in-Some.ensures.holds in
    let at_both = subst (λ (e : Expr). IsMisuseIn program locals (uses_in_argument (get_or ps c.loop-i.i c.index-params-i.result).kind (expr_of e)) c.in-Some.reason)
    c.index-arguments-i.is at_param in
    let all = in_arguments program locals ps c.args.arguments.now c.loop-i.i c.index-params-i.result c.index-arguments-i.result c.in-Some.reason
    counted within at_both in
    Misused (rw (sym c.as_slice-params.ensures.value) all)

pub returns-then-not-is_name-clause-holds : goal.returns-then-not-is_name-clause-holds
returns-then-not-is_name-clause-holds c =
    let ps = c.as_slice-params.result.now in
    let p = c.index-params-i.result in
    let e = c.index-arguments-i.result in
    let counted : c.loop-i.i < length ps = c.loop-i-test.true in
    let within : c.loop-i.i < length c.args.arguments.now = omega (arith, c.loop-i-test.true, c.loop-i.invariant.as_many) in
    let array : is_array_kind p.kind ≡ true = grind (arith, common_steps) in
    let no_name : is_name (expr_of e) ≡ false = grind (arith, common_steps) in
    Wrong (
      refl,
      refl,
      record {
        index = c.loop-i.i;
        counted = refl;
        wanted = rw (sym c.as_slice-params.ensures.value) (param_at ps c.loop-i.i p p counted c.index-params-i.is array);
        given = argument_at c.args.arguments.now c.loop-i.i e e within c.index-arguments-i.is no_name;
      },
    )

pub returns-then-params-arguments-clause-decides : goal.returns-then-params-arguments-clause-decides
returns-then-params-arguments-clause-decides c =
    let ps = c.as_slice-params.result.now in
    let es = c.args.arguments.now in
    let differ : are_arguments (kinds c.args.known.now) (map param_of ps) (exprs_of es) ≡ false =
    unequal (kinds c.args.known.now) (map param_of ps) (exprs_of es) (λ e. c.if-params-arguments.true (sym (length-map ps param_of) ∙ e ∙ length-map es expr_of)) in
    rw (sym c.as_slice-params.ensures.value) (ap not (sym differ))
