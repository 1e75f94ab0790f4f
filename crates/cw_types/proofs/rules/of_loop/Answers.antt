use Rattle.std.proofs.Common.{◌∷◌, ◌++◌, [], refl}
use Rattle.cw_types.specs.Uses.{as_arrays, uses_in}
use Rattle.cw_tree.specs.SyntaxView.{expr_of, program_of}
use Rattle.cw_types.specs.Reasons.{Misused, Taken}
use Rattle.cw_types.proofs.Misuse.{in_right, not_new_at}
use Rattle.cw_types.proofs.rules.of_loop.Goals as goal

pub returns-in-Some-of_declared-clause-holds : goal.returns-in-Some-of_declared-clause-holds
returns-in-Some-of_declared-clause-holds c =
    let x = c.args.head.now.variable in
    Taken (not_new_at (program_of c.args.globals.now.ast.now) c.args.known.now x [] [] (x ∷ []) c.in-Some-of_declared.reason
    refl c.in-Some-of_declared.ensures.holds)

pub returns-clause-holds : goal.returns-clause-holds
returns-clause-holds c =
    let over = c.args.head.now.over.items in
    let ys = uses_in (expr_of c.args.head.now.from) ++ uses_in (expr_of c.args.head.now.to) in
    Misused (in_right (program_of c.args.globals.now.ast.now) c.args.known.now (as_arrays over) ys (as_arrays over ++ ys) c.in_ok-reason.reason
    refl c.in_ok-reason.ensures.holds)
