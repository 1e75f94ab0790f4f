use Rattle.std.proofs.Common.{◌∷◌, [], refl}
use Rattle.cw_tree.specs.SyntaxView.{program_of}
use Rattle.cw_types.specs.Reasons.{Taken}
use Rattle.cw_types.proofs.Misuse.{not_new_at}
use Rattle.cw_types.proofs.rules.of_cut.Goals as goal

pub returns-in-Some-of_declared-clause-holds : goal.returns-in-Some-of_declared-clause-holds
returns-in-Some-of_declared-clause-holds c =
    let x = c.args.cut.now.left in
    let y = c.args.cut.now.right in
    Taken (not_new_at (program_of c.args.globals.now.ast.now) c.args.known.now x [] (y ∷ []) (x ∷ y ∷ []) c.in-Some-of_declared.reason
    refl c.in-Some-of_declared.ensures.holds)

pub returns-clause-holds : goal.returns-clause-holds
returns-clause-holds c =
    let x = c.args.cut.now.left in
    let y = c.args.cut.now.right in
    Taken (not_new_at (program_of c.args.globals.now.ast.now) c.args.known.now y (x ∷ []) [] (x ∷ y ∷ []) c.in_ok-reason.reason
    refl c.in_ok-reason.ensures.holds)
