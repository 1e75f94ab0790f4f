use Rattle.std.proofs.Common.{◌∷◌, [], refl}
use Rattle.cw_tree.specs.SyntaxView.{program_of}
use Rattle.cw_types.specs.Reasons.{Taken}
use Rattle.cw_types.proofs.Misuse.{not_new_at}
use Rattle.cw_types.proofs.rules.of_declare.Goals as goal

pub returns-clause-holds : goal.returns-clause-holds
returns-clause-holds c =
    let x = c.args.x.now in
    Taken (not_new_at (program_of c.args.globals.now.ast.now) c.args.known.now x [] [] (x ∷ []) c.in_ok-reason.reason refl c.in_ok-reason.ensures.holds)
