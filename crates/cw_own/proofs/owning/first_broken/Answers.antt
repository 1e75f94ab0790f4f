use Rattle.std.proofs.Common.{Option, MatchOption, sym, subst}
use Rattle.cw_model.specs.Ownership.{KeepsOwnership}
use Rattle.cw_tree.specs.ResolvedView.{program_of}
use Rattle.cw_text.specs.declared.reasons.At.{At}
use Rattle.cw_own.specs.Faults.{IsLeastFault}
use Rattle.cw_own.specs.declared.reason.Disowned.{Disowned}
use Rattle.cw_own.proofs.owning.first_broken.Goals as goal

pub returns : goal.returns
returns c =
    let tree = c.args.typed.now.tree in
    subst (λ (o : Option (At Disowned)). MatchOption o (KeepsOwnership (program_of tree)) (IsLeastFault tree)) (sym c.first.ensures) c.in_ok-told.ensures.first
