use Rattle.std.proofs.Common.{◌+◌, ap, ◌∙◌, arith}
use Rattle.std.proofs.Math.Nat.{mod-eq_of_lt}
use Rattle.cw_measure.specs.declared.burdened_path.BurdenedPath.{BurdenedPath}
use Rattle.cw_measure.proofs.PieceWeightLaws.{appended_weight}
use Rattle.cw_measure.proofs.burdened_path.BurdenedPath.append.Goals as goal

pub returns : goal.returns
returns c =
    let mid = c.append_paths.new.self in
    let new : BurdenedPath = record { weight = mid.weight; noted = _; blocks = mid.blocks } in
    appended_weight c.args.self.now c.args.piece.now new c.args.first c.in_ok-append_paths.ensures.weight (λ h. let e = c.in_ok-append_paths.ensures.noted in mod-eq_of_lt (omega arith) ∙ ap (λ n. n + c.args.piece.now.noted) e)
