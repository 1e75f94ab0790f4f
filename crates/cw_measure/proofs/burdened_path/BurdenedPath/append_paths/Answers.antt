use Rattle.std.proofs.Common.{◌+◌, ◌-◌, ◌≡◌, length, [], ◌∷◌, refl, sym, ap, ◌∙◌, take, rules, arith}
use Rattle.std.proofs.Math.Nat.{mod-eq_of_lt}
use Rattle.cw_measure.specs.declared.burdened_path.BurdenedBlock.{BurdenedBlock}
use Rattle.cw_measure.specs.declared.burdened_path.BurdenedPath.{BurdenedPath}
use Rattle.cw_measure.specs.StrandWeights.{reversed}
use Rattle.cw_measure.proofs.StrandWeightLaws.{reversed-last}
use Rattle.cw_measure.proofs.PieceWeightLaws.{paths_appended}
use Rattle.cw_measure.proofs.burdened_path.BurdenedPath.append_paths.Goals as goal

pub returns-clause-weight : goal.returns-clause-weight
returns-clause-weight c =
    let piece = c.args.piece.now in
    let blocks = piece.blocks.items in
    let i = c.len-len.result - 1 in
    let b = c.index.result.now in
    let len : c.len-len.result ≡ length blocks = search rules in
    let last : i + 1 ≡ length blocks = omega arith in
    let rest = reversed (take i blocks) [] in
    let top = reversed-last blocks i b last ∙ ap (λ (x : BurdenedBlock). x ∷ rest) (sym c.index.ensures) in
    let mid = c.lengthen.new.self in
    let new : BurdenedPath = record { weight = _; noted = mid.noted; blocks = mid.blocks } in
    paths_appended c.args.first c.args.self.now mid piece new _ b rest top c.in_ok-lengthen.ensures.weight (λ h. mod-eq_of_lt h) (λ h. mod-eq_of_lt h) refl
