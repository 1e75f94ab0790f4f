use Rattle.std.proofs.Common.{ℕ, [], ap, arith}
use Rattle.cw_measure.specs.StrandWeights.{reversed}
use Rattle.cw_measure.proofs.StrandWeightLaws.{noted_weight, late_noted, weighs}
use Rattle.cw_measure.proofs.burdened_path.BurdenedPath.note.Goals as goal

pub returns-clause-tells : goal.returns-clause-tells
returns-clause-tells c = λ burden os es fs since fits h.
    let le = since.goes_on in
    noted_weight burden os es fs c.args.self.now _ c.args.count since fits h (λ small. ap (λ (x : ℕ). weighs x (reversed c.args.self.now.blocks.items [])) (omega arith)) (omega arith)

pub returns-clause-weight : goal.returns-clause-weight
returns-clause-weight c = λ le small. ap (λ (x : ℕ). weighs x (reversed c.args.self.now.blocks.items [])) (omega arith)

pub returns-clause-late : goal.returns-clause-late
returns-clause-late c = late_noted c.args.self.now _ c.args.count (λ le small. ap (λ (x : ℕ). weighs x (reversed c.args.self.now.blocks.items [])) (omega arith)) (omega arith)
