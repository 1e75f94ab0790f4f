use Rattle.std.proofs.Common.{arith}
use Rattle.cw_sites.proofs.AppendLaws.{none_stepped, one_stepped, all_stepped}
use Rattle.cw_sites.proofs.paths.Paths.extend_by.Goals as goal

pub loop-i-init : goal.loop-i-init
loop-i-init c = none_stepped c.args.self.now c.args.steps.now.items c.args.from

pub loop-i-preserved : goal.loop-i-preserved
loop-i-preserved c =
    one_stepped c.args.self.now c.loop-i.self c.step.new.self c.args.steps.now.items c.args.from c.loop-i.i c.index-one.result.now (omega arith) (omega arith) c.index-one.ensures c.in_ok-step.ensures.laid c.in_ok-step.ensures.strand_path c.in_ok-step.ensures.bounded c.loop-i.invariant

pub returns-clause-path : goal.returns-clause-path
returns-clause-path c = λ order within laid q fits.
    all_stepped c.args.self.now c.loop-i.self c.args.steps.now.items c.args.from c.args.to c.loop-i.i c.args.weight c.saturating_add-self.result (λ o w. omega arith) (λ h. omega arith) c.loop-i.invariant order within laid q fits

pub returns-clause-bounded : goal.returns-clause-bounded
returns-clause-bounded c = λ most a b. let k = c.loop-i.invariant.bounded most a b in record { laid = record { blocks = k.laid.blocks; start = k.laid.start }; sites = k.sites; limit = k.limit; blocks = k.blocks; now = k.now }
