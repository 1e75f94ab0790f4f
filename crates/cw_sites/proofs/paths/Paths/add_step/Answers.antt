use Rattle.cw_sites.proofs.AppendLaws.{stepped}
use Rattle.std.proofs.Common.{arith}
use Rattle.cw_sites.proofs.paths.Paths.add_step.Goals as goal

pub returns-clause-strand_path : goal.returns-clause-strand_path
returns-clause-strand_path c = λ laid q fits. stepped q c.args.self.now.steps.items c.add_steps.new.steps.items c.args.self.now.weight c.args.self.now.start c.args.one.site c.args.one.count c.args.self.now.blocks.items (c.in_ok-_at.ensures.below q) (c.in_ok-_at.ensures.all q) laid.blocks laid.start fits

pub returns-clause-bounded : goal.returns-clause-bounded
returns-clause-bounded c = λ room most h b.
    let l = b.laid in let n = b.now in
    let s = c.in_ok-_at.ensures.longer in let k = c.in_ok-_at.ensures.short in
    let p = l.start in
    record { laid = record { blocks = l.blocks; start = omega arith }; sites = c.in_ok-_at.ensures.kept most h b.sites; limit = b.limit; blocks = b.blocks; now = omega arith }
