use Rattle.std.proofs.Math.Nat.{mod-eq_of_lt}
use Rattle.std.proofs.Common.{arith}
use Rattle.cw_sites.proofs.PathLaws.{extended_strand_path}
use Rattle.cw_sites.proofs.paths.Paths.grow.Goals as goal

pub returns-clause-strand_path : goal.returns-clause-strand_path
returns-clause-strand_path c = λ site has laid q fits. extended_strand_path q c.args.self.now.steps.items c.grow_steps.new.steps.items c.args.self.now.weight _ c.args.self.now.start site c.args.count c.args.self.now.blocks.items
    (λ n h k. let b = has.behind in c.grow_steps.ensures.below q n (omega arith) k) (c.grow_steps.ensures.all c.args.self.now.start site has q) mod-eq_of_lt laid.blocks laid.start fits

pub returns-clause-bounded : goal.returns-clause-bounded
returns-clause-bounded c = λ site room most h le b.
    let l = b.laid in let n = b.now in let p = l.start in let k = c.grow_steps.ensures.as_long in
    record { laid = record { blocks = l.blocks; start = omega arith }; sites = c.grow_steps.ensures.kept most b.sites; limit = b.limit; blocks = b.blocks; now = omega arith }
