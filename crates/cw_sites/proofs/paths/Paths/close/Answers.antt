use Rattle.std.proofs.Common.{◌+◌, ◌%◌, ◌^◌, ◌≡◌, arith}
use Rattle.cw_sites.proofs.PathLaws.{closed_laid, closed_strand_path}
use Rattle.std.proofs.Math.Nat.{mod-eq_of_lt}
use Rattle.cw_sites.proofs.paths.Paths.close.Goals as goal

pub returns-clause-laid : goal.returns-clause-laid
returns-clause-laid c = λ laid. let o = laid.order in let o0 = o.0 in let o1 = o.1 in let o2 = o.2 in let c0 = laid.child in let b0 = laid.start in
    let cut = c.take_out.ensures.cut (omega arith) (omega arith) in
    let h = closed_laid c.args.self.now.steps.items c.take_out.new.steps.items c.args.self.now.start c.args.self.now.blocks.items c.args.f laid.blocks laid.order laid.child laid.start cut in
    record { blocks = h.0; start = h.1 }

pub returns-clause-strand_path : goal.returns-clause-strand_path
returns-clause-strand_path c = λ laid q small. let o = laid.order in let o0 = o.0 in let o1 = o.1 in let o2 = o.2 in let c0 = laid.child in let b0 = laid.start in
    let cut = c.take_out.ensures.cut (omega arith) (omega arith) in
    let w : (c.args.f.base + c.args.self.now.weight) % 2 ^ 64 ≡ c.args.f.base + c.args.self.now.weight = mod-eq_of_lt small in
    closed_strand_path q c.args.self.now.steps.items c.take_out.new.steps.items c.args.self.now.weight ((c.args.f.base + c.args.self.now.weight) % 2 ^ 64) c.args.self.now.start c.args.self.now.blocks.items c.args.f laid.blocks laid.order laid.child laid.start cut w

pub returns-clause-bounded : goal.returns-clause-bounded
returns-clause-bounded c = λ most b. let laid = b.laid in let o = laid.order in let o0 = o.0 in let o1 = o.1 in let o2 = o.2 in let c0 = laid.child in let b0 = laid.start in
    let cut = c.take_out.ensures.cut (omega arith) (omega arith) in
    let h = closed_laid c.args.self.now.steps.items c.take_out.new.steps.items c.args.self.now.start c.args.self.now.blocks.items c.args.f laid.blocks laid.order laid.child laid.start cut in
    let n = cut.count_is in let m = b.now in let k = b.block.0 in
    record { laid = record { blocks = h.0; start = h.1 }; sites = c.take_out.ensures.kept most b.sites; limit = b.limit; blocks = b.blocks; now = omega arith }
