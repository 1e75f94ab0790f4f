use Rattle.std.proofs.Common.{refl, sym, ap, ◌∙◌, arith}
use Rattle.cw_sites.specs.declared.paths.Paths.{Paths}
use Rattle.cw_sites.specs.StrandPaths.{joins}
use Rattle.cw_sites.proofs.PathLaws.{laid_with, strand_path_by, fits_with}
use Rattle.cw_sites.proofs.PathBoundLaws.{tight_with}
use Rattle.cw_sites.proofs.paths.Paths.join.Goals as goal

pub returns-in-Some-clause-laid : goal.returns-in-Some-clause-laid
returns-in-Some-clause-laid c = λ laid. let r : Paths = record { steps = c.args.self.now.steps; weight = c.args.self.now.weight; start = c.args.self.now.start; blocks = c.pop.new.self; limit = c.args.self.now.limit } in
    c.join_block.ensures.laid (laid_with c.args.self.now r c.in-Some.f c.in-Some.ensures.items refl refl laid)

pub returns-in-Some-clause-strand_path : goal.returns-in-Some-clause-strand_path
returns-in-Some-clause-strand_path c = λ laid q fits. let r : Paths = record { steps = c.args.self.now.steps; weight = c.args.self.now.weight; start = c.args.self.now.start; blocks = c.pop.new.self; limit = c.args.self.now.limit } in
    let k = fits_with q c.args.self.now r c.in-Some.f c.in-Some.ensures.items fits in
    let k0 = k.0 in
    c.join_block.ensures.strand_path (laid_with c.args.self.now r c.in-Some.f c.in-Some.ensures.items refl refl laid) q (omega arith) (omega arith)
    ∙ sym (ap joins (strand_path_by q c.args.self.now r c.in-Some.f c.in-Some.ensures.items))

pub returns-in-Some-clause-bounded : goal.returns-in-Some-clause-bounded
returns-in-Some-clause-bounded c = λ most b. let r : Paths = record { steps = c.args.self.now.steps; weight = c.args.self.now.weight; start = c.args.self.now.start; blocks = c.pop.new.self; limit = c.args.self.now.limit } in
    c.join_block.ensures.bounded most (tight_with most c.args.self.now r c.in-Some.f c.in-Some.ensures.items refl refl refl b)
