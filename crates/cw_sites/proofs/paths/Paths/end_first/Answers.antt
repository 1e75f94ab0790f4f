use Rattle.std.proofs.Common.{refl, ◌+◌, ◌<◌, ◌^◌, sym, ap, ◌∙◌, arith, []}
use Rattle.cw_sites.specs.declared.paths.Paths.{Paths}
use Rattle.cw_sites.specs.StrandPaths.{ends}
use Rattle.cw_sites.specs.StepLists.{seen_blocks, strand_path}
use Rattle.cw_sites.proofs.PathLaws.{laid_with, strand_path_by, fits_with, ends_taken, ends_gone}
use Rattle.cw_sites.proofs.PathBoundLaws.{tight_with}
use Rattle.cw_sites.proofs.paths.Paths.end_first.Goals as goal

pub returns-then-is_longest-clause-laid : goal.returns-then-is_longest-clause-laid
returns-then-is_longest-clause-laid c = λ laid. let r : Paths = record { steps = c.args.self.now.steps; weight = c.args.self.now.weight; start = c.args.self.now.start; blocks = c.pop.new.self; limit = c.args.self.now.limit } in
    c.take_first.ensures.laid (laid_with c.args.self.now r c.in-Some.f c.in-Some.ensures.items refl refl laid)

pub returns-then-is_longest-clause-strand_path : goal.returns-then-is_longest-clause-strand_path
returns-then-is_longest-clause-strand_path c = λ laid q fits. let r : Paths = record { steps = c.args.self.now.steps; weight = c.args.self.now.weight; start = c.args.self.now.start; blocks = c.pop.new.self; limit = c.args.self.now.limit } in
    let k = fits_with q c.args.self.now r c.in-Some.f c.in-Some.ensures.items fits in
    let k0 = k.0 in let k1 = k.1 in
    let small : c.in-Some.f.rest + c.args.self.now.weight < 2 ^ 64 = omega arith in
    let test = sym (c.is_longest.ensures small) ∙ c.if-is_longest.true in
    c.take_first.ensures.strand_path (laid_with c.args.self.now r c.in-Some.f c.in-Some.ensures.items refl refl laid) q (omega arith, omega arith)
    ∙ ends_taken q c.args.self.now.steps.items c.in-Some.f (strand_path q c.args.self.now).now (seen_blocks q c.args.self.now.steps.items c.pop.new.self.items []) test
    ∙ sym (ap ends (strand_path_by q c.args.self.now r c.in-Some.f c.in-Some.ensures.items))

pub returns-else-is_longest-clause-laid : goal.returns-else-is_longest-clause-laid
returns-else-is_longest-clause-laid c = λ laid. let r : Paths = record { steps = c.args.self.now.steps; weight = c.args.self.now.weight; start = c.args.self.now.start; blocks = c.pop.new.self; limit = c.args.self.now.limit } in
    c.let_go.ensures.laid (laid_with c.args.self.now r c.in-Some.f c.in-Some.ensures.items refl refl laid)

pub returns-else-is_longest-clause-strand_path : goal.returns-else-is_longest-clause-strand_path
returns-else-is_longest-clause-strand_path c = λ laid q fits. let r : Paths = record { steps = c.args.self.now.steps; weight = c.args.self.now.weight; start = c.args.self.now.start; blocks = c.pop.new.self; limit = c.args.self.now.limit } in
    let k = fits_with q c.args.self.now r c.in-Some.f c.in-Some.ensures.items fits in
    let k0 = k.0 in let k1 = k.1 in
    let small : c.in-Some.f.rest + c.args.self.now.weight < 2 ^ 64 = omega arith in
    let test = sym (c.is_longest.ensures small) ∙ c.if-is_longest.false in
    c.let_go.ensures.strand_path (laid_with c.args.self.now r c.in-Some.f c.in-Some.ensures.items refl refl laid) q
    ∙ ends_gone q c.args.self.now.steps.items c.in-Some.f (strand_path q c.args.self.now).now (seen_blocks q c.args.self.now.steps.items c.pop.new.self.items []) test
    ∙ sym (ap ends (strand_path_by q c.args.self.now r c.in-Some.f c.in-Some.ensures.items))

pub returns-then-is_longest-clause-bounded : goal.returns-then-is_longest-clause-bounded
returns-then-is_longest-clause-bounded c = λ most b. let r : Paths = record { steps = c.args.self.now.steps; weight = c.args.self.now.weight; start = c.args.self.now.start; blocks = c.pop.new.self; limit = c.args.self.now.limit } in
    c.take_first.ensures.bounded most (tight_with most c.args.self.now r c.in-Some.f c.in-Some.ensures.items refl refl refl b)

pub returns-else-is_longest-clause-bounded : goal.returns-else-is_longest-clause-bounded
returns-else-is_longest-clause-bounded c = λ most b. let r : Paths = record { steps = c.args.self.now.steps; weight = c.args.self.now.weight; start = c.args.self.now.start; blocks = c.pop.new.self; limit = c.args.self.now.limit } in
    c.let_go.ensures.bounded most (tight_with most c.args.self.now r c.in-Some.f c.in-Some.ensures.items refl refl refl b)
