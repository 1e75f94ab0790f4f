use Rattle.std.proofs.Common.{rules, ◌≡◌, ◌+◌, length, refl, arith}
use Rattle.cw_sites.proofs.PathLaws.{again_laid, again_strand_path}
use Rattle.cw_sites.specs.declared.paths.Paths.{Paths}
use Rattle.cw_sites.specs.PathBounds.{most_steps}
use Rattle.cw_sites.proofs.PathBoundLaws.{short_pushed, tight_with}
use Rattle.cw_sites.proofs.paths.Paths.begin_again.Goals as goal

pub returns-in-Some-clause-laid : goal.returns-in-Some-clause-laid
returns-in-Some-clause-laid c = λ laid. let e : c.len-len.result ≡ length c.take_out.new.steps.items = search rules in
    let h = again_laid c.args.self.now.steps.items c.take_out.new.steps.items c.args.self.now.weight c.args.self.now.start c.len-len.result c.args.self.now.blocks.items c.pop.new.self.items c.push_reserved.new.self.items c.in-Some.f e c.in-Some.ensures.items c.push_reserved.ensures.items c.take_out.ensures.cut (laid.blocks, laid.start) in record { blocks = h.0; start = h.1 }

pub returns-in-Some-clause-strand_path : goal.returns-in-Some-clause-strand_path
returns-in-Some-clause-strand_path c = λ laid q. let e : c.len-len.result ≡ length c.take_out.new.steps.items = search rules in
    again_strand_path q c.args.self.now.steps.items c.take_out.new.steps.items c.args.self.now.weight c.args.self.now.start c.len-len.result c.args.self.now.blocks.items c.pop.new.self.items c.push_reserved.new.self.items c.in-Some.f e c.in-Some.ensures.items c.push_reserved.ensures.items c.take_out.ensures.cut (laid.blocks, laid.start)

pub returns-in-Some-clause-bounded : goal.returns-in-Some-clause-bounded
returns-in-Some-clause-bounded c = λ most b.
    let r : Paths = record { steps = c.args.self.now.steps; weight = c.args.self.now.weight; start = c.args.self.now.start; blocks = c.pop.new.self; limit = c.args.self.now.limit } in
    let e : c.len-len.result ≡ length c.take_out.new.steps.items = search rules in
    let t = tight_with most c.args.self.now r c.in-Some.f c.in-Some.ensures.items refl refl refl b in
    let o2 = t.laid.order.2 in let ch = t.laid.child in let st = t.laid.start in
    let n = (c.take_out.ensures.cut o2 (omega arith)).count_is in
    let m = b.now in
    let h = again_laid c.args.self.now.steps.items c.take_out.new.steps.items c.args.self.now.weight c.args.self.now.start c.len-len.result c.args.self.now.blocks.items c.pop.new.self.items c.push_reserved.new.self.items c.in-Some.f e c.in-Some.ensures.items c.push_reserved.ensures.items c.take_out.ensures.cut (b.laid.blocks, b.laid.start) in
    record {
      laid = record { blocks = h.0; start = h.1 };
      sites = c.take_out.ensures.kept most b.sites;
      limit = b.limit;
      blocks = short_pushed (most_steps most + 1) c.pop.new.self.items c.push_reserved.new.self.items _ c.push_reserved.ensures.items t.blocks (t.block.0, t.block.1, omega arith);
      now = omega arith;
    }
