use Rattle.std.proofs.Common.{rules, ◌≡◌, ◌+◌, length, arith}
use Rattle.cw_sites.proofs.PathLaws.{begun_laid, begun_strand_path}
use Rattle.cw_sites.specs.PathBounds.{most_steps}
use Rattle.cw_sites.proofs.PathBoundLaws.{short_pushed}
use Rattle.cw_sites.proofs.paths.Paths.begin_within.Goals as goal

pub returns-clause-laid : goal.returns-clause-laid
returns-clause-laid c = λ laid. let e : c.len-len.result ≡ length c.args.self.now.steps.items = search rules in
    let h = begun_laid c.args.self.now.steps.items c.args.self.now.weight c.args.self.now.start c.len-len.result c.args.self.now.blocks.items c.push_reserved.new.self.items e c.push_reserved.ensures.items (laid.blocks, laid.start) in record { blocks = h.0; start = h.1 }

pub returns-clause-strand_path : goal.returns-clause-strand_path
returns-clause-strand_path c = λ laid q. let e : c.len-len.result ≡ length c.args.self.now.steps.items = search rules in
    begun_strand_path q c.args.self.now.steps.items c.args.self.now.weight c.args.self.now.start c.len-len.result c.args.self.now.blocks.items c.push_reserved.new.self.items e c.push_reserved.ensures.items

pub returns-clause-bounded : goal.returns-clause-bounded
returns-clause-bounded c = λ most b.
    let e : c.len-len.result ≡ length c.args.self.now.steps.items = search rules in
    let h = begun_laid c.args.self.now.steps.items c.args.self.now.weight c.args.self.now.start c.len-len.result c.args.self.now.blocks.items c.push_reserved.new.self.items e c.push_reserved.ensures.items (b.laid.blocks, b.laid.start) in
    let n = b.now in
    record {
      laid = record { blocks = h.0; start = h.1 };
      sites = b.sites;
      limit = b.limit;
      blocks = short_pushed (most_steps most + 1) c.args.self.now.blocks.items c.push_reserved.new.self.items _ c.push_reserved.ensures.items b.blocks (omega arith, omega arith, omega arith);
      now = omega arith;
    }
