use Rattle.std.proofs.Common.{rules, ◌≡◌, ◌+◌, ◌%◌, ◌^◌, length, arith}
use Rattle.cw_sites.specs.PathBounds.{most_steps}
use Rattle.cw_sites.proofs.PathLaws.{taken_fork, taken_laid, taken_strand_path}
use Rattle.cw_sites.proofs.PathBoundLaws.{gathers_none, short_pushed}
use Rattle.std.proofs.Math.Nat.{mod-eq_of_lt}
use Rattle.cw_sites.proofs.paths.Paths.take_first.Goals as goal

pub returns-clause-laid : goal.returns-clause-laid
returns-clause-laid c = λ laid.
    let e : c.len-len.result ≡ length c.args.self.now.steps.items = search rules in
    let k = c.push_reserved.ensures.items in
    let h = taken_laid c.args.self.now.steps.items c.args.self.now.steps.items c.args.self.now.weight c.args.self.now.start c.len-len.result c.args.f.mid ((c.args.f.base + c.args.f.rest) % 2 ^ 64) c.args.self.now.blocks.items c.push_reserved.new.self.items c.args.f laid.blocks laid.child laid.start (gathers_none c.args.self.now.steps.items c.args.f laid.order c.requires.first) e k in
    record { blocks = h.0; start = h.1 }

pub returns-clause-strand_path : goal.returns-clause-strand_path
returns-clause-strand_path c = λ laid q small.
    let small0 = small.0 in
    let e : c.len-len.result ≡ length c.args.self.now.steps.items = search rules in
    let k = c.push_reserved.ensures.items in
    let w : (c.args.f.base + c.args.f.rest) % 2 ^ 64 ≡ c.args.f.base + c.args.f.rest = mod-eq_of_lt small0 in
    let steps = c.args.self.now.steps.items in
    let f = c.args.f in
    taken_strand_path q steps c.args.self.now.steps.items c.args.self.now.weight c.args.self.now.start c.len-len.result c.args.f.mid ((c.args.f.base + c.args.f.rest) % 2 ^ 64) c.args.self.now.blocks.items c.push_reserved.new.self.items f laid.blocks laid.order laid.child laid.start (gathers_none c.args.self.now.steps.items c.args.f laid.order c.requires.first) e w small.1 k

pub returns-clause-bounded : goal.returns-clause-bounded
returns-clause-bounded c = λ most b.
    let laid = b.laid in
    let e : c.len-len.result ≡ length c.args.self.now.steps.items = search rules in
    let fork = taken_fork c.args.f ((c.args.f.base + c.args.f.rest) % 2 ^ 64) c.args.self.now.weight c.args.f.mid c.len-len.result in
    let k = c.push_reserved.ensures.items in
    let g = gathers_none c.args.self.now.steps.items c.args.f laid.order c.requires.first in
    let h = taken_laid c.args.self.now.steps.items c.args.self.now.steps.items c.args.self.now.weight c.args.self.now.start c.len-len.result c.args.f.mid ((c.args.f.base + c.args.f.rest) % 2 ^ 64) c.args.self.now.blocks.items c.push_reserved.new.self.items c.args.f laid.blocks laid.child laid.start g e k in
    let s0 = b.block.0 in let m = b.now in let ch = laid.child in
    record {
      laid = record { blocks = h.0; start = h.1 };
      sites = b.sites;
      limit = b.limit;
      blocks = short_pushed (most_steps most + 1) c.args.self.now.blocks.items c.push_reserved.new.self.items fork k b.blocks (omega arith, omega arith, omega arith);
      now = omega arith;
    }
