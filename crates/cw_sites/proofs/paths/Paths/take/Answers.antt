use Rattle.std.proofs.Common.{rules, ◌≡◌, ◌+◌, ◌%◌, ◌^◌, ℕ, List, [], ◌∷◌, ◌++◌, length, ap, ◌∙◌, arith}
use Rattle.cw_sites.specs.declared.paths.ForkedBlock.{ForkedBlock}
use Rattle.cw_sites.specs.StepLists.{part, seen_blocks}
use Rattle.cw_sites.specs.StrandPaths.{takes}
use Rattle.cw_sites.specs.PathBounds.{most_steps}
use Rattle.cw_sites.proofs.PathLaws.{taken_fork, taken_laid, taken_strand_path}
use Rattle.cw_sites.proofs.PathBoundLaws.{short_pushed}
use Rattle.std.proofs.Math.Nat.{mod-eq_of_lt}
use Rattle.cw_sites.proofs.paths.Paths.take.Goals as goal

pub returns-clause-laid : goal.returns-clause-laid
returns-clause-laid c = λ laid.
    let e : c.len-len.result ≡ length c.gather.new.self.steps.items = search rules in
    let fork = taken_fork c.args.f ((c.args.f.base + c.args.f.rest) % 2 ^ 64) c.gather.new.self.weight c.in_ok-mid.mid c.len-len.result in
    let k = c.push_reserved.ensures.items ∙ ap (λ (fs : List ForkedBlock). fs ++ fork ∷ []) c.in_ok-mid.ensures.rest.blocks in
    let h = taken_laid c.args.self.now.steps.items c.gather.new.self.steps.items c.gather.new.self.weight c.args.self.now.start c.len-len.result c.in_ok-mid.mid ((c.args.f.base + c.args.f.rest) % 2 ^ 64) c.args.self.now.blocks.items c.push_reserved.new.self.items c.args.f laid.blocks laid.child laid.start (c.in_ok-mid.ensures.all laid) e k in
    record { blocks = h.0; start = h.1 }

pub returns-clause-strand_path : goal.returns-clause-strand_path
returns-clause-strand_path c = λ laid q small.
    let small0 = small.0 in
    let e : c.len-len.result ≡ length c.gather.new.self.steps.items = search rules in
    let fork = taken_fork c.args.f ((c.args.f.base + c.args.f.rest) % 2 ^ 64) c.gather.new.self.weight c.in_ok-mid.mid c.len-len.result in
    let k = c.push_reserved.ensures.items ∙ ap (λ (fs : List ForkedBlock). fs ++ fork ∷ []) c.in_ok-mid.ensures.rest.blocks in
    let w : (c.args.f.base + c.args.f.rest) % 2 ^ 64 ≡ c.args.f.base + c.args.f.rest = mod-eq_of_lt small0 in
    let steps = c.args.self.now.steps.items in
    let f = c.args.f in
    taken_strand_path q steps c.gather.new.self.steps.items c.gather.new.self.weight c.args.self.now.start c.len-len.result c.in_ok-mid.mid ((c.args.f.base + c.args.f.rest) % 2 ^ 64) c.args.self.now.blocks.items c.push_reserved.new.self.items f laid.blocks laid.order laid.child laid.start (c.in_ok-mid.ensures.all laid) e w small.1 k
    ∙ ap (λ (x : ℕ). takes (part q steps f.from f.mid f.base) (part q steps f.end f.child f.rest) (part q steps c.args.self.now.start (length steps) x) (seen_blocks q steps c.args.self.now.blocks.items [])) c.in_ok-mid.ensures.rest.weight

pub returns-clause-bounded : goal.returns-clause-bounded
returns-clause-bounded c = λ most b.
    let laid = b.laid in
    let e : c.len-len.result ≡ length c.gather.new.self.steps.items = search rules in
    let fork = taken_fork c.args.f ((c.args.f.base + c.args.f.rest) % 2 ^ 64) c.gather.new.self.weight c.in_ok-mid.mid c.len-len.result in
    let k = c.push_reserved.ensures.items ∙ ap (λ (fs : List ForkedBlock). fs ++ fork ∷ []) c.in_ok-mid.ensures.rest.blocks in
    let g = c.in_ok-mid.ensures.all laid in
    let h = taken_laid c.args.self.now.steps.items c.gather.new.self.steps.items c.gather.new.self.weight c.args.self.now.start c.len-len.result c.in_ok-mid.mid ((c.args.f.base + c.args.f.rest) % 2 ^ 64) c.args.self.now.blocks.items c.push_reserved.new.self.items c.args.f laid.blocks laid.child laid.start g e k in
    let s = c.in_ok-mid.ensures.short laid most b.sites b.limit b.block in
    let s0 = s.base in let n = g.count_is in let m = b.now in let ch = laid.child in
    record {
      laid = record { blocks = h.0; start = h.1 };
      sites = s.sites;
      limit = s.limit;
      blocks = short_pushed (most_steps most + 1) c.args.self.now.blocks.items c.push_reserved.new.self.items fork k b.blocks (omega arith, omega arith, omega arith);
      now = omega arith;
    }
