use Rattle.std.proofs.Common.{List, ◌+◌, length, sym, ap, ◌∙◌, subst, arith}
use Rattle.std.proofs.lemmas.List.{length-take-le}
use Rattle.cw_sites.specs.declared.steps.Steps.{Steps}
use Rattle.cw_sites.specs.StepSums.{AllBelow}
use Rattle.cw_sites.proofs.CompactingLaws.{all_below-take}
use Rattle.cw_sites.specs.PathBounds.{most_steps}
use Rattle.cw_sites.proofs.PathBoundLaws.{short_pushed}
use Rattle.cw_sites.proofs.PathLaws.{gone_laid, gone_strand_path}
use Rattle.cw_sites.proofs.paths.Paths.let_go.Goals as goal

pub returns-clause-laid : goal.returns-clause-laid
returns-clause-laid c = λ laid.
    let h = gone_laid c.args.self.now.steps.items c.truncate.new.self.items c.args.self.now.start c.args.self.now.blocks.items c.push_reserved.new.self.items c.args.f laid.blocks laid.order laid.child laid.start c.truncate.ensures.items c.push_reserved.ensures.items in
    record { blocks = h.0; start = h.1 }

pub returns-clause-strand_path : goal.returns-clause-strand_path
returns-clause-strand_path c = λ laid q. gone_strand_path q c.args.self.now.steps.items c.truncate.new.self.items c.args.self.now.start c.args.self.now.blocks.items c.push_reserved.new.self.items c.args.f laid.blocks laid.order laid.child laid.start c.truncate.ensures.items c.push_reserved.ensures.items

pub returns-clause-bounded : goal.returns-clause-bounded
returns-clause-bounded c = λ most b.
    let P : List Steps → Type 0 = AllBelow most in
    let laid = b.laid in let st = laid.start in let ch = laid.child in
    let h = gone_laid c.args.self.now.steps.items c.truncate.new.self.items c.args.self.now.start c.args.self.now.blocks.items c.push_reserved.new.self.items c.args.f laid.blocks laid.order laid.child laid.start c.truncate.ensures.items c.push_reserved.ensures.items in
    let n = ap length c.truncate.ensures.items ∙ length-take-le c.args.f.child c.args.self.now.steps.items (omega arith) in
    let k = b.block.2 in
    record {
      laid = record { blocks = h.0; start = h.1 };
      sites = subst P (sym c.truncate.ensures.items) (all_below-take most c.args.self.now.steps.items c.args.f.child b.sites);
      limit = b.limit;
      blocks = short_pushed (most_steps most + 1) c.args.self.now.blocks.items c.push_reserved.new.self.items _ c.push_reserved.ensures.items b.blocks (b.block.0, b.block.1, omega arith);
      now = omega arith;
    }
