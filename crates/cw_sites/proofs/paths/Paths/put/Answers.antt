use Rattle.std.proofs.Math.Nat.{mod-eq_of_lt}
use Rattle.std.proofs.Common.{◌≡◌, ◌+◌, ◌∙◌, ap, sym, subst, length, rules, List, arith}
use Rattle.cw_sites.specs.declared.steps.Steps.{Steps}
use Rattle.cw_sites.specs.StepSums.{upto, whole, AllBelow}
use Rattle.cw_sites.proofs.CompactingLaws.{all_below-append}
use Rattle.cw_sites.proofs.StepSumLaws.{upto-append, upto-push}
use Rattle.cw_sites.proofs.PathLaws.{extended_strand_path}
use Rattle.cw_sites.proofs.paths.Paths.put.Goals as goal

pub returns-clause-strand_path : goal.returns-clause-strand_path
returns-clause-strand_path c = λ laid q fits. extended_strand_path q c.args.self.now.steps.items c.push_reserved.new.self.items c.args.self.now.weight _ c.args.self.now.start c.args.site c.args.count c.args.self.now.blocks.items
    (λ n h k. ap (λ x. upto q x n) c.push_reserved.ensures.items ∙ upto-append q c.args.self.now.steps.items _ n k)
    (λ h. ap (whole q) c.push_reserved.ensures.items ∙ upto-push q c.args.self.now.steps.items _)
    mod-eq_of_lt laid.blocks laid.start fits

pub returns-clause-bounded : goal.returns-clause-bounded
returns-clause-bounded c = λ room most h le b.
    let l = b.laid in let n = c.requires.within in let m = b.limit in let p = l.start in
    let k : length c.push_reserved.new.self.items ≡ length c.args.self.now.steps.items + 1 = search rules in
    let P : List Steps → Type 0 = AllBelow most in
    record {
      laid = record { blocks = l.blocks; start = omega arith };
      sites = subst P (sym c.push_reserved.ensures.items) (all_below-append most c.args.self.now.steps.items _ b.sites (h, tt));
      limit = m;
      blocks = b.blocks;
      now = omega arith;
    }
