use Rattle.std.proofs.lemmas.List.{length-take-le}
use Rattle.std.proofs.Common.{subst}
use Rattle.cw_sites.specs.declared.steps.Steps.{Steps}
use Rattle.cw_sites.specs.StepSums.{AllBelow}
use Rattle.cw_sites.proofs.CompactingLaws.{all_below-take}
use Rattle.std.proofs.Common.{ℕ, ◌+◌, ◌%◌, ◌^◌, ◌≡◌, length, sym, ap, ◌∙◌, arith, Option, option_map, List, []}
use Rattle.cw_sites.specs.ChosenPaths.{Path, plus}
use Rattle.cw_sites.specs.StrandPaths.{longest_path}
use Rattle.cw_sites.specs.StepLists.{part, seen_blocks}
use Rattle.cw_sites.proofs.PathLaws.{kept_laid, kept_strand_path, best_kept, make}
use Rattle.std.proofs.Math.Nat.{mod-eq_of_lt}
use Rattle.cw_sites.proofs.paths.Paths.join_block.Goals as goal

pub returns-in-Some-clause-strand_path : goal.returns-in-Some-clause-strand_path
returns-in-Some-clause-strand_path c = λ laid q s1 s2.
    let f = c.args.f in
    let steps = c.args.self.now.steps.items in
    let n = part q steps c.args.self.now.start (length steps) c.args.self.now.weight in
    let e = ap (λ (x : Option ℕ). (longest_path (option_map (part q steps f.mid f.end) x)).weight) c.in-Some.is in
    let w : (f.base + c.in-Some.l) % 2 ^ 64 ≡ f.base + c.in-Some.l = mod-eq_of_lt (omega arith) in
    kept_strand_path q steps c.truncate.new.self.items ((f.base + c.in-Some.l) % 2 ^ 64) c.args.self.now.start c.in-Some.l c.args.self.now.blocks.items f laid.blocks laid.order laid.child laid.start c.truncate.ensures.items w
    ∙ ap (λ (x : Path). make (plus (part q steps f.from f.mid f.base) x) (seen_blocks q steps c.args.self.now.blocks.items [])) (best_kept q steps f.mid f.end c.in-Some.l f.longest n c.in-Some.is c.if-l-self.true)

pub returns-in-Some-clause-bounded : goal.returns-in-Some-clause-bounded
returns-in-Some-clause-bounded c = λ most b.
    let P : List Steps → Type 0 = AllBelow most in
    let laid = b.laid in let st = laid.start in let ch = laid.child in let o = laid.order in let o0 = o.0 in let o1 = o.1 in let o2 = o.2 in
    let h = kept_laid c.args.self.now.steps.items c.truncate.new.self.items c.args.self.now.start c.args.self.now.blocks.items c.args.f laid.blocks laid.order laid.child laid.start c.truncate.ensures.items in
    let n = ap length c.truncate.ensures.items ∙ length-take-le c.args.f.end c.args.self.now.steps.items (omega arith) in
    let k = b.block.0 in let l = b.block.1 in
    record {
      laid = record { blocks = h.0; start = h.1 };
      sites = subst P (sym c.truncate.ensures.items) (all_below-take most c.args.self.now.steps.items c.args.f.end b.sites);
      limit = b.limit;
      blocks = b.blocks;
      now = omega arith;
    }
