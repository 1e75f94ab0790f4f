use Rattle.std.proofs.Common.{ℕ, ◌%◌, ◌+◌, ◌-◌, ◌^◌, ◌≡◌, length, List, [], ◌∷◌, max, sym, ap, ◌∙◌, take, rules, arith}
use Rattle.cw_model.specs.Burdens.{at_child, at_rest}
use Rattle.cw_measure.specs.declared.burdened_path.BurdenedBlock.{BurdenedBlock}
use Rattle.cw_measure.specs.StrandWeights.{reversed, ends}
use Rattle.cw_measure.proofs.StrandWeightLaws.{weighs, reversed-last, reversed-set, block_of, fits_top, same_top}
use Rattle.std.proofs.Math.Nat.{mod-eq_of_lt}
use Rattle.cw_measure.proofs.burdened_path.BurdenedPath.end.Goals as goal

pub returns-clause-weight : goal.returns-clause-weight
returns-clause-weight c = λ fits.
    let blocks = c.args.self.now.blocks.items in
    let w = c.args.self.now.weight in
    let i = c.len-len.result - 1 in
    let b = c.index-block.result.now in
    let len : c.len-len.result ≡ length blocks = search rules in
    let last : i + 1 ≡ length blocks = omega arith in
    let top = reversed-last blocks i b last in
    let small = fits_top w c.args.burden (reversed blocks []) b (reversed (take i blocks) []) (top ∙ ap (λ (x : BurdenedBlock). x ∷ reversed (take i blocks) []) (sym c.index-block.ensures)) fits in
    let s0 = small.0 in
    let s1 = small.1 in
    let charge = at_child c.args.burden in
    let more = at_rest c.args.burden in
    let charged = c.at_child.ensures in
    let own = mod-eq_of_lt {n = w + c.at_child.result} {m = 2 ^ 128} (omega arith) in
    let child = mod-eq_of_lt {n = b.saved + (charge + w)} {m = 2 ^ 128} s0 in
    let rest = ap (λ (x : ℕ). (b.saved + x) % 2 ^ 128) c.at_rest.ensures ∙ mod-eq_of_lt {n = b.saved + more} {m = 2 ^ 128} s1 in
    ap (weighs _) (reversed-set blocks i (block_of c.max.result b.saved) last)
    ∙ same_top _ (b.saved + more) c.max.result (max b.longest (b.saved + (charge + w))) b.saved (reversed (take i blocks) []) rest (omega arith)
    ∙ ap (λ (x : BurdenedBlock). weighs (x.saved + more) (block_of (max x.longest (x.saved + (charge + w))) x.saved ∷ reversed (take i blocks) [])) c.index-block.ensures
    ∙ sym (ap (λ (x : List BurdenedBlock). ends c.args.burden (weighs w x)) top)
