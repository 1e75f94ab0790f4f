use Rattle.std.proofs.Common.{◌≡◌, ◌-◌, ◌≤◌, length, sym, ap, ◌∙◌, arith}
use Rattle.std.specs.Prelude.{slice_index_or}
use Rattle.cw_machine.proofs.Waits.{search_ends, search_finds, search_goes_on}
use Rattle.cw_machine.proofs.machine.Machine.is_cut.Goals as goal

pub returns-then-c-first : goal.returns-then-c-first
returns-then-c-first c =
    let cuts = c.args.self.now.cuts.items in
    let n : c.len-count.result ≡ length cuts = omega (arith, c.len-count.ensures) in
    sym (search_ends c.args.cell c.args.first cuts c.loop-k.k c.index-c.result.now (omega (arith, n, c.loop-k-test.true)) (c.index-c.ensures ∙ ap (λ z. slice_index_or cuts (z - 1 - c.loop-k.k) c.index-c.result.now) n) c.if-c-first.true) ∙ c.loop-k.invariant

pub returns-then-c-cell : goal.returns-then-c-cell
returns-then-c-cell c =
    let cuts = c.args.self.now.cuts.items in
    let n : c.len-count.result ≡ length cuts = omega (arith, c.len-count.ensures) in
    let le : c.args.first ≤ c.index-c.result.now = omega (arith, c.if-c-first.false) in
    sym (search_finds c.args.cell c.args.first cuts c.loop-k.k c.index-c.result.now (omega (arith, n, c.loop-k-test.true)) (c.index-c.ensures ∙ ap (λ z. slice_index_or cuts (z - 1 - c.loop-k.k) c.index-c.result.now) n) le c.if-c-cell.true) ∙ c.loop-k.invariant

pub loop-k-preserved : goal.loop-k-preserved
loop-k-preserved c =
    let cuts = c.args.self.now.cuts.items in
    let n : c.len-count.result ≡ length cuts = omega (arith, c.len-count.ensures) in
    let le : c.args.first ≤ c.index-c.result.now = omega (arith, c.if-c-first.false) in
    search_goes_on c.args.cell c.args.first cuts c.loop-k.k c.index-c.result.now (omega (arith, n, c.loop-k-test.true)) (c.index-c.ensures ∙ ap (λ z. slice_index_or cuts (z - 1 - c.loop-k.k) c.index-c.result.now) n) le (λ e. omega (arith, e, c.if-c-cell.false)) ∙ c.loop-k.invariant
