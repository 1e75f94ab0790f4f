use Rattle.std.proofs.Common.{◌≡◌, ◌∙◌, ◌<◌, ◌-◌, ◌==◌, ℕ, zero, suc, true, false, List, arith, rules, ap, sym, refl}
use Rattle.std.specs.Prelude.{get_or, if◌then◌else◌}
use Rattle.cw_cli.specs.Pages.{name_start}
use Rattle.cw_cli.proofs.paging.name_start.Goals as goal

-- a last byte that is no slash, and one that is
shorter : (n : ℕ) (path : List ℕ) → (get_or path n 0 == 47) ≡ false → name_start n path ≡ name_start (suc n) path
unfolding name_start
shorter n path differs = sym (ap (λ b. if b then suc n else name_start n path) differs)

slash : (n : ℕ) (path : List ℕ) → (get_or path n 0 == 47) ≡ true → suc n ≡ name_start (suc n) path
unfolding name_start
slash n path is = sym (ap (λ b. if b then suc n else name_start n path) is)

none : (start : ℕ) (path : List ℕ) → start ≡ 0 → start ≡ name_start start path
unfolding name_start
none zero path is = refl
none (suc n) path is = absurd (omega (arith, is))

pub loop-start-preserved : goal.loop-start-preserved
loop-start-preserved c =
    let some : 0 < c.loop-start.start = search rules in
    let differs : (get_or c.args.path.now (c.loop-start.start - 1) 0 == 47) ≡ false = search rules in
    let bound = c.loop-start.invariant.bound in
    let same : suc (c.loop-start.start - 1) ≡ c.loop-start.start = omega (arith, some) in
    record {
      bound = omega (arith, bound);
      same = shorter (c.loop-start.start - 1) c.args.path.now differs ∙ ap (λ n. name_start n c.args.path.now) same ∙ c.loop-start.invariant.same;
    }

pub returns-else-path-start-ne47-clause-start : goal.returns-else-path-start-ne47-clause-start
returns-else-path-start-ne47-clause-start c =
    let some : 0 < c.loop-start.start = search rules in
    let is : (get_or c.args.path.now (c.loop-start.start - 1) 0 == 47) ≡ true = search rules in
    let same : suc (c.loop-start.start - 1) ≡ c.loop-start.start = omega (arith, some) in
    sym same ∙ slash (c.loop-start.start - 1) c.args.path.now is
    ∙ ap (λ n. name_start n c.args.path.now) same ∙ c.loop-start.invariant.same

pub returns-after-loop-start-clause-start : goal.returns-after-loop-start-clause-start
returns-after-loop-start-clause-start c =
    let none_left : c.loop-start.start ≡ 0 = search rules in
    none c.loop-start.start c.args.path.now none_left ∙ c.loop-start.invariant.same
