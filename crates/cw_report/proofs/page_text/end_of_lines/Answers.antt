use Rattle.std.proofs.Common.{◌≡◌, ◌∙◌, ◌<◌, ◌-◌, ◌==◌, ℕ, zero, suc, true, false, List, take, arith, rules, ap, sym, refl}
use Rattle.std.specs.Prelude.{get_or, if◌then◌else◌}
use Rattle.cw_report.specs.Pages.{lines_within}
use Rattle.cw_report.proofs.page_text.end_of_lines.Goals as goal

-- a last byte that is no line feed, and one that is
shorter : (n : ℕ) (text : List ℕ) → (get_or text n 0 == 10) ≡ false → lines_within n text ≡ lines_within (suc n) text
unfolding lines_within
shorter n text differs = sym (ap (λ b. if b then take (suc n) text else lines_within n text) differs)

whole : (n : ℕ) (text : List ℕ) → (get_or text n 0 == 10) ≡ true → take (suc n) text ≡ lines_within (suc n) text
unfolding lines_within
whole n text is = sym (ap (λ b. if b then take (suc n) text else lines_within n text) is)

empty : (end : ℕ) (text : List ℕ) → end ≡ 0 → take end text ≡ lines_within end text
unfolding lines_within
empty zero text is = refl
empty (suc n) text is = absurd (omega (arith, is))

pub loop-end-preserved : goal.loop-end-preserved
loop-end-preserved c =
    let some : 0 < c.loop-end.end = search rules in
    let differs : (get_or c.args.text.now (c.loop-end.end - 1) 0 == 10) ≡ false = search rules in
    let bound = c.loop-end.invariant.bound in
    let same : suc (c.loop-end.end - 1) ≡ c.loop-end.end = omega (arith, some) in
    record {
      bound = omega (arith, bound);
      same = shorter (c.loop-end.end - 1) c.args.text.now differs ∙ ap (λ n. lines_within n c.args.text.now) same ∙ c.loop-end.invariant.same;
    }

pub returns-else-text-end-ne10-clause-text : goal.returns-else-text-end-ne10-clause-text
returns-else-text-end-ne10-clause-text c =
    let some : 0 < c.loop-end.end = search rules in
    let is : (get_or c.args.text.now (c.loop-end.end - 1) 0 == 10) ≡ true = search rules in
    let same : suc (c.loop-end.end - 1) ≡ c.loop-end.end = omega (arith, some) in
    ap (λ n. take n c.args.text.now) (sym same) ∙ whole (c.loop-end.end - 1) c.args.text.now is
    ∙ ap (λ n. lines_within n c.args.text.now) same ∙ c.loop-end.invariant.same

pub returns-after-loop-end-clause-text : goal.returns-after-loop-end-clause-text
returns-after-loop-end-clause-text c =
    let none_left : c.loop-end.end ≡ 0 = search rules in
    empty c.loop-end.end c.args.text.now none_left ∙ c.loop-end.invariant.same
