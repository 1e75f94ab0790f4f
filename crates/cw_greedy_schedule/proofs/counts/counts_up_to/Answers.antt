use Rattle.std.proofs.Common.{◌≡◌, ◌<◌, ◌≤◌, ◌+◌, ◌-◌, ◌++◌, ◌∷◌, [], arith, ap, ◌∙◌}
use Rattle.cw_greedy_schedule.specs.Counts.{powers_below}
use Rattle.cw_greedy_schedule.proofs.Counted.{counted_on, left_out}
use Rattle.cw_greedy_schedule.proofs.counts.counts_up_to.Goals.{then-power-most+in_ok-push, else-power-most}
use Rattle.cw_greedy_schedule.proofs.counts.counts_up_to.Goals as goal

pub loop-exponent-preserved : goal.loop-exponent-preserved
loop-exponent-preserved c =
    let most = c.args.most in
    let exponent = c.loop-exponent.exponent in
    let power = c.power_of_two-power.result in
    let counts = c.loop-exponent.counts.items in
    let few : exponent < 20 = omega (arith, c.loop-exponent-test.true) in
    elim c.if-power-most.branch [
      | then-power-most+in_ok-push w ↦
          let less : power < most = omega (arith, w.if-power-most.true) in
          let pushed : c.if-power-most.counts.items ≡ counts ++ power ∷ [] = ap (λ v. v.items) w.counts-is ∙ w.in_ok-push.ensures.items in
          counted_on most exponent power counts c.if-power-most.counts.items (powers_below most 0 20) few c.power_of_two-power.ensures less pushed c.loop-exponent.invariant
      | else-power-most w ↦
          let large : most ≤ power = omega (arith, w.if-power-most.false) in
          let same : c.if-power-most.counts.items ≡ counts = ap (λ v. v.items) w.counts-is in
          ap (λ l. l ++ powers_below most (exponent + 1) (20 - (exponent + 1))) same
          ∙ left_out most exponent power counts (powers_below most 0 20) few c.power_of_two-power.ensures large c.loop-exponent.invariant
    ]
