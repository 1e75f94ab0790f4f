-- The estimate with burdens is no faster than the greedy schedule, and the schedule is no faster than its bound.
use Rattle.std.proofs.Common.{◌≡◌, ◌≤◌, ◌<◌, ℕ, zero, suc, ◌+◌, ◌-◌, ◌*◌, ◌/◌, min, arith, refl, ap, sym, subst, ◌∙◌}
use Rattle.std.proofs.Math.Nat.{div-le_of_le-mul, div-mul-le_self, mul-add, mul_comm, mul_left_comm, mul-suc, mul-zero, zero-div}
use Rattle.std.proofs.lemmas.Nat.{le-div}
use Rattle.cw_model.specs.declared.burden.Burden.{Burden}
use Rattle.cw_model.specs.Trees.{Tree, Leaf, Seq, Par, Marked, work, span, burdened_span}
use Rattle.cw_greedy.specs.Greedy.{greedy_length}
use Rattle.cw_greedy_schedule.specs.State.{IsWithin}
use Rattle.cw_report.specs.Speedups.{burdened_steps, ratio, speedup_bound}
use Rattle.cw_cli.specs.Schedules.{AreBounded, IsOrdered}

-- a product with a larger factor
larger : (q less more : ℕ) → less ≤ more → q * less ≤ q * more
larger q less more le =
    let parts : more ≡ less + (more - less) = omega (arith, le) in
    let product : q * more ≡ q * less + q * (more - less) = ap (λ n. q * n) parts ∙ mul-add q less (more - less) in
    omega (arith, product)

-- more steps are no larger speedup
slower : (w less more : ℕ) → less ≤ more → 0 < less → ratio w more ≤ ratio w less
slower w zero more le some = absurd (omega (arith, some))
slower w (suc less) zero le some = absurd (omega (arith, le))
slower w (suc less) (suc more) le some =
    let q = 1000 * w / suc more in
    let whole : q * suc more ≤ 1000 * w = div-mul-le_self (1000 * w) (suc more) in
    le-div q (1000 * w) (suc less) some (omega (arith, whole, larger q (suc less) (suc more) le))

-- without work there is no speedup
idle : (steps : ℕ) → ratio 0 steps ≡ 0
idle zero = refl
idle (suc steps) = zero-div (suc steps)

by_processors : (p w steps : ℕ) → w ≤ p * steps → ratio w steps ≤ 1000 * p
by_processors p w zero law = omega arith
by_processors p w (suc steps) law =
    let product : suc steps * (1000 * p) ≡ 1000 * (p * suc steps) = mul_left_comm (suc steps) 1000 p ∙ ap (λ n. 1000 * n) (mul_comm (suc steps) p) in
    div-le_of_le-mul (suc steps) (omega (arith, law, product))

by_span : (w steps s : ℕ) → s ≤ steps → (s ≡ 0 → w ≡ 0) → ratio w steps ≤ ratio w s
by_span w steps zero le none = subst (λ n. ratio n steps ≤ 0) (sym (none refl)) (omega (arith, idle steps))
by_span w steps (suc s) le none = slower w (suc s) steps le (omega arith)

-- where no path has an instruction there is no work
none_left : (w steps more : ℕ) → (1 + w) * steps ≤ w + more → more ≡ 0 → w ≤ (1 + w) * steps → w ≡ 0
none_left w zero more bound none law = omega (arith, law, mul-zero (1 + w))
none_left w (suc steps) more bound none law = absurd (omega (arith, bound, none, mul-suc (1 + w) steps))

by_burden : (others w steps s b : ℕ) → suc others * steps ≤ w + others * s → s ≤ b → w ≤ suc others * steps → ratio w (burdened_steps (suc others) w b) ≤ ratio w steps
by_burden others w zero s b bound le law =
    let none : w ≡ 0 = omega (arith, law, mul-zero (suc others)) in
    subst (λ n. ratio n (burdened_steps (suc others) w b) ≤ 0) (sym none) (omega (arith, idle (burdened_steps (suc others) w b)))
by_burden others w (suc steps) s b bound le law =
    let product : suc steps * suc others ≡ suc others * suc steps = mul_comm (suc steps) (suc others) in
    let fewer : suc steps ≤ (w + others * b) / suc others =
    le-div (suc steps) (w + others * b) (suc others) (omega arith) (omega (arith, product, bound, larger others s b le)) in
    slower w (suc steps) ((w + others * b) / suc others) fewer (omega arith)

-- a burden makes no path lighter
span_burdened : (burden : Burden) (t : Tree) → span t ≤ burdened_span burden t
span_burdened burden (Leaf k) = omega arith
span_burdened burden (Seq a b) = omega (arith, span_burdened burden a, span_burdened burden b)
span_burdened burden (Par child rest) = omega (arith, span_burdened burden child, span_burdened burden rest)
span_burdened burden (Marked mark t) = span_burdened burden t

module _ (t : Tree) (bounds : (p : ℕ) → 1 ≤ p → IsWithin p (greedy_length p t) t) where
  no_work : span t ≡ 0 → work t ≡ 0
  no_work none =
      let w = work t in
      let b = bounds (1 + w) (omega arith) in
      none_left w (greedy_length (1 + w) t) ((1 + w - 1) * span t) b.greedy_bound (ap (λ n. (1 + w - 1) * n) none ∙ mul-zero (1 + w - 1)) b.work_law

  ordered : (burden : Burden) (p : ℕ) → 1 ≤ p → IsOrdered burden t p
  ordered burden zero some = absurd (omega (arith, some))
  ordered burden (suc others) some =
      let b = bounds (suc others) some in
      let steps = greedy_length (suc others) t in
      let one : suc others - 1 ≡ others = omega arith in
      let both : suc others * steps ≤ work t + others * span t = omega (arith, b.greedy_bound, ap (λ n. n * span t) one) in
      record {
        estimate = by_burden others (work t) steps (span t) (burdened_span burden t) both (span_burdened burden t) b.work_law;
        bound = omega (arith, by_processors (suc others) (work t) steps b.work_law, by_span (work t) steps (span t) b.span_law no_work);
      }

  pub are_bounded : AreBounded t
  are_bounded = record { bounds = bounds; ordered = ordered }
