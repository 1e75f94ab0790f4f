-- The estimate with burdens, without the product that may be too large.
use Rattle.std.proofs.Common.{◌≡◌, ◌≤◌, ◌<◌, ℕ, zero, suc, ◌+◌, ◌-◌, ◌*◌, ◌/◌, ◌%◌, arith, refl, ap, sym, ◌∙◌}
use Rattle.std.proofs.Math.Nat.{div-add-mod, mod-lt, mul-add, mul-add-div, mul_comm, mul-suc, suc-mul}
use Rattle.std.proofs.lemmas.Nat.{div-mul-add}
use Rattle.cw_report.specs.Speedups.{burdened_steps, ratio}

positive : (n : ℕ) → 0 < suc n
positive n = omega arith

-- the work has more than the burdened span
leading : (others work burdened : ℕ) → burdened ≤ work → burdened + (work - burdened) / suc others ≡ (work + others * burdened) / suc others
leading others work burdened le =
    let whole : work + others * burdened ≡ suc others * burdened + (work - burdened) = omega (arith, suc-mul others burdened, le) in
    sym (ap (λ n. n / suc others) whole ∙ mul-add-div (positive others) burdened (work - burdened))

-- the work has less: what is left of the quotient and of the remainder
lagging_by : (others work burdened k r a : ℕ) → suc others * k + r ≡ burdened - work - 1 → r < suc others → work < burdened → a ≡ burdened - k - 1
    → work + others * burdened ≡ a * suc others + (others - r)
lagging_by others work burdened k r a parts small less is =
    let first : suc others * k ≡ others * k + k = suc-mul others k in
    let whole : burdened ≡ a + (k + 1) = omega (arith, parts, first, less, is) in
    let product : others * burdened ≡ others * a + others * (k + 1) = ap (λ n. others * n) whole ∙ mul-add others a (k + 1) in
    let last : others * (k + 1) ≡ others * k + others * 1 = mul-add others k 1 in
    let swapped : a * suc others ≡ others * a + a = mul-suc a others ∙ ap (λ n. n + a) (mul_comm a others) in
    omega (arith, parts, first, whole, product, last, swapped, small, less)

lagging : (others work burdened : ℕ) → work < burdened → burdened - (burdened - work - 1) / suc others - 1 ≡ (work + others * burdened) / suc others
lagging others work burdened less =
    let d = burdened - work - 1 in
    let k = d / suc others in
    let r = d % suc others in
    let a = burdened - k - 1 in
    let small : r < suc others = mod-lt d (positive others) in
    let whole = lagging_by others work burdened k r a (div-add-mod d (suc others)) small less refl in
    let little : others - r < suc others = omega arith in
    sym (ap (λ n. n / suc others) whole ∙ div-mul-add a (suc others) (others - r) little)

pub none_share : (p work burdened : ℕ) → p ≡ 0 → 0 ≡ burdened_steps p work burdened
none_share zero work burdened none = refl
none_share (suc others) work burdened none = cc

pub leads : (p work burdened : ℕ) → 0 < p → burdened ≤ work → burdened + (work - burdened) / p ≡ burdened_steps p work burdened
leads zero work burdened some le = absurd (omega (arith, some))
leads (suc others) work burdened some le = leading others work burdened le

pub lags : (p work burdened : ℕ) → 0 < p → work < burdened → burdened - (burdened - work - 1) / p - 1 ≡ burdened_steps p work burdened
lags zero work burdened some less = absurd (omega (arith, some))
lags (suc others) work burdened some less = lagging others work burdened less

-- work by span in thousandths
pub no_ratio : (work span : ℕ) → span ≡ 0 → 0 ≡ ratio work span
no_ratio work zero none = refl
no_ratio work (suc span) none = cc

pub some_ratio : (work span : ℕ) → 0 < span → 1000 * work / span ≡ ratio work span
some_ratio work zero some = absurd (omega (arith, some))
some_ratio work (suc span) some = refl
