-- The numbers of processors, one power of two after another.
use Rattle.std.proofs.Common.{◌≡◌, ◌≤◌, ◌<◌, ◌+◌, ◌-◌, ◌^◌, ◌++◌, ◌∷◌, [], List, ℕ, zero, suc, cond, nat_lt, arith, ap, sym, ◌∙◌, append_assoc}
use Rattle.std.specs.List.{All, filter}
use Rattle.std.proofs.lemmas.List.{append-nil}
use Rattle.std.proofs.lemmas.List.Elements.{All-append, All-filter}
use Rattle.std.proofs.lemmas.Nat.{pow_pos}
use Rattle.cw_facts.specs.Tests.{below, not_below}
use Rattle.cw_greedy_schedule.specs.Counts.{powers, powers_below, processor_counts}

-- the first of some powers, and the others
first_power : (exponent left many : ℕ) → left ≡ suc many → powers exponent left ≡ 2 ^ exponent ∷ powers (exponent + 1) many
first_power exponent left many is = ap (powers exponent) is

next_power : (exponent : ℕ) → exponent < 20 → powers exponent (20 - exponent) ≡ 2 ^ exponent ∷ powers (exponent + 1) (20 - (exponent + 1))
next_power exponent few = first_power exponent (20 - exponent) (20 - (exponent + 1)) (omega (arith, few))

-- one that is below the number is counted
pub counted_on : (most exponent power : ℕ) (counts counts' whole : List ℕ) → exponent < 20 → power ≡ 2 ^ exponent → power < most
    → counts' ≡ counts ++ power ∷ [] → counts ++ powers_below most exponent (20 - exponent) ≡ whole
    → counts' ++ powers_below most (exponent + 1) (20 - (exponent + 1)) ≡ whole
counted_on most exponent power counts counts' whole few is less pushed so_far =
    let later = powers_below most (exponent + 1) (20 - (exponent + 1)) in
    let counted : powers_below most exponent (20 - exponent) ≡ power ∷ later =
    ap (filter (λ p. nat_lt p most)) (next_power exponent few)
    ∙ ap (λ p. filter (λ q. nat_lt q most) (p ∷ powers (exponent + 1) (20 - (exponent + 1)))) (sym is)
    ∙ ap (λ b. cond b (power ∷ later) later) (below power most less) in
    ap (λ l. l ++ later) pushed ∙ append_assoc counts (power ∷ []) later ∙ ap (λ l. counts ++ l) (sym counted) ∙ so_far

-- and one that is not is left out
pub left_out : (most exponent power : ℕ) (counts whole : List ℕ) → exponent < 20 → power ≡ 2 ^ exponent → most ≤ power
    → counts ++ powers_below most exponent (20 - exponent) ≡ whole
    → counts ++ powers_below most (exponent + 1) (20 - (exponent + 1)) ≡ whole
left_out most exponent power counts whole few is large so_far =
    let later = powers_below most (exponent + 1) (20 - (exponent + 1)) in
    let counted : powers_below most exponent (20 - exponent) ≡ later =
    ap (filter (λ p. nat_lt p most)) (next_power exponent few)
    ∙ ap (λ p. filter (λ q. nat_lt q most) (p ∷ powers (exponent + 1) (20 - (exponent + 1)))) (sym is)
    ∙ ap (λ b. cond b (power ∷ later) later) (not_below power most large) in
    ap (λ l. counts ++ l) (sym counted) ∙ so_far

-- no power is left
pub counted_all : (most exponent : ℕ) (counts whole : List ℕ) → 20 ≤ exponent → counts ++ powers_below most exponent (20 - exponent) ≡ whole → counts ≡ whole
counted_all most exponent counts whole many so_far =
    let none : 20 - exponent ≡ 0 = omega (arith, many) in
    sym (append-nil counts) ∙ sym (ap (λ n. counts ++ powers_below most exponent n) none) ∙ so_far

-- each number is 1 or more
some_powers : (exponent many : ℕ) → All (λ p. 1 ≤ p) (powers exponent many)
some_powers exponent zero k d lt = absurd (omega (arith, lt))
some_powers exponent (suc many) zero d lt = omega (arith, pow_pos exponent)
some_powers exponent (suc many) (suc k) d lt = some_powers (exponent + 1) many k d (omega (arith, lt))

some_last : (most : ℕ) → 1 ≤ most → All (λ p. 1 ≤ p) (most ∷ [])
some_last most some zero d lt = some
some_last most some (suc k) d lt = absurd (omega (arith, lt))

pub some_processors : (most : ℕ) → 1 ≤ most → All (λ p. 1 ≤ p) (processor_counts most)
some_processors most some =
    All-append (λ p. 1 ≤ p) (powers_below most 0 20) (most ∷ [])
    (All-filter (λ power. nat_lt power most) (λ p. 1 ≤ p) (powers 0 20) (some_powers 0 20)) (some_last most some)
