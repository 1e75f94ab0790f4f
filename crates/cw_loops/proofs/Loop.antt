-- A `cilk_for`, and the first call of the function that it is lowered to.
use Rattle.std.proofs.Common.{◌≡◌, ℕ, ◌+◌, ◌-◌, ◌≤◌, ◌<◌, ◌^◌, Bool, true, false, ℤ, pos, negsuc, ◌+ℤ◌, ◌-ℤ◌, List, arith, refl, sym, ◌∙◌, ap}
use Rattle.std.specs.Prelude.{if◌then◌else◌, nat_lt, int_le, int_lt}
use Rattle.std.proofs.lemmas.Bool.{ltb-false}
use Rattle.std.proofs.lemmas.Int.{ints}
use Rattle.std.proofs.Math.IntN.{+ℤ_idr}
use lib.Signed.{◌<ℤ◌}
use Rattle.cw_model.specs.declared.limits.TheConstants.{MOST_TURNS}
use Rattle.cw_model.specs.Ints.{Result, Value, Fails, natural, fits}
use Rattle.cw_model.specs.declared.trap.Trap.TheVariants as trap
use Rattle.cw_model.specs.Expressions.{Evaluated, Gives, Traps, done_at}
use Rattle.cw_model.specs.Outcome.{Outcome, then_do, pay_for}
use Rattle.cw_model.specs.Loops.{loop_iterations, lies_within}
use Rattle.cw_loops.proofs.Alike.{Alike, alike_pay, value_pays, both_stop}
use Rattle.cw_loops.proofs.Cuts.{alike_left, alike_right}

-- a value with this property, or a trap
abbrev pub GivesSuch : (ℤ → Type 0) → Evaluated → Type 0
GivesSuch P (Gives v k) = P v
GivesSuch P (Traps trap k) = Unit {0}

pub such_then : {C D : Type 0} {S : C → D → Type 0} (P : ℤ → Type 0) (ev ev' : Evaluated) (line left : ℕ) → ev' ≡ ev → GivesSuch P ev → (go : ℤ → ℕ → Outcome C) (go' : ℤ → ℕ → Outcome D) →
    ((v : ℤ) (l : ℕ) → P v → l ≤ left → Alike S l (go v l) (go' v l)) → Alike S left (then_do (pay_for ev line left) go) (then_do (pay_for ev' line left) go')
such_then {C = C} {D = D} {S = S} P (Gives v k) ev' line left e f go go' h =
    alike_left (value_pays v k line left go) (alike_right (ap (λ ev. then_do (pay_for ev line left) go') e ∙ value_pays v k line left go')
    (alike_pay k left _ _ (λ enough. h v (left - k) f (omega arith))))
such_then {C = C} {D = D} {S = S} P (Traps trap k) ev' line left e f go go' h = alike_right (ap (λ ev. then_do (pay_for ev line left) go') e) (both_stop left trap line go go' (nat_lt left k))

-- the number of iterations of a loop
pub record Counted (lo hi : ℤ) (arrays : List (List ℤ)) (v : ℤ) : Type 0 where
  pub count : ℕ
  pub is : v ≡ pos count
  pub small : count < 2 ^ 63
  pub end_fits : fits (lo +ℤ pos count) ≡ true
  pub lies : 1 ≤ count → lies_within lo (lo +ℤ pos count) arrays ≡ true

abbrev pub ResultSuch : (ℤ → Type 0) → Result → Type 0
ResultSuch P (Value v) = P v
ResultSuch P (Fails trap) = Unit {0}

above : (lo hi : ℤ) → int_le hi lo ≡ false → lo <ℤ hi
above lo hi e = grind (arith, ints)

at_most : (z : ℤ) → int_lt (pos MOST_TURNS) z ≡ false → natural z ≤ MOST_TURNS
at_most (pos n) e = ltb-false MOST_TURNS n e
at_most (negsuc n) e = omega arith

pub turns_counted : (lo hi : ℤ) (arrays : List (List ℤ)) → fits lo ≡ true → fits hi ≡ true → ResultSuch (Counted lo hi arrays) (loop_iterations lo hi arrays)
turns_counted lo hi arrays f g = go (int_le hi lo) (int_lt (pos MOST_TURNS) (hi -ℤ lo)) (lies_within lo hi arrays) refl refl refl
  where
    go : (x y z : Bool) → int_le hi lo ≡ x → int_lt (pos MOST_TURNS) (hi -ℤ lo) ≡ y → lies_within lo hi arrays ≡ z →
        ResultSuch (Counted lo hi arrays) (if x then Value (pos 0) else (if y then Fails trap.TooManyIterations else (if z then Value (hi -ℤ lo) else Fails trap.OutOfBounds)))
    go true y z e e' e'' = record { count = 0; is = refl; small = omega arith; end_fits = rw (+ℤ_idr lo) f; lies = λ h. absurd (omega arith) }
    go false true z e e' e'' = tt
    go false false false e e' e'' = tt
    go false false true e e' e'' =
        let up : lo <ℤ hi = above lo hi e in
        let is : hi -ℤ lo ≡ pos (natural (hi -ℤ lo)) = difference (hi -ℤ lo) (omega (arith, ints)) in
        let end : lo +ℤ pos (natural (hi -ℤ lo)) ≡ hi = ap (λ z. lo +ℤ z) (sym is) ∙ omega (arith, ints) in
        let most : natural (hi -ℤ lo) ≤ MOST_TURNS = at_most (hi -ℤ lo) e' in
        record { count = natural (hi -ℤ lo); is = is; small = omega arith; end_fits = rw end g; lies = λ h. rw end e'' }
      where
        difference : (z : ℤ) → pos 0 <ℤ z → z ≡ pos (natural z)
        difference (pos n) h = refl
        difference (negsuc n) h = absurd (omega (arith, ints))

-- an instruction whose value has this property, or that traps
pub such_paid : {C D : Type 0} {S : C → D → Type 0} (P : ℤ → Type 0) (r : Result) (ev' : Evaluated) (line left : ℕ) → ev' ≡ done_at 1 r
    → ResultSuch P r → (go : ℤ → ℕ → Outcome C) (go' : ℤ → ℕ → Outcome D) →
    ((v : ℤ) (l : ℕ) → P v → l + 1 ≤ left → Alike S l (go v l) (go' v l)) → Alike S left (then_do (pay_for (done_at 1 r) line left) go) (then_do (pay_for ev' line left) go')
such_paid {C = C} {D = D} {S = S} P (Value v) ev' line left e f go go' h =
    alike_left (value_pays v 1 line left go) (alike_right (ap (λ ev. then_do (pay_for ev line left) go') e ∙ value_pays v 1 line left go')
    (alike_pay 1 left _ _ (λ enough. h v (left - 1) f (omega arith))))
such_paid {C = C} {D = D} {S = S} P (Fails trap) ev' line left e f go go' h = alike_right (ap (λ ev. then_do (pay_for ev line left) go') e) (both_stop left trap line go go' (nat_lt left 1))
