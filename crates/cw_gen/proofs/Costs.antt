-- Costs in sequence.
use Rattle.std.proofs.Common.{◌≡◌, ℕ, zero, suc, ◌+◌, ◌-◌, [], ◌∷◌, ◌++◌, refl, sym, ap, ◌∙◌, arith, ℤ, Bool, true, false, nat_lt, if◌then◌else◌}
use Rattle.std.proofs.lemmas.Bool.Decides.{nat_tests}
use Rattle.cw_model.specs.declared.trap.Trap.{Trap}
use Rattle.cw_model.specs.Ints.{Result, Value, Fails}
use Rattle.cw_model.specs.Trees.{Work, works}
use Rattle.cw_model.specs.Expressions.{Evaluated, Gives, Traps, done_at, and_then, also, dearer, index_cost, evaluate}
use Rattle.cw_model.specs.Frames.{Frame}
use Rattle.cw_model.specs.Names.{is_among}
use Rattle.cw_model.specs.Syntax.{Name, Expr}
use Rattle.cw_model.specs.Outcome.{Outcome, Done, Trapped, Over, Trace, shows, after, then_do, pay, pay_for}
use Rattle.cw_loops.specs.lemmas.Outcomes.{then_same}

-- the cost of a sum is the cost of its terms in sequence
pub works_more : (a b : ℕ) → works (a + b) ≡ works a ++ works b
works_more zero b = let e : 0 + b ≡ b = omega arith in ap works e
works_more (suc a) b = let e : suc a + b ≡ suc (a + b) = omega arith in ap works e ∙ ap (λ es. Work 1 ∷ es) (works_more a b)

two_tests : (left c c' : ℕ) → nat_lt left (c + c') ≡ (if nat_lt left c then true else nat_lt (left - c) c')
two_tests left c c' = grind (arith, nat_tests)

abbrev over_int : Outcome ℤ
over_int = Over

-- the result after more instructions
later : (r : Result) (v : ℤ) (c c' line left : ℕ) → pay_for (done_at (c + c') r) line left ≡ then_do (pay_for (Gives v c) line left) (λ _ l. pay_for (done_at c' r) line l)
later (Value w) v c c' line left =
    ap (λ z. if z then Over else Done w (left - (c + c')) (shows (works (c + c')))) (two_tests left c c') ∙ cases (nat_lt left c) (nat_lt (left - c) c') ∙ sym (outer (nat_lt left c))
  where
    cases : (x y : Bool) → (if (if x then true else y) then Over else Done w (left - (c + c')) (shows (works (c + c'))))
        ≡ (if x then Over else after (shows (works c)) (if y then Over else Done w (left - c - c') (shows (works c'))))
    cases true y = refl
    cases false true = refl
    cases false false = let e : left - (c + c') ≡ left - c - c' = omega arith in ap (λ k. Done w k (shows (works (c + c')))) e ∙ ap (λ es. Done w (left - c - c') (shows es)) (works_more c c')

    outer : (x : Bool) → then_do (if x then Over else Done v (left - c) (shows (works c)))
        (λ _ l. if nat_lt l c' then Over else Done w (l - c') (shows (works c')))
        ≡ (if x then Over else after (shows (works c)) (if nat_lt (left - c) c' then Over else Done w (left - c - c') (shows (works c'))))
    outer true = refl
    outer false = refl
later (Fails trap) v c c' line left =
    ap (λ z. if z then Over else Trapped trap line []) (two_tests left c c') ∙ cases (nat_lt left c) (nat_lt (left - c) c') ∙ sym (outer (nat_lt left c))
  where
    cases : (x y : Bool) → (if (if x then true else y) then over_int else Trapped trap line []) ≡ (if x then Over else after (shows (works c)) (if y then Over else Trapped trap line []))
    cases true y = refl
    cases false true = refl
    cases false false = refl

    outer : (x : Bool) → then_do (if x then Over else Done v (left - c) (shows (works c)))
        (λ _ l. if nat_lt l c' then over_int else Trapped trap line []) ≡ (if x then Over
        else after (shows (works c)) (if nat_lt (left - c) c' then Over else Trapped trap line []))
    outer true = refl
    outer false = refl

trap_ends : (trap : Trap) (c line l : ℕ) (go : ℤ → ℕ → Outcome ℤ) → then_do (pay_for (Traps trap c) line l) go ≡ pay_for (Traps trap c) line l
trap_ends trap c line l go = cases (nat_lt l c)
  where
    cases : (x : Bool) → then_do (if x then Over else Trapped trap line []) go ≡ (if x then Over else Trapped trap line [])
    cases true = refl
    cases false = refl

-- an operand, followed by its instruction
pub value_and_then : (x : Evaluated) (op : ℤ → Result) (line left : ℕ) →
    pay_for (and_then x op) line left ≡ then_do (pay_for x line left) (λ a l. pay_for (done_at 1 (op a)) line l)
value_and_then (Traps trap c) op line left = sym (trap_ends trap c line left _)
value_and_then (Gives v c) op line left = later (op v) v c 1 line left ∙ same (nat_lt left c)
  where
    same : (x : Bool) → then_do (if x then Over else Done v (left - c) (shows (works c))) (λ _ l. pay_for (done_at 1 (op v)) line l)
        ≡ then_do (if x then Over else Done v (left - c) (shows (works c))) (λ a l. pay_for (done_at 1 (op a)) line l)
    same true = refl
    same false = refl

-- two operands in sequence, followed by their instruction
pub value_also : (x y : Evaluated) (op : ℤ → ℤ → Result) (line left : ℕ) →
    pay_for (also x y op) line left ≡ then_do (pay_for x line left) (λ a l. then_do (pay_for y line l) (λ b l'. pay_for (done_at 1 (op a b)) line l'))
value_also (Traps trap c) y op line left = sym (trap_ends trap c line left _)
value_also (Gives v c) (Traps trap c') op line left =
    later (Fails trap) v c c' line left ∙ two_ways v c trap c' op line left
  where
    two_ways : (v : ℤ) (c : ℕ) (trap : Trap) (c' : ℕ) (op : ℤ → ℤ → Result) (line left : ℕ)
        → then_do (pay_for (Gives v c) line left) (λ _ l. pay_for (Traps trap c') line l)
        ≡ then_do (pay_for (Gives v c) line left) (λ a l. then_do (pay_for (Traps trap c') line l) (λ b l'. pay_for (done_at 1 (op a b)) line l'))
    two_ways v c trap c' op line left = then_same (pay_for (Gives v c) line left) _ _ (λ a l. sym (trap_ends trap c' line l (λ b l'. pay_for (done_at 1 (op a b)) line l')))
value_also (Gives v c) (Gives w c') op line left =
    let e : c + c' + 1 ≡ c + (c' + 1) = omega arith in
    ap (λ k. pay_for (done_at k (op v w)) line left) e ∙ later (op v w) v c (c' + 1) line left ∙ inner (nat_lt left c)
  where
    last : (x : Bool) → then_do (if x then Over else Done w (left - c - c') (shows (works c'))) (λ _ l'. pay_for (done_at 1 (op v w)) line l')
        ≡ then_do (if x then Over else Done w (left - c - c') (shows (works c'))) (λ b l'. pay_for (done_at 1 (op v b)) line l')
    last true = refl
    last false = refl

    inner : (x : Bool) → then_do (if x then Over else Done v (left - c) (shows (works c))) (λ _ l. pay_for (done_at (c' + 1) (op v w)) line l)
        ≡ then_do (if x then Over else Done v (left - c) (shows (works c)))
        (λ a l. then_do (pay_for (Gives w c') line l) (λ b l'. pay_for (done_at 1 (op a b)) line l'))
    inner true = refl
    inner false = ap (after (shows (works c))) (later (op v w) w c' 1 line (left - c) ∙ last (nat_lt (left - c) c'))

-- outside of loops an index has no additional cost
pub not_dearer : (a : Name) (e : Expr) (frame : Frame) → frame.sliced ≡ [] → dearer (index_cost frame a) (evaluate e frame) ≡ evaluate e frame
not_dearer a e frame h = ap (λ l. dearer (if is_among a l then 2 else 0) (evaluate e frame)) h ∙ none (evaluate e frame)
  where
    none : (x : Evaluated) → dearer 0 x ≡ x
    none (Traps trap c) = refl
    none (Gives v c) = let e : c + 0 ≡ c = omega arith in ap (Gives v) e

-- a payment of zero leaves the fuel unchanged
pub pay_none : (left : ℕ) → pay 0 left ≡ Done tt left (shows [])
pay_none left = grind (arith, nat_tests)

-- a finished run with this fuel and this trace
abbrev done : ℕ → Trace → Outcome (Unit {0})
done left t = Done tt left t

-- a cost may be paid in two parts
pub pay_more : (c c' left : ℕ) → pay (c + c') left ≡ then_do (pay c left) (λ _ l. pay c' l)
pay_more c c' left =
    ap (λ z. if z then Over else done (left - (c + c')) (shows (works (c + c')))) (two_tests left c c') ∙ cases (nat_lt left c) (nat_lt (left - c) c') ∙ sym (outer (nat_lt left c))
  where
    cases : (x y : Bool) → (if (if x then true else y) then Over else done (left - (c + c')) (shows (works (c + c'))))
        ≡ (if x then Over else after (shows (works c)) (if y then Over else done (left - c - c') (shows (works c'))))
    cases true y = refl
    cases false true = refl
    cases false false = let e : left - (c + c') ≡ left - c - c' = omega arith in ap (λ k. done k (shows (works (c + c')))) e ∙ ap (λ es. done (left - c - c') (shows es)) (works_more c c')

    outer : (x : Bool) → then_do (if x then Over else done (left - c) (shows (works c)))
        (λ _ l. if nat_lt l c' then Over else done (l - c') (shows (works c')))
        ≡ (if x then Over else after (shows (works c)) (if nat_lt (left - c) c' then Over else done (left - c - c') (shows (works c'))))
    outer true = refl
    outer false = refl
