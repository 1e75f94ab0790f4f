-- The instructions in the first steps of a list after a change.
use Rattle.std.specs.Prelude.{◌≡◌, ℕ, zero, suc, ◌+◌, ◌-◌, ◌^◌, ◌≤◌, ◌<◌, ◌==◌, min, Bool, true, false, if◌then◌else◌, List, [], ◌∷◌, ◌++◌, length, take, drop, refl}
use Rattle.std.proofs.Common.{sym, ◌∙◌, ap, set, get_or, arith}
use Rattle.cw_sites.specs.declared.steps.Steps.{Steps}
use Rattle.cw_sites.specs.StepSums.{if_site, upto, whole}

pub upto-zero : (q : ℕ) (xs : List Steps) → upto q xs 0 ≡ 0
upto-zero q [] = refl
upto-zero q (x ∷ xs) = refl

pub upto-mono : (q : ℕ) (xs : List Steps) (m n : ℕ) → m ≤ n → upto q xs m ≤ upto q xs n
upto-mono q [] m n h = omega arith
upto-mono q (x ∷ xs) zero n h = omega arith
upto-mono q (x ∷ xs) (suc m) zero h = absurd (omega arith)
upto-mono q (x ∷ xs) (suc m) (suc n) h = let i = upto-mono q xs m n (omega arith) in omega arith

pub upto-append : (q : ℕ) (xs ys : List Steps) (n : ℕ) → n ≤ length xs → upto q (xs ++ ys) n ≡ upto q xs n
upto-append q [] ys zero h = upto-zero q ys
upto-append q [] ys (suc n) h = absurd (omega arith)
upto-append q (x ∷ xs) ys zero h = refl
upto-append q (x ∷ xs) ys (suc n) h = let i = upto-append q xs ys n (omega arith) in omega arith

pub upto-push : (q : ℕ) (xs : List Steps) (y : Steps) → upto q (xs ++ y ∷ []) (length (xs ++ y ∷ [])) ≡ upto q xs (length xs) + if_site q y.site y.count
upto-push q [] y = omega arith
upto-push q (x ∷ xs) y = let i = upto-push q xs y in omega arith

pub upto-take : (q : ℕ) (xs : List Steps) (m n : ℕ) → n ≤ m → upto q (take m xs) n ≡ upto q xs n
upto-take q [] zero n h = refl
upto-take q [] (suc m) n h = refl
upto-take q (x ∷ xs) zero zero h = refl
upto-take q (x ∷ xs) zero (suc n) h = absurd (omega arith)
upto-take q (x ∷ xs) (suc m) zero h = refl
upto-take q (x ∷ xs) (suc m) (suc n) h = let i = upto-take q xs m n (omega arith) in omega arith

pub upto-set : (q : ℕ) (xs : List Steps) (i n : ℕ) (y : Steps) → n ≤ i → upto q (set xs i y) n ≡ upto q xs n
upto-set q [] i n y h = refl
upto-set q (x ∷ xs) zero zero y h = refl
upto-set q (x ∷ xs) zero (suc n) y h = absurd (omega arith)
upto-set q (x ∷ xs) (suc i) zero y h = refl
upto-set q (x ∷ xs) (suc i) (suc n) y h = let k = upto-set q xs i n y (omega arith) in omega arith

pub upto_all-set : (q : ℕ) (xs : List Steps) (i : ℕ) (y d : Steps) → i < length xs
    → upto q (set xs i y) (length (set xs i y)) + if_site q (get_or xs i d).site (get_or xs i d).count ≡ upto q xs (length xs) + if_site q y.site y.count
upto_all-set q [] i y d h = absurd (omega arith)
upto_all-set q (x ∷ xs) zero y d h = omega arith
upto_all-set q (x ∷ xs) (suc i) y d h = let k = upto_all-set q xs i y d (omega arith) in omega arith

-- the sum up to `n` without the first `b` steps, plus the sum of these, is the sum up to `n + b`
pub upto-drop : (q : ℕ) (xs : List Steps) (b n : ℕ) → upto q (drop b xs) n + upto q xs b ≡ upto q xs (n + b)
upto-drop q [] zero n = refl
upto-drop q [] (suc b) n = refl
upto-drop q (x ∷ xs) zero n = let z : n + 0 ≡ n = omega arith in let e = ap (upto q (x ∷ xs)) z in omega arith
upto-drop q (x ∷ xs) (suc b) n = let i = upto-drop q xs b n in let z : n + suc b ≡ suc (n + b) = omega arith in let e = ap (upto q (x ∷ xs)) z in omega arith

abbrev pub steps_if : Bool → ℕ → ℕ
steps_if b k = if b then k else 0

-- the last step, and the steps before it
pub upto-last : (q : ℕ) (xs : List Steps) (i : ℕ) (d : Steps) → suc i ≡ length xs → upto q xs i + if_site q (get_or xs i d).site (get_or xs i d).count ≡ whole q xs
upto-last q [] i d h = absurd (omega arith)
upto-last q (x ∷ []) zero d h = omega arith
upto-last q (x ∷ []) (suc i) d h = absurd (omega arith)
upto-last q (x ∷ y ∷ xs) zero d h = absurd (omega arith)
upto-last q (x ∷ y ∷ xs) (suc i) d h = let k = upto-last q (y ∷ xs) i d (omega arith) in omega arith

-- one more step
pub upto-next : (q : ℕ) (xs : List Steps) (i : ℕ) (d : Steps) → i < length xs → upto q xs (i + 1) ≡ upto q xs i + if_site q (get_or xs i d).site (get_or xs i d).count
upto-next q [] i d h = absurd (omega arith)
upto-next q (x ∷ xs) zero d h = let z = upto-zero q xs in omega arith
upto-next q (x ∷ xs) (suc i) d h = let k = upto-next q xs i d (omega arith) in let e : suc i + 1 ≡ suc (i + 1) = omega arith in let f = ap (upto q (x ∷ xs)) e in omega arith

by_site : (b : Bool) (before all new old count sum : ℕ) → new + steps_if b old ≡ all + steps_if b sum → before + steps_if b old ≤ all
    → (all - before) + steps_if b count < 2 ^ 64 → (old + count < 2 ^ 64 → sum ≡ old + count) → new ≡ all + steps_if b count
by_site true before all new old count sum e f g h = let m = h (omega arith) in omega arith
by_site false before all new old count sum e f g h = omega arith

-- steps of the same site that exist grow
pub upto-more : (q : ℕ) (xs : List Steps) (i start : ℕ) (s : Steps) (site count sum : ℕ) → i < length xs → start ≤ i → s ≡ get_or xs i s
    → s.site ≡ site → (s.count + count < 2 ^ 64 → sum ≡ s.count + count) → (whole q xs - upto q xs start) + if_site q site count < 2 ^ 64
    → whole q (set xs i (record { site = site; count = sum })) ≡ whole q xs + if_site q site count
upto-more q xs i start s site count sum h below g e m fits =
    let a = upto_all-set q xs i (record { site = site; count = sum }) s h in
    let b = upto-next q xs i s h in
    let m' = upto-mono q xs (i + 1) (length xs) (omega arith) in
    let u = upto-mono q xs start i below in
    let c : if_site q (get_or xs i s).site (get_or xs i s).count ≡ if_site q site s.count = ap (λ (x : Steps). if_site q x.site x.count) (sym g) ∙ ap (λ (x : ℕ). if_site q x s.count) e in
    by_site (site == q) (upto q xs start) (whole q xs) (whole q (set xs i (record { site = site; count = sum }))) s.count count sum (omega arith) (omega arith) fits m

next_by : (b : Bool) (count sum next all from more : ℕ) → more ≡ all + steps_if b count → sum ≡ all - from → from ≤ all → more - from < 2 ^ 64
    → next ≡ (if b then min (sum + count) (2 ^ 64 - 1) else sum) → next ≡ more - from
next_by true count sum next all from more e f g h k = omega arith
next_by false count sum next all from more e f g h k = omega arith

pub own_next : (q : ℕ) (xs : List Steps) (start i to : ℕ) (s : Steps) (sum next : ℕ) → start ≤ i → i < length xs → i + 1 ≤ to → s ≡ get_or xs i s
    → sum ≡ upto q xs i - upto q xs start → upto q xs to - upto q xs start < 2 ^ 64
    → next ≡ (if s.site == q then min (sum + s.count) (2 ^ 64 - 1) else sum) → next ≡ upto q xs (i + 1) - upto q xs start
own_next q xs start i to s sum next le lt within g e small n =
    let a = upto-next q xs i s lt in
    let c = ap (λ (x : Steps). if_site q x.site x.count) (sym g) in
    let m = upto-mono q xs start i le in
    let t = upto-mono q xs (i + 1) to within in
    next_by (s.site == q) s.count sum next (upto q xs i) (upto q xs start) (upto q xs (i + 1)) (omega arith) e m (omega arith) n

-- a step is replaced by another: the sums up to it, and past it
pub upto_to-set : (q : ℕ) (xs : List Steps) (i : ℕ) (y : Steps) → i < length xs → upto q (set xs i y) (i + 1) ≡ upto q xs i + if_site q y.site y.count
upto_to-set q [] i y h = absurd (omega arith)
upto_to-set q (x ∷ xs) zero y h = let z = upto-zero q xs in omega arith
upto_to-set q (x ∷ xs) (suc i) y h = let k = upto_to-set q xs i y (omega arith) in let e : suc i + 1 ≡ suc (i + 1) = omega arith in let f = ap (upto q (x ∷ set xs i y)) e in omega arith

pub upto_past-set : (q : ℕ) (xs : List Steps) (i n : ℕ) (y d : Steps) → i < length xs → i < n
    → upto q (set xs i y) n + if_site q (get_or xs i d).site (get_or xs i d).count ≡ upto q xs n + if_site q y.site y.count
upto_past-set q [] i n y d h k = absurd (omega arith)
upto_past-set q (x ∷ xs) i zero y d h k = absurd (omega arith)
upto_past-set q (x ∷ xs) zero (suc n) y d h k = omega arith
upto_past-set q (x ∷ xs) (suc i) (suc n) y d h k = let m = upto_past-set q xs i n y d (omega arith) (omega arith) in omega arith
