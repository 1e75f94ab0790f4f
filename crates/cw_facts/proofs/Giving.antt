-- A number is given its item through the list that it lies in.
use Rattle.std.specs.Prelude.{◌≡◌, ℕ, ◌+◌, ◌*◌, ◌/◌, ◌%◌, ◌<◌, ◌==◌, false, List, [], length, if◌then◌else◌}
use Rattle.std.specs.Global.{Vec}
use Rattle.std.proofs.Common.{sym, ◌∙◌, ap, subst, inl, inr, set, get_or, arith, refl}
use Rattle.std.proofs.lemmas.Bool.{cases_lt}
use Rattle.std.proofs.lemmas.Bool.Decides.{nat_tests}
use Rattle.std.proofs.lemmas.List.{get_or-set_same, get_or-map, get_or-set_other, length-map, map-set}
use Rattle.std.proofs.lemmas.Nat.{div-add-mod'}
use Rattle.cw_facts.specs.Tests.{less_differs, taken, not_taken, equal}
use Rattle.cw_facts.specs.Items.{lists_of}

more_number : (n k : ℕ) → k < n → (n == k) ≡ false
more_number n k h = grind (arith, nat_tests)

-- numbers with the same quotient and the same rest
same_parts : (n k w : ℕ) → n / w ≡ k / w → n % w ≡ k % w → n ≡ k
same_parts n k w q r = sym (div-add-mod' n w) ∙ ap (λ (x : ℕ). x * w + n % w) q ∙ ap (λ (x : ℕ). k / w * w + x) r ∙ div-add-mod' k w

-- one list of so many is changed at one number: `read` tells what a list has at a number
pub given : {A T : Type 0} (read : A → ℕ → T) (e : A) (w : ℕ) (old mid : List A) (x : A) (n : ℕ) (v : T)
    → ((k : ℕ) → get_or mid k e ≡ get_or old k e) → n / w < length mid
    → ((k : ℕ) → read x k ≡ (if n % w == k then v else read (get_or mid (n / w) e) k)) → (k : ℕ)
    → read (get_or (set mid (n / w) x) (k / w) e) (k % w) ≡ (if n == k then v else read (get_or old (k / w) e) (k % w))
given {A} {T} read e w old mid x n v same within gives k = elim (cases_lt n k) [
  | inl less ↦ other (less_differs n k less) (λ q. absurd (omega arith))
  | inr more ↦ elim (cases_lt k n) [
    | inl less ↦ other (more_number n k less) (λ q. absurd (omega arith))
    | inr le ↦
        (let is : n ≡ k = omega arith in
        let P : ℕ → Type 0 = λ j. read (get_or (set mid (n / w) x) (j / w) e) (j % w) ≡ (if n == j then v else read (get_or old (j / w) e) (j % w)) in
        subst P is (ap (λ (y : A). read y (n % w)) (get_or-set_same mid (n / w) x e within) ∙ gives (n % w)
        ∙ taken (n % w == n % w) v (read (get_or mid (n / w) e) (n % w)) (equal (n % w) (n % w) refl)
        ∙ sym (taken (n == n) v (read (get_or old (n / w) e) (n % w)) (equal n n refl))))
  ]
]
  where
    at : ((n == k) ≡ false) → (n ≡ k → ⊥) → (j : ℕ) → n / w ≡ j → j ≡ k / w → read (get_or (set mid (n / w) x) (k / w) e) (k % w) ≡ read (get_or old (k / w) e) (k % w)
    at f never j a b =
        let q : n / w ≡ k / w = a ∙ b in
        let P : ℕ → Type 0 = λ i. read (get_or (set mid (n / w) x) i e) (k % w) ≡ read (get_or old i e) (k % w) in
        let differ : (n % w == k % w) ≡ false = rests (λ r. never (same_parts n k w q r)) in
        subst P q (ap (λ (y : A). read y (k % w)) (get_or-set_same mid (n / w) x e within) ∙ gives (k % w)
        ∙ not_taken (n % w == k % w) v (read (get_or mid (n / w) e) (k % w)) differ ∙ ap (λ (y : A). read y (k % w)) (same (n / w)))
      where
        rests : (n % w ≡ k % w → ⊥) → (n % w == k % w) ≡ false
        rests never_so = elim (cases_lt (n % w) (k % w)) [
          | inl l ↦ less_differs (n % w) (k % w) l
          | inr m ↦ elim (cases_lt (k % w) (n % w)) [
            | inl l ↦ more_number (n % w) (k % w) l
            | inr l ↦ absurd (never_so (omega arith))
          ]
        ]

    other : (n == k) ≡ false → (n ≡ k → ⊥) → read (get_or (set mid (n / w) x) (k / w) e) (k % w) ≡ (if n == k then v else read (get_or old (k / w) e) (k % w))
    other f never = elim (cases_lt (n / w) (k / w)) [
      | inl l ↦ apart f (λ q. absurd (omega arith))
      | inr m ↦ elim (cases_lt (k / w) (n / w)) [
        | inl l ↦ apart f (λ q. absurd (omega arith))
        | inr l ↦ at f never (n / w) (omega arith) (omega arith) ∙ sym (not_taken (n == k) v (read (get_or old (k / w) e) (k % w)) f)
      ]
    ]
      where
        apart : (n == k) ≡ false → (k / w ≡ n / w → ⊥) → read (get_or (set mid (n / w) x) (k / w) e) (k % w) ≡ (if n == k then v else read (get_or old (k / w) e) (k % w))
        apart g ne = ap (λ (y : A). read y (k % w)) (get_or-set_other mid (n / w) (k / w) x e ne ∙ same (k / w)) ∙ sym (not_taken (n == k) v (read (get_or old (k / w) e) (k % w)) g)

-- the same of lists that vectors hold
pub given_in_lists : {A T : Type 0} (read : List A → ℕ → T) (w : ℕ) (old mid : List (Vec A)) (was new : Vec A) (n : ℕ) (v : T)
    → ((k : ℕ) → get_or (lists_of mid) k [] ≡ get_or (lists_of old) k []) → n / w < length mid → was ≡ get_or mid (n / w) was
    → ((k : ℕ) → read new.items k ≡ (if n % w == k then v else read was.items k)) → (k : ℕ)
    → read (get_or (lists_of (set mid (n / w) new)) (k / w) []) (k % w) ≡ (if n == k then v else read (get_or (lists_of old) (k / w) []) (k % w))
given_in_lists {A} read w old mid was new n v same within is gives k =
    let l : length (lists_of mid) ≡ length mid = length-map mid (λ (x : Vec A). x.items) in
    let was_is : was.items ≡ get_or (lists_of mid) (n / w) [] = ap (λ (x : Vec A). x.items) is ∙ sym (get_or-map (λ (x : Vec A). x.items) mid (n / w) was [] within) in
    ap (λ (xs : List (List A)). read (get_or xs (k / w) []) (k % w)) (map-set (λ (x : Vec A). x.items) mid (n / w) new)
    ∙ given read [] w (lists_of old) (lists_of mid) new.items n v same (omega arith) (λ j. gives j ∙ ap (λ (xs : List A). if n % w == j then v else read xs j) was_is) k
