-- Merged steps contain the same instructions of each site.
use Rattle.std.specs.Prelude.{◌≡◌, ℕ, zero, suc, ◌+◌, ◌-◌, ◌^◌, ◌≤◌, ◌<◌, ◌==◌, nat_lt, Bool, true, false, if◌then◌else◌, List, [], ◌∷◌, ◌++◌, length, take, drop, refl}
use Rattle.std.proofs.Common.{sym, ◌∙◌, ap, subst, inl, inr, set, get_or, arith}
use Rattle.std.proofs.lemmas.Bool.{cases_lt}
use Rattle.std.proofs.lemmas.Bool.Decides.{nat_tests}
use Rattle.std.proofs.lemmas.List.{get_or_past, get_or-set_same, get_or-set_other, length-set}
use borrow.Author.Tests.{eqb-true}
use Rattle.cw_facts.specs.Tests.{below, not_below, equal}
use Rattle.cw_sites.specs.declared.steps.Steps.{Steps}
use Rattle.cw_measure.specs.Outermost.{one_if}
use Rattle.cw_facts.specs.Items.{entry, Enters}
use Rattle.cw_facts.specs.declared.table.Table.{Table}
use Rattle.cw_sites.specs.Compacting.{placed, Gathered, IsAddedUp, IsAt, IsGathered}
use Rattle.cw_sites.specs.StepSums.{if_site, upto, sum_at, added, IsCutOut, SumsUp, AllBelow}
use Rattle.cw_sites.proofs.StepSumLaws.{upto-mono, upto-next, upto-set, upto_to-set, upto_past-set, steps_if, own_next}

pub all_below_at : (most : ℕ) (xs : List Steps) (i : ℕ) (d : Steps) → i < length xs → AllBelow most xs → (get_or xs i d).site < most
all_below_at most [] i d h b = absurd (omega arith)
all_below_at most (x ∷ xs) zero d h b = b.0
all_below_at most (x ∷ xs) (suc i) d h b = all_below_at most xs i d (omega arith) b.1

pub all_below-append : (most : ℕ) (xs ys : List Steps) → AllBelow most xs → AllBelow most ys → AllBelow most (xs ++ ys)
all_below-append most [] ys a b = b
all_below-append most (x ∷ xs) ys a b = (a.0, all_below-append most xs ys a.1 b)

pub all_below-take : (most : ℕ) (xs : List Steps) (n : ℕ) → AllBelow most xs → AllBelow most (take n xs)
all_below-take most [] zero a = tt
all_below-take most [] (suc n) a = tt
all_below-take most (x ∷ xs) zero a = tt
all_below-take most (x ∷ xs) (suc n) a = (a.0, all_below-take most xs n a.1)

pub all_below-drop : (most : ℕ) (xs : List Steps) (n : ℕ) → AllBelow most xs → AllBelow most (drop n xs)
all_below-drop most [] zero a = tt
all_below-drop most [] (suc n) a = tt
all_below-drop most (x ∷ xs) zero a = a
all_below-drop most (x ∷ xs) (suc n) a = all_below-drop most xs n a.1

pub all_below-set : (most : ℕ) (xs : List Steps) (i : ℕ) (y : Steps) → y.site < most → AllBelow most xs → AllBelow most (set xs i y)
all_below-set most [] i y h a = tt
all_below-set most (x ∷ xs) zero y h a = (h, a.1)
all_below-set most (x ∷ xs) (suc i) y h a = (a.0, all_below-set most xs i y h a.1)

-- the sums over the steps from one place up to another
pub record SummedTo (from to : ℕ) (steps : List Steps) (i : ℕ) (sums : List ℕ) : Type 0 where
  pub each : to ≤ length steps → i ≤ to → (q : ℕ) → upto q steps to - upto q steps from < 2 ^ 64 → sum_at q sums ≡ upto q steps i - upto q steps from
  pub words : length sums ≤ 2 ^ 32
  pub sites : (most : ℕ) → AllBelow most steps → length sums ≤ most

pub nothing_summed : (from to : ℕ) (steps : List Steps) (sums : List ℕ) → sums ≡ [] → SummedTo from to steps from sums
nothing_summed from to steps sums e = record {
  each = λ l k q fits. ap (sum_at q) e ∙ get_or_past [] q 0 (omega arith) ∙ omega arith;
  words = let n = ap length e in omega arith;
  sites = λ most b. let n = ap length e in omega arith;
}

pub one_summed : (from to : ℕ) (steps : List Steps) (i : ℕ) (s : Steps) (sums sums' : List ℕ) → from ≤ i → i < length steps → s ≡ get_or steps i s
    → (length sums ≤ 2 ^ 32 → length sums' ≤ 2 ^ 32) → ((q : ℕ) → sum_at q sums' ≡ added q s.site s.count (sum_at q sums))
    → ((most : ℕ) → s.site < most → length sums ≤ most → length sums' ≤ most) → SummedTo from to steps i sums → SummedTo from to steps (i + 1) sums'
one_summed from to steps i s sums sums' le lt at word add longest h = record {
  each = λ l k q fits. own_next q steps from i to s (sum_at q sums) (sum_at q sums') le lt (omega arith) at (h.each l (omega arith) q fits) fits (add q);
  words = word h.words;
  sites = λ most b. let P : Steps → Type 0 = λ x. x.site < most in longest most (subst P (sym at) (all_below_at most steps i s lt b)) (h.sites most b);
}

pub all_summed : (from to : ℕ) (steps : List Steps) (i : ℕ) (sums : List ℕ) → (from ≤ to → to ≤ length steps → i ≡ to)
    → SummedTo from to steps i sums → from ≤ to → to ≤ length steps → SumsUp from to steps sums
all_summed from to steps i sums e h o l = λ q fits. let z = e o l in h.each l (omega arith) q fits ∙ ap (λ (n : ℕ). upto q steps n - upto q steps from) z

not_same : (n q : ℕ) → n < q → ((n == q) ≡ false) × ((q == n) ≡ false)
not_same n q h = (grind (arith, nat_tests), grind (arith, nat_tests))

-- the place of a site after it was set, and the places of others
given_here : (to : ℕ) (old new : Table ℕ) (site place : ℕ) → Enters to old new site place → entry to new site ≡ place
given_here to old new site place g = g site ∙ ap (λ (b : Bool). if b then place else entry to old site) (equal site site refl)

given_other : (to : ℕ) (old new : Table ℕ) (site place q : ℕ) → Enters to old new site place → (site == q) ≡ false → entry to new q ≡ entry to old q
given_other to old new site place q g e = g q ∙ ap (λ (b : Bool). if b then place else entry to old q) e

-- the number of sites with a place
pub placed_few : (to : ℕ) (places : Table ℕ) (most : ℕ) → placed to places most ≤ most
placed_few to places zero = omega arith
placed_few to places (suc n) = let k = placed_few to places n in at_most (nat_lt (entry to places n) to) (placed to places n) n k
  where
    at_most : (b : Bool) (p n : ℕ) → p ≤ n → p + one_if b ≤ suc n
    at_most true p n h = omega arith
    at_most false p n h = omega arith

placed_same : (to : ℕ) (old new : Table ℕ) (site place n : ℕ) → Enters to old new site place → n ≤ site → placed to new n ≡ placed to old n
placed_same to old new site place zero g h = refl
placed_same to old new site place (suc n) g h =
    let k = placed_same to old new site place n g (omega arith) in
    let e = ap (λ (x : ℕ). one_if (nat_lt x to)) (given_other to old new site place n g (not_same n site (omega arith)).1) in
    omega arith

pub placed_more : (to : ℕ) (old new : Table ℕ) (site place n : ℕ) → Enters to old new site place → place < to → to ≤ entry to old site → site < n → placed to new n ≡ placed to old n + 1
placed_more to old new site place zero g p t h = absurd (omega arith)
placed_more to old new site place (suc n) g p t h = elim (cases_lt site n) [
  | inl less ↦
      (let k = placed_more to old new site place n g p t less in
      let e = ap (λ (x : ℕ). one_if (nat_lt x to)) (given_other to old new site place n g (not_same site n less).0) in
      omega arith)
  | inr more ↦
      (let same : site ≡ n = omega arith in
      let k = placed_same to old new site place n g (omega arith) in
      let N : ℕ → Type 0 = λ x. one_if (nat_lt (entry to new x) to) ≡ 1 in
      let O : ℕ → Type 0 = λ x. one_if (nat_lt (entry to old x) to) ≡ 0 in
      let a = subst N same (ap (λ (x : ℕ). one_if (nat_lt x to)) (given_here to old new site place g) ∙ ap one_if (below place to p)) in
      let b = subst O same (ap one_if (not_below (entry to old site) to t)) in
      omega arith)
]

-- no step is merged yet
pub nothing_gathered : (from to : ℕ) (old : List Steps) (places : Table ℕ) → ((k : ℕ) → entry to places k ≡ to) → Gathered from to old old from places from
nothing_gathered from to old places none = record {
  from_is = omega arith;
  end_is = omega arith;
  count_is = refl;
  below = λ q n h. refl;
  same = λ q fits. refl;
  behind = λ q m n h l. omega arith;
  at = λ site h. let e = none site in absurd (omega arith);
  sites = λ most b. let z = none_placed most in omega arith;
  kept = λ most b. b;
}
  where
    none_placed : (most : ℕ) → placed to places most ≡ 0
    none_placed zero = refl
    none_placed (suc n) = let k = none_placed n in let e = none n in let f = ap one_if (not_below (entry to places n) to (omega arith)) in omega arith

-- the step at the place `i` is an unchanged step of the list
next_is : (q i : ℕ) (old now : List Steps) (one : Steps) → i < length now → one ≡ get_or now i one
    → upto q now (i + 1) + upto q old i ≡ upto q old (i + 1) + upto q now i → upto q old (i + 1) ≡ upto q old i + if_site q one.site one.count
next_is q i old now one lt is behind =
    let a = upto-next q now i one lt in
    let b = ap (λ (x : Steps). if_site q x.site x.count) is in
    omega arith

merged_by : (b : Bool) (before all new there count sum next end : ℕ) → new + steps_if b there ≡ all + steps_if b sum
    → before + steps_if b there ≤ all → next ≡ all + steps_if b count → next ≤ end → end - before < 2 ^ 64
    → (there + count < 2 ^ 64 → sum ≡ there + count) → new ≡ next
merged_by true before all new there count sum next end e f g h fits m = let k = m (omega arith) in omega arith
merged_by false before all new there count sum next end e f g h fits m = omega arith

-- the step is added to the merged step of its site
pub one_merged : (from to : ℕ) (old now : List Steps) (i end place sum : ℕ) (places : Table ℕ) (one there : Steps) → i < to → to ≤ length now
    → one ≡ get_or now i one → place ≡ entry to places one.site → place < to → there ≡ get_or now place there
    → (there.count + one.count < 2 ^ 64 → sum ≡ there.count + one.count) → Gathered from to old now i places end
    → Gathered from to old (set now place (record { site = one.site; count = sum })) (i + 1) places end
one_merged from to old now i end place sum places one there lt within is at less was more h =
    let y : Steps = record { site = one.site; count = sum } in
    let P : ℕ → Type 0 = λ p. IsAt one.site now from end p in
    let here : IsAt one.site now from end place = subst P (sym at) (h.at one.site (omega arith)) in
    let h0 = here.0 in let h1 = here.1 in let e = h.end_is in let n = h.count_is in
    let there_is : there.site ≡ one.site = ap (λ (x : Steps). x.site) was ∙ here.2 there in
    record {
      from_is = h.from_is;
      end_is = omega arith;
      count_is = length-set now place y ∙ h.count_is;
      below = λ q m k. upto-set q now place m y (omega arith) ∙ h.below q m k;
      same = λ q fits.
          let moved = shifted q end h1 in
          let next = next_is q i old now one (omega arith) is (h.behind q i (i + 1) (omega arith) (omega arith)) in
          let so_far = h.same q fits in
          let a = upto-next q now place there (omega arith) in
          let b = ap (λ (x : Steps). if_site q x.site x.count) was in
          let c : if_site q there.site there.count ≡ if_site q one.site there.count = ap (λ (x : ℕ). if_site q x there.count) there_is in
          let d = upto-mono q now from place h0 in
          let f = upto-mono q now (place + 1) end (omega arith) in
          let g = h.below q from (omega arith) in
          let k = upto-mono q old (i + 1) to (omega arith) in
          merged_by (one.site == q) (upto q old from) (upto q old i) (upto q (set now place y) end) there.count one.count sum (upto q old (i + 1))
          (upto q old to) (omega arith) (omega arith) next k fits more;
      behind = λ q m k a b.
          let u = shifted q m (omega arith) in
          let v = shifted q k (omega arith) in
          let w = h.behind q m k (omega arith) b in
          omega arith;
      at = λ site l. let s = h.at site l in (s.0, s.1, λ d. by_place site (entry to places site) d (s.2 d));
      sites = h.sites;
      kept = λ most b. let S : Steps → Type 0 = λ x. x.site < most in all_below-set most now place y (subst S (sym is) (all_below_at most now i one (omega arith) (h.kept most b))) (h.kept most b);
    }
  where
    shifted : (q n : ℕ) → place < n → upto q (set now place (record { site = one.site; count = sum })) n + if_site q one.site there.count ≡ upto q now n + if_site q one.site sum
    shifted q n k =
        let y : Steps = record { site = one.site; count = sum } in
        let P : ℕ → Type 0 = λ p. IsAt one.site now from end p in
        let here : IsAt one.site now from end place = subst P (sym at) (h.at one.site (omega arith)) in
        let there_is : there.site ≡ one.site = ap (λ (x : Steps). x.site) was ∙ here.2 there in
        let u = upto_past-set q now place n y there (omega arith) k in
        let b = ap (λ (x : Steps). if_site q x.site x.count) was in
        let c : if_site q there.site there.count ≡ if_site q one.site there.count = ap (λ (x : ℕ). if_site q x there.count) there_is in
        omega arith

    by_place : (site p : ℕ) (d : Steps) → (get_or now p d).site ≡ site → (get_or (set now place (record { site = one.site; count = sum })) p d).site ≡ site
    by_place site p d s =
        let y : Steps = record { site = one.site; count = sum } in
        let P : ℕ → Type 0 = λ x. IsAt one.site now from end x in
        let here : IsAt one.site now from end place = subst P (sym at) (h.at one.site (omega arith)) in
        elim (cases_lt p place) [
          | inl l ↦ ap (λ (x : Steps). x.site) (get_or-set_other now place p y d (λ e. absurd (omega arith))) ∙ s
          | inr m ↦ elim (cases_lt place p) [
            | inl l ↦ ap (λ (x : Steps). x.site) (get_or-set_other now place p y d (λ e. absurd (omega arith))) ∙ s
            | inr k ↦
                (let e : place ≡ p = omega arith in
                let N : ℕ → Type 0 = λ x. (get_or (set now place y) x d).site ≡ site in
                let O : ℕ → Type 0 = λ x. (get_or now x d).site ≡ site in
                subst N e (ap (λ (x : Steps). x.site) (get_or-set_same now place y d (omega arith)) ∙ sym (here.2 d) ∙ subst O (sym e) s))
          ]
        ]

-- the step is put after the merged steps
pub one_put : (from to : ℕ) (old now : List Steps) (i end : ℕ) (places new_places : Table ℕ) (one : Steps) → i < to → to ≤ length now
    → one ≡ get_or now i one → to ≤ entry to places one.site → Enters to places new_places one.site end → Gathered from to old now i places end
    → Gathered from to old (set now end one) (i + 1) new_places (end + 1)
one_put from to old now i end places new_places one lt within is free g h =
    let f = h.from_is in let e = h.end_is in let n = h.count_is in
    record {
      from_is = omega arith;
      end_is = omega arith;
      count_is = length-set now end one ∙ h.count_is;
      below = λ q m k. upto-set q now end m one (omega arith) ∙ h.below q m k;
      same = λ q fits.
          let next = next_is q i old now one (omega arith) is (h.behind q i (i + 1) (omega arith) (omega arith)) in
          let so_far = h.same q fits in
          let a = upto_to-set q now end one (omega arith) in
          omega arith;
      behind = λ q m k a b.
          let u = upto_past-set q now end m one one (omega arith) (omega arith) in
          let v = upto_past-set q now end k one one (omega arith) (omega arith) in
          let w = h.behind q m k (omega arith) b in
          omega arith;
      at = λ site l. by_site site l (one.site == site) refl;
      sites = λ most b.
          let S : Steps → Type 0 = λ x. x.site < most in
          let s = h.sites most b in
          let k = placed_more to places new_places one.site end most g (omega arith) free (subst S (sym is) (all_below_at most now i one (omega arith) (h.kept most b))) in
          omega arith;
      kept = λ most b. let S : Steps → Type 0 = λ x. x.site < most in all_below-set most now end one (subst S (sym is) (all_below_at most now i one (omega arith) (h.kept most b))) (h.kept most b);
    }
  where
    by_site : (site : ℕ) → entry to new_places site < to → (b : Bool) → (one.site == site) ≡ b → IsAt site (set now end one) from (end + 1) (entry to new_places site)
    by_site site l true e =
        let same : one.site ≡ site = eqb-true one.site site e in
        let put : entry to new_places site ≡ end = ap (entry to new_places) (sym same) ∙ given_here to places new_places one.site end g in
        let f = h.from_is in let k = h.end_is in
        let P : ℕ → Type 0 = λ x. IsAt site (set now end one) from (end + 1) x in
        subst P (sym put) (f, omega arith, λ d. ap (λ (x : Steps). x.site) (get_or-set_same now end one d (omega arith)) ∙ same)
    by_site site l false e =
        let was : entry to new_places site ≡ entry to places site = given_other to places new_places one.site end site g e in
        let s = h.at site (omega arith) in
        let less = s.1 in
        let P : ℕ → Type 0 = λ x. IsAt site (set now end one) from (end + 1) x in
        subst P (sym was) (s.0, omega arith, λ d. ap (λ (x : Steps). x.site) (get_or-set_other now end (entry to places site) one d (λ x. absurd (omega arith))) ∙ s.2 d)

-- all steps are merged
pub all_gathered : (from to i end : ℕ) (old new : List Steps) (places : Table ℕ) → i ≡ to → to ≤ length old → Gathered from to old new i places end → IsGathered from to old new end
all_gathered from to i end old new places is within h =
    let P : ℕ → Type 0 = λ x. Gathered from to old new x places end in
    let g = subst P is h in
    record {
      from_is = g.from_is;
      end_is = g.end_is;
      count_is = g.count_is;
      below = g.below;
      same = g.same;
      behind = λ q. let b = g.behind q to (length old) (omega arith) within in let n = ap (upto q new) g.count_is in omega arith;
      sites = λ most b. let s = g.sites most b in let f = placed_few to places most in omega arith;
      kept = g.kept;
    }

-- the steps after the merged ones moved up to their end
pub added_up : (from to end : ℕ) (old put new : List Steps) → to ≤ length old → IsGathered from to old put end → IsCutOut end to put new → IsAddedUp from to old new end
added_up from to end old put new l p g =
    let n = p.count_is in let m = g.count_is in let b = p.end_is in let f = p.from_is in
    record {
      from_is = p.from_is;
      count_is = omega arith;
      below = λ q x h. g.below q x (omega arith) ∙ p.below q x h;
      same = λ q fits. g.below q end (omega arith) ∙ p.same q fits;
      last = λ q.
          let a = g.all q in
          let c = g.below q end (omega arith) in
          let d = p.behind q in
          omega arith;
    }
