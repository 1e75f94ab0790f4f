-- Steps that moved down in a list: the instructions in each part afterwards.
use Rattle.std.specs.Prelude.{◌≡◌, ℕ, suc, ◌+◌, ◌-◌, ◌≤◌, ◌<◌, min, List, [], ◌∷◌, ◌++◌, length, take, drop}
use Rattle.std.proofs.Common.{sym, ◌∙◌, ap, subst, inl, inr, length-append, length-drop, arith, get_or, set, swap_remove}
use Rattle.std.specs.List.{SameBelow, SameFrom}
use Rattle.std.proofs.Math.Seq.{paste}
use Rattle.std.proofs.lemmas.Bool.{cases_lt}
use Rattle.std.proofs.lemmas.List.{length-set, length-take-le, get_or-take}
use Rattle.std.proofs.lemmas.List.Edits.{length-paste}
use Rattle.cw_sites.specs.declared.steps.Steps.{Steps}
use Rattle.cw_sites.specs.StepSums.{upto, whole, AllBelow, IsMovedDown, IsCutOut, IsClosedUp, WritesWithin, WritesTwice}
use Rattle.cw_sites.proofs.StepSumLaws.{upto-append, upto-take, upto-drop, upto-set, upto-last, upto-next, upto_past-set}
use Rattle.cw_sites.proofs.CompactingLaws.{all_below_at, all_below-append, all_below-take, all_below-drop, all_below-set}

-- the steps of a concatenation
upto_behind : (q : ℕ) (xs ys : List Steps) (n : ℕ) → upto q (xs ++ ys) (length xs + n) ≡ whole q xs + upto q ys n
upto_behind q [] ys n = let z : 0 + n ≡ n = omega arith in let e = ap (upto q ys) z in omega arith
upto_behind q (x ∷ xs) ys n =
    let i = upto_behind q xs ys n in
    let z : suc (length xs) + n ≡ suc (length xs + n) = omega arith in
    let e = ap (upto q (x ∷ xs ++ ys)) z in omega arith

whole_take : (q : ℕ) (xs : List Steps) (n : ℕ) → n ≤ length xs → whole q (take n xs) ≡ upto q xs n
whole_take q xs n h = ap (upto q (take n xs)) (length-take-le n xs h) ∙ upto-take q xs n n (omega arith)

-- a copy of the first k steps of t to a place of s
module _ (q : ℕ) (s : List Steps) (at : ℕ) (t : List Steps) (k : ℕ) (a : at ≤ length s) (b : k ≤ length t) where
  head_long : length (take at s ++ take k t) ≡ at + k
  head_long = let e = length-append (take at s) (take k t) in let f = length-take-le at s a in let g = length-take-le k t b in omega arith

  pasted_below : (n : ℕ) → n ≤ at → upto q (paste s at t k) n ≡ upto q s n
  pasted_below n h =
      let l = head_long in
      let f = length-take-le at s a in
      upto-append q (take at s ++ take k t) (drop (at + k) s) n (omega arith)
      ∙ upto-append q (take at s) (take k t) n (omega arith)
      ∙ upto-take q s at n h

  head_sum : (j : ℕ) → j ≤ k → upto q (take at s ++ take k t) (at + j) ≡ upto q s at + upto q t j
  head_sum j h =
      let f = length-take-le at s a in
      let e : at + j ≡ length (take at s) + j = omega arith in
      let u = ap (upto q (take at s ++ take k t)) e in
      let v = upto_behind q (take at s) (take k t) j in
      let w = whole_take q s at a in
      let x = upto-take q t k j h in
      omega arith

  pasted_within : (j : ℕ) → j ≤ k → upto q (paste s at t k) (at + j) ≡ upto q s at + upto q t j
  pasted_within j h =
      let l = head_long in
      upto-append q (take at s ++ take k t) (drop (at + k) s) (at + j) (omega arith) ∙ head_sum j h

  pasted_behind : (m : ℕ) → upto q (paste s at t k) ((at + k) + m) + upto q s (at + k) ≡ (upto q s at + upto q t k) + upto q s (m + (at + k))
  pasted_behind m =
      let l = head_long in
      let e : (at + k) + m ≡ length (take at s ++ take k t) + m = omega arith in
      let u = ap (upto q (paste s at t k)) e in
      let v = upto_behind q (take at s ++ take k t) (drop (at + k) s) m in
      let w = ap (upto q (take at s ++ take k t)) l in
      let x = head_sum k (omega arith) in
      let y = upto-drop q s (at + k) m in
      omega arith

-- the last steps of a part moved down
module _ (from to end count : ℕ) (old new : List Steps) (order : from ≤ to) (behind : to ≤ end) (within : end ≤ length old)
    (c : count ≡ min (to - from) (end - to)) (e : new ≡ paste old from (drop (end - count) old) (end - (end - count))) where
  moved_count : end - (end - count) ≡ count
  moved_count = omega arith

  new_is : new ≡ paste old from (drop (end - count) old) count
  new_is = e ∙ ap (paste old from (drop (end - count) old)) moved_count

  room : count ≤ length (drop (end - count) old)
  room = let d = length-drop (end - count) old in omega arith

  moved_below : (q n : ℕ) → n ≤ from → upto q new n ≡ upto q old n
  moved_below q n h = ap (λ (xs : List Steps). upto q xs n) new_is ∙ pasted_below q old from (drop (end - count) old) count (omega arith) room n h

  moved_at : (q j : ℕ) → j ≤ count → upto q new (from + j) + upto q old (end - count) ≡ upto q old from + upto q old (j + (end - count))
  moved_at q j h =
      let a = ap (λ (xs : List Steps). upto q xs (from + j)) new_is in
      let b = pasted_within q old from (drop (end - count) old) count (omega arith) room j h in
      let d = upto-drop q old (end - count) j in
      omega arith

  moved_far : (q n : ℕ) → from + count ≤ n → (upto q new n + upto q old (from + count)) + upto q old (end - count) ≡ (upto q old from + upto q old end) + upto q old n
  moved_far q n h =
      let m = n - (from + count) in
      let z : (from + count) + (n - (from + count)) ≡ n = omega arith in
      let y : (n - (from + count)) + (from + count) ≡ n = omega arith in
      let x : count + (end - count) ≡ end = omega arith in
      let a = ap (λ (xs : List Steps). upto q xs n) new_is in
      let b = pasted_behind q old from (drop (end - count) old) count (omega arith) room (n - (from + count)) in
      let d = upto-drop q old (end - count) count in
      let f = ap (upto q (paste old from (drop (end - count) old) count)) z in
      let g = ap (upto q old) y in
      let i = ap (upto q old) x in
      omega arith

  moved_sum : (q : ℕ) → upto q new (from + (end - to)) + upto q old to ≡ upto q old from + upto q old end
  moved_sum q = elim (cases_lt (to - from) (end - to)) [
    | inl less ↦
        let f = moved_far q (from + (end - to)) (omega arith) in
        let x : from + count ≡ to = omega arith in
        let y : from + (end - to) ≡ end - count = omega arith in
        let g = ap (upto q old) x in
        let h = ap (upto q old) y in
        omega arith
    | inr more ↦
        let x : end - to ≡ count = omega arith in
        let y : end - count ≡ to = omega arith in
        let z : count + (end - count) ≡ end = omega arith in
        let f = moved_at q count (omega arith) in
        let g = ap (λ (n : ℕ). upto q new (from + n)) x in
        let h = ap (upto q old) y in
        let i = ap (upto q old) z in
        omega arith
  ]

  pub moved_down : IsMovedDown from to end old new
  moved_down = record {
    count_is = ap length new_is ∙ length-paste old from (drop (end - count) old) count (omega arith) room;
    below = moved_below;
    moved = moved_sum;
    behind = λ q n h. let a = moved_far q n (omega arith) in let b = moved_far q end (omega arith) in omega arith;
  }

pub all_below-moved : (most : ℕ) (old new : List Steps) (from src count : ℕ) → new ≡ paste old from (drop src old) count → AllBelow most old → AllBelow most new
all_below-moved most old new from src count e a =
    let P : List Steps → Type 0 = AllBelow most in
    subst P (sym e) (all_below-append most (take from old ++ take count (drop src old)) (drop (from + count) old)
    (all_below-append most (take from old) (take count (drop src old)) (all_below-take most old from a) (all_below-take most (drop src old) count (all_below-drop most old src a)))
    (all_below-drop most old (from + count) a))

-- the list is cut off after a move
pub cut_out : (from to end : ℕ) (old moved new : List Steps) → end ≡ length old → from ≤ to → to ≤ length old → IsMovedDown from to end old moved
    → new ≡ take (end - (to - from)) moved → IsCutOut from to old new
cut_out from to end old moved new z order within h e =
    let n = h.count_is in
    let l : length new ≡ end - (to - from) = ap length e ∙ length-take-le (end - (to - from)) moved (omega arith) in
    record {
      count_is = omega arith;
      below = λ q m k. ap (λ (xs : List Steps). upto q xs m) e ∙ upto-take q moved (end - (to - from)) m (omega arith) ∙ h.below q m k;
      all = λ q.
          let a = ap (whole q) e in
          let b = whole_take q moved (end - (to - from)) (omega arith) in
          let x : end - (to - from) ≡ from + (end - to) = omega arith in
          let d = ap (upto q moved) x in
          let f = h.moved q in
          let g = ap (upto q old) z in
          omega arith;
    }

-- the last part is removed
pub last_out : (from to : ℕ) (old new : List Steps) → from ≤ to → to ≡ length old → new ≡ take from old → IsCutOut from to old new
last_out from to old new order end e =
    let l : length new ≡ from = ap length e ∙ length-take-le from old (omega arith) in
    record {
      count_is = omega arith;
      below = λ q m b. ap (λ (xs : List Steps). upto q xs m) e ∙ upto-take q old from m b;
      all = λ q.
          let a = ap (whole q) e in
          let b = whole_take q old from (omega arith) in
          let d = ap (upto q old) end in
          omega arith;
    }

-- a part of one step is removed, and the last step moves to its place
pub swapped_out : (from to : ℕ) (old new : List Steps) (gone : Steps) → from + 1 ≡ to → to ≤ length old → new ≡ swap_remove old from gone → IsCutOut from to old new
swapped_out from to old new gone one within e =
    let last = get_or old (length old - 1) gone in
    let k = length-set old from last in
    let l : length new ≡ length old - 1 = ap length e ∙ length-take-le (length old - 1) (set old from last) (omega arith) in
    record {
      count_is = omega arith;
      below = λ q m b. ap (λ (xs : List Steps). upto q xs m) e ∙ upto-take q (set old from last) (length old - 1) m (omega arith) ∙ upto-set q old from m last b;
      all = λ q.
          let a = ap (whole q) e in
          let b = whole_take q (set old from last) (length old - 1) (omega arith) in
          let d = upto-last q old (length old - 1) gone (omega arith) in
          let f = ap (upto q old) one in
          elim (cases_lt from (length old - 1)) [
            | inl less ↦
                let g = upto_past-set q old from (length old - 1) last gone (omega arith) less in
                let h = upto-next q old from gone (omega arith) in
                omega arith
            | inr end ↦
                let z : length old ≡ to = omega arith in
                let g = ap (upto q old) z in
                let y : length old - 1 ≡ from = omega arith in
                let h = upto-set q old from (length old - 1) last (omega arith) in
                let i = ap (upto q old) y in
                omega arith
          ];
    }

pub all_below-swapped : (most : ℕ) (old new : List Steps) (from : ℕ) (gone : Steps) → from < length old → new ≡ swap_remove old from gone → AllBelow most old → AllBelow most new
all_below-swapped most old new from gone within e a =
    let P : List Steps → Type 0 = AllBelow most in
    let last = get_or old (length old - 1) gone in
    subst P (sym e) (all_below-take most (set old from last) (length old - 1) (all_below-set most old from last (all_below_at most old (length old - 1) gone (omega arith) a) a))

-- a part before a path is removed, then the gap after the path
pub closed_up : (from to end mid : ℕ) (old moved new : List Steps) → from ≤ to → to ≤ end → end ≤ length old → mid ≡ from + (end - to)
    → IsMovedDown from to end old moved → IsCutOut mid end moved new → IsClosedUp from to end old new mid
closed_up from to end mid old moved new order behind within m h g =
    let n = h.count_is in let k = g.count_is in
    record {
      mid_is = m;
      count_is = omega arith;
      below = λ q x l. g.below q x (omega arith) ∙ h.below q x l;
      first = λ q. let a = g.below q mid (omega arith) in let b = ap (upto q moved) m in let d = h.moved q in omega arith;
      last = λ q.
          let a = g.all q in
          let b = g.below q mid (omega arith) in
          let d = h.behind q (length old) (omega arith) in
          let f = ap (upto q moved) n in
          omega arith;
    }

-- the places that are written
pub within_moved : (from to count src : ℕ) (old new : List Steps) → count ≤ to - from → from ≤ to → SameBelow old new from → SameFrom old new (from + count) → WritesWithin from to old new
within_moved from to count src old new c o below above place d outside long = elim outside [
  | inl less ↦ below place d less
  | inr more ↦ above place d (omega arith)
]

pub within_cut : (from to n : ℕ) (old moved new : List Steps) → WritesWithin from to old moved → length moved ≡ length old → n ≤ length old → new ≡ take n moved → WritesWithin from to old new
within_cut from to n old moved new h l le e place d outside long =
    let k = ap length e in
    let m = length-take-le n moved (omega arith) in
    ap (λ (xs : List Steps). get_or xs place d) e ∙ get_or-take n moved place d (omega arith) ∙ h place d outside (omega arith)

pub within_closed : (from to end mid : ℕ) (old moved new : List Steps) → mid ≡ from + (end - to) → length moved ≡ length old
    → WritesWithin from to old moved → WritesWithin mid end moved new → length new ≤ length moved → WritesTwice from to end old new mid
within_closed from to end mid old moved new m l h g n order behind within =
    (omega arith, λ place d first second long. g place d second long ∙ h place d first (omega arith))
