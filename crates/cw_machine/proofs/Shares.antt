-- The number of shares of a place that are handed out.
use Rattle.std.proofs.Common.{◌≡◌, ◌⊎◌, inl, inr, ⊎_elim, ℕ, suc, ◌+◌, ◌-◌, ◌<◌, ◌≤◌, Bool, true, false, if◌then◌else◌, Some, List, [], ◌∷◌, ◌++◌, length, refl, sym, ap, ◌∙◌, subst, arith}
use Rattle.std.specs.Prelude.{◌&&◌, nat_eq, nat_le, nat_lt, slice_get}
use Rattle.std.proofs.lemmas.Option.{slice_get_within}
use Rattle.cw_facts.specs.Tests.{not_taken, first_true, second_true, first_false, second_false, le_of, lt_of, eq_of}
use Rattle.cw_slices.specs.Placed.{Placed}
use Rattle.cw_machine.specs.declared.machine.View.{View}
use Rattle.cw_machine.specs.Arrays.{Out, view, Memory, whose, is_shared, lies_in, shares_in, shares_at, AreAway, Floored}
use Rattle.cw_machine.proofs.Places.{less_or}
use Rattle.cw_machine.proofs.Reading.{read_whose}

-- 1 if a slice of a call is a share of a place, otherwise 0
abbrev pub share_of : List View → Out → (number : ℕ) → Placed → (block place : ℕ) → ℕ
share_of views o n p b k = if is_shared o n && lies_in (view views (o.first + n)) (length p.items) b k then 1 else 0

module _ (views : List View) (o : Out) (b k : ℕ) where
  -- one more slice adds its own shares of the place to the shares of the others
  pub shares_more : (n : ℕ) (ps : List Placed) (p : Placed) → shares_in views o n (ps ++ p ∷ []) b k ≡ shares_in views o n ps b k + share_of views o (n + length ps) p b k
  shares_more n [] p =
      let same : n + 0 ≡ n = omega arith in
      let one : share_of views o (n + 0) p b k ≡ share_of views o n p b k = ap (λ x. share_of views o x p b k) same in
      omega (arith, one)
  shares_more n (q ∷ ps) p =
      let rest = shares_more (suc n) ps p in
      let same : suc n + length ps ≡ n + suc (length ps) = omega arith in
      let one : share_of views o (suc n + length ps) p b k ≡ share_of views o (n + suc (length ps)) p b k = ap (λ x. share_of views o x p b k) same in
      omega (arith, rest, one)

  -- none of the slices is a share of the place
  pub shares_none : (n : ℕ) (ps : List Placed) → ((j : ℕ) (p : Placed) → slice_get ps j ≡ Some p → share_of views o (n + j) p b k ≡ 0) → shares_in views o n ps b k ≡ 0
  shares_none n [] none = refl
  shares_none n (p ∷ ps) none =
      let same : n + 0 ≡ n = omega arith in
      let first : share_of views o n p b k ≡ 0 = ap (λ x. share_of views o x p b k) (sym same) ∙ none 0 p refl in
      let rest = shares_none (suc n) ps (λ j q e. let next : suc n + j ≡ n + suc j = omega arith in ap (λ x. share_of views o x q b k) next ∙ none (suc j) q e) in
      omega (arith, first, rest)

-- other views that agree for these slices
pub shares_as : (views views' : List View) (o : Out) (b k n : ℕ) (ps : List Placed)
    → ((j : ℕ) → j < length ps → view views' (o.first + (n + j)) ≡ view views (o.first + (n + j))) → shares_in views' o n ps b k ≡ shares_in views o n ps b k
shares_as views views' o b k n [] same = refl
shares_as views views' o b k n (p ∷ ps) same =
    let here : n + 0 ≡ n = omega arith in
    let seen : view views' (o.first + n) ≡ view views (o.first + n) = ap (λ x. view views' (o.first + x)) (sym here) ∙ same 0 (omega arith) ∙ ap (λ x. view views (o.first + x)) here in
    let first : share_of views' o n p b k ≡ share_of views o n p b k = ap (λ w. if is_shared o n && lies_in w (length p.items) b k then 1 else 0) seen in
    let rest = shares_as views views' o b k (suc n) ps (λ j lt.
    let next : suc n + j ≡ n + suc j = omega arith in
    ap (λ x. view views' (o.first + x)) next ∙ same (suc j) (omega (arith, lt)) ∙ ap (λ x. view views (o.first + x)) (sym next)) in
    omega (arith, first, rest)

-- other views that agree for everything that is handed out
pub all_shares_as : (views views' : List View) (outs : List Out) (b k : ℕ)
    → ((j : ℕ) (o : Out) → slice_get outs j ≡ Some o → (n : ℕ) → n < length o.slices → view views' (o.first + n) ≡ view views (o.first + n))
    → shares_at views' outs b k ≡ shares_at views outs b k
all_shares_as views views' [] b k same = refl
all_shares_as views views' (o ∷ outs) b k same =
    let first = shares_as views views' o b k 0 o.slices (λ j lt. let z : j ≡ 0 + j = omega arith in subst (λ x. view views' (o.first + x) ≡ view views (o.first + x)) z (same 0 o refl j lt)) in
    let rest = all_shares_as views views' outs b k (λ j q e. same (suc j) q e) in
    omega (arith, first, rest)

pub all_shares_none : (views : List View) (outs : List Out) (b k : ℕ)
    → ((j : ℕ) (o : Out) → slice_get outs j ≡ Some o → (n : ℕ) (p : Placed) → slice_get o.slices n ≡ Some p → share_of views o n p b k ≡ 0)
    → shares_at views outs b k ≡ 0
all_shares_none views [] b k none = refl
all_shares_none views (o ∷ outs) b k none =
    let first = shares_none views o b k 0 o.slices (λ n p e. let z : n ≡ 0 + n = omega arith in subst (λ x. share_of views o x p b k ≡ 0) z (none 0 o refl n p e)) in
    let rest = all_shares_none views outs b k (λ j q e. none (suc j) q e) in
    omega (arith, first, rest)

-- a place is one of `count` numbers of a view
pub lies_at : (w : View) (count b k : ℕ) → lies_in w count b k ≡ true → (w.block ≡ b) × (w.from ≤ k) × (k < w.from + count)
lies_at w count b k e =
    let rest = second_true (nat_eq w.block b) (nat_le w.from k && nat_lt k (w.from + count)) e in (
      eq_of w.block b (first_true (nat_eq w.block b) (nat_le w.from k && nat_lt k (w.from + count)) e),
      le_of w.from k (first_true (nat_le w.from k) (nat_lt k (w.from + count)) rest),
      lt_of k (w.from + count) (second_true (nat_le w.from k) (nat_lt k (w.from + count)) rest),
    )

-- a slice is a share of a place, or counts 0
pub share_or : (views : List View) (o : Out) (n : ℕ) (p : Placed) (b k : ℕ)
    → ((is_shared o n ≡ true) × (lies_in (view views (o.first + n)) (length p.items) b k ≡ true)) ⊎ (share_of views o n p b k ≡ 0)
share_or views o n p b k = at (is_shared o n) (lies_in (view views (o.first + n)) (length p.items) b k) refl refl
  where
    at : (x y : Bool) → is_shared o n ≡ x → lies_in (view views (o.first + n)) (length p.items) b k ≡ y
        → ((is_shared o n ≡ true) × (lies_in (view views (o.first + n)) (length p.items) b k ≡ true)) ⊎ (share_of views o n p b k ≡ 0)
    at true true e e' = inl (e, e')
    at true false e e' = inr (not_taken (is_shared o n && lies_in (view views (o.first + n)) (length p.items) b k) 1 0
        (second_false (is_shared o n) (lies_in (view views (o.first + n)) (length p.items) b k) e'))
    at false y e e' = inr (not_taken (is_shared o n && lies_in (view views (o.first + n)) (length p.items) b k) 1 0
        (first_false (is_shared o n) (lies_in (view views (o.first + n)) (length p.items) b k) e))

-- the cell below a call whose array a share is made of, and its view
pub record SharedBy (m : Memory) (first b k : ℕ) : Type 0 where
  pub cell : ℕ
  pub low : cell < first
  pub owned : m.owner b k ≡ cell

module _ (m : Memory) (first round : ℕ) (outs : List Out) (floors : Floored outs first) (away : AreAway m first round outs) where
  pub shared_by : (j : ℕ) (o : Out) → slice_get outs j ≡ Some o → (n : ℕ) (p : Placed) → slice_get o.slices n ≡ Some p → (b k : ℕ)
      → is_shared o n ≡ true → lies_in (view m.views (o.first + n)) (length p.items) b k ≡ true → SharedBy m first b k
  shared_by j o is_out n p is b k shared inside =
      let w : View = view m.views (o.first + n) in
      let at = lies_at w (length p.items) b k inside in
      let i : ℕ = k - w.from in
      let lo = at.1 in
      let hi = at.2 in
      let here : w.from + i ≡ k = omega (arith, lo) in
      let within : i < length p.items = omega (arith, lo, hi) in
      let x = away j o is_out in
      let y = x.each n p is (omega (arith, within)) in
      let f = floors j o is_out in
      let ends = x.ends in
      let slot = slice_get_within o.slices n p is in
      let place : m.owner b k ≡ whose m (o.first + n) i = ap (λ z. m.owner z k) (sym at.0) ∙ ap (m.owner w.block) (sym here) in
      ⊎_elim
      (λ lt. record { cell = o.first + n; low = omega (arith, slot, ends, f); owned = place ∙ (y.has shared lt).own i within })
      (λ le.
      let r = y.reads le in
      let low = r.below in
      record { cell = r.cell; low = omega (arith, low, slot, ends, f); owned = place ∙ read_whose m outs o.first (o.first + n) p.items r i within })
      (less_or n o.slots)

  -- no share of a place of the running call is handed out
  pub none_shared : (b k : ℕ) → first ≤ m.owner b k → shares_at m.views outs b k ≡ 0
  none_shared b k le = all_shares_none m.views outs b k (λ j o is_out n p is. ⊎_elim
      (λ x. let s = shared_by j o is_out n p is b k x.0 x.1 in let low = s.low in let own = s.owned in absurd (omega (arith, low, own, le)))
      (λ z. z)
      (share_or m.views o n p b k))

  -- no share of a place in a block of the running call is handed out
  pub none_high : (b k : ℕ) → first ≤ b → shares_at m.views outs b k ≡ 0
  none_high b k le = all_shares_none m.views outs b k (λ j o is_out n p is. ⊎_elim
      (λ x.
      let at = lies_at (view m.views (o.first + n)) (length p.items) b k x.1 in
      let lo = at.1 in
      let hi = at.2 in
      let low = (((away j o is_out).each n p is (omega (arith, lo, hi))).shared x.0).low in
      let f = floors j o is_out in
      let same = at.0 in
      absurd (omega (arith, low, f, same, le)))
      (λ z. z)
      (share_or m.views o n p b k))
