-- Whose places are handed out, as shares or not, and how often a place is shared, in any state.
use Rattle.std.proofs.Common.{◌≡◌, ◌⊎◌, inl, inr, ⊎_elim, ℕ, zero, suc, ◌+◌, ◌-◌, ◌<◌, ◌≤◌, ℤ, true, false, not, ◌||◌, Option, Some, None, List, [], ◌∷◌, length, refl, sym, ap, ◌∙◌, subst, arith}
use Rattle.std.specs.Prelude.{◌&&◌, nat_eq, nat_le, nat_lt, drop, slice_get, slice_index_or}
use Rattle.std.proofs.lemmas.Option.{slice_get_within}
use Rattle.cw_facts.specs.Lists.{there_at}
use Rattle.cw_facts.specs.Tests.{taken, not_taken, both_true, first_false, at_most, below, not_below, equal}
use Rattle.cw_slices.specs.Placed.{Placed}
use Rattle.cw_slices.specs.Blocks.{Lodged}
use Rattle.cw_machine.specs.declared.machine.View.{View}
use Rattle.cw_machine.specs.Arrays.{Out, IsOut, view, block, found, Memory, here, Has, Reads, LiesAway, SlicesLie, LiesUnder, is_among, is_shared, lies_in, shares_in, shares_at}
use Rattle.cw_machine.specs.Unwinding.{LieBelow}
use Rattle.cw_machine.proofs.Blocks.{found_is, block_there}
use Rattle.cw_machine.proofs.Places.{less_or}
use Rattle.cw_machine.proofs.Reading.{read_len, read_here}
use Rattle.cw_machine.proofs.Shares.{share_of, share_or, lies_at, all_shares_none}

-- the slices of each call that are handed out are at their places
abbrev pub AllLie : Memory → List Out → Type 0
AllLie m outs = (j : ℕ) (o : Out) → slice_get outs j ≡ Some o → SlicesLie m outs (drop (suc j) outs) o

-- the arrays that a call reads are shares
pub reader_shared : (o : Out) (k : ℕ) → o.slots ≤ k → is_shared o k ≡ true
reader_shared o k le = ap (λ t. not t || is_among k o.lent) (not_below k o.slots le)

-- the cell whose array a share is made of: the cell of its slot, or one below its call
pub record Owning (m : Memory) (o : Out) (k : ℕ) (p : Placed) : Type 0 where
  pub cell : ℕ
  pub which : (cell ≡ o.first + k) ⊎ (cell < o.first)
  pub same : view m.views (o.first + k) ≡ view m.views cell
  pub has : Has m cell p.items

pub owning : (m : Memory) (outs older : List Out) (o : Out) (k : ℕ) (p : Placed) → LiesAway m outs older o k p → is_shared o k ≡ true → Owning m o k p
owning m outs older o k p y e = ⊎_elim
    (λ lt. record { cell = o.first + k; which = inl refl; same = refl; has = y.has e lt })
    (λ le. let r = y.reads le in record { cell = r.cell; which = inr r.below; same = r.same; has = r.has })
    (less_or k o.slots)

pub own_place : (m : Memory) (o : Out) (k : ℕ) (p : Placed) (h : Owning m o k p) (i : ℕ) → i < length p.items
    → m.owner (view m.views (o.first + k)).block ((view m.views (o.first + k)).from + i) ≡ h.cell
own_place m o k p h i lt = ap (λ (w : View). m.owner w.block (w.from + i)) h.same ∙ h.has.own i lt

pub owned_in : (m : Memory) (o : Out) (k : ℕ) (p : Placed) (h : Owning m o k p) (b place : ℕ) → lies_in (view m.views (o.first + k)) (length p.items) b place ≡ true → m.owner b place ≡ h.cell
owned_in m o k p h b place e =
    let w : View = view m.views (o.first + k) in
    let at = lies_at w (length p.items) b place e in
    let i : ℕ = place - w.from in
    let lo = at.1 in
    let hi = at.2 in
    let same : w.from + i ≡ place = omega (arith, lo) in
    ap (λ c. m.owner c place) (sym at.0) ∙ ap (m.owner w.block) (sym same) ∙ own_place m o k p h i (omega (arith, lo, hi))

-- a slice that is a share of a place has numbers
pub some_in : (w : View) (count b k : ℕ) → lies_in w count b k ≡ true → 0 < count
some_in w count b k e =
    let at = lies_at w count b k e in
    let lo = at.1 in
    let hi = at.2 in
    omega (arith, lo, hi)

-- a place within a view is in the view
pub lies_in_is : (w : View) (count i : ℕ) → i < count → lies_in w count w.block (w.from + i) ≡ true
lies_in_is w count i lt =
    both_true (nat_eq w.block w.block) (nat_le w.from (w.from + i) && nat_lt (w.from + i) (w.from + count)) (equal w.block w.block refl)
    (both_true (nat_le w.from (w.from + i)) (nat_lt (w.from + i) (w.from + count)) (at_most w.from (w.from + i) (omega arith)) (below (w.from + i) (w.from + count) (omega (arith, lt))))

pub share_one : (views : List View) (o : Out) (n : ℕ) (p : Placed) (b k : ℕ) → is_shared o n ≡ true → lies_in (view views (o.first + n)) (length p.items) b k ≡ true → share_of views o n p b k ≡ 1
share_one views o n p b k e e' = taken (is_shared o n && lies_in (view views (o.first + n)) (length p.items) b k) 1 0
    (both_true (is_shared o n) (lies_in (view views (o.first + n)) (length p.items) b k) e e')

-- a slice that is lent is no share
pub share_not : (views : List View) (o : Out) (n : ℕ) (p : Placed) (b k : ℕ) → is_shared o n ≡ false → share_of views o n p b k ≡ 0
share_not views o n p b k e = not_taken (is_shared o n && lies_in (view views (o.first + n)) (length p.items) b k) 1 0
    (first_false (is_shared o n) (lies_in (view views (o.first + n)) (length p.items) b k) e)

-- a slice that does not contain a place is no share of it
pub share_beside : (views : List View) (o : Out) (n : ℕ) (p : Placed) (b k : ℕ)
    → ((at : ℕ) → at < length p.items → b ≡ (view views (o.first + n)).block → k ≡ (view views (o.first + n)).from + at → ⊥) → share_of views o n p b k ≡ 0
share_beside views o n p b k apart = ⊎_elim
    (λ x.
    let w : View = view views (o.first + n) in
    let at = lies_at w (length p.items) b k x.1 in
    let i : ℕ = k - w.from in
    let lo = at.1 in
    let hi = at.2 in
    absurd (apart i (omega (arith, lo, hi)) (sym at.0) (omega (arith, lo))))
    (λ z. z)
    (share_or views o n p b k)

-- places that each slice shares equally often are shared equally often in total
shares_eq : (views : List View) (o : Out) (b k k' n : ℕ) (ps : List Placed)
    → ((j : ℕ) (p : Placed) → slice_get ps j ≡ Some p → share_of views o (n + j) p b k ≡ share_of views o (n + j) p b k')
    → shares_in views o n ps b k ≡ shares_in views o n ps b k'
shares_eq views o b k k' n [] same = refl
shares_eq views o b k k' n (p ∷ ps) same =
    let at : n + 0 ≡ n = omega arith in
    let first : share_of views o n p b k ≡ share_of views o n p b k' = ap (λ x. share_of views o x p b k) (sym at) ∙ same 0 p refl ∙ ap (λ x. share_of views o x p b k') at in
    let rest = shares_eq views o b k k' (suc n) ps (λ j q e. let next : suc n + j ≡ n + suc j = omega arith in
    ap (λ x. share_of views o x q b k) next ∙ same (suc j) q e ∙ ap (λ x. share_of views o x q b k') (sym next)) in
    omega (arith, first, rest)

all_shares_eq : (views : List View) (outs : List Out) (b k k' : ℕ) → ((j : ℕ) (o : Out) → slice_get outs j ≡ Some o → (n : ℕ) (p : Placed)
    → slice_get o.slices n ≡ Some p → share_of views o n p b k ≡ share_of views o n p b k') → shares_at views outs b k ≡ shares_at views outs b k'
all_shares_eq views [] b k k' same = refl
all_shares_eq views (o ∷ outs) b k k' same =
    let zero_is : (n : ℕ) → 0 + n ≡ n = λ n. omega arith in
    let first = shares_eq views o b k k' 0 o.slices (λ n p e. ap (λ x. share_of views o x p b k) (zero_is n) ∙ same 0 o refl n p e ∙ ap (λ x. share_of views o x p b k') (sym (zero_is n))) in
    let rest = all_shares_eq views outs b k k' (λ j q e. same (suc j) q e) in
    omega (arith, first, rest)

module _ (m : Memory) (outs : List Out) (lie : AllLie m outs) where
  -- no share is handed out of a place of a cell above all slices that are handed out
  pub none_past : (c b k : ℕ) → LieBelow outs c → m.owner b k ≡ c → shares_at m.views outs b k ≡ 0
  none_past c b k past own = all_shares_none m.views outs b k (λ j o is_out n p is. ⊎_elim
      (λ x.
      let h = owning m outs (drop (suc j) outs) o n p (lie j o is_out n p is (some_in (view m.views (o.first + n)) (length p.items) b k x.1)) x.0 in
      let mine = owned_in m o n p h b k x.1 in
      let le = past j o is_out in
      let lt = slice_get_within o.slices n p is in
      absurd (⊎_elim (λ e. omega (arith, e, mine, own, le, lt)) (λ low. omega (arith, low, mine, own, le)) h.which))
      (λ z. z)
      (share_or m.views o n p b k))

  -- no share is handed out of a place that is handed out
  pub none_out : (b k : ℕ) → IsOut m.views outs b k → shares_at m.views outs b k ≡ 0
  none_out b k out = all_shares_none m.views outs b k (λ j o is_out n p is. ⊎_elim
      (λ x. absurd (clash j o is_out n p is x.0 x.1))
      (λ z. z)
      (share_or m.views o n p b k))
    where
      clash : (j : ℕ) (o : Out) → slice_get outs j ≡ Some o → (n : ℕ) (p : Placed) → slice_get o.slices n ≡ Some p → is_shared o n ≡ true
          → lies_in (view m.views (o.first + n)) (length p.items) b k ≡ true → ⊥
      clash j o is_out n p is shared inside =
          let w : View = view m.views (o.first + n) in
          let at = lies_at w (length p.items) b k inside in
          let i : ℕ = k - w.from in
          let lo = at.1 in
          let hi = at.2 in
          let same : w.from + i ≡ k = omega (arith, lo) in
          ((lie j o is_out n p is (some_in w (length p.items) b k inside)).shared shared).still i (omega (arith, lo, hi))
          (subst (λ c. IsOut m.views outs c (w.from + i)) (sym at.0) (subst (λ c. IsOut m.views outs b c) (sym same) out))

  -- a place that is handed out belongs to the cell of its slot
  pub out_owner : (b k : ℕ) (y : IsOut m.views outs b k) → m.owner b k ≡ y.out.first + y.slot
  out_owner b k y =
      let lt = y.within in
      let own = ((lie y.index y.out y.is_out y.slot y.slice y.is_slice (omega (arith, lt))).lent y.moved).has.own y.at y.within in
      ap (λ c. m.owner c k) y.in_block ∙ ap (m.owner (view m.views (y.out.first + y.slot)).block) y.in_place ∙ own

  -- no place of a cell above all slices that are handed out is handed out
  pub not_past : (c b k : ℕ) → LieBelow outs c → m.owner b k ≡ c → IsOut m.views outs b k → ⊥
  not_past c b k past own y =
      let is = out_owner b k y in
      let le = past y.index y.out y.is_out in
      let lt = slice_get_within y.out.slices y.slot y.slice y.is_slice in
      omega (arith, is, own, le, lt)

  module _ (c : ℕ) (xs : List ℤ) (has : Has m c xs) where
    abbrev w : View
    w = view m.views c

    -- a share of one place of an array is a share of each
    all_of_it : (j : ℕ) (o : Out) → slice_get outs j ≡ Some o → (n : ℕ) (p : Placed) → slice_get o.slices n ≡ Some p → is_shared o n ≡ true → (i i' : ℕ) → i < length xs → i' < length xs
        → lies_in (view m.views (o.first + n)) (length p.items) w.block (w.from + i) ≡ true → lies_in (view m.views (o.first + n)) (length p.items) w.block (w.from + i') ≡ true
    all_of_it j o is_out n p is shared i i' lt lt' inside =
        let h = owning m outs (drop (suc j) outs) o n p (lie j o is_out n p is (some_in (view m.views (o.first + n)) (length p.items) w.block (w.from + i) inside)) shared in
        let cell_is : h.cell ≡ c = sym (owned_in m o n p h w.block (w.from + i) inside) ∙ has.own i lt in
        let seen : view m.views (o.first + n) ≡ w = h.same ∙ ap (view m.views) cell_is in
        let len = has.len in
        let len' : w.len ≡ length p.items = ap (λ (d : ℕ). (view m.views d).len) (sym cell_is) ∙ h.has.len in
        subst (λ (v : View). lies_in v (length p.items) w.block (w.from + i') ≡ true) (sym seen) (lies_in_is w (length p.items) i' (omega (arith, lt', len, len')))

    -- all places of an array are shared equally often
    pub alike : (i i' : ℕ) → i < length xs → i' < length xs → shares_at m.views outs w.block (w.from + i) ≡ shares_at m.views outs w.block (w.from + i')
    alike i i' lt lt' = all_shares_eq m.views outs w.block (w.from + i) (w.from + i') (λ j o is_out n p is. ⊎_elim
        (λ x. share_one m.views o n p w.block (w.from + i) x.0 x.1 ∙ sym (share_one m.views o n p w.block (w.from + i') x.0 (all_of_it j o is_out n p is x.0 i i' lt lt' x.1)))
        (λ z. ⊎_elim
        (λ x. share_one m.views o n p w.block (w.from + i) x.0 (all_of_it j o is_out n p is x.0 i' i lt' lt x.1) ∙ sym (share_one m.views o n p w.block (w.from + i') x.0 x.1))
        (λ z'. z ∙ sym z')
        (share_or m.views o n p w.block (w.from + i')))
        (share_or m.views o n p w.block (w.from + i)))

-- a cell sees an array: the array is in its view, and no place of it is handed out
pub record Seen (m : Memory) (outs : List Out) (c : ℕ) (xs : List ℤ) : Type 0 where
  pub len : (view m.views c).len ≡ length xs
  pub lies : (i : ℕ) (x : ℤ) → slice_get xs i ≡ Some x → here m c i ≡ Some x
  pub still : (i : ℕ) → i < length xs → IsOut m.views outs (view m.views c).block ((view m.views c).from + i) → ⊥
  -- the cell that has the array
  pub cell : ℕ
  pub same : view m.views c ≡ view m.views cell
  pub has : Has m cell xs

pub seen_slot : (m : Memory) (outs : List Out) (lie : AllLie m outs) (c : ℕ) (xs : List ℤ) → LieBelow outs c → Has m c xs → Seen m outs c xs
seen_slot m outs lie c xs past h = record {
  len = h.len;
  lies = h.lies;
  still = λ i lt. not_past m outs lie c (view m.views c).block ((view m.views c).from + i) past (h.own i lt);
  cell = c;
  same = refl;
  has = h;
}

pub seen_reader : (m : Memory) (outs : List Out) (first c : ℕ) (xs : List ℤ) → Reads m outs first c xs → Seen m outs c xs
seen_reader m outs first c xs h = record {
  len = read_len m outs first c xs h;
  lies = read_here m outs first c xs h;
  still = h.still;
  cell = h.cell;
  same = h.same;
  has = h.has;
}

-- the cell of a share that is handed out sees the array
pub seen_share : (m : Memory) (outs older : List Out) (o : Out) (k : ℕ) (p : Placed) → LiesAway m outs older o k p → is_shared o k ≡ true → Seen m outs (o.first + k) p.items
seen_share m outs older o k p y e =
    let h = owning m outs older o k p y e in record {
      len = ap (λ (w : View). w.len) h.same ∙ h.has.len;
      lies = λ i x is. ap (λ (w : View). found m.blocks w.block (w.from + i)) h.same ∙ h.has.lies i x is;
      still = (y.shared e).still;
      cell = h.cell;
      same = h.same;
      has = h.has;
    }

-- the element at an existing index does not depend on the default value
pub index_is : {A : Type 0} (xs : List A) (k : ℕ) (x d : A) → x ≡ slice_index_or xs k x → k < length xs → x ≡ slice_index_or xs k d
index_is [] k x d e lt = absurd (omega (arith, lt))
index_is (y ∷ xs) zero x d e lt = e
index_is (y ∷ xs) (suc k) x d e lt = index_is xs k x d e (omega (arith, lt))

-- an array that a cell sees is in the blocks of the machine, and each place has its right
module _ (m : Memory) (outs : List Out) (real : List Lodged) (u : LiesUnder outs m.views real m.blocks) (c : ℕ) (xs : List ℤ) (h : Seen m outs c xs) where
  abbrev w' : View
  w' = view m.views c

  pub in_virtual : (k : ℕ) (x : ℤ) → slice_get xs k ≡ Some x → slice_get (block m.blocks w'.block).cells (w'.from + k) ≡ Some (Some x)
  in_virtual k x e = (found_is m.blocks w'.block (w'.from + k) x (h.lies k x e)).1

  pub in_real : (k : ℕ) (x : ℤ) → slice_get xs k ≡ Some x → slice_get (block real w'.block).cells (w'.from + k) ≡ Some (Some x)
  in_real k x e =
      let lt = slice_get_within (block m.blocks w'.block).cells (w'.from + k) (Some x) (in_virtual k x e) in
      let long = u.as_long w'.block in
      let got = there_at (block real w'.block).cells (w'.from + k) (omega (arith, lt, long)) in
      cases got.0 got.1
    where
      cases : (o : Option ℤ) → slice_get (block real w'.block).cells (w'.from + k) ≡ Some o → slice_get (block real w'.block).cells (w'.from + k) ≡ Some (Some x)
      cases None is = absurd (h.still k (slice_get_within xs k x e) (u.missing w'.block (w'.from + k) is))
      cases (Some y) is = is ∙ sym (u.same w'.block (w'.from + k) y is) ∙ in_virtual k x e

  pub block_seen : 0 < length xs → w'.block < length real
  block_seen some =
      let x = there_at xs 0 some in
      let lt = block_there m.blocks w'.block (w'.from + 0) x.0 (h.lies 0 x.0 x.1) in
      let many = u.as_many in
      omega (arith, lt, many)

  pub within_seen : 0 < length xs → w'.from + length xs ≤ length (block real w'.block).cells
  within_seen some = last (length xs) refl some
    where
      last : (n : ℕ) → length xs ≡ n → 0 < length xs → w'.from + length xs ≤ length (block real w'.block).cells
      last zero e some = absurd (omega (arith, e, some))
      last (suc n) e some =
          let x = there_at xs n (omega (arith, e)) in
          let lt = slice_get_within (block real w'.block).cells (w'.from + n) (Some x.0) (in_real n x.0 x.1) in
          omega (arith, lt, e)

  -- the right to a place
  pub right_seen : (k : ℕ) → k < length xs → slice_get (block real w'.block).rights (w'.from + k) ≡ Some ((block real w'.block).spot.halved + shares_at m.views outs w'.block (w'.from + k))
  right_seen k lt =
      let x = there_at xs k lt in
      let inside = slice_get_within (block real w'.block).cells (w'.from + k) (Some x.0) (in_real k x.0 x.1) in
      let many = u.righted w'.block in
      let got = there_at (block real w'.block).rights (w'.from + k) (omega (arith, inside, many)) in
      got.1 ∙ ap (λ d. Some d) (u.rights w'.block (w'.from + k) got.0 got.1)

  -- the rights to all places of the array are equal
  pub rights_alike : AllLie m outs → (k : ℕ) → k < length xs → slice_get (block real w'.block).rights (w'.from + k)
      ≡ Some ((block real w'.block).spot.halved + shares_at m.views outs w'.block (w'.from + 0))
  rights_alike lie k lt =
      right_seen k lt ∙ ap (λ n. Some ((block real w'.block).spot.halved + n))
      (subst (λ (v : View). shares_at m.views outs v.block (v.from + k) ≡ shares_at m.views outs v.block (v.from + 0)) (sym h.same) (alike m outs lie h.cell xs h.has k 0 lt (omega (arith, lt))))
