-- The blocks of a machine below those that represent its state, after a change of both.
use Rattle.std.proofs.Common.{◌≡◌, ◌≢◌, ◌⊎◌, inl, inr, ⊎_elim, ℕ, zero, suc, ◌+◌, ◌^◌, ◌<◌, ◌≤◌, ℤ, Bool, Option, Some, None}
use Rattle.std.proofs.Common.{List, [], ◌∷◌, ◌++◌, length, refl, sym, ap, ◌∙◌, subst, arith, length-append}
use Rattle.std.specs.Prelude.{take, replicate, is_some, slice_get, slice_set}
use Rattle.std.proofs.lemmas.List.{length-set, length-map, length-replicate, get_or-set_other, get_or-set_same}
use Rattle.std.proofs.lemmas.Option.{slice_get_within, same_Some}
use Rattle.cw_slices.specs.Placed.{Spot}
use Rattle.cw_slices.specs.Blocks.{Lodged, ins, IsWhole}
use Rattle.cw_slices.specs.lemmas.Patches.{never_out}
use Rattle.cw_machine.specs.declared.machine.View.{View}
use Rattle.cw_machine.specs.Arrays.{Out, view, no_block, block, IsBare, found, put, kept_of, Memory, Has, shares_at, AreAway, Floored, IsOut, LiesUnder}
use Rattle.cw_machine.proofs.Blocks.{found_is, is_found}
use Rattle.cw_machine.proofs.Places.{same_or, less_or}
use Rattle.cw_machine.proofs.Shares.{all_shares_as, none_high}
use Rattle.cw_machine.proofs.Still.{OutsSeen, seen_below, outs_on, outs_back, kept_put, block_take, block_past}
use Rattle.cw_machine.proofs.Writes.{cell_put_other, cell_put_same}
use Rattle.cw_machine.proofs.Returns.{view_take}

never : (x : Option ℤ) → None ≡ Some x → ⊥
never x e = cc

never_in : (x : ℤ) → Some (Some x) ≡ Some None → ⊥
never_in x e = cc

-- an array that is handed out has its view below a cell
pub out_low : (m : Memory) (first round : ℕ) (outs : List Out) (b k : ℕ) → Floored outs first → AreAway m first round outs → IsOut m.views outs b k → b < first
out_low m first round outs b k floors away o =
    let f = floors o.index o.out o.is_out in
    let lt = o.within in
    let low = (((away o.index o.out o.is_out).each o.slot o.slice o.is_slice (omega (arith, lt))).lent o.moved).low in
    let e = o.in_block in
    omega (arith, f, low, e)

-- a place of an array of the running call is not handed out
pub out_owned : (m : Memory) (first round : ℕ) (outs : List Out) (b k : ℕ) → Floored outs first → AreAway m first round outs → IsOut m.views outs b k → m.owner b k < first
out_owned m first round outs b k floors away o =
    let f = floors o.index o.out o.is_out in
    let lt = o.within in
    let x = away o.index o.out o.is_out in
    let ends = x.ends in
    let slot = slice_get_within o.out.slices o.slot o.slice o.is_slice in
    let own = ((x.each o.slot o.slice o.is_slice (omega (arith, lt))).lent o.moved).has.own o.at o.within in
    let e : m.owner b k ≡ o.out.first + o.slot = ap (λ c. m.owner c k) o.in_block ∙ ap (m.owner (view m.views (o.out.first + o.slot)).block) o.in_place ∙ own in
    omega (arith, f, ends, slot, e)

-- other views above what is handed out
pub under_views : (m : Memory) (views' : List View) (real blocks : List Lodged) (first round : ℕ) (outs : List Out) → Floored outs first
    → AreAway m first round outs → ((c : ℕ) → c < first → view views' c ≡ view m.views c) → LiesUnder outs m.views real blocks → LiesUnder outs views' real blocks
under_views m views' real blocks first round outs floors away same u = record {
  as_many = u.as_many;
  spots = u.spots;
  as_long = u.as_long;
  same = u.same;
  missing = λ b k e. outs_on m.views views' outs seen b k (u.missing b k e);
  gone = λ b k o. u.gone b k (outs_back m.views views' outs seen b k o);
  righted = u.righted;
  rights = λ b k d e. u.rights b k d e ∙ ap (λ n. (block real b).spot.halved + n) (sym (all_shares_as m.views views' outs b k seen));
}
  where
    seen : OutsSeen m.views views' outs
    seen = seen_below m views' first round outs floors away same

-- a number that is found in a block is found in the block above it
pub found_under : (outs : List Out) (views : List View) (real blocks : List Lodged) (b k : ℕ) (x : ℤ) → LiesUnder outs views real blocks → found real b k ≡ Some x → found blocks b k ≡ Some x
found_under outs views real blocks b k x u e = let f = found_is real b k x e in is_found blocks b k x f.0 (u.same b k x f.1)

-- a number is found in the machine's block if its place is not handed out
pub found_beside : (outs : List Out) (views : List View) (real blocks : List Lodged) (b k : ℕ) (x : ℤ) → LiesUnder outs views real blocks
    → (IsOut views outs b k → ⊥) → found blocks b k ≡ Some x → found real b k ≡ Some x
found_beside outs views real blocks b k x u none e = at (slice_get (block real b).cells k) refl
  where
    f : (k < 2 ^ 60) × (slice_get (block blocks b).cells k ≡ Some (Some x))
    f = found_is blocks b k x e

    at : (o : Option (Option ℤ)) → slice_get (block real b).cells k ≡ o → found real b k ≡ Some x
    at None is = absurd (short (block real b).cells (block blocks b).cells k (u.as_long b) is f.1)
      where
        short : (cs ds : List (Option ℤ)) (k : ℕ) → length cs ≡ length ds → slice_get cs k ≡ None → slice_get ds k ≡ Some (Some x) → ⊥
        short [] [] k n e e' = never (Some x) e'
        short [] (d ∷ ds) k n e e' = absurd (omega (arith, n))
        short (c ∷ cs) [] k n e e' = absurd (omega (arith, n))
        short (c ∷ cs) (d ∷ ds) zero n e e' = cc
        short (c ∷ cs) (d ∷ ds) (suc k) n e e' = short cs ds k (omega (arith, n)) e e'
    at (Some None) is = absurd (none (u.missing b k is))
    at (Some (Some y)) is = is_found real b k x f.0 (is ∙ ap (λ z. Some z) (same_Some (Some y) (Some x) (sym (u.same b k y is) ∙ f.1)))

pub found_in : (m : Memory) (real : List Lodged) (first round : ℕ) (outs : List Out) (b k : ℕ) (x : ℤ) → Floored outs first
    → AreAway m first round outs → LiesUnder outs m.views real m.blocks → first ≤ m.owner b k → found m.blocks b k ≡ Some x → found real b k ≡ Some x
found_in m real first round outs b k x floors away u le e = found_beside outs m.views real m.blocks b k x u (λ o. let lt = out_owned m first round outs b k floors away o in omega (arith, lt, le)) e

-- an array of the running call is in the machine's own blocks
pub has_in : (m : Memory) (real : List Lodged) (first round : ℕ) (outs : List Out) (c : ℕ) (xs : List ℤ) → Floored outs first
    → AreAway m first round outs → LiesUnder outs m.views real m.blocks → first ≤ c → Has m c xs
    → Has (record { views = m.views; blocks = real; owner = m.owner }) c xs
has_in m real first round outs c xs floors away u le h = record {
  len = h.len;
  lies = λ i x e.
      let lt = slice_get_within xs i x e in
      let own = h.own i lt in
      found_in m real first round outs (view m.views c).block ((view m.views c).from + i) x floors away u (omega (arith, own, le)) (h.lies i x e);
  own = h.own;
}

put_rights : (blocks : List Lodged) (b k : ℕ) (x : ℤ) (c : ℕ) → (block (put blocks b k x) c).rights ≡ (block blocks c).rights
put_rights [] b k x c = refl
put_rights (w ∷ blocks) zero k x zero = refl
put_rights (w ∷ blocks) zero k x (suc c) = refl
put_rights (w ∷ blocks) (suc b) k x zero = refl
put_rights (w ∷ blocks) (suc b) k x (suc c) = put_rights blocks b k x c

-- a number is written
pub under_put : (outs : List Out) (views : List View) (real blocks : List Lodged) (b k : ℕ) (x y : ℤ) → found real b k ≡ Some y
    → LiesUnder outs views real blocks → LiesUnder outs views (put real b k x) (put blocks b k x)
under_put outs views real blocks b k x y e u =
    let f = found_is real b k y e in
    let e' = found_under outs views real blocks b k y u e in
    let here = cell_put_same real b k x y f.1 in
    let there = cell_put_same blocks b k x y (u.same b k y f.1) in
    let other : (c j : ℕ) → (c ≡ b → j ≢ k) → slice_get (block (put real b k x) c).cells j ≡ slice_get (block real c).cells j = λ c j n. cell_put_other real b k x c j n in
    record {
      as_many = length-set real b _ ∙ u.as_many ∙ sym (length-set blocks b _);
      spots = λ c. ap (λ (q : Spot × List Bool). q.0) (kept_put real b k x y e c) ∙ u.spots c ∙ sym (ap (λ (q : Spot × List Bool). q.0) (kept_put blocks b k x y e' c));
      as_long = λ c. long real c (kept_put real b k x y e c) ∙ u.as_long c ∙ sym (long blocks c (kept_put blocks b k x y e' c));
      same = λ c j z is. ⊎_elim
          (λ at. subst (λ i. slice_get (block (put blocks b k x) i).cells j ≡ Some (Some z)) (sym at.0)
          (ap (λ i. slice_get (block (put blocks b k x) b).cells i) at.1 ∙ there ∙ sym here
          ∙ sym (ap (λ i. slice_get (block (put real b k x) i).cells j) at.0 ∙ ap (λ i. slice_get (block (put real b k x) b).cells i) at.1) ∙ is))
          (λ n. cell_put_other blocks b k x c j n ∙ u.same c j z (sym (other c j n) ∙ is))
          (place_or c j);
      missing = λ c j is. ⊎_elim
          (λ at. absurd (never_in x (sym here ∙ sym (ap (λ i. slice_get (block (put real b k x) i).cells j) at.0 ∙ ap (λ i. slice_get (block (put real b k x) b).cells i) at.1) ∙ is)))
          (λ n. u.missing c j (sym (other c j n) ∙ is))
          (place_or c j);
      gone = λ c j o. ⊎_elim
          (λ at. absurd (never_in y (sym f.1 ∙ sym (ap (λ i. slice_get (block real i).cells j) at.0 ∙ ap (λ i. slice_get (block real b).cells i) at.1) ∙ u.gone c j o)))
          (λ n. other c j n ∙ u.gone c j o)
          (place_or c j);
      righted = λ c. ap length (put_rights real b k x c) ∙ u.righted c ∙ sym (long real c (kept_put real b k x y e c));
      rights = λ c j d is.
          u.rights c j d (sym (ap (λ l. slice_get l j) (put_rights real b k x c)) ∙ is)
          ∙ ap (λ n. n + shares_at views outs c j) (sym (ap (λ (q : Spot × List Bool). q.0.halved) (kept_put real b k x y e c)));
    }
  where
    long : (blocks : List Lodged) (c : ℕ) → kept_of (put blocks b k x) c ≡ kept_of blocks c → length (block (put blocks b k x) c).cells ≡ length (block blocks c).cells
    long blocks c e = sym (length-map (block (put blocks b k x) c).cells is_some) ∙ ap (λ (q : Spot × List Bool). length q.1) e ∙ length-map (block blocks c).cells is_some

    place_or : (c j : ℕ) → ((c ≡ b) × (j ≡ k)) ⊎ (c ≡ b → j ≢ k)
    place_or c j = ⊎_elim (λ e. ⊎_elim (λ e'. inl (e, e')) (λ n. inr (λ _. n)) (same_or j k)) (λ n. inr (λ e. absurd (n e))) (same_or c b)

-- more blocks, which are empty
more_cells : (blocks more : List Lodged) (c : ℕ) → ((k : ℕ) → IsBare (block more k)) → (block (blocks ++ more) c).cells ≡ (block blocks c).cells
more_cells [] more c none = (none c).0
more_cells (w ∷ blocks) more zero none = refl
more_cells (w ∷ blocks) more (suc c) none = more_cells blocks more c none

more_rights : (blocks more : List Lodged) (c : ℕ) → ((k : ℕ) → IsBare (block more k)) → (block (blocks ++ more) c).rights ≡ (block blocks c).rights
more_rights [] more c none = (none c).1
more_rights (w ∷ blocks) more zero none = refl
more_rights (w ∷ blocks) more (suc c) none = more_rights blocks more c none

pub more_halved : (blocks more : List Lodged) (c : ℕ) → ((k : ℕ) → IsBare (block more k)) → (block (blocks ++ more) c).spot.halved ≡ (block blocks c).spot.halved
more_halved [] more c none = (none c).2
more_halved (w ∷ blocks) more zero none = refl
more_halved (w ∷ blocks) more (suc c) none = more_halved blocks more c none

more_spots : (real blocks more : List Lodged) (c : ℕ) → length real ≡ length blocks → ((b : ℕ) → (block real b).spot ≡ (block blocks b).spot)
    → (block (real ++ more) c).spot ≡ (block (blocks ++ more) c).spot
more_spots [] [] more c n e = refl
more_spots [] (w ∷ blocks) more c n e = absurd (omega (arith, n))
more_spots (w ∷ real) [] more c n e = absurd (omega (arith, n))
more_spots (w ∷ real) (w' ∷ blocks) more zero n e = e 0
more_spots (w ∷ real) (w' ∷ blocks) more (suc c) n e = more_spots real blocks more c (omega (arith, n)) (λ b. e (suc b))

pub under_more : (outs : List Out) (views : List View) (real blocks more : List Lodged) → ((k : ℕ) → IsBare (block more k))
    → LiesUnder outs views real blocks → LiesUnder outs views (real ++ more) (blocks ++ more)
under_more outs views real blocks more none u =
    let r : (c : ℕ) → (block (real ++ more) c).cells ≡ (block real c).cells = λ c. more_cells real more c none in
    let s : (c : ℕ) → (block (blocks ++ more) c).cells ≡ (block blocks c).cells = λ c. more_cells blocks more c none in
    let t : (c : ℕ) → (block (real ++ more) c).rights ≡ (block real c).rights = λ c. more_rights real more c none in
    record {
      as_many = length-append real more ∙ ap (λ n. n + length more) u.as_many ∙ sym (length-append blocks more);
      spots = λ c. more_spots real blocks more c u.as_many u.spots;
      as_long = λ c. ap length (r c) ∙ u.as_long c ∙ sym (ap length (s c));
      same = λ c k x is. ap (λ l. slice_get l k) (s c) ∙ u.same c k x (sym (ap (λ l. slice_get l k) (r c)) ∙ is);
      missing = λ c k is. u.missing c k (sym (ap (λ l. slice_get l k) (r c)) ∙ is);
      gone = λ c k o. ap (λ l. slice_get l k) (r c) ∙ u.gone c k o;
      righted = λ c. ap length (t c) ∙ u.righted c ∙ sym (ap length (r c));
      rights = λ c k d is. u.rights c k d (sym (ap (λ l. slice_get l k) (t c)) ∙ is) ∙ ap (λ n. n + shares_at views outs c k) (sym (more_halved real more c none));
    }

-- each element of a constant list is equal to the constant
pub replicated : (n d k x : ℕ) → slice_get (replicate n d) k ≡ Some x → x ≡ d
replicated zero d k x e = cc
replicated (suc n) d zero x e = sym (same_Some d x e)
replicated (suc n) d (suc k) x e = replicated n d k x e

-- a new block, all in, at a cell of the running call
pub under_set : (m : Memory) (views' : List View) (real : List Lodged) (first round : ℕ) (outs : List Out) (c : ℕ) (w : Lodged) (xs : List ℤ)
    → w.cells ≡ ins xs → IsWhole w → first ≤ c → Floored outs first → AreAway m first round outs
    → ((d : ℕ) → d < first → view views' d ≡ view m.views d) → LiesUnder outs m.views real m.blocks
    → LiesUnder outs views' (slice_set real c w) (slice_set m.blocks c w)
under_set m views' real first round outs c w xs all whole le floors away same u = under_views m views' (slice_set real c w) (slice_set m.blocks c w) first round outs floors away same (record {
  as_many = length-set real c w ∙ u.as_many ∙ sym (length-set m.blocks c w);
  spots = λ b. both (λ v v'. v.spot ≡ v'.spot) real m.blocks c b u.as_many (λ d. u.spots d) refl;
  as_long = λ b. both (λ v v'. length v.cells ≡ length v'.cells) real m.blocks c b u.as_many (λ d. u.as_long d) refl;
  same = λ b k x. both (λ v v'. slice_get v.cells k ≡ Some (Some x) → slice_get v'.cells k ≡ Some (Some x)) real m.blocks c b u.as_many (λ d. u.same d k x) (λ e. e);
  missing = λ b k is. ⊎_elim
      (λ e. ⊎_elim (λ lt. absurd (never_out xs k (sym (ap (λ l. slice_get l k) all)
      ∙ sym (ap (λ (v : Lodged). slice_get v.cells k) (get_or-set_same real c w no_block lt))
      ∙ sym (ap (λ i. slice_get (block (slice_set real c w) i).cells k) e) ∙ is)))
      (λ ge. absurd (past (slice_set real c w) b k (let n = length-set real c w in omega (arith, n, ge, e)) is)) (less_or c (length real)))
      (λ n. u.missing b k (sym (ap (λ (v : Lodged). slice_get v.cells k) (get_or-set_other real c b w no_block n)) ∙ is))
      (same_or b c);
  gone = λ b k o. ap (λ (v : Lodged). slice_get v.cells k) (get_or-set_other real c b w no_block
      (λ e. (let lt = out_low m first round outs b k floors away o in omega (arith, lt, le, e)))) ∙ u.gone b k o;
  righted = λ b. ⊎_elim
      (λ x. ap (λ (v : Lodged). length v.rights) x.1 ∙ ap length whole ∙ length-replicate (length w.cells) w.spot.halved ∙ sym (ap (λ (v : Lodged). length v.cells) x.1))
      (λ x. ap (λ (v : Lodged). length v.rights) x ∙ u.righted b ∙ sym (ap (λ (v : Lodged). length v.cells) x))
      (set_cases real c b);
  rights = λ b k d is. ⊎_elim
      (λ x.
      let alike = replicated (length w.cells) w.spot.halved k d (sym (ap (λ l. slice_get l k) whole) ∙ sym (ap (λ (v : Lodged). slice_get v.rights k) x.1) ∙ is) in
      let at = x.0 in
      let none = none_high m first round outs floors away b k (omega (arith, le, at)) in
      let spot : (block (slice_set real c w) b).spot.halved ≡ w.spot.halved = ap (λ (v : Lodged). v.spot.halved) x.1 in
      omega (arith, alike, none, spot))
      (λ x. u.rights b k d (sym (ap (λ (v : Lodged). slice_get v.rights k) x) ∙ is) ∙ ap (λ (v : Lodged). v.spot.halved + shares_at m.views outs b k) (sym x))
      (set_cases real c b);
})
  where
    set_cases : (real : List Lodged) (c b : ℕ) → ((b ≡ c) × (block (slice_set real c w) b ≡ w)) ⊎ (block (slice_set real c w) b ≡ block real b)
    set_cases [] c b = inr refl
    set_cases (v ∷ real) zero zero = inl (refl, refl)
    set_cases (v ∷ real) zero (suc b) = inr refl
    set_cases (v ∷ real) (suc c) zero = inr refl
    set_cases (v ∷ real) (suc c) (suc b) = ⊎_elim (λ x. inl (ap suc x.0, x.1)) (λ x. inr x) (set_cases real c b)

    both : (P : Lodged → Lodged → Type 0) (real blocks : List Lodged) (c b : ℕ) → length real ≡ length blocks
        → ((d : ℕ) → P (block real d) (block blocks d)) → P w w → P (block (slice_set real c w) b) (block (slice_set blocks c w) b)
    both P [] [] c b n h same = h b
    both P [] (v ∷ blocks) c b n h same = absurd (omega (arith, n))
    both P (v ∷ real) [] c b n h same = absurd (omega (arith, n))
    both P (v ∷ real) (v' ∷ blocks) zero zero n h same = same
    both P (v ∷ real) (v' ∷ blocks) zero (suc b) n h same = h (suc b)
    both P (v ∷ real) (v' ∷ blocks) (suc c) zero n h same = h 0
    both P (v ∷ real) (v' ∷ blocks) (suc c) (suc b) n h same = both P real blocks c b (omega (arith, n)) (λ d. h (suc d)) same

    past : (bs : List Lodged) (b k : ℕ) → length bs ≤ b → slice_get (block bs b).cells k ≡ Some None → ⊥
    past [] b k le e = cc
    past (v ∷ bs) zero k le e = absurd (omega (arith, le))
    past (v ∷ bs) (suc b) k le e = past bs b k (omega (arith, le)) e

pub under_take : (m : Memory) (real : List Lodged) (first round : ℕ) (outs : List Out) → Floored outs first → AreAway m first round outs
    → LiesUnder outs m.views real m.blocks → LiesUnder outs (take first m.views) (take first real) (take first m.blocks)
under_take m real first round outs floors away u = under_views m (take first m.views) (take first real)
    (take first m.blocks) first round outs floors away (λ c lt. view_take m.views first c lt) (record {
      as_many = many real m.blocks first u.as_many;
      spots = λ b. both (λ v v'. v.spot ≡ v'.spot) b (u.spots b) refl;
      as_long = λ b. both (λ v v'. length v.cells ≡ length v'.cells) b (u.as_long b) refl;
      same = λ b k x. both (λ v v'. slice_get v.cells k ≡ Some (Some x) → slice_get v'.cells k ≡ Some (Some x)) b (u.same b k x) (λ e. e);
      missing = λ b k is. ⊎_elim
          (λ lt. u.missing b k (sym (ap (λ (v : Lodged). slice_get v.cells k) (block_take real first b lt)) ∙ is))
          (λ le. absurd (nowhere k (sym (ap (λ (v : Lodged). slice_get v.cells k) (block_past real first b le)) ∙ is)))
          (less_or b first);
      gone = λ b k o. ap (λ (v : Lodged). slice_get v.cells k) (block_take real first b (out_low m first round outs b k floors away o)) ∙ u.gone b k o;
      righted = λ b. ⊎_elim
          (λ lt. let v = block_take real first b lt in ap (λ (v : Lodged). length v.rights) v ∙ u.righted b ∙ sym (ap (λ (v : Lodged). length v.cells) v))
          (λ le. let v = block_past real first b le in ap (λ (v : Lodged). length v.rights) v ∙ sym (ap (λ (v : Lodged). length v.cells) v))
          (less_or b first);
      rights = λ b k d is. ⊎_elim
          (λ lt. let v = block_take real first b lt in u.rights b k d (sym (ap (λ (v : Lodged). slice_get v.rights k) v) ∙ is)
          ∙ ap (λ (v : Lodged). v.spot.halved + shares_at m.views outs b k) (sym v))
          (λ le. absurd (no_right k d (sym (ap (λ (v : Lodged). slice_get v.rights k) (block_past real first b le)) ∙ is)))
          (less_or b first);
    })
  where
    nowhere : (k : ℕ) → slice_get no_block.cells k ≡ Some None → ⊥
    nowhere k e = cc

    no_right : (k d : ℕ) → slice_get no_block.rights k ≡ Some d → ⊥
    no_right k d e = cc

    many : (real blocks : List Lodged) (n : ℕ) → length real ≡ length blocks → length (take n real) ≡ length (take n blocks)
    many [] [] n e = refl
    many [] (v ∷ blocks) n e = absurd (omega (arith, e))
    many (v ∷ real) [] n e = absurd (omega (arith, e))
    many (v ∷ real) (v' ∷ blocks) zero e = refl
    many (v ∷ real) (v' ∷ blocks) (suc n) e = ap suc (many real blocks n (omega (arith, e)))

    both : (P : Lodged → Lodged → Type 0) (b : ℕ) → P (block real b) (block m.blocks b) → P no_block no_block → P (block (take first real) b) (block (take first m.blocks) b)
    both P b h none = ⊎_elim
        (λ lt. subst (λ v. P v (block (take first m.blocks) b)) (sym (block_take real first b lt)) (subst (P (block real b)) (sym (block_take m.blocks first b lt)) h))
        (λ le. subst (λ v. P v (block (take first m.blocks) b)) (sym (block_past real first b le)) (subst (P no_block) (sym (block_past m.blocks first b le)) none))
        (less_or b first)
