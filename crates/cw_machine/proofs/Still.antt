-- The arrays that are handed out, and the slices that a run was given, after a change of the memory.
use Rattle.std.proofs.Common.{◌≡◌, ◌≢◌, ◌⊎◌, inl, inr, ⊎_elim, ℕ, zero, suc, ◌+◌, ◌<◌, ◌≤◌, ℤ, Bool, Option, Some, None, List, [], ◌∷◌, ◌++◌, length, refl, ap, ◌∙◌, subst, sym, arith}
use Rattle.std.specs.Prelude.{map, take, drop, is_some, slice_get, slice_set}
use Rattle.std.proofs.lemmas.List.{get_or-set_other}
use Rattle.cw_slices.specs.Placed.{Spot, Placed, after, shared_after}
use Rattle.cw_slices.specs.Blocks.{Lodged}
use Rattle.cw_code.specs.Run.{Around, Caller, Block}
use Rattle.cw_machine.specs.declared.machine.Frame.{Frame}
use Rattle.cw_machine.specs.declared.machine.View.{View}
use Rattle.cw_machine.specs.Arrays.{Out, upto, view, no_block, block, IsBare, found, put, kept_of, Memory, IsOut, shares_at, IsLent}
use Rattle.cw_machine.specs.Arrays.{IsSharedOut, LiesAway, AreAway, AllAbove, Floored, AllFrom, OutsAt, AreGiven}
use Rattle.std.proofs.lemmas.Option.{slice_get_within, same_Some}
use Rattle.cw_machine.proofs.Blocks.{found_is}
use Rattle.cw_machine.proofs.Places.{less_or, Steady, has_steady}
use Rattle.cw_machine.proofs.Reading.{reads_steady}
use Rattle.cw_machine.proofs.Shares.{all_shares_as}

-- everything that is handed out is below the running call
pub floored : (m : Memory) (first round : ℕ) (outs : List Out) → AllAbove outs round → AreAway m first round outs → Floored outs first
floored m first round outs above away = λ j o e. (away j o e).floor (above j o e)

-- nothing that is handed out belongs to a call with more enclosing blocks and calls
pub none_up : (m : Memory) (first round first' : ℕ) (outs : List Out) → AreAway m first round outs → AllFrom outs (suc round) first'
none_up m first round first' outs away j o e is = absurd (let le = (away j o e).level in omega (arith, le, is))

-- the arrays that are handed out of the running call have its cells
pub outs_here : (outs : List Out) (first : ℕ) (frames : List Frame) (around : List Around) → OutsAt outs first frames around → AllFrom outs (length around) first
outs_here outs first frames [] h = h
outs_here outs first frames (Block o ∷ around) h = h.0
outs_here outs first [] (Caller w ∷ around) h = absurd h
outs_here outs first (f ∷ frames) (Caller w ∷ around) h = h.0

-- the views of what is handed out are unchanged
abbrev pub OutsSeen : (views views' : List View) → List Out → Type 0
OutsSeen views views' outs = (j : ℕ) (o : Out) → slice_get outs j ≡ Some o → (n : ℕ) → n < length o.slices → view views' (o.first + n) ≡ view views (o.first + n)

pub seen_below : (m : Memory) (views' : List View) (first round : ℕ) (outs : List Out) → Floored outs first → AreAway m first round outs
    → ((c : ℕ) → c < first → view views' c ≡ view m.views c) → OutsSeen m.views views' outs
seen_below m views' first round outs floors away same j o e n lt = let f = floors j o e in let ends = (away j o e).ends in same (o.first + n) (omega (arith, f, ends, lt))

pub outs_on : (views views' : List View) (outs : List Out) → OutsSeen views views' outs → (b k : ℕ) → IsOut views outs b k → IsOut views' outs b k
outs_on views views' outs seen b k o =
    let is = seen o.index o.out o.is_out o.slot (slice_get_within o.out.slices o.slot o.slice o.is_slice) in
    record {
      index = o.index;
      out = o.out;
      slot = o.slot;
      slice = o.slice;
      at = o.at;
      is_out = o.is_out;
      is_slice = o.is_slice;
      moved = o.moved;
      within = o.within;
      in_block = o.in_block ∙ ap (λ (w : View). w.block) (sym is);
      in_place = o.in_place ∙ ap (λ (w : View). w.from + o.at) (sym is);
    }

pub outs_back : (views views' : List View) (outs : List Out) → OutsSeen views views' outs → (b k : ℕ) → IsOut views' outs b k → IsOut views outs b k
outs_back views views' outs seen b k o =
    let is = seen o.index o.out o.is_out o.slot (slice_get_within o.out.slices o.slot o.slice o.is_slice) in
    record {
      index = o.index;
      out = o.out;
      slot = o.slot;
      slice = o.slice;
      at = o.at;
      is_out = o.is_out;
      is_slice = o.is_slice;
      moved = o.moved;
      within = o.within;
      in_block = o.in_block ∙ ap (λ (w : View). w.block) is;
      in_place = o.in_place ∙ ap (λ (w : View). w.from + o.at) is;
    }

few_taken : (n : ℕ) (ps : List Placed) → length (take n ps) ≤ length ps
few_taken zero ps = omega arith
few_taken (suc n) [] = omega arith
few_taken (suc n) (p ∷ ps) = let le = few_taken n ps in omega (arith, le)

get_drop : (n : ℕ) (outs : List Out) (k : ℕ) (o : Out) → slice_get (drop n outs) k ≡ Some o → slice_get outs (n + k) ≡ Some o
get_drop zero outs k o e = let same : 0 + k ≡ k = omega arith in ap (slice_get outs) same ∙ e
get_drop (suc n) [] k o e = cc
get_drop (suc n) (x ∷ outs) k o e = let same : suc n + k ≡ suc (n + k) = omega arith in ap (slice_get (x ∷ outs)) same ∙ get_drop n outs k o e

-- an array that is handed out still is, if arrays and blocks below the call are unchanged
module _ (m m' : Memory) (first round : ℕ) (outs : List Out) (floors : Floored outs first) (steady : (c : ℕ) → c < first → Steady m m' c)
    (kept : (c : ℕ) → c < first → kept_of m'.blocks c ≡ kept_of m.blocks c) (away : AreAway m first round outs) where
  seen : OutsSeen m.views m'.views outs
  seen = seen_below m m'.views first round outs floors away (λ c lt. (steady c lt).same)

  module _ (j : ℕ) (o : Out) (is_out : slice_get outs j ≡ Some o) (k : ℕ) (p : Placed) (is : slice_get o.slices k ≡ Some p) (y : LiesAway m outs (drop (suc j) outs) o k p) where
    abbrev w : View
    w = view m.views (o.first + k)

    within : o.first + k < first
    within = let f = floors j o is_out in let ends = (away j o is_out).ends in let lt = slice_get_within o.slices k p is in omega (arith, f, ends, lt)

    same : view m'.views (o.first + k) ≡ w
    same = (steady (o.first + k) within).same

    block_kept : w.block < o.floor → kept_of m'.blocks w.block ≡ kept_of m.blocks w.block
    block_kept low = kept w.block (let f = floors j o is_out in omega (arith, low, f))

    newest : OutsSeen m.views m'.views (upto o k ∷ drop (suc j) outs)
    newest zero q e n lt =
        let q_is : upto o k ≡ q = same_Some (upto o k) q e in
        let first_is : o.first ≡ q.first = ap (λ (x : Out). x.first) q_is in
        let few = few_taken (suc k) o.slices in
        let many : length (take (suc k) o.slices) ≡ length q.slices = ap (λ (x : Out). length x.slices) q_is in
        ap (λ c. view m'.views (c + n)) (sym first_is) ∙ seen j o is_out n (omega (arith, lt, many, few)) ∙ ap (λ c. view m.views (c + n)) first_is
    newest (suc i) q e n lt = seen (suc j + i) q (get_drop (suc j) outs i q e) n lt

    lent_on : IsLent m (o.first + k) o.floor p → IsLent m' (o.first + k) o.floor p
    lent_on h = record {
      has = has_steady m m' (o.first + k) p.items (steady (o.first + k) within) h.has;
      low = subst (λ (x : View). x.block < o.floor) (sym same) h.low;
      spot = h.spot ∙ ap (λ (q : Spot × List Bool). after w.from q.0) (sym (block_kept h.low)) ∙ ap (λ (x : View). after x.from (kept_of m'.blocks x.block).0) (sym same);
    }

    shared_on : IsSharedOut m outs (drop (suc j) outs) o k p → IsSharedOut m' outs (drop (suc j) outs) o k p
    shared_on h = record {
      low = subst (λ (x : View). x.block < o.floor) (sym same) h.low;
      spot = h.spot ∙ ap (λ (q : Spot × List Bool). shared_after w.from p.spot.halved q.0) (sym (block_kept h.low))
          ∙ ap (λ (x : View). shared_after x.from p.spot.halved (kept_of m'.blocks x.block).0) (sym same);
      halved = λ i lt. subst (λ (x : View). p.spot.halved ≡ (kept_of m'.blocks x.block).0.halved + shares_at m'.views (upto o k ∷ drop (suc j) outs) x.block (x.from + i)) (sym same)
          (h.halved i lt
          ∙ ap (λ (q : Spot × List Bool). q.0.halved + shares_at m.views (upto o k ∷ drop (suc j) outs) w.block (w.from + i)) (sym (block_kept h.low))
          ∙ ap (λ n. (kept_of m'.blocks w.block).0.halved + n) (sym (all_shares_as m.views m'.views (upto o k ∷ drop (suc j) outs) w.block (w.from + i) newest)));
      still = λ i lt out. h.still i lt (subst (λ (x : View). IsOut m.views outs x.block (x.from + i)) same (outs_back m.views m'.views outs seen _ _ out));
    }

    pub lies_on : LiesAway m' outs (drop (suc j) outs) o k p
    lies_on = record {
      lent = λ e. lent_on (y.lent e);
      shared = λ e. shared_on (y.shared e);
      has = λ e lt. has_steady m m' (o.first + k) p.items (steady (o.first + k) within) (y.has e lt);
      reads = λ le. reads_steady m m' outs o.first (o.first + k) p.items (λ d lt. steady d (omega (arith, lt, within))) same (outs_back m.views m'.views outs seen) (y.reads le);
    }

-- the arrays that are handed out are still handed out
pub away_on : (m m' : Memory) (first first' round round' : ℕ) (outs : List Out) → Floored outs first
    → ((j : ℕ) (o : Out) → slice_get outs j ≡ Some o → o.level ≤ round → (o.level ≤ round') × (o.level < round' → o.floor ≤ first'))
    → ((c : ℕ) → c < first → Steady m m' c) → ((c : ℕ) → c < first → kept_of m'.blocks c ≡ kept_of m.blocks c) → AreAway m first round outs → AreAway m' first' round' outs
away_on m m' first first' round round' outs floors up steady kept h = λ j o e.
    let x = h j o e in
    let r = up j o e x.level in record {
      level = r.0;
      floor = r.1;
      ends = x.ends;
      each = λ k p e' some. lies_on m m' first round outs floors steady kept h j o e k p e' (x.each k p e' some);
    }

-- the arrays that are handed out are still handed out, and the call has the same cells
pub away_here : (m m' : Memory) (first round : ℕ) (outs : List Out) → Floored outs first → ((c : ℕ) → c < first → Steady m m' c)
    → ((c : ℕ) → c < first → kept_of m'.blocks c ≡ kept_of m.blocks c) → AreAway m first round outs → AreAway m' first round outs
away_here m m' first round outs floors = away_on m m' first first round round outs floors (λ j o e le. (le, λ lt. floors j o e))

-- the arrays that are handed out are still handed out, with one more enclosing block
pub away_up : (m m' : Memory) (first first' round : ℕ) (outs : List Out) → Floored outs first → first ≤ first'
    → ((c : ℕ) → c < first → Steady m m' c) → ((c : ℕ) → c < first → kept_of m'.blocks c ≡ kept_of m.blocks c) → AreAway m first round outs
    → AreAway m' first' (suc round) outs
away_up m m' first first' round outs floors le = away_on m m' first first' round (suc round) outs floors (λ j o e l. (omega (arith, l), λ lt. (let f = floors j o e in omega (arith, f, le))))

-- no share that was given is written, and no other block becomes a share
abbrev pub GivenStill : (blocks blocks' : List Lodged) → (given : List Placed) → Type 0
GivenStill blocks blocks' given =
    ((k : ℕ) (p : Placed) → slice_get given k ≡ Some p → 0 < p.spot.halved → (block blocks' k).cells ≡ (block blocks k).cells)
    × ((b : ℕ) → length given ≤ b → ((block blocks' b).spot.halved ≡ 0) ⊎ ((block blocks' b).spot ≡ (block blocks b).spot))

pub still_same : (blocks : List Lodged) (given : List Placed) → GivenStill blocks blocks given
still_same blocks given = ((λ k p e some. refl), λ b le. inr refl)

-- the given slices are still given
pub given_on : (blocks blocks' : List Lodged) (first first' : ℕ) (given : List Placed) → length given ≤ first' → ((c : ℕ) → c < first → kept_of blocks' c ≡ kept_of blocks c)
    → GivenStill blocks blocks' given → AreGiven blocks first given → AreGiven blocks' first' given
given_on blocks blocks' first first' given le kept still h = record {
  below = le;
  each = λ k p e.
      let lt = slice_get_within given k p e in
      let b = h.below in
      let is = kept k (omega (arith, lt, b)) in
      let x = h.each k p e in (
        ap (λ (q : Spot × List Bool). q.0) is ∙ x.0,
        ap (λ (q : Spot × List Bool). length q.1) is ∙ x.1,
        (λ some. still.0 k p e some ∙ x.2 some),
      );
  others = λ b le'. ⊎_elim (λ z. z) (λ same. ap (λ (q : Spot). q.halved) same ∙ h.others b le') (still.1 b le');
}

marks_set : (cells : List (Option ℤ)) (k : ℕ) (x y : ℤ) → slice_get cells k ≡ Some (Some y) → map is_some (slice_set cells k (Some x)) ≡ map is_some cells
marks_set [] k x y e = refl
marks_set (None ∷ cells) zero x y e = cc
marks_set (Some z ∷ cells) zero x y e = refl
marks_set (c ∷ cells) (suc k) x y e = ap (λ l. is_some c ∷ l) (marks_set cells k x y e)

-- a write of a number that is in
pub kept_put : (blocks : List Lodged) (b k : ℕ) (x y : ℤ) → found blocks b k ≡ Some y → (c : ℕ) → kept_of (put blocks b k x) c ≡ kept_of blocks c
kept_put blocks b k x y e c = at blocks b c (found_is blocks b k y e).1
  where
    at : (blocks : List Lodged) (b c : ℕ) → slice_get (block blocks b).cells k ≡ Some (Some y) → kept_of (put blocks b k x) c ≡ kept_of blocks c
    at [] b c e = refl
    at (w ∷ blocks) zero zero e = ap (λ (l : List Bool). (w.spot, l)) (marks_set w.cells k x y e)
    at (w ∷ blocks) zero (suc c) e = refl
    at (w ∷ blocks) (suc b) zero e = refl
    at (w ∷ blocks) (suc b) (suc c) e = at blocks b c e

-- a write of one block does not change the place of another block, nor which of its cells are in
pub kept_set : (blocks : List Lodged) (b c : ℕ) (w : Lodged) → c ≢ b → kept_of (slice_set blocks b w) c ≡ kept_of blocks c
kept_set blocks b c w n = ap (λ (v : Lodged). (v.spot, map is_some v.cells)) (get_or-set_other blocks b c w no_block n)

-- appending blocks does not change the place of an old block, nor which of its cells are in
pub kept_more : (blocks more : List Lodged) (c : ℕ) → c < length blocks → kept_of (blocks ++ more) c ≡ kept_of blocks c
kept_more [] more c lt = absurd (omega (arith, lt))
kept_more (w ∷ blocks) more zero lt = refl
kept_more (w ∷ blocks) more (suc c) lt = kept_more blocks more c (omega (arith, lt))

pub kept_take : (blocks : List Lodged) (n c : ℕ) → c < n → kept_of (take n blocks) c ≡ kept_of blocks c
kept_take [] zero c lt = refl
kept_take [] (suc n) c lt = refl
kept_take (w ∷ blocks) zero c lt = absurd (omega (arith, lt))
kept_take (w ∷ blocks) (suc n) zero lt = refl
kept_take (w ∷ blocks) (suc n) (suc c) lt = kept_take blocks n c (omega (arith, lt))

-- a block below `n` is unchanged if only the first `n` blocks are kept
pub block_take : (bs : List Lodged) (n c : ℕ) → c < n → block (take n bs) c ≡ block bs c
block_take [] zero c lt = refl
block_take [] (suc n) c lt = refl
block_take (w ∷ bs) zero c lt = absurd (omega (arith, lt))
block_take (w ∷ bs) (suc n) zero lt = refl
block_take (w ∷ bs) (suc n) (suc c) lt = block_take bs n c (omega (arith, lt))

pub block_past : (bs : List Lodged) (n c : ℕ) → n ≤ c → block (take n bs) c ≡ no_block
block_past [] zero c le = refl
block_past [] (suc n) c le = refl
block_past (w ∷ bs) zero c le = refl
block_past (w ∷ bs) (suc n) zero le = absurd (omega (arith, le))
block_past (w ∷ bs) (suc n) (suc c) le = block_past bs n c (omega (arith, le))

-- the given slices are unchanged in fewer blocks and in more
pub still_take : (blocks : List Lodged) (n : ℕ) (given : List Placed) → length given ≤ n → GivenStill blocks (take n blocks) given
still_take blocks n given le = (
  (λ k p e some. let lt = slice_get_within given k p e in ap (λ (w : Lodged). w.cells) (block_take blocks n k (omega (arith, lt, le)))),
  (λ b le'. ⊎_elim (λ lt. inr (ap (λ (w : Lodged). w.spot) (block_take blocks n b lt))) (λ past. inl (ap (λ (w : Lodged). w.spot.halved) (block_past blocks n b past))) (less_or b n)),
)

block_more : (blocks more : List Lodged) (c : ℕ) → c < length blocks → block (blocks ++ more) c ≡ block blocks c
block_more [] more c lt = absurd (omega (arith, lt))
block_more (w ∷ blocks) more zero lt = refl
block_more (w ∷ blocks) more (suc c) lt = block_more blocks more c (omega (arith, lt))

block_beyond : (blocks more : List Lodged) (c : ℕ) → ((k : ℕ) → IsBare (block more k)) → length blocks ≤ c → (block (blocks ++ more) c).spot.halved ≡ 0
block_beyond [] more c bare le = (bare c).2
block_beyond (w ∷ blocks) more zero bare le = absurd (omega (arith, le))
block_beyond (w ∷ blocks) more (suc c) bare le = block_beyond blocks more c bare (omega (arith, le))

pub still_more : (blocks more : List Lodged) (given : List Placed) → ((k : ℕ) → IsBare (block more k)) → length given ≤ length blocks → GivenStill blocks (blocks ++ more) given
still_more blocks more given bare le = (
  (λ k p e some. let lt = slice_get_within given k p e in ap (λ (w : Lodged). w.cells) (block_more blocks more k (omega (arith, lt, le)))),
  (λ b le'. ⊎_elim (λ lt. inr (ap (λ (w : Lodged). w.spot) (block_more blocks more b lt))) (λ past. inl (block_beyond blocks more b bare past)) (less_or b (length blocks))),
)

-- the given slices are unchanged if another block is a new one, with one owner
pub still_set : (blocks : List Lodged) (given : List Placed) (c : ℕ) (w : Lodged) → w.spot.halved ≡ 0 → length given ≤ c → GivenStill blocks (slice_set blocks c w) given
still_set blocks given c w own le = (
  (λ k p e some. ap (λ (x : Lodged). x.cells) (get_or-set_other blocks c k w no_block (λ is. (let lt = slice_get_within given k p e in omega (arith, lt, is, le))))),
  (λ b le'. at blocks c b),
)
  where
    at : (blocks : List Lodged) (c b : ℕ) → ((block (slice_set blocks c w) b).spot.halved ≡ 0) ⊎ ((block (slice_set blocks c w) b).spot ≡ (block blocks b).spot)
    at [] c b = inr refl
    at (x ∷ blocks) zero zero = inl own
    at (x ∷ blocks) zero (suc b) = inr refl
    at (x ∷ blocks) (suc c) zero = inr refl
    at (x ∷ blocks) (suc c) (suc b) = at blocks c b
