-- Lemmas about strand weights: parts in series need no call, and readings are metered along a part.
use Rattle.std.specs.Prelude.{◌≡◌, ℕ, ◌+◌, ◌-◌, ◌≤◌, Bool, true, false, List, [], ◌∷◌, ◌++◌, Option, Some, None, refl}
use Rattle.std.proofs.Common.{sym, ◌∙◌, ap, subst, arith}
use Rattle.cw_model.specs.declared.burden.Burden.{Burden}
use Rattle.cw_model.specs.Trees.{Mark, Tree, Leaf, Seq, Par, Marked, Event, Work, Series, Fork, Join, tree_of, work}
use Rattle.cw_model.specs.Trees.{burdened_span}
use Rattle.cw_measure.specs.declared.burdened_path.BurdenedBlock.{BurdenedBlock}
use Rattle.cw_measure.specs.declared.burdened_path.BurdenedPath.{BurdenedPath}
use Rattle.cw_measure.specs.OpenParts.{Open, in_series, marked, part_of, event_of, closed, spawned_after}
use Rattle.cw_measure.specs.OpenParts.{has_spawned_from, has_spawned, work_in}
use Rattle.cw_measure.specs.Outermost.{Meters}
use Rattle.cw_measure.specs.BlockWeights.{BlockWeight, Straight, Split, now_of, gone_on, top_of, after, after_all}
use Rattle.cw_measure.specs.BlockWeights.{enters, block_weight, weight_in, burdened_work, charge_if, burdened_work_in}
use Rattle.cw_measure.specs.StrandWeights.{StrandWeight, reversed, strand_weight, noted_at, IsStackedOn, Under}
use Rattle.cw_measure.specs.StrandWeights.{ShowsWeight, TracksLate, TracksWeight, SeriesNeedNoCall}
use Rattle.cw_measure.specs.lemmas.BlockWeights.{top-after_all, child_charge}
use Rattle.cw_measure.specs.lemmas.OpenParts.{work_adds, sum_begun, left_work}

-- one more event in the current block
pub after_all-append : (burden : Burden) (L : BlockWeight) (es fs : List Event)
    → after_all burden L (es ++ fs) ≡ after_all burden (after_all burden L es) fs
after_all-append burden L [] fs = refl
after_all-append burden L (e ∷ es) fs = after_all-append burden (after burden L e) es fs

pub block_more : (burden : Burden) (os : List Open) (es : List Event) (e : Event)
    → block_weight burden os (es ++ e ∷ []) ≡ after burden (block_weight burden os es) e
block_more burden [] es e = after_all-append burden (Straight 0) es (e ∷ [])
block_more burden (o ∷ os) es e =
    after_all-append burden (enters o.spawned (block_weight burden os o.outer)) es (e ∷ [])

-- the events of a block determine whether it is split
abbrev pub is_split : BlockWeight → Bool
is_split (Straight n) = false
is_split (Split l n) = true

split_after : (burden : Burden) (L : BlockWeight) (e : Event)
    → is_split (after burden L e) ≡ spawned_after (is_split L) e
split_after burden (Straight n) (Work k) = refl
split_after burden (Split l n) (Work k) = refl
split_after burden (Straight n) (Series t) = refl
split_after burden (Split l n) (Series t) = refl
split_after burden (Straight n) (Fork t) = refl
split_after burden (Split l n) (Fork t) = refl
split_after burden L Join = refl

split_all : (burden : Burden) (L : BlockWeight) (es : List Event)
    → is_split (after_all burden L es) ≡ has_spawned_from (is_split L) es
split_all burden L [] = refl
split_all burden L (e ∷ es) =
    split_all burden (after burden L e) es ∙ ap (λ (b : Bool). has_spawned_from b es) (split_after burden L e)

split_entered : (burden : Burden) (spawned : Bool) (L : BlockWeight) (es : List Event)
    → is_split (after_all burden (enters spawned L) es) ≡ has_spawned es
split_entered burden true L es = split_all burden (Straight 0) es
split_entered burden false L es = split_all burden (Straight (now_of L)) es

pub split-block : (burden : Burden) (os : List Open) (es : List Event)
    → is_split (block_weight burden os es) ≡ has_spawned es
split-block burden [] es = split_all burden (Straight 0) es
split-block burden (o ∷ os) es = split_entered burden o.spawned (block_weight burden os o.outer) es

pub straight : (L : BlockWeight) → is_split L ≡ false → now_of L ≡ top_of L
straight (Straight n) e = refl
straight (Split l n) e = cc

enters_is : (b : Bool) (L : BlockWeight) → enters b L ≡ Straight (now_of (enters b L))
enters_is true L = refl
enters_is false L = refl

pub span_marked : (burden : Burden) (mark : Option Mark) (t : Tree)
    → burdened_span burden (marked mark t) ≡ burdened_span burden t
span_marked burden None t = refl
span_marked burden (Some m) t = refl

-- the path at the end of a part, relative to the path at its start
pub ended_weight : (burden : Burden) (o : Open) (os : List Open) (es : List Event) → has_spawned es ≡ false
    → weight_in burden (o ∷ os) es ≡ weight_in burden (o ∷ os) [] + burdened_span burden (tree_of es)
ended_weight burden o os es e =
    let L = enters o.spawned (block_weight burden os o.outer) in
    straight (block_weight burden (o ∷ os) es) (split-block burden (o ∷ os) es ∙ e)
    ∙ ap (λ (x : BlockWeight). top_of (after_all burden x es)) (enters_is o.spawned (block_weight burden os o.outer))
    ∙ top-after_all burden (now_of L) es

pub weight_meters : (burden : Burden) → Meters (burdened_span burden) (weight_in burden)
weight_meters burden = record {
  in_mark = λ m t. refl;
  at_begin = λ mark os es. refl;
  at_end = ended_weight burden;
}

pub work_meters : Meters work work_in
work_meters = record {
  in_mark = λ m t. refl;
  at_begin = λ mark os es. sum_begun work work_adds (record { spawned = false; mark = mark; outer = es }) os;
  at_end = λ o os es h. let a = sum_begun work work_adds o os in omega arith;
}

-- a strand represents a block, with the block as a variable
pub record ShowsBlock (below : List BurdenedBlock → Type 0) (L : BlockWeight) (v : StrandWeight) : Type 0 where
  pub now_is : v.now ≡ now_of L
  pub blocks_are : IsStackedOn below L v.blocks

pub by_block : (burden : Burden) (os : List Open) (es : List Event) (L : BlockWeight) (v : StrandWeight)
    → block_weight burden os es ≡ L → ShowsBlock (Under burden os) L v → ShowsWeight burden os es v
by_block burden os es L v e h =
    let P : BlockWeight → Type 0 = λ x. ShowsBlock (Under burden os) x v in
    let s = subst P (sym e) h in record { now_is = s.now_is; blocks_are = s.blocks_are }

pub stands_gone_on : (below : List BurdenedBlock → Type 0) (k : ℕ) (L : BlockWeight) (bs : List BurdenedBlock)
    → IsStackedOn below L bs → IsStackedOn below (gone_on k L) bs
stands_gone_on below k (Straight n) bs h = h
stands_gone_on below k (Split l n) [] h = absurd h
stands_gone_on below k (Split l n) (b ∷ bs) h = h

pub now_gone_on : (k : ℕ) (L : BlockWeight) → now_of (gone_on k L) ≡ now_of L + k
now_gone_on k (Straight n) = refl
now_gone_on k (Split l n) = refl

-- the blocks below a block that has not spawned
pub stands_straight : (below : List BurdenedBlock → Type 0) (L : BlockWeight) (bs : List BurdenedBlock)
    → is_split L ≡ false → IsStackedOn below L bs → below bs
stands_straight below (Straight n) bs e h = h
stands_straight below (Split l n) bs e h = cc

in_series_ends : (burden : Burden) (mark : Option Mark) (outer : List Event) (os : List Open) (es : List Event)
    (v : StrandWeight) → has_spawned es ≡ false → ShowsWeight burden (in_series mark outer os) es v
    → ShowsWeight burden os (closed (record { spawned = false; mark = mark; outer = outer }) es) v
in_series_ends burden mark outer os es v e h =
    let o : Open = record { spawned = false; mark = mark; outer = outer } in
    let t = marked mark (tree_of es) in
    let L = block_weight burden os outer in
    let k = burdened_span burden t in
    let below =
    stands_straight (IsStackedOn (Under burden os) L) (block_weight burden (o ∷ os) es) v.blocks
    (split-block burden (o ∷ os) es ∙ e) h.blocks_are in
    let same : burdened_span burden (tree_of es) ≡ k = sym (span_marked burden mark (tree_of es)) in
    by_block burden os (closed o es) (gone_on k L) v (block_more burden os outer (Series t))
    (record {
      now_is = h.now_is ∙ ended_weight burden o os es e ∙ ap (λ (x : ℕ). now_of L + x) same ∙ sym
          (now_gone_on k L);
      blocks_are = stands_gone_on (Under burden os) k L v.blocks below;
    })

shows_left : (burden : Burden) (o : Open) (os : List Open) (es : List Event) (v : StrandWeight) → o.spawned ≡ false
    → has_spawned es ≡ false → ShowsWeight burden (o ∷ os) es v → ShowsWeight burden os (closed o es) v
shows_left burden o os es v b e h = by_kind o.spawned b h
  where
    by_kind : (s : Bool) → s ≡ false
        → ShowsWeight burden (record { spawned = s; mark = o.mark; outer = o.outer } ∷ os) es v
        → ShowsWeight burden os (closed (record { spawned = s; mark = o.mark; outer = o.outer }) es) v
    by_kind false b h = in_series_ends burden o.mark o.outer os es v e h
    by_kind true b h = cc

-- the weights of a run are at most its work plus one charge for each spawn
pub span_within : (burden : Burden) (t : Tree) → burdened_span burden t ≤ burdened_work burden t
span_within burden (Leaf k) = omega arith
span_within burden (Seq a b) = let g = span_within burden a in let h = span_within burden b in omega arith
span_within burden (Par a b) =
    let g = span_within burden a in let h = span_within burden b in let c = child_charge burden in omega arith
span_within burden (Marked mark t) = span_within burden t

abbrev pub event_work : Burden → Event → ℕ
event_work burden (Work k) = k
event_work burden (Series t) = burdened_work burden t
event_work burden (Fork t) = burdened_work burden t + burden.charge
event_work burden Join = 0

abbrev pub sum_of_works : Burden → List Event → ℕ
sum_of_works burden [] = 0
sum_of_works burden (e ∷ es) = event_work burden e + sum_of_works burden es

pub works_is : (burden : Burden) (es : List Event) → sum_of_works burden es ≡ burdened_work burden (tree_of es)
works_is burden [] = refl
works_is burden (Work k ∷ es) = let b = works_is burden es in omega arith
works_is burden (Series t ∷ es) = let b = works_is burden es in omega arith
works_is burden (Fork t ∷ es) = let b = works_is burden es in omega arith
works_is burden (Join ∷ es) = let b = works_is burden es in omega arith

burdened_works_more : (burden : Burden) (es : List Event) (e : Event)
    → burdened_work burden (tree_of (es ++ e ∷ [])) ≡ burdened_work burden (tree_of es) + event_work burden e
burdened_works_more burden es e =
    sym (works_is burden (es ++ e ∷ [])) ∙ sum_append burden es e ∙ ap (λ (x : ℕ). x + event_work burden e)
    (works_is burden es)
  where
    sum_append : (burden : Burden) (es : List Event) (e : Event)
        → sum_of_works burden (es ++ e ∷ []) ≡ sum_of_works burden es + event_work burden e
    sum_append burden [] e = omega arith
    sum_append burden (d ∷ es) e = let i = sum_append burden es e in omega arith

burdened_works_in : (burden : Burden) (os : List Open) (es : List Event) (e : Event)
    → burdened_work_in burden os (es ++ e ∷ []) ≡ burdened_work_in burden os es + event_work burden e
burdened_works_in burden [] es e = burdened_works_more burden es e
burdened_works_in burden (o ∷ os) es e = let a = burdened_works_more burden es e in omega arith

burdened_works_all : (burden : Burden) (es fs : List Event)
    → burdened_work burden (tree_of (es ++ fs)) ≡ burdened_work burden (tree_of es) + burdened_work burden (tree_of fs)
burdened_works_all burden es fs =
    sym (works_is burden (es ++ fs)) ∙ sum_all burden es fs ∙ ap (λ (x : ℕ). x + sum_of_works burden fs)
    (works_is burden es) ∙ ap (λ (x : ℕ). burdened_work burden (tree_of es) + x) (works_is burden fs)
  where
    sum_all : (burden : Burden) (es fs : List Event)
        → sum_of_works burden (es ++ fs) ≡ sum_of_works burden es + sum_of_works burden fs
    sum_all burden [] fs = omega arith
    sum_all burden (d ∷ es) fs = let i = sum_all burden es fs in omega arith

pub burdened_append : (burden : Burden) (os : List Open) (es fs : List Event)
    → burdened_work_in burden os (es ++ fs) ≡ burdened_work_in burden os es + burdened_work burden (tree_of fs)
burdened_append burden [] es fs = burdened_works_all burden es fs
burdened_append burden (o ∷ os) es fs = let a = burdened_works_all burden es fs in omega arith

event_work_is : (burden : Burden) (spawned : Bool) (mark : Option Mark) (t : Tree)
    → event_work burden (part_of spawned (marked mark t)) ≡ burdened_work burden t + charge_if spawned burden
event_work_is burden true None t = refl
event_work_is burden true (Some m) t = refl
event_work_is burden false None t = omega arith
event_work_is burden false (Some m) t = omega arith

pub left_burdened_work : (burden : Burden) (o : Open) (os : List Open) (es : List Event)
    → burdened_work_in burden os (closed o es) ≡ burdened_work_in burden (o ∷ os) es
left_burdened_work burden o os es =
    let a = burdened_works_in burden os o.outer (event_of o es) in
    let b = event_work_is burden o.spawned o.mark (tree_of es) in omega arith

pub series_need_no_call : (burden : Burden) (path : BurdenedPath) → SeriesNeedNoCall burden path
series_need_no_call burden path = record {
  begins = λ mark os es h. record {
    shows = record { now_is = h.shows.now_is; blocks_are = h.shows.blocks_are };
    noted_is = h.noted_is ∙ sym (sum_begun work work_adds (record { spawned = false; mark = mark; outer = es }) os);
  };
  ends = λ o os es b e h. record {
    shows = shows_left burden o os es (strand_weight path) b e h.shows;
    noted_is = h.noted_is ∙ sym (left_work o os es);
  };
}

-- a path that represents a run is also a late path
pub told_late : (burden : Burden) (os : List Open) (es : List Event) (path : BurdenedPath)
    → TracksWeight burden os es path → TracksLate burden os es path
told_late burden os es path h =
    let n = h.noted_is in
    let e : path.weight ≡ path.weight + (work_in os es - path.noted) = omega arith in
    let T : ℕ → Type 0 =
    λ x. ShowsWeight burden os es (record { now = x; blocks = reversed path.blocks.items [] }) in
    record { late = omega arith; tells = record { shows = subst T e h.shows; noted_is = refl } }

-- a part in series begins and ends without a call
pub late_begun : (burden : Burden) (mark : Option Mark) (os : List Open) (es : List Event) (path : BurdenedPath)
    → TracksLate burden os es path → TracksLate burden (in_series mark es os) [] path
late_begun burden mark os es path h =
    let e = sum_begun work work_adds (record { spawned = false; mark = mark; outer = es }) os in
    let l = h.late in
    let P : ℕ → Type 0 = λ n. TracksWeight burden (in_series mark es os) [] (noted_at n path) in
    record {
      late = omega arith;
      tells = subst P (sym e) ((series_need_no_call burden (noted_at (work_in os es) path)).begins mark os es h.tells);
    }

pub late_ended : (burden : Burden) (o : Open) (os : List Open) (es : List Event) (path : BurdenedPath)
    → o.spawned ≡ false → has_spawned es ≡ false → TracksLate burden (o ∷ os) es path
    → TracksLate burden os (closed o es) path
late_ended burden o os es path b n h =
    let e = left_work o os es in
    let l = h.late in
    let P : ℕ → Type 0 = λ k. TracksWeight burden os (closed o es) (noted_at k path) in
    record {
      late = omega arith;
      tells = subst P (sym e) ((series_need_no_call burden (noted_at (work_in (o ∷ os) es) path)).ends o os es b n
          h.tells);
    }
