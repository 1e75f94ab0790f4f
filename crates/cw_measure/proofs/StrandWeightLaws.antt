-- The weights of a strand represent a run so far, and each step of a run preserves this.
use Rattle.std.specs.Prelude.{◌≡◌, ℕ, zero, suc, ◌+◌, ◌-◌, ◌<◌, ◌≤◌, ◌^◌, max, Bool, true, false, not, List, [], ◌∷◌, ◌++◌, Option, length, take, refl}
use Rattle.std.proofs.Common.{sym, ◌∙◌, ap, subst, set, get_or, arith}
use Rattle.cw_model.specs.declared.burden.Burden.{Burden}
use Rattle.cw_model.specs.Burdens.{at_child, at_rest}
use Rattle.cw_model.specs.Trees.{Mark, Event, Work, Series, Fork, Join, tree_of, work, burdened_span}
use Rattle.cw_measure.specs.declared.burdened_path.BurdenedBlock.{BurdenedBlock}
use Rattle.cw_measure.specs.declared.burdened_path.BurdenedPath.{BurdenedPath}
use Rattle.cw_measure.specs.OpenParts.{Open, in_fork, marked, closed, has_spawned, Since, work_in}
use Rattle.cw_measure.specs.BlockWeights.{BlockWeight, Straight, Split, now_of, gone_on, child_ended, top_of, after, after_all}
use Rattle.cw_measure.specs.BlockWeights.{enters, block_weight, weight_in, burdened_work_in, WorkAndWeightAreMetered}
use Rattle.cw_measure.specs.StrandWeights.{StrandWeight, reversed, strand_weight, goes_on, begins, begins_again, spawns, ends, joins, saved_of, Fits, IsStackedOn}
use Rattle.cw_measure.specs.StrandWeights.{RestsOn, Under, ShowsWeight, TracksWeight, FitsRun, HasGoneOn, noted_at, LatePathsWait, RecordsLate}
use Rattle.cw_measure.specs.lemmas.BlockWeights.{top-after_all, child_charge}
use Rattle.cw_measure.specs.lemmas.OpenParts.{KeptBy, kept_since, has_spawned_since, work_since, work_adds, work_more, sum_begun, left_work}
use Rattle.cw_measure.specs.lemmas.StrandWeights.{block_more, is_split, split-block, straight, span_marked, ended_weight, weight_meters, work_meters, ShowsBlock}
use Rattle.cw_measure.specs.lemmas.StrandWeights.{by_block, stands_gone_on, now_gone_on, stands_straight, span_within, event_work, sum_of_works, works_is}

abbrev pub weighs : ℕ → List BurdenedBlock → StrandWeight
weighs n bs = record { now = n; blocks = bs }

abbrev pub block_of : (longest saved : ℕ) → BurdenedBlock
block_of l s = record { longest = l; saved = s }

pub same_top : (n n' l l' s : ℕ) (bs : List BurdenedBlock) → n ≡ n' → l ≡ l' → weighs n (block_of l s ∷ bs) ≡ weighs n' (block_of l' s ∷ bs)
same_top n n' l l' s bs e f = ap (λ (x : ℕ). weighs x (block_of l s ∷ bs)) e ∙ ap (λ (x : ℕ). weighs n' (block_of x s ∷ bs)) f

pub fits_top : (w : ℕ) (burden : Burden) (all : List BurdenedBlock) (b : BurdenedBlock) (bs : List BurdenedBlock) → all ≡ b ∷ bs
    → Fits burden (weighs w all) → (b.saved + (at_child burden + w) < 2 ^ 128) × (b.saved + at_rest burden < 2 ^ 128)
fits_top w burden all b bs e h = let P : List BurdenedBlock → Type 0 = λ x. Fits burden (weighs w x) in subst P e h

pub work_and_weight_are_metered : WorkAndWeightAreMetered
work_and_weight_are_metered = record { work_is = work_meters; weight_is = weight_meters }

shows_work : (burden : Burden) (os : List Open) (es : List Event) (v : StrandWeight) (k : ℕ) → ShowsWeight burden os es v → ShowsWeight burden os (es ++ Work k ∷ []) (goes_on k v)
shows_work burden os es v k h =
    by_block burden os (es ++ Work k ∷ []) (gone_on k (block_weight burden os es)) (goes_on k v) (block_more burden os es (Work k))
    (record {
      now_is = ap (λ (x : ℕ). x + k) h.now_is ∙ sym (now_gone_on k (block_weight burden os es));
      blocks_are = stands_gone_on (Under burden os) k (block_weight burden os es) v.blocks h.blocks_are;
    })

begins_split : (below : List BurdenedBlock → Type 0) (L : BlockWeight) (v : StrandWeight) → is_split L ≡ false → ShowsBlock below L v → RestsOn below L (begins v).blocks
begins_split below (Straight n) v e h = (refl, h.now_is, h.blocks_are)
begins_split below (Split l n) v e h = cc

again_at : (below : List BurdenedBlock → Type 0) (L : BlockWeight) (n : ℕ) (bs : List BurdenedBlock) → is_split L ≡ true → n ≡ now_of L
    → IsStackedOn below L bs → RestsOn below L (begins_again (record { now = n; blocks = bs })).blocks
again_at below (Straight m) n bs e f h = cc
again_at below (Split l m) n [] e f h = absurd h
again_at below (Split l m) n (b ∷ bs) e f h = (h.0, f, h.1)

again_now : (n : ℕ) (bs : List BurdenedBlock) → (begins_again (record { now = n; blocks = bs })).now ≡ 0
again_now n [] = refl
again_now n (b ∷ bs) = refl

shows_spawned : (first : Bool) (burden : Burden) (mark : Option Mark) (os : List Open) (es : List Event) (v : StrandWeight)
    → has_spawned es ≡ not first → ShowsWeight burden os es v → ShowsWeight burden (in_fork mark es os) [] (spawns first v)
shows_spawned true burden mark os es v e h = record {
  now_is = refl;
  blocks_are = begins_split (Under burden os) (block_weight burden os es) v (split-block burden os es ∙ e) (record { now_is = h.now_is; blocks_are = h.blocks_are });
}
shows_spawned false burden mark os es v e h = record {
  now_is = again_now v.now v.blocks;
  blocks_are = again_at (Under burden os) (block_weight burden os es) v.now v.blocks (split-block burden os es ∙ e) h.now_is h.blocks_are;
}

joins_at : (below : List BurdenedBlock → Type 0) (L : BlockWeight) (n : ℕ) (bs : List BurdenedBlock) → is_split L ≡ true → n ≡ now_of L
    → IsStackedOn below L bs → ShowsBlock below (Straight (top_of L)) (joins (record { now = n; blocks = bs }))
joins_at below (Straight m) n bs e f h = cc
joins_at below (Split l m) n [] e f h = absurd h
joins_at below (Split l m) n (b ∷ bs) e f h = record { now_is = ap (λ (x : ℕ). max x n) h.0 ∙ ap (max l) f; blocks_are = h.1 }

shows_joined : (burden : Burden) (os : List Open) (es : List Event) (v : StrandWeight) → has_spawned es ≡ true → ShowsWeight burden os es v → ShowsWeight burden os (es ++ Join ∷ []) (joins v)
shows_joined burden os es v e h =
    by_block burden os (es ++ Join ∷ []) (Straight (top_of (block_weight burden os es))) (joins v) (block_more burden os es Join)
    (joins_at (Under burden os) (block_weight burden os es) v.now v.blocks (split-block burden os es ∙ e) h.now_is h.blocks_are)

stays_at : (below : List BurdenedBlock → Type 0) (L : BlockWeight) (v : StrandWeight) → is_split L ≡ false → ShowsBlock below L v → ShowsBlock below (Straight (top_of L)) v
stays_at below (Straight n) v e h = record { now_is = h.now_is; blocks_are = h.blocks_are }
stays_at below (Split l n) v e h = cc

shows_unjoined : (burden : Burden) (os : List Open) (es : List Event) (v : StrandWeight) → has_spawned es ≡ false → ShowsWeight burden os es v → ShowsWeight burden os (es ++ Join ∷ []) v
shows_unjoined burden os es v e h =
    by_block burden os (es ++ Join ∷ []) (Straight (top_of (block_weight burden os es))) v (block_more burden os es Join)
    (stays_at (Under burden os) (block_weight burden os es) v (split-block burden os es ∙ e) (record { now_is = h.now_is; blocks_are = h.blocks_are }))

ends_blocks : (burden : Burden) (below : List BurdenedBlock → Type 0) (L : BlockWeight) (c : ℕ) (bs : List BurdenedBlock) → RestsOn below L bs
    → ShowsBlock below (child_ended burden c L) (ends burden (record { now = c; blocks = bs }))
ends_blocks burden below L c [] h = absurd h
ends_blocks burden below (Straight n) c (b ∷ bs) h = let l = h.0 in let s = h.1 in record { now_is = ap (λ (x : ℕ). x + at_rest burden) s; blocks_are = (omega arith, h.2) }
ends_blocks burden below (Split m n) c (b ∷ bs) h = let l = h.0 in let s = h.1 in record { now_is = ap (λ (x : ℕ). x + at_rest burden) s; blocks_are = (omega arith, h.2) }

in_fork_ends : (burden : Burden) (mark : Option Mark) (outer : List Event) (os : List Open) (es : List Event) (v : StrandWeight)
    → has_spawned es ≡ false → ShowsWeight burden (in_fork mark outer os) es v
    → ShowsWeight burden os (closed (record { spawned = true; mark = mark; outer = outer }) es) (ends burden v)
in_fork_ends burden mark outer os es v e h =
    let o : Open = record { spawned = true; mark = mark; outer = outer } in
    let t = marked mark (tree_of es) in
    let L = block_weight burden os outer in
    let c = burdened_span burden t in
    let below = stands_straight (RestsOn (Under burden os) L) (block_weight burden (o ∷ os) es) v.blocks (split-block burden (o ∷ os) es ∙ e) h.blocks_are in
    let n : v.now ≡ c = (let a = h.now_is in let b = ended_weight burden o os es e in let d = span_marked burden mark (tree_of es) in omega arith) in
    let R : ℕ → Type 0 = λ x. ShowsBlock (Under burden os) (child_ended burden c L) (ends burden (record { now = x; blocks = v.blocks })) in
    by_block burden os (closed o es) (child_ended burden c L) (ends burden v) (block_more burden os outer (Fork t))
    (subst R (sym n) (ends_blocks burden (Under burden os) L c v.blocks below))

shows_ended : (burden : Burden) (o : Open) (os : List Open) (es : List Event) (v : StrandWeight) → o.spawned ≡ true → has_spawned es ≡ false
    → ShowsWeight burden (o ∷ os) es v → ShowsWeight burden os (closed o es) (ends burden v)
shows_ended burden o os es v b e h = by_kind o.spawned b h
  where
    by_kind : (s : Bool) → s ≡ true → ShowsWeight burden (record { spawned = s; mark = o.mark; outer = o.outer } ∷ os) es v
        → ShowsWeight burden os (closed (record { spawned = s; mark = o.mark; outer = o.outer }) es) (ends burden v)
    by_kind true b h = in_fork_ends burden o.mark o.outer os es v e h
    by_kind false b h = cc

top_within : (burden : Burden) (L : BlockWeight) (e : Event) → top_of (after burden L e) ≤ top_of L + event_work burden e
top_within burden (Straight n) (Work k) = omega arith
top_within burden (Split l n) (Work k) = omega arith
top_within burden (Straight n) (Series t) = let s = span_within burden t in omega arith
top_within burden (Split l n) (Series t) = let s = span_within burden t in omega arith
top_within burden (Straight n) (Fork t) = let s = span_within burden t in let d = child_charge burden in omega arith
top_within burden (Split l n) (Fork t) = let s = span_within burden t in let d = child_charge burden in omega arith
top_within burden (Straight n) Join = omega arith
top_within burden (Split l n) Join = omega arith

top_all : (burden : Burden) (L : BlockWeight) (es : List Event) → top_of (after_all burden L es) ≤ top_of L + sum_of_works burden es
top_all burden L [] = omega arith
top_all burden L (e ∷ es) = let a = top_within burden L e in let b = top_all burden (after burden L e) es in omega arith

now_top : (L : BlockWeight) → now_of L ≤ top_of L
now_top (Straight n) = omega arith
now_top (Split l n) = omega arith

enters_top : (b : Bool) (burden : Burden) (L : BlockWeight) → top_of (enters b L) ≤ top_of L
enters_top true burden L = omega arith
enters_top false burden L = now_top L

pub top_in : (burden : Burden) (os : List Open) (es : List Event) → top_of (block_weight burden os es) ≤ burdened_work_in burden os es
top_in burden [] es = let a = top_all burden (Straight 0) es in let w = works_is burden es in omega arith
top_in burden (o ∷ os) es =
    let L = block_weight burden os o.outer in
    let a = top_all burden (enters o.spawned L) es in let w = works_is burden es in
    let b = enters_top o.spawned burden L in let i = top_in burden os o.outer in omega arith

pub weight_within : (burden : Burden) (os : List Open) (es : List Event) → weight_in burden os es ≤ burdened_work_in burden os es
weight_within burden os es = let a = top_in burden os es in let b = now_top (block_weight burden os es) in omega arith

-- the path of the current strand with the path up to its spawn
saved_rests : (below : List BurdenedBlock → Type 0) (L : BlockWeight) (bs : List BurdenedBlock) → RestsOn below L bs → saved_of bs ≡ now_of L
saved_rests below L [] h = absurd h
saved_rests below (Straight n) (b ∷ bs) h = h.1
saved_rests below (Split l n) (b ∷ bs) h = h.1

-- the path of a spawned part whose block has joined fits, with the path up to its spawn and its charge
pub child_fits : (burden : Burden) (mark : Option Mark) (outer : List Event) (os : List Open) (es : List Event) (v : StrandWeight)
    → has_spawned es ≡ false → FitsRun burden (in_fork mark outer os) es → ShowsWeight burden (in_fork mark outer os) es v → Fits burden v
child_fits burden mark outer os es v e fits h =
    let o : Open = record { spawned = true; mark = mark; outer = outer } in
    let L = block_weight burden os outer in
    let below = stands_straight (RestsOn (Under burden os) L) (block_weight burden (o ∷ os) es) v.blocks (split-block burden (o ∷ os) es ∙ e) h.blocks_are in
    let s = saved_rests (Under burden os) L v.blocks below in
    let a = weight_within burden os outer in
    let c = top_all burden (Straight 0) es in let w = works_is burden es in
    let d = now_top (after_all burden (Straight 0) es) in
    let g = child_charge burden in let n = h.now_is in (omega arith, omega arith)

-- The methods.

pub noted_weight : (burden : Burden) (os : List Open) (es fs : List Event) (old new : BurdenedPath) (count : ℕ) → Since old.noted count es fs
    → FitsRun burden os (es ++ fs) → TracksWeight burden os es old → (old.weight + (count - old.noted) < 2 ^ 128
    → strand_weight new ≡ goes_on (count - old.noted) (strand_weight old)) → new.noted ≡ count → TracksWeight burden os (es ++ fs) new
noted_weight burden os es fs old new count since fits h f m =
    let k = count - old.noted in
    let v = strand_weight old in
    let P : List Event → ℕ → Type 0 = λ x n. ShowsWeight burden os x (goes_on n v) in
    let K : KeptBy P = record {
      work = λ x n j s. let T : ℕ → Type 0 = λ y. ShowsWeight burden os (x ++ Work j ∷ []) (record { now = y; blocks = v.blocks }) in
          let e : (v.now + n) + j ≡ v.now + (n + j) = omega arith in subst T e (shows_work burden os x (goes_on n v) j s);
      join = λ x n e s. shows_unjoined burden os x (goes_on n v) e s;
    } in
    let zero_more : ShowsWeight burden os es (goes_on 0 v) = (let T : ℕ
    → Type 0 = λ y. ShowsWeight burden os es (record { now = y; blocks = v.blocks }) in let e : v.now ≡ v.now + 0 = omega arith in subst T e h.shows) in
    let first : 0 + k ≡ k = omega arith in
    let Q : ℕ → Type 0 = λ n. P (es ++ fs) n in
    let s = subst Q first (kept_since P K es fs 0 k since.instructions zero_more) in
    let w = weight_within burden os (es ++ fs) in
    let n = s.now_is in
    let D : StrandWeight → Type 0 = λ x. ShowsWeight burden os (es ++ fs) x in
    record {
      shows = subst D (sym (f (omega arith))) s;
      noted_is = let a = work_since os es fs k since.instructions in let b = h.noted_is in let d = since.goes_on in omega arith;
    }

pub late_waits : LatePathsWait
late_waits burden os es fs path count since fits h =
    let w = work_in os es in
    let l = h.late in let g = since.goes_on in
    let a = work_since os es fs (count - w) since.instructions in
    record {
      late = omega arith;
      tells = noted_weight burden os es fs (noted_at w path) (noted_at (work_in os (es ++ fs)) path) count since fits h.tells
          (λ small. ap (λ (x : ℕ). weighs x (reversed path.blocks.items [])) (omega arith)) (omega arith);
    }

pub late_noted : (old new : BurdenedPath) (count : ℕ) → HasGoneOn old new count → new.noted ≡ count → RecordsLate old new count
late_noted old new count gone n = λ burden os es fs since fits h.
    let w = work_in os es in
    let l = h.late in let g = since.goes_on in
    let a = work_since os es fs (count - w) since.instructions in
    let t = (late_waits burden os es fs old count since fits h).tells in
    let b = weight_within burden os (es ++ fs) in
    let s = t.shows.now_is in
    let c = gone (omega arith) (omega arith) in
    let f : strand_weight (noted_at (work_in os (es ++ fs)) old) ≡ goes_on (count - old.noted) (strand_weight old) = ap (λ (x : ℕ). weighs x (reversed old.blocks.items [])) (omega arith) in
    let D : StrandWeight → Type 0 = λ x. ShowsWeight burden os (es ++ fs) x in
    record { shows = subst D (f ∙ sym c) t.shows; noted_is = omega arith }

pub spawned_weight : (burden : Burden) (mark : Option Mark) (os : List Open) (es fs : List Event) (old mid new : BurdenedPath) (count : ℕ)
    (first : Bool) → Since old.noted count es fs → has_spawned es ≡ not first → TracksWeight burden os (es ++ fs) mid
    → strand_weight new ≡ spawns first (strand_weight mid) → new.noted ≡ mid.noted → TracksWeight burden (in_fork mark (es ++ fs) os) [] new
spawned_weight burden mark os es fs old mid new count first since e h f m =
    let n = has_spawned_since es fs (count - old.noted) since.instructions ∙ e in
    let D : StrandWeight → Type 0 = λ x. ShowsWeight burden (in_fork mark (es ++ fs) os) [] x in
    record {
      shows = subst D (sym f) (shows_spawned first burden mark os (es ++ fs) (strand_weight mid) n h.shows);
      noted_is = m ∙ h.noted_is ∙ sym (sum_begun work work_adds (record { spawned = true; mark = mark; outer = es ++ fs }) os);
    }

pub child_ended_weight : (burden : Burden) (o : Open) (os : List Open) (es fs : List Event) (old mid new : BurdenedPath) (count : ℕ)
    → Since old.noted count es fs → FitsRun burden (o ∷ os) (es ++ fs) → o.spawned ≡ true → has_spawned es ≡ false
    → TracksWeight burden (o ∷ os) (es ++ fs) mid → (Fits burden (strand_weight mid) → strand_weight new ≡ ends burden (strand_weight mid))
    → new.noted ≡ mid.noted → TracksWeight burden os (closed o (es ++ fs)) new
child_ended_weight burden o os es fs old mid new count since fits b e h f m =
    let n = has_spawned_since es fs (count - old.noted) since.instructions ∙ e in
    let D : StrandWeight → Type 0 = λ x. ShowsWeight burden os (closed o (es ++ fs)) x in
    record {
      shows = subst D (sym (f (fits_by o.spawned b fits h.shows n))) (shows_ended burden o os (es ++ fs) (strand_weight mid) b n h.shows);
      noted_is = m ∙ h.noted_is ∙ sym (left_work o os (es ++ fs));
    }
  where
    fits_by : (s : Bool) → s ≡ true → FitsRun burden (record { spawned = s; mark = o.mark; outer = o.outer } ∷ os) (es ++ fs)
        → ShowsWeight burden (record { spawned = s; mark = o.mark; outer = o.outer } ∷ os) (es ++ fs) (strand_weight mid)
        → has_spawned (es ++ fs) ≡ false → Fits burden (strand_weight mid)
    fits_by true b fits h n = child_fits burden o.mark o.outer os (es ++ fs) (strand_weight mid) n fits h
    fits_by false b fits h n = cc

pub joined_weight : (burden : Burden) (os : List Open) (es fs : List Event) (old mid new : BurdenedPath) (count : ℕ) → Since old.noted count es fs
    → has_spawned es ≡ true → TracksWeight burden os (es ++ fs) mid → strand_weight new ≡ joins (strand_weight mid) → new.noted ≡ mid.noted
    → TracksWeight burden os ((es ++ fs) ++ Join ∷ []) new
joined_weight burden os es fs old mid new count since e h f m =
    let n = has_spawned_since es fs (count - old.noted) since.instructions ∙ e in
    let D : StrandWeight → Type 0 = λ x. ShowsWeight burden os ((es ++ fs) ++ Join ∷ []) x in
    record {
      shows = subst D (sym f) (shows_joined burden os (es ++ fs) (strand_weight mid) n h.shows);
      noted_is = let a = work_more os (es ++ fs) Join in let b = h.noted_is in omega arith;
    }

pub weight_read : (burden : Burden) (es : List Event) (path : BurdenedPath) → has_spawned es ≡ false → TracksWeight burden [] es path → path.weight ≡ burdened_span burden (tree_of es)
weight_read burden es path e h =
    h.shows.now_is ∙ straight (block_weight burden [] es) (split-block burden [] es ∙ e) ∙ top-after_all burden 0 es ∙ omega arith

-- blocks in a vector, of which the last is changed
pub reversed-push : (fs : List BurdenedBlock) (f : BurdenedBlock) (ls : List BurdenedBlock) → reversed (fs ++ f ∷ []) ls ≡ f ∷ reversed fs ls
reversed-push [] f ls = refl
reversed-push (g ∷ fs) f ls = reversed-push fs f (g ∷ ls)

split_last : (xs : List BurdenedBlock) (i : ℕ) (d : BurdenedBlock) → suc i ≡ length xs → xs ≡ take i xs ++ get_or xs i d ∷ []
split_last [] i d h = absurd (omega arith)
split_last (x ∷ []) zero d h = refl
split_last (x ∷ []) (suc i) d h = absurd (omega arith)
split_last (x ∷ y ∷ xs) zero d h = absurd (omega arith)
split_last (x ∷ y ∷ xs) (suc i) d h = ap (λ (zs : List BurdenedBlock). x ∷ zs) (split_last (y ∷ xs) i d (omega arith))

set_last : (xs : List BurdenedBlock) (i : ℕ) (y : BurdenedBlock) → suc i ≡ length xs → set xs i y ≡ take i xs ++ y ∷ []
set_last [] i y h = absurd (omega arith)
set_last (x ∷ []) zero y h = refl
set_last (x ∷ []) (suc i) y h = absurd (omega arith)
set_last (x ∷ z ∷ xs) zero y h = absurd (omega arith)
set_last (x ∷ z ∷ xs) (suc i) y h = ap (λ (zs : List BurdenedBlock). x ∷ zs) (set_last (z ∷ xs) i y (omega arith))

pub reversed-last : (xs : List BurdenedBlock) (i : ℕ) (d : BurdenedBlock) → i + 1 ≡ length xs → reversed xs [] ≡ get_or xs i d ∷ reversed (take i xs) []
reversed-last xs i d h = ap (λ (x : List BurdenedBlock). reversed x []) (split_last xs i d (omega arith)) ∙ reversed-push (take i xs) (get_or xs i d) []

pub reversed-set : (xs : List BurdenedBlock) (i : ℕ) (y : BurdenedBlock) → i + 1 ≡ length xs → reversed (set xs i y) [] ≡ y ∷ reversed (take i xs) []
reversed-set xs i y h = ap (λ (x : List BurdenedBlock). reversed x []) (set_last xs i y (omega arith)) ∙ reversed-push (take i xs) y []
