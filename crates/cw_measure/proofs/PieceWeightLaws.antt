-- A piece that was executed separately joins as if its events had followed in the strand.
use Rattle.std.specs.Prelude.{◌≡◌, ℕ, ◌+◌, ◌<◌, ◌≤◌, ◌^◌, max, Bool, true, false, not, List, [], ◌∷◌, ◌++◌, refl}
use Rattle.std.proofs.Common.{sym, ◌∙◌, ap, subst, arith}
use Rattle.std.specs.Global.{Vec}
use Rattle.cw_model.specs.declared.burden.Burden.{Burden}
use Rattle.cw_model.specs.Burdens.{at_child, at_rest}
use Rattle.cw_model.specs.Trees.{Event, Work, Series, Fork, Join, burdened_span}
use Rattle.cw_measure.specs.declared.burdened_path.BurdenedBlock.{BurdenedBlock}
use Rattle.cw_measure.specs.declared.burdened_path.BurdenedPath.{BurdenedPath}
use Rattle.cw_measure.specs.OpenParts.{Open, has_spawned, no_joins}
use Rattle.cw_measure.specs.BlockWeights.{BlockWeight, Straight, Split, now_of, gone_on, child_ended, top_of, after_all, joined_on, enters, block_weight}
use Rattle.cw_measure.specs.StrandWeights.{StrandWeight, strand_weight, lengthened, appends_at, appends, longest_of, FitsPiece, reversed, IsStackedOn, Under, ShowsWeight, FitsRun, AppendsWeight}
use Rattle.cw_measure.specs.PathCalls.{AppendsWithin}
use Rattle.cw_measure.specs.lemmas.OpenParts.{work_append}
use Rattle.cw_measure.specs.lemmas.StrandWeights.{after_all-append, is_split, split-block, ShowsBlock, by_block, stands_gone_on, now_gone_on, burdened_append}
use Rattle.cw_measure.proofs.StrandWeightLaws.{weighs, top_in, weight_within}

same_split : (l l' n n' : ℕ) → l ≡ l' → n ≡ n' → Split l n ≡ Split l' n'
same_split l l' n n' e f = ap (λ (x : ℕ). Split x n) e ∙ ap (Split l') f

-- one more event in the piece: instructions, or the end of a child
joined_more : (k : ℕ) (L M : BlockWeight) → joined_on L (gone_on k M) ≡ gone_on k (joined_on L M)
joined_more k (Straight n) (Straight m) = ap Straight (omega arith)
joined_more k (Split j n) (Straight m) = ap (Split j) (omega arith)
joined_more k (Straight n) (Split l m) = ap (Split (n + l)) (omega arith)
joined_more k (Split j n) (Split l m) = ap (Split (max j (n + l))) (omega arith)

joined_forked : (burden : Burden) (c : ℕ) (L M : BlockWeight) → joined_on L (child_ended burden c M) ≡ child_ended burden c (joined_on L M)
joined_forked burden c (Straight n) (Straight m) = same_split (n + (m + (at_child burden + c))) ((n + m) + (at_child burden + c))
    (n + (m + at_rest burden)) ((n + m) + at_rest burden) (omega arith) (omega arith)
joined_forked burden c (Split j n) (Straight m) = same_split (max j (n + (m + (at_child burden + c)))) (max j ((n + m) + (at_child burden + c)))
    (n + (m + at_rest burden)) ((n + m) + at_rest burden) (omega arith) (omega arith)
joined_forked burden c (Straight n) (Split l m) = same_split (n + max l (m + (at_child burden + c))) (max (n + l) ((n + m) + (at_child burden + c)))
    (n + (m + at_rest burden)) ((n + m) + at_rest burden) (omega arith) (omega arith)
joined_forked burden c (Split j n) (Split l m) = same_split (max j (n + max l (m + (at_child burden + c))))
    (max (max j (n + l)) ((n + m) + (at_child burden + c))) (n + (m + at_rest burden)) ((n + m) + at_rest burden) (omega arith) (omega arith)

joined_nothing : (L : BlockWeight) → joined_on L (Straight 0) ≡ L
joined_nothing (Straight n) = ap Straight (omega arith)
joined_nothing (Split l n) = ap (Split l) (omega arith)

joined_all : (burden : Burden) (L M : BlockWeight) (fs : List Event) → no_joins fs ≡ true → joined_on L (after_all burden M fs) ≡ after_all burden (joined_on L M) fs
joined_all burden L M [] n = refl
joined_all burden L M (Work k ∷ fs) n = joined_all burden L (gone_on k M) fs n ∙ ap (λ (K : BlockWeight). after_all burden K fs) (joined_more k L M)
joined_all burden L M (Series t ∷ fs) n = joined_all burden L (gone_on (burdened_span burden t) M) fs n ∙ ap (λ (K : BlockWeight). after_all burden K fs) (joined_more (burdened_span burden t) L M)
joined_all burden L M (Fork t ∷ fs) n = joined_all burden L (child_ended burden (burdened_span burden t) M) fs n
    ∙ ap (λ (K : BlockWeight). after_all burden K fs) (joined_forked burden (burdened_span burden t) L M)
joined_all burden L M (Join ∷ fs) n = cc

-- the law of pieces
pub piece_joined : (burden : Burden) (L : BlockWeight) (fs : List Event) → no_joins fs ≡ true → joined_on L (after_all burden (Straight 0) fs) ≡ after_all burden L fs
piece_joined burden L fs n = joined_all burden L (Straight 0) fs n ∙ ap (λ (K : BlockWeight). after_all burden K fs) (joined_nothing L)

block_append : (burden : Burden) (os : List Open) (es fs : List Event) → block_weight burden os (es ++ fs) ≡ after_all burden (block_weight burden os es) fs
block_append burden [] es fs = after_all-append burden (Straight 0) es fs
block_append burden (o ∷ os) es fs = after_all-append burden (enters o.spawned (block_weight burden os o.outer)) es fs

-- the paths of a strand represent the run with the piece
abbrev is_none : List BurdenedBlock → Type 0
is_none bs = bs ≡ []

lengthened_at : (below : List BurdenedBlock → Type 0) (first : Bool) (L : BlockWeight) (l m n : ℕ) (bs : List BurdenedBlock) → is_split L ≡ not first
    → n ≡ now_of L → IsStackedOn below L bs → ShowsBlock below (joined_on L (Split l m)) (record { now = n + m; blocks = lengthened first (n + l) n bs })
lengthened_at below true (Straight k) l m n bs s e h = record { now_is = ap (λ (x : ℕ). x + m) e; blocks_are = (ap (λ (x : ℕ). x + l) e, h) }
lengthened_at below true (Split j k) l m n bs s e h = cc
lengthened_at below false (Straight k) l m n bs s e h = cc
lengthened_at below false (Split j k) l m n [] s e h = absurd h
lengthened_at below false (Split j k) l m n (b ∷ bs) s e h = let a = h.0 in record { now_is = ap (λ (x : ℕ). x + m) e; blocks_are = (omega arith, h.1) }

appended_at : (below : List BurdenedBlock → Type 0) (first : Bool) (L M : BlockWeight) (m : ℕ) (ps : List BurdenedBlock) (v : StrandWeight)
    → is_split L ≡ not first → ShowsBlock below L v → m ≡ now_of M → IsStackedOn is_none M ps → ShowsBlock below (joined_on L M) (appends_at first m ps v)
appended_at below first L (Straight k) m [] v s h e g =
    let a = h.now_is in let b = now_gone_on k L in
    record { now_is = omega arith; blocks_are = stands_gone_on below k L v.blocks h.blocks_are }
appended_at below first L (Straight k) m (p ∷ ps) v s h e g = cc
appended_at below first L (Split l k) m [] v s h e g = absurd g
appended_at below first L (Split l k) m (p ∷ ps) v s h e g =
    let N : ℕ → Type 0 = λ x. ShowsBlock below (joined_on L (Split l k)) (record { now = v.now + x; blocks = lengthened first (v.now + p.longest) v.now v.blocks }) in
    let P : ℕ → Type 0 = λ x. ShowsBlock below (joined_on L (Split l k)) (record { now = v.now + k; blocks = lengthened first (v.now + x) v.now v.blocks }) in
    subst N (sym e) (subst P (sym g.0) (lengthened_at below first L l k v.now v.blocks s h.now_is h.blocks_are))

shows_piece : (burden : Burden) (os : List Open) (es fs : List Event) (u v : StrandWeight) (first : Bool) → has_spawned es ≡ not first
    → no_joins fs ≡ true → ShowsWeight burden os es v → ShowsWeight burden [] fs u → ShowsWeight burden os (es ++ fs) (appends first u v)
shows_piece burden os es fs u v first s n h g =
    let L = block_weight burden os es in
    by_block burden os (es ++ fs) (joined_on L (after_all burden (Straight 0) fs)) (appends first u v)
    (block_append burden os es fs ∙ sym (piece_joined burden L fs n))
    (appended_at (Under burden os) first L (after_all burden (Straight 0) fs) u.now u.blocks v (split-block burden os es ∙ s)
    (record { now_is = h.now_is; blocks_are = h.blocks_are }) g.now_is g.blocks_are)

-- the paths of the piece fit
longest_top : (L : BlockWeight) (bs : List BurdenedBlock) → IsStackedOn is_none L bs → longest_of bs ≤ top_of L
longest_top (Straight n) [] h = omega arith
longest_top (Straight n) (b ∷ bs) h = cc
longest_top (Split l n) [] h = absurd h
longest_top (Split l n) (b ∷ bs) h = let a = h.0 in omega arith

fits_piece : (burden : Burden) (os : List Open) (es fs : List Event) (u v : StrandWeight) → FitsRun burden os (es ++ fs) → ShowsWeight burden os es v → ShowsWeight burden [] fs u → FitsPiece u v
fits_piece burden os es fs u v fits h g =
    let a = weight_within burden os es in let b = weight_within burden [] fs in let c = top_in burden [] fs in
    let d = longest_top (block_weight burden [] fs) u.blocks g.blocks_are in
    let s = burdened_append burden os es fs in
    let n = h.now_is in let m = g.now_is in (omega arith, omega arith)

pub appended_weight : (old piece new : BurdenedPath) (first : Bool) → AppendsWithin old piece new first
    → (old.noted + piece.noted < 2 ^ 64 → new.noted ≡ old.noted + piece.noted) → AppendsWeight old piece new first
appended_weight old piece new first f m = λ burden os es fs s n small fits h g.
    let v = strand_weight old in let u = strand_weight piece in
    let D : StrandWeight → Type 0 = λ x. ShowsWeight burden os (es ++ fs) x in
    record {
      shows = subst D (sym (f (fits_piece burden os es fs u v fits h.shows g.shows))) (shows_piece burden os es fs u v first s n h.shows g.shows);
      noted_is = let a = work_append os es fs in let b = h.noted_is in let c = g.noted_is in let d = m (omega arith) in omega arith;
    }

-- the effect of the code
pub paths_appended : (first : Bool) (old mid piece new : BurdenedPath) (longest : ℕ) (b : BurdenedBlock) (rest : List BurdenedBlock)
    → reversed piece.blocks.items [] ≡ b ∷ rest → strand_weight mid ≡ record
    { now = old.weight; blocks = lengthened first longest old.weight (strand_weight old).blocks }
    → (old.weight + b.longest < 2 ^ 128 → longest ≡ old.weight + b.longest)
    → (mid.weight + piece.weight < 2 ^ 128 → new.weight ≡ mid.weight + piece.weight) → new.blocks ≡ mid.blocks → AppendsWithin old piece new first
paths_appended first old mid piece new longest b rest top w l n same = λ fits.
    let f0 = fits.0 in let f1 = fits.1 in
    let at = ap longest_of top in
    let here : mid.weight ≡ old.weight = ap (λ (x : StrandWeight). x.now) w in
    let more = n (omega arith) in
    let weight : new.weight ≡ old.weight + piece.weight = omega arith in
    let blocks = ap (λ (x : List BurdenedBlock). reversed x []) (ap (λ (x : Vec BurdenedBlock). x.items) same)
    ∙ ap (λ (x : StrandWeight). x.blocks) w ∙ ap (λ (x : ℕ). lengthened first x old.weight (strand_weight old).blocks) (l (omega arith)) in
    let P : List BurdenedBlock → Type 0 = λ x. strand_weight new ≡ appends_at first piece.weight x (strand_weight old) in
    subst P (sym top) (ap (λ (x : ℕ). weighs x (reversed new.blocks.items [])) weight ∙ ap (weighs (old.weight + piece.weight)) blocks)
