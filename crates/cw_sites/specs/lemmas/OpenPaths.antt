-- Lemmas about the path of a run so far.
use Rattle.std.specs.Prelude.{◌≡◌, ℕ, ◌+◌, nat_lt, Bool, true, false, List, [], ◌∷◌, ◌++◌, Option, Some, None, refl}
use Rattle.std.proofs.Common.{sym, ◌∙◌, ap, subst}
use Rattle.cw_model.specs.Trees.{Mark, Tree, Event, Work, Series, Fork, Join, tree_of}
use Rattle.cw_measure.specs.OpenParts.{Open, marked, closed, spawned_after, has_spawned_from, has_spawned}
use Rattle.cw_sites.specs.ChosenPaths.{Path, nowhere, plus, best, steps_of, chosen}
use Rattle.cw_sites.specs.BlockPaths.{BlockPath, Straight, Split, now_of, extended, longest_of, child_ended, finished}
use Rattle.cw_sites.specs.BlockPaths.{joins as joined, after, after_all}
use Rattle.cw_sites.specs.StrandPaths.{SeenBlock, StrandPath, begins, again, chooses, ends_at, ends, joins}
use Rattle.cw_sites.specs.OpenPaths.{inside, here_in, enters, block_path, IsStackedOn, RestsOn, Under, Shows, is_split}
use Rattle.cw_sites.specs.lemmas.ChosenPaths.{plus-nowhere_first, plus-nowhere_last}
use Rattle.cw_sites.specs.lemmas.BlockPaths.{finished-after_all}

pub after_all-append : (site here : ℕ) (L : BlockPath) (es fs : List Event)
    → after_all site here L (es ++ fs) ≡ after_all site here (after_all site here L es) fs
after_all-append site here L [] fs = refl
after_all-append site here L (e ∷ es) fs = after_all-append site here (after site here L e) es fs

-- one more event in the current block
pub block_more : (site base : ℕ) (os : List Open) (es : List Event) (e : Event)
    → block_path site base os (es ++ e ∷ []) ≡ after site (here_in base os) (block_path site base os es) e
block_more site base [] es e = after_all-append site base (Straight nowhere) es (e ∷ [])
block_more site base (o ∷ os) es e =
    after_all-append site (here_in base (o ∷ os)) (enters o.spawned (block_path site base os o.outer)) es (e ∷ [])

-- the events of a block determine whether it is split
split_after : (site here : ℕ) (L : BlockPath) (e : Event)
    → is_split (after site here L e) ≡ spawned_after (is_split L) e
split_after site here (Straight n) (Work k) = refl
split_after site here (Split b l n) (Work k) = refl
split_after site here (Straight n) (Series t) = refl
split_after site here (Split b l n) (Series t) = refl
split_after site here (Straight n) (Fork t) = refl
split_after site here (Split b None n) (Fork t) = refl
split_after site here (Split b (Some l) n) (Fork t) =
    split_choice (nat_lt l.weight (n.weight + (chosen site here t).weight)) b l n (chosen site here t)
  where
    split_choice : (x : Bool) (b l n c : Path) → is_split (longest_of x b l n c) ≡ true
    split_choice true b l n c = refl
    split_choice false b l n c = refl
split_after site here L Join = refl

pub split_all : (site here : ℕ) (L : BlockPath) (es : List Event)
    → is_split (after_all site here L es) ≡ has_spawned_from (is_split L) es
split_all site here L [] = refl
split_all site here L (e ∷ es) =
    split_all site here (after site here L e) es ∙ ap (λ (b : Bool). has_spawned_from b es) (split_after site here L e)

split_entered : (site here : ℕ) (spawned : Bool) (L : BlockPath) (es : List Event)
    → is_split (after_all site here (enters spawned L) es) ≡ has_spawned es
split_entered site here true L es = split_all site here (Straight nowhere) es
split_entered site here false L es = split_all site here (Straight (now_of L)) es

pub split-block_path : (site base : ℕ) (os : List Open) (es : List Event)
    → is_split (block_path site base os es) ≡ has_spawned es
split-block_path site base [] es = split_all site base (Straight nowhere) es
split-block_path site base (o ∷ os) es =
    split_entered site (here_in base (o ∷ os)) o.spawned (block_path site base os o.outer) es

-- the paths of a strand represent a block, with the block as a variable
pub record ShowsLocal (below : List SeenBlock → Type 0) (L : BlockPath) (t : StrandPath) : Type 0 where
  pub now_is : t.now ≡ now_of L
  pub blocks_are : IsStackedOn below L t.blocks

stands_extended : (below : List SeenBlock → Type 0) (p : Path) (L : BlockPath) (ps : List SeenBlock)
    → IsStackedOn below L ps → IsStackedOn below (extended p L) ps
stands_extended below p (Straight n) ps h = h
stands_extended below p (Split b l n) [] h = absurd h
stands_extended below p (Split b l n) (q ∷ ps) h = h

now_extended : (p : Path) (L : BlockPath) → now_of (extended p L) ≡ plus (now_of L) p
now_extended p (Straight n) = refl
now_extended p (Split b l n) = refl

pub extends : (below : List SeenBlock → Type 0) (p : Path) (L : BlockPath) (t : StrandPath) → ShowsLocal below L t
    → ShowsLocal below (extended p L) (record { now = plus t.now p; blocks = t.blocks })
extends below p L t h =
    record {
      now_is = ap (λ (x : Path). plus x p) h.now_is ∙ sym (now_extended p L);
      blocks_are = stands_extended below p L t.blocks h.blocks_are;
    }

-- the current block continues with instructions
pub shows_work : (site base : ℕ) (os : List Open) (es : List Event) (t : StrandPath) (k : ℕ) → Shows site base os es t
    → Shows site base os (es ++ Work k ∷ [])
    (record { now = plus t.now (steps_of site (here_in base os) k); blocks = t.blocks })
shows_work site base os es t k h =
    let w =
    extends (Under site base os) (steps_of site (here_in base os) k) (block_path site base os es) t
    (record { now_is = h.now_is; blocks_are = h.blocks_are }) in
    let P : BlockPath → Type 0 =
    λ L. ShowsLocal (Under site base os) L
    (record { now = plus t.now (steps_of site (here_in base os) k); blocks = t.blocks }) in
    let s = subst P (sym (block_more site base os es (Work k))) w in
    record { now_is = s.now_is; blocks_are = s.blocks_are }

-- a call, a scope or a region begins
pub shows_entered : (site base : ℕ) (os : List Open) (es : List Event) (t : StrandPath) (mark : Option Mark)
    → Shows site base os es t → Shows site base (record { spawned = false; mark = mark; outer = es } ∷ os) [] t
shows_entered site base os es t mark h = record { now_is = h.now_is; blocks_are = h.blocks_are }

-- a spawned call begins
pub begins_split : (below : List SeenBlock → Type 0) (L : BlockPath) (t : StrandPath) → is_split L ≡ false
    → ShowsLocal below L t → RestsOn below L (begins t).blocks
begins_split below (Straight n) t e h = (h.now_is, refl, refl, h.blocks_are)
begins_split below (Split b l n) t e h = cc

pub shows_spawned : (site base : ℕ) (os : List Open) (es : List Event) (t : StrandPath) (mark : Option Mark)
    → has_spawned es ≡ false → Shows site base os es t
    → Shows site base (record { spawned = true; mark = mark; outer = es } ∷ os) [] (begins t)
shows_spawned site base os es t mark e h = record {
  now_is = refl;
  blocks_are =
      begins_split (Under site base os) (block_path site base os es) t (split-block_path site base os es ∙ e)
      (record { now_is = h.now_is; blocks_are = h.blocks_are });
}

pub again_at : (below : List SeenBlock → Type 0) (L : BlockPath) (n : Path) (ps : List SeenBlock) → is_split L ≡ true
    → n ≡ now_of L → IsStackedOn below L ps → RestsOn below L (again (record { now = n; blocks = ps })).blocks
again_at below (Straight m) n ps e f h = cc
again_at below (Split b l m) n [] e f h = absurd h
again_at below (Split b l m) n (p ∷ ps) e f h = (h.0, h.1, f, h.3)

pub shows_spawned_again : (site base : ℕ) (os : List Open) (es : List Event) (t : StrandPath) (mark : Option Mark)
    → has_spawned es ≡ true → Shows site base os es t
    → Shows site base (record { spawned = true; mark = mark; outer = es } ∷ os) [] (again t)
shows_spawned_again site base os es t mark e h = record {
  now_is = refl;
  blocks_are =
      again_at (Under site base os) (block_path site base os es) t.now t.blocks (split-block_path site base os es ∙ e)
      h.now_is h.blocks_are;
}

-- a join
joins_at : (below : List SeenBlock → Type 0) (L : BlockPath) (n : Path) (ps : List SeenBlock) → is_split L ≡ true
    → n ≡ now_of L → IsStackedOn below L ps → ShowsLocal below (joined L) (joins (record { now = n; blocks = ps }))
joins_at below (Straight m) n ps e f h = cc
joins_at below (Split b l m) n [] e f h = absurd h
joins_at below (Split b l m) n (p ∷ ps) e f h =
    let g : plus p.base (best p.longest n) ≡ plus b (best l m) =
    ap (λ (x : Path). plus x (best p.longest n)) h.0 ∙ ap (λ (x : Option Path). plus b (best x n)) h.1 ∙ ap
    (λ (x : Path). plus b (best l x)) f in
    record { now_is = g; blocks_are = h.3 }

pub shows_joined : (site base : ℕ) (os : List Open) (es : List Event) (t : StrandPath) → has_spawned es ≡ true
    → Shows site base os es t → Shows site base os (es ++ Join ∷ []) (joins t)
shows_joined site base os es t e h =
    let w =
    joins_at (Under site base os) (block_path site base os es) t.now t.blocks (split-block_path site base os es ∙ e)
    h.now_is h.blocks_are in
    let P : BlockPath → Type 0 = λ L. ShowsLocal (Under site base os) L (joins t) in
    let s = subst P (sym (block_more site base os es Join)) w in
    record { now_is = s.now_is; blocks_are = s.blocks_are }

stays_at : (below : List SeenBlock → Type 0) (L : BlockPath) (t : StrandPath) → is_split L ≡ false
    → ShowsLocal below L t → ShowsLocal below (joined L) t
stays_at below (Straight n) t e h = record { now_is = h.now_is; blocks_are = h.blocks_are }
stays_at below (Split b l n) t e h = cc

-- a join of a block that has spawned nothing
pub shows_unjoined : (site base : ℕ) (os : List Open) (es : List Event) (t : StrandPath) → has_spawned es ≡ false
    → Shows site base os es t → Shows site base os (es ++ Join ∷ []) t
shows_unjoined site base os es t e h =
    let w =
    stays_at (Under site base os) (block_path site base os es) t (split-block_path site base os es ∙ e)
    (record { now_is = h.now_is; blocks_are = h.blocks_are }) in
    let P : BlockPath → Type 0 = λ L. ShowsLocal (Under site base os) L t in
    let s = subst P (sym (block_more site base os es Join)) w in
    record { now_is = s.now_is; blocks_are = s.blocks_are }

-- the paths of a block that has spawned nothing since its last join are one path
pub straight : (L : BlockPath) → is_split L ≡ false → L ≡ Straight (finished L)
straight (Straight n) e = refl
straight (Split b l n) e = cc

pub chosen_inside : (site here : ℕ) (mark : Option Mark) (t : Tree)
    → chosen site here (marked mark t) ≡ chosen site (inside mark here) t
chosen_inside site here None t = refl
chosen_inside site here (Some m) t = refl

-- the path at the end of a part, relative to the path at its start
pub ended_path : (site base : ℕ) (o : Open) (os : List Open) (es : List Event) (before : Path)
    → enters o.spawned (block_path site base os o.outer) ≡ Straight before → has_spawned es ≡ false
    → block_path site base (o ∷ os) es
    ≡ Straight (plus before (chosen site (here_in base os) (marked o.mark (tree_of es))))
ended_path site base o os es before e f =
    straight (block_path site base (o ∷ os) es) (split-block_path site base (o ∷ os) es ∙ f)
    ∙ ap (λ (L : BlockPath). Straight (finished (after_all site (here_in base (o ∷ os)) L es))) e
    ∙ ap Straight (finished-after_all site (here_in base (o ∷ os)) before es)
    ∙ ap (λ (p : Path). Straight (plus before p)) (sym (chosen_inside site (here_in base os) o.mark (tree_of es)))

left_at : (below : List SeenBlock → Type 0) (L : BlockPath) (c : Path) (t : StrandPath)
    → ShowsLocal (IsStackedOn below L) (Straight (plus (now_of L) c)) t → ShowsLocal below (extended c L) t
left_at below L c t h =
    record { now_is = h.now_is ∙ sym (now_extended c L); blocks_are = stands_extended below c L t.blocks h.blocks_are }

-- a call, a scope or a region ends
pub shows_left : (site base : ℕ) (mark : Option Mark) (outer : List Event) (os : List Open) (es : List Event)
    (t : StrandPath) → has_spawned es ≡ false
    → Shows site base (record { spawned = false; mark = mark; outer = outer } ∷ os) es t
    → Shows site base os (closed (record { spawned = false; mark = mark; outer = outer }) es) t
shows_left site base mark outer os es t e h =
    let o : Open = record { spawned = false; mark = mark; outer = outer } in
    let c = chosen site (here_in base os) (marked mark (tree_of es)) in
    let L = block_path site base os outer in
    let P : BlockPath → Type 0 = λ K. ShowsLocal (IsStackedOn (Under site base os) L) K t in
    let k =
    subst P (ended_path site base o os es (now_of L) refl e)
    (record { now_is = h.now_is; blocks_are = h.blocks_are }) in
    let Q : BlockPath → Type 0 = λ K. ShowsLocal (Under site base os) K t in
    let s =
    subst Q (sym (block_more site base os outer (Series (marked mark (tree_of es)))))
    (left_at (Under site base os) L c t k) in
    record { now_is = s.now_is; blocks_are = s.blocks_are }

ends_choice : (below : List SeenBlock → Type 0) (x : Bool) (b l n c : Path) (ps : List SeenBlock) → below ps
    → ShowsLocal below (longest_of x b l n c) (chooses x b l n c ps)
ends_choice below true b l n c ps h = record { now_is = refl; blocks_are = (refl, refl, refl, h) }
ends_choice below false b l n c ps h = record { now_is = refl; blocks_are = (refl, refl, refl, h) }

pub ends_places : (below : List SeenBlock → Type 0) (L : BlockPath) (c : Path) (ps : List SeenBlock)
    → RestsOn below L ps → ShowsLocal below (child_ended c L) (ends (record { now = c; blocks = ps }))
ends_places below L c [] h = absurd h
ends_places below (Straight n) c (p ∷ ps) h =
    let P : Option Path → Type 0 = λ x. ShowsLocal below (child_ended c (Straight n)) (ends_at p.base x p.rest c ps) in
    let b : plus p.base p.rest ≡ n = ap (λ (x : Path). plus x p.rest) h.0 ∙ ap (plus n) h.2 ∙ plus-nowhere_last n in
    subst P (sym h.1) (record { now_is = refl; blocks_are = (b, refl, refl, h.3) })
ends_places below (Split b None n) c (p ∷ ps) h =
    let P : Option Path → Type 0 =
    λ x. ShowsLocal below (child_ended c (Split b None n)) (ends_at p.base x p.rest c ps) in
    let e : plus p.base p.rest ≡ plus b n = ap (λ (x : Path). plus x p.rest) h.0 ∙ ap (plus b) h.2 in
    subst P (sym h.1) (record { now_is = refl; blocks_are = (e, refl, refl, h.3) })
ends_places below (Split b (Some l) n) c (p ∷ ps) h =
    let P : Option Path → Type 0 =
    λ x. ShowsLocal below (child_ended c (Split b (Some l) n)) (ends_at p.base x p.rest c ps) in
    let Q : Path → Type 0 =
    λ x. ShowsLocal below (child_ended c (Split b (Some l) n)) (ends_at x (Some l) p.rest c ps) in
    let R : Path → Type 0 = λ x. ShowsLocal below (child_ended c (Split b (Some l) n)) (ends_at b (Some l) x c ps) in
    subst P (sym h.1) (subst Q (sym h.0)
    (subst R (sym h.2) (ends_choice below (nat_lt l.weight (n.weight + c.weight)) b l n c ps h.3)))

-- a spawned call ends
pub shows_ended : (site base : ℕ) (mark : Option Mark) (outer : List Event) (os : List Open) (es : List Event)
    (t : StrandPath) → has_spawned es ≡ false
    → Shows site base (record { spawned = true; mark = mark; outer = outer } ∷ os) es t
    → Shows site base os (closed (record { spawned = true; mark = mark; outer = outer }) es) (ends t)
shows_ended site base mark outer os es t e h =
    let o : Open = record { spawned = true; mark = mark; outer = outer } in
    let c = chosen site (here_in base os) (marked mark (tree_of es)) in
    let L = block_path site base os outer in
    let P : BlockPath → Type 0 = λ K. ShowsLocal (RestsOn (Under site base os) L) K t in
    let k =
    subst P (ended_path site base o os es nowhere refl e) (record { now_is = h.now_is; blocks_are = h.blocks_are })
    in
    let n : t.now ≡ c = k.now_is ∙ plus-nowhere_first c in
    let f = ends_places (Under site base os) L c t.blocks k.blocks_are in
    let R : Path → Type 0 =
    λ x. ShowsLocal (Under site base os) (child_ended c L) (ends (record { now = x; blocks = t.blocks })) in
    let g = subst R (sym n) f in
    let Q : BlockPath → Type 0 = λ K. ShowsLocal (Under site base os) K (ends t) in
    let s = subst Q (sym (block_more site base os outer (Fork (marked mark (tree_of es))))) g in
    record { now_is = s.now_is; blocks_are = s.blocks_are }

-- if no part is open and the block has joined, the path is the chosen path
pub shows_all : (site base : ℕ) (es : List Event) (t : StrandPath) → has_spawned es ≡ false → Shows site base [] es t
    → t.now ≡ chosen site base (tree_of es)
shows_all site base es t e h =
    let P : BlockPath → Type 0 = λ K. t.now ≡ now_of K in
    subst P (straight (block_path site base [] es) (split-block_path site base [] es ∙ e)) h.now_is
    ∙ finished-after_all site base nowhere es
    ∙ plus-nowhere_first (chosen site base (tree_of es))
