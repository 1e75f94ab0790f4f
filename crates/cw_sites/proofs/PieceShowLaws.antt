-- The paths of a strand represent a run so far after a separately executed piece was joined.
use Rattle.std.specs.Prelude.{◌≡◌, ℕ, Bool, true, false, ◌||◌, not, List, [], ◌∷◌, ◌++◌, Option, Some, None, refl}
use Rattle.std.proofs.Common.{sym, ◌∙◌, subst}
use Rattle.cw_model.specs.Trees.{Event}
use Rattle.cw_measure.specs.OpenParts.{Open, has_spawned}
use Rattle.cw_sites.specs.ChosenPaths.{Path, nowhere}
use Rattle.cw_sites.specs.BlockPaths.{BlockPath, Straight, Split, now_of, extended, child_ended, after_all, joined_on}
use Rattle.cw_measure.specs.OpenParts.{no_joins}
use Rattle.cw_sites.specs.StrandPaths.{SeenBlock, StrandPath, begins, ends, extends_by, forks, appends_block, appends_at, appends}
use Rattle.cw_sites.specs.OpenPaths.{here_in, enters, block_path, IsStackedOn, Under, Shows, is_split}
use Rattle.cw_sites.specs.lemmas.ChosenPaths.{plus-nowhere_first}
use Rattle.cw_sites.proofs.PieceLaws.{extended_twice, piece_joined}
use Rattle.cw_sites.specs.lemmas.OpenPaths.{ShowsLocal, after_all-append, split-block_path, extends, begins_split, again_at, ends_places}

split_extended : (p : Path) (L : BlockPath) → is_split (extended p L) ≡ is_split L
split_extended p (Straight n) = refl
split_extended p (Split b l n) = refl

-- a spawned child begins and ends
forked_at : (below : List SeenBlock → Type 0) (first : Bool) (c : Path) (L : BlockPath) (t : StrandPath) → is_split L ≡ not first
    → ShowsLocal below L t → ShowsLocal below (child_ended c L) (forks first c t)
forked_at below true c L t s h =
    let P : Path → Type 0 = λ x. ShowsLocal below (child_ended c L) (ends (record { now = x; blocks = (begins t).blocks })) in
    subst P (sym (plus-nowhere_first c)) (ends_places below L c (begins t).blocks (begins_split below L t s h))
forked_at below false c L t s h = at below c L t.now t.blocks s h.now_is h.blocks_are
  where
    at : (below : List SeenBlock → Type 0) (c : Path) (L : BlockPath) (n : Path) (ps : List SeenBlock) → is_split L ≡ true → n ≡ now_of L
        → IsStackedOn below L ps → ShowsLocal below (child_ended c L) (forks false c (record { now = n; blocks = ps }))
    at below c (Straight m) n ps s e k = cc
    at below c (Split b l m) n [] s e k = absurd k
    at below c (Split b l m) n (p ∷ ps) s e k =
        let r = again_at below (Split b l m) n (p ∷ ps) s e k in
        let P : Path → Type 0 = λ x. ShowsLocal below (child_ended c (Split b l m)) (ends (record { now = x; blocks = record { base = p.base; longest = p.longest; rest = n } ∷ ps })) in
        subst P (sym (plus-nowhere_first c)) (ends_places below (Split b l m) c (record { base = p.base; longest = p.longest; rest = n } ∷ ps) r)

-- the paths of a piece's block
abbrev is_none : List SeenBlock → Type 0
is_none ps = ps ≡ []

appended_block : (below : List SeenBlock → Type 0) (first : Bool) (L : BlockPath) (b : Path) (l : Option Path) (n : Path) (t : StrandPath)
    → is_split L ≡ not first → ShowsLocal below L t → ShowsLocal below (joined_on L (Split b l n)) (appends_block first b l n t)
appended_block below first L b None n t s h =
    let P : BlockPath → Type 0 = λ K. ShowsLocal below K (extends_by n (extends_by b t)) in
    subst P (sym (extended_twice b n L)) (extends below n (extended b L) (extends_by b t) (extends below b L t h))
appended_block below first L b (Some c) n t s h =
    extends below n (child_ended c (extended b L)) (forks first c (extends_by b t))
    (forked_at below first c (extended b L) (extends_by b t) (split_extended b L ∙ s) (extends below b L t h))

appended_at : (below : List SeenBlock → Type 0) (first : Bool) (L M : BlockPath) (n : Path) (ps : List SeenBlock) (t : StrandPath)
    → is_split L ≡ not first → ShowsLocal below L t → n ≡ now_of M → IsStackedOn is_none M ps → ShowsLocal below (joined_on L M) (appends_at first n ps t)
appended_at below first L (Straight m) n [] t s h e g =
    let P : Path → Type 0 = λ x. ShowsLocal below (extended m L) (extends_by x t) in subst P (sym e) (extends below m L t h)
appended_at below first L (Straight m) n (p ∷ ps) t s h e g = cc
appended_at below first L (Split b l m) n [] t s h e g = absurd g
appended_at below first L (Split b l m) n (p ∷ ps) t s h e g =
    let K = joined_on L (Split b l m) in
    let B : Path → Type 0 = λ x. ShowsLocal below K (appends_block first x p.longest n t) in
    let O : Option Path → Type 0 = λ x. ShowsLocal below K (appends_block first b x n t) in
    let N : Path → Type 0 = λ x. ShowsLocal below K (appends_block first b l x t) in
    subst B (sym g.0) (subst O (sym g.1) (subst N (sym e) (appended_block below first L b l m t s h)))

block_append : (site base : ℕ) (os : List Open) (es fs : List Event) → block_path site base os (es ++ fs) ≡ after_all site (here_in base os) (block_path site base os es) fs
block_append site base [] es fs = after_all-append site base (Straight nowhere) es fs
block_append site base (o ∷ os) es fs = after_all-append site (here_in base (o ∷ os)) (enters o.spawned (block_path site base os o.outer)) es fs

-- a piece that was executed separately continues the current block
pub shows_piece : (site base : ℕ) (os : List Open) (es fs : List Event) (t u : StrandPath) (first : Bool) → has_spawned es ≡ not first
    → (first || no_joins fs) ≡ true → Shows site base os es t → Shows site (here_in base os) [] fs u → Shows site base os (es ++ fs) (appends first u t)
shows_piece site base os es fs t u first s n h g =
    let L = block_path site base os es in
    let here = here_in base os in
    let split = split-block_path site base os es ∙ s in
    let w = appended_at (Under site base os) first L (after_all site here (Straight nowhere) fs) u.now u.blocks t split
    (record { now_is = h.now_is; blocks_are = h.blocks_are }) g.now_is g.blocks_are in
    let P : BlockPath → Type 0 = λ K. ShowsLocal (Under site base os) K (appends first u t) in
    let k = subst P (piece_joined site here first L fs split n ∙ sym (block_append site base os es fs)) w in
    record { now_is = k.now_is; blocks_are = k.blocks_are }
