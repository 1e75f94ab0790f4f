-- The codes of normal forms.
use Rattle.std.specs.Prelude.{ℕ, zero, suc, ◌+◌, ◌≡◌, Bool, true, false, Option, Some, None, List, [], ◌∷◌, ◌++◌, refl}
use Rattle.std.proofs.Common.{arith, ap, sym, ◌∙◌, subst}
use Rattle.std.proofs.lemmas.List.{append_assoc}
use Rattle.cw_model.specs.Trees.{Tree, Leaf, Seq, Par, Marked, Mark, Invocation, Execution, Event, Work, Series, Join, leaf_before, part_before, before, normal, parts_of, tree_of}
use Rattle.cw_model.specs.Trees as e
use Rattle.cw_measure.specs.OpenParts.{Open, marked, part_of, closed}
use Rattle.cw_greedy.specs.Runs.{ticked, synced}
use Rattle.cw_greedy.specs.declared.code.Code.{Code}
use Rattle.cw_greedy.specs.declared.code.Code.TheVariants.{Instructions, Spawned, Ended, Joined, Called}
use Rattle.cw_greedy.specs.Records.{instructions_before}
use Rattle.cw_greedy.specs.Blocks.{Position, InSeries, AsChild, AsRest, last_position, call_codes, fork_codes, codes_of}
use Rattle.cw_greedy.specs.Merging.{onto, Same}
use Rattle.cw_greedy.specs.Normal.{stands, IsMore, Enough, Holds, IsApart, IsFollowed, MayPrecede, IsChild, AreInNormalForm}
use Rattle.cw_greedy.proofs.Merged.{instructions_twice, same_after, same_before, same_both, nothing_behind}

stays : (rest : Bool) → last_position (stands rest) ≡ stands rest
stays true = refl
stays false = refl

-- the last part of a series has the position of the series
in_series : (rest : Bool) (t later : Tree) → Same (codes_of (stands rest) (Seq t later)) (codes_of InSeries t ++ codes_of (stands rest) later)
in_series rest t later = λ l. ap (λ (at : Position). onto (codes_of InSeries t ++ codes_of at later) l) (stays rest)

leaf_holds : (rest : Bool) (k : ℕ) (later : Tree) → Same (codes_of (stands rest) (leaf_before k later)) (Instructions k ∷ codes_of (stands rest) later)
leaf_holds rest zero later = λ l. refl
leaf_holds rest (suc k) (Leaf j) = λ l. sym (instructions_twice (suc k) j l)
leaf_holds rest (suc k) (Seq (Leaf j) t) = λ l. sym (instructions_twice (suc k) j (onto (codes_of (last_position (stands rest)) t) l))
leaf_holds rest (suc k) (Seq (Seq a b) t) = in_series rest (Leaf (suc k)) (Seq (Seq a b) t)
leaf_holds rest (suc k) (Seq (Par a b) t) = in_series rest (Leaf (suc k)) (Seq (Par a b) t)
leaf_holds rest (suc k) (Seq (Marked m a) t) = in_series rest (Leaf (suc k)) (Seq (Marked m a) t)
leaf_holds rest (suc k) (Par a b) = in_series rest (Leaf (suc k)) (Par a b)
leaf_holds rest (suc k) (Marked m a) = in_series rest (Leaf (suc k)) (Marked m a)

leaf_more : (k : ℕ) (later : Tree) → IsMore (leaf_before (suc k) later)
leaf_more k (Leaf j) = let e : suc (k + j) ≡ suc k + j = omega arith in subst (λ (n : ℕ). IsMore (Leaf n)) e tt
leaf_more k (Seq (Leaf j) t) = tt
leaf_more k (Seq (Seq a b) t) = tt
leaf_more k (Seq (Par a b) t) = tt
leaf_more k (Seq (Marked m a) t) = tt
leaf_more k (Par a b) = tt
leaf_more k (Marked m a) = tt

part_more : (part later : Tree) → IsMore later → IsMore (part_before part later)
part_more part (Leaf zero) m = absurd m
part_more part (Leaf (suc k)) m = tt
part_more part (Seq a b) m = tt
part_more part (Par a b) m = tt
part_more part (Marked mark a) m = absurd m

more_before : (t later : Tree) → IsMore later → IsMore (before t later)
more_before (Leaf zero) later m = m
more_before (Leaf (suc k)) later m = leaf_more k later
more_before (Seq a b) later m = more_before a (before b later) (more_before b later m)
more_before (Par a b) later m = part_more (Par (normal a) (normal b)) later m
more_before (Marked mark a) later m = part_more (Marked mark (normal a)) later m

enough_of : (rest : Bool) (later : Tree) → IsMore later → Enough rest later
enough_of true later m = m
enough_of false later m = tt

enough_before : (rest : Bool) (t later : Tree) → Enough rest later → Enough rest (before t later)
enough_before true t later m = more_before t later m
enough_before false t later m = tt

-- a part that is not a strand
part_alone : (rest : Bool) (part later : Tree) → codes_of (stands rest) part ≡ codes_of InSeries part
    → Same (codes_of (stands rest) (part_before part later)) (codes_of InSeries part ++ codes_of (stands rest) later)
part_alone rest part (Leaf zero) e = λ l. ap (λ (c : List Code). onto c l) e ∙ sym (nothing_behind (codes_of InSeries part) l)
part_alone rest part (Leaf (suc k)) e = in_series rest part (Leaf (suc k))
part_alone rest part (Seq a b) e = in_series rest part (Seq a b)
part_alone rest part (Par a b) e = in_series rest part (Par a b)
part_alone rest part (Marked m a) e = in_series rest part (Marked m a)

part_followed : (rest : Bool) (part later : Tree) → IsMore later → Same (codes_of (stands rest) (part_before part later)) (codes_of InSeries part ++ codes_of (stands rest) later)
part_followed rest part (Leaf zero) m = absurd m
part_followed rest part (Leaf (suc k)) m = in_series rest part (Leaf (suc k))
part_followed rest part (Seq a b) m = in_series rest part (Seq a b)
part_followed rest part (Par a b) m = in_series rest part (Par a b)
part_followed rest part (Marked mark a) m = absurd m

series_holds : (rest : Bool) (t u later : Tree) → Holds rest t (before u later) → Holds rest u later → Holds rest (Seq t u) later
series_holds rest t u later h k =
    let a = codes_of InSeries t in
    let b = codes_of InSeries u in
    let c = codes_of (stands rest) later in
    λ l. h l ∙ same_after a (codes_of (stands rest) (before u later)) (b ++ c) k l ∙ ap (λ (x : List Code). onto x l) (sym (append_assoc a b c))

-- forks with equal codes
rest_same : (a b c d : List Code) → Same a b → Same c d → Same (a ++ Ended ∷ c) (b ++ Ended ∷ d)
rest_same a b c d h k = same_both a b (Ended ∷ c) (Ended ∷ d) h (λ l. ap (λ (x : List Code). Ended ∷ x) (k l))

fork_in_rest : (a b c d : List Code) → Same a b → Same c d → Same (fork_codes AsRest a c) (fork_codes AsRest b d)
fork_in_rest a b c d h k = λ l. ap (λ (x : List Code). Spawned false ∷ x) (rest_same a b c d h k l)

fork_in_series : (a b c d : List Code) → Same a b → Same c d → Same (fork_codes InSeries a c) (fork_codes InSeries b d)
fork_in_series a b c d h k = λ l. ap (λ (x : List Code). Spawned true ∷ x) (rest_same a b (c ++ Joined ∷ []) (d ++ Joined ∷ []) h (same_before c d (Joined ∷ []) k) l)

fork_holds : (rest : Bool) (child rest_of later : Tree) → Enough rest later → IsChild child → Same (codes_of AsRest (normal rest_of)) (codes_of AsRest rest_of) → Holds rest (Par child rest_of) later
fork_holds rest child rest_of later e h k =
    let forked = fork_in_series (codes_of AsChild (normal child)) (codes_of AsChild child) (codes_of AsRest (normal rest_of)) (codes_of AsRest rest_of) h k in
    λ l. at rest e l ∙ same_before (codes_of InSeries (Par (normal child) (normal rest_of))) (codes_of InSeries (Par child rest_of)) (codes_of (stands rest) later) forked l
  where
    at : (b : Bool) → Enough b later → Same (codes_of (stands b) (part_before (Par (normal child) (normal rest_of)) later))
        (codes_of InSeries (Par (normal child) (normal rest_of)) ++ codes_of (stands b) later)
    at true m = part_followed true (Par (normal child) (normal rest_of)) later m
    at false m = part_alone false (Par (normal child) (normal rest_of)) later refl

stands_holds : (t : Tree) (es : List Event) → MayPrecede t es → (rest : Bool) (later : Tree) → Holds rest t (before (parts_of es).0 later)
stands_holds t [] h = λ rest later. h rest later
stands_holds t (Work zero ∷ es) h = λ rest later. h rest (before (parts_of (Work zero ∷ es)).0 later)
stands_holds t (Work (suc k) ∷ es) h = λ rest later.
    let u = (parts_of es).0 in h rest (leaf_before (suc k) (before u later)) (enough_of rest (leaf_before (suc k) (before u later)) (leaf_more k (before u later)))
stands_holds t (Series v ∷ es) h = λ rest later. h rest (before (parts_of (Series v ∷ es)).0 later)
stands_holds t (e.Fork v ∷ es) h = λ rest later. h rest (before (parts_of (e.Fork v ∷ es)).0 later)
stands_holds t (Join ∷ es) h = λ rest later. h rest later

-- the continuation of a block
rest_normal : (es : List Event) → AreInNormalForm es → Same (codes_of AsRest (normal (parts_of es).0)) (codes_of AsRest (parts_of es).0)
rest_normal [] g = λ l. refl
rest_normal (Work k ∷ es) g = λ l. leaf_holds true k (normal (parts_of es).0) l ∙ ap (instructions_before k) (rest_normal es g l)
rest_normal (Series t ∷ es) g = λ l. stands_holds t es g.0 true (Leaf 0) l
    ∙ same_after (codes_of InSeries t) (codes_of AsRest (normal (parts_of es).0)) (codes_of AsRest (parts_of es).0) (rest_normal es g.1) l
rest_normal (e.Fork t ∷ es) g = fork_in_rest (codes_of AsChild (normal t)) (codes_of AsChild t) (codes_of AsRest (normal (parts_of es).0)) (codes_of AsRest (parts_of es).0) g.0 (rest_normal es g.1)
rest_normal (Join ∷ es) g = λ l. refl

-- the events up to the next join, and the events after it
first_followed : (es : List Event) → AreInNormalForm es → IsFollowed (parts_of es).0
first_followed [] g = λ rest later m. leaf_holds rest 0 later
first_followed (Work k ∷ es) g = λ rest later m. let u = (parts_of es).0 in series_holds rest (Leaf k) u later (leaf_holds rest k (before u later)) (first_followed es g rest later m)
first_followed (Series t ∷ es) g = λ rest later m. series_holds rest t (parts_of es).0 later (stands_holds t es g.0 rest later) (first_followed es g.1 rest later m)
first_followed (e.Fork t ∷ es) g = λ rest later m. fork_holds rest t (parts_of es).0 later m g.0 (rest_normal es g.1)
first_followed (Join ∷ es) g = λ rest later m. leaf_holds rest 0 later

both_followed : (t u : Tree) → IsFollowed t → IsFollowed u → IsFollowed (Seq t u)
both_followed t u h k = λ rest later m. series_holds rest t u later (h rest (before u later) (enough_before rest u later m)) (k rest later m)

later_followed : (es : List Event) → AreInNormalForm es → IsFollowed (parts_of es).1
later_followed [] g = λ rest later m. leaf_holds rest 0 later
later_followed (Work k ∷ es) g = later_followed es g
later_followed (Series t ∷ es) g = later_followed es g.1
later_followed (e.Fork t ∷ es) g = later_followed es g.1
later_followed (Join ∷ es) g = both_followed (parts_of es).0 (parts_of es).1 (first_followed es g) (later_followed es g)

pub tree_followed : (es : List Event) → AreInNormalForm es → IsFollowed (tree_of es)
tree_followed es g = both_followed (parts_of es).0 (parts_of es).1 (first_followed es g) (later_followed es g)

-- the codes of a block are the codes of its normal form
pub same_normal : (t : Tree) → IsFollowed t → Same (codes_of InSeries (normal t)) (codes_of InSeries t)
same_normal t h = λ l. h false (Leaf 0) tt l ∙ nothing_behind (codes_of InSeries t) l

is_fused_call : (rest : Bool) (mark : Mark) (codes : List Code) → call_codes (stands rest) mark codes ≡ call_codes InSeries mark codes
is_fused_call true (Invocation site) codes = refl
is_fused_call true (Execution tag) codes = refl
is_fused_call false mark codes = refl

call_same : (mark : Mark) (a b : List Code) → Same a b → Same (call_codes InSeries mark a) (call_codes InSeries mark b)
call_same (Invocation site) a b h = λ l. ap (λ (x : List Code). Called ∷ x) (same_before a b (Called ∷ []) h l)
call_same (Execution tag) a b h = h

pub marked_apart : (mark : Mark) (t : Tree) → IsFollowed t → IsApart (Marked mark t)
marked_apart mark t h = λ rest later l.
    part_alone rest (Marked mark (normal t)) later (is_fused_call rest mark (codes_of InSeries (normal t))) l
    ∙ same_before (codes_of InSeries (Marked mark (normal t))) (codes_of InSeries (Marked mark t)) (codes_of (stands rest) later)
    (call_same mark (codes_of InSeries (normal t)) (codes_of InSeries t) (same_normal t h)) l

pub marked_child : (mark : Mark) (t : Tree) → IsFollowed t → IsChild (Marked mark t)
marked_child mark t h = same_normal t h

-- a block that has joined, then executed an instruction
record IsEnded (t : Tree) : Type 0 where
  apart : IsApart t
  more : (later : Tree) → IsMore (before t later)

both_ended : (t u : Tree) → IsFollowed t → IsEnded u → IsEnded (Seq t u)
both_ended t u h k = record {
  apart = λ rest later. series_holds rest t u later (h rest (before u later) (enough_of rest (before u later) (k.more later))) (k.apart rest later);
  more = λ later. more_before t (before u later) (k.more later);
}

one_ended : IsEnded (Seq (Seq (Leaf 1) (Leaf 0)) (Leaf 0))
one_ended = record {
  apart = λ rest later. leaf_holds rest 1 later;
  more = λ later. leaf_more 0 later;
}

pub append_apart : (es fs : List Event) → AreInNormalForm es → AreInNormalForm fs → AreInNormalForm (es ++ fs)
append_apart [] fs g h = h
append_apart (Work k ∷ es) fs g h = append_apart es fs g h
append_apart (Series t ∷ es) fs g h = (more t es fs g.0, append_apart es fs g.1 h)
  where
    any : (t : Tree) (fs : List Event) → IsApart t → MayPrecede t fs
    any t [] h = h
    any t (Work zero ∷ es) h = h
    any t (Work (suc k) ∷ es) h = λ rest later m. h rest later
    any t (Series u ∷ es) h = h
    any t (e.Fork u ∷ es) h = h
    any t (Join ∷ es) h = h

    more : (t : Tree) (es fs : List Event) → MayPrecede t es → MayPrecede t (es ++ fs)
    more t [] fs h = any t fs h
    more t (Work zero ∷ es) fs h = h
    more t (Work (suc k) ∷ es) fs h = h
    more t (Series u ∷ es) fs h = h
    more t (e.Fork u ∷ es) fs h = h
    more t (Join ∷ es) fs h = h
append_apart (e.Fork t ∷ es) fs g h = (g.0, append_apart es fs g.1 h)
append_apart (Join ∷ es) fs g h = append_apart es fs g h

pub ticked_apart : (es : List Event) → AreInNormalForm es → AreInNormalForm (ticked es)
ticked_apart es g = append_apart es (Work 1 ∷ []) g tt

pub synced_apart : (es : List Event) → AreInNormalForm es → AreInNormalForm (synced es)
synced_apart es g = append_apart es (Join ∷ Work 1 ∷ []) g tt

later_ended : (es : List Event) → AreInNormalForm es → IsEnded (parts_of (synced es)).1
later_ended [] g = one_ended
later_ended (Work k ∷ es) g = later_ended es g
later_ended (Series t ∷ es) g = later_ended es g.1
later_ended (e.Fork t ∷ es) g = later_ended es g.1
later_ended (Join ∷ es) g = both_ended (parts_of (synced es)).0 (parts_of (synced es)).1 (first_followed (synced es) (synced_apart es g)) (later_ended es g)

tree_ended : (es : List Event) → AreInNormalForm es → IsEnded (tree_of (synced es))
tree_ended es g = both_ended (parts_of (synced es)).0 (parts_of (synced es)).1 (first_followed (synced es) (synced_apart es g)) (later_ended es g)

as_child : (t : Tree) → IsMore t → codes_of AsChild t ≡ codes_of InSeries t
as_child (Leaf k) m = refl
as_child (Seq a b) m = refl
as_child (Par a b) m = refl
as_child (Marked mark a) m = absurd m

ended_child : (es : List Event) → AreInNormalForm es → IsChild (tree_of (synced es))
ended_child es g =
    let t = tree_of (synced es) in
    let ended = tree_ended es g in
    λ l. ap (λ (x : List Code). onto x l) (as_child (normal t) (ended.more (Leaf 0))) ∙ same_normal t (λ rest later m. ended.apart rest later) l

-- the end of a call requires nothing after it
pub call_apart : (o : Open) (es : List Event) → AreInNormalForm o.outer → AreInNormalForm es → AreInNormalForm (closed o (synced es))
call_apart o es outer g = append_apart o.outer (part_of o.spawned (marked o.mark (tree_of (synced es))) ∷ []) outer (one o.spawned o.mark)
  where
    followed : IsFollowed (tree_of (synced es))
    followed = tree_followed (synced es) (synced_apart es g)

    one : (spawned : Bool) (mark : Option Mark) → AreInNormalForm (part_of spawned (marked mark (tree_of (synced es))) ∷ [])
    one true None = (ended_child es g, tt)
    one true (Some m) = (marked_child m (tree_of (synced es)) followed, tt)
    one false None = ((tree_ended es g).apart, tt)
    one false (Some m) = (marked_apart m (tree_of (synced es)) followed, tt)

-- the end of a block, followed by an instruction
pub block_apart : (o : Open) (es : List Event) → o.spawned ≡ false → AreInNormalForm o.outer → AreInNormalForm es → AreInNormalForm (ticked (closed o es))
block_apart o es quiet outer g = subst (λ (b : Bool). AreInNormalForm ((o.outer ++ part_of b (marked o.mark (tree_of es)) ∷ []) ++ Work 1 ∷ [])) (sym quiet)
    (subst AreInNormalForm (sym (append_assoc o.outer (Series (marked o.mark (tree_of es)) ∷ []) (Work 1 ∷ [])))
    (append_apart o.outer (Series (marked o.mark (tree_of es)) ∷ Work 1 ∷ []) outer (one o.mark)))
  where
    one : (mark : Option Mark) → AreInNormalForm (Series (marked mark (tree_of es)) ∷ Work 1 ∷ [])
    one None = (tree_followed es g, tt)
    one (Some m) = (λ rest later e. marked_apart m (tree_of es) (tree_followed es g) rest later, tt)
