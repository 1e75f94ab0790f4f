-- Lemmas about blocks: the paths of a block add the burdened span of the tree of its events.
use Rattle.std.specs.Prelude.{◌≡◌, ℕ, ◌≤◌, zero, suc, ◌+◌, max, List, [], ◌∷◌}
use Rattle.std.proofs.Common.{sym, ◌∙◌, ap, subst, arith}
use Rattle.cw_model.specs.declared.burden.Edges.{Edges}
use Rattle.cw_model.specs.declared.burden.Edges.TheVariants.{Spawn, Both}
use Rattle.cw_model.specs.declared.burden.Burden.{Burden}
use Rattle.cw_model.specs.Burdens.{on_returns, at_child, at_rest}
use Rattle.cw_model.specs.Trees.{Event, Work, Series, Fork, Join, burdened_span, tree_of}
use Rattle.cw_measure.specs.Counters.{exactly, Counters, Unsynced, Synced, later, onward, fresh, heaviest, of_event}
use Rattle.cw_measure.specs.Counters.{of_events}
use Rattle.cw_measure.specs.BlockWeights.{BlockWeight, Straight, Split, now_of, gone_on, child_ended, top_of, after}
use Rattle.cw_measure.specs.BlockWeights.{after_all, BlocksWeighTheirSpans}
use Rattle.cw_measure.specs.SumLaws.{exactly_is}
use Rattle.cw_measure.specs.CounterLaws.{onward-assoc, onward-fresh_first, onward-fresh_last, heaviest-of_events}

-- the paths represent counters whose continuation starts at this weight
abbrev pub RepresentsFrom : (floor longest continuation : ℕ) → BlockWeight → Type 0
RepresentsFrom f l k L = (now_of L ≡ f + k) × (top_of L ≡ f + max l k)

abbrev pub RepresentsCounters : (before : ℕ) → Counters → BlockWeight → Type 0
RepresentsCounters before (Unsynced l k) L = RepresentsFrom before l k L
RepresentsCounters before (Synced p l k) L = RepresentsFrom (before + p) l k L

stands_gone_on : (f l k w : ℕ) (L : BlockWeight) → RepresentsFrom f l k L → RepresentsFrom f (max l 0) (k + w) (gone_on w L)
stands_gone_on f l k w (Straight n) h = let a = h.0 in let b = h.1 in (omega arith, omega arith)
stands_gone_on f l k w (Split m n) h = let a = h.0 in let b = h.1 in (omega arith, omega arith)

-- a child with this weight (including its charge), and the charge of the continuation
straight_forked : (f l k n child charge : ℕ) → RepresentsFrom f l k (Straight n)
    → RepresentsFrom f (max l (later exactly k child)) (k + charge) (Split (n + child) (n + charge))
straight_forked f l k n zero charge h = let a = h.0 in let b = h.1 in (omega arith, omega arith)
straight_forked f l k n (suc child) charge h = let a = h.0 in let b = h.1 in (omega arith, omega arith)

split_forked : (f l k m n child charge : ℕ) → RepresentsFrom f l k (Split m n)
    → RepresentsFrom f (max l (later exactly k child)) (k + charge) (Split (max m (n + child)) (n + charge))
split_forked f l k m n zero charge h = let a = h.0 in let b = h.1 in (omega arith, omega arith)
split_forked f l k m n (suc child) charge h = let a = h.0 in let b = h.1 in (omega arith, omega arith)

stands_forked : (f l k : ℕ) (burden : Burden) (c : ℕ) (L : BlockWeight) → RepresentsFrom f l k L
    → RepresentsFrom f (max l (later exactly k (at_child burden + c))) (k + at_rest burden) (child_ended burden c L)
stands_forked f l k burden c (Straight n) h = straight_forked f l k n (at_child burden + c) (at_rest burden) h
stands_forked f l k burden c (Split m n) h = split_forked f l k m n (at_child burden + c) (at_rest burden) h

one_more : (burden : Burden) (before : ℕ) (w : Counters) (L : BlockWeight) (e : Event) → RepresentsCounters before w L
    → RepresentsCounters before (onward exactly w (of_event burden e)) (after burden L e)
one_more burden before (Unsynced l k) L (Work n) h = stands_gone_on before l k n L h
one_more burden before (Synced p l k) L (Work n) h = stands_gone_on (before + p) l k n L h
one_more burden before (Unsynced l k) L (Series t) h = stands_gone_on before l k (burdened_span burden t) L h
one_more burden before (Synced p l k) L (Series t) h = stands_gone_on (before + p) l k (burdened_span burden t) L h
one_more burden before (Unsynced l k) L (Fork t) h = stands_forked before l k burden (burdened_span burden t) L h
one_more burden before (Synced p l k) L (Fork t) h = stands_forked (before + p) l k burden (burdened_span burden t) L h
one_more burden before (Unsynced l k) L Join h = let a = h.1 in (omega arith, omega arith)
one_more burden before (Synced p l k) L Join h = let a = h.1 in (omega arith, omega arith)

all_more : (burden : Burden) (before : ℕ) (w : Counters) (L : BlockWeight) (es : List Event) → RepresentsCounters before w L
    → RepresentsCounters before (onward exactly w (of_events burden es)) (after_all burden L es)
all_more burden before w L [] h =
    let P : Counters → Type 0 = λ x. RepresentsCounters before x L in subst P (sym (onward-fresh_last exactly exactly_is w)) h
all_more burden before w L (e ∷ es) h =
    let P : Counters → Type 0 = λ x. RepresentsCounters before x (after_all burden (after burden L e) es) in
    subst P (onward-assoc exactly exactly_is w (of_event burden e) (of_events burden es))
    (all_more burden before (onward exactly w (of_event burden e)) (after burden L e) es
    (one_more burden before w L e h))

stands_top : (before : ℕ) (w : Counters) (L : BlockWeight) → RepresentsCounters before w L
    → top_of L ≡ before + heaviest exactly w
stands_top before (Unsynced l k) L h = let a = h.1 in omega arith
stands_top before (Synced p l k) L h = let a = h.1 in omega arith

-- the law of a block
pub top-after_all : (burden : Burden) (before : ℕ) (es : List Event)
    → top_of (after_all burden (Straight before) es) ≡ before + burdened_span burden (tree_of es)
top-after_all burden before es =
    let begun : RepresentsCounters before fresh (Straight before) = (omega arith, omega arith) in
    stands_top before (onward exactly fresh (of_events burden es)) (after_all burden (Straight before) es)
    (all_more burden before fresh (Straight before) es begun)
    ∙ ap (λ (w : Counters). before + heaviest exactly w) (onward-fresh_first exactly exactly_is (of_events burden es))
    ∙ ap (λ (n : ℕ). before + n) (heaviest-of_events burden es)

-- the charge for a child is at most the charge for a continuation
pub child_charge : (burden : Burden) → at_child burden ≤ burden.charge
child_charge burden = by_edges burden.edges
  where
    by_edges : (edges : Edges) → on_returns edges burden.charge ≤ burden.charge
    by_edges Spawn = omega arith
    by_edges Both = omega arith

pub blocks_weigh_their_spans : BlocksWeighTheirSpans
blocks_weigh_their_spans = top-after_all
