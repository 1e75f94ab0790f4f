-- The tree of a list of events, up to grouping.
use Rattle.std.proofs.Common.{ℕ, zero, suc, List, [], ◌∷◌, ◌++◌, add-one, add_comm}
use Rattle.cw_model.specs.Trees.{Tree, Leaf, Seq, Par, Event, Series, Fork, Join, works, parts_of, tree_of}
use Rattle.cw_model.specs.TreeLaws.{Regrouped, same, back, further, to_the_right, as_one_strand, nothing_before}
use Rattle.cw_model.specs.TreeLaws.{in_series, in_fork}

-- the two trees of a list of events, each up to grouping
pub record PartsAre (events : List Event) (first second : Tree) : Type 0 where
  pub to_join : Regrouped (parts_of events).0 first
  pub beyond : Regrouped (parts_of events).1 second

pub parts_nil : PartsAre [] (Leaf 0) (Leaf 0)
parts_nil = record { to_join = same (Leaf 0); beyond = same (Leaf 0) }

pub parts_works : (k : ℕ) {events : List Event} {a b : Tree} → PartsAre events a b
    → PartsAre (works k ++ events) (Seq (Leaf k) a) b
parts_works zero {a = a} h = record { to_join = further h.to_join (back (nothing_before a)); beyond = h.beyond }
parts_works (suc k) {a = a} h =
    let more = parts_works k h in
    let one : Regrouped (Seq (Leaf 1) (Leaf k)) (Leaf (suc k)) = rw (← add-one k, add_comm k 1) (as_one_strand 1 k) in
    record {
      to_join =
          further (in_series (same (Leaf 1)) more.to_join)
          (further (back (to_the_right (Leaf 1) (Leaf k) a)) (in_series one (same a)));
      beyond = more.beyond;
    }

pub parts_series : {t t' : Tree} {events : List Event} {a b : Tree} → Regrouped t t' → PartsAre events a b
    → PartsAre (Series t ∷ events) (Seq t' a) b
parts_series r h = record { to_join = in_series r h.to_join; beyond = h.beyond }

pub parts_fork : {t t' : Tree} {events : List Event} {a b : Tree} → Regrouped t t' → PartsAre events a b
    → PartsAre (Fork t ∷ events) (Par t' a) b
parts_fork r h = record { to_join = in_fork r h.to_join; beyond = h.beyond }

pub parts_join : {events : List Event} {a b : Tree} → PartsAre events a b → PartsAre (Join ∷ events) (Leaf 0) (Seq a b)
parts_join h = record { to_join = same (Leaf 0); beyond = in_series h.to_join h.beyond }

pub regrouped_parts : {events : List Event} {a b a' b' : Tree} → Regrouped a a' → Regrouped b b' → PartsAre events a b
    → PartsAre events a' b'
regrouped_parts r s h = record { to_join = further h.to_join r; beyond = further h.beyond s }

pub tree_of_parts : {events : List Event} {a b : Tree} → PartsAre events a b → Regrouped (tree_of events) (Seq a b)
tree_of_parts h = in_series h.to_join h.beyond
